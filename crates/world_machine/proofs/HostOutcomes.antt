-- What an access through the trees decides for a line of the host: what follows its value, a fault of a place that may fault, or a collision.
use Rattle.std.proofs.Common.{◌≡◌, ℕ, ◌<◌, false, List, [], Some, None, refl, sym, ◌∙◌, subst}
use Rattle.std.specs.Prelude.{Contains}
use Rattle.pl_base.specs.declared.address.Va.{Va}
use Rattle.pl_base.specs.declared.place.Place.{Place}
use Rattle.pl_base.specs.declared.refusal.No.{No}
use Rattle.pl_base.specs.declared.refusal.No.TheVariants as refused
use Rattle.mem_geom.specs.PathPlaces.{word_places}
use Rattle.mem_ctl.specs.Access.{AccessTells, BothStay, IsTampered, Leaves}
use Rattle.mem_ctl.specs.Data.{CtlData, Outcome, Again, Collision, Fault, Value}
use Rattle.pl_history.specs.declared.answer.Answer.TheVariants as answer_is
use Rattle.pl_history.specs.declared.line.Line.{Line}
use Rattle.pl_history.specs.Legal.{AllowedAnswer, after_answer}
use Rattle.pl_history.specs.Licence.{Licensed, host_tables, pages_concerned}
use Rattle.pl_history.specs.Monitor.{Monitor, answer}
use Rattle.pl_history.specs.Rules.{guarded_of}
use Rattle.world_attack.specs.Room.{RoomStays}
use Rattle.world_machine.specs.Answering.{answers, decided}
use Rattle.world_machine.specs.FencesStand.{removals_by}
use Rattle.world_machine.specs.HostAccessing.{host_faults}
use Rattle.world_machine.specs.RecordsAgree.{is_begun}
use Rattle.world_machine.specs.Standing.{IsAttackedPlace, Kept, state_of}
use Rattle.world_machine.specs.Worlds.{WorldData, hart_line, under_at}
use Rattle.world_machine.proofs.AccessRows.{access_kept}
use Rattle.world_machine.proofs.Licences.{by_word, collision_of, lies_on_path, word_is_attacked}
use Rattle.world_machine.proofs.LineTranslations.{unbegun_waits_none}
use Rattle.world_machine.proofs.QuietRows.{answers_kept}
use Rattle.world_machine.proofs.RowKept.{collision_kept}

-- a line of the host at an address, which has no answer yet: it concerns the host's tables, and a refusal changes nothing
pub record HostLine (w : WorldData) (hart : ℕ) (line : Line) (va : Va) : Type 0 where
  pub here : hart_line w hart ≡ Some line
  pub not_begun : is_begun (under_at w.under hart) ≡ false
  pub no_removal : removals_by (state_of w).removals hart ≡ []
  pub concerned : pages_concerned w.setup (state_of w) line ≡ host_tables w.setup.tables va
  pub changes_none : (cause : No) → after_answer (state_of w) hart line (answer_is.No cause) ≡ answer (state_of w) hart

module _ (digest_of : List ℕ → List ℕ) (room_stays : RoomStays) (w : WorldData) (k : Kept digest_of w) (none : w.collision ≡ None) (hart : ℕ) (below : hart < w.setup.harts)
    (line : Line) (va : Va) (h : HostLine w hart line va) where
  abbrev s : Monitor
  s = state_of w

  pub refused_kept : (cause : No) → AllowedAnswer w.setup s line false (answer_is.No cause) → Kept digest_of (answers w hart (answer_is.No cause))
  refused_kept cause allowed = answers_kept digest_of room_stays w k none hart below line (answer_is.No cause) refl h.here
      (subst (λ b. AllowedAnswer w.setup s line b (answer_is.No cause)) (sym h.not_begun) allowed) (h.changes_none cause)
      (unbegun_waits_none (under_at w.under hart) h.not_begun)

module _ (digest_of : List ℕ → List ℕ) (room_stays : RoomStays) (w : WorldData) (k : Kept digest_of w) (none : w.collision ≡ None) (hart : ℕ) (below : hart < w.setup.harts)
    (line : Line) (va : Va) (h : HostLine w hart line va)
    (may_fault : (place : Place) → Licensed w.setup (state_of w) line place → AllowedAnswer w.setup (state_of w) line false (answer_is.No (refused.Fault place)))
    (ctl : CtlData) (leaves : Leaves digest_of w.ctl ctl) where
  abbrev left : WorldData
  left = record w { ctl = ctl }

  pub left_kept : BothStay w.ctl ctl → Kept digest_of (record w { ctl = ctl })
  left_kept stay = access_kept digest_of w k ctl leaves stay room_stays none hart below

  -- the line is so far after the access too
  pub left_line : HostLine (record w { ctl = ctl }) hart line va
  left_line = record { here = h.here; not_begun = h.not_begun; no_removal = h.no_removal; concerned = h.concerned; changes_none = h.changes_none }

  module _ (page block : ℕ) (few : block < 64) (guarded : page < guarded_of w.setup.tables w.setup.enclaves) (on : Contains (host_tables w.setup.tables va) page) where
    -- a place of the path that isn't as it was written was attacked
    attacked : (place : Place) → Kept digest_of left → IsTampered ctl (word_places page block) place → IsAttackedPlace w.setup.zones (state_of w).attacks place
    attacked place kept is =
        word_is_attacked w.setup.zones ctl (state_of w).attacks kept.stands.attacks.nodes page block place (leaves.same_zones ∙ k.sizes.zones) few
        (kept.stands.attacks.guarded page (k.sizes.guarded page guarded)) is

    licensed : (place : Place) → Kept digest_of left → IsTampered ctl (word_places page block) place → Licensed w.setup (state_of w) line place
    licensed place kept is =
        let at : IsAttackedPlace w.setup.zones (state_of w).attacks place = attacked place kept is in
        record {
          exists = at.exists;
          attacked = at.attacked;
          concerned = lies_on_path (pages_concerned w.setup (state_of w) line) page place (subst (λ pages. Contains pages page) (sym h.concerned) on) (by_word page block place few is.checked);
        }

    pub host_outcome_kept : {A : Type 0} → (Done : A → Type 0) (then : A → WorldData) → ((a : A) → Done a → Kept digest_of (then a)) → (o : Outcome A)
        → AccessTells digest_of (word_places page block) Done w.ctl o ctl → Kept digest_of (decided left then (host_faults hart left) o)
    host_outcome_kept Done then after (Value a) is = after a is
    host_outcome_kept Done then after (Fault place) is =
        refused_kept digest_of room_stays left (left_kept is.0) none hart below line va left_line (refused.Fault place) (may_fault place (licensed place (left_kept is.0) is.1))
    host_outcome_kept Done then after (Collision place held other) is =
        collision_kept digest_of left (record { place = place; held = held; written = other }) (left_kept is.0)
        (collision_of digest_of w.setup.zones (state_of w).attacks ctl (word_places page block) place held other is.1 (attacked place (left_kept is.0) is.1.tampered))
    host_outcome_kept Done then after (Again taken root) is = absurd is
