-- The rows that change no number: a line is refused, or `after` is done.
use Rattle.std.proofs.Common.{◌≡◌, ◌≢◌, ℕ, ◌+◌, ◌<◌, true, List, slice_get, Option, Some, None, refl, sym, ap, ◌∙◌, subst}
use Rattle.std.specs.Prelude.{slice_set}
use Rattle.std.specs.Prelude.{Contains}
use Rattle.mon_enclave.specs.declared.enclave.Enclave.{Enclave}
use Rattle.mon_enclave.specs.Records.{enclave_at}
use Rattle.pl_history.specs.declared.answer.Answer.{Answer}
use Rattle.pl_history.specs.declared.line.Line.{Line}
use Rattle.pl_history.specs.declared.line.Line.TheVariants as line_is
use Rattle.pl_history.specs.History.{part_end}
use Rattle.pl_history.specs.Legal.{AllowedAnswer, after_answer}
use Rattle.pl_history.specs.Monitor.{Monitor, answer, script_of}
use Rattle.world_attack.specs.Room.{RoomStays}
use Rattle.world_machine.specs.declared.under.Under.{Under}
use Rattle.world_machine.specs.declared.under.Under.TheVariants.{Idle}
use Rattle.world_machine.specs.Answering.{answers}
use Rattle.world_machine.specs.BytesAgree.{HasPut, OnlyAttacksDiffer}
use Rattle.world_machine.specs.EnclavesAgree.{is_made}
use Rattle.world_machine.specs.LinesUnderWay.{number_under_way}
use Rattle.world_machine.specs.Pages.{numbers_of}
use Rattle.world_machine.specs.RecordsAgree.{is_begun}
use Rattle.world_machine.specs.Standing.{Kept, state_of}
use Rattle.world_machine.specs.Worlds.{WorldData, answered_at, hart_line, under_at}
use Rattle.world_machine.proofs.LineKinds.{answered_line}
use Rattle.world_machine.proofs.LineTranslations.{isnt_waiting}
use Rattle.world_machine.proofs.RowKept.{attacks_frame, line_after, row_kept, same_sizes}
use Rattle.world_machine.proofs.TranslationFrames.{quiet_translations}

-- a line that hasn't begun has no number under way, and has put no page
pub idle_has_none : (line : Option Line) → number_under_way line Idle ≡ None
idle_has_none None = refl
idle_has_none (Some (line_is.Create e image pages)) = refl
idle_has_none (Some (line_is.Shadow e image pages)) = refl
idle_has_none (Some (line_is.Fork shadow e pages)) = refl
idle_has_none (Some (line_is.Run e budget)) = refl
idle_has_none (Some (line_is.Resume e budget)) = refl
idle_has_none (Some line) = refl

pub idle_put_none : (line : Option Line) (page : ℕ) → HasPut line Idle page → ⊥
idle_put_none None page put = put
idle_put_none (Some (line_is.Create e image pages)) page put = put
idle_put_none (Some (line_is.Shadow e image pages)) page put = put
idle_put_none (Some line) page put = put

pub none_some : {A : Type 0} (a : A) (o : Option A) → o ≡ None → o ≡ Some a → ⊥
none_some a o none some = let h : None ≡ Some a = sym none ∙ some in cc

-- bytes that didn't change, where one actor's line moved to one that has put no page, and the records keep their pages
pub attacks_live : {rec' : ℕ → Enclave} (w : WorldData) (actor : ℕ) (s' : Monitor) (under : List Under) (answered : List ℕ) (digest_of : List ℕ → List ℕ) → Kept digest_of w
    → s'.attacks ≡ (state_of w).attacks → ((e : ℕ) → is_made (s'.number e) ≡ is_made ((state_of w).number e)) → ((e : ℕ) → (rec' e).pages ≡ (enclave_at w.enclaves e).pages)
    → ((hart : ℕ) → hart ≢ actor → line_after w answered hart ≡ hart_line w hart) → ((hart : ℕ) → hart ≢ actor → under_at under hart ≡ under_at w.under hart)
    → ((page : ℕ) → HasPut (line_after w answered actor) (under_at under actor) page → HasPut (hart_line w actor) (under_at w.under actor) page)
    → OnlyAttacksDiffer w.setup.zones w.ctl.off_chip w.ctl.mirror s'.attacks w.owners rec' s'.number (line_after w answered) (under_at under)
attacks_live {rec' = rec'} w actor s' under answered digest_of k attacks made pages lines unders put =
    subst (λ a. OnlyAttacksDiffer w.setup.zones w.ctl.off_chip w.ctl.mirror a w.owners rec' s'.number (line_after w answered) (under_at under)) (sym attacks)
    (attacks_frame w.setup.zones w.ctl.off_chip w.ctl.mirror w.ctl.off_chip w.ctl.mirror (state_of w).attacks (state_of w).attacks w.owners w.owners (enclave_at w.enclaves) rec'
    (state_of w).number s'.number
    (hart_line w) (line_after w answered) (under_at w.under) (under_at under) actor 0 (λ i old. old)
    (record {
      guarded = λ page is. is;
      made = λ f other. made f;
      pages = λ f other. pages f;
      lines = lines;
      unders = unders;
      made_own = λ page is now_made. k.stands.attacks.made page 0 (subst (λ kinds. Contains (numbers_of kinds) page) (pages 0) is) (sym (made 0) ∙ now_made);
      put_own = λ page is. k.stands.attacks.put actor page (put page is);
    })
    k.stands.attacks)

module _ (digest_of : List ℕ → List ℕ) (room_stays : RoomStays) (w : WorldData) (k : Kept digest_of w) (none : w.collision ≡ None) (hart : ℕ) (below : hart < w.setup.harts)
    (line : Line) (now : Answer) (no_part : part_end now ≡ 0) (here : hart_line w hart ≡ Some line)
    (allowed : AllowedAnswer w.setup (state_of w) line (is_begun (under_at w.under hart)) now) (gives : after_answer (state_of w) hart line now ≡ answer (state_of w) hart)
    (waited : isnt_waiting (under_at w.under hart) ≡ true) where
  abbrev s' : Monitor
  s' = answer (state_of w) hart

  -- an answer that changes nothing but how far its hart is
  pub answers_kept : Kept digest_of (answers w hart now)
  answers_kept =
      let moves = answered_line digest_of room_stays w k hart below line now no_part here allowed (state_of w) (λ actor. refl) gives in
      row_kept digest_of w hart w.ctl w.owners w.enclaves w.tlbs w.fences _ _ _ s' Idle (answered_at w.answered hart + 1) k none (record {
        line = moves;
        sizes = same_sizes w.setup w.ctl w.owners w.enclaves;
        trees = k.trees;
        owners_agree = record { owner = k.stands.owners.owner; maps = k.stands.owners.maps };
        records = k.stands.records;
        pages_agree = k.stands.pages;
        enclaves_agree = k.stands.enclaves;
        host = k.stands.host;
        attacks = attacks_live w hart s' _ _ digest_of k refl (λ e. refl) (λ e. refl)
            (λ other differs. ap (slice_get (script_of w.setup other)) (moves.answered_change.others other differs))
            moves.under_change.others
            (λ page put. absurd (idle_put_none _ page (subst (λ u. HasPut (line_after w (slice_set w.answered hart (answered_at w.answered hart + 1)) hart) u page) moves.under_change.here put)));
        other_lines = λ other differs. k.stands.lines other;
        own_line = tt;
        own_apart = λ other e differs own there. none_some e _ (idle_has_none _) own;
        translations = quiet_translations digest_of w k w.ctl refl s' refl refl refl hart _ _
            (λ other differs. ap (slice_get (script_of w.setup other)) (moves.answered_change.others other differs)) moves.under_change.others waited moves.under_change.here;
      })
