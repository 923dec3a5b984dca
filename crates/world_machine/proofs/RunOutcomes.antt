-- What an access of a run along a word's path decides: what follows its value, a fault of a place that may fault, or a collision.
use Rattle.std.proofs.Common.{◌≡◌, ◌⊎◌, ℕ, ◌<◌, Bool, true, false, List, length, Some, None, sym, ◌∙◌, subst, inl, inr}
use Rattle.std.specs.Prelude.{Contains}
use Rattle.pl_base.specs.declared.number.EncNo.{EncNo}
use Rattle.pl_base.specs.declared.place.Place.{Place}
use Rattle.mem_geom.specs.PathPlaces.{word_places}
use Rattle.mem_ctl.specs.Access.{AccessTells, BothStay, IsTampered, Leaves}
use Rattle.mem_ctl.specs.Data.{CtlData, Outcome, Again, Collision, Fault, Value}
use Rattle.mon_enclave.specs.declared.enclave.Enclave.{Enclave}
use Rattle.mon_enclave.specs.Records.{enclave_at}
use Rattle.mon_tables.specs.Tables.{table_number}
use Rattle.rv_hart.specs.declared.walks.Micro.{Micro}
use Rattle.pl_history.specs.Licence.{Licensed, LiesOnPath, number_pages, pages_concerned}
use Rattle.pl_history.specs.Monitor.{Monitor}
use Rattle.world_attack.specs.Room.{RoomStays}
use Rattle.world_machine.specs.declared.under.Under.TheVariants.{Running}
use Rattle.world_machine.specs.Answering.{decided}
use Rattle.world_machine.specs.BytesAgree.{PageAgrees}
use Rattle.world_machine.specs.Pages.{numbers_of}
use Rattle.world_machine.specs.Running.{RunNow, faults}
use Rattle.world_machine.specs.Standing.{IsAttackedPlace, Kept, state_of}
use Rattle.world_machine.specs.Worlds.{WorldData, hart_line, under_at}
use Rattle.world_machine.proofs.Licences.{by_word, collision_of, lies_on_path, table_concerned, word_is_attacked}
use Rattle.world_machine.proofs.NumberRows.{table_guard}
use Rattle.world_machine.proofs.RowKept.{collision_kept}
use Rattle.world_machine.proofs.RunAccesses.{read_kept}
use Rattle.world_machine.proofs.RunMoves.{run_line}
use Rattle.world_machine.proofs.RunRows.{alone_so, faulted_kept, pages}
use Rattle.world_machine.proofs.TranslationFrames.{live_there}
use Rattle.world_machine.proofs.LiveEnclaves.{live_made}
use Rattle.world_machine.proofs.RecordPages.{held_concerned}

-- a run concerns the pages of its number
pub concerned_by : (setup : Rattle.pl_history.specs.declared.setup.SetupParts.SetupParts) (s : Monitor) (first : Bool) (e : EncNo) (budget : ℕ) (place : Place)
    → LiesOnPath (number_pages setup s e.0) place → LiesOnPath (pages_concerned setup s (run_line first e budget)) place
concerned_by setup s true e budget place k = k
concerned_by setup s false e budget place k = k

-- a page that a run reads: one of its number's pages, or one of its tables
abbrev pub IsOfRun : WorldData → ℕ → ℕ → Type 0
IsOfRun w e page = Contains (numbers_of (enclave_at w.enclaves e).pages) page ⊎ ((level : ℕ) × (level < 3) × (page ≡ table_number w.setup.tables e level))

module _ (digest_of : List ℕ → List ℕ) (room_stays : RoomStays) (w : WorldData) (k : Kept digest_of w) (none : w.collision ≡ None) (hart : ℕ) (below : hart < w.setup.harts)
    (first : Bool) (e : EncNo) (budget count : ℕ) (micro : Micro) (here : hart_line w hart ≡ Some (run_line first e budget)) (under : under_at w.under hart ≡ Running micro count)
    (there : e.0 < length w.enclaves) (page block : ℕ) (few : block < 64) (of_run : IsOfRun w e.0 page)
    (ctl : CtlData) (leaves : Leaves digest_of w.ctl ctl) where
  abbrev s : Monitor
  s = state_of w

  abbrev r : Enclave
  r = enclave_at w.enclaves e.0

  abbrev run : RunNow
  run = record { hart = hart; e = e.0; budget = budget; count = count }

  abbrev left : WorldData
  left = record w { ctl = ctl }

  pub left_kept : BothStay w.ctl ctl → Kept digest_of left
  left_kept stay = read_kept digest_of room_stays w k none hart below first e budget count micro here under there ctl leaves stay

  same_zones : ctl.zones ≡ w.setup.zones
  same_zones = leaves.same_zones ∙ k.sizes.zones

  n_live : (s.number e.0).live ≡ true
  n_live = (alone_so digest_of room_stays w k none hart below first e budget count micro here under there).n_live

  -- the page agrees but where it is attacked, and the run concerns it
  page_agrees : IsOfRun w e.0 page → Kept digest_of left → PageAgrees ctl.off_chip ctl.mirror s.attacks page
  page_agrees (inl own) kept = kept.stands.attacks.made page e.0 own (live_made (s.number e.0) n_live)
  page_agrees (inr (level, low, is)) kept =
      subst (PageAgrees ctl.off_chip ctl.mirror s.attacks) (sym is) (kept.stands.attacks.guarded (table_number w.setup.tables e.0 level) (table_guard digest_of w k e.0 level (live_there digest_of w k e.0 n_live)))

  page_concerned : IsOfRun w e.0 page → Contains (number_pages w.setup s e.0) page
  page_concerned (inl own) = held_concerned w.setup s e.0 r (pages digest_of room_stays w k none hart below first e budget count micro here under there) page own
  page_concerned (inr (level, low, is)) = subst (Contains (number_pages w.setup s e.0)) (sym is) (table_concerned w.setup s e.0 level low)

  -- a place of the path that isn't as it was written was attacked
  attacked : (place : Place) → Kept digest_of left → IsTampered ctl (word_places page block) place → IsAttackedPlace w.setup.zones s.attacks place
  attacked place kept is =
      word_is_attacked w.setup.zones ctl s.attacks kept.stands.attacks.nodes page block place same_zones few
      (page_agrees of_run kept) is

  licensed : (place : Place) → Kept digest_of left → IsTampered ctl (word_places page block) place → Licensed w.setup s (run_line first e budget) place
  licensed place kept is =
      let at : IsAttackedPlace w.setup.zones s.attacks place = attacked place kept is in
      record {
        exists = at.exists;
        attacked = at.attacked;
        concerned = concerned_by w.setup s first e budget place
            (lies_on_path (number_pages w.setup s e.0) page place (page_concerned of_run) (by_word page block place few is.checked));
      }

  pub outcome_kept : {A : Type 0} → (Done : A → Type 0) (then : A → WorldData) → ((a : A) → Done a → Kept digest_of (then a)) → (o : Outcome A)
      → AccessTells digest_of (word_places page block) Done w.ctl o ctl → Kept digest_of (decided left then (faults run r left) o)
  outcome_kept Done then after (Value a) is = after a is
  outcome_kept Done then after (Fault place) is =
      faulted_kept digest_of room_stays left (left_kept is.0) none hart below first e budget count micro here under there place (licensed place (left_kept is.0) is.1)
  outcome_kept Done then after (Collision place held other) is =
      collision_kept digest_of left (record { place = place; held = held; written = other }) (left_kept is.0)
      (collision_of digest_of w.setup.zones s.attacks ctl (word_places page block) place held other is.1 (attacked place (left_kept is.0) is.1.tampered))
  outcome_kept Done then after (Again taken root) is = absurd is
