-- The events of a run that read a word through the trees: a word of a table, the fetch, and the load.
use Rattle.std.proofs.Common.{◌≡◌, ℕ, ◌*◌, ◌/◌, ◌%◌, ◌<◌, Bool, List, length, Some, None, sym, subst, arith, inl, inr}
use Rattle.std.proofs.lemmas.List.Elements.{All-contains}
use Rattle.pl_base.specs.declared.number.EncNo.{EncNo}
use Rattle.mem_geom.specs.PathPlaces.{word_places}
use Rattle.mem_ctl.specs.Access.{Accessed, BothStay}
use Rattle.mem_ctl.specs.Calls.{read_word_of}
use Rattle.mem_ctl.specs.Data.{After, CtlData, going}
use Rattle.mem_ctl.specs.Laws.{ReadsTell, WordIsRead}
use Rattle.mem_ctl.specs.Writes.{word_at}
use Rattle.mon_enclave.specs.declared.enclave.Enclave.{Enclave}
use Rattle.mon_enclave.specs.Records.{enclave_at}
use Rattle.rv_hart.specs.declared.walks.Micro.{Micro}
use Rattle.pl_history.specs.Monitor.{Monitor}
use Rattle.world_attack.specs.Room.{RoomStays}
use Rattle.world_machine.specs.declared.under.Under.TheVariants.{Running}
use Rattle.world_machine.specs.Answering.{decided}
use Rattle.world_machine.specs.Pages.{numbers_of}
use Rattle.world_machine.specs.Running.{RunNow, faults}
use Rattle.world_machine.specs.Standing.{Kept, state_of}
use Rattle.world_machine.specs.Worlds.{WorldData, hart_line, under_at}
use Rattle.world_machine.proofs.NumberRows.{held_inside}
use Rattle.world_machine.proofs.RunAccesses.{read_kept}
use Rattle.world_machine.proofs.RunMoves.{run_line}
use Rattle.world_machine.proofs.RunOutcomes.{IsOfRun, outcome_kept}
use Rattle.world_machine.proofs.RunRows.{standing}
use Rattle.world_machine.proofs.TranslationFrames.{number_table_inside}

module _ (digest_of : List ℕ → List ℕ) (room_stays : RoomStays) (reads : ReadsTell digest_of) (w : WorldData) (k : Kept digest_of w) (none : w.collision ≡ None) (hart : ℕ) (below : hart < w.setup.harts)
    (first : Bool) (e : EncNo) (budget count : ℕ) (micro : Micro) (here : hart_line w hart ≡ Some (run_line first e budget)) (under : under_at w.under hart ≡ Running micro count)
    (there : e.0 < length w.enclaves) (positions : List ℕ) (page offset : ℕ) (inside : offset < 4096) (aligned : offset % 8 ≡ 0)
    (of_run : IsOfRun w e.0 page) where
  abbrev s : Monitor
  s = state_of w

  abbrev r : Enclave
  r = enclave_at w.enclaves e.0

  abbrev run : RunNow
  run = record { hart = hart; e = e.0; budget = budget; count = count }

  abbrev call : After ℕ
  call = read_word_of digest_of page offset (going w.ctl positions)

  abbrev ctl : CtlData
  ctl = call.after.ctl

  abbrev left : WorldData
  left = record w { ctl = ctl }

  page_inside : IsOfRun w e.0 page → page < 64 * w.ctl.zones
  page_inside (inl own) =
      All-contains (λ p. p < 64 * w.ctl.zones) (numbers_of r.pages) page
      (held_inside digest_of w k e.0 r.parent r.pages (standing digest_of room_stays w k none hart below first e budget count micro here under there).held.owned) own
  page_inside (inr (level, low, is)) = subst (λ p. p < 64 * w.ctl.zones) (sym is) (number_table_inside digest_of w k e.0 level (subst (λ size. e.0 < size) k.sizes.numbers there))

  pub told : Accessed digest_of (word_places page (offset / 64)) (WordIsRead page offset w.ctl ctl) w.ctl call.outcome ctl
  told = reads page offset (going w.ctl positions) k.trees (page_inside of_run) inside aligned

  left_kept : BothStay w.ctl ctl → Kept digest_of left
  left_kept stay = read_kept digest_of room_stays w k none hart below first e budget count micro here under there ctl told.leaves stay

  few : offset / 64 < 64
  few = omega arith

  -- a word is read: what follows, a fault of a place that may fault, or a collision
  pub read_event : (then : ℕ → WorldData) → ((eight : ℕ) → eight ≡ word_at w.ctl.mirror page offset → BothStay w.ctl ctl → Kept digest_of left → Kept digest_of (then eight))
      → Kept digest_of (decided left then (faults run r left) call.outcome)
  read_event then after = outcome_kept digest_of room_stays w k none hart below first e budget count micro here under there page (offset / 64) few of_run ctl told.leaves
      (WordIsRead page offset w.ctl ctl) then (λ eight is. after eight is.as_written is.pages (left_kept is.pages)) call.outcome told.tells
