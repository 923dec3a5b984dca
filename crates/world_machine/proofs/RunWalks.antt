-- A run's walk goes on, and its hart's TLB may have learned: the world keeps what it kept.
use Rattle.std.proofs.Common.{◌≡◌, ℕ, ◌<◌, Bool, List, [], length, Some, None, refl, sym, ap, ◌∙◌, subst}
use Rattle.std.specs.Prelude.{slice_set}
use Rattle.std.specs.List.{All}
use Rattle.pl_base.specs.declared.number.EncNo.{EncNo}
use Rattle.rv_hart.specs.declared.walks.Micro.{Micro}
use Rattle.rv_tlb.specs.declared.tlb.TlbEntry.{TlbEntry}
use Rattle.mem_ctl.specs.Access.{BothStay}
use Rattle.mem_ctl.specs.Data.{CtlData}
use Rattle.mon_enclave.specs.declared.enclave.Enclave.{Enclave}
use Rattle.mon_enclave.specs.Records.{enclave_at}
use Rattle.pl_history.specs.Monitor.{Monitor}
use Rattle.world_attack.specs.Room.{RoomStays}
use Rattle.world_machine.specs.declared.under.Under.TheVariants.{Running}
use Rattle.world_machine.specs.Answering.{goes_on}
use Rattle.world_machine.specs.LinesUnderWay.{InstructionStands}
use Rattle.world_machine.specs.Making.{image_of}
use Rattle.world_machine.specs.Standing.{Kept, state_of, written_page}
use Rattle.world_machine.specs.TranslationsAgree.{IsFresh, WalkingStands, walking, walking_of}
use Rattle.world_machine.specs.Worlds.{WorldData, hart_line, under_at, with_tlb}
use Rattle.world_machine.proofs.Lists.{ChangedAt, changed_set}
use Rattle.world_machine.proofs.RunAccesses.{walks_kept}
use Rattle.world_machine.proofs.RunMoves.{no_access, run_line, run_walking}

-- memory that doesn't change
still_ctl : (ctl : CtlData) → BothStay ctl ctl
still_ctl ctl = record {
  off_chip_zones = refl;
  mirror_zones = refl;
  off_chip_pages = λ page below. refl;
  mirror_pages = λ page below. refl;
}

module _ (digest_of : List ℕ → List ℕ) (room_stays : RoomStays) (w : WorldData) (k : Kept digest_of w) (none : w.collision ≡ None) (hart : ℕ) (below : hart < w.setup.harts)
    (first : Bool) (e : EncNo) (budget count : ℕ) (micro : Micro) (here : hart_line w hart ≡ Some (run_line first e budget)) (under : under_at w.under hart ≡ Running micro count)
    (there : e.0 < length w.enclaves) where
  abbrev s : Monitor
  s = state_of w

  abbrev r : Enclave
  r = enclave_at w.enclaves e.0

  abbrev Fresh : TlbEntry → Type 0
  Fresh = IsFresh w.setup (enclave_at w.enclaves) s w.fences hart

  -- the walk of the run's instruction
  pub walk_now : WalkingStands w.ctl Fresh (walking_of w.setup.tables e.0 r micro)
  walk_now =
      subst (WalkingStands w.ctl Fresh)
      (ap (λ l. walking w.setup.tables (enclave_at w.enclaves) l (under_at w.under hart)) here
      ∙ ap (walking w.setup.tables (enclave_at w.enclaves) (Some (run_line first e budget))) under ∙ run_walking w.setup.tables (enclave_at w.enclaves) first e budget count micro)
      (k.stands.translations.fresh.walks hart)

  tlb_there : hart < length w.tlbs
  tlb_there = subst (λ size. hart < size) (sym k.stands.translations.harts) below

  module _ (next : Micro) (entries : List TlbEntry) (stands : InstructionStands (image_of w.setup r.image).pages (written_page w) r next) (all : All Fresh entries)
      (walk : WalkingStands w.ctl Fresh (walking_of w.setup.tables e.0 r next)) where
    tlb_changes : ChangedAt [] w.tlbs (slice_set w.tlbs hart entries) hart entries
    tlb_changes = changed_set [] w.tlbs hart entries tlb_there

    walk_own : WalkingStands w.ctl Fresh (walking w.setup.tables (enclave_at w.enclaves) (hart_line w hart) (Running next count))
    walk_own =
        subst (WalkingStands w.ctl Fresh)
        (sym (ap (λ l. walking w.setup.tables (enclave_at w.enclaves) l (Running next count)) here ∙ run_walking w.setup.tables (enclave_at w.enclaves) first e budget count next)) walk

    -- the instruction is so far now, and the hart's TLB has these translations
    pub walk_kept : Kept digest_of (goes_on (with_tlb w hart entries) hart (Running next count))
    walk_kept =
        walks_kept digest_of room_stays w k none hart below first e budget count micro here under there w.ctl (no_access digest_of w e.0 k).leaves (still_ctl w.ctl) next stands
        (slice_set w.tlbs hart entries)
        (record {
          waits_none = refl;
          harts = tlb_changes.size;
          tlbs = tlb_changes.others;
          entries = subst (All Fresh) (sym tlb_changes.here) all;
          walk = walk_own;
        })
