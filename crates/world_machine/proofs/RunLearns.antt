-- A run's walk learns from a word of the number's tables: the world keeps what it kept.
use Rattle.std.proofs.Common.{◌≡◌, ℕ, ◌<◌, Bool, true, List, length, Some, None, sym, ap, ◌∙◌, subst}
use Rattle.std.specs.Prelude.{Result, Ok, Err}
use Rattle.std.specs.List.{All}
use Rattle.pl_base.specs.declared.access.Kind.{Kind}
use Rattle.pl_base.specs.declared.address.Pa.{Pa}
use Rattle.pl_base.specs.declared.address.Va.{Va}
use Rattle.pl_base.specs.declared.number.EncNo.{EncNo}
use Rattle.rv_hart.specs.declared.seeking.Sought.TheVariants.{Table}
use Rattle.rv_hart.specs.declared.walks.Micro.{Micro}
use Rattle.rv_hart.specs.declared.walks.Micro.TheVariants.{Faulting}
use Rattle.rv_hart.specs.declared.walks.PageFault.{PageFault as NoPage}
use Rattle.rv_hart.specs.declared.walks.View.{View}
use Rattle.rv_hart.specs.declared.walks.Walk.{Walk}
use Rattle.rv_hart.specs.Learning.{learned, tlb_after}
use Rattle.rv_hart.specs.Seeking.{sought}
use Rattle.rv_tlb.specs.declared.tlb.TlbEntry.{TlbEntry}
use Rattle.mon_enclave.specs.declared.enclave.Enclave.{Enclave}
use Rattle.mon_enclave.specs.Records.{enclave_at}
use Rattle.mon_host.specs.Laws.{mirror_words}
use Rattle.mon_image.specs.declared.page.ImagePage.{ImagePage}
use Rattle.pl_history.specs.Monitor.{Monitor}
use Rattle.world_attack.specs.Room.{RoomStays}
use Rattle.world_machine.specs.declared.under.Under.TheVariants.{Running}
use Rattle.world_machine.specs.Accesses.{HasAcknowledged}
use Rattle.world_machine.specs.LinesUnderWay.{InstructionStands, IsAccessed, number_under_way}
use Rattle.world_machine.specs.Making.{image_of}
use Rattle.world_machine.specs.Running.{RunNow, run_learns}
use Rattle.world_machine.specs.Standing.{Kept, state_of, written_page}
use Rattle.world_machine.specs.Translating.{number_view}
use Rattle.world_machine.specs.TranslationsAgree.{IsFresh, WalkStands, WalkingStands, walking_of}
use Rattle.world_machine.specs.Worlds.{WorldData, hart_line, tlb_at, under_at, with_tlb}
use Rattle.world_machine.proofs.Leaving.{runs_acknowledged}
use Rattle.world_machine.proofs.NumberTranslations.{given, given_fresh, given_none, learned_stands, tlb_learns, walks}
use Rattle.world_machine.proofs.RunMoves.{run_line, runs_number}
use Rattle.world_machine.proofs.RunRows.{running}
use Rattle.world_machine.proofs.RunWalks.{walk_kept, walk_now}
use Rattle.world_machine.proofs.WalkLemmas.{LearnsSo}

-- What an instruction's walk to an address is: how far the instruction is with a walk, and that it makes this access.
pub record IsInstructionWalk (tables : ℕ) (image : List ImagePage) (e : ℕ) (r : Enclave) (on : Walk → Micro) (va : ℕ) (access : Kind) : Type 0 where
  pub walking : (walk : Walk) → walking_of tables e r (on walk) ≡ Some (record { view = number_view tables e; va = record { 0 = va }; walk = walk })
  pub carries : (bytes_of : ℕ → List ℕ) (walk more : Walk) → InstructionStands image bytes_of r (on walk) → InstructionStands image bytes_of r (on more)
  pub accesses : (bytes_of : ℕ → List ℕ) (walk : Walk) → InstructionStands image bytes_of r (on walk) → IsAccessed image bytes_of r va access

module _ (digest_of : List ℕ → List ℕ) (room_stays : RoomStays) (w : WorldData) (k : Kept digest_of w) (none : w.collision ≡ None) (hart : ℕ) (below : hart < w.setup.harts)
    (first : Bool) (e : EncNo) (budget count : ℕ) (on : Walk → Micro) (walk : Walk) (here : hart_line w hart ≡ Some (run_line first e budget)) (under : under_at w.under hart ≡ Running (on walk) count)
    (there : e.0 < length w.enclaves) (live : ((state_of w).number e.0).live ≡ true) (va : ℕ) (access : Kind)
    (to : IsInstructionWalk w.setup.tables (image_of w.setup (enclave_at w.enclaves e.0).image).pages e.0 (enclave_at w.enclaves e.0) on va access) where
  abbrev s : Monitor
  s = state_of w

  abbrev r : Enclave
  r = enclave_at w.enclaves e.0

  abbrev run : RunNow
  run = record { hart = hart; e = e.0; budget = budget; count = count }

  abbrev address : Va
  address = record { 0 = va }

  abbrev view : View
  view = number_view w.setup.tables e.0

  abbrev Fresh : TlbEntry → Type 0
  Fresh = IsFresh w.setup (enclave_at w.enclaves) s w.fences hart

  abbrev entries : List TlbEntry
  entries = tlb_at w.tlbs hart

  -- the hart that runs the number has acknowledged the pages that it broke
  pub acknowledged : HasAcknowledged w hart e.0
  acknowledged = runs_acknowledged digest_of w k hart e.0
      (ap (λ l. number_under_way l (under_at w.under hart)) here ∙ ap (number_under_way (Some (run_line first e budget))) under ∙ runs_number first e budget count (on walk))

  pub walk_stands : WalkStands w.ctl Fresh view address walk
  walk_stands =
      subst (WalkingStands w.ctl Fresh) (to.walking walk)
      (walk_now digest_of room_stays w k none hart below first e budget count (on walk) here under there)

  instruction : InstructionStands (image_of w.setup r.image).pages (written_page w) r (on walk)
  instruction = (running digest_of room_stays w k none hart below first e budget count (on walk) here under there).instruction

  module _ (pa : Pa) (level : ℕ) (asks : sought walk address access entries view ≡ Table pa level) where
    abbrev word : ℕ
    word = mirror_words w.ctl pa.0

    abbrev after : List TlbEntry
    after = tlb_after walk word address access view entries

    all_after : All Fresh after
    all_after = tlb_learns digest_of w k e.0 live hart acknowledged address access walk walk_stands pa level asks

    abbrev Learns : Result Walk NoPage → Type 0
    Learns = LearnsSo w.ctl Fresh view address access walk entries pa level walk_stands asks (given digest_of w k e.0 live hart acknowledged address access)
        (walks digest_of w k e.0 live hart acknowledged address access walk walk_stands pa level asks) (given_fresh digest_of w k e.0 live hart acknowledged address access)

    learned_by : (o : Result Walk NoPage) → Learns o → Kept digest_of (run_learns run on va access (with_tlb w hart after) o)
    learned_by (Ok more) stands =
        walk_kept digest_of room_stays w k none hart below first e budget count (on walk) here under there (on more) after (to.carries (written_page w) walk more instruction) all_after
        (subst (WalkingStands w.ctl Fresh) (sym (to.walking more)) stands)
    learned_by (Err fault) stands =
        walk_kept digest_of room_stays w k none hart below first e budget count (on walk) here under there (Faulting va access) after
        (to.accesses (written_page w) walk instruction, given_none digest_of w k e.0 live hart acknowledged address access stands) all_after tt

    -- the world after the word is learned
    pub learned_kept : Kept digest_of (run_learns run on va access (with_tlb w hart after) (learned walk word address access view))
    learned_kept = learned_by (learned walk word address access view) (learned_stands digest_of w k e.0 live hart acknowledged address access walk walk_stands pa level asks)
