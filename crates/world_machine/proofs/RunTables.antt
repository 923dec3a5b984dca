-- An access of a run by way of its translation: a table's word is learned, or the access is made in its page, or there is none.
use Rattle.std.proofs.Common.{◌≡◌, ℕ, ◌+◌, ◌*◌, ◌<◌, ◌≤◌, Bool, true, List, length, Option, Some, None, option_map, refl, sym, ap, ◌∙◌, subst, arith, inr}
use Rattle.byteorder.specs.Endian.{little_number}
use Rattle.pl_base.specs.Bytes.{bytes_at}
use Rattle.pl_base.specs.declared.access.Kind.{Kind}
use Rattle.pl_base.specs.declared.address.Pa.{Pa}
use Rattle.pl_base.specs.declared.address.Va.{Va}
use Rattle.pl_base.specs.declared.number.EncNo.{EncNo}
use Rattle.rv_hart.specs.declared.seeking.Sought.{Sought}
use Rattle.rv_hart.specs.declared.seeking.Sought.TheVariants.{Table, At, PageFault}
use Rattle.rv_hart.specs.declared.walks.Micro.{Micro}
use Rattle.rv_hart.specs.declared.walks.View.{View}
use Rattle.rv_hart.specs.declared.walks.Walk.{Walk}
use Rattle.rv_hart.specs.Learning.{learned, tlb_after}
use Rattle.rv_hart.specs.Seeking.{sought}
use Rattle.rv_tlb.specs.declared.tlb.TlbEntry.{TlbEntry}
use Rattle.mem_ctl.specs.Access.{BothStay}
use Rattle.mem_ctl.specs.Calls.{read_word_of}
use Rattle.mem_ctl.specs.Data.{going}
use Rattle.mem_ctl.specs.Laws.{ReadsTell}
use Rattle.mem_ctl.specs.Writes.{word_at}
use Rattle.mon_enclave.specs.declared.enclave.Enclave.{Enclave}
use Rattle.mon_enclave.specs.Records.{enclave_at}
use Rattle.mon_host.specs.Laws.{mirror_words}
use Rattle.mon_host.proofs.SpaceLemmas.{word_of_page}
use Rattle.mon_tables.specs.Tables.{table_number}
use Rattle.world_attack.specs.Room.{RoomStays}
use Rattle.world_machine.specs.declared.under.Under.TheVariants.{Running}
use Rattle.world_machine.specs.Accesses.{HasAcknowledged}
use Rattle.world_machine.specs.Making.{image_of}
use Rattle.world_machine.specs.Pages.{reached}
use Rattle.world_machine.specs.Running.{RunNow, faults, run_learns, run_request, run_translates}
use Rattle.world_machine.specs.Standing.{Kept, state_of}
use Rattle.world_machine.specs.Translating.{number_view, offset_at, page_at, reads_table, translated}
use Rattle.world_machine.specs.TranslationsAgree.{IsFresh, WalkStands}
use Rattle.world_machine.specs.Worlds.{Event, WorldData, hart_line, tlb_at, under_at, with_tlb}
use Rattle.world_machine.proofs.NumberTranslations.{asks_table, reached_at, reached_none}
use Rattle.world_machine.proofs.RunMoves.{run_line}
use Rattle.world_machine.proofs.RunOutcomes.{IsOfRun}
use Rattle.world_machine.proofs.RunReads.{read_event}
use Rattle.world_machine.proofs.RunRows.{alone_so}
use Rattle.world_machine.proofs.TablePages.{IsWordOf}
use Rattle.world_machine.proofs.TranslationFrames.{live_there, number_table_inside}
use Rattle.world_machine.proofs.RunLearns.{IsInstructionWalk, acknowledged, learned_kept, walk_stands}

module _ (digest_of : List ℕ → List ℕ) (room_stays : RoomStays) (reads : ReadsTell digest_of) (w : WorldData) (k : Kept digest_of w) (none : w.collision ≡ None) (hart : ℕ)
    (below : hart < w.setup.harts) (first : Bool) (e : EncNo) (budget count : ℕ) (on : Walk → Micro) (walk : Walk) (here : hart_line w hart ≡ Some (run_line first e budget))
    (under : under_at w.under hart ≡ Running (on walk) count) (there : e.0 < length w.enclaves) (positions : List ℕ) (va : ℕ) (access : Kind)
    (to : IsInstructionWalk w.setup.tables (image_of w.setup (enclave_at w.enclaves e.0).image).pages e.0 (enclave_at w.enclaves e.0) on va access) where
  abbrev r : Enclave
  r = enclave_at w.enclaves e.0

  abbrev run : RunNow
  run = record { hart = hart; e = e.0; budget = budget; count = count }

  abbrev address : Va
  address = record { 0 = va }

  abbrev view : View
  view = number_view w.setup.tables e.0

  abbrev entries : List TlbEntry
  entries = tlb_at w.tlbs hart

  live : ((state_of w).number e.0).live ≡ true
  live = (alone_so digest_of room_stays w k none hart below first e budget count (on walk) here under there).n_live

  acknowledged_here : HasAcknowledged w hart e.0
  acknowledged_here = acknowledged digest_of room_stays w k none hart below first e budget count on walk here under there live va access to

  stands : WalkStands w.ctl (IsFresh w.setup (enclave_at w.enclaves) (state_of w) w.fences hart) view address walk
  stands = walk_stands digest_of room_stays w k none hart below first e budget count on walk here under there live va access to

  module _ (pa : Pa) (level : ℕ) (asks : sought walk address access entries view ≡ Table pa level) where
    abbrev page : ℕ
    page = page_at pa

    abbrev offset : ℕ
    offset = offset_at pa

    at_table : (level < 3) × IsWordOf (table_number w.setup.tables e.0 level) pa
    at_table = asks_table digest_of w k e.0 live hart acknowledged_here address access walk stands pa level asks

    of_run : IsOfRun w e.0 page
    of_run = inr (level, at_table.0, at_table.1.page_is)

    abbrev left : WorldData
    left = record w { ctl = (read_word_of digest_of page offset (going w.ctl positions)).after.ctl }

    -- the world after a word of a table, by the word that was read
    abbrev learns : ℕ → WorldData
    learns eight = run_learns run on va access (with_tlb left hart (tlb_after walk eight address access view entries)) (learned walk eight address access view)

    same_word : BothStay w.ctl left.ctl → mirror_words w.ctl pa.0 ≡ mirror_words left.ctl pa.0
    same_word stay =
        let few : offset + 8 ≤ 4096 = (let inside = at_table.1.inside in let aligned = at_table.1.aligned in omega (arith, inside, aligned)) in
        let within : page < 64 * w.ctl.zones =
        subst (λ p. p < 64 * w.ctl.zones) (sym at_table.1.page_is) (number_table_inside digest_of w k e.0 level (live_there digest_of w k e.0 live)) in
        word_of_page w.ctl.mirror page offset few
        ∙ ap (λ (bytes : List ℕ). little_number 8 (bytes_at bytes offset 8)) (sym (stay.mirror_pages page within))
        ∙ sym (word_of_page left.ctl.mirror page offset few)

    learns_kept : (eight : ℕ) → eight ≡ word_at w.ctl.mirror page offset → BothStay w.ctl left.ctl → Kept digest_of left → Kept digest_of (learns eight)
    learns_kept eight is stay kept =
        subst (λ n. Kept digest_of (learns n)) (sym (is ∙ same_word stay))
        (learned_kept digest_of room_stays left kept none hart below first e budget count on walk here under there live va access to pa level asks)

    pub table_kept : Kept digest_of (reads_table digest_of w (run_request w run va access) positions walk (run_learns run on va access) (faults run r) pa).world
    table_kept =
        read_event digest_of room_stays reads w k none hart below first e budget count (on walk) here under there positions page offset at_table.1.inside at_table.1.aligned of_run
        learns learns_kept

  module _ (reaches : Option ℕ → Event) (reaches_so : (o : Option ℕ) → reached access (image_of w.setup r.image).pages r.pages va ≡ o → Kept digest_of (reaches o).world) where
    by_sought : (x : Sought) → sought walk address access entries view ≡ x
        → Kept digest_of (translated x (reads_table digest_of w (run_request w run va access) positions walk (run_learns run on va access) (faults run r)) (λ pa. reaches (option_map page_at pa))).world
    by_sought (Table pa level) asks = table_kept pa level asks
    by_sought (At pa) asks = reaches_so (Some (page_at pa)) (reached_at digest_of w k e.0 live hart acknowledged_here address access walk stands pa asks)
    by_sought PageFault asks = reaches_so None (reached_none digest_of w k e.0 live hart acknowledged_here address access walk stands asks)

    pub translates_kept : Kept digest_of (run_translates digest_of w run r positions on walk va access reaches).world
    translates_kept = by_sought (sought walk address access entries view) refl
