-- Each turn of a run that is under way leaves less to do: the words of walks, what an instruction does, the break of a page and the start anew.
use Rattle.std.proofs.Common.{◌≡◌, ℕ, ◌+◌, ◌-◌, ◌*◌, ◌%◌, ◌<◌, ◌≤◌, ◌==◌, Bool, true, false, List, [], ◌∷◌, slice_get, Option, Some, None, refl, sym, subst, arith}
use Rattle.std.specs.Prelude.{slice_set, option_map}
use Rattle.std.proofs.Math.Nat.{le_refl}
use Rattle.pl_base.specs.declared.access.Kind.{Kind}
use Rattle.pl_base.specs.declared.access.Kind.TheVariants as kind
use Rattle.pl_base.specs.declared.address.Pa.{Pa}
use Rattle.pl_base.specs.declared.number.EncNo.{EncNo}
use Rattle.pl_base.specs.HartSet.{space_of_number}
use Rattle.mem_ctl.specs.Calls.{read_word_of, write_part_of}
use Rattle.mem_ctl.specs.Data.{After, Again, Collision, CtlData, Fault, Outcome, Value, going}
use Rattle.mon_enclave.specs.declared.enclave.Enclave.{Enclave}
use Rattle.mon_enclave.specs.declared.enclave.PageKind.TheVariants.{Shared}
use Rattle.mon_enclave.specs.Records.{enclave_at, has_room, next_spare, received_word, with_enclave, with_own_page}
use Rattle.mon_fence.specs.Fences.{posted}
use Rattle.mon_shadow.specs.Breaking.{if_put, page_broken, page_number_at}
use Rattle.mon_tables.specs.Space.{vpn_of_page}
use Rattle.rv_alone.specs.declared.step.Act.{Act}
use Rattle.rv_alone.specs.declared.step.Act.TheVariants.{Set, Load, Store, Call, Trap}
use Rattle.rv_alone.specs.Effect.{act_of, advanced, loaded}
use Rattle.rv_hart.specs.declared.walks.Micro.{Micro}
use Rattle.rv_hart.specs.declared.walks.Micro.TheVariants.{Fetching, Reaching, Faulting}
use Rattle.rv_hart.specs.declared.walks.Walk.{Walk}
use Rattle.rv_hart.specs.declared.walks.Walk.TheVariants.{Start}
use Rattle.rv_hart.specs.Learning.{learned, tlb_after}
use Rattle.rv_tlb.specs.declared.tlb.TlbEntry.{TlbEntry}
use Rattle.pl_history.specs.declared.setup.SetupParts.{SetupParts}
use Rattle.world_machine.specs.declared.under.Under.TheVariants.{Breaking, Idle, Running}
use Rattle.world_machine.specs.Answering.{decided}
use Rattle.world_machine.specs.LinesUnderWay.{IsRunning, access_of}
use Rattle.world_machine.specs.Making.{image_of}
use Rattle.world_machine.specs.Pages.{part_of_word, to_break, word_offset}
use Rattle.world_machine.specs.Running.{RunNow, acts, breaks_done, breaks_or_leaves, breaks_page, calls, faults, faults_by, fetched_in, loads_in, page_faults, perms_at, reaches, receives, restarts, retired_with, retires, run_event, run_learns, run_request, run_translates, stores_in}
use Rattle.world_machine.specs.Runs.{events_made, fences_left, line_left, remaining, words_read}
use Rattle.world_machine.specs.Standing.{Kept, state_of, written_page}
use Rattle.world_machine.specs.Translating.{Request, number_view, offset_at, page_at, reads_table}
use Rattle.world_machine.specs.TranslationsAgree.{IsFresh, WalkingStands, walking, walking_of}
use Rattle.world_machine.specs.Worlds.{CollisionData, Event, WorldData, answered_at, hart_line, tlb_at, under_at, with_tlb}
use Rattle.world_machine.proofs.BreaksLeft.{breaks_of, breaks_one, shares_stay}
use Rattle.world_machine.proofs.FencesLeft.{left_less, needs_left, posted_more}
use Rattle.world_machine.proofs.Lessens.{SharesNoMore, answered_less, collision_less, goes_by, goes_less}
use Rattle.world_machine.proofs.LessRows.{decided_less, either_less, stands_so}
use Rattle.world_machine.proofs.NeverAgain.{NeverAgain, copied_never, read_never, write_never}
use Rattle.world_machine.proofs.ReachedPages.{breaks_at}
use Rattle.world_machine.proofs.RunMoves.{is_running, run_line}
use Rattle.world_machine.proofs.WordsRead.{IsBelowRoot, at_most_seven, at_most_three, by_learned, by_sought, stands_below}

run_cost : (setup : SetupParts) (first : Bool) (e : EncNo) (budget count : ℕ) (micro : Micro)
    → line_left setup (Some (run_line first e budget)) (Running micro count) ≡ 8 * (budget - count) - events_made micro
run_cost setup true e budget count micro = refl
run_cost setup false e budget count micro = refl

break_left : (setup : SetupParts) (first : Bool) (e : EncNo) (budget count index : ℕ) → line_left setup (Some (run_line first e budget)) (Breaking count index) ≡ 1 + 8 * (budget - count)
break_left setup true e budget count index = refl
break_left setup false e budget count index = refl

run_walks : (ctl : CtlData) (Fresh : TlbEntry → Type 0) (tables : ℕ) (record_of : ℕ → Enclave) (first : Bool) (e : EncNo) (budget count : ℕ) (micro : Micro)
    → WalkingStands ctl Fresh (walking tables record_of (Some (run_line first e budget)) (Running micro count))
    → WalkingStands ctl Fresh (walking_of tables e.0 (record_of e.0) micro)
run_walks ctl Fresh tables record_of true e budget count micro k = k
run_walks ctl Fresh tables record_of false e budget count micro k = k

module _ (digest_of : List ℕ → List ℕ) (w : WorldData) (k : Kept digest_of w) (none : w.collision ≡ None) (hart : ℕ) (below : hart < w.setup.harts) where
  abbrev Fresh : TlbEntry → Type 0
  Fresh = IsFresh w.setup (enclave_at w.enclaves) (state_of w) w.fences hart

  -- nobody is lacking: the instruction starts anew, and the fence is left
  pub restart_less : (first : Bool) (e : EncNo) (budget count index : ℕ) → hart_line w hart ≡ Some (run_line first e budget) → under_at w.under hart ≡ Breaking count index
      → remaining (restarts w hart count) < remaining w
  restart_less first e budget count index here so_far =
      goes_by digest_of w k none hart below (run_line first e budget) (Breaking count index) here so_far _ (Running (Fetching Start) count) refl none refl refl
      (omega (arith, left_less w.setup.harts w.fences hart, run_cost w.setup first e budget count (Fetching Start), break_left w.setup first e budget count index))

  -- ---- a run under way

  module _ (first : Bool) (e : EncNo) (budget count : ℕ) (micro : Micro) (here : hart_line w hart ≡ Some (run_line first e budget))
      (so_far : under_at w.under hart ≡ Running micro count) (positions : List ℕ) where
    abbrev r : Enclave
    r = enclave_at w.enclaves e.0

    abbrev run : RunNow
    run = record { hart = hart; e = e.0; budget = budget; count = count }

    pub running : IsRunning w.setup (written_page w) r ((state_of w).number e.0) hart budget count micro
    running = is_running w.setup (written_page w) (enclave_at w.enclaves) (state_of w).number hart budget count micro e first
        (stands_so digest_of w k none hart below (run_line first e budget) (Running micro count) here so_far)

    run_left : 0 < line_left w.setup (Some (run_line first e budget)) (Running micro count)
    run_left = let within : count < budget = running.within in let is = run_cost w.setup first e budget count micro in let m = at_most_seven micro in omega arith

    -- a record with the same pages
    stays : (now : Enclave) → now.pages ≡ r.pages → breaks_of w.setup.harts (with_enclave w.enclaves e.0 now) ≤ breaks_of w.setup.harts w.enclaves
    stays now same = shares_stay w.setup.harts w.enclaves e.0 now same

    ends_less : (v : WorldData) → v.setup ≡ w.setup → v.collision ≡ None → v.fences ≡ w.fences → SharesNoMore w v → v.under ≡ slice_set w.under hart Idle
        → v.answered ≡ slice_set w.answered hart (answered_at w.answered hart + 1) → remaining v < remaining w
    ends_less = answered_less digest_of w k none hart below (run_line first e budget) (Running micro count) here so_far run_left

    on_less : (v : WorldData) (micro' : Micro) (count' : ℕ) → v.setup ≡ w.setup → v.collision ≡ None → v.fences ≡ w.fences → SharesNoMore w v
        → v.under ≡ slice_set w.under hart (Running micro' count') → v.answered ≡ w.answered
        → 8 * (budget - count') - events_made micro' < 8 * (budget - count) - events_made micro → remaining v < remaining w
    on_less v micro' count' setup free fences shares under answered less =
        goes_less digest_of w k none hart below (run_line first e budget) (Running micro count) here so_far v (Running micro' count') setup free fences shares under answered
        (subst (λ n. n < line_left w.setup (Some (run_line first e budget)) (Running micro count)) (sym (run_cost w.setup first e budget count' micro'))
        (subst (λ n. 8 * (budget - count') - events_made micro' < n) (sym (run_cost w.setup first e budget count micro)) less))

    -- the instruction goes on
    further_less : (v : WorldData) (micro' : Micro) → v.setup ≡ w.setup → v.collision ≡ None → v.fences ≡ w.fences → SharesNoMore w v
        → v.under ≡ slice_set w.under hart (Running micro' count) → v.answered ≡ w.answered → events_made micro < events_made micro' → remaining v < remaining w
    further_less v micro' setup free fences shares under answered more =
        on_less v micro' count setup free fences shares under answered (let within : count < budget = running.within in let m = at_most_seven micro' in omega arith)

    clash_less : (v : WorldData) (c : CollisionData) → v.collision ≡ Some c → remaining v < remaining w
    clash_less = collision_less digest_of w k none hart below (run_line first e budget) (Running micro count) here so_far run_left

    -- in a world that an access left
    module _ (ctl : CtlData) where
      abbrev left_by : WorldData
      left_by = record w { ctl = ctl }

      retire_less : (now : Enclave) → now.pages ≡ r.pages → remaining (retires left_by run now) < remaining w
      retire_less now same = either_less w (count + 1 == budget) _ _ (ends_less _ refl none refl (stays _ same) refl refl)
          (on_less _ (Fetching Start) (count + 1) refl none refl (stays now same) refl refl
          (let within : count < budget = running.within in let m = at_most_seven micro in omega arith))

      receive_less : (o : Option ℕ) → remaining (receives left_by run r o) < remaining w
      receive_less None = ends_less _ refl none refl (stays _ refl) refl refl
      receive_less (Some word) = retire_less _ refl

      call_less : (number value : ℕ) → remaining (calls left_by run r number value) < remaining w
      call_less number value =
          either_less w (number == 1) _ _ (ends_less _ refl none refl (stays _ refl) refl refl)
          (either_less w (number == 2) _ _ (receive_less (received_word r))
          (either_less w (number == 3) _ _ (either_less w (has_room r) _ _ (retire_less _ refl) (ends_less _ refl none refl (stays _ refl) refl refl))
          (ends_less _ refl none refl (stays _ refl) refl refl)))

      act_less : events_made micro < 4 → (word : ℕ) (act : Act) → remaining (acts left_by run r word act) < remaining w
      act_less first_half word (Set context) = retire_less _ refl
      act_less first_half word (Load address width is_signed rd) = further_less _ (Reaching word Start) refl none refl (le_refl _) refl refl (omega arith)
      act_less first_half word (Store address width value) = further_less _ (Reaching word Start) refl none refl (le_refl _) refl refl (omega arith)
      act_less first_half word (Call number value) = call_less number value
      act_less first_half word (Trap cause value) = ends_less _ refl none refl (stays _ refl) refl refl

    -- ---- no page serves an access

    -- A page that is broken is shared no more, and that pays for the fence that is posted, and for the instruction's events.
    module _ (index page : ℕ) (shared : slice_get r.pages index ≡ Some (Shared page)) where
      broken_less : (ctl : CtlData) (o : Outcome (Unit {0})) → NeverAgain o
          → let left : WorldData = record w {
            ctl = ctl;
            enclaves = if_put o (with_enclave w.enclaves e.0 (with_own_page r index)) w.enclaves;
            fences = if_put o (posted w.fences hart (space_of_number e) (Some (vpn_of_page index))) w.fences;
          } in
          remaining (decided left (λ done. breaks_done left run index) (faults run r left) o) < remaining w
      broken_less ctl (Value done) never =
          goes_by digest_of w k none hart below (run_line first e budget) (Running micro count) here so_far _ (Breaking count index) refl none refl refl
          (let within : count < budget = running.within in
          let more : needs_left w.setup.harts (posted w.fences hart (space_of_number e) (Some (vpn_of_page index))) ≤ fences_left w + 8 * w.setup.harts
          = posted_more w.setup.harts w.fences hart _ in
          omega (
            arith,
            within,
            at_most_seven micro,
            run_cost w.setup first e budget count micro,
            break_left w.setup first e budget count,
            breaks_one w.setup.harts w.enclaves e.0 index page shared,
            more,
          ))
      broken_less ctl (Fault place) never = ends_less _ refl none refl (stays _ refl) refl refl
      broken_less ctl (Collision place held written) never = clash_less _ (record { place = place; held = held; written = written }) refl
      broken_less ctl (Again taken root) never = absurd never

      break_less : remaining (breaks_page digest_of w run r positions index).world < remaining w
      unfolding page_broken
      break_less =
          broken_less _ _ (copied_never digest_of w.setup.tables e.0 index (page_number_at r.pages index) (next_spare r) (perms_at w.setup r index) (going w.ctl positions))

      spare_less : (spares : List ℕ) → remaining (breaks_or_leaves digest_of w run r positions index spares).world < remaining w
      spare_less [] = ends_less _ refl none refl (stays _ refl) refl refl
      spare_less (spare ∷ spares) = break_less

    page_fault_less : (access : Kind) (address : ℕ) → remaining (page_faults digest_of w run r positions access address).world < remaining w
    page_fault_less access address = by_page (to_break access (image_of w.setup r.image).pages r.pages address) refl
      where
        by_page : (o : Option ℕ) → to_break access (image_of w.setup r.image).pages r.pages address ≡ o
            → remaining (faults_by digest_of w run r positions access address o).world < remaining w
        by_page None is = ends_less _ refl none refl (stays _ refl) refl refl
        by_page (Some index) is =
            let at = breaks_at access (image_of w.setup r.image).pages r.pages address index is in
            spare_less index at.page at.shared r.spares

    -- ---- what the instruction does through the trees

    fetch_less : events_made micro < 4 → (o : Option ℕ) → remaining (fetched_in digest_of w run r positions o).world < remaining w
    fetch_less first_half None = page_fault_less kind.Fetch r.context.pc
    fetch_less first_half (Some page) =
        let access : After ℕ = read_word_of digest_of page (word_offset r.context.pc) (going w.ctl positions) in
        decided_less w (record w { ctl = access.after.ctl })
        (λ eight. acts (record w { ctl = access.after.ctl }) run r (part_of_word eight r.context.pc 4) (act_of r.context (part_of_word eight r.context.pc 4)))
        (faults run r (record w { ctl = access.after.ctl })) access.outcome (read_never digest_of page (word_offset r.context.pc) (going w.ctl positions))
        (λ eight. act_less access.after.ctl first_half (part_of_word eight r.context.pc 4) (act_of r.context (part_of_word eight r.context.pc 4)))
        (λ place. ends_less _ refl none refl (stays _ refl) refl refl) clash_less

    load_less : (address width : ℕ) (is_signed : Bool) (rd : ℕ) (o : Option ℕ)
        → remaining (loads_in digest_of w run r positions address width is_signed rd o).world < remaining w
    load_less address width is_signed rd None = page_fault_less kind.Load address
    load_less address width is_signed rd (Some page) =
        let access : After ℕ = read_word_of digest_of page (word_offset address) (going w.ctl positions) in
        decided_less w (record w { ctl = access.after.ctl })
        (λ eight. retires (record w { ctl = access.after.ctl }) run (retired_with r (loaded r.context rd width is_signed (part_of_word eight address width))))
        (faults run r (record w { ctl = access.after.ctl })) access.outcome (read_never digest_of page (word_offset address) (going w.ctl positions))
        (λ eight. retire_less access.after.ctl (retired_with r (loaded r.context rd width is_signed (part_of_word eight address width))) refl)
        (λ place. ends_less _ refl none refl (stays _ refl) refl refl) clash_less

    store_less : (address width value : ℕ) (o : Option ℕ) → remaining (stores_in digest_of w run r positions address width value o).world < remaining w
    store_less address width value None = page_fault_less kind.Store address
    store_less address width value (Some page) =
        let access : After (Unit {0}) = write_part_of digest_of page (address % 4096) width value (going w.ctl positions) in
        decided_less w (record w { ctl = access.after.ctl }) (λ done. retires (record w { ctl = access.after.ctl }) run (retired_with r (advanced r.context)))
        (faults run r (record w { ctl = access.after.ctl })) access.outcome (write_never digest_of page (address % 4096) width value (going w.ctl positions))
        (λ done. retire_less access.after.ctl (retired_with r (advanced r.context)) refl)
        (λ place. ends_less _ refl none refl (stays _ refl) refl refl) clash_less

    -- A word of a table that is read leaves the instruction further: with a walk that has read more, or without a page.
    module _ (on : Walk → Micro) (walk : Walk) (va : ℕ) (access : Kind) (stands : IsBelowRoot walk)
        (further : (next : Walk) → words_read walk < words_read next → events_made micro < events_made (on next)) (early : words_read walk < 3 → events_made micro < 7) where
      table_less : words_read walk < 3 → (pa : Pa)
          → remaining (reads_table digest_of w (run_request w run va access) positions walk (run_learns run on va access) (faults run r) pa).world < remaining w
      table_less asks pa =
          let request : Request = run_request w run va access in
          let read : After ℕ = read_word_of digest_of (page_at pa) (offset_at pa) (going w.ctl positions) in
          let left : WorldData = record w { ctl = read.after.ctl } in
          let learns : ℕ → WorldData = λ word. with_tlb left hart (tlb_after walk word request.va access request.view (tlb_at w.tlbs hart)) in
          decided_less w left
          (λ word. run_learns run on va access (learns word) (learned walk word request.va access request.view))
          (faults run r left) read.outcome (read_never digest_of (page_at pa) (offset_at pa) (going w.ctl positions))
          (λ word. by_learned (λ result. remaining (run_learns run on va access (learns word) result) < remaining w)
          access walk stands asks
          (λ next more. further_less _ (on next) refl none refl (le_refl _) refl refl (further next more))
          (λ no_page. further_less _ (Faulting va access) refl none refl (le_refl _) refl refl (early asks))
          word request.va request.view)
          (λ place. ends_less _ refl none refl (stays _ refl) refl refl) clash_less

      translates_less : (reach : Option ℕ → Event) → ((o : Option ℕ) → remaining (reach o).world < remaining w)
          → remaining (run_translates digest_of w run r positions on walk va access reach).world < remaining w
      translates_less reach each =
          by_sought (λ event. remaining event.world < remaining w) w (run_request w run va access)
          (reads_table digest_of w (run_request w run va access) positions walk (run_learns run on va access) (faults run r)) (λ pa. reach (option_map page_at pa))
          walk table_less (λ pa. each (option_map page_at pa))

    -- data is sought by an instruction that loads or stores alone
    module _ (word : ℕ) (walk : Walk) (made : events_made micro ≡ 4 + words_read walk) where
      reach_less : (act : Act) (access : Kind × ℕ) → access_of act ≡ Some access
          → WalkingStands w.ctl Fresh
          (option_map (λ (a : Kind × ℕ). record { view = number_view w.setup.tables e.0; va = record { 0 = a.1 }; walk = walk }) (access_of act))
          → remaining (reaches digest_of w run r positions word walk act).world < remaining w
      reach_less (Load address width is_signed rd) access is stands =
          translates_less (Reaching word) walk address kind.Load
          (stands_below w.ctl Fresh (number_view w.setup.tables e.0) (record { 0 = address }) walk stands) (λ next more. omega arith) (λ asks. omega arith)
          (loads_in digest_of w run r positions address width is_signed rd) (load_less address width is_signed rd)
      reach_less (Store address width value) access is stands =
          translates_less (Reaching word) walk address kind.Store
          (stands_below w.ctl Fresh (number_view w.setup.tables e.0) (record { 0 = address }) walk stands) (λ next more. omega arith) (λ asks. omega arith)
          (stores_in digest_of w run r positions address width value) (store_less address width value)
      reach_less (Set context) access is stands = cc
      reach_less (Call number value) access is stands = cc
      reach_less (Trap cause value) access is stands = cc

  -- the walk of a run stands
  walk_stands : (first : Bool) (e : EncNo) (budget count : ℕ) (micro : Micro) → hart_line w hart ≡ Some (run_line first e budget)
      → under_at w.under hart ≡ Running micro count → WalkingStands w.ctl Fresh (walking_of w.setup.tables e.0 (enclave_at w.enclaves e.0) micro)
  walk_stands first e budget count micro here so_far =
      run_walks w.ctl Fresh w.setup.tables (enclave_at w.enclaves) first e budget count micro
      (subst (λ u. WalkingStands w.ctl Fresh (walking w.setup.tables (enclave_at w.enclaves) (Some (run_line first e budget)) u)) so_far
      (subst (λ l. WalkingStands w.ctl Fresh (walking w.setup.tables (enclave_at w.enclaves) l (under_at w.under hart))) here
      (k.stands.translations.fresh.walks hart)))

  pub run_less : (first : Bool) (e : EncNo) (budget count : ℕ) (micro : Micro) → hart_line w hart ≡ Some (run_line first e budget)
      → under_at w.under hart ≡ Running micro count → (positions : List ℕ)
      → remaining (run_event digest_of w (record { hart = hart; e = e.0; budget = budget; count = count }) (enclave_at w.enclaves e.0) positions micro).world < remaining w
  run_less first e budget count (Fetching walk) here so_far positions =
      translates_less first e budget count (Fetching walk) here so_far positions Fetching walk (enclave_at w.enclaves e.0).context.pc kind.Fetch
      (stands_below w.ctl Fresh (number_view w.setup.tables e.0) (record { 0 = (enclave_at w.enclaves e.0).context.pc }) walk
      (walk_stands first e budget count (Fetching walk) here so_far)) (λ next more. more) (λ asks. omega arith)
      (fetched_in digest_of w (record { hart = hart; e = e.0; budget = budget; count = count }) (enclave_at w.enclaves e.0) positions)
      (fetch_less first e budget count (Fetching walk) here so_far positions (let few = at_most_three walk in omega arith))
  run_less first e budget count (Reaching word walk) here so_far positions =
      let stands = (running first e budget count (Reaching word walk) here so_far positions).instruction in
      reach_less first e budget count (Reaching word walk) here so_far positions word walk refl (act_of (enclave_at w.enclaves e.0).context word) stands.0 stands.1.access_is
      (walk_stands first e budget count (Reaching word walk) here so_far)
  run_less first e budget count (Faulting va access) here so_far positions = page_fault_less first e budget count (Faulting va access) here so_far positions access va
