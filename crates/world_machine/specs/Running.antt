-- The events of `run` and `resume`: the beginning, walks, the fetch, accesses to data, page faults, breaks and what starts anew after them.
use Rattle.std.specs.Prelude.{ℕ, ◌+◌, ◌%◌, ◌==◌, Bool, if◌then◌else◌, List, [], ◌∷◌, ◌++◌, length, slice_get, slice_set, Option, Some, None, option_map, Result, Ok, Err}
use Rattle.std.specs.Option.{option_map_or}
use Rattle.pl_base.specs.HartSet.{space_of_number}
use Rattle.pl_base.specs.declared.access.Kind.{Kind}
use Rattle.pl_base.specs.declared.access.Kind.TheVariants as kind
use Rattle.pl_base.specs.declared.perms.Perms.{Perms}
use Rattle.pl_base.specs.declared.place.Place.{Place}
use Rattle.pl_base.specs.declared.state.Why.{Why}
use Rattle.pl_base.specs.declared.state.Why.TheVariants as why_is
use Rattle.pl_base.specs.States.{state_left}
use Rattle.rv_alone.specs.declared.step.Act.{Act}
use Rattle.rv_alone.specs.declared.step.Act.TheVariants.{Set, Load, Store, Call, Trap}
use Rattle.rv_alone.specs.declared.step.Context.{Context}
use Rattle.rv_alone.specs.Effect.{act_of, advanced, loaded, with_register}
use Rattle.rv_hart.specs.declared.walks.Micro.{Micro}
use Rattle.rv_hart.specs.declared.walks.Micro.TheVariants.{Fetching, Reaching, Faulting}
use Rattle.rv_hart.specs.declared.walks.PageFault.{PageFault as NoPage}
use Rattle.rv_hart.specs.declared.walks.Walk.{Walk}
use Rattle.rv_hart.specs.declared.walks.Walk.TheVariants.{Start}
use Rattle.mem_ctl.specs.Calls.{read_word_of, write_part_of}
use Rattle.mem_ctl.specs.Data.{going}
use Rattle.mon_enclave.specs.declared.enclave.Enclave.{Enclave}
use Rattle.mon_enclave.specs.Records.{enclave_at, with_enclave, has_room, received_word}
use Rattle.mon_image.specs.declared.page.ImagePage.{ImagePage}
use Rattle.mon_life.specs.Running.{RunBegun, run_begun}
use Rattle.mon_shadow.specs.Breaking.{PageBroken, page_broken}
use Rattle.mon_tables.specs.Space.{vpn_of_page}
use Rattle.pl_history.specs.declared.answer.Answer.TheVariants as answer_is
use Rattle.pl_history.specs.declared.setup.SetupParts.{SetupParts}
use Rattle.world_machine.specs.declared.under.Under.TheVariants.{Breaking, Running}
use Rattle.world_machine.specs.Acknowledging.{without_covered}
use Rattle.world_machine.specs.Answering.{accesses, answers, decided, goes_on, quiet}
use Rattle.world_machine.specs.Making.{begins_unless, image_of}
use Rattle.world_machine.specs.Pages.{fault_cause, part_of_word, to_break, word_offset}
use Rattle.world_machine.specs.Translating.{Request, number_view, page_at, reads_table, sought_in, translated}
use Rattle.world_machine.specs.Worlds.{Event, WorldData, tlb_at, with_tlb}

-- A run under way: its hart, its number, the budget, and how many instructions retired since the line began.
pub record RunNow : Type 0 where
  pub hart : ℕ
  pub e : ℕ
  pub budget : ℕ
  pub count : ℕ

-- ---- how an instruction ends

-- the run leaves its enclave with this record, and shows all words that the enclave sent out
abbrev pub leaves : WorldData → RunNow → Enclave → ℕ → Why → WorldData
leaves w run r count why =
    answers (record w { enclaves = with_enclave w.enclaves run.e (record r { state = state_left why; shown = length r.out }) }) run.hart (answer_is.Left count why)

-- the hart's next event is about the next instruction, after so many
abbrev pub fetches_next : WorldData → RunNow → ℕ → WorldData
fetches_next w run count = goes_on w run.hart (Running (Fetching Start) count)

-- an instruction retires with this record: the budget is spent, or the next one is fetched
abbrev pub retires : WorldData → RunNow → Enclave → WorldData
retires w run r =
    if run.count + 1 == run.budget then leaves w run r (run.count + 1) why_is.Budget
    else fetches_next (record w { enclaves = with_enclave w.enclaves run.e r }) run (run.count + 1)

-- the record after an instruction that leaves this context
abbrev pub retired_with : Enclave → Context → Enclave
retired_with r context = record r { context = context; retired = r.retired + 1 }

abbrev pub traps : WorldData → RunNow → Enclave → ℕ → ℕ → WorldData
traps w run r cause value = leaves w run r run.count (why_is.Trapped cause value)

-- ---- ECALL: 1 is EXIT, 2 is RECV, 3 is SEND (own)

-- EXIT retires, and leaves pc
abbrev pub exits : WorldData → RunNow → Enclave → ℕ → WorldData
exits w run r code = leaves w run (retired_with r r.context) (run.count + 1) (why_is.Ended code)

-- RECV puts the next word into a0, where there is one
abbrev pub receives : WorldData → RunNow → Enclave → Option ℕ → WorldData
receives w run r None = leaves w run r run.count why_is.Waiting
receives w run r (Some word) =
    retires w run (record (retired_with r (advanced (with_register r.context 10 word))) { received = r.received + 1 })

-- SEND sends a word out, where there is room for it
abbrev pub sends : WorldData → RunNow → Enclave → ℕ → WorldData
sends w run r word =
    if has_room r then retires w run (record (retired_with r (advanced r.context)) { out = r.out ++ word ∷ [] })
    else leaves w run r run.count why_is.OutFull

abbrev pub calls : WorldData → RunNow → Enclave → ℕ → ℕ → WorldData
calls w run r number value =
    if number == 1 then exits w run r value
    else if number == 2 then receives w run r (received_word r)
    else if number == 3 then sends w run r value
    else traps w run r 8 number

-- ---- the fetch

-- a fetched instruction that neither loads nor stores is done; for one that does, its data is sought
abbrev pub acts : WorldData → RunNow → Enclave → ℕ → Act → WorldData
acts w run r word (Set context) = retires w run (retired_with r context)
acts w run r word (Load address width is_signed rd) = goes_on w run.hart (Running (Reaching word Start) run.count)
acts w run r word (Store address width value) = goes_on w run.hart (Running (Reaching word Start) run.count)
acts w run r word (Call number value) = calls w run r number value
acts w run r word (Trap cause value) = traps w run r cause value

-- a fault of a place leaves the enclave
abbrev pub faults : RunNow → Enclave → WorldData → Place → WorldData
faults run r w place = leaves w run r run.count (why_is.Fault place)

-- the access of an instruction that a run translates
abbrev pub run_request : WorldData → RunNow → ℕ → Kind → Request
run_request w run va access = record { hart = run.hart; va = record { 0 = va }; kind = access; view = number_view w.setup.tables run.e }

-- a walk that has learned goes on, or it is noted that no page serves the access
abbrev pub run_learns : RunNow → (Walk → Micro) → ℕ → Kind → WorldData → Result Walk NoPage → WorldData
run_learns run on va access w (Ok walk) = goes_on w run.hart (Running (on walk) run.count)
run_learns run on va access w (Err none) = goes_on w run.hart (Running (Faulting va access) run.count)

-- ---- breaking a page: a forked number's store to a page that it shares

-- what may be done with page `index` of the image of a number
abbrev pub perms_at : SetupParts → Enclave → ℕ → Perms
perms_at setup r index = option_map_or (λ (page : ImagePage). page.perms) (slice_get (image_of setup r.image).pages index) (record { 0 = 0 })

-- the hart's own translation of the page is dropped, and the instruction starts anew once nobody is lacking
abbrev pub breaks_done : WorldData → RunNow → ℕ → WorldData
breaks_done w run index =
    goes_on (with_tlb w run.hart (without_covered (tlb_at w.tlbs run.hart) (space_of_number (record { 0 = run.e })) (Some (vpn_of_page index)))) run.hart (Breaking run.count index)

-- the instruction starts anew, and the hart leaves its fence
abbrev pub restarts : WorldData → ℕ → ℕ → WorldData
restarts w hart count = goes_on (record w { fences = slice_set w.fences hart None }) hart (Running (Fetching Start) count)

module _ (digest_of : List ℕ → List ℕ) where
  -- the shared page is copied into the next spare, which takes its place
  abbrev pub breaks_page : WorldData → RunNow → Enclave → List ℕ → ℕ → Event
  breaks_page w run r positions index =
      let broken : PageBroken = page_broken digest_of w.setup.tables run.hart (record { 0 = run.e }) index (perms_at w.setup r index) w.enclaves w.fences (going w.ctl positions) in
      let left : WorldData = record w { ctl = broken.step.after.ctl; enclaves = broken.enclaves; fences = broken.fences } in
      record { world = decided left (λ done. breaks_done left run index) (faults run r left) broken.step.outcome; shown = broken.step.after.shown }

  -- a page is to be broken: that needs a spare
  abbrev pub breaks_or_leaves : WorldData → RunNow → Enclave → List ℕ → ℕ → List ℕ → Event
  breaks_or_leaves w run r positions index [] = quiet (leaves w run r run.count why_is.NeedPage)
  breaks_or_leaves w run r positions index (spare ∷ spares) = breaks_page w run r positions index

  -- no page serves an access: the monitor's step breaks a page, or the run leaves by a page fault
  abbrev pub faults_by : WorldData → RunNow → Enclave → List ℕ → Kind → ℕ → Option ℕ → Event
  faults_by w run r positions access address None = quiet (traps w run r (fault_cause access) address)
  faults_by w run r positions access address (Some index) = breaks_or_leaves w run r positions index r.spares

  abbrev pub page_faults : WorldData → RunNow → Enclave → List ℕ → Kind → ℕ → Event
  page_faults w run r positions access address =
      faults_by w run r positions access address (to_break access (image_of w.setup r.image).pages r.pages address)

  -- the word at pc is read through the trees, in this page
  abbrev pub fetched_in : WorldData → RunNow → Enclave → List ℕ → Option ℕ → Event
  fetched_in w run r positions None = page_faults w run r positions kind.Fetch r.context.pc
  fetched_in w run r positions (Some page) =
      accesses w (read_word_of digest_of page (word_offset r.context.pc) (going w.ctl positions))
      (λ left eight. let word : ℕ = part_of_word eight r.context.pc 4 in acts left run r word (act_of r.context word))
      (faults run r)

  -- ---- the data

  abbrev pub loads_in : WorldData → RunNow → Enclave → List ℕ → ℕ → ℕ → Bool → ℕ → Option ℕ → Event
  loads_in w run r positions address width is_signed rd None = page_faults w run r positions kind.Load address
  loads_in w run r positions address width is_signed rd (Some page) =
      accesses w (read_word_of digest_of page (word_offset address) (going w.ctl positions))
      (λ left eight. retires left run (retired_with r (loaded r.context rd width is_signed (part_of_word eight address width))))
      (faults run r)

  abbrev pub stores_in : WorldData → RunNow → Enclave → List ℕ → ℕ → ℕ → ℕ → Option ℕ → Event
  stores_in w run r positions address width value None = page_faults w run r positions kind.Store address
  stores_in w run r positions address width value (Some page) =
      accesses w (write_part_of digest_of page (address % 4096) width value (going w.ctl positions))
      (λ left done. retires left run (retired_with r (advanced r.context)))
      (faults run r)

  -- ---- by way of a translation

  -- the next event of a walk to an address; `on` says how far the instruction is, with the walk
  abbrev pub run_translates : WorldData → RunNow → Enclave → List ℕ → (Walk → Micro) → Walk → ℕ → Kind → (Option ℕ → Event) → Event
  run_translates w run r positions on walk va access reach =
      translated (sought_in w (run_request w run va access) walk)
      (reads_table digest_of w (run_request w run va access) positions walk (run_learns run on va access) (faults run r))
      (λ pa. reach (option_map page_at pa))

  -- the data of an instruction that loads or stores is reached; no other instruction seeks data
  abbrev pub reaches : WorldData → RunNow → Enclave → List ℕ → ℕ → Walk → Act → Event
  reaches w run r positions word walk (Load address width is_signed rd) =
      run_translates w run r positions (Reaching word) walk address kind.Load (loads_in w run r positions address width is_signed rd)
  reaches w run r positions word walk (Store address width value) =
      run_translates w run r positions (Reaching word) walk address kind.Store (stores_in w run r positions address width value)
  reaches w run r positions word walk act = quiet w

  -- the next event of a run, by where its instruction is. Where no page serves an access, the event is the monitor's step.
  abbrev pub run_event : WorldData → RunNow → Enclave → List ℕ → Micro → Event
  run_event w run r positions (Fetching walk) = run_translates w run r positions Fetching walk r.context.pc kind.Fetch (fetched_in w run r positions)
  run_event w run r positions (Reaching word walk) = reaches w run r positions word walk (act_of r.context word)
  run_event w run r positions (Faulting va access) = page_faults w run r positions access va

-- `run` begins, and `resume`, which isn't the first run
abbrev pub begin_run : WorldData → ℕ → ℕ → Bool → Event
begin_run w hart e first =
    let begun : RunBegun = run_begun w.enclaves (record { 0 = hart }) e first in
    quiet (begins_unless begun.refusal (record w { enclaves = begun.enclaves }) hart (Running (Fetching Start) 0))

-- the next event of a begun one
abbrev pub runs : (List ℕ → List ℕ) → WorldData → ℕ → List ℕ → ℕ → ℕ → Micro → ℕ → Event
runs digest_of w hart positions e budget micro count =
    let r : Enclave = enclave_at w.enclaves e in
    run_event digest_of w (record { hart = hart; e = e; budget = budget; count = count }) r positions micro
