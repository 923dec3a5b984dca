-- Each step keeps the setup.
use Rattle.std.proofs.Common.{◌≡◌, ℕ, ◌+◌, ◌%◌, ◌==◌, Bool, true, false, if◌then◌else◌, List, [], ◌∷◌, Option, Some, None, is_some, refl, ap, ◌∙◌}
use Rattle.std.specs.Prelude.{option_map, Result, Ok, Err}
use Rattle.pl_base.specs.declared.access.Kind.{Kind}
use Rattle.pl_base.specs.declared.access.Kind.TheVariants as kind
use Rattle.pl_base.specs.declared.actor.Actor.{Actor}
use Rattle.pl_base.specs.declared.actor.Actor.TheVariants as actor_is
use Rattle.pl_base.specs.declared.address.Pa.{Pa}
use Rattle.pl_base.specs.declared.address.Va.{Va}
use Rattle.pl_base.specs.declared.number.EncNo.{EncNo}
use Rattle.pl_base.specs.declared.number.HartSet.{HartSet}
use Rattle.pl_base.specs.declared.perms.Perms.{Perms}
use Rattle.pl_base.specs.declared.place.Place.{Place}
use Rattle.pl_base.specs.declared.refusal.No.{No}
use Rattle.mem_slots.specs.declared.slot_use.SlotUse.{SlotUse}
use Rattle.mem_ctl.specs.Data.{After, Outcome, Again, Collision, Fault, Value, going}
use Rattle.mem_ctl.specs.Calls.{read_word_of, write_part_of}
use Rattle.mon_life.specs.Putting.{CreatePut, create_put}
use Rattle.mon_fence.specs.declared.fences.Fence.{Fence}
use Rattle.mon_fence.specs.Fences.{fence_of}
use Rattle.mon_host.specs.Leaves.{HostEvent}
use Rattle.mon_host.specs.Mapping.{map_of}
use Rattle.mon_host.specs.Unmapping.{unmap_begun}
use Rattle.mon_owner.specs.declared.owners.Owner.{Owner}
use Rattle.mon_enclave.specs.declared.enclave.Enclave.{Enclave}
use Rattle.mon_enclave.specs.Records.{enclave_at, has_room, received_word}
use Rattle.rv_alone.specs.declared.step.Act.{Act}
use Rattle.rv_alone.specs.declared.step.Act.TheVariants.{Set, Load, Store, Call, Trap}
use Rattle.rv_alone.specs.Effect.{act_of, advanced, loaded}
use Rattle.rv_hart.specs.declared.walks.Micro.{Micro}
use Rattle.rv_hart.specs.declared.walks.Micro.TheVariants.{Fetching, Reaching, Faulting}
use Rattle.rv_hart.specs.declared.walks.PageFault.{PageFault as NoPage}
use Rattle.rv_hart.specs.declared.walks.Walk.{Walk}
use Rattle.rv_hart.specs.declared.walks.Walk.TheVariants.{Start}
use Rattle.rv_hart.specs.Learning.{learned, tlb_after}
use Rattle.rv_pmp.specs.Pmp.{permits}
use Rattle.pl_history.specs.declared.answer.Answer.{Answer}
use Rattle.pl_history.specs.declared.answer.Answer.TheVariants as answer_is
use Rattle.pl_base.specs.declared.refusal.No.TheVariants as refused
use Rattle.pl_history.specs.declared.line.AttackLine.{AttackLine}
use Rattle.pl_history.specs.declared.line.AttackLine.TheVariants as attack
use Rattle.pl_history.specs.declared.line.Line.{Line}
use Rattle.pl_history.specs.declared.line.Line.TheVariants.{Load as LoadLine, Store as StoreLine, Map, Unmap, Create, Shadow, Fork, Grant, Run, Resume, Send, Take, Destroy, Drop, After as AfterLine}
use Rattle.pl_history.specs.declared.setup.SetupParts.{SetupParts}
use Rattle.pl_history.specs.Protection.{pmp_of}
use Rattle.world_machine.specs.declared.under.Under.{Under}
use Rattle.mon_shadow.specs.Breaking.{PageBroken, page_broken}
use Rattle.world_machine.specs.declared.under.Under.TheVariants.{Idle, Seeking, Removing, Destroying, Putting, Running, Breaking}
use Rattle.world_machine.specs.Acknowledging.{acknowledged, owed}
use Rattle.world_machine.specs.Answering.{accesses, answers, decided, goes_on, quiet}
use Rattle.world_machine.specs.GivingBack.{destroys_unless, ends_destroy}
use Rattle.world_machine.specs.HostAccessing.{WordAccess, accesses_host, begins_access, host_faults, host_learns, host_request, kind_of, loads, made, reaches_host, stores}
use Rattle.world_machine.specs.HostMapping.{begins_unmap, ends_unmap, lacked_by, mapped, maps, unmapped}
use Rattle.world_machine.specs.Making.{answers_by, begins_unless, image_of, put_next}
use Rattle.world_machine.specs.Pages.{to_break}
use Rattle.world_machine.specs.Pages.{part_of_word, word_offset}
use Rattle.world_machine.specs.Running.{RunNow, acts, breaks_done, breaks_or_leaves, breaks_page, calls, faults, faults_by, fetched_in, loads_in, page_faults, perms_at, restarts, retired_with, reaches, receives, retires, run_event, run_learns, run_request, run_translates, stores_in}
use Rattle.world_machine.specs.Steps.{Step, StepOf, Turn, ack_turn, actor_turn, attacker_turn, due, hart_turn, moves, rests, stepped, turn_of, waiting_turn, world_after}
use Rattle.world_machine.specs.Talking.{changes_unless}
use Rattle.world_machine.specs.Translating.{Request, offset_at, page_at, reads_table, sought_in, translated}
use Rattle.world_machine.specs.Worlds.{Event, WorldData, attacker_line, hart_line, tlb_at, under_at, with_tlb}
use Rattle.world_machine.proofs.WordsRead.{by_sought, by_test}

abbrev KeepsSetup : SetupParts → WorldData → Type 0
KeepsSetup setup w = w.setup ≡ setup

either : (setup : SetupParts) (b : Bool) (x y : WorldData) → KeepsSetup setup x → KeepsSetup setup y → KeepsSetup setup (if b then x else y)
either setup true x y p q = p
either setup false x y p q = q

decided_setup : {A : Type 0} (setup : SetupParts) (w : WorldData) (value_gives : A → WorldData) (faulted : Place → WorldData) (o : Outcome A) → KeepsSetup setup w
    → ((a : A) → KeepsSetup setup (value_gives a)) → ((place : Place) → KeepsSetup setup (faulted place)) → KeepsSetup setup (decided w value_gives faulted o)
decided_setup setup w value_gives faulted (Value a) same value fault = value a
decided_setup setup w value_gives faulted (Fault place) same value fault = fault place
decided_setup setup w value_gives faulted (Collision place held other) same value fault = same
decided_setup setup w value_gives faulted (Again taken root) same value fault = same

-- an event of one access, in the world that it left
accesses_setup : {A : Type 0} (w : WorldData) (access : After A) (value_gives : WorldData → A → WorldData) (faulted : WorldData → Place → WorldData)
    → ((left : WorldData) (a : A) → KeepsSetup left.setup (value_gives left a)) → ((left : WorldData) (place : Place) → KeepsSetup left.setup (faulted left place))
    → KeepsSetup w.setup (accesses w access value_gives faulted).world
accesses_setup w access value_gives faulted value fault =
    decided_setup w.setup (record w { ctl = access.after.ctl }) (value_gives (record w { ctl = access.after.ctl })) (faulted (record w { ctl = access.after.ctl })) access.outcome refl
    (value (record w { ctl = access.after.ctl })) (fault (record w { ctl = access.after.ctl }))

-- an access of the host
host_learns_setup : (hart : ℕ) (w : WorldData) (result : Result Walk NoPage) → KeepsSetup w.setup (host_learns hart w result)
host_learns_setup hart w (Ok walk) = refl
host_learns_setup hart w (Err none) = refl

made_setup : (w : WorldData) (hart : ℕ) (pa : Pa) (access : WordAccess) → KeepsSetup w.setup (made w hart pa access)
made_setup w hart pa loads = refl
made_setup w hart pa (stores word) = refl

reaches_host_setup : (w : WorldData) (hart : ℕ) (access : WordAccess) (o : Option Pa) → KeepsSetup w.setup (reaches_host w hart access o).world
reaches_host_setup w hart access None = refl
reaches_host_setup w hart access (Some pa) = either w.setup (permits (pmp_of w.setup) pa.0 8 (kind_of access)) _ _ (made_setup w hart pa access) refl

mapped_setup : (hart : ℕ) (w : WorldData) (result : Result (Unit {0}) No) → KeepsSetup w.setup (mapped hart w result)
mapped_setup hart w (Ok done) = refl
mapped_setup hart w (Err cause) = refl

unmapped_setup : (hart : ℕ) (va : Va) (w : WorldData) (result : Result ℕ No) → KeepsSetup w.setup (unmapped hart va w result)
unmapped_setup hart va w (Ok page) = refl
unmapped_setup hart va w (Err cause) = refl

acknowledged_setup : (w : WorldData) (hart requester : ℕ) (fence : Option Fence) → KeepsSetup w.setup (acknowledged w hart requester fence)
acknowledged_setup w hart requester None = refl
acknowledged_setup w hart requester (Some fence) = refl

begins_setup : (o : Option No) (w : WorldData) (hart : ℕ) (u : Under) → KeepsSetup w.setup (begins_unless o w hart u)
begins_setup None w hart u = refl
begins_setup (Some cause) w hart u = refl

answers_setup : (o : Option No) (w : WorldData) (hart : ℕ) → KeepsSetup w.setup (answers_by o w hart)
answers_setup None w hart = refl
answers_setup (Some cause) w hart = refl

destroys_setup : (o : Option No) (w : WorldData) (hart : ℕ) (e : EncNo) → KeepsSetup w.setup (destroys_unless o w hart e)
destroys_setup None w hart e = refl
destroys_setup (Some cause) w hart e = refl

changes_setup : (o : Option No) (w : WorldData) (hart e : ℕ) (r : Enclave) (now : Answer) → KeepsSetup w.setup (changes_unless o w hart e r now)
changes_setup None w hart e r now = refl
changes_setup (Some cause) w hart e r now = refl

retires_setup : (w : WorldData) (run : RunNow) (r : Enclave) → KeepsSetup w.setup (retires w run r)
retires_setup w run r = either w.setup (run.count + 1 == run.budget) _ _ refl refl

receives_setup : (w : WorldData) (run : RunNow) (r : Enclave) (o : Option ℕ) → KeepsSetup w.setup (receives w run r o)
receives_setup w run r None = refl
receives_setup w run r (Some word) = retires_setup w run _

calls_setup : (w : WorldData) (run : RunNow) (r : Enclave) (number value : ℕ) → KeepsSetup w.setup (calls w run r number value)
calls_setup w run r number value =
    either w.setup (number == 1) _ _ refl
    (either w.setup (number == 2) _ _ (receives_setup w run r (received_word r))
    (either w.setup (number == 3) _ _ (either w.setup (has_room r) _ _ (retires_setup w run _) refl) refl))

acts_setup : (w : WorldData) (run : RunNow) (r : Enclave) (word : ℕ) (act : Act) → KeepsSetup w.setup (acts w run r word act)
acts_setup w run r word (Set context) = retires_setup w run _
acts_setup w run r word (Load address width is_signed rd) = refl
acts_setup w run r word (Store address width value) = refl
acts_setup w run r word (Call number value) = calls_setup w run r number value
acts_setup w run r word (Trap cause value) = refl

run_learns_setup : (run : RunNow) (on : Walk → Micro) (va : ℕ) (access : Kind) (w : WorldData) (result : Result Walk NoPage) → KeepsSetup w.setup (run_learns run on va access w result)
run_learns_setup run on va access w (Ok walk) = refl
run_learns_setup run on va access w (Err none) = refl

module _ (digest_of : List ℕ → List ℕ) where
  -- an event of a walk, or of the access that it leads to
  walk_setup : (w : WorldData) (request : Request) (positions : List ℕ) (walk : Walk) (learns : WorldData → Result Walk NoPage → WorldData) (faulted : WorldData → Place → WorldData) (reach : Option Pa → Event)
      → ((v : WorldData) (result : Result Walk NoPage) → KeepsSetup v.setup (learns v result)) → ((v : WorldData) (place : Place) → KeepsSetup v.setup (faulted v place))
      → ((o : Option Pa) → KeepsSetup w.setup (reach o).world)
      → KeepsSetup w.setup (translated (sought_in w request walk) (reads_table digest_of w request positions walk learns faulted) reach).world
  walk_setup w request positions walk learns faulted reach learn fault reached =
      by_sought (λ event. KeepsSetup w.setup event.world) w request (reads_table digest_of w request positions walk learns faulted) reach walk
      (λ asks pa. accesses_setup w (read_word_of digest_of (page_at pa) (offset_at pa) (going w.ctl positions))
      (λ left word. learns (with_tlb left request.hart (tlb_after walk word request.va request.kind request.view (tlb_at left.tlbs request.hart)))
      (learned walk word request.va request.kind request.view)) faulted
      (λ left word. learn (with_tlb left request.hart (tlb_after walk word request.va request.kind request.view (tlb_at left.tlbs request.hart)))
      (learned walk word request.va request.kind request.view)) fault)
      reached

  access_setup : (w : WorldData) (hart : ℕ) (positions : List ℕ) (va : Va) (access : WordAccess) (walk : Walk) → KeepsSetup w.setup (accesses_host digest_of w hart positions va access walk).world
  access_setup w hart positions va access walk =
      walk_setup w (host_request w hart va access) positions walk (host_learns hart) (host_faults hart) (reaches_host w hart access)
      (host_learns_setup hart) (λ v place. refl) (reaches_host_setup w hart access)

  begins_access_setup : (w : WorldData) (hart : ℕ) (positions : List ℕ) (va : Va) (access : WordAccess) → KeepsSetup w.setup (begins_access digest_of w hart positions va access).world
  begins_access_setup w hart positions va access =
      by_test (λ event. KeepsSetup w.setup event.world) (va.0 % 8 == 0)
      (accesses_host digest_of w hart positions va access Start) (quiet (answers w hart (answer_is.No refused.Misaligned))) (access_setup w hart positions va access Start) refl

  maps_setup : (w : WorldData) (hart : ℕ) (positions : List ℕ) (va : Va) (page : ℕ) (perms : Perms) → KeepsSetup w.setup (maps digest_of w hart positions va page perms).world
  maps_setup w hart positions va page perms =
      let event : HostEvent (Unit {0}) (List Owner) = map_of digest_of w.setup.tables w.fences w.owners va page perms (going w.ctl positions) in
      let left : WorldData = record w { ctl = event.step.after.ctl; owners = event.rest } in
      decided_setup w.setup left (mapped hart left) (host_faults hart left) event.step.outcome refl (mapped_setup hart left) (λ place. refl)

  begins_unmap_setup : (w : WorldData) (hart : ℕ) (positions : List ℕ) (va : Va) → KeepsSetup w.setup (begins_unmap digest_of w hart positions va).world
  begins_unmap_setup w hart positions va =
      let event : HostEvent ℕ (List (Option Fence)) = unmap_begun digest_of w.setup.tables w.fences hart va (going w.ctl positions) in
      let left : WorldData = record w { ctl = event.step.after.ctl; fences = event.rest } in
      decided_setup w.setup left (unmapped hart va left) (host_faults hart left) event.step.outcome refl (unmapped_setup hart va left) (λ place. refl)

  -- a page fault of a run, or the break of a page
  breaks_setup : (w : WorldData) (run : RunNow) (r : Enclave) (positions : List ℕ) (index : ℕ) → KeepsSetup w.setup (breaks_page digest_of w run r positions index).world
  breaks_setup w run r positions index =
      let broken : PageBroken = page_broken digest_of w.setup.tables run.hart (record { 0 = run.e }) index (perms_at w.setup r index) w.enclaves w.fences (going w.ctl positions) in
      let left : WorldData = record w { ctl = broken.step.after.ctl; enclaves = broken.enclaves; fences = broken.fences } in
      decided_setup w.setup left (λ done. breaks_done left run index) (faults run r left) broken.step.outcome refl (λ done. refl) (λ place. refl)

  spares_setup : (w : WorldData) (run : RunNow) (r : Enclave) (positions : List ℕ) (index : ℕ) (spares : List ℕ) → KeepsSetup w.setup (breaks_or_leaves digest_of w run r positions index spares).world
  spares_setup w run r positions index [] = refl
  spares_setup w run r positions index (spare ∷ spares) = breaks_setup w run r positions index

  faults_setup : (w : WorldData) (run : RunNow) (r : Enclave) (positions : List ℕ) (access : Kind) (address : ℕ) (o : Option ℕ) → KeepsSetup w.setup (faults_by digest_of w run r positions access address o).world
  faults_setup w run r positions access address None = refl
  faults_setup w run r positions access address (Some index) = spares_setup w run r positions index r.spares

  page_setup : (w : WorldData) (run : RunNow) (r : Enclave) (positions : List ℕ) (access : Kind) (address : ℕ) → KeepsSetup w.setup (page_faults digest_of w run r positions access address).world
  page_setup w run r positions access address =
      faults_setup w run r positions access address (to_break access (image_of w.setup r.image).pages r.pages address)

  fetch_setup : (w : WorldData) (run : RunNow) (r : Enclave) (positions : List ℕ) (o : Option ℕ) → KeepsSetup w.setup (fetched_in digest_of w run r positions o).world
  fetch_setup w run r positions None = page_setup w run r positions kind.Fetch r.context.pc
  fetch_setup w run r positions (Some page) =
      accesses_setup w (read_word_of digest_of page (word_offset r.context.pc) (going w.ctl positions))
      (λ left eight. acts left run r (part_of_word eight r.context.pc 4) (act_of r.context (part_of_word eight r.context.pc 4))) (faults run r)
      (λ left eight. acts_setup left run r (part_of_word eight r.context.pc 4) (act_of r.context (part_of_word eight r.context.pc 4))) (λ left place. refl)

  load_setup : (w : WorldData) (run : RunNow) (r : Enclave) (positions : List ℕ) (address width : ℕ) (is_signed : Bool) (rd : ℕ) (o : Option ℕ)
      → KeepsSetup w.setup (loads_in digest_of w run r positions address width is_signed rd o).world
  load_setup w run r positions address width is_signed rd None = page_setup w run r positions kind.Load address
  load_setup w run r positions address width is_signed rd (Some page) =
      accesses_setup w (read_word_of digest_of page (word_offset address) (going w.ctl positions))
      (λ left eight. retires left run (retired_with r (loaded r.context rd width is_signed (part_of_word eight address width)))) (faults run r)
      (λ left eight. retires_setup left run (retired_with r (loaded r.context rd width is_signed (part_of_word eight address width)))) (λ left place. refl)

  store_setup : (w : WorldData) (run : RunNow) (r : Enclave) (positions : List ℕ) (address width value : ℕ) (o : Option ℕ)
      → KeepsSetup w.setup (stores_in digest_of w run r positions address width value o).world
  store_setup w run r positions address width value None = page_setup w run r positions kind.Store address
  store_setup w run r positions address width value (Some page) =
      accesses_setup w (write_part_of digest_of page (address % 4096) width value (going w.ctl positions))
      (λ left done. retires left run (retired_with r (advanced r.context))) (faults run r)
      (λ left done. retires_setup left run (retired_with r (advanced r.context))) (λ left place. refl)

  translates_setup : (w : WorldData) (run : RunNow) (r : Enclave) (positions : List ℕ) (on : Walk → Micro) (walk : Walk) (va : ℕ) (access : Kind) (reach : Option ℕ → Event)
      → ((o : Option ℕ) → KeepsSetup w.setup (reach o).world) → KeepsSetup w.setup (run_translates digest_of w run r positions on walk va access reach).world
  translates_setup w run r positions on walk va access reach reached =
      walk_setup w (run_request w run va access) positions walk (run_learns run on va access) (faults run r) (λ pa. reach (option_map page_at pa))
      (run_learns_setup run on va access) (λ v place. refl) (λ pa. reached (option_map page_at pa))

  reach_setup : (w : WorldData) (run : RunNow) (r : Enclave) (positions : List ℕ) (word : ℕ) (walk : Walk) (act : Act) → KeepsSetup w.setup (reaches digest_of w run r positions word walk act).world
  reach_setup w run r positions word walk (Load address width is_signed rd) =
      translates_setup w run r positions (Reaching word) walk address kind.Load
      (loads_in digest_of w run r positions address width is_signed rd) (load_setup w run r positions address width is_signed rd)
  reach_setup w run r positions word walk (Store address width value) =
      translates_setup w run r positions (Reaching word) walk address kind.Store
      (stores_in digest_of w run r positions address width value) (store_setup w run r positions address width value)
  reach_setup w run r positions word walk (Set context) = refl
  reach_setup w run r positions word walk (Call number value) = refl
  reach_setup w run r positions word walk (Trap cause value) = refl

  run_setup : (w : WorldData) (run : RunNow) (r : Enclave) (positions : List ℕ) (micro : Micro) → KeepsSetup w.setup (run_event digest_of w run r positions micro).world
  run_setup w run r positions (Fetching walk) =
      translates_setup w run r positions Fetching walk r.context.pc kind.Fetch (fetched_in digest_of w run r positions) (fetch_setup w run r positions)
  run_setup w run r positions (Reaching word walk) = reach_setup w run r positions word walk (act_of r.context word)
  run_setup w run r positions (Faulting va access) = page_setup w run r positions access va

  abbrev TurnKeepsSetup : SetupParts → Turn → Type 0
  TurnKeepsSetup setup (moves event) = KeepsSetup setup event.world
  TurnKeepsSetup setup (rests why) = Unit {0}

  waiting : (setup : SetupParts) (b : Bool) (event : Event) (why : _) → KeepsSetup setup event.world → TurnKeepsSetup setup (if b then moves event else rests why)
  waiting setup true event why same = same
  waiting setup false event why same = tt

  ending : (setup : SetupParts) (ended : WorldData) (o : Option HartSet) → KeepsSetup setup ended → TurnKeepsSetup setup (waiting_turn ended o)
  ending setup ended None same = same
  ending setup ended (Some harts) same = tt

  ack_setup : (w : WorldData) (hart : ℕ) (o : Option ℕ) → TurnKeepsSetup w.setup (ack_turn w hart o)
  ack_setup w hart None = tt
  ack_setup w hart (Some requester) = acknowledged_setup w hart requester (fence_of w.fences requester)

  puts_setup : (w : WorldData) (hart : ℕ) (positions : List ℕ) (e image : ℕ) (shadow : Bool) (done : ℕ) → KeepsSetup w.setup (put_next digest_of w hart positions e image shadow done).world
  puts_setup w hart positions e image shadow done =
      let step : CreatePut = create_put digest_of w.setup.tables e (image_of w.setup image) shadow done w.enclaves (going w.ctl positions) in
      let left : WorldData = record w { ctl = step.put.after.ctl; enclaves = step.enclaves } in
      decided_setup w.setup left (λ last. if last then answers left hart answer_is.Ok else goes_on left hart (Putting (done + 1)))
      (λ place. answers left hart (answer_is.No (refused.Fault place))) step.put.outcome refl
      (λ last. either w.setup last (answers left hart answer_is.Ok) (goes_on left hart (Putting (done + 1))) refl refl) (λ place. refl)

  due_setup : (w : WorldData) (hart : ℕ) (positions : List ℕ) (line : Line) (under : Under) → TurnKeepsSetup w.setup (due digest_of w hart positions line under)
  due_setup w hart positions (LoadLine va) Idle = begins_access_setup w hart positions va loads
  due_setup w hart positions (LoadLine va) (Seeking walk) = access_setup w hart positions va loads walk
  due_setup w hart positions (StoreLine va word) Idle = begins_access_setup w hart positions va (stores word)
  due_setup w hart positions (StoreLine va word) (Seeking walk) = access_setup w hart positions va (stores word) walk
  due_setup w hart positions (Map va page perms) Idle = maps_setup w hart positions va page perms
  due_setup w hart positions (Unmap va) Idle = begins_unmap_setup w hart positions va
  due_setup w hart positions (Unmap va) (Removing page) = ending w.setup (ends_unmap w hart page) (lacked_by w hart) refl
  due_setup w hart positions (Destroy e) Idle = destroys_setup _ _ hart e
  due_setup w hart positions (Destroy e) Destroying = ending w.setup (ends_destroy w hart e) (lacked_by w hart) refl
  due_setup w hart positions (Drop shadow) Idle = answers_setup _ _ hart
  due_setup w hart positions (Create e image pages) Idle = begins_setup _ _ hart _
  due_setup w hart positions (Create e image pages) (Putting done) = puts_setup w hart positions e.0 image false done
  due_setup w hart positions (Shadow e image pages) Idle = begins_setup _ _ hart _
  due_setup w hart positions (Shadow e image pages) (Putting done) = puts_setup w hart positions e.0 image true done
  due_setup w hart positions (Fork shadow e pages) Idle = begins_setup _ _ hart _
  due_setup w hart positions (Fork shadow e pages) (Putting done) = puts_setup w hart positions e.0 (enclave_at w.enclaves e.0).image false done
  due_setup w hart positions (Grant e page) Idle = answers_setup _ _ hart
  due_setup w hart positions (Run e budget) Idle = begins_setup _ _ hart _
  due_setup w hart positions (Run e budget) (Running micro count) =
      run_setup w (record { hart = hart; e = e.0; budget = budget; count = count }) (enclave_at w.enclaves e.0) positions micro
  due_setup w hart positions (Run e budget) (Breaking count index) = ending w.setup (restarts w hart count) (lacked_by w hart) refl
  due_setup w hart positions (Resume e budget) Idle = begins_setup _ _ hart _
  due_setup w hart positions (Resume e budget) (Running micro count) =
      run_setup w (record { hart = hart; e = e.0; budget = budget; count = count }) (enclave_at w.enclaves e.0) positions micro
  due_setup w hart positions (Resume e budget) (Breaking count index) = ending w.setup (restarts w hart count) (lacked_by w hart) refl
  due_setup w hart positions (Send e word) Idle = changes_setup _ w hart e.0 _ _
  due_setup w hart positions (Take e) Idle = changes_setup _ w hart e.0 _ _
  due_setup w hart positions (AfterLine actor count) Idle = waiting w.setup _ _ _ refl
  due_setup w hart positions line under = tt

  hart_setup : (w : WorldData) (hart : ℕ) (positions : List ℕ) (line : Option Line) → TurnKeepsSetup w.setup (hart_turn digest_of w hart positions line)
  hart_setup w hart positions None = tt
  hart_setup w hart positions (Some line) = due_setup w hart positions line (under_at w.under hart)

  attacker_setup : (w : WorldData) (line : Option AttackLine) → TurnKeepsSetup w.setup (attacker_turn digest_of w line)
  attacker_setup w None = tt
  attacker_setup w (Some (attack.After actor count)) = waiting w.setup _ _ _ refl
  attacker_setup w (Some (attack.Write pa bytes)) = refl
  attacker_setup w (Some (attack.Keep name pa len)) = refl
  attacker_setup w (Some (attack.Back name)) = refl

  actor_setup : (w : WorldData) (actor : Actor) (positions : List ℕ) → TurnKeepsSetup w.setup (actor_turn digest_of w actor positions)
  actor_setup w (actor_is.Hart h) positions = hart_setup w h.0 positions (hart_line w h.0)
  actor_setup w (actor_is.Ack h) positions = ack_setup w h.0 (owed w.fences h.0)
  actor_setup w actor_is.Attacker positions = attacker_setup w (attacker_line w)

  after_setup : (w : WorldData) (turn : Turn) → TurnKeepsSetup w.setup turn → KeepsSetup w.setup (world_after w turn)
  after_setup w (moves event) same = same
  after_setup w (rests why) same = refl

  halted_or : (w : WorldData) (b : Bool) (why : _) (turn : Turn) → TurnKeepsSetup w.setup turn → TurnKeepsSetup w.setup (if b then rests why else turn)
  halted_or w true why turn same = tt
  halted_or w false why turn same = same

  pub stepped_setup : (w : WorldData) (step : Step) → (stepped digest_of w step).setup ≡ w.setup
  unfolding stepped turn_of
  stepped_setup w step = after_setup w _ (halted_or w (is_some w.collision) _ _ (actor_setup w step.actor step.positions))

  pub step_setup : (gives : List SlotUse → ℕ → Type 0) (old new : WorldData) (actor : Actor) → StepOf digest_of gives old actor new → new.setup ≡ old.setup
  step_setup gives old new actor s = ap (λ (w : WorldData). w.setup) s.is ∙ stepped_setup old (record { actor = actor; positions = s.positions })
