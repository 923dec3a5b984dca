-- Each event of a hart adds at most one answer, to its first line that isn't answered.
use Rattle.std.proofs.Common.{◌≡◌, ℕ, ◌+◌, ◌%◌, ◌==◌, Bool, true, false, if◌then◌else◌, List, [], ◌∷◌, ◌++◌, Option, Some, None, refl, ap, ◌∙◌, inl, inr}
use Rattle.std.specs.Prelude.{slice_set, option_map, Result, Ok, Err}
use Rattle.pl_base.specs.declared.access.Kind.{Kind}
use Rattle.pl_base.specs.declared.access.Kind.TheVariants as kind
use Rattle.pl_base.specs.declared.address.Pa.{Pa}
use Rattle.pl_base.specs.declared.address.Va.{Va}
use Rattle.pl_base.specs.declared.number.EncNo.{EncNo}
use Rattle.pl_base.specs.declared.perms.Perms.{Perms}
use Rattle.pl_base.specs.declared.place.Place.{Place}
use Rattle.pl_base.specs.declared.refusal.No.{No}
use Rattle.pl_base.specs.declared.refusal.No.TheVariants as refused
use Rattle.pl_base.specs.declared.state.Why.{Why}
use Rattle.pl_base.specs.declared.state.Why.TheVariants as why_is
use Rattle.mem_ctl.specs.Calls.{read_word_of, write_part_of}
use Rattle.mem_ctl.specs.Data.{After, Again, Collision, CtlData, Fault, Outcome, Value, going}
use Rattle.mon_enclave.specs.declared.enclave.Enclave.{Enclave}
use Rattle.mon_enclave.specs.Records.{has_room, received_word, with_enclave}
use Rattle.mon_fence.specs.declared.fences.Fence.{Fence}
use Rattle.mon_host.specs.Leaves.{HostEvent}
use Rattle.mon_host.specs.Mapping.{map_of}
use Rattle.mon_host.specs.Unmapping.{unmap_begun}
use Rattle.mon_owner.specs.declared.owners.Owner.{Owner}
use Rattle.mon_life.specs.Destroying.{DestroyBegun, destroy_begun}
use Rattle.mon_life.specs.Making.{PagesTaken, create_begun}
use Rattle.mon_life.specs.Putting.{CreatePut, create_put}
use Rattle.mon_life.specs.Running.{RunBegun, run_begun}
use Rattle.mon_shadow.specs.Breaking.{PageBroken, page_broken}
use Rattle.mon_shadow.specs.Dropping.{ShadowDropped, shadow_dropped}
use Rattle.mon_shadow.specs.Forking.{fork_begun}
use Rattle.mon_shadow.specs.Granting.{grant_made}
use Rattle.rv_alone.specs.declared.step.Act.{Act}
use Rattle.rv_alone.specs.declared.step.Act.TheVariants.{Set, Load, Store, Call, Trap}
use Rattle.rv_alone.specs.Effect.{act_of, advanced, loaded, with_register}
use Rattle.rv_hart.specs.declared.walks.Micro.{Micro}
use Rattle.rv_hart.specs.declared.walks.Micro.TheVariants.{Fetching, Reaching, Faulting}
use Rattle.rv_hart.specs.declared.walks.PageFault.{PageFault as NoPage}
use Rattle.rv_hart.specs.declared.walks.Walk.{Walk}
use Rattle.rv_hart.specs.declared.walks.Walk.TheVariants.{Start}
use Rattle.rv_hart.specs.Learning.{learned, tlb_after}
use Rattle.rv_pmp.specs.Pmp.{permits}
use Rattle.rv_tlb.specs.declared.tlb.TlbEntry.{TlbEntry}
use Rattle.pl_history.specs.declared.answer.Answer.{Answer}
use Rattle.pl_history.specs.declared.answer.Answer.TheVariants as answer_is
use Rattle.pl_history.specs.Protection.{pmp_of}
use Rattle.world_machine.specs.declared.under.Under.{Under}
use Rattle.world_machine.specs.declared.under.Under.TheVariants.{Putting}
use Rattle.world_machine.specs.Acknowledging.{acknowledged}
use Rattle.world_machine.specs.Adding.{AddsAtMostOne}
use Rattle.world_machine.specs.Answering.{answers, decided, goes_on, quiet}
use Rattle.world_machine.specs.GivingBack.{begins_destroy, destroys_unless, drops_shadow}
use Rattle.world_machine.specs.HostAccessing.{WordAccess, accesses_host, begins_access, host_faults, host_learns, host_request, kind_of, loads, made, reaches_host, stores}
use Rattle.world_machine.specs.HostMapping.{begins_unmap, mapped, maps, unmapped}
use Rattle.world_machine.specs.Making.{answers_by, begin_create, begin_fork, begins_unless, grants_page, image_of, put_next}
use Rattle.world_machine.specs.Pages.{part_of_word, to_break, word_offset}
use Rattle.world_machine.specs.Running.{RunNow, acts, begin_run, breaks_done, breaks_or_leaves, calls, faults, faults_by, fetched_in, fetches_next, leaves, loads_in, page_faults, perms_at, reaches, receives, restarts, retired_with, retires, run_event, run_learns, run_request, run_translates, stores_in}
use Rattle.world_machine.specs.Talking.{changes_unless}
use Rattle.world_machine.specs.Translating.{Request, offset_at, page_at, reads_table, sought_in, translated}
use Rattle.world_machine.specs.Worlds.{Event, WorldData, answered_at, tlb_at, with_tlb}
use Rattle.world_machine.proofs.WordsRead.{by_sought, by_test}

-- an event before its move is counted
pub record Adds (w : WorldData) (actor : ℕ) (v : WorldData) : Type 0 where
  pub entries : AddsAtMostOne w actor v
  pub moves : v.moves ≡ w.moves

nothing_adds : (w : WorldData) (actor : ℕ) (v : WorldData) → v.history.entries ≡ w.history.entries → v.moves ≡ w.moves → Adds w actor v
nothing_adds w actor v entries counts = record { entries = inl entries; moves = counts }

either_adds : (w : WorldData) (actor : ℕ) (b : Bool) (x y : WorldData) → Adds w actor x → Adds w actor y → Adds w actor (if b then x else y)
either_adds w actor true x y p q = p
either_adds w actor false x y p q = q

-- an access decides within a world that has the history, the answered lines and the moves of the one before
decided_adds : {A : Type 0} (w : WorldData) (actor : ℕ) (left : WorldData) (then_gives : A → WorldData) (fault_gives : Place → WorldData) (o : Outcome A)
    → left.history.entries ≡ w.history.entries → left.moves ≡ w.moves → ((a : A) → Adds w actor (then_gives a)) → ((place : Place) → Adds w actor (fault_gives place))
    → Adds w actor (decided left then_gives fault_gives o)
decided_adds w actor left then_gives fault_gives (Value a) entries counts value fault = value a
decided_adds w actor left then_gives fault_gives (Fault place) entries counts value fault = fault place
decided_adds w actor left then_gives fault_gives (Collision place held written) entries counts value fault = nothing_adds w actor _ entries counts
decided_adds w actor left then_gives fault_gives (Again root taken) entries counts value fault = nothing_adds w actor left entries counts

module _ (digest_of : List ℕ → List ℕ) (w : WorldData) (hart : ℕ) where
  -- an answer of the hart
  pub answer_adds : (now : Answer) (v : WorldData) → v.history.entries ≡ w.history.entries ++ record { actor = hart; line = answered_at w.answered hart; answer = now } ∷ [] → v.moves ≡ w.moves
      → Adds w hart v
  answer_adds now v entries counts = record { entries = inr (now, entries); moves = counts }

  -- lines that haven't begun
  begins_adds : (o : Option No) (v : WorldData) (u : Under) → v.history.entries ≡ w.history.entries → v.answered ≡ w.answered → v.moves ≡ w.moves → Adds w hart (begins_unless o v hart u)
  begins_adds (Some cause) v u entries answered counts =
      answer_adds (answer_is.No cause) _
      (ap (λ es. es ++ record { actor = hart; line = answered_at v.answered hart; answer = answer_is.No cause } ∷ []) entries
      ∙ ap (λ xs. w.history.entries ++ record { actor = hart; line = answered_at xs hart; answer = answer_is.No cause } ∷ []) answered) counts
  begins_adds None v u entries answered counts =
      answer_adds answer_is.Begun _
      (ap (λ es. es ++ record { actor = hart; line = answered_at v.answered hart; answer = answer_is.Begun } ∷ []) entries
      ∙ ap (λ xs. w.history.entries ++ record { actor = hart; line = answered_at xs hart; answer = answer_is.Begun } ∷ []) answered) counts

  pub changes_adds : (o : Option No) (e : ℕ) (r : Enclave) (now : Answer) → Adds w hart (changes_unless o w hart e r now)
  changes_adds (Some cause) e r now = answer_adds (answer_is.No cause) _ refl refl
  changes_adds None e r now = answer_adds now _ refl refl

  pub create_adds : (e image : ℕ) (pages : List ℕ) (shadow : Bool) → Adds w hart (begin_create w hart e image pages shadow).world
  create_adds e image pages shadow =
      let begun : PagesTaken = create_begun w.owners w.enclaves (pmp_of w.setup) e image (image_of w.setup image) pages shadow in
      begins_adds begun.refusal (record w { owners = begun.owners; enclaves = begun.enclaves }) (Putting 0) refl refl refl

  pub fork_adds : (shadow : EncNo) (e : ℕ) (pages : List ℕ) → Adds w hart (begin_fork w hart shadow e pages).world
  fork_adds shadow e pages =
      let begun : PagesTaken = fork_begun w.owners w.enclaves (pmp_of w.setup) shadow e pages in
      begins_adds begun.refusal (record w { owners = begun.owners; enclaves = begun.enclaves }) _ refl refl refl

  -- lines that are answered at once
  done_adds : (o : Option No) (ctl : CtlData) (owners : List Owner) (enclaves : List Enclave)
      → Adds w hart (answers_by o (record w { ctl = ctl; owners = owners; enclaves = enclaves }) hart)
  done_adds (Some cause) ctl owners enclaves = answer_adds (answer_is.No cause) _ refl refl
  done_adds None ctl owners enclaves = answer_adds answer_is.Ok _ refl refl

  pub grant_adds : (e page : ℕ) → Adds w hart (grants_page w hart e page).world
  grant_adds e page = let made : PagesTaken = grant_made w.owners w.enclaves (pmp_of w.setup) e page in done_adds made.refusal w.ctl made.owners made.enclaves

  pub drop_adds : (shadow : ℕ) → Adds w hart (drops_shadow w hart shadow).world
  drop_adds shadow =
      let dropped : ShadowDropped = shadow_dropped w.ctl w.owners w.enclaves shadow in
      done_adds dropped.refusal dropped.ctl dropped.owners dropped.enclaves

  pub begin_adds : (e : ℕ) (first : Bool) → Adds w hart (begin_run w hart e first).world
  begin_adds e first =
      let begun : RunBegun = run_begun w.enclaves (record { 0 = hart }) e first in
      begins_adds begun.refusal (record w { enclaves = begun.enclaves }) _ refl refl refl

  -- an event of a walk, or of the access that it leads to
  walk_adds : (request : Request) (positions : List ℕ) (walk : Walk) (learns : WorldData → Result Walk NoPage → WorldData) (faulted : WorldData → Place → WorldData) (reach : Option Pa → Event)
      → ((ctl : CtlData) (tlbs : List (List TlbEntry)) (result : Result Walk NoPage) → Adds w hart (learns (record w { ctl = ctl; tlbs = tlbs }) result))
      → ((ctl : CtlData) (place : Place) → Adds w hart (faulted (record w { ctl = ctl }) place)) → ((o : Option Pa) → Adds w hart (reach o).world)
      → Adds w hart (translated (sought_in w request walk) (reads_table digest_of w request positions walk learns faulted) reach).world
  walk_adds request positions walk learns faulted reach learn fault reached =
      by_sought (λ event. Adds w hart event.world) w request (reads_table digest_of w request positions walk learns faulted) reach walk
      (λ asks pa.
      let read : After ℕ = read_word_of digest_of (page_at pa) (offset_at pa) (going w.ctl positions) in
      let left : WorldData = record w { ctl = read.after.ctl } in
      decided_adds w hart left
      (λ word. learns (with_tlb left request.hart (tlb_after walk word request.va request.kind request.view (tlb_at w.tlbs request.hart))) (learned walk word request.va request.kind request.view))
      (faulted left) read.outcome refl refl
      (λ word. learn read.after.ctl (slice_set w.tlbs request.hart (tlb_after walk word request.va request.kind request.view (tlb_at w.tlbs request.hart)))
      (learned walk word request.va request.kind request.view))
      (fault read.after.ctl))
      reached

  -- an access of the host
  host_learns_adds : (ctl : CtlData) (tlbs : List (List TlbEntry)) (result : Result Walk NoPage) → Adds w hart (host_learns hart (record w { ctl = ctl; tlbs = tlbs }) result)
  host_learns_adds ctl tlbs (Ok walk) = nothing_adds w hart _ refl refl
  host_learns_adds ctl tlbs (Err none) = answer_adds (answer_is.No refused.PageFault) _ refl refl

  made_adds : (pa : Pa) (a : WordAccess) → Adds w hart (made w hart pa a)
  made_adds pa loads = answer_adds _ (made w hart pa loads) refl refl
  made_adds pa (stores word) = answer_adds answer_is.Ok _ refl refl

  module _ (va : Va) (access : WordAccess) where
    reaches_host_adds : (o : Option Pa) → Adds w hart (reaches_host w hart access o).world
    reaches_host_adds None = answer_adds (answer_is.No refused.PageFault) _ refl refl
    reaches_host_adds (Some pa) = either_adds w hart (permits (pmp_of w.setup) pa.0 8 (kind_of access)) (made w hart pa access) (answers w hart (answer_is.No refused.AccessFault))
        (made_adds pa access) (answer_adds (answer_is.No refused.AccessFault) _ refl refl)

    pub access_adds : (positions : List ℕ) (walk : Walk) → Adds w hart (accesses_host digest_of w hart positions va access walk).world
    access_adds positions walk = walk_adds (host_request w hart va access) positions walk (host_learns hart) (host_faults hart) (reaches_host w hart access)
        host_learns_adds (λ ctl place. answer_adds (answer_is.No (refused.Fault place)) _ refl refl) reaches_host_adds

    pub begins_access_adds : (positions : List ℕ) → Adds w hart (begins_access digest_of w hart positions va access).world
    begins_access_adds positions =
        by_test (λ event. Adds w hart event.world) (va.0 % 8 == 0) (accesses_host digest_of w hart positions va access Start) (quiet (answers w hart (answer_is.No refused.Misaligned)))
        (access_adds positions Start) (answer_adds (answer_is.No refused.Misaligned) _ refl refl)

  -- a mapping that is made, and one that is taken away
  mapped_adds : (ctl : CtlData) (owners : List Owner) (result : Result (Unit {0}) No) → Adds w hart (mapped hart (record w { ctl = ctl; owners = owners }) result)
  mapped_adds ctl owners (Ok done) = answer_adds answer_is.Ok _ refl refl
  mapped_adds ctl owners (Err cause) = answer_adds (answer_is.No cause) _ refl refl

  pub maps_adds : (positions : List ℕ) (va : Va) (page : ℕ) (perms : Perms) → Adds w hart (maps digest_of w hart positions va page perms).world
  maps_adds positions va page perms =
      let event : HostEvent (Unit {0}) (List Owner) = map_of digest_of w.setup.tables w.fences w.owners va page perms (going w.ctl positions) in
      let left : WorldData = record w { ctl = event.step.after.ctl; owners = event.rest } in
      decided_adds w hart left (mapped hart left) (host_faults hart left) event.step.outcome refl refl (mapped_adds event.step.after.ctl event.rest)
      (λ place. answer_adds (answer_is.No (refused.Fault place)) _ refl refl)

  unmapped_adds : (va : Va) (ctl : CtlData) (fences : List (Option Fence)) (result : Result ℕ No) → Adds w hart (unmapped hart va (record w { ctl = ctl; fences = fences }) result)
  unmapped_adds va ctl fences (Ok page) = answer_adds answer_is.Begun _ refl refl
  unmapped_adds va ctl fences (Err cause) = answer_adds (answer_is.No cause) _ refl refl

  pub begins_unmap_adds : (positions : List ℕ) (va : Va) → Adds w hart (begins_unmap digest_of w hart positions va).world
  begins_unmap_adds positions va =
      let event : HostEvent ℕ (List (Option Fence)) = unmap_begun digest_of w.setup.tables w.fences hart va (going w.ctl positions) in
      let left : WorldData = record w { ctl = event.step.after.ctl; fences = event.rest } in
      decided_adds w hart left (unmapped hart va left) (host_faults hart left) event.step.outcome refl refl (unmapped_adds va event.step.after.ctl event.rest)
      (λ place. answer_adds (answer_is.No (refused.Fault place)) _ refl refl)

  -- a number that is given back
  destroys_adds : (o : Option No) (enclaves : List Enclave) (fences : List (Option Fence)) (e : EncNo)
      → Adds w hart (destroys_unless o (record w { enclaves = enclaves; fences = fences }) hart e)
  destroys_adds (Some cause) enclaves fences e = answer_adds (answer_is.No cause) _ refl refl
  destroys_adds None enclaves fences e = answer_adds answer_is.Begun _ refl refl

  pub begins_destroy_adds : (e : EncNo) → Adds w hart (begins_destroy w hart e).world
  begins_destroy_adds e =
      let begun : DestroyBegun = destroy_begun w.enclaves w.fences hart e in
      destroys_adds begun.refusal begun.enclaves begun.fences e

  -- an acknowledgement answers nothing
  pub acknowledged_adds : (requester : ℕ) (fence : Option Fence) → Adds w hart (acknowledged w hart requester fence)
  acknowledged_adds requester None = nothing_adds w hart w refl refl
  acknowledged_adds requester (Some fence) = nothing_adds w hart (acknowledged w hart requester (Some fence)) refl refl

  -- nor does an instruction that starts anew
  pub restart_adds : (count : ℕ) → Adds w hart (restarts w hart count)
  restart_adds count = nothing_adds w hart (restarts w hart count) refl refl

  -- a number that is being made
  pub put_adds : (positions : List ℕ) (e image : ℕ) (shadow : Bool) (done : ℕ) → Adds w hart (put_next digest_of w hart positions e image shadow done).world
  put_adds positions e image shadow done =
      let step : CreatePut = create_put digest_of w.setup.tables e (image_of w.setup image) shadow done w.enclaves (going w.ctl positions) in
      let left : WorldData = record w { ctl = step.put.after.ctl; enclaves = step.enclaves } in
      decided_adds w hart left (λ last. if last then answers left hart answer_is.Ok else goes_on left hart (Putting (done + 1)))
      (λ place. answers left hart (answer_is.No (refused.Fault place))) step.put.outcome refl refl
      (λ last. either_adds w hart last (answers left hart answer_is.Ok) (goes_on left hart (Putting (done + 1))) (answer_adds answer_is.Ok _ refl refl) (nothing_adds w hart _ refl refl))
      (λ place. answer_adds (answer_is.No (refused.Fault place)) _ refl refl)

  -- a run under way
  module _ (e budget count : ℕ) (r : Enclave) where
    abbrev run : RunNow
    run = record { hart = hart; e = e; budget = budget; count = count }

    module _ (ctl : CtlData) where
      abbrev left : WorldData
      left = record w { ctl = ctl }

      leave_adds : (now : Enclave) (n : ℕ) (why : Why) → Adds w hart (leaves left run now n why)
      leave_adds now n why = answer_adds (answer_is.Left n why) _ refl refl

      retire_adds : (now : Enclave) → Adds w hart (retires left run now)
      retire_adds now = either_adds w hart (count + 1 == budget) (leaves left run now (count + 1) why_is.Budget) (fetches_next (record left { enclaves = with_enclave w.enclaves e now }) run (count + 1))
          (leave_adds now (count + 1) why_is.Budget) (nothing_adds w hart (fetches_next (record left { enclaves = with_enclave w.enclaves e now }) run (count + 1)) refl refl)

      receive_adds : (o : Option ℕ) → Adds w hart (receives left run r o)
      receive_adds None = leave_adds r count why_is.Waiting
      receive_adds (Some word) = retire_adds (record (retired_with r (advanced (with_register r.context 10 word))) { received = r.received + 1 })

      call_adds : (number value : ℕ) → Adds w hart (calls left run r number value)
      call_adds number value =
          either_adds w hart (number == 1) _ _ (leave_adds (retired_with r r.context) (count + 1) (why_is.Ended value))
          (either_adds w hart (number == 2) _ _ (receive_adds (received_word r))
          (either_adds w hart (number == 3) _ _
          (either_adds w hart (has_room r) _ _ (retire_adds (record (retired_with r (advanced r.context)) { out = r.out ++ value ∷ [] })) (leave_adds r count why_is.OutFull))
          (leave_adds r count (why_is.Trapped 8 number))))

      act_adds : (word : ℕ) (act : Act) → Adds w hart (acts left run r word act)
      act_adds word (Set context) = retire_adds (retired_with r context)
      act_adds word (Load address width is_signed rd) = nothing_adds w hart _ refl refl
      act_adds word (Store address width value) = nothing_adds w hart _ refl refl
      act_adds word (Call number value) = call_adds number value
      act_adds word (Trap cause value) = leave_adds r count (why_is.Trapped cause value)

    module _ (positions : List ℕ) where
      -- no page serves an access: a page is broken, or the run leaves
      break_adds : (index : ℕ) (spares : List ℕ) → Adds w hart (breaks_or_leaves digest_of w run r positions index spares).world
      break_adds index [] = leave_adds w.ctl r count _
      break_adds index (spare ∷ spares) =
          let broken : PageBroken =
          page_broken digest_of w.setup.tables hart (record { 0 = e }) index (perms_at w.setup r index) w.enclaves w.fences (going w.ctl positions) in
          let now : WorldData = record w { ctl = broken.step.after.ctl; enclaves = broken.enclaves; fences = broken.fences } in
          decided_adds w hart now (λ done. breaks_done now run index) (faults run r now) broken.step.outcome refl refl
          (λ done. nothing_adds w hart (breaks_done now run index) refl refl) (λ place. answer_adds (answer_is.Left count (why_is.Fault place)) _ refl refl)

      fault_adds : (access : Kind) (address : ℕ) → Adds w hart (page_faults digest_of w run r positions access address).world
      fault_adds access address = by_place (to_break access (image_of w.setup r.image).pages r.pages address)
        where
          by_place : (o : Option ℕ) → Adds w hart (faults_by digest_of w run r positions access address o).world
          by_place None = leave_adds w.ctl r count _
          by_place (Some index) = break_adds index r.spares

      fetch_adds : (o : Option ℕ) → Adds w hart (fetched_in digest_of w run r positions o).world
      fetch_adds None = fault_adds kind.Fetch r.context.pc
      fetch_adds (Some page) =
          let access : After ℕ = read_word_of digest_of page (word_offset r.context.pc) (going w.ctl positions) in
          let now : WorldData = record w { ctl = access.after.ctl } in
          decided_adds w hart now (λ eight. acts now run r (part_of_word eight r.context.pc 4) (act_of r.context (part_of_word eight r.context.pc 4))) (faults run r now) access.outcome refl refl
          (λ eight. act_adds access.after.ctl (part_of_word eight r.context.pc 4) (act_of r.context (part_of_word eight r.context.pc 4)))
          (λ place. leave_adds access.after.ctl r count _)

      load_adds : (address width : ℕ) (is_signed : Bool) (rd : ℕ) (o : Option ℕ) → Adds w hart (loads_in digest_of w run r positions address width is_signed rd o).world
      load_adds address width is_signed rd None = fault_adds kind.Load address
      load_adds address width is_signed rd (Some page) =
          let access : After ℕ = read_word_of digest_of page (word_offset address) (going w.ctl positions) in
          let now : WorldData = record w { ctl = access.after.ctl } in
          decided_adds w hart now (λ eight. retires now run (retired_with r (loaded r.context rd width is_signed (part_of_word eight address width)))) (faults run r now) access.outcome refl refl
          (λ eight. retire_adds access.after.ctl _) (λ place. leave_adds access.after.ctl r count _)

      store_adds : (address width value : ℕ) (o : Option ℕ) → Adds w hart (stores_in digest_of w run r positions address width value o).world
      store_adds address width value None = fault_adds kind.Store address
      store_adds address width value (Some page) =
          let access : After (Unit {0}) = write_part_of digest_of page (address % 4096) width value (going w.ctl positions) in
          let now : WorldData = record w { ctl = access.after.ctl } in
          decided_adds w hart now (λ done. retires now run (retired_with r (advanced r.context))) (faults run r now) access.outcome refl refl
          (λ done. retire_adds access.after.ctl _) (λ place. leave_adds access.after.ctl r count _)

      learns_adds : (on : Walk → Micro) (va : ℕ) (access : Kind) (ctl : CtlData) (tlbs : List (List TlbEntry)) (result : Result Walk NoPage)
          → Adds w hart (run_learns run on va access (record w { ctl = ctl; tlbs = tlbs }) result)
      learns_adds on va access ctl tlbs (Ok walk) = nothing_adds w hart _ refl refl
      learns_adds on va access ctl tlbs (Err none) = nothing_adds w hart _ refl refl

      translates_adds : (on : Walk → Micro) (walk : Walk) (va : ℕ) (access : Kind) (reach : Option ℕ → Event) → ((o : Option ℕ) → Adds w hart (reach o).world)
          → Adds w hart (run_translates digest_of w run r positions on walk va access reach).world
      translates_adds on walk va access reach reached =
          walk_adds (run_request w run va access) positions walk (run_learns run on va access) (faults run r) (λ pa. reach (option_map page_at pa))
          (learns_adds on va access) (λ ctl place. leave_adds ctl r count _) (λ pa. reached (option_map page_at pa))

      reach_adds : (word : ℕ) (walk : Walk) (act : Act) → Adds w hart (reaches digest_of w run r positions word walk act).world
      reach_adds word walk (Load address width is_signed rd) =
          translates_adds (Reaching word) walk address kind.Load (loads_in digest_of w run r positions address width is_signed rd) (load_adds address width is_signed rd)
      reach_adds word walk (Store address width value) =
          translates_adds (Reaching word) walk address kind.Store (stores_in digest_of w run r positions address width value) (store_adds address width value)
      reach_adds word walk (Set context) = nothing_adds w hart _ refl refl
      reach_adds word walk (Call number value) = nothing_adds w hart _ refl refl
      reach_adds word walk (Trap cause value) = nothing_adds w hart _ refl refl

      pub run_adds : (micro : Micro) → Adds w hart (run_event digest_of w run r positions micro).world
      run_adds (Fetching walk) = translates_adds Fetching walk r.context.pc kind.Fetch (fetched_in digest_of w run r positions) fetch_adds
      run_adds (Reaching word walk) = reach_adds word walk (act_of r.context word)
      run_adds (Faulting va access) = fault_adds access va
