-- Events with an access, from what the controller answered.
use Rattle.std.proofs.Common.{◌≡◌, ℕ, ◌+◌, List, [], Bool, Option, Some, ap, ◌∙◌, subst, if◌then◌else◌}
use Rattle.std.specs.Prelude.{Result, Ok, Err}
use Rattle.pl_base.specs.declared.address.Pa.{Pa}
use Rattle.pl_base.specs.declared.address.Va.{Va}
use Rattle.pl_base.specs.declared.perms.Perms.{Perms}
use Rattle.pl_base.specs.declared.place.Place.{Place}
use Rattle.pl_base.specs.declared.refusal.No.{No}
use Rattle.rv_hart.specs.declared.seeking.Sought.{Sought}
use Rattle.mem_slots.specs.declared.slot_use.SlotUse.{SlotUse}
use Rattle.mem_ctl.specs.Calls.{read_word_of}
use Rattle.mem_ctl.specs.Data.{After, CtlData, Going, Outcome, Value, Fault, Collision, Again, going}
use Rattle.mem_ctl.specs.Results.{IsCall}
use Rattle.mem_ctl.specs.Stops.{StepAnswer, Done, Refused, Collided, answer_to}
use Rattle.mon_enclave.specs.declared.enclave.Enclave.{Enclave}
use Rattle.mon_fence.specs.declared.fences.Fence.{Fence}
use Rattle.mon_host.specs.Leaves.{HostEvent, IsHostEvent, host_answer}
use Rattle.mon_host.specs.Mapping.{map_of}
use Rattle.mon_host.specs.Unmapping.{unmap_begun}
use Rattle.mon_life.specs.Putting.{CreatePut, IsCreatePut, create_put}
use Rattle.mon_owner.specs.declared.owners.Owner.{Owner}
use Rattle.world_events.specs.Events.{IsEvent, mapped_by, put_by, unmapped_by}
use Rattle.world_machine.specs.declared.under.Under.TheVariants.{Putting}
use Rattle.world_machine.specs.Answering.{accesses, answers, decided, goes_on, quiet}
use Rattle.world_machine.specs.HostAccessing.{host_faults}
use Rattle.world_machine.specs.HostMapping.{begins_unmap, mapped, maps, unmapped}
use Rattle.world_machine.specs.Making.{image_of, put_next}
use Rattle.world_machine.specs.Running.{faults}
use Rattle.world_machine.specs.Translating.{offset_at, page_at, translated}
use Rattle.world_machine.specs.Worlds.{Event, WorldData}
use Rattle.pl_base.specs.declared.refusal.No.TheVariants as refused
use Rattle.pl_history.specs.declared.answer.Answer.TheVariants as answer_is

-- an event without an access
pub quiet_event : (gives : List SlotUse → ℕ → Type 0) (new now : WorldData) → new ≡ now → IsEvent gives (λ positions. quiet now) new
quiet_event gives new now is = record { positions = []; given = tt; is = is }

-- an access, and what it decided
pub access_event : {A : Type 0} (gives : List SlotUse → ℕ → Type 0) (call : Going → After A) (goes : WorldData → A → WorldData) (faults : WorldData → Place → WorldData)
    (old mid new : WorldData) (outcome : Outcome A) → IsCall gives call old.ctl outcome mid.ctl → mid ≡ record old { ctl = mid.ctl } → new ≡ decided mid (goes mid) (faults mid) outcome
    → IsEvent gives (λ positions. accesses old (call (going old.ctl positions)) goes faults) new
access_event gives call goes faults old mid new outcome access rest is = record {
  positions = access.positions;
  given = access.given;
  is =
      let left : WorldData = record old { ctl = (call (going old.ctl access.positions)).after.ctl } in
      let same : mid ≡ left = rest ∙ ap (λ (x : CtlData). record old { ctl = x }) access.now in
      is ∙ ap (λ (w : WorldData). decided w (goes w) (faults w) outcome) same ∙ ap (λ o. decided left (goes left) (faults left) o) access.is;
}

-- the word at an address was read, and what it decided
pub read_event : (gives : List SlotUse → ℕ → Type 0) (digest_of : List ℕ → List ℕ) (pa : Pa) (page offset : ℕ) (goes : WorldData → ℕ → WorldData) (faults : WorldData → Place → WorldData)
    (old mid new : WorldData) (outcome : Outcome ℕ) → page ≡ page_at pa → offset ≡ offset_at pa → IsCall gives (read_word_of digest_of page offset) old.ctl outcome mid.ctl
    → mid ≡ record old { ctl = mid.ctl } → new ≡ decided mid (goes mid) (faults mid) outcome
    → IsEvent gives (λ positions. accesses old (read_word_of digest_of (page_at pa) (offset_at pa) (going old.ctl positions)) goes faults) new
read_event gives digest_of pa page offset goes faults old mid new outcome page_is offset_is access rest is =
    access_event gives (read_word_of digest_of (page_at pa) (offset_at pa)) goes faults old mid new outcome
    (subst (λ (n : ℕ). IsCall gives (read_word_of digest_of n (offset_at pa)) old.ctl outcome mid.ctl) page_is
    (subst (λ (n : ℕ). IsCall gives (read_word_of digest_of page n) old.ctl outcome mid.ctl) offset_is access)) rest is

-- what was asked for is what the walk asks for
pub translated_event : (gives : List SlotUse → ℕ → Type 0) (now asked : Sought) (reads : List ℕ → Pa → Event) (reaches : List ℕ → Option Pa → Event) (new : WorldData) → now ≡ asked
    → IsEvent gives (λ positions. translated now (reads positions) (reaches positions)) new → IsEvent gives (λ positions. translated asked (reads positions) (reaches positions)) new
translated_event gives now asked reads reaches new is =
    subst (λ (s : Sought). IsEvent gives (λ positions. translated s (reads positions) (reaches positions)) new) is

module _ (w : WorldData) (hart done : ℕ) where
  put_decided : (o : Outcome Bool) (a : StepAnswer Bool) → answer_to o ≡ Some a
      → put_by w hart done a
      ≡ decided w (λ last. if last then answers w hart answer_is.Ok else goes_on w hart (Putting (done + 1))) (λ place. answers w hart (answer_is.No (refused.Fault place))) o
  put_decided (Value last) a is = let same : a ≡ Done last = cc in ap (put_by w hart done) same
  put_decided (Fault place) a is = let same : a ≡ Refused (refused.Fault place) = cc in ap (put_by w hart done) same
  put_decided (Collision place held written) a is = let same : a ≡ Collided place held written = cc in ap (put_by w hart done) same
  put_decided (Again taken root) a is = cc

-- a page was put, and what it decided
pub put_event : (gives : List SlotUse → ℕ → Type 0) (digest_of : List ℕ → List ℕ) (old mid new : WorldData) (hart e image : ℕ) (shadow : Bool) (done : ℕ) (answered : StepAnswer Bool)
    → IsCreatePut gives (create_put digest_of old.setup.tables e (image_of old.setup image) shadow done old.enclaves) old.ctl answered mid.ctl mid.enclaves
    → mid ≡ record old { ctl = mid.ctl; enclaves = mid.enclaves } → new ≡ put_by mid hart done answered
    → IsEvent gives (λ positions. put_next digest_of old hart positions e image shadow done) new
put_event gives digest_of old mid new hart e image shadow done answered step rest is = record {
  positions = step.positions;
  given = step.given;
  is =
      let s : CreatePut = create_put digest_of old.setup.tables e (image_of old.setup image) shadow done old.enclaves (going old.ctl step.positions) in
      let left : WorldData = record old { ctl = s.put.after.ctl; enclaves = s.enclaves } in
      let same : mid ≡ left = rest ∙ ap (λ (x : CtlData). record old { ctl = x; enclaves = mid.enclaves }) step.now ∙ ap (λ (all : List Enclave). record old { ctl = s.put.after.ctl; enclaves = all }) step.made in
      is ∙ ap (λ (w : WorldData). put_by w hart done answered) same ∙ put_decided left hart done s.put.outcome answered step.is;
}

-- ---- the host's mappings

module _ (w : WorldData) (hart : ℕ) where
  map_decided : (o : Outcome (Result (Unit {0}) No)) (a : StepAnswer (Unit {0})) → host_answer o ≡ Some a → mapped_by w hart a ≡ decided w (mapped hart w) (host_faults hart w) o
  map_decided (Value (Ok done)) a is = let same : a ≡ Done done = cc in ap (mapped_by w hart) same
  map_decided (Value (Err cause)) a is = let same : a ≡ Refused cause = cc in ap (mapped_by w hart) same
  map_decided (Fault place) a is = let same : a ≡ Refused (refused.Fault place) = cc in ap (mapped_by w hart) same
  map_decided (Collision place held written) a is = let same : a ≡ Collided place held written = cc in ap (mapped_by w hart) same
  map_decided (Again taken root) a is = cc

  unmap_decided : (va : Va) (o : Outcome (Result ℕ No)) (a : StepAnswer ℕ) → host_answer o ≡ Some a → unmapped_by w hart va a ≡ decided w (unmapped hart va w) (host_faults hart w) o
  unmap_decided va (Value (Ok page)) a is = let same : a ≡ Done page = cc in ap (unmapped_by w hart va) same
  unmap_decided va (Value (Err cause)) a is = let same : a ≡ Refused cause = cc in ap (unmapped_by w hart va) same
  unmap_decided va (Fault place) a is = let same : a ≡ Refused (refused.Fault place) = cc in ap (unmapped_by w hart va) same
  unmap_decided va (Collision place held written) a is = let same : a ≡ Collided place held written = cc in ap (unmapped_by w hart va) same
  unmap_decided va (Again taken root) a is = cc

-- a page was mapped, and what was answered
pub map_event : (gives : List SlotUse → ℕ → Type 0) (digest_of : List ℕ → List ℕ) (old mid new : WorldData) (hart : ℕ) (va : Va) (page : ℕ) (perms : Perms) (answered : StepAnswer (Unit {0}))
    → IsHostEvent gives (map_of digest_of old.setup.tables old.fences old.owners va page perms) old.ctl answered mid.ctl mid.owners
    → mid ≡ record old { ctl = mid.ctl; owners = mid.owners } → new ≡ mapped_by mid hart answered
    → IsEvent gives (λ positions. maps digest_of old hart positions va page perms) new
map_event gives digest_of old mid new hart va page perms answered step rest is = record {
  positions = step.positions;
  given = step.given;
  is =
      let event : HostEvent (Unit {0}) (List Owner) = map_of digest_of old.setup.tables old.fences old.owners va page perms (going old.ctl step.positions) in
      let left : WorldData = record old { ctl = event.step.after.ctl; owners = event.rest } in
      let same : mid ≡ left = rest ∙ ap (λ (x : CtlData). record old { ctl = x; owners = mid.owners }) step.now ∙ ap (λ (all : List Owner). record old { ctl = event.step.after.ctl; owners = all }) step.rest_is in
      is ∙ ap (λ (w : WorldData). mapped_by w hart answered) same ∙ map_decided left hart event.step.outcome answered step.is;
}

-- a removal began, and what was answered
pub unmap_event : (gives : List SlotUse → ℕ → Type 0) (digest_of : List ℕ → List ℕ) (old mid new : WorldData) (hart : ℕ) (va : Va) (answered : StepAnswer ℕ)
    → IsHostEvent gives (unmap_begun digest_of old.setup.tables old.fences hart va) old.ctl answered mid.ctl mid.fences
    → mid ≡ record old { ctl = mid.ctl; fences = mid.fences } → new ≡ unmapped_by mid hart va answered
    → IsEvent gives (λ positions. begins_unmap digest_of old hart positions va) new
unmap_event gives digest_of old mid new hart va answered step rest is = record {
  positions = step.positions;
  given = step.given;
  is =
      let event : HostEvent ℕ (List (Option Fence)) = unmap_begun digest_of old.setup.tables old.fences hart va (going old.ctl step.positions) in
      let left : WorldData = record old { ctl = event.step.after.ctl; fences = event.rest } in
      let same : mid ≡ left = rest ∙ ap (λ (x : CtlData). record old { ctl = x; fences = mid.fences }) step.now ∙ ap (λ (all : List (Option Fence)). record old { ctl = event.step.after.ctl; fences = all }) step.rest_is in
      is ∙ ap (λ (w : WorldData). unmapped_by w hart va answered) same ∙ unmap_decided left hart va event.step.outcome answered step.is;
}
