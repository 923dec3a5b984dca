-- The events of `map` and `unmap`.
use Rattle.std.specs.Prelude.{ℕ, List, Option, Some, Result, Ok, Err}
use Rattle.pl_base.specs.Address.{vpn_of}
use Rattle.pl_base.specs.declared.address.Va.{Va}
use Rattle.pl_base.specs.declared.perms.Perms.{Perms}
use Rattle.pl_base.specs.declared.number.HartSet.{HartSet}
use Rattle.pl_base.specs.declared.refusal.No.{No}
use Rattle.mem_ctl.specs.Data.{going}
use Rattle.mon_fence.specs.Fences.{fence_of, lacking}
use Rattle.mon_fence.specs.declared.fences.Fence.{Fence}
use Rattle.mon_host.specs.Leaves.{HostEvent, host_space}
use Rattle.mon_host.specs.Mapping.{map_of}
use Rattle.mon_host.specs.Unmapping.{UnmapEnded, unmap_begun, unmap_ended}
use Rattle.mon_owner.specs.declared.owners.Owner.{Owner}
use Rattle.pl_history.specs.declared.answer.Answer.TheVariants as answer_is
use Rattle.world_machine.specs.declared.under.Under.TheVariants.{Removing}
use Rattle.world_machine.specs.Acknowledging.{without_covered}
use Rattle.world_machine.specs.Answering.{answers, begins, decided}
use Rattle.world_machine.specs.HostAccessing.{host_faults}
use Rattle.world_machine.specs.Worlds.{Event, WorldData, tlb_at, with_tlb}

-- ---- `map`

abbrev pub mapped : ℕ → WorldData → Result (Unit {0}) No → WorldData
mapped hart w (Ok done) = answers w hart answer_is.Ok
mapped hart w (Err cause) = answers w hart (answer_is.No cause)

-- the page has one mapping more where that is answered
abbrev pub maps : (List ℕ → List ℕ) → WorldData → ℕ → List ℕ → Va → ℕ → Perms → Event
maps digest_of w hart positions va page perms =
    let event : HostEvent (Unit {0}) (List Owner) = map_of digest_of w.setup.tables w.fences w.owners va page perms (going w.ctl positions) in
    let left : WorldData = record w { ctl = event.step.after.ctl; owners = event.rest } in
    record { world = decided left (mapped hart left) (host_faults hart left) event.step.outcome; shown = event.step.after.shown }

-- ---- `unmap`

-- the removal has begun: the hart drops its own translation at once, and waits for the others
abbrev pub unmapped : ℕ → Va → WorldData → Result ℕ No → WorldData
unmapped hart va w (Ok page) =
    begins (with_tlb w hart (without_covered (tlb_at w.tlbs hart) host_space (Some (vpn_of va)))) hart (Removing page)
unmapped hart va w (Err cause) = answers w hart (answer_is.No cause)

abbrev pub begins_unmap : (List ℕ → List ℕ) → WorldData → ℕ → List ℕ → Va → Event
begins_unmap digest_of w hart positions va =
    let event : HostEvent ℕ (List (Option Fence)) = unmap_begun digest_of w.setup.tables w.fences hart va (going w.ctl positions) in
    let left : WorldData = record w { ctl = event.step.after.ctl; fences = event.rest } in
    record { world = decided left (unmapped hart va left) (host_faults hart left) event.step.outcome; shown = event.step.after.shown }

-- the harts that have yet to acknowledge a hart's fence, where there are some
abbrev pub lacked_by : WorldData → ℕ → Option HartSet
lacked_by w hart = lacking (fence_of w.fences hart)

-- nobody is lacking: the fence is left, and the page has one mapping less
abbrev pub ends_unmap : WorldData → ℕ → ℕ → WorldData
ends_unmap w hart page =
    let ended : UnmapEnded = unmap_ended w.owners w.fences hart page in
    answers (record w { owners = ended.owners; fences = ended.fences }) hart answer_is.Ok
