-- The event of an acknowledgement: the hart drops what a fence of another one covers, and an access under way there starts anew.
use Rattle.std.specs.Prelude.{ℕ, ◌+◌, ◌==◌, if◌then◌else◌, not, List, filter, slice_set, Option, Some, None}
use Rattle.std.specs.List.{position}
use Rattle.pl_base.specs.declared.address.Vpn.{Vpn}
use Rattle.pl_base.specs.declared.number.Space.{Space}
use Rattle.rv_hart.specs.declared.walks.Micro.TheVariants.{Fetching}
use Rattle.rv_hart.specs.declared.walks.Walk.TheVariants.{Start}
use Rattle.rv_tlb.specs.declared.tlb.TlbEntry.{TlbEntry}
use Rattle.rv_tlb.specs.Tlb.{is_in, is_of}
use Rattle.mon_fence.specs.declared.fences.Fence.{Fence}
use Rattle.mon_fence.specs.Fences.{acked, needs}
use Rattle.mon_host.specs.Leaves.{host_space}
use Rattle.pl_history.specs.declared.line.Line.{Line}
use Rattle.pl_history.specs.declared.line.Line.TheVariants.{Run, Resume}
use Rattle.world_machine.specs.declared.under.Under.{Under}
use Rattle.world_machine.specs.declared.under.Under.TheVariants.{Running, Seeking}
use Rattle.world_machine.specs.Worlds.{WorldData, hart_line, tlb_at, under_at}

-- the translations without those of a page of a space, or of the whole space
abbrev pub without_covered : List TlbEntry → Space → Option Vpn → List TlbEntry
without_covered entries space None = filter (λ entry. not (is_in space entry)) entries
without_covered entries space (Some vpn) = filter (λ entry. not (is_of space vpn entry)) entries

-- an access of the host starts anew where the fence is of its space; of an enclave the whole instruction does
abbrev pub restarted : Space → Option Line → Under → Under
restarted space line (Seeking walk) = Seeking (if space.0 == host_space.0 then Start else walk)
restarted space (Some (Run e budget)) (Running micro count) = Running (if space.0 == e.0 + 1 then Fetching Start else micro) count
restarted space (Some (Resume e budget)) (Running micro count) = Running (if space.0 == e.0 + 1 then Fetching Start else micro) count
restarted space line under = under

-- the hart with the lowest number whose fence needs this one
abbrev pub owed : List (Option Fence) → ℕ → Option ℕ
owed fences hart = position (λ fence. needs fence hart) fences

-- the hart acknowledges the fence of another
abbrev pub acknowledged : WorldData → ℕ → ℕ → Option Fence → WorldData
acknowledged w hart requester None = w
acknowledged w hart requester (Some fence) = record w {
  tlbs = slice_set w.tlbs hart (without_covered (tlb_at w.tlbs hart) fence.space fence.vpn);
  fences = acked w.fences hart requester;
  under = slice_set w.under hart (restarted fence.space (hart_line w hart) (under_at w.under hart));
}
