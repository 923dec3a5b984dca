-- The host's mappings: `map` and `unmap`.
use Rattle.std.specs.Prelude.{ℕ, ◌==◌, Bool, not, List, [], ◌∷◌, ◌++◌, filter, Option, Some, None, is_some}
use Rattle.pl_base.specs.Address.{vpn_of}
use Rattle.pl_base.specs.Refusals.{refuse, first_refusal}
use Rattle.pl_base.specs.declared.address.Va.{Va}
use Rattle.pl_base.specs.declared.perms.Perms.{Perms}
use Rattle.pl_base.specs.declared.refusal.No.{No}
use Rattle.pl_base.specs.declared.refusal.No.TheVariants.{BadAddress, Busy, Mapped, NotYours, NotMapped}
use Rattle.pl_history.specs.declared.answer.Answer.{Answer}
use Rattle.pl_history.specs.declared.answer.Answer.TheVariants as answer_is
use Rattle.pl_history.specs.declared.line.Line.TheVariants.{Map, Unmap}
use Rattle.pl_history.specs.declared.setup.SetupParts.{SetupParts}
use Rattle.pl_history.specs.Answering.{AtOnce, Begins, FaultsOr, EndsDone}
use Rattle.pl_history.specs.Licence.{Licensed}
use Rattle.pl_history.specs.Monitor.{Removal, Monitor, is_host, removed_at}
use Rattle.mon_tables.specs.Space.{Mapping, mapping_at, without_vpn}
use Rattle.mon_tables.specs.Tables.{can_be_mapped}

-- ---- the answers

-- why a mapping isn't looked for: no page can be mapped at the address, or a removal of it is under way
abbrev pub early_refusals : SetupParts → Monitor → Va → List (Option No)
early_refusals setup s va = refuse (not (can_be_mapped setup.tables va)) BadAddress ∷ refuse (is_some (removed_at s.removals (vpn_of va).0)) Busy ∷ []

-- and then: the address is mapped, or the page isn't the host's
abbrev pub map_refusal : SetupParts → Monitor → Va → ℕ → Option No
map_refusal setup s va page = first_refusal (
    early_refusals setup s va
    ++ (refuse (is_some (mapping_at s.space (vpn_of va).0)) Mapped ∷ refuse (not (is_host (s.owner page))) (NotYours page) ∷ []))

-- and then: the address isn't mapped
abbrev pub unmap_refusal : SetupParts → Monitor → Va → Option No
unmap_refusal setup s va = first_refusal (early_refusals setup s va ++ refuse (not (is_some (mapping_at s.space (vpn_of va).0))) NotMapped ∷ [])

-- a fault comes after the early causes, and before the others
abbrev pub AllowedMap : SetupParts → Monitor → Va → ℕ → Perms → Bool → Answer → Type 0
AllowedMap setup s va page perms =
    FaultsOr (first_refusal (early_refusals setup s va)) (Licensed setup s (Map va page perms)) (AtOnce (map_refusal setup s va page) (Some answer_is.Ok))

abbrev pub AllowedUnmap : SetupParts → Monitor → Va → Bool → Answer → Type 0
AllowedUnmap setup s va = FaultsOr (first_refusal (early_refusals setup s va)) (Licensed setup s (Unmap va)) (Begins (unmap_refusal setup s va) EndsDone)

-- ---- what they change

abbrev pub mapped : Monitor → Va → ℕ → Perms → Monitor
mapped s va page perms = record s { space = s.space ++ record { vpn = (vpn_of va).0; page = page; perms = perms } ∷ [] }

-- the mapping leaves the space, and a hart is removing it
abbrev pub removing_of : Monitor → ℕ → Option Mapping → Monitor
removing_of s hart None = s
removing_of s hart (Some m) = record s { space = without_vpn s.space m.vpn; removals = s.removals ++ record { hart = hart; mapping = m } ∷ [] }

abbrev pub removing : Monitor → ℕ → Va → Monitor
removing s hart va = removing_of s hart (mapping_at s.space (vpn_of va).0)

-- the hart's removal ends
abbrev pub removed : Monitor → ℕ → Monitor
removed s hart = record s { removals = filter (λ (r : Removal). not (r.hart == hart)) s.removals }
