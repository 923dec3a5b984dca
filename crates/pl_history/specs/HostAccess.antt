-- The host's accesses to memory: `load` and `store`.
use Rattle.std.specs.Prelude.{◌≡◌, ◌⊎◌, ℕ, ◌+◌, ◌%◌, ◌==◌, Bool, true, false, not, if◌then◌else◌, [], ◌∷◌, Option, Some, None}
use Rattle.byteorder.specs.Endian.{little_number, little_bytes}
use Rattle.pl_base.specs.Address.{vpn_of}
use Rattle.pl_base.specs.Bytes.{bytes_at, with_bytes}
use Rattle.pl_base.specs.Perms.{grants}
use Rattle.pl_base.specs.Refusals.{refuse, first_refusal}
use Rattle.pl_base.specs.declared.access.Kind.{Kind}
use Rattle.pl_base.specs.declared.access.Kind.TheVariants as kind
use Rattle.pl_base.specs.declared.address.Va.{Va}
use Rattle.pl_base.specs.declared.refusal.No.{No}
use Rattle.pl_base.specs.declared.refusal.No.TheVariants.{Misaligned, PageFault, AccessFault}
use Rattle.mem_geom.specs.Layout.{page_start}
use Rattle.rv_pmp.specs.Pmp.{permits}
use Rattle.rv_sv39.specs.Canonical.{is_canonical}
use Rattle.pl_history.specs.declared.answer.Answer.{Answer}
use Rattle.pl_history.specs.declared.answer.Answer.TheVariants as answer_is
use Rattle.pl_history.specs.declared.line.Line.TheVariants.{Load, Store}
use Rattle.pl_history.specs.declared.setup.SetupParts.{SetupParts}
use Rattle.pl_history.specs.Answering.{FaultsOr}
use Rattle.pl_history.specs.Licence.{Licensed}
use Rattle.pl_history.specs.Monitor.{Monitor, removed_at}
use Rattle.pl_history.specs.Protection.{pmp_of}
use Rattle.mon_tables.specs.Space.{Mapping, mapping_at}

-- ---- the answers

-- why an access is refused before its mapping is looked for: the address isn't a multiple of 8, or isn't canonical
abbrev pub address_refusal : Va → Option No
address_refusal va = first_refusal (refuse (not (va.0 % 8 == 0)) Misaligned ∷ refuse (not (is_canonical va.0)) PageFault ∷ [])

-- why an access by a mapping is refused: the mapping lacks the permission, or the protection entries bar it
abbrev pub mapping_refusal : SetupParts → Kind → Va → Mapping → Option No
mapping_refusal setup kind va m = first_refusal (
    refuse (not (grants m.perms kind)) PageFault
    ∷ refuse (not (permits (pmp_of setup) (page_start m.page + va.0 % 4096) 8 kind)) AccessFault
    ∷ [])

-- refused, or what the access gives
abbrev pub answer_or : Option No → Answer → Answer
answer_or None gives = gives
answer_or (Some cause) gives = answer_is.No cause

-- the eight bytes at an address of the host, little-endian
abbrev pub host_word : Monitor → Va → Mapping → ℕ
host_word s va m = little_number 8 (bytes_at (s.bytes m.page) (va.0 % 4096) 8)

-- what a load by a mapping is answered, and a store
abbrev pub load_by : SetupParts → Monitor → Va → Mapping → Answer
load_by setup s va m = answer_or (mapping_refusal setup kind.Load va m) (answer_is.Value (host_word s va m))

abbrev pub store_by : SetupParts → Va → Mapping → Answer
store_by setup va m = answer_or (mapping_refusal setup kind.Store va m) answer_is.Ok

-- The mapping in the space answers. Where there is none, but one that is being removed, that one answers, or there is no page any
-- more; where there is neither, there is no page.
abbrev pub AnswersBy : (Mapping → Answer) → Option Mapping → Option Mapping → Answer → Type 0
AnswersBy by (Some m) removed now = now ≡ by m
AnswersBy by None (Some m) now = (now ≡ by m) ⊎ (now ≡ answer_is.No PageFault)
AnswersBy by None None now = now ≡ answer_is.No PageFault

-- an access is refused by its address, or answered by a mapping
abbrev pub HostAccess : Option No → (Mapping → Answer) → Monitor → Va → Bool → Answer → Type 0
HostAccess refusal by s va true now = ⊥
HostAccess (Some cause) by s va false now = now ≡ answer_is.No cause
HostAccess None by s va false now = AnswersBy by (mapping_at s.space (vpn_of va).0) (removed_at s.removals (vpn_of va).0) now

-- of the causes before a fault only those of the address count
abbrev pub AllowedLoad : SetupParts → Monitor → Va → Bool → Answer → Type 0
AllowedLoad setup s va = FaultsOr (address_refusal va) (Licensed setup s (Load va)) (HostAccess (address_refusal va) (load_by setup s va) s va)

abbrev pub AllowedStore : SetupParts → Monitor → Va → ℕ → Bool → Answer → Type 0
AllowedStore setup s va word = FaultsOr (address_refusal va) (Licensed setup s (Store va word)) (HostAccess (address_refusal va) (store_by setup va) s va)

-- ---- what a store changes

-- the mapping that an access goes by: that of the space, or else the one that is being removed
abbrev pub mapping_used : Option Mapping → Option Mapping → Option Mapping
mapping_used (Some m) removed = Some m
mapping_used None removed = removed

abbrev pub store_to : Monitor → Va → ℕ → Option Mapping → Monitor
store_to s va word None = s
store_to s va word (Some m) =
    record s { bytes = λ page. if page == m.page then with_bytes (s.bytes page) (va.0 % 4096) (little_bytes 8 word) else s.bytes page }

abbrev pub host_stored : Monitor → Va → ℕ → Monitor
host_stored s va word = store_to s va word (mapping_used (mapping_at s.space (vpn_of va).0) (removed_at s.removals (vpn_of va).0))
