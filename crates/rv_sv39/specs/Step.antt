-- What one word of a table says (RISC-V Privileged Architecture, Virtual Address Translation Process).
use Rattle.std.specs.Prelude.{ℕ, ◌<◌, ◌==◌, IsTrue, ◌||◌, not, if◌then◌else◌}
use Rattle.pl_base.specs.Address.{IsPpn}
use Rattle.pl_base.specs.Perms.{grants}
use Rattle.pl_base.specs.declared.access.Kind.{Kind}
use Rattle.pl_base.specs.declared.access.Mode.{Mode}
use Rattle.pl_base.specs.declared.address.Vpn.{Vpn}
use Rattle.rv_sv39.specs.Word.{is_user, is_accessed, is_dirty, ppn_of, perms_of, is_valid_entry, is_pointer, is_accessible, is_aligned, has_a_and_d, page_of}
use Rattle.rv_sv39.specs.declared.walk.Walked.{Walked}
use Rattle.rv_sv39.specs.declared.walk.Walked.TheVariants.{Next, Leaf, PageFault}

-- The rules in their order: (1) the entry is valid; (2) without R and X it is a pointer, which stands above level 0 and has U, A and
-- D clear; else it is a leaf, which (3) is aligned, (4) is accessible in the mode, (5) permits the kind and (6) has A and for a store D
-- set, and then (7) gives its page and permissions.
abbrev pub step : ℕ → ℕ → Vpn → Kind → Mode → Walked
step level word vpn kind mode =
    if not (is_valid_entry word) then PageFault
    else (if is_pointer word then
    (if is_user word || is_accessed word || is_dirty word || level == 0 then PageFault else Next (record { 0 = ppn_of word }))
    else (if not (is_aligned level word) then PageFault
    else (if not (is_accessible word mode) then PageFault
    else (if not (grants (perms_of word) kind) then PageFault
    else (if not (has_a_and_d word kind) then PageFault
    else Leaf (page_of level word vpn) (perms_of word))))))

-- a pointer stands above level 0, and a leaf permits the kind
abbrev pub FitsAccess : ℕ → Kind → Walked → Type 0
FitsAccess level kind (Next ppn) = 0 < level
FitsAccess level kind (Leaf ppn perms) = IsTrue (grants perms kind)
FitsAccess level kind PageFault = Unit {0}

-- each step's answer does
abbrev pub StepsFit : Type 0
StepsFit = (level word : ℕ) (vpn : Vpn) (kind : Kind) (mode : Mode) → FitsAccess level kind (step level word vpn kind mode)

-- the page that a step gives has a number that a table word can hold
abbrev pub GivesPpn : Walked → Type 0
GivesPpn (Next ppn) = IsPpn ppn
GivesPpn (Leaf ppn perms) = IsPpn ppn
GivesPpn PageFault = Unit {0}
