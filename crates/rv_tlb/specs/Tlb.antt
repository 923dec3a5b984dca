-- A hart's translations as a list, the oldest first.
use Rattle.std.specs.Prelude.{◌≤◌, Bool, IsFalse, All, AllPairs, ◌==◌, ◌&&◌, nat_lt, if◌then◌else◌, List, [], ◌∷◌, ◌++◌, length, drop}
use Rattle.pl_base.specs.Address.{IsPpn}
use Rattle.pl_base.specs.declared.address.Vpn.{Vpn}
use Rattle.pl_base.specs.declared.number.Space.{Space}
use Rattle.rv_tlb.specs.declared.tlb.TlbEntry.{TlbEntry}

-- the entry is one of the space
abbrev pub is_in : Space → TlbEntry → Bool
is_in space entry = entry.space.0 == space.0

-- the entry is the one of a page of the space
abbrev pub is_of : Space → Vpn → TlbEntry → Bool
is_of space vpn entry = is_in space entry && entry.vpn.0 == vpn.0

-- two entries are not of one space and page
abbrev pub Differ : TlbEntry → TlbEntry → Type 0
Differ a b = IsFalse (is_of a.space a.vpn b)

-- the entry's physical page number is one that a table word can hold
abbrev pub HasPpn : TlbEntry → Type 0
HasPpn entry = IsPpn entry.ppn

-- the entries with one put last: the oldest drops out where there are sixteen
abbrev pub with_entry : List TlbEntry → TlbEntry → List TlbEntry
with_entry entries entry = (if nat_lt (length entries) 16 then entries else drop 1 entries) ++ entry ∷ []

-- what a TLB holds: at most sixteen entries, no two of one space and page, each with a page number that a table word can hold
pub record IsTlb (entries : List TlbEntry) : Type 0 where
  pub room : length entries ≤ 16
  pub apart : AllPairs Differ entries
  pub ppns : All HasPpn entries
