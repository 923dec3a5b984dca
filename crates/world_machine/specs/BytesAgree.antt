-- The host's bytes off chip are the abstract monitor's, and differ from those last written only where an attack changed a byte.
use Rattle.std.specs.Prelude.{◌≡◌, ℕ, ◌+◌, ◌*◌, ◌<◌, ◌≤◌, nat_le, nat_lt, ◌&&◌, Bool, true, false, List, take, slice_get, Option, Some, Contains}
use Rattle.std.specs.List.{list_any}
use Rattle.mem_geom.specs.Parts.{page_bytes}
use Rattle.mon_enclave.specs.declared.enclave.Enclave.{Enclave}
use Rattle.mon_owner.specs.declared.owners.Owner.{Owner}
use Rattle.mon_owner.specs.declared.owners.Owner.TheVariants as owner_is
use Rattle.pl_history.specs.declared.line.Line.{Line}
use Rattle.pl_history.specs.declared.line.Line.TheVariants.{Create, Shadow}
use Rattle.pl_history.specs.Monitor.{Attack, Monitor, Number, is_host}
use Rattle.world_machine.specs.declared.under.Under.{Under}
use Rattle.world_machine.specs.declared.under.Under.TheVariants.{Putting}
use Rattle.world_machine.specs.EnclavesAgree.{is_made}
use Rattle.world_machine.specs.Pages.{numbers_of}

abbrev pub HostBytesAgree : List ℕ → Monitor → Type 0
HostBytesAgree off_chip s = (page : ℕ) → is_host (s.owner page) ≡ true → page_bytes off_chip page ≡ s.bytes page

-- an attack covers the i-th byte of off-chip memory, which stands at 0x80000000 + i
abbrev pub covers : ℕ → Attack → Bool
covers i attack = nat_le attack.address (0x80000000 + i) && nat_lt (0x80000000 + i) (attack.address + attack.length)

abbrev pub is_attacked : List Attack → ℕ → Bool
is_attacked attacks i = list_any (covers i) attacks

-- a byte is as it was last written, or an attack covers it
abbrev pub ByteAgrees : List ℕ → List ℕ → List Attack → ℕ → Type 0
ByteAgrees off_chip mirror attacks i = is_attacked attacks i ≡ false → slice_get off_chip i ≡ slice_get mirror i

abbrev pub PageAgrees : List ℕ → List ℕ → List Attack → ℕ → Type 0
PageAgrees off_chip mirror attacks page = (k : ℕ) → k < 4096 → ByteAgrees off_chip mirror attacks (4096 * page + k)

-- a line that makes a number has put this page of it
abbrev pub HasPut : Option Line → Under → ℕ → Type 0
HasPut (Some (Create e image pages)) (Putting done) page = Contains (take done pages) page
HasPut (Some (Shadow e image pages)) (Putting done) page = Contains (take done pages) page
HasPut line under page = ⊥

-- of all nodes and the root table, of the guarded pages, of the pages of live numbers and of sealed shadows, and of those already put of a number
-- that is being made
pub record OnlyAttacksDiffer (zones : ℕ) (off_chip mirror : List ℕ) (attacks : List Attack) (owners : List Owner) (record_of : ℕ → Enclave) (number_of : ℕ → Number)
    (line_of : ℕ → Option Line) (under_of : ℕ → Under) : Type 0 where
  pub nodes : (i : ℕ) → 4096 * (64 * zones) ≤ i → ByteAgrees off_chip mirror attacks i
  pub guarded : (page : ℕ) → slice_get owners page ≡ Some owner_is.Guard → PageAgrees off_chip mirror attacks page
  pub made : (page e : ℕ) → Contains (numbers_of (record_of e).pages) page → is_made (number_of e) ≡ true → PageAgrees off_chip mirror attacks page
  pub put : (hart page : ℕ) → HasPut (line_of hart) (under_of hart) page → PageAgrees off_chip mirror attacks page
