-- The attacker's lines: `write`, `keep` and `back`.
use Rattle.std.specs.Prelude.{◌≡◌, ℕ, ◌+◌, ◌-◌, ◌/◌, ◌%◌, ◌==◌, ◌&&◌, ◌||◌, Bool, true, false, not, if◌then◌else◌, List, [], ◌∷◌, ◌++◌, length, take, drop, Option, Some, None, is_some, slice_get}
use Rattle.std.specs.Option.{option_or}
use Rattle.std.specs.Str.{bytes_eq}
use Rattle.pl_base.specs.Bytes.{with_bytes}
use Rattle.mem_geom.specs.Layout.{page_start}
use Rattle.pl_history.specs.declared.answer.Answer.{Answer}
use Rattle.pl_history.specs.declared.answer.Answer.TheVariants as answer_is
use Rattle.pl_history.specs.declared.answer.Entry.{Entry}
use Rattle.pl_history.specs.declared.line.AttackLine.{AttackLine}
use Rattle.pl_history.specs.declared.line.AttackLine.TheVariants as attack
use Rattle.pl_history.specs.declared.setup.SetupParts.{SetupParts}
use Rattle.pl_history.specs.History.{named_part}
use Rattle.pl_history.specs.Monitor.{Monitor, is_host}

-- ---- bytes of the host's pages, by their address off chip

-- The byte at an address, where its page is the host's. Page p stands at 0x80000000 + 4096·p.
abbrev pub host_byte : Monitor → ℕ → Option ℕ
host_byte s address =
    let page = (address - page_start 0) / 4096 in
    if is_host (s.owner page) then slice_get (s.bytes page) (address % 4096) else None

-- a byte is another than the host's at its address
abbrev pub is_other : ℕ → Option ℕ → Bool
is_other byte None = false
is_other byte (Some old) = not (old == byte)

-- one of these bytes, from an address on, is another than the host's
abbrev pub changes_host : Monitor → ℕ → List ℕ → Bool
changes_host s address [] = false
changes_host s address (byte ∷ bytes) = is_other byte (host_byte s address) || changes_host s (address + 1) bytes

-- each of these bytes, from an address on, is the host's
abbrev pub lies_in_host : Monitor → ℕ → List ℕ → Bool
lies_in_host s address [] = true
lies_in_host s address (byte ∷ bytes) = is_some (host_byte s address) && lies_in_host s (address + 1) bytes

-- ---- what was kept

-- bytes, and the address of the first
pub record Placed : Type 0 where
  pub address : ℕ
  pub bytes : List ℕ

-- a line keeps bytes under a name
abbrev pub keeps_name : List ℕ → Option AttackLine → Bool
keeps_name name None = false
keeps_name name (Some (attack.Write pa bytes)) = false
keeps_name name (Some (attack.Keep other pa len)) = bytes_eq other name
keeps_name name (Some (attack.Back other)) = false
keeps_name name (Some (attack.After actor count)) = false

abbrev pub kept_part : Answer → List ℕ → Option Placed
kept_part (answer_is.Kept pa from len) part = Some (record { address = pa; bytes = part })
kept_part _ part = None

-- what an entry kept under a name
abbrev pub kept_by : SetupParts → List ℕ → List ℕ → Entry → Option Placed
kept_by setup bytes name entry =
    if entry.actor == setup.harts && keeps_name name (slice_get setup.attacker entry.line) then kept_part entry.answer (named_part bytes entry.answer) else None

-- what the latest entry with this name kept
abbrev pub latest_kept : SetupParts → List ℕ → List ℕ → List Entry → Option Placed
latest_kept setup bytes name [] = None
latest_kept setup bytes name (entry ∷ later) = option_or (latest_kept setup bytes name later) (kept_by setup bytes name entry)

-- ---- the answers

-- Whether the write may be answered with this flag: it is true where a byte of the host's changes, false where all bytes are the
-- host's and none changes, and either elsewhere.
abbrev pub may_say_changed : Monitor → Placed → Bool → Bool
may_say_changed s now changed =
    if changes_host s now.address now.bytes then changed
    else (if lies_in_host s now.address now.bytes then not changed else true)

-- A write is answered with its address and its bytes, which are the part of the history's bytes that the answer names.
abbrev pub AllowedWrote : Monitor → Option Placed → List ℕ → Bool → Answer → Type 0
AllowedWrote s what part false (answer_is.Wrote changed pa from len) =
    (what ≡ Some (record { address = pa; bytes = part }))
    × (length part ≡ len)
    × (may_say_changed s (record { address = pa; bytes = part }) changed ≡ true)
AllowedWrote s what part begun now = ⊥

-- A keeping is answered with its address and as many bytes as it says, of which the host's are those of the state.
abbrev pub AllowedKept : Monitor → ℕ → ℕ → List ℕ → Bool → Answer → Type 0
AllowedKept s address count part false (answer_is.Kept pa from len) =
    (pa ≡ address) × (len ≡ count) × (length part ≡ len) × (changes_host s pa part ≡ false)
AllowedKept s address count part begun now = ⊥

-- ---- what they change

-- a page with the bytes from an address on, as far as they fall into it
abbrev pub overwritten_page : ℕ → List ℕ → Placed → List ℕ
overwritten_page page old now =
    let start = now.address - page_start page in
    with_bytes old start (take (4096 - start) (drop (page_start page - now.address) now.bytes))

abbrev pub with_attack : Monitor → Placed → Bool → Monitor
with_attack s now false = s
with_attack s now true = record s { attacks = s.attacks ++ record { address = now.address; length = length now.bytes } ∷ [] }

-- the host's pages take the bytes, and an attack that changed a byte is remembered
abbrev pub written : Monitor → Placed → Bool → Monitor
written s now changed =
    with_attack (record s { bytes = λ page. if is_host (s.owner page) then overwritten_page page (s.bytes page) now else s.bytes page }) now changed
