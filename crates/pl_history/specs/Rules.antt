-- What every setup meets.
use Rattle.std.specs.Prelude.{◌≡◌, ℕ, ◌+◌, ◌*◌, ◌%◌, ◌==◌, ◌&&◌, ◌||◌, nat_le, nat_lt, not, Bool, true, false, List, [], ◌∷◌, length, Option, Some, None, if◌then◌else◌, sum_by, slice_get, unwrap_or, IsTrue}
use Rattle.std.specs.List.{list_all}
use Rattle.std.specs.Option.{option_map_or}
use Rattle.std.specs.Str.{bytes_eq}
use Rattle.pl_base.specs.Perms.{are_page_perms}
use Rattle.pl_base.specs.declared.actor.Actor.{Actor}
use Rattle.pl_base.specs.declared.page.TheConstants.{IMAGE_START}
use Rattle.pl_base.specs.declared.actor.Actor.TheVariants.{Hart, Ack, Attacker}
use Rattle.mon_image.specs.declared.page.ImagePage.{ImagePage}
use Rattle.mon_image.specs.declared.image.Image.{Image}
use Rattle.mem_geom.specs.Layout.{memory_end}
use Rattle.rv_pmp.specs.declared.rule.Rule.{Rule}
use Rattle.rv_pmp.specs.Rule.{is_valid}
use Rattle.pl_history.specs.declared.line.Line.{Line}
use Rattle.pl_history.specs.declared.line.Line.TheVariants as line
use Rattle.pl_history.specs.declared.line.AttackLine.{AttackLine}
use Rattle.pl_history.specs.declared.line.AttackLine.TheVariants as attack
use Rattle.pl_history.specs.declared.setup.SetupParts.{SetupParts}

abbrev pub is_within : ℕ → ℕ → ℕ → Bool
is_within low high n = nat_le low n && nat_le n high

-- The first pages are guarded: the host's root and middle tables, its last-level tables, and three tables for each enclave.
abbrev pub guarded_of : ℕ → ℕ → ℕ
guarded_of tables enclaves = 2 + tables + 3 * enclaves

-- each zone has 64 pages
abbrev pub pages_of : ℕ → ℕ
pages_of zones = 64 * zones

-- ---- protection entries and the order

-- each entry's number is above the one before, and at most 12; each rule is one that the standard has
abbrev pub are_entries : ℕ → List (ℕ × Rule) → Bool
are_entries before [] = true
are_entries before (entry ∷ entries) = is_within (before + 1) 12 entry.0 && (is_valid entry.1 && are_entries entry.0 entries)

-- at most 11 entries, from number 2 on
abbrev pub is_protection : List (ℕ × Rule) → Bool
is_protection entries = nat_le (length entries) 11 && are_entries 1 entries

-- a hart that there is, or the attacker
abbrev pub is_actor : ℕ → Actor → Bool
is_actor harts (Hart h) = nat_lt h.0 harts
is_actor harts (Ack h) = nat_lt h.0 harts
is_actor harts Attacker = true

-- ---- images

abbrev pub is_page : ImagePage → Bool
is_page page = are_page_perms page.perms && length page.bytes == 4096

-- an entry is a multiple of 4 in the image, whose page i stands at IMAGE_START + 4096·i
abbrev pub is_entry : ℕ → ℕ → Bool
is_entry pages entry = entry % 4 == 0 && (nat_le IMAGE_START entry && nat_lt entry (IMAGE_START + 4096 * pages))

abbrev pub is_image : Image → Bool
is_image image = is_entry (length image.pages) image.entry && (is_within 1 256 (length image.pages) && list_all is_page image.pages)

-- ---- the form of a line, beside the ranges of its numbers

-- at most 512 pages in a list
abbrev pub is_page_list : List ℕ → Bool
is_page_list pages = nat_le (length pages) 512

abbrev pub is_line : Line → Bool
is_line (line.Load va) = true
is_line (line.Store va word) = true
is_line (line.Map va page perms) = are_page_perms perms
is_line (line.Unmap va) = true
is_line (line.Create e image pages) = is_page_list pages
is_line (line.Shadow e image pages) = is_page_list pages
is_line (line.Fork s e pages) = is_page_list pages
is_line (line.Grant e page) = true
is_line (line.Run e budget) = nat_le 1 budget
is_line (line.Resume e budget) = nat_le 1 budget
is_line (line.Send e word) = true
is_line (line.Take e) = true
is_line (line.Destroy e) = true
is_line (line.Drop s) = true
is_line (line.After actor count) = true

-- a to z, and 0 to 9
abbrev pub is_name_character : ℕ → Bool
is_name_character c = is_within 97 122 c || is_within 48 57 c

abbrev pub is_name : List ℕ → Bool
is_name name = is_within 1 16 (length name) && list_all is_name_character name

abbrev pub is_attack_line : AttackLine → Bool
is_attack_line (attack.Write pa bytes) = is_within 1 4096 (length bytes)
is_attack_line (attack.Keep name pa len) = is_name name && is_within 1 4096 len
is_attack_line (attack.Back name) = is_name name
is_attack_line (attack.After actor count) = true

-- ---- what a line names

-- each enclave number is below E, and the image is there
abbrev pub names_known : ℕ → ℕ → Line → Bool
names_known enclaves images (line.Load va) = true
names_known enclaves images (line.Store va word) = true
names_known enclaves images (line.Map va page perms) = true
names_known enclaves images (line.Unmap va) = true
names_known enclaves images (line.Create e image pages) = nat_lt e.0 enclaves && nat_lt image images
names_known enclaves images (line.Shadow e image pages) = nat_lt e.0 enclaves && nat_lt image images
names_known enclaves images (line.Fork s e pages) = nat_lt s.0 enclaves && nat_lt e.0 enclaves
names_known enclaves images (line.Grant e page) = nat_lt e.0 enclaves
names_known enclaves images (line.Run e budget) = nat_lt e.0 enclaves
names_known enclaves images (line.Resume e budget) = nat_lt e.0 enclaves
names_known enclaves images (line.Send e word) = nat_lt e.0 enclaves
names_known enclaves images (line.Take e) = nat_lt e.0 enclaves
names_known enclaves images (line.Destroy e) = nat_lt e.0 enclaves
names_known enclaves images (line.Drop s) = nat_lt s.0 enclaves
names_known enclaves images (line.After actor count) = true

-- ---- what a line waits for, and the attacker's places

-- `after` names another actor that there is, and no more lines than it has; `counts` are the numbers of lines of the harts and then of the attacker
abbrev pub after_known : List ℕ → ℕ → ℕ → ℕ → Bool
after_known counts me actor count = not (actor == me) && option_map_or (nat_le count) (slice_get counts actor) false

abbrev pub waits_known : List ℕ → ℕ → Line → Bool
waits_known counts me (line.After actor count) = after_known counts me actor count
waits_known counts me _ = true

-- the lines of a hart, and then those of the harts after it
abbrev pub all_wait : List ℕ → ℕ → List (List Line) → Bool
all_wait counts me [] = true
all_wait counts me (lines ∷ scripts) = list_all (waits_known counts me) lines && all_wait counts (me + 1) scripts

-- each byte from a place on is off chip
abbrev pub is_place : ℕ → ℕ → ℕ → Bool
is_place zones pa len = nat_le 0x80000000 pa && nat_le (pa + len) (memory_end zones)

-- how many bytes the latest line kept under this name, of lines from the latest back
abbrev pub kept_length : List ℕ → List AttackLine → Option ℕ
kept_length name [] = None
kept_length name (attack.Keep other pa len ∷ earlier) = if bytes_eq other name then Some len else kept_length name earlier
kept_length name (other ∷ earlier) = kept_length name earlier

-- the bytes of a line that writes or keeps some; of `back` those that were kept
abbrev pub attack_length : List AttackLine → AttackLine → ℕ
attack_length earlier (attack.Write pa bytes) = length bytes
attack_length earlier (attack.Keep name pa len) = len
attack_length earlier (attack.Back name) = unwrap_or (kept_length name earlier) 0
attack_length earlier (attack.After actor count) = 0

-- a place off chip, a name that was kept, an actor that there is
abbrev pub attack_known : ℕ → List ℕ → ℕ → List AttackLine → AttackLine → Bool
attack_known zones counts me earlier (attack.Write pa bytes) = is_place zones pa (length bytes)
attack_known zones counts me earlier (attack.Keep name pa len) = is_place zones pa len
attack_known zones counts me earlier (attack.Back name) = option_map_or (λ len. true) (kept_length name earlier) false
attack_known zones counts me earlier (attack.After actor count) = after_known counts me actor count

-- the attacker's lines after those `earlier`, from the latest back, whose bytes are `total`: all are known, and at most 4 MiB of bytes in all
abbrev pub attacks_known : ℕ → List ℕ → ℕ → List AttackLine → ℕ → List AttackLine → Bool
attacks_known zones counts me earlier total [] = true
attacks_known zones counts me earlier total (now ∷ later) =
    let bytes = total + attack_length earlier now in
    attack_known zones counts me earlier now && (nat_le bytes 4194304 && attacks_known zones counts me (now ∷ earlier) bytes later)

-- ---- all of it

-- the numbers of lines of the harts, and then of the attacker
abbrev pub counts_of : List (List Line) → List AttackLine → List ℕ
counts_of [] attacker = length attacker ∷ []
counts_of (lines ∷ scripts) attacker = length lines ∷ counts_of scripts attacker

pub record IsSetup (s : SetupParts) : Type 0 where
  pub harts : IsTrue (is_within 1 8 s.harts)
  pub zones : IsTrue (is_within 1 64 s.zones)
  pub slots : IsTrue (is_within 1 64 s.slots)
  pub tables : IsTrue (is_within 1 32 s.tables)
  pub enclaves : IsTrue (is_within 1 64 s.enclaves)
  pub pool : IsTrue (nat_lt (guarded_of s.tables s.enclaves) (pages_of s.zones))
  pub pmp : IsTrue (is_protection s.pmp)
  pub order : IsTrue (nat_le (length s.order) 100000 && list_all (is_actor s.harts) s.order)
  pub images : IsTrue (nat_le (length s.images) 64 && list_all is_image s.images)
  pub scripts : length s.lines ≡ s.harts
  pub count : IsTrue (nat_le (sum_by length s.lines + length s.attacker) 65536)
  pub forms : IsTrue (list_all (list_all is_line) s.lines && list_all is_attack_line s.attacker)
  pub names : IsTrue (list_all (list_all (names_known s.enclaves (length s.images))) s.lines)
  pub waits : IsTrue (all_wait (counts_of s.lines s.attacker) 0 s.lines)
  pub attacks : IsTrue (attacks_known s.zones (counts_of s.lines s.attacker) s.harts [] 0 s.attacker)
