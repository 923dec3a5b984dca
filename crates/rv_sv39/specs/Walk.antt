-- The page walk as a relation (RISC-V Privileged Architecture, Virtual Address Translation Process, Sv39: three levels).
use Rattle.std.specs.Prelude.{ℕ, zero, suc, ◌+◌, ◌-◌, ◌*◌, ◌/◌, ◌%◌, ◌^◌, ◌≡◌, ◌↔◌, Bool, ◌==◌, IsTrue, IsFalse, ◌&&◌, ◌||◌, not, if◌then◌else◌, Option, Some, None, option_and_then}
use Rattle.pl_base.specs.Perms.{grants}
use Rattle.pl_base.specs.declared.access.Kind.{Kind}
use Rattle.pl_base.specs.declared.access.Mode.{Mode}
use Rattle.pl_base.specs.declared.address.Ppn.{Ppn}
use Rattle.pl_base.specs.declared.address.Vpn.{Vpn}
use Rattle.pl_base.specs.declared.perms.Perms.{Perms}
use Rattle.rv_sv39.specs.Step.{step}
use Rattle.rv_sv39.specs.Word.{is_readable, is_executable, is_user, is_accessed, is_dirty, ppn_of, perms_of, is_valid_entry, is_pointer, is_accessible, is_aligned, has_a_and_d, page_of}
use Rattle.rv_sv39.specs.declared.walk.Walked.{Walked}
use Rattle.rv_sv39.specs.declared.walk.Walked.TheVariants.{Next, Leaf, PageFault}

-- the word is a pointer that leads to the next table: above the lowest level, with U, A and D clear
abbrev pub leads_on : ℕ → ℕ → Bool
leads_on level word =
    is_valid_entry word && is_pointer word && not (is_user word) && not (is_accessed word) && not (is_dirty word) && not (level == 0)

-- the word is a leaf at its level that translates the access
abbrev pub translates : ℕ → ℕ → Kind → Mode → Bool
translates level word kind mode =
    is_valid_entry word && (is_readable word || is_executable word) && is_aligned level word && is_accessible word mode
    && grants (perms_of word) kind && has_a_and_d word kind

-- a physical page and what may be done with it, or none
abbrev pub Answer : Type 0
Answer = Option (Ppn × Perms)

-- the address of the word that a page number selects in a table at a level: the table's page, and eight bytes for each of the
-- field of nine bits that is the level's
abbrev pub entry_address : Vpn → ℕ → ℕ → ℕ
entry_address vpn level table = 4096 * table + 8 * (vpn.0 / 2 ^ (9 * level) % 512)

-- this word, `words` being the words of memory by their addresses
abbrev pub entry : (ℕ → ℕ) → Vpn → ℕ → ℕ → ℕ
entry words vpn level table = words (entry_address vpn level table)

-- From a table at a level on: a leaf answers, a pointer leads to a table one level lower, and any other word gives none.
pub data WalksFrom (words : ℕ → ℕ) (vpn : Vpn) (mode : Mode) (kind : Kind) : ℕ → ℕ → Answer → Type 0 where
  ends : (level table : ℕ) → IsTrue (translates level (entry words vpn level table) kind mode)
      → WalksFrom words vpn mode kind level table (Some (page_of level (entry words vpn level table) vpn, perms_of (entry words vpn level table)))
  leads : (level table : ℕ) (answer : Answer) → IsTrue (leads_on (suc level) (entry words vpn (suc level) table))
      → WalksFrom words vpn mode kind level (ppn_of (entry words vpn (suc level) table)) answer
      → WalksFrom words vpn mode kind (suc level) table answer
  breaks : (level table : ℕ) → IsFalse (leads_on level (entry words vpn level table))
      → IsFalse (translates level (entry words vpn level table) kind mode) → WalksFrom words vpn mode kind level table None

-- the walk of a page number from a root table: a chain of at most three words
abbrev pub Walks : (ℕ → ℕ) → Ppn → Vpn → Mode → Kind → Answer → Type 0
Walks words root vpn mode kind answer = WalksFrom words vpn mode kind 2 root.0 answer

-- the table one level lower than a table, where the word leads to one
abbrev pub next_table : (ℕ → ℕ) → Vpn → ℕ → ℕ → Option ℕ
next_table words vpn level table =
    let word = entry words vpn level table in
    if leads_on level word then Some (ppn_of word) else None

-- the table of a level at which the walk from a root stands when it comes to this level
abbrev pub table_at : (ℕ → ℕ) → Ppn → Vpn → ℕ → Option ℕ
table_at words root vpn level =
    let first = next_table words vpn 2 root.0 in
    if level == 2 then Some root.0
    else (if level == 1 then first
    else (if level == 0 then option_and_then (next_table words vpn 1) first else None))

-- what a step says, where a pointer goes on by `follow`
abbrev pub answer_of : Walked → (Ppn → Answer) → Answer
answer_of (Next ppn) follow = follow ppn
answer_of (Leaf ppn perms) follow = Some (ppn, perms)
answer_of PageFault follow = None

-- steps from a table at a level on
abbrev pub steps_from : (ℕ → ℕ) → Vpn → Mode → Kind → ℕ → ℕ → Answer
steps_from words vpn mode kind zero table = answer_of (step 0 (entry words vpn 0 table) vpn kind mode) (λ next. None)
steps_from words vpn mode kind (suc level) table =
    answer_of (step (suc level) (entry words vpn (suc level) table) vpn kind mode) (λ next. steps_from words vpn mode kind level next.0)

-- steps from level 2 give the walk
abbrev pub StepsWalk : Type 0
StepsWalk = (words : ℕ → ℕ) (root : Ppn) (vpn : Vpn) (mode : Mode) (kind : Kind) → Walks words root vpn mode kind (steps_from words vpn mode kind 2 root.0)

-- a walk has one answer
abbrev pub WalksOnce : Type 0
WalksOnce =
    (words : ℕ → ℕ) (root : Ppn) (vpn : Vpn) (mode : Mode) (kind : Kind) (a b : Answer)
    → Walks words root vpn mode kind a → Walks words root vpn mode kind b → a ≡ b

-- the walk from a table at any level is what the steps from there give
abbrev pub WalksBySteps : Type 0
WalksBySteps =
    (words : ℕ → ℕ) (vpn : Vpn) (mode : Mode) (kind : Kind) (level table : ℕ) (answer : Answer)
    → (WalksFrom words vpn mode kind level table answer ↔ (answer ≡ steps_from words vpn mode kind level table))

-- the walk from the table at which it stands is the walk from the root
abbrev pub WalksOnward : Type 0
WalksOnward =
    (words : ℕ → ℕ) (root : Ppn) (vpn : Vpn) (mode : Mode) (kind : Kind) (level table : ℕ) (answer : Answer)
    → table_at words root vpn level ≡ Some table
    → (WalksFrom words vpn mode kind level table answer ↔ Walks words root vpn mode kind answer)

-- what a step at a level says of the walk: the table one level lower, or the answer
abbrev pub SaysOfWalk : (ℕ → ℕ) → Ppn → Vpn → Mode → Kind → ℕ → Walked → Type 0
SaysOfWalk words root vpn mode kind level (Next ppn) = table_at words root vpn (level - 1) ≡ Some ppn.0
SaysOfWalk words root vpn mode kind level (Leaf ppn perms) = Walks words root vpn mode kind (Some (ppn, perms))
SaysOfWalk words root vpn mode kind level PageFault = Walks words root vpn mode kind None

-- each step does, at the table where the walk stands
abbrev pub StepsSay : Type 0
StepsSay =
    (words : ℕ → ℕ) (root : Ppn) (vpn : Vpn) (mode : Mode) (kind : Kind) (level table : ℕ) → table_at words root vpn level ≡ Some table
    → SaysOfWalk words root vpn mode kind level (step level (entry words vpn level table) vpn kind mode)
