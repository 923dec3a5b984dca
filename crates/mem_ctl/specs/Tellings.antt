-- What is told of a sealed path, and what it answers.
use Rattle.std.specs.Prelude.{ℕ, ◌≡◌, ◌<◌, ◌/◌, ◌%◌, Bool, true, false, IsTrue, Result, Ok, Err}
use Rattle.pl_base.specs.Width.{is_width}
use Rattle.mem_tree.specs.declared.sealed.Verdict.{Verdict}
use Rattle.mem_tree.specs.declared.sealed.Verdict.TheVariants as verdict
use Rattle.mem_ctl.specs.declared.broken.Broken.TheVariants as broken
use Rattle.mem_ctl.specs.declared.told.Op.{Op}
use Rattle.mem_ctl.specs.declared.told.Op.TheVariants.{Read, Write}
use Rattle.mem_ctl.specs.declared.told.Told.{Told}
use Rattle.mem_ctl.specs.declared.told.Told.TheVariants as told
use Rattle.mem_ctl.specs.Data.{Outcome, Value, Fault, Collision, Again}

-- the part is one of the block's page, and lies in the block
abbrev pub IsOpIn : ℕ → Op → Type 0
IsOpIn block (Read offset) = (offset < 4096) × (offset / 64 ≡ block)
IsOpIn block (Write offset width value) = (offset < 4096) × (offset / 64 ≡ block) × IsTrue (is_width width) × (offset % width ≡ 0)

-- what it answers
abbrev pub told_outcome : Result ℕ Told → Outcome ℕ
told_outcome (Ok word) = Value word
told_outcome (Err (told.Broken (broken.Fault place))) = Fault place
told_outcome (Err (told.Broken (broken.Collision c))) = Collision c.place c.held.items c.written.items
told_outcome (Err (told.Again taken_root root)) = Again taken_root root

abbrev pub is_whole : Verdict → Bool
is_whole verdict.Holds = true
is_whole (verdict.Breaks place) = false
