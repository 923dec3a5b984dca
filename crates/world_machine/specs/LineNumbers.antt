-- The page numbers and budgets of a setup's lines are below 2^32.
use Rattle.std.specs.Prelude.{ℕ, ◌<◌, ◌^◌, List}
use Rattle.std.specs.List.{All}
use Rattle.pl_history.specs.declared.line.Line.{Line}
use Rattle.pl_history.specs.declared.line.Line.TheVariants as line_is

abbrev pub FitsWord : ℕ → Type 0
FitsWord n = n < 2 ^ 32

-- the page that a line maps, and the budget of one that runs an enclave
abbrev pub NumbersFit : Line → Type 0
NumbersFit (line_is.Map va page perms) = FitsWord page
NumbersFit (line_is.Run e budget) = FitsWord budget
NumbersFit (line_is.Resume e budget) = FitsWord budget
NumbersFit line = Unit {0}

abbrev pub LinesFit : List Line → Type 0
LinesFit = All NumbersFit

-- each line of each script
abbrev pub ScriptsFit : List (List Line) → Type 0
ScriptsFit = All (λ (lines : List Line). LinesFit lines)
