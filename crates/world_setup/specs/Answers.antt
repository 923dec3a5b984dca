-- How the answer of a reader follows from what a text is.
use Rattle.std.specs.Prelude.{◌≡◌, ⊤, Result, Ok, Err}
use Rattle.world_setup.specs.declared.fault.SetupFault.{SetupFault}
use Rattle.world_setup.specs.declared.fault.SetupFault.TheVariants.{Memory, Bad, NotToml}
use Rattle.world_setup.specs.Checked.{Checked}

-- the same, unless memory ran out; a text that isn't TOML fails rule 2
abbrev pub Answers : {A : Type 0} → Checked A → Result A SetupFault → Type 0
Answers read (Ok x) = read ≡ Ok x
Answers read (Err Memory) = ⊤
Answers read (Err (Bad rule item)) = read ≡ Err (rule, item)
Answers read (Err (NotToml cause)) = read ≡ Err (2, 0)
