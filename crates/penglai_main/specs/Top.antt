-- What the top call read and wrote, for each status that it ends with.
use Rattle.std.specs.Prelude.{◌≡◌, ◌≤◌, ◌⊎◌, ⊤, ℕ, List, [], ◌∷◌, ◌++◌, codes, decimal, Option, Some, None, option_map, Ok, Err, if◌then◌else◌}
use Rattle.std.specs.Str.{bytes_eq}
use Rattle.pl_io.specs.Numbers.{dec_value}
use Rattle.pl_history.specs.declared.setup.SetupParts.{SetupParts}
use Rattle.pl_history.specs.declared.setup.ChoiceName.{ChoiceName}
use Rattle.pl_history.specs.declared.setup.ChoiceName.TheVariants as choice_is
use Rattle.pl_history.specs.Unattacked.{IsFaultless}
use Rattle.sha2.specs.Sha256.{sha256}
use Rattle.toml.specs.declared.de.error.Error.{Error}
use Rattle.world_machine.specs.declared.turned.Finished.{Finished}
use Rattle.world_machine.specs.declared.turned.Finished.TheVariants as finished
use Rattle.world_machine.specs.Worlds.{WorldData}
use Rattle.world_lines.specs.Arguments.{within}
use Rattle.world_setup.specs.Generating.{generated}
use Rattle.world_setup.specs.SetupOf.{setup_of}
use Rattle.penglai_main.specs.declared.top.Command.{Command}
use Rattle.penglai_main.specs.declared.top.Command.TheVariants.{Solo, Measure, Generate}
use Rattle.penglai_main.specs.declared.solo.Printed.TheVariants as printed_is
use Rattle.penglai_main.specs.declared.status.Status.{Status}
use Rattle.penglai_main.specs.declared.status.Status.TheVariants as status_is
use Rattle.penglai_main.specs.Ends.{Ends, Reads, ReadsToEnd, Writes, WritesPrefix, WritesNothing, Failed}
use Rattle.penglai_main.specs.Measure.{measurements_text}
use Rattle.penglai_main.specs.Play.{Gives, IsRunOf, run_text}

-- The counts of faults and the bytes are those of the source and the sink that it was handed, where these tell them.

-- the words are exactly `solo`, or `measure`, or `generate` and a decimal number up to 65,535
abbrev pub command_of : List (List ℕ) → Option Command
command_of (word ∷ []) = if bytes_eq word (codes "solo") then Some Solo else if bytes_eq word (codes "measure") then Some Measure else None
command_of (word ∷ number ∷ []) = if bytes_eq word (codes "generate") then option_map Generate (within 0 65535 (dec_value number)) else None
command_of _ = None

-- the numbers of generated loads are those up to 65,535
abbrev pub NumberFits : Command → Type 0
NumberFits Solo = ⊤
NumberFits Measure = ⊤
NumberFits (Generate n) = n ≤ 65535

-- the commands that take a setup from the source
abbrev pub TakesSetup : Command → Type 0
TakesSetup Solo = ⊤
TakesSetup Measure = ⊤
TakesSetup (Generate n) = ⊥

-- the source, before and after a command that reads no setup, is the same
abbrev pub Untouched : {A : Type 0} → Command → A → A → Type 0
Untouched Solo old new = ⊤
Untouched Measure old new = ⊤
Untouched (Generate n) old new = new ≡ old

abbrev pub bad_setup_text : ℕ → ℕ → List ℕ
bad_setup_text rule item = codes "bad setup " ++ (decimal rule ++ (codes " " ++ (decimal item ++ 10 ∷ [])))

-- the answers of the rule that a setup names
abbrev pub choice_gives : Gives → Gives → ChoiceName → Gives
choice_gives oldest least choice_is.Oldest = oldest
choice_gives oldest least choice_is.Least = least

-- where nothing runs, no rule answers
abbrev pub no_choice : ChoiceName → Gives
no_choice name slots position = ⊥

-- a whole run: the source was read to its end and is a setup; the text is that of the world that its run ends with
pub record IsRun (gives : ChoiceName → Gives) (end : Finished) (source : Ends) (text : List ℕ) : Type 0 where
  pub at_end : ReadsToEnd source
  pub setup : SetupParts
  pub reads : Reads setup_of source (Ok setup)
  pub world : WorldData
  pub run : IsRunOf sha256 (gives setup.choice) setup end world
  pub text_is : text ≡ run_text printed_is.History world end

-- measured images: the source was read to its end and is a setup; the text is one line for each of its images
pub record IsMeasured (source : Ends) (text : List ℕ) : Type 0 where
  pub at_end : ReadsToEnd source
  pub setup : SetupParts
  pub reads : Reads setup_of source (Ok setup)
  pub text_is : text ≡ measurements_text setup.images

-- a generated load: its setup was run until each line was answered, none by a fault; the text is the summary and report of its world
pub record IsLoad (gives : Gives) (n : ℕ) (text : List ℕ) : Type 0 where
  pub world : WorldData
  pub run : IsRunOf sha256 gives (generated n) finished.Done world
  pub faultless : IsFaultless world.history.entries
  pub text_is : text ≡ run_text printed_is.Summary world finished.Done

-- what a command writes, where all is written; measuring runs nothing, and a generated load is neither stuck nor broken off by a collision
abbrev pub IsOutput : (ChoiceName → Gives) → Command → Finished → Ends → List ℕ → Type 0
IsOutput gives Solo end source text = IsRun gives end source text
IsOutput gives Measure finished.Done source text = IsMeasured source text
IsOutput gives Measure end source text = ⊥
IsOutput gives (Generate n) finished.Done source text = IsLoad (gives choice_is.Oldest) n text
IsOutput gives (Generate n) end source text = ⊥

-- a refused setup, with the first rule that fails and its item
pub record IsRefusal (command : Command) (source : Ends) (rule item : ℕ) (text : List ℕ) : Type 0 where
  pub takes : TakesSetup command
  pub reads : Reads setup_of source (Err (rule, item))
  pub text_is : text ≡ bad_setup_text rule item

-- the parser's cause comes with rule 2 alone, of a text that isn't TOML
abbrev pub CauseFits : ℕ → ℕ → Option Error → Type 0
CauseFits rule item None = ⊤
CauseFits rule item (Some cause) = (rule ≡ 2) × (item ≡ 0)

-- what may be written
abbrev pub MayWrite : (ChoiceName → Gives) → Command → Ends → List ℕ → Type 0
MayWrite gives command source text =
    ((end : Finished) × IsOutput gives command end source text) ⊎ ((rule : ℕ) × (item : ℕ) × IsRefusal command source rule item text)

-- a whole output was written
abbrev pub IsWhole : (ChoiceName → Gives) → Command → Finished → Ends → Ends → Type 0
IsWhole gives command end source sink = (text : List ℕ) × IsOutput gives command end source text × Writes sink text

-- what each status says of the source and the sink, where the words are a command
abbrev pub Explains : (ChoiceName → Gives) → Command → Ends → Ends → Status → Type 0
Explains gives command source sink status_is.Done = IsWhole gives command finished.Done source sink
Explains gives command source sink status_is.BadWords = ⊥
Explains gives command source sink status_is.ReadFault = Failed source × WritesNothing sink
Explains gives command source sink status_is.WriteFault = Failed sink × ((text : List ℕ) × MayWrite gives command source text × WritesPrefix sink text)
Explains gives command source sink (status_is.BadSetup rule item cause) =
    (text : List ℕ) × IsRefusal command source rule item text × Writes sink text × CauseFits rule item cause
Explains gives command source sink status_is.NoMemory = WritesNothing sink
Explains gives command source sink status_is.Collision = IsWhole gives command finished.Collision source sink
Explains gives command source sink status_is.Stuck = IsWhole gives command finished.Stuck source sink

-- the status of a run that ended so, where all is written
abbrev pub status_of : Finished → Status
status_of finished.Done = status_is.Done
status_of finished.Collision = status_is.Collision
status_of finished.Stuck = status_is.Stuck

-- the exit status of the program
abbrev pub status_code : Status → ℕ
status_code status_is.Done = 0
status_code status_is.BadWords = 1
status_code status_is.ReadFault = 2
status_code status_is.WriteFault = 3
status_code (status_is.BadSetup rule item cause) = 4
status_code status_is.NoMemory = 5
status_code status_is.Collision = 6
status_code status_is.Stuck = 7
