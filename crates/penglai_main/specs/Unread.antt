-- What the steps of the top call say: a setup that is read, and what is written where none is.
use Rattle.std.specs.Prelude.{◌≡◌, ℕ, Option, Result, Ok, Err, ⊤}
use Rattle.toml.specs.declared.de.error.Error.{Error}
use Rattle.pl_history.specs.declared.setup.SetupParts.{SetupParts}
use Rattle.world_setup.specs.SetupOf.{setup_of}
use Rattle.penglai_main.specs.declared.status.Status.{Status}
use Rattle.penglai_main.specs.declared.status.Status.TheVariants as status_is
use Rattle.penglai_main.specs.declared.unread.Unread.{Unread}
use Rattle.penglai_main.specs.declared.unread.Unread.TheVariants as unread
use Rattle.penglai_main.specs.Ends.{Ends, Reads, ReadsToEnd, Writes, WritesPrefix, WritesNothing, Failed, Later}
use Rattle.penglai_main.specs.Top.{CauseFits, bad_setup_text}

-- how the answer follows from what was left to read
abbrev pub Obtains : Ends → Result SetupParts Unread → Type 0
Obtains source (Ok setup) = ReadsToEnd source × Reads setup_of source (Ok setup)
Obtains source (Err unread.Memory) = ⊤
Obtains source (Err unread.ReadFault) = Failed source
Obtains source (Err (unread.Bad rule item cause)) = Reads setup_of source (Err (rule, item)) × CauseFits rule item cause

-- the line of a refused setup was written, and the parser's cause is handed on; or a front of the line, where a write failed
abbrev pub Refuses : Ends → ℕ → ℕ → Option Error → Status → Type 0
Refuses sink rule item cause (status_is.BadSetup r i told) = (r ≡ rule) × (i ≡ item) × (told ≡ cause) × Writes sink (bad_setup_text rule item) × Later sink
Refuses sink rule item cause status_is.WriteFault = Failed sink × WritesPrefix sink (bad_setup_text rule item) × Later sink
Refuses sink rule item cause _ = ⊥

-- no setup was read: its refusal is written, and nothing where memory or a read is the cause
abbrev pub Declines : Ends → Unread → Status → Type 0
Declines sink (unread.Bad rule item cause) status = Refuses sink rule item cause status
Declines sink unread.Memory status = (status ≡ status_is.NoMemory) × WritesNothing sink × Later sink
Declines sink unread.ReadFault status = (status ≡ status_is.ReadFault) × WritesNothing sink × Later sink
