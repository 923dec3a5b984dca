-- What a call that writes a text leaves in a sink.
use Rattle.std.specs.Prelude.{ℕ, List, Result, OnOk, OnErr}
use Rattle.std.specs.declared.option.Option.{Option}
use Rattle.std.specs.Io.KnownBytes.{Appends}
use Rattle.pl_io.specs.Causes.{HasCause}
use Rattle.pl_io.specs.Bytes.{AppendsPrefix}

-- the whole text at `Ok`, a prefix of it at `Err`, which comes only where the count rose
pub record Puts {T E : Type 0} (old new : Option (List ℕ)) (before now : ℕ) (text : List ℕ) (result : Result T E) : Type 0 where
  pub whole : OnOk result (Appends old new text)
  pub part : OnErr result (AppendsPrefix old new text)
  pub cause : HasCause before now result
