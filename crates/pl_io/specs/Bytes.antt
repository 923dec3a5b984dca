-- What reads take and puts leave, where the bytes are told.
use Rattle.std.specs.Prelude.{◌≡◌, ◌<◌, ◌≤◌, ◌↔◌, ℕ, List, length, take, Result, Err, IfOk}
use Rattle.std.specs.declared.option.Option.{Option}
use Rattle.std.specs.Io.KnownBytes.{Appends, Consumes, IsAtEnd}
use Rattle.std.specs.declared.alloc.Global.{Global}
use Rattle.std.specs.Prelude.{Vec}
use Rattle.pl_io.specs.declared.reading.ReadAll.{ReadAll}
use Rattle.pl_io.specs.declared.reading.ReadAll.TheVariants.{TooLong}

-- some front of the piece was written
abbrev pub AppendsPrefix : Option (List ℕ) → Option (List ℕ) → List ℕ → Type 0
AppendsPrefix old new piece = (n : ℕ) × (n ≤ length piece) × Appends old new (take n piece)

-- the bytes that a call of `read_all` took, and how its answer follows from them
pub record ReadsAll (old new : Option (List ℕ)) (limit : ℕ) (result : Result (Vec ℕ Global) ReadAll) : Type 0 where
  pub bytes : List ℕ
  pub consumed : Consumes old new bytes
  pub all : IfOk result (λ v. (v.items ≡ bytes) × IsAtEnd new)
  pub too_long : (result ≡ Err TooLong) ↔ (limit < length bytes)
