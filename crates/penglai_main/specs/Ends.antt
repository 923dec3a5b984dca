-- What a call read and wrote.
use Rattle.std.specs.Prelude.{◌≡◌, ◌≤◌, ℕ, List, [], Option, IfSome}
use Rattle.std.specs.Io.KnownBytes.{Appends, IsAtEnd}
use Rattle.pl_io.specs.Bytes.{AppendsPrefix}
use Rattle.pl_io.specs.Causes.{Rose}

-- the bytes that are left to read or that were written, where they are told, and the count of faults: before a call and after it
pub record Ends : Type 0 where
  pub old : Option (List ℕ)
  pub new : Option (List ℕ)
  pub before : ℕ
  pub now : ℕ

-- the ends of a source or a sink by its two members
abbrev pub ends : {A : Type 0} → (A → Option (List ℕ)) → (A → ℕ) → A → A → Ends
ends bytes faults old new = record { old = bytes old; new = bytes new; before = faults old; now = faults new }

-- what was left to read is known by this function as this
abbrev pub Reads : {A : Type 0} → (List ℕ → A) → Ends → A → Type 0
Reads meaning source answer = IfSome source.old (λ bytes. meaning bytes ≡ answer)

-- the source was read to its end
abbrev pub ReadsToEnd : Ends → Type 0
ReadsToEnd source = IsAtEnd source.new

abbrev pub Writes : Ends → List ℕ → Type 0
Writes sink text = Appends sink.old sink.new text

abbrev pub WritesPrefix : Ends → List ℕ → Type 0
WritesPrefix sink text = AppendsPrefix sink.old sink.new text

abbrev pub WritesNothing : Ends → Type 0
WritesNothing sink = Writes sink []

-- the count of faults rose
abbrev pub Failed : Ends → Type 0
Failed ends = Rose ends.before ends.now

-- the count of faults didn't fall
abbrev pub Later : Ends → Type 0
Later ends = ends.before ≤ ends.now
