-- A value, or the number of the first rule that fails, with the position of its item.
use Rattle.std.specs.Prelude.{ℕ, Bool, true, false, Option, Some, None, Result, Ok, Err}

abbrev pub Checked : Type 0 → Type 0
Checked A = Result A (ℕ × ℕ)

infixl 10 ◌>>=◌
abbrev pub ◌>>=◌ : {A B : Type 0} → Checked A → (A → Checked B) → Checked B
Ok x >>= f = f x
Err e >>= f = Err e

-- the rule fails where the test does
abbrev pub unless : Bool → ℕ → Checked (Unit {0})
unless true rule = Ok tt
unless false rule = Err (rule, 0)

-- the rule fails where there is no value
abbrev pub some_of : {A : Type 0} → Option A → ℕ → Checked A
some_of (Some x) rule = Ok x
some_of None rule = Err (rule, 0)

-- the rule fails at the position that was found
abbrev pub none_at : Option ℕ → ℕ → Checked (Unit {0})
none_at None rule = Ok tt
none_at (Some at) rule = Err (rule, at)
