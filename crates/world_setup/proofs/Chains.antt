-- What a chain of rules answers, from what its parts answer.
use Rattle.std.proofs.Common.{◌≡◌, ℕ, ◌+◌, Bool, true, false, not, List, [], ◌∷◌, position, Option, Some, None, Ok, Err, refl, sym, ◌∙◌}
use Rattle.std.proofs.lemmas.Iterator.Adapters.{position_from-zero}
use Rattle.std.specs.List.{list_all, position_from}
use Rattle.world_setup.specs.Checked.{Checked, ◌>>=◌, unless, some_of, none_at}
use Rattle.world_setup.specs.Answers.{Answers}
use Rattle.world_setup.specs.declared.fault.SetupFault.{SetupFault}
use Rattle.world_setup.specs.declared.fault.SetupFault.TheVariants.{Memory, Bad, NotToml}

-- a rule that fails ends the chain
pub fault_on : {A B : Type 0} (read : Checked A) (f : A → Checked B) (fault : SetupFault) → Answers read (Err fault) → Answers (read >>= f) (Err fault)
fault_on read f Memory said = tt
fault_on read f (Bad rule item) said = rw said
fault_on read f (NotToml cause) said = rw said

-- a chain that gave a value passed its first rule, and then the rest
module _ {B : Type 0} where
  pub unless_held : (b : Bool) (rule : ℕ) (f : Unit {0} → Checked B) (y : B) → (unless b rule >>= f) ≡ Ok y → (b ≡ true) × (f tt ≡ Ok y)
  unless_held true rule f y e = (refl, e)
  unless_held false rule f y e = cc

  pub some_held : {A : Type 0} (o : Option A) (rule : ℕ) (f : A → Checked B) (y : B) → (some_of o rule >>= f) ≡ Ok y → (x : A) × (o ≡ Some x) × (f x ≡ Ok y)
  some_held (Some x) rule f y e = (x, refl, e)
  some_held None rule f y e = cc

  pub none_held : (o : Option ℕ) (rule : ℕ) (f : Unit {0} → Checked B) (y : B) → (none_at o rule >>= f) ≡ Ok y → (o ≡ None) × (f tt ≡ Ok y)
  none_held None rule f y e = (refl, e)
  none_held (Some at) rule f y e = cc

  pub held : {A : Type 0} (read : Checked A) (f : A → Checked B) (y : B) → (read >>= f) ≡ Ok y → (x : A) × (read ≡ Ok x) × (f x ≡ Ok y)
  held (Ok x) f y e = (x, refl, e)
  held (Err fault) f y e = cc

-- the last rule of a chain
pub none_last : (o : Option ℕ) (rule : ℕ) → none_at o rule ≡ Ok tt → o ≡ None
none_last None rule e = refl
none_last (Some at) rule e = cc

pass_from : {X : Type 0} (p : X → Bool) (i : ℕ) (x : X) (xs : List X) (b : Bool) → p x ≡ b → (position_from (λ y. not (p y)) (i + 1) xs ≡ None → list_all p xs ≡ true) → position_from (λ y. not (p y)) i (x ∷ xs) ≡ None
    → list_all p (x ∷ xs) ≡ true
pass_from p i x xs true e rest none = let none' = rw e at none in rw e (rest none')
pass_from p i x xs false e rest none = let none' = rw e at none in cc

-- the same from a position on
pub all_from : {X : Type 0} (p : X → Bool) (i : ℕ) (xs : List X) → position_from (λ y. not (p y)) i xs ≡ None → list_all p xs ≡ true
all_from p i [] none = refl
all_from p i (x ∷ xs) none = pass_from p i x xs (p x) refl (all_from p (i + 1) xs) none

-- where no item fails, all pass
pub passes_all : {X : Type 0} (p : X → Bool) (xs : List X) → position (λ y. not (p y)) xs ≡ None → list_all p xs ≡ true
passes_all p xs none = all_from p 0 xs (sym (position_from-zero (λ y. not (p y)) xs) ∙ none)

pass_on : {X : Type 0} (p : X → Bool) (i : ℕ) (x : X) (xs : List X) (b : Bool) → p x ≡ b → list_all p (x ∷ xs) ≡ true → (list_all p xs ≡ true → position_from (λ y. not (p y)) (i + 1) xs ≡ None)
    → position_from (λ y. not (p y)) i (x ∷ xs) ≡ None
pass_on p i x xs true e all rest = let rest' = rw e at all in rw e (rest rest')
pass_on p i x xs false e all rest = let none = rw e at all in cc

-- and where all pass, no item fails
pub none_from : {X : Type 0} (p : X → Bool) (i : ℕ) (xs : List X) → list_all p xs ≡ true → position_from (λ y. not (p y)) i xs ≡ None
none_from p i [] all = refl
none_from p i (x ∷ xs) all = pass_on p i x xs (p x) refl all (none_from p (i + 1) xs)
