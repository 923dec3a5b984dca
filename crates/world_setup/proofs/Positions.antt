-- The first item that fails.
use Rattle.std.proofs.Common.{◌≡◌, ℕ, ◌+◌, ◌<◌, Bool, true, false, List, [], ◌∷◌, map, length, position, Some, refl, arith}
use Rattle.std.specs.List.{position_or_len, position_from}
use Rattle.std.proofs.lemmas.List.{length-map}

pub position_or_len-map : {X Y : Type 0} (p : Y → Bool) (v : X → Y) (xs : List X) → position_or_len p (map v xs) ≡ position_or_len (λ x. p (v x)) xs
position_or_len-map p v [] = refl
position_or_len-map p v (x ∷ xs) = rw (position_or_len-map p v xs)

pub position-map : {X Y : Type 0} (p : Y → Bool) (v : X → Y) (xs : List X) → position p (map v xs) ≡ position (λ x. p (v x)) xs
position-map p v xs = rw (position_or_len-map p v xs, length-map xs v)

pub position_from-map : {X Y : Type 0} (p : Y → Bool) (v : X → Y) (i : ℕ) (xs : List X) → position_from p i (map v xs) ≡ position_from (λ x. p (v x)) i xs
position_from-map p v i [] = refl
position_from-map p v i (x ∷ xs) = rw (position_from-map p v (i + 1) xs)

within_by : {X : Type 0} (p : X → Bool) (b : Bool) (i at : ℕ) (x : X) (xs : List X) → p x ≡ b → (position_from p (i + 1) xs ≡ Some at → at < i + 1 + length xs) → position_from p i (x ∷ xs) ≡ Some at → at < i + length (x ∷ xs)
within_by p true i at x xs test rest e = let e' = rw test at e in let same : i ≡ at = cc in omega arith
within_by p false i at x xs test rest e = let e' = rw test at e in let below = rest e' in omega arith

-- it lies within the list
pub position_from-within : {X : Type 0} (p : X → Bool) (i at : ℕ) (xs : List X) → position_from p i xs ≡ Some at → at < i + length xs
position_from-within p i at [] e = cc
position_from-within p i at (x ∷ xs) e = within_by p (p x) i at x xs refl (position_from-within p (i + 1) at xs) e
