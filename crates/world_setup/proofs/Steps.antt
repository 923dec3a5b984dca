-- One more item of a list, as a loop takes it.
use Rattle.std.proofs.Common.{◌≡◌, ℕ, ◌+◌, ◌<◌, List, [], ◌∷◌, ◌++◌, map, length, take, get_or, Option, Some, None, option_and_then, refl, sym, ap, ◌∙◌, append_assoc}
use Rattle.std.proofs.lemmas.List.{take_more}
use Rattle.std.proofs.lemmas.List.Elements.{filter_map-append}
use Rattle.std.specs.List.{filter_map}
use Rattle.std.specs.Option.{option_to_list}

one_given : {X Y : Type 0} (f : X → Option Y) (x : X) (o : Option Y) → f x ≡ o → filter_map f (x ∷ []) ≡ option_to_list o
one_given f x None e = rw e
one_given f x (Some y) e = rw e

-- the items that f gives of one more
pub filter_map_more : {X Y : Type 0} (f : X → Option Y) (xs : List X) (i : ℕ) (d : X) → i < length xs → filter_map f (take (i + 1) xs) ≡ filter_map f (take i xs) ++ option_to_list (f (get_or xs i d))
filter_map_more f xs i d below =
    ap (filter_map f) (take_more xs i d below) ∙ filter_map-append f (take i xs) (get_or xs i d ∷ [])
    ∙ ap (λ ys. filter_map f (take i xs) ++ ys) (one_given f (get_or xs i d) (f (get_or xs i d)) refl)

-- f after v is f of what v gives
pub filter_map-map : {X Y Z : Type 0} (f : Y → Option Z) (v : X → Y) (xs : List X) → filter_map f (map v xs) ≡ filter_map (λ x. f (v x)) xs
filter_map-map f v [] = refl
filter_map-map f v (x ∷ xs) = rw (filter_map-map f v xs)

chosen : {X Y Z : Type 0} (f : Y → Option Z) (g : X → Option Y) (x : X) (xs : List X) (o : Option Y) → g x ≡ o → filter_map f (filter_map g xs) ≡ filter_map (λ y. option_and_then f (g y)) xs
    → filter_map f (filter_map g (x ∷ xs)) ≡ filter_map (λ y. option_and_then f (g y)) (x ∷ xs)
chosen f g x xs None e rest = rw e rest
chosen f g x xs (Some y) e rest = rw (e, rest)

-- two such choices are one
pub filter_map-filter_map : {X Y Z : Type 0} (f : Y → Option Z) (g : X → Option Y) (xs : List X) → filter_map f (filter_map g xs) ≡ filter_map (λ x. option_and_then f (g x)) xs
filter_map-filter_map f g [] = refl
filter_map-filter_map f g (x ∷ xs) = chosen f g x xs (g x) refl (filter_map-filter_map f g xs)

-- a loop that has pushed what f gives of each item takes one more
pub pushed_more : {X Y : Type 0} (f : X → Option Y) (xs : List X) (i : ℕ) (x : X) (front old new : List Y) → i < length xs → x ≡ get_or xs i x → old ≡ front ++ filter_map f (take i xs)
    → new ≡ old ++ option_to_list (f x) → new ≡ front ++ filter_map f (take (i + 1) xs)
pushed_more f xs i x front old new below is so_far pushed =
    pushed ∙ ap (λ l. l ++ option_to_list (f x)) so_far ∙ append_assoc front (filter_map f (take i xs)) (option_to_list (f x))
    ∙ ap (λ l. front ++ l) (ap (λ y. filter_map f (take i xs) ++ option_to_list (f y)) is ∙ sym (filter_map_more f xs i x below))

-- the same of an item by its place
pub pushed_at : {X Y : Type 0} (f : X → Option Y) (xs : List X) (i : ℕ) (d : X) (old new : List Y) → i < length xs → old ≡ filter_map f (take i xs)
    → new ≡ old ++ option_to_list (f (get_or xs i d)) → new ≡ filter_map f (take (i + 1) xs)
pushed_at f xs i d old new below so_far pushed = pushed ∙ ap (λ l. l ++ option_to_list (f (get_or xs i d))) so_far ∙ sym (filter_map_more f xs i d below)
