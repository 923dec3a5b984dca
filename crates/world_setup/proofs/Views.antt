-- The items and the keys of a table of `toml`, beside its data.
use Rattle.std.specs.List.{list_any, list_all}
use Rattle.std.proofs.Common.{◌≡◌, ℕ, Bool, ◌||◌, ◌&&◌, suc, length, List, [], ◌∷◌, map, Option, Some, option_map, String, Vec, Global, string_bytes, Bor, refl, ap}
use Rattle.toml.specs.Data.{Data}
use Rattle.toml.specs.View.{view, items_view, members_view}
use Rattle.toml.proofs.Views.{view-Array}
use Rattle.toml.specs.declared.value.Value.{Value, Array}
use Rattle.world_setup.specs.TomlData.{list_of, keys_of, items_at}

pub list_of-view : (vs : List Value) → list_of (items_view vs) ≡ map view vs
list_of-view [] = refl
list_of-view (v ∷ vs) = ap (λ ds. view v ∷ ds) (list_of-view vs)

pub keys_of-view : (es : List (String Global × Value)) → keys_of (members_view es) ≡ map string_bytes (map (λ e. e.0) es)
keys_of-view [] = refl
keys_of-view (e ∷ es) = ap (λ ks. string_bytes e.0 ∷ ks) (keys_of-view es)

-- what a look-up that found an array has
pub items_at-array : (r : Option (Bor Value)) (x : Bor Value) (v : Vec Value Global) (found : Option Data) → option_map (λ y. view y.now) r ≡ found → r ≡ Some x → x.now ≡ Array v
    → items_at found ≡ map view v.items
items_at-array r x v found seen is holds = rw (← seen, is, holds, view-Array v) (list_of-view v.items)

-- a test of what each item points to
pub list_any-now : (test : List ℕ → Bool) (ns : List (Bor (List ℕ))) → list_any test (map (λ n. n.now) ns) ≡ list_any (λ n. test n.now) ns
list_any-now test [] = refl
list_any-now test (n ∷ ns) = ap (λ b. test n.now || b) (list_any-now test ns)

-- a test of each item's data
pub list_all-view : (test : Data → Bool) (vs : List Value) → list_all test (list_of (items_view vs)) ≡ list_all (λ v. test (view v)) vs
list_all-view test [] = refl
list_all-view test (v ∷ vs) = ap (λ b. test (view v) && b) (list_all-view test vs)

pub length-view : (vs : List Value) → length (list_of (items_view vs)) ≡ length vs
length-view [] = refl
length-view (v ∷ vs) = ap suc (length-view vs)
