-- A walk over the keys of a table.
use Rattle.std.proofs.Common.{◌≡◌, ℕ, Bool, true, false, List, ◌∷◌, map, String, BTreeMap, Global, string_bytes, Bor, sym, ap, ◌∙◌}
use Rattle.std.specs.BTreeMap.{keys}
use Rattle.std.specs.List.{list_all, list_any}
use Rattle.std.specs.Str.{bytes_eq}
use Rattle.toml.specs.View.{table_view}
use Rattle.toml.specs.declared.value.Value.{Value}
use Rattle.world_setup.specs.TomlData.{keys_of}
use Rattle.world_setup.proofs.Views.{keys_of-view, list_any-now}

pub keys_start : (test : List ℕ → Bool) (t : BTreeMap (String Global) Value) (ks left : List (String Global)) → left ≡ ks → ks ≡ keys t
    → list_all test (keys_of (table_view t)) ≡ list_all test (map string_bytes left)
keys_start test t ks left a b = rw (a, b) (ap (list_all test) (keys_of-view t.entries))

pub keys_fail : (test : List ℕ → Bool) (all : Bool) (left rest : List (String Global)) (k : String Global) → all ≡ list_all test (map string_bytes left) → left ≡ k ∷ rest
    → test (string_bytes k) ≡ false → false ≡ all
keys_fail test all left rest k inv e fails = sym (rw (e, fails) at inv)

pub keys_pass : (test : List ℕ → Bool) (all : Bool) (left rest : List (String Global)) (k : String Global) → all ≡ list_all test (map string_bytes left) → left ≡ k ∷ rest
    → test (string_bytes k) ≡ true → all ≡ list_all test (map string_bytes rest)
keys_pass test all left rest k inv e passes = rw (e, passes) at inv

-- what a test of one key answered
pub among : (k : String Global) (text : List ℕ) (answer value : Bool) (ns : List (Bor (List ℕ))) → text ≡ string_bytes k → answer ≡ list_any (λ n. bytes_eq text n.now) ns → answer ≡ value
    → list_any (bytes_eq (string_bytes k)) (map (λ n. n.now) ns) ≡ value
among k text answer value ns is said e = list_any-now (bytes_eq (string_bytes k)) ns ∙ ap (λ t. list_any (λ n. bytes_eq t n.now) ns) (sym is) ∙ sym said ∙ e
