-- The first two rules, from what `toml` says.
use Rattle.std.proofs.Common.{◌≡◌, ℕ, ◌≤◌, Bool, true, false, List, length, le-leb, Some, None, Err, IsTrue, ◌↔◌, refl}
use Rattle.std.specs.Str.{is_utf8, IsUtf8}
use Rattle.std.proofs.lemmas.Str.{IsUtf8-from_is_utf8, is_utf8-from_IsUtf8}
use Rattle.toml.specs.Data.{Members}
use Rattle.toml.specs.Parse.{parse_document}
use Rattle.world_setup.specs.SetupOf.{setup_of, setup_of_table}

pub setup_of-table : (bytes : List ℕ) (t : Members) → length bytes ≤ 16777216 → IsUtf8 bytes → parse_document bytes ≡ Some t → setup_of bytes ≡ setup_of_table t
setup_of-table bytes t short text parsed = rw (le-leb (length bytes) 16777216 short, is_utf8-from_IsUtf8 bytes text, parsed)

refused_by : (bytes : List ℕ) (b : Bool) → length bytes ≤ 16777216 → is_utf8 bytes ≡ b → (b ≡ true → parse_document bytes ≡ None) → setup_of bytes ≡ Err (2, 0)
refused_by bytes true short test none = rw (le-leb (length bytes) 16777216 short, test, none refl)
refused_by bytes false short test none = rw (le-leb (length bytes) 16777216 short, test)

pub setup_of-refused : (bytes : List ℕ) → length bytes ≤ 16777216 → (IsUtf8 bytes → parse_document bytes ≡ None) → setup_of bytes ≡ Err (2, 0)
setup_of-refused bytes short none = refused_by bytes (is_utf8 bytes) short refl (λ e. none (IsUtf8-from_is_utf8 bytes e))

pub not_memory : (b : Bool) (P : Type 0) → b ≡ false → (IsTrue b ↔ P) → P → ⊥
not_memory b P no_fault said p = let yes_fault = said.1 p in cc
