-- The bytes of two reads, one after the other.
use Rattle.std.proofs.Common.{ℕ, ◌-◌, ◌<◌, ◌≤◌, List, ◌++◌, length, take, refl, arith, length-append, Err}
use Rattle.std.proofs.lemmas.List.{length-take-le}
use Rattle.std.specs.declared.option.Option.{Option}
use Rattle.std.specs.Io.KnownBytes.{Consumes}
use Rattle.std.proofs.KnownBytes.{Consumes-trans}
use Rattle.pl_io.specs.declared.reading.ReadAll.TheVariants.{Memory, TooLong}
use Rattle.pl_io.specs.Bytes.{ReadsAll}

pub read_too_long : (a b c : Option (List ℕ)) (all piece : List ℕ) (limit count : ℕ) → Consumes a b all → Consumes b c (take count piece) → count ≤ length piece
    → length all ≤ limit → limit - length all < count → ReadsAll a c limit (Err TooLong)
read_too_long a b c all piece limit count first second within fits over = record {
  bytes = all ++ take count piece;
  consumed = Consumes-trans a b c all (take count piece) first second;
  all = tt;
  too_long = (λ _. omega (arith, length-append all (take count piece), length-take-le count piece within), λ _. refl);
}

pub read_no_memory : (a b c : Option (List ℕ)) (all piece : List ℕ) (limit count : ℕ) → Consumes a b all → Consumes b c (take count piece) → count ≤ length piece
    → length all ≤ limit → count ≤ limit - length all → ReadsAll a c limit (Err Memory)
read_no_memory a b c all piece limit count first second within fits room = record {
  bytes = all ++ take count piece;
  consumed = Consumes-trans a b c all (take count piece) first second;
  all = tt;
  too_long = (λ e. cc, λ more. absurd (omega (arith, length-append all (take count piece), length-take-le count piece within)));
}
