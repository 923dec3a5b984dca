-- Ranges that cover, meet or miss one another.
use Rattle.std.proofs.Common.{◌≡◌, ◌<◌, ◌≤◌, true, false, arith}
use Rattle.std.proofs.lemmas.Bool.Decides.{nat_tests}
use Rattle.pl_base.specs.Span.{overlaps, covers}
use Rattle.pl_base.specs.declared.span.Span.{Span}

pub covers-trans : (a b c : Span) → covers a b ≡ true → covers b c ≡ true → covers a c ≡ true
covers-trans a b c ab bc = grind (arith, nat_tests)

pub overlaps-from_covers : (a b : Span) → b.start < b.stop → covers a b ≡ true → overlaps a b ≡ true
overlaps-from_covers a b some inside = grind (arith, nat_tests)

-- a range that misses the whole misses each part
pub apart-part : (a whole part : Span) → covers whole part ≡ true → overlaps a whole ≡ false → overlaps a part ≡ false
apart-part a whole part inside apart = grind (arith, nat_tests)

pub apart-above : (a b : Span) → a.stop ≤ b.start → overlaps a b ≡ false
apart-above a b above = grind (arith, nat_tests)
