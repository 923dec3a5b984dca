-- Listed words of some pages are those of more pages too.
use Rattle.std.proofs.Common.{ℕ, ◌≤◌, List, arith}
use Rattle.pl_base.specs.ListedWords.{AreWordsOf}

pub AreWordsOf-more : (few many : ℕ) (words : List (ℕ × ℕ × ℕ)) → few ≤ many → AreWordsOf few words → AreWordsOf many words
AreWordsOf-more few many words more are = record {
  inside = λ k d h. let below = are.inside k d h in omega arith;
  offsets = are.offsets;
  aligned = are.aligned;
  apart = are.apart;
}
