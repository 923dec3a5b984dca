-- Words that stand one after another as bytes.
use Rattle.std.proofs.Common.{ℕ, ◌≡◌, ◌+◌, ◌*◌, ◌^◌, ◌<◌, zero, suc, List, [], ◌∷◌, ◌++◌, length, get_or, take, drop, All, refl, ap, ◌∙◌, arith}
use Rattle.std.specs.List.{flat_map}
use Rattle.std.proofs.Math.Seq.{drop-append-add}
use Rattle.std.proofs.lemmas.List.Elements.{All-head, All-tail}
use Rattle.byteorder.specs.Endian.{little_bytes, little_number}
use Rattle.byteorder.specs.Numbers.{length-bytes_low_first, little_from-take, little_number-reads_back}
use Rattle.pl_base.specs.Bytes.{bytes_at}

abbrev pub FitsWord : ℕ → Type 0
FitsWord word = word < 2 ^ 64

-- word k is read back from the eight bytes at 8·k
pub word_of_words : (words : List ℕ) (k : ℕ) → k < length words → All FitsWord words
    → little_number 8 (bytes_at (flat_map (little_bytes 8) words) (8 * k) 8) ≡ get_or words k 0
word_of_words [] k within fit = absurd (omega arith)
word_of_words (word ∷ words) zero within fit =
    let rest : List ℕ = flat_map (little_bytes 8) words in
    let small : word < 256 ^ 8 = All-head FitsWord word words fit in
    little_from-take 0 8 8 (little_bytes 8 word ++ rest) (omega arith) ∙ little_number-reads_back 8 word rest small
word_of_words (word ∷ words) (suc k) within fit =
    let rest : List ℕ = flat_map (little_bytes 8) words in
    let long = length-bytes_low_first 0 8 word in
    let at : 8 * suc k ≡ length (little_bytes 8 word) + 8 * k = omega (arith, long) in
    let dropped : drop (8 * suc k) (little_bytes 8 word ++ rest) ≡ drop (8 * k) rest =
    ap (λ n. drop n (little_bytes 8 word ++ rest)) at ∙ drop-append-add (little_bytes 8 word) rest (8 * k) in
    ap (λ bytes. little_number 8 (take 8 bytes)) dropped ∙ word_of_words words k (omega arith) (All-tail FitsWord word words fit)

-- eight bytes for each word
pub length-words : (words : List ℕ) → length (flat_map (little_bytes 8) words) ≡ 8 * length words
length-words [] = refl
length-words (word ∷ words) = omega (arith, length-words words)
