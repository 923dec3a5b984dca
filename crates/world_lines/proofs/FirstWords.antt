-- The first word of a text.
use Rattle.std.proofs.Common.{◌≡◌, ℕ, suc, ◌+◌, ◌-◌, ◌<◌, ◌≤◌, ◌==◌, ◌&&◌, nat_le, nat_lt, Bool, true, false, cond, List, [], ◌∷◌, length, take, drop, Option, Some, None, refl, subst, ap, ◌∙◌, arith, length-drop}
use Rattle.std.specs.List.{slice_split, position, position_or_len, count_by}
use Rattle.std.proofs.lemmas.Bool.Decides.{nat_tests}
use Rattle.std.proofs.lemmas.List.{take_all}
use Rattle.std.proofs.lemmas.List.Splits.{slice_split_first, slice_split_none, length-slice_split}
use Rattle.std.proofs.lemmas.List.Sums.{fails_before_first}
use Rattle.std.proofs.lemmas.Option.{same_Some}
use Rattle.world_lines.specs.Words.{words_of, words_after}

below_of : (a b : ℕ) → nat_lt a b ≡ true → a < b
below_of a b test = grind (arith, nat_tests)

above_of : (a b : ℕ) → nat_lt a b ≡ false → b ≤ a
above_of a b test = grind (arith, nat_tests)

cut_by : (p : ℕ → Bool) (text : List ℕ) (b : Bool) (at : ℕ) → nat_lt (position_or_len p text) (length text) ≡ b → cond b (Some (position_or_len p text)) None ≡ Some at
    → slice_split p text ≡ take at text ∷ slice_split p (drop (at + 1) text)
cut_by p text true at test is =
    subst (λ n. slice_split p text ≡ take n text ∷ slice_split p (drop (n + 1) text)) (same_Some (position_or_len p text) at is)
    (slice_split_first p text 0 (below_of (position_or_len p text) (length text) test))
cut_by p text false at test is = cc

whole_by : (p : ℕ → Bool) (text : List ℕ) (b : Bool) → nat_lt (position_or_len p text) (length text) ≡ b → cond b (Some (position_or_len p text)) None ≡ None → slice_split p text ≡ text ∷ []
whole_by p text true test is = cc
whole_by p text false test is =
    let end = above_of (position_or_len p text) (length text) test in
    slice_split_none p text (λ k d below. fails_before_first p text k d (omega arith))

-- a text with a place of the byte is cut there
pub cut_at : (p : ℕ → Bool) (text : List ℕ) (at : ℕ) → position p text ≡ Some at
    → slice_split p text ≡ take at text ∷ slice_split p (take (length text - (at + 1)) (drop (at + 1) text))
cut_at p text at is =
    let whole : take (length text - (at + 1)) (drop (at + 1) text) ≡ drop (at + 1) text =
    take_all (length text - (at + 1)) (drop (at + 1) text) (omega (arith, length-drop (at + 1) text)) in
    rw whole (cut_by p text (nat_lt (position_or_len p text) (length text)) at refl is)

-- a text with none is one part
pub cut_nowhere : (p : ℕ → Bool) (text : List ℕ) → position p text ≡ None → slice_split p text ≡ text ∷ []
cut_nowhere p text is = whole_by p text (nat_lt (position_or_len p text) (length text)) refl is

five_or_more : (words : List (List ℕ)) (spaces more : ℕ) → length words ≡ suc more → more ≡ spaces + 1 → nat_le 2 (suc (suc (suc (length words)))) && nat_le (suc (suc (suc (length words)))) 4 ≡ false
five_or_more words spaces more is some = rw (is, some) (grind (arith, nat_tests))

-- two words or more behind three are five or more
pub five_words : (text first rest : List ℕ) (o : Option (List ℕ)) → o ≡ Some rest → words_of text ≡ first ∷ words_after o
    → nat_le 2 (suc (suc (suc (length (words_of text))))) && nat_le (suc (suc (suc (length (words_of text))))) 4 ≡ false
five_words text first rest o is words =
    five_or_more (words_of text) (count_by (λ b. b == 32) rest) (length (words_of rest)) (ap length words ∙ ap (λ r. suc (length (words_after r))) is) (length-slice_split (λ b. b == 32) rest)
