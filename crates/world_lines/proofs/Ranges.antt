-- Numbers that count up, and the texts that name them.
use Rattle.std.proofs.Common.{◌≡◌, ℕ, ◌+◌, ◌-◌, ◌≤◌, ◌==◌, List, [], ◌∷◌, ◌++◌, length, Option, Some, None, refl, sym, ap, ◌∙◌, arith, append_assoc, map-id}
use Rattle.std.specs.List.{range_with_len, count_by}
use Rattle.std.proofs.lemmas.List.FromFn.{map-range_with_len_more}
use Rattle.std.proofs.lemmas.List.Splits.{length-slice_split}
use Rattle.world_lines.specs.Words.{parts_of, parts_after}
use Rattle.world_lines.specs.PageLists.{range_of_parts, range_of}

-- the numbers from the first to the last end with the last
last_of_range : (first last : ℕ) → first ≤ last → range_with_len first (last + 1 - first) ≡ range_with_len first (last - first) ++ last ∷ []
last_of_range first last below =
    let more : last + 1 - first ≡ last - first + 1 = omega arith in
    ap (range_with_len first) more ∙ (sym (map-id (range_with_len first (last - first + 1))) ∙ map-range_with_len_more (λ n. n) first (last - first) last (omega arith)
    ∙ ap (λ l. l ++ last ∷ []) (map-id (range_with_len first (last - first))))

-- the numbers below the last, and then the last, are all of them
pub range_ends : (before middle after : List ℕ) (first last : ℕ) → first ≤ last → middle ≡ before ++ range_with_len first (last - first) → after ≡ middle ++ last ∷ []
    → after ≡ before ++ range_with_len first (last + 1 - first)
range_ends before middle after first last below so_far pushed =
    pushed ∙ ap (λ l. l ++ last ∷ []) so_far ∙ append_assoc before (range_with_len first (last - first)) (last ∷ []) ∙ ap (λ l. before ++ l) (sym (last_of_range first last below))

no_range : (a b : List ℕ) (more : List (List ℕ)) (n : ℕ) → length more ≡ n + 1 → None ≡ range_of_parts (a ∷ b ∷ more)
no_range a b [] n is = absurd (omega (arith, is))
no_range a b (c ∷ more) n is = refl

-- a text of three parts or more is no range
pub three_parts : (text first rest last more : List ℕ) (o p : Option (List ℕ)) → o ≡ Some rest → p ≡ Some more → parts_of 45 text ≡ first ∷ parts_after 45 o → parts_of 45 rest ≡ last ∷ parts_after 45 p
    → None ≡ range_of text
three_parts text first rest last more o p is_rest is_more first_part next_part =
    let behind : parts_of 45 rest ≡ last ∷ parts_of 45 more = next_part ∙ ap (λ x. last ∷ parts_after 45 x) is_more in
    let whole : parts_of 45 text ≡ first ∷ last ∷ parts_of 45 more = first_part ∙ ap (λ x. first ∷ parts_after 45 x) is_rest ∙ ap (λ l. first ∷ l) behind in
    no_range first last (parts_of 45 more) (count_by (λ b. b == 45) more) (length-slice_split (λ b. b == 45) more) ∙ ap range_of_parts (sym whole)
