-- The check of a path, place by place.
use Rattle.std.specs.List.{find}
use Rattle.mem_tree.specs.declared.sealed.Verdict.{Verdict}
use Rattle.mem_tree.specs.Words.{verdict_of}
use Rattle.mem_ctl.specs.Results.{is_break, part_checked}
use Rattle.mem_tree.proofs.PathPlaces.{is_same}
use Rattle.std.proofs.Common.{◌≡◌, ℕ, zero, suc, ◌<◌, ◌≤◌, Bool, true, false, cond, not, ◌&&◌, List, [], ◌∷◌, ◌++◌, length, drop, get_or, Option, Some, None, is_some, refl, subst, sym, ap, ◌∙◌, arith}
use Rattle.std.specs.Prelude.{Err}
use Rattle.std.specs.Option.{option_map_or}
use Rattle.std.specs.Str.{bytes_eq}
use mathlib.Core.Logic.{inl, inr}
use Rattle.std.proofs.lemmas.Bool.{cases_Bool, cond-false, cond-true, false≢true}
use Rattle.std.proofs.lemmas.List.{append_assoc, drop_all}
use Rattle.pl_base.specs.declared.place.Place.{Place}
use Rattle.pl_digest.specs.Nodes.{entry}
use Rattle.mem_geom.specs.Tree.{parent, entry_number}
use Rattle.mem_tree.specs.Paths.{Path, breaks, held, path_of, same_place}
use Rattle.mem_tree.specs.Checks.{Checked, Holds, Fault, Collision, IsTopDown, IsTopDownFrom, check, check_on, has_place}
use Rattle.mem_tree.proofs.PathPlaces.{has_more, same_place-refl}
use Rattle.mem_ctl.specs.declared.broken.Broken.{Broken}
use Rattle.mem_ctl.specs.declared.broken.Broken.TheVariants as broken
use Rattle.mem_ctl.specs.Results.{checked_of, place_checked}

-- ---- a later place of a path from the top down isn't the first, and has a parent

pub top_down_at : (u : Place) (us ps : List Place) (k : ℕ) (e : Place) → IsTopDownFrom (u ∷ us) ps → k < length ps
    → (same_place u (get_or ps k e) ≡ false) × (option_map_or (has_place (u ∷ us ++ ps)) (parent (get_or ps k e)) false ≡ true)
top_down_at u us [] k e down there = absurd (omega arith)
top_down_at u us (p ∷ ps) zero e down there = (down.0.0, has_more (u ∷ us) (p ∷ ps) (parent p) down.0.1)
top_down_at u us (p ∷ ps) (suc k) e down there =
    let h = top_down_at u (us ++ p ∷ []) ps k e down.1 (omega arith) in
    (h.0, subst (λ (l : List Place). option_map_or (has_place (u ∷ l)) (parent (get_or ps k e)) false ≡ true) (append_assoc us (p ∷ []) ps) h.1)

has_parent : (test : Place → Bool) (o : Option Place) → option_map_or test o false ≡ true → o ≡ None → ⊥
has_parent test None h none = false≢true h
has_parent test (Some q) h none = false≢true (sym (ap is_some none))

module _ (root : List ℕ) (bytes : Place → List ℕ) where
  pub held-at_first : (ps : List Place) (i : ℕ) (e : Place) → i ≡ 0 → i < length ps → root ≡ held (path_of root ps bytes) (get_or ps i e)
  held-at_first [] i e first there = absurd (omega arith)
  held-at_first (p ∷ ps) zero e first there = sym (cond-true (same_place p p) root _ (same_place-refl p))
  held-at_first (p ∷ ps) (suc i) e first there = absurd (omega arith)

  pub held-at_later : (ps : List Place) (i : ℕ) (e : Place) → 0 < i → i < length ps → IsTopDown ps
      → option_map_or (λ (above : Place). entry (entry_number (get_or ps i e)) (bytes above)) (parent (get_or ps i e)) [] ≡ held (path_of root ps bytes) (get_or ps i e)
  held-at_later [] i e later there down = absurd (omega arith)
  held-at_later (p ∷ ps) zero e later there down = absurd (omega arith)
  held-at_later (p ∷ ps) (suc i) e later there down = sym (cond-false (same_place p (get_or ps i e)) root _ (top_down_at p [] ps i e down (omega arith)).0)

pub has_parent-at : (ps : List Place) (i : ℕ) (e : Place) → 0 < i → i < length ps → IsTopDown ps → parent (get_or ps i e) ≡ None → ⊥
has_parent-at [] i e later there down = absurd (omega arith)
has_parent-at (p ∷ ps) zero e later there down = absurd (omega arith)
has_parent-at (p ∷ ps) (suc i) e later there down = has_parent (has_place (p ∷ ps)) (parent (get_or ps i e)) (top_down_at p [] ps i e down (omega arith)).1

-- ---- one place, and the rest

abbrev pub and_rest : Checked → Checked → Checked
and_rest Holds rest = rest
and_rest (Fault p) rest = Fault p
and_rest (Collision p s t) rest = Collision p s t

one_more_place : (broken same one : Bool) (p : Place) (s t : List ℕ) (rest : Checked)
    → cond broken (Fault p) (cond (not broken && not same && one) (Collision p s t) rest) ≡ and_rest (cond broken (Fault p) (cond (not same && one) (Collision p s t) Holds)) rest
one_more_place true same one p s t rest = refl
one_more_place false true one p s t rest = refl
one_more_place false false true p s t rest = refl
one_more_place false false false p s t rest = refl

drop_place : (ps : List Place) (i j : ℕ) (e : Place) → i < length ps → j ≡ suc i → drop i ps ≡ get_or ps i e ∷ drop j ps
drop_place [] i j e there next = absurd (omega arith)
drop_place (p ∷ ps) zero j e there next = ap (λ (k : ℕ). p ∷ drop k (p ∷ ps)) (sym next)
drop_place (p ∷ ps) (suc i) j e there next = drop_place ps i (suc i) e (omega arith) refl ∙ ap (λ (k : ℕ). get_or ps i e ∷ drop k (p ∷ ps)) (sym next)

pub and_rest-err : (b : Broken) (rest : Checked) → and_rest (checked_of (Err b)) rest ≡ checked_of (Err b)
and_rest-err (broken.Fault p) rest = refl
and_rest-err (broken.Collision c) rest = refl

module _ (d : List ℕ → List ℕ) (path : Path) (written : Place → List ℕ) where
  -- the check of a place of the path
  abbrev pub step_at : Place → Checked
  step_at p = place_checked d (held path p) p (path.bytes p) (written p)

  pub check_step : (ps : List Place) (i j : ℕ) (e : Place) → i < length ps → j ≡ suc i
      → check_on d path written (drop i ps) ≡ and_rest (step_at (get_or ps i e)) (check_on d path written (drop j ps))
  check_step ps i j e there next =
      let p : Place = get_or ps i e in
      ap (check_on d path written) (drop_place ps i j e there next)
      ∙ one_more_place (breaks d path p) (bytes_eq (path.bytes p) (written p)) (bytes_eq (d (path.bytes p)) (d (written p))) p (path.bytes p) (written p) (check_on d path written (drop j ps))

  module _ (i : ℕ) (so_far : check d path written ≡ check_on d path written (drop i path.places)) where
    pub loop_stops : (e : Place) (b : Broken) → i < length path.places → checked_of (Err b) ≡ step_at (get_or path.places i e) → checked_of (Err b) ≡ check d path written
    loop_stops e b there is =
        let rest : Checked = check_on d path written (drop (suc i) path.places) in
        sym (so_far ∙ check_step path.places i (suc i) e there refl ∙ ap (λ (c : Checked). and_rest c rest) (sym is) ∙ and_rest-err b rest)

    pub loop_goes : (e : Place) (j : ℕ) → i < length path.places → j ≡ suc i → Holds ≡ step_at (get_or path.places i e) → check d path written ≡ check_on d path written (drop j path.places)
    loop_goes e j there next is = so_far ∙ check_step path.places i j e there next ∙ ap (λ (c : Checked). and_rest c (check_on d path written (drop j path.places))) (sym is)

    pub loop_ends : length path.places ≤ i → Holds ≡ check d path written
    loop_ends all = sym (so_far ∙ ap (check_on d path written) (drop_all i path.places all))

-- ---- a path whose first break is known

pub found-passes : (t : Place → Bool) (ps : List Place) (q : Place) → find t ps ≡ Some q → t q ≡ true
found-passes t [] q h = cc
found-passes t (p ∷ ps) q h = elim (cases_Bool (t p)) [
  | inl here ↦ let e : Some p ≡ Some q = sym (cond-true (t p) (Some p) (find t ps) here) ∙ h in let same : p ≡ q = cc in ap t (sym same) ∙ here
  | inr past ↦ found-passes t ps q (sym (cond-false (t p) (Some p) (find t ps) past) ∙ h)
]

same_by : (b c : Bool) → (b ≡ true → c ≡ true) → (c ≡ true → b ≡ true) → b ≡ c
same_by true c there back = sym (there refl)
same_by false true there back = back refl
same_by false false there back = refl

-- whether the first of some places breaks, by the first of them that does
breaks-first : (t : Place → Bool) (p : Place) (ps : List Place) → is_break (verdict_of (find t (p ∷ ps))) p ≡ t p
breaks-first t p ps = elim (cases_Bool (t p)) [
  | inl here ↦ ap (λ (o : Option Place). is_break (verdict_of o) p) (cond-true (t p) (Some p) (find t ps) here) ∙ same_place-refl p ∙ sym here
  | inr past ↦ ap (λ (o : Option Place). is_break (verdict_of o) p) (cond-false (t p) (Some p) (find t ps) past) ∙ not_later (find t ps) refl past ∙ sym past
]
  where
    not_later : (o : Option Place) → find t ps ≡ o → t p ≡ false → is_break (verdict_of o) p ≡ false
    not_later None is past = refl
    not_later (Some q) is past = same_by (same_place q p) false (λ same. sym (sym (found-passes t ps q is) ∙ ap t (is_same q p same) ∙ past)) (λ h. absurd (false≢true h))

module _ (d : List ℕ → List ℕ) (path : Path) (written : Place → List ℕ) (verdict : Verdict) (is : verdict ≡ verdict_of (find (breaks d path) path.places)) (i : ℕ)
    (left : find (breaks d path) path.places ≡ find (breaks d path) (drop i path.places)) (there : i < length path.places) (e : Place) where
  abbrev here : Place
  here = get_or path.places i e

  broken_here : is_break verdict here ≡ breaks d path here
  broken_here =
      ap (λ (v : Verdict). is_break v here) (is ∙ ap verdict_of (left ∙ ap (find (breaks d path)) (drop_place path.places i (suc i) e there refl)))
      ∙ breaks-first (breaks d path) here (drop (suc i) path.places)

  pub sealed_step : part_checked d (is_break verdict here) here (path.bytes here) (written here) ≡ step_at d path written here
  sealed_step = ap (λ (b : Bool). part_checked d b here (path.bytes here) (written here)) broken_here

  holds_then : (b : Bool) (p : Place) (s t : List ℕ) → Holds ≡ part_checked d b p s t → b ≡ false
  holds_then true p s t h = absurd (checked_apart p h)
    where
      checked_apart : (p : Place) → Holds ≡ Fault p → ⊥
      checked_apart p h = cc
  holds_then false p s t h = refl

  pub still_left : (j : ℕ) → j ≡ suc i → Holds ≡ part_checked d (is_break verdict here) here (path.bytes here) (written here) → find (breaks d path) path.places ≡ find (breaks d path) (drop j path.places)
  still_left j next holds =
      let fine : breaks d path here ≡ false = sym broken_here ∙ holds_then (is_break verdict here) here (path.bytes here) (written here) holds in
      left ∙ ap (find (breaks d path)) (drop_place path.places i j e there next) ∙ cond-false (breaks d path here) (Some here) (find (breaks d path) (drop j path.places)) fine
