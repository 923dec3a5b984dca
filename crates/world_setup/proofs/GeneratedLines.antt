-- Lists that are joined number by number, and states that are drawn one after the other.
use Rattle.std.proofs.Common.{◌≡◌, ℕ, zero, suc, ◌+◌, ◌*◌, ◌<◌, true, Bool, List, ◌++◌, length, refl, sym, ap, ◌∙◌, arith, append-nil, append_assoc, length-append}
use Rattle.std.specs.List.{list_all}
use Rattle.std.proofs.lemmas.List.Folds.{list_all-append}
use Rattle.world_setup.specs.Generating.{joined, next_state, state_after}

module _ {A : Type 0} (part : ℕ → List A) where
  -- no part yet
  pub joined_none : (before : List A) → before ≡ before ++ joined part 0
  unfolding joined
  joined_none before = sym (append-nil before)

  -- one more part, behind lists that stood there before
  pub joined_more : (before so_far after : List A) (count : ℕ) → so_far ≡ before ++ joined part count → after ≡ so_far ++ part count → after ≡ before ++ joined part (count + 1)
  unfolding joined
  joined_more before so_far after count is pushed =
      let on : count + 1 ≡ suc count = omega arith in
      pushed ∙ ap (λ l. l ++ part count) is ∙ append_assoc before (joined part count) (part count) ∙ ap (λ k. before ++ joined part k) (sym on)

  -- a test that each part passes
  pub all_joined : (p : A → Bool) (count : ℕ) → ((k : ℕ) → k < count → list_all p (part k) ≡ true) → list_all p (joined part count) ≡ true
  unfolding joined
  all_joined p zero each = refl
  all_joined p (suc count) each = list_all-append p (joined part count) (part count) ∙ (rw (all_joined p count (λ k lt. each k (omega arith)), each count (omega arith)) refl)

  -- the length, where each part is as long
  pub length-joined : (size count : ℕ) → ((k : ℕ) → length (part k) ≡ size) → length (joined part count) ≡ count * size
  unfolding joined
  length-joined size zero each = omega arith
  length-joined size (suc count) each = omega (arith, length-append (joined part count) (part count), length-joined size count each, each count)

-- so many words and then others
pub state_after-more : (state first more : ℕ) → state_after (state_after state first) more ≡ state_after state (first + more)
unfolding state_after
state_after-more state first zero =
    let same : first ≡ first + 0 = omega arith in
    ap (state_after state) same
state_after-more state first (suc more) =
    let same : suc (first + more) ≡ first + suc more = omega arith in
    ap next_state (state_after-more state first more) ∙ ap (state_after state) same

-- a state that is so many words later
pub later_state : (state now new first more later : ℕ) → now ≡ state_after state first → new ≡ state_after now more → later ≡ first + more → new ≡ state_after state later
later_state state now new first more later is drawn sum = drawn ∙ ap (λ s. state_after s more) is ∙ state_after-more state first more ∙ ap (state_after state) (sym sum)

-- a state that is one word later
pub next_later : (state now new count : ℕ) → now ≡ state_after state count → new ≡ next_state now → new ≡ state_after state (count + 1)
unfolding state_after
next_later state now new count is drawn =
    let on : suc count ≡ count + 1 = omega arith in
    drawn ∙ ap next_state is ∙ ap (state_after state) on

-- no word yet
pub state_after-none : (state : ℕ) → state ≡ state_after state 0
unfolding state_after
state_after-none state = refl
