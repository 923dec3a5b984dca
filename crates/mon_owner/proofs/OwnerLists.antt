-- Owners of listed pages, one page after the other.
use Rattle.std.proofs.Common.{◌≡◌, ℕ, ◌+◌, ◌<◌, ◌≤◌, Bool, true, false, eqb, cond, ◌||◌, List, [], length, get_or, slice_get, take, set, Some, length-set, ap, sym, ◌∙◌, subst, zero-add, inl, inr}
use Rattle.std.proofs.lemmas.Bool.{cases_Bool, cases_lt, eqb-true, eqb-false}
use Rattle.std.proofs.Math.Bool.{or-true, or-false}
use Rattle.std.proofs.lemmas.List.{ext_get_or, get_or-set_same, get_or-set_other}
use Rattle.std.proofs.lemmas.List.Folds.{list_any_more}
use Rattle.std.proofs.lemmas.List.FromFn.{get_or-map-range_with_len, length-map-range_with_len}
use Rattle.std.proofs.lemmas.Option.{slice_get-get_or, slice_get_past, unwrap_or-slice_get}
use Rattle.pl_base.specs.Pages.{is_among}
use Rattle.mon_owner.specs.declared.owners.Owner.{Owner}
use Rattle.mon_owner.specs.declared.owners.Owner.TheVariants.{Guard}
use Rattle.mon_owner.specs.Owners.{given_to, owner_at}

module _ (owners : List Owner) (to : Owner) where
  owner_now : List ℕ → ℕ → Owner
  owner_now pages page = cond (is_among pages page) to (owner_at owners page)

  pub length-given_to : (pages : List ℕ) → length (given_to owners pages to) ≡ length owners
  unfolding given_to owner_now
  length-given_to pages = length-map-range_with_len (owner_now pages) 0 (length owners)

  get-given_to : (pages : List ℕ) (i : ℕ) (d : Owner) → i < length owners → get_or (given_to owners pages to) i d ≡ owner_now pages i
  unfolding given_to owner_now
  get-given_to pages i d below = get_or-map-range_with_len (owner_now pages) 0 (length owners) i i d below (zero-add i)

  -- a listed page has the new owner
  pub given_listed : (pages : List ℕ) (page : ℕ) → page < length owners → is_among pages page ≡ true → slice_get (given_to owners pages to) page ≡ Some to
  unfolding owner_now
  given_listed pages page below among =
      slice_get-get_or (given_to owners pages to) page Guard (subst (λ n. page < n) (sym (length-given_to pages)) below)
      ∙ ap Some (get-given_to pages page Guard below ∙ ap (λ t. cond t to (owner_at owners page)) among)

  -- and any other its own
  pub given_other : (pages : List ℕ) (page : ℕ) → is_among pages page ≡ false → slice_get (given_to owners pages to) page ≡ slice_get owners page
  unfolding owner_now
  given_other pages page other = elim (cases_lt page (length owners)) [
    | inl below ↦
        slice_get-get_or (given_to owners pages to) page Guard (subst (λ n. page < n) (sym (length-given_to pages)) below)
        ∙ ap Some (get-given_to pages page Guard below ∙ ap (λ t. cond t to (owner_at owners page)) other ∙ unwrap_or-slice_get owners page Guard)
        ∙ sym (slice_get-get_or owners page Guard below)
    | inr past ↦
        slice_get_past (given_to owners pages to) page (subst (λ n. n ≤ page) (sym (length-given_to pages)) past) ∙ sym (slice_get_past owners page past)
  ]

  pub given_to-none : given_to owners [] to ≡ owners
  unfolding owner_now
  given_to-none = ext_get_or Guard _ _ (length-given_to []) (λ i below.
      let small : i < length owners = subst (λ n. i < n) (length-given_to []) below in
      get-given_to [] i Guard small ∙ unwrap_or-slice_get owners i Guard)

  -- one more page, as the loop sets it
  pub given_to-more : (pages : List ℕ) (i d : ℕ) → i < length pages → get_or pages i d < length owners
      → set (given_to owners (take i pages) to) (get_or pages i d) to ≡ given_to owners (take (i + 1) pages) to
  unfolding owner_now
  given_to-more pages i d within inside =
      let before = given_to owners (take i pages) to in
      let page = get_or pages i d in
      let size : length (set before page to) ≡ length owners = length-set before page to ∙ length-given_to (take i pages) in
      let more : (k : ℕ) → is_among (take (i + 1) pages) k ≡ (is_among (take i pages) k || eqb page k) = λ k. list_any_more (λ other. eqb other k) pages i d within in
      ext_get_or Guard _ _ (size ∙ sym (length-given_to (take (i + 1) pages))) (λ k below.
      let small : k < length owners = subst (λ n. k < n) size below in
      get_set k small ∙ sym (get-given_to (take (i + 1) pages) k Guard small ∙ ap (λ t. cond t to (owner_at owners k)) (more k)))
    where
      get_set : (k : ℕ) → k < length owners
          → get_or (set (given_to owners (take i pages) to) (get_or pages i d) to) k Guard ≡ cond (is_among (take i pages) k || eqb (get_or pages i d) k) to (owner_at owners k)
      get_set k small =
          let before = given_to owners (take i pages) to in
          let page = get_or pages i d in
          let among = is_among (take i pages) k in
          let choice = λ (t : Bool). cond t to (owner_at owners k) in
          elim (cases_Bool (eqb page k)) [
            | inl same ↦
                let is : page ≡ k = eqb-true page k same in
                let held : page < length before = subst (λ n. page < n) (sym (length-given_to (take i pages))) inside in
                subst (λ q. get_or (set before page to) q Guard ≡ to) is (get_or-set_same before page to Guard held)
                ∙ sym (ap (λ t. choice (among || t)) same ∙ ap choice (or-true among))
            | inr other ↦
                get_or-set_other before page k to Guard (λ p. eqb-false page k other (sym p)) ∙ get-given_to (take i pages) k Guard small
                ∙ sym (ap (λ t. choice (among || t)) other ∙ ap choice (or-false among))
          ]
