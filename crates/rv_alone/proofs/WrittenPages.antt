-- The pages that a run wrote, by their places in the list: each stands once, and may be written.
use Rattle.std.proofs.Common.{not, ◌&&◌, length-append, ◌≡◌, ◌≢◌, ℕ, zero, ltb, count_by, find, suc, ◌+◌, ◌<◌, ◌≤◌, eqb, nat_eq, Bool, true, false, ◌||◌, if◌then◌else◌, cond, List, [], ◌∷◌, ◌++◌, length, Option, Some, None, slice_get, refl, sym, ap, ◌∙◌, subst, arith, add-one}
use Rattle.std.specs.Prelude.{slice_index, IsSomeAnd, IsTrue}
use Rattle.std.specs.Option.{option_map}
use Rattle.std.specs.List.{AllByRecursion, IsDistinct}
use Rattle.std.proofs.lemmas.Bool.{eqb-true, eq-eqb, or_parts}
use Rattle.std.proofs.lemmas.Bool.Decides.{nat_tests}
use Rattle.std.proofs.lemmas.List.Sums.{sum_by-cons}
use Rattle.std.proofs.lemmas.Option.{slice_get_within}
use Rattle.pl_base.specs.declared.access.Kind.TheVariants as kind
use Rattle.pl_base.specs.Pages.{first_twice, is_among}
use Rattle.pl_base.specs.Perms.{grants}
use Rattle.rv_alone.specs.Flat.{Image, Flat, Page}
use Rattle.rv_alone.specs.Alone.{alone, page_written, place_in, with_page, written_pages}
use Rattle.rv_alone.proofs.Pages.{Writable, later_page, permissions_stay, writable_alike, written_once, written_writable}

pub later_page_by_one : (image : Image) (sent : List ℕ) (n : ℕ) (a : Flat) → alone image sent n ≡ Some a
    → written_pages image sent (n + 1) ≡ with_page (written_pages image sent n) (page_written a.status a)
later_page_by_one image sent n a is = rw add-one (later_page image sent n a is)

-- ---- one more page

pub with_page_there : (ws : List ℕ) (p : ℕ) → is_among ws p ≡ true → with_page ws (Some p) ≡ ws
with_page_there ws p there = ap (λ b. if b then ws else ws ++ p ∷ []) there

pub with_page_new : (ws : List ℕ) (p : ℕ) → is_among ws p ≡ false → with_page ws (Some p) ≡ ws ++ p ∷ []
with_page_new ws p new = ap (λ b. if b then ws else ws ++ p ∷ []) new

or_true : (b c : Bool) → c ≡ true → b || c ≡ true
or_true true c is = refl
or_true false c is = is

pub last_among : (p : ℕ) (ws : List ℕ) → is_among (ws ++ p ∷ []) p ≡ true
last_among p [] = ap (λ b. b || false) (eq-eqb p p refl)
last_among p (w ∷ ws) = or_true (eqb w p) (is_among (ws ++ p ∷ []) p) (last_among p ws)

-- a page that was put is among them
pub with_among : (p : ℕ) (ws : List ℕ) → is_among (with_page ws (Some p)) p ≡ true
with_among p ws = from (is_among ws p) refl
  where
    from : (b : Bool) → is_among ws p ≡ b → is_among (if b then ws else ws ++ p ∷ []) p ≡ true
    from true there = there
    from false new = last_among p ws

-- ---- the next instruction

module _ (image : Image) (sent : List ℕ) (n : ℕ) (a : Flat) (is : alone image sent n ≡ Some a) where
  -- it stores to no page, or to one that was written
  pub written_same : ((p : ℕ) → page_written a.status a ≡ Some p → is_among (written_pages image sent n) p ≡ true) → written_pages image sent (suc n) ≡ written_pages image sent n
  written_same own = from (page_written a.status a) refl
    where
      from : (o : Option ℕ) → page_written a.status a ≡ o → written_pages image sent (suc n) ≡ written_pages image sent n
      from None none = later_page image sent n a is ∙ ap (with_page (written_pages image sent n)) none
      from (Some p) stores = later_page image sent n a is ∙ ap (with_page (written_pages image sent n)) stores ∙ with_page_there (written_pages image sent n) p (own p stores)

  module _ (p : ℕ) (stores : page_written a.status a ≡ Some p) where
    -- it stores to a page that wasn't written
    pub written_new : is_among (written_pages image sent n) p ≡ false → written_pages image sent (suc n) ≡ written_pages image sent n ++ p ∷ []
    written_new new = later_page image sent n a is ∙ ap (with_page (written_pages image sent n)) stores ∙ with_page_new (written_pages image sent n) p new

    -- after it the page is among those written
    pub written_next_among : is_among (written_pages image sent (suc n)) p ≡ true
    written_next_among = ap (λ ws. is_among ws p) (later_page image sent n a is ∙ ap (with_page (written_pages image sent n)) stores) ∙ with_among p (written_pages image sent n)

    -- Whether the page is new and as many are written as there are spares: where there are spares for the pages after it, no, and it makes no
    -- difference whether the page is counted already.
    pub need_ahead : (spares : ℕ) → length (written_pages image sent (suc n)) ≤ spares
        → (not (is_among (written_pages image sent n) p) && eqb (length (written_pages image sent n)) spares)
        ≡ (not (is_among (written_pages image sent (suc n)) p) && eqb (length (written_pages image sent (suc n))) spares)
    need_ahead spares few = from (is_among (written_pages image sent n) p) refl ∙ sym right
      where
        right : (not (is_among (written_pages image sent (suc n)) p) && eqb (length (written_pages image sent (suc n))) spares) ≡ false
        right = ap (λ c. not c && eqb (length (written_pages image sent (suc n))) spares) written_next_among

        fewer : (k : ℕ) → k < spares → eqb k spares ≡ false
        fewer k less = grind (arith, nat_tests)

        from : (c : Bool) → is_among (written_pages image sent n) p ≡ c → (not c && eqb (length (written_pages image sent n)) spares) ≡ false
        from true old = refl
        from false new =
            let more : length (written_pages image sent (suc n)) ≡ length (written_pages image sent n) + 1 = ap length (written_new new) ∙ length-append (written_pages image sent n) (p ∷ []) in
            fewer (length (written_pages image sent n)) (omega arith)

-- ---- places

pub place_none : (p : ℕ) (ws : List ℕ) → is_among ws p ≡ false → place_in p ws ≡ None
place_none p [] new = refl
place_none p (w ∷ ws) new =
    let parts = or_parts (eqb w p) (is_among ws p) new in
    ap (λ b. if b then Some 0 else option_map (λ place. place + 1) (place_in p ws)) parts.0 ∙ ap (option_map (λ place. place + 1)) (place_none p ws parts.1)

-- a page that wasn't there has the last place
pub place_push_same : (p : ℕ) (ws : List ℕ) → is_among ws p ≡ false → place_in p (ws ++ p ∷ []) ≡ Some (length ws)
place_push_same p [] new = ap (λ b. if b then Some zero else None) (eq-eqb p p refl)
place_push_same p (w ∷ ws) new =
    let parts = or_parts (eqb w p) (is_among ws p) new in
    ap (λ b. if b then Some 0 else option_map (λ place. place + 1) (place_in p (ws ++ p ∷ []))) parts.0 ∙ ap (option_map (λ place. place + 1)) (place_push_same p ws parts.1) ∙ ap Some (add-one (length ws))

-- the places of all others stay
pub place_push_other : (p q : ℕ) (ws : List ℕ) → p ≢ q → place_in p (ws ++ q ∷ []) ≡ place_in p ws
place_push_other p q [] other = from (eqb q p) refl
  where
    from : (b : Bool) → eqb q p ≡ b → (if b then Some zero else None) ≡ None
    from true same = absurd (other (sym (eqb-true q p same)))
    from false differ = refl
place_push_other p q (w ∷ ws) other = ap (λ o. if eqb w p then Some 0 else option_map (λ place. place + 1) o) (place_push_other p q ws other)

each_differs : (x : ℕ) (ws : List ℕ) (k : ℕ) → AllByRecursion (λ y. nat_eq x y ≡ false) ws → k < length ws → eqb x (slice_index ws k) ≡ false
each_differs x [] k all below = absurd (omega arith)
each_differs x (w ∷ ws) zero all below = all.0
each_differs x (w ∷ ws) (suc k) all below = each_differs x ws k all.1 (omega arith)

-- where no page stands twice, each has the place where it stands
pub place_at : (ws : List ℕ) (k : ℕ) → IsDistinct nat_eq ws → k < length ws → place_in (slice_index ws k) ws ≡ Some k
unfolding IsDistinct
place_at [] k distinct below = absurd (omega arith)
place_at (w ∷ ws) zero distinct below = ap (λ b. if b then Some zero else option_map (λ place. place + 1) (place_in w ws)) (eq-eqb w w refl)
place_at (w ∷ ws) (suc k) distinct below =
    ap (λ b. if b then Some 0 else option_map (λ place. place + 1) (place_in (slice_index ws k) ws)) (each_differs w ws k distinct.0 (omega arith))
    ∙ ap (option_map (λ place. place + 1)) (place_at ws k distinct.1 (omega arith))
    ∙ ap Some (add-one k)

-- ---- the pages of a run

-- the page at a place of a list stands there alone, and is one of these pages, which may be written
pub record IsWritten (pages : List Page) (ws : List ℕ) (k : ℕ) : Type 0 where
  pub place : place_in (slice_index ws k) ws ≡ Some k
  pub inside : slice_index ws k < length pages
  pub page : Page
  pub there : slice_get pages (slice_index ws k) ≡ Some page
  pub stores : grants page.perms kind.Store ≡ true

is_written : (pages : List Page) (ws : List ℕ) (k : ℕ) → place_in (slice_index ws k) ws ≡ Some k → Writable pages (slice_index ws k) → IsWritten pages ws k
is_written pages ws k place may = from (slice_get pages (slice_index ws k)) refl may
  where
    from : (o : Option Page) → slice_get pages (slice_index ws k) ≡ o → IsSomeAnd o (λ (page : Page). IsTrue (grants page.perms kind.Store)) → IsWritten pages ws k
    from None is may = absurd may
    from (Some page) is may = record { place = place; inside = slice_get_within pages (slice_index ws k) page is; page = page; there = is; stores = may }

-- each page that was written so far is a page of the image
pub written_place : (image : Image) (sent : List ℕ) (n k : ℕ) → k < length (written_pages image sent n) → IsWritten image.pages (written_pages image sent n) k
written_place image sent n k below =
    let ws = written_pages image sent n in
    is_written image.pages ws k (place_at ws k (written_once image sent n) below) (written_writable image sent n k 0 below)

-- and of the state that the run came to
pub written_place_now : (image : Image) (sent : List ℕ) (n : ℕ) (a : Flat) → alone image sent n ≡ Some a → (k : ℕ) → k < length (written_pages image sent n)
    → IsWritten a.pages (written_pages image sent n) k
written_place_now image sent n a is k below =
    let ws = written_pages image sent n in
    is_written a.pages ws k (place_at ws k (written_once image sent n) below)
    (writable_alike image.pages a.pages (slice_index ws k) (sym (permissions_stay image sent n a is)) (written_writable image sent n k 0 below))

-- ---- no page twice

-- numbers that are each counted once at most: none stands twice
pub none_twice : (ws : List ℕ) → ((v : ℕ) → count_by (λ w. eqb w v) ws ≤ 1) → first_twice ws ≡ None
none_twice ws once = none ws
  where
    few : (v : ℕ) → ltb 1 (count_by (λ w. eqb w v) ws) ≡ false
    few v = let one = once v in grind (arith, nat_tests)

    none : (xs : List ℕ) → find (λ v. ltb 1 (count_by (λ w. eqb w v) ws)) xs ≡ None
    none [] = refl
    none (x ∷ xs) = rw (few x) (none xs)

other_number : (w x v : ℕ) → eqb w x ≡ false → eqb w v ≡ true → eqb x v ≡ false
other_number w x v differ same = grind (arith, nat_tests)

others_counted : (w v : ℕ) (ws : List ℕ) → AllByRecursion (λ x. nat_eq w x ≡ false) ws → eqb w v ≡ true → count_by (λ x. eqb x v) ws ≡ 0
others_counted w v [] all same = refl
others_counted w v (x ∷ ws) all same =
    let rest : count_by (λ y. eqb y v) ws ≡ 0 = others_counted w v ws all.1 same in
    let sum : count_by (λ y. eqb y v) (x ∷ ws) ≡ cond (eqb x v) 1 0 + count_by (λ y. eqb y v) ws = sum_by-cons (λ y. cond (eqb y v) 1 0) x ws in
    sum ∙ nothing_more (eqb x v) (count_by (λ y. eqb y v) ws) (other_number w x v all.0 same) rest
  where
    nothing_more : (b : Bool) (n : ℕ) → b ≡ false → n ≡ 0 → cond b 1 0 + n ≡ 0
    nothing_more true n fails none = cc
    nothing_more false n fails none = omega arith

distinct_counted : (ws : List ℕ) (v : ℕ) → IsDistinct nat_eq ws → count_by (λ w. eqb w v) ws ≤ 1
unfolding IsDistinct
distinct_counted [] v distinct = omega arith
distinct_counted (w ∷ ws) v distinct = subst (λ n. n ≤ 1) (sym (sum_by-cons (λ x. cond (eqb x v) 1 0) w ws)) (from (distinct_counted ws v distinct.1) (eqb w v) refl)
  where
    from : count_by (λ x. eqb x v) ws ≤ 1 → (b : Bool) → eqb w v ≡ b → cond b 1 0 + count_by (λ x. eqb x v) ws ≤ 1
    from few true same = let none = others_counted w v ws distinct.0 same in omega arith
    from few false other = omega arith

pub written_pages_once : (image : Image) (sent : List ℕ) (n : ℕ) → first_twice (written_pages image sent n) ≡ None
written_pages_once image sent n = none_twice (written_pages image sent n) (λ v. distinct_counted (written_pages image sent n) v (written_once image sent n))
