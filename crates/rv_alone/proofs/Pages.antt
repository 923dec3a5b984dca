-- What a run does to its pages.
use Rattle.std.proofs.Common.{◌≡◌, ◌≢◌, ℕ, zero, suc, Bool, true, false, ◌||◌, cond, eqb, ltb, leb, nat_eq, List, [], ◌∷◌, ◌++◌, length, get_or, set, map, Option, Some, None, option_and_then, refl, sym, ap, ◌∙◌, subst, arith, inl, inr, unwrap_or}
use Rattle.std.specs.Prelude.{slice_get, IsSomeAnd, IsTrue}
use Rattle.std.specs.Option.{option_map}
use Rattle.std.specs.List.{All, IsDistinct, list_any, AllByRecursion}
use Rattle.std.proofs.Math.Seq.{map-set_same}
use Rattle.std.proofs.lemmas.List.Elements.{All-push}
use Rattle.std.proofs.lemmas.List.Folds.{list_any-append}
use Rattle.std.proofs.lemmas.Option.{unwrap_or-slice_get}
use Rattle.std.proofs.lemmas.Bool.{cases_Bool, eqb-false, or_parts, false≢true}
use Rattle.pl_base.specs.declared.access.Kind.{Kind}
use Rattle.pl_base.specs.declared.access.Kind.TheVariants as kind
use Rattle.pl_base.specs.declared.page.TheConstants.{IMAGE_START}
use Rattle.pl_base.specs.declared.perms.Perms.{Perms}
use Rattle.pl_base.specs.Perms.{grants}
use Rattle.rv_alone.specs.declared.step.Act.{Act}
use Rattle.rv_alone.specs.declared.step.Act.TheVariants.{Set, Load, Store, Call, Trap}
use Rattle.rv_alone.specs.Effect.{act_of, advanced, loaded}
use Rattle.rv_alone.specs.Flat.{Image, Flat, Page, Status, on, ended, fetched, read, permitted, page_at, page_number, page_with_number, start_of}
use Rattle.rv_alone.specs.Alone.{Outcome, next, trap, wait, full, next_of, context_of, with_context, acts, loads, stores, calls, receives, sends, exits, runs, advance_by, alone, page_of_act, page_written, with_page, written_pages}
use Rattle.rv_alone.proofs.Later.{sent_later}
use Rattle.rv_alone.specs.Laws.{PermissionsStay, UnwrittenStay, WrittenOnce, WrittenWritable}

-- the permissions of all pages
abbrev pub perms_of : List Page → List Perms
perms_of pages = map (λ (page : Page). page.perms) pages

-- the pages after a step that stores to no page, or to this one
abbrev StepsPages : List Page → List Page → Option ℕ → Type 0
StepsPages old new None = new ≡ old
StepsPages old new (Some p) = (page : Page) × (bytes : List ℕ) × (slice_get old p ≡ Some page) × (grants page.perms kind.Store ≡ true) × (new ≡ set old p (record page { bytes = bytes }))

-- ---- one step

granted : (k : Kind) (o : Option Page) (page : Page) → option_and_then (λ (p : Page). cond (grants p.perms k) (Some p) None) o ≡ Some page → (o ≡ Some page) × (grants page.perms k ≡ true)
granted k None page e = cc
granted k (Some p) page e = elim (cases_Bool (grants p.perms k)) [
  | inl may ↦ (let e' : cond (grants p.perms k) (Some p) None ≡ Some page = e in let h = rw may at e' in let same : p ≡ page = cc in (h, ap (λ (x : Page). grants x.perms k) (sym same) ∙ may))
  | inr may_not ↦ (let e' : cond (grants p.perms k) (Some p) None ≡ Some page = e in let h = rw may_not at e' in cc)
]

placed : (t : Bool) (o : Option Page) (page : Page) → cond t o None ≡ Some page → o ≡ Some page
placed true o page e = e
placed false o page e = cc

permitted_is : (k : Kind) (pages : List Page) (address : ℕ) (page : Page) → permitted k pages address ≡ Some page → (slice_get pages (page_number address) ≡ Some page) × (grants page.perms k ≡ true)
permitted_is k pages address page e =
    let parts = granted k (page_at pages address) page e in
    (placed (leb IMAGE_START address) (slice_get pages (page_number address)) page parts.0, parts.1)

loaded_pages : (a b : Flat) (address width : ℕ) (is_signed : Bool) (rd : ℕ) (raw : Option ℕ) → next_of (loads a address width is_signed rd raw) ≡ Some b → b.pages ≡ a.pages
loaded_pages a b address width is_signed rd None e = cc
loaded_pages a b address width is_signed rd (Some raw) e = let h : with_context a (loaded (context_of a) rd width is_signed raw) ≡ b = cc in ap (λ (x : Flat). x.pages) (sym h)

stored_pages : (a b : Flat) (address width value : ℕ) (page : Option Page) → permitted kind.Store a.pages address ≡ page
    → next_of (stores a address (option_map (λ (x : Page). set a.pages (page_number address) (page_with_number width address value x)) page)) ≡ Some b
    → StepsPages a.pages b.pages (option_map (λ (x : Page). page_number address) page)
stored_pages a b address width value None p e = cc
stored_pages a b address width value (Some page) p e =
    let pages = set a.pages (page_number address) (page_with_number width address value page) in
    let h : record (with_context a (advanced (context_of a))) { pages = pages } ≡ b = cc in
    let is = permitted_is kind.Store a.pages address page p in
    (page, (page_with_number width address value page).bytes, is.0, is.1, ap (λ (x : Flat). x.pages) (sym h))

-- a call leaves the pages alone
abbrev KeepsPages : Flat → Outcome → Type 0
KeepsPages a outcome = (b : Flat) → next_of outcome ≡ Some b → b.pages ≡ a.pages

either : (a : Flat) (t : Bool) (x y : Outcome) → KeepsPages a x → KeepsPages a y → KeepsPages a (cond t x y)
either a true x y p q = p
either a false x y p q = q

none_follows : (a : Flat) (o : Outcome) → next_of o ≡ None → KeepsPages a o
none_follows a o n b e = absurd (let h : None ≡ Some b = sym n ∙ e in cc)

goes_on : (a c : Flat) → c.pages ≡ a.pages → KeepsPages a (next c)
goes_on a c p b e = let h : c ≡ b = cc in ap (λ (x : Flat). x.pages) (sym h) ∙ p

called_pages : (a : Flat) (sent : List ℕ) (number value : ℕ) → KeepsPages a (calls a sent number value)
called_pages a sent number value =
    either a (eqb number 1) (exits a value) _ (goes_on a _ refl)
    (either a (eqb number 2) (receives a sent) _ (either a (ltb a.received (length sent)) _ wait (goes_on a _ refl) (none_follows a wait refl))
    (either a (eqb number 3) (sends a value) (trap 8 number) (either a (ltb (length a.out) 4096) _ full (goes_on a _ refl) (none_follows a full refl)) (none_follows a (trap 8 number) refl)))

acted_pages : (a b : Flat) (sent : List ℕ) (act : Act) → next_of (acts a sent act) ≡ Some b → StepsPages a.pages b.pages (page_of_act a act)
acted_pages a b sent (Set context) e = let h : with_context a context ≡ b = cc in ap (λ (x : Flat). x.pages) (sym h)
acted_pages a b sent (Load address width is_signed rd) e = loaded_pages a b address width is_signed rd (read a.pages address width) e
acted_pages a b sent (Store address width value) e = stored_pages a b address width value (permitted kind.Store a.pages address) refl e
acted_pages a b sent (Call number value) e = called_pages a sent number value b e
acted_pages a b sent (Trap cause value) e = cc

ran_pages : (a b : Flat) (sent : List ℕ) (word : Option ℕ) → next_of (runs a sent word) ≡ Some b → StepsPages a.pages b.pages (option_and_then (λ w. page_of_act a (act_of (context_of a) w)) word)
ran_pages a b sent None e = cc
ran_pages a b sent (Some word) e = acted_pages a b sent (act_of (context_of a) word) e

stepped_pages : (s : Status) (a b : Flat) (sent : List ℕ) → advance_by s a sent ≡ Some b → StepsPages a.pages b.pages (page_written s a)
stepped_pages on a b sent e = ran_pages a b sent (fetched a.pages a.pc) e
stepped_pages (ended code) a b sent e = cc

-- ---- a run

module _ (image : Image) (sent : List ℕ) where
  -- what holds at the start and through each step holds of the state after so many instructions
  along : (P : ℕ → List Page → Type 0) → P zero image.pages
      → ((n : ℕ) (a b : Flat) → alone image sent n ≡ Some a → P n a.pages → StepsPages a.pages b.pages (page_written a.status a) → P (suc n) b.pages)
      → (n : ℕ) (b : Flat) → alone image sent n ≡ Some b → P n b.pages
  unfolding alone
  along P start more zero b e = let h : start_of image ≡ b = cc in subst (λ (x : Flat). P zero x.pages) h start
  along P start more (suc n) b e = from (alone image sent n) refl (along P start more n) e
    where
      from : (before : Option Flat) → alone image sent n ≡ before → ((a : Flat) → alone image sent n ≡ Some a → P n a.pages)
          → option_and_then (λ (a : Flat). advance_by a.status a sent) before ≡ Some b → P (suc n) b.pages
      from None is so_far step = cc
      from (Some a) is so_far step = more n a b is (so_far a is) (stepped_pages a.status a b sent step)

read_there : (pages : List Page) (p : ℕ) (page : Page) → slice_get pages p ≡ Some page → get_or pages p page ≡ page
read_there pages p page e = sym (unwrap_or-slice_get pages p page) ∙ ap (λ o. unwrap_or o page) e

perms_step : (old new : List Page) (w : Option ℕ) → StepsPages old new w → perms_of new ≡ perms_of old
perms_step old new None s = ap perms_of s
perms_step old new (Some p) s =
    let kept = ap (λ (x : Page). x.perms) (sym (read_there old p s.0 s.2)) in
    ap perms_of s.4 ∙ map-set_same (λ (x : Page). x.perms) old p (record s.0 { bytes = s.1 }) s.0 kept

pub permissions_stay : PermissionsStay
permissions_stay image sent =
    along image sent (λ n pages. perms_of pages ≡ perms_of image.pages) refl
    (λ n a b is so_far step. perms_step a.pages b.pages (page_written a.status a) step ∙ so_far)

-- ---- the list of written pages

abbrev among : ℕ → List ℕ → Bool
among p ws = list_any (λ q. eqb q p) ws

-- a page that isn't among the list with a further one isn't among the list, and isn't that one
not_among : (ws : List ℕ) (w : Option ℕ) (p : ℕ) → among p (with_page ws w) ≡ false → (among p ws ≡ false) × (w ≢ Some p)
not_among ws None p h = (h, λ e. cc)
not_among ws (Some r) p h = from (among r ws) refl h
  where
    from : (t : Bool) → among r ws ≡ t → among p (cond t ws (ws ++ r ∷ [])) ≡ false → (among p ws ≡ false) × (Some r ≢ Some p)
    from true there absent = (absent, λ e. let same : r ≡ p = cc in false≢true (sym absent ∙ (ap (λ x. among x ws) (sym same) ∙ there)))
    from false new absent =
        let parts = or_parts (among p ws) (eqb r p || false) (sym (list_any-append (λ q. eqb q p) ws (r ∷ [])) ∙ absent) in
        let other = or_parts (eqb r p) false parts.1 in
        (parts.0, λ e. let same : r ≡ p = cc in eqb-false r p other.0 same)

get_set_other : (xs : List Page) (i j : ℕ) (y : Page) → (i ≡ j → ⊥) → slice_get (set xs i y) j ≡ slice_get xs j
get_set_other [] i j y h = refl
get_set_other (x ∷ xs) zero zero y h = absurd (h refl)
get_set_other (x ∷ xs) zero (suc j) y h = refl
get_set_other (x ∷ xs) (suc i) zero y h = refl
get_set_other (x ∷ xs) (suc i) (suc j) y h = get_set_other xs i j y (λ e. h (ap suc e))

unwritten_step : (old new : List Page) (w : Option ℕ) (p : ℕ) → StepsPages old new w → w ≢ Some p → slice_get new p ≡ slice_get old p
unwritten_step old new None p s h = ap (λ pages. slice_get pages p) s
unwritten_step old new (Some r) p s h = ap (λ pages. slice_get pages p) s.4 ∙ get_set_other old r p (record s.0 { bytes = s.1 }) (λ e. h (ap Some e))

written_more : (image : Image) (sent : List ℕ) (n : ℕ) → written_pages image sent (suc n) ≡ with_page (written_pages image sent n) (option_and_then (λ (a : Flat). page_written a.status a) (alone image sent n))
unfolding written_pages
written_more image sent n = refl

-- the page that the next instruction stores to joins those before
pub later_page : (image : Image) (sent : List ℕ) (n : ℕ) (a : Flat) → alone image sent n ≡ Some a → written_pages image sent (suc n) ≡ with_page (written_pages image sent n) (page_written a.status a)
later_page image sent n a e = written_more image sent n ∙ ap (λ o. with_page (written_pages image sent n) (option_and_then (λ (x : Flat). page_written x.status x) o)) e

pub unwritten_stay : UnwrittenStay
unwritten_stay image sent n b p e =
    along image sent (λ m pages. among p (written_pages image sent m) ≡ false → slice_get pages p ≡ slice_get image.pages p) (λ h. refl)
    (λ m a c is so_far step h.
    let parts = not_among (written_pages image sent m) (page_written a.status a) p (sym (ap (among p) (later_page image sent m a is)) ∙ h) in
    unwritten_step a.pages c.pages (page_written a.status a) p step parts.1 ∙ so_far parts.0)
    n b e

-- ---- once each

distinct_push : (ws : List ℕ) (r : ℕ) → among r ws ≡ false → IsDistinct nat_eq ws → IsDistinct nat_eq (ws ++ r ∷ [])
unfolding IsDistinct
distinct_push [] r h d = (tt, tt)
distinct_push (x ∷ xs) r h d =
    let parts = or_parts (eqb x r) (among r xs) h in
    (all_push xs d.0 parts.0, distinct_push xs r parts.1 d.1)
  where
    all_push : (ys : List ℕ) → AllByRecursion (λ y. nat_eq x y ≡ false) ys → nat_eq x r ≡ false → AllByRecursion (λ y. nat_eq x y ≡ false) (ys ++ r ∷ [])
    all_push [] all last = (last, tt)
    all_push (y ∷ ys) all last = (all.0, all_push ys all.1 last)

distinct_with : (ws : List ℕ) (w : Option ℕ) → IsDistinct nat_eq ws → IsDistinct nat_eq (with_page ws w)
distinct_with ws None d = d
distinct_with ws (Some r) d = from (among r ws) refl
  where
    from : (t : Bool) → among r ws ≡ t → IsDistinct nat_eq (cond t ws (ws ++ r ∷ []))
    from true there = d
    from false new = distinct_push ws r new d

none_written : (image : Image) (sent : List ℕ) → written_pages image sent zero ≡ []
unfolding written_pages
none_written image sent = refl

empty_distinct : IsDistinct nat_eq []
unfolding IsDistinct
empty_distinct = tt

pub written_once : WrittenOnce
written_once image sent zero = rw none_written empty_distinct
written_once image sent (suc n) =
    rw written_more (distinct_with (written_pages image sent n) (option_and_then (λ (a : Flat). page_written a.status a) (alone image sent n)) (written_once image sent n))

-- ---- pages that may be written

-- a page of these that may be written
abbrev pub Writable : List Page → ℕ → Type 0
Writable pages p = IsSomeAnd (slice_get pages p) (λ (page : Page). IsTrue (grants page.perms kind.Store))

pub writable_alike : (xs ys : List Page) (p : ℕ) → perms_of xs ≡ perms_of ys → Writable xs p → Writable ys p
writable_alike [] ys p e w = absurd w
writable_alike (x ∷ xs) [] p e w = cc
writable_alike (x ∷ xs) (y ∷ ys) zero e w = let head : x.perms ≡ y.perms = cc in ap (λ perms. grants perms kind.Store) (sym head) ∙ w
writable_alike (x ∷ xs) (y ∷ ys) (suc p) e w = writable_alike xs ys p (cc) w

writable_act : (a : Flat) (act : Act) (p : ℕ) → page_of_act a act ≡ Some p → Writable a.pages p
writable_act a (Set context) p e = cc
writable_act a (Load address width is_signed rd) p e = cc
writable_act a (Store address width value) p e = from (permitted kind.Store a.pages address) refl e
  where
    from : (page : Option Page) → permitted kind.Store a.pages address ≡ page → option_map (λ (x : Page). page_number address) page ≡ Some p → Writable a.pages p
    from None is h = cc
    from (Some page) is h =
        let same : page_number address ≡ p = cc in
        let parts = permitted_is kind.Store a.pages address page is in
        rw (sym same, parts.0) parts.1
writable_act a (Call number value) p e = cc
writable_act a (Trap cause value) p e = cc

writable_written : (s : Status) (a : Flat) (p : ℕ) → page_written s a ≡ Some p → Writable a.pages p
writable_written on a p e = from (fetched a.pages a.pc) e
  where
    from : (word : Option ℕ) → option_and_then (λ w. page_of_act a (act_of (context_of a) w)) word ≡ Some p → Writable a.pages p
    from None h = cc
    from (Some word) h = writable_act a (act_of (context_of a) word) p h
writable_written (ended code) a p e = cc

all_with : (P : ℕ → Type 0) (ws : List ℕ) (w : Option ℕ) → All P ws → ((p : ℕ) → w ≡ Some p → P p) → All P (with_page ws w)
all_with P ws None all last = all
all_with P ws (Some r) all last = from (among r ws)
  where
    from : (t : Bool) → All P (cond t ws (ws ++ r ∷ []))
    from true = all
    from false = All-push P ws r all (last r refl)

writable_of : (image : Image) (sent : List ℕ) (n : ℕ) (p : ℕ) → option_and_then (λ (a : Flat). page_written a.status a) (alone image sent n) ≡ Some p → Writable image.pages p
writable_of image sent n p e = from (alone image sent n) refl e
  where
    from : (state : Option Flat) → alone image sent n ≡ state → option_and_then (λ (a : Flat). page_written a.status a) state ≡ Some p → Writable image.pages p
    from None is h = cc
    from (Some a) is h = writable_alike a.pages image.pages p (permissions_stay image sent n a is) (writable_written a.status a p h)

pub written_writable : WrittenWritable
written_writable image sent zero = rw none_written (λ k d below. absurd (omega arith))
written_writable image sent (suc n) =
    rw written_more (all_with (Writable image.pages) (written_pages image sent n) (option_and_then (λ (a : Flat). page_written a.status a) (alone image sent n)) (written_writable image sent n) (writable_of image sent n))

pub ruleset laws = (sent_later, permissions_stay, unwritten_stay, written_once, written_writable)
