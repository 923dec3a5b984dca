-- Which pages a number that was forked has, and what an instruction, a word, a spare and a break leave of them.
use Rattle.std.proofs.Common.{◌≡◌, ℕ, zero, suc, ◌+◌, ◌-◌, ◌<◌, ◌≤◌, eqb, ltb, Bool, true, false, not, ◌&&◌, ◌||◌, if◌then◌else◌, List, [], ◌∷◌, ◌++◌, length, length-append, map, set, Option, Some, None, option_map, slice_get, refl, sym, ap, ◌∙◌, subst, arith, add-one, cond, count_by, inl, inr}
use Rattle.std.proofs.Math.Dec.{eqb-suc-zero}
use Rattle.std.specs.Cmp.{both_ways}
use Rattle.std.specs.Option.{option_map_or}
use Rattle.std.specs.Prelude.{drop, filter_map, slice_index, take, unwrap_or}
use Rattle.std.proofs.lemmas.Bool.Decides.{nat_tests}
use Rattle.std.proofs.lemmas.Bool.{cases_Bool, eq-eqb, eqb-true, false≢true, ltb-false, ltb-true, or_right}
use Rattle.std.proofs.lemmas.List.Elements.{Contains-get_or}
use Rattle.std.proofs.lemmas.List.Folds.{list_any-append}
use Rattle.std.proofs.lemmas.List.Sums.{sum_by-cons}
use Rattle.std.proofs.lemmas.List.{append-nil, drop-append-le, drop_more, get_or-drop, get_or_append_left, length-drop, length-map, map-set, nil_from_length, take-append-drop}
use Rattle.std.proofs.lemmas.Option.{slice_get-get_or}
use Rattle.pl_base.specs.declared.number.EncNo.{EncNo}
use Rattle.pl_base.specs.Pages.{first_twice, is_among}
use Rattle.rv_alone.specs.Alone.{alone, page_written, place_in, written_pages}
use Rattle.rv_alone.specs.Flat.{Flat, Image}
use Rattle.rv_alone.proofs.Later.{written_later}
use Rattle.rv_alone.proofs.WrittenPages.{IsWritten, need_ahead, none_twice, place_none, place_push_other, place_push_same, written_new, written_next_among, written_place, written_same}
use Rattle.mon_image.specs.declared.image.Image as image_is
use Rattle.mon_enclave.specs.declared.enclave.Enclave.{Enclave}
use Rattle.mon_enclave.specs.declared.enclave.PageKind.TheVariants.{Own, Shared}
use Rattle.mon_enclave.specs.declared.enclave.PageKind.{PageKind}
use Rattle.mon_enclave.specs.Records.{as_shared, built, forked, free_enclave, next_spare, page_if_own, page_number_of, pages_held, with_own_page, with_spare}
use Rattle.mon_life.proofs.HeldLemmas.{built_holds}
use Rattle.pl_history.specs.declared.setup.SetupParts.{SetupParts}
use Rattle.pl_history.specs.Making.{image_page_count}
use Rattle.pl_history.specs.Monitor.{Monitor, Number, flat_image, flat_page, pages_taken}
use Rattle.pl_history.specs.OwnedPages.{PagesApart}
use Rattle.pl_history.specs.Running.{needs_page}
use Rattle.pl_history.specs.ShadowPages.{ShadowsStand}
use Rattle.pl_history.proofs.HostMappings.{pushed}
use Rattle.pl_history.proofs.ShadowLemmas.{fork_of, once_counted, once_more, shadow_pages, taken_once}
use Rattle.pl_history.proofs.ShadowPages.{spare_apart}
use Rattle.world_machine.specs.Making.{image_of}
use Rattle.world_machine.specs.Pages.{numbers_of}
use Rattle.world_machine.specs.PagesAgree.{AreBroken, PagesAre, forked_kind, forked_kinds, kinds_of, shared_by, written_by}
use Rattle.world_machine.proofs.OwnersGiven.{in_among}

-- ---- the kinds of a fork's pages

pub forked_get : (spares broken : List ℕ) (at : ℕ) (shared : List ℕ) (i : ℕ)
    → slice_get (forked_kinds spares broken at shared) i ≡ option_map (λ page. forked_kind spares (place_in (at + i) broken) page) (slice_get shared i)
forked_get spares broken at [] i = refl
forked_get spares broken at (page ∷ shared) zero = ap (λ p. Some (forked_kind spares (place_in p broken) page)) (omega arith)
forked_get spares broken at (page ∷ shared) (suc i) =
    forked_get spares broken (at + 1) shared i ∙ ap (λ p. option_map (λ q. forked_kind spares (place_in p broken) q) (slice_get shared i)) (omega arith)

pub forked_length : (spares broken : List ℕ) (at : ℕ) (shared : List ℕ) → length (forked_kinds spares broken at shared) ≡ length shared
forked_length spares broken at [] = refl
forked_length spares broken at (page ∷ shared) = ap suc (forked_length spares broken (at + 1) shared)

-- none is broken
pub forked_none : (spares : List ℕ) (at : ℕ) (shared : List ℕ) → forked_kinds spares [] at shared ≡ map Shared shared
forked_none spares at [] = refl
forked_none spares at (page ∷ shared) = ap (λ kinds. Shared page ∷ kinds) (forked_none spares (at + 1) shared)

-- ---- places

-- where a page stands in a list
pub record IsPlaced (ws : List ℕ) (p : ℕ) : Type 0 where
  pub place : ℕ
  pub place_is : place_in p ws ≡ Some place
  pub below : place < length ws
  pub there : slice_index ws place ≡ p

pub placed : (p : ℕ) (ws : List ℕ) → is_among ws p ≡ true → IsPlaced ws p
placed p [] among = absurd (false≢true among)
placed p (w ∷ ws) among = elim (cases_Bool (eqb w p)) [
  | inl here ↦ record {
    place = 0;
    place_is = ap (λ b. if b then Some zero else option_map (λ place. place + 1) (place_in p ws)) here;
    below = omega arith;
    there = eqb-true w p here;
  }
  | inr later ↦
      let rest = placed p ws (sym (ap (λ b. b || is_among ws p) later) ∙ among) in
      record {
        place = suc rest.place;
        place_is = ap (λ b. if b then Some zero else option_map (λ place. place + 1) (place_in p ws)) later
            ∙ ap (option_map (λ place. place + 1)) rest.place_is ∙ ap Some (add-one rest.place);
        below = (let b : rest.place < length ws = rest.below in omega arith);
        there = rest.there;
      }
]

-- a page that has a place is among them
pub place_among : (p k : ℕ) (ws : List ℕ) → place_in p ws ≡ Some k → (is_among ws p ≡ true) × (k < length ws)
place_among p k ws is = elim (cases_Bool (is_among ws p)) [
  | inl among ↦
      let at = placed p ws among in
      let same : at.place ≡ k = (let h : Some at.place ≡ Some k = sym at.place_is ∙ is in cc) in
      (among, subst (λ place. place < length ws) same at.below)
  | inr absent ↦ (let clash : None ≡ Some k = sym (place_none p ws absent) ∙ is in cc)
]

-- and one that has none isn't
pub place_absent : (p : ℕ) (ws : List ℕ) → place_in p ws ≡ None → is_among ws p ≡ false
place_absent p ws none = elim (cases_Bool (is_among ws p)) [
  | inl among ↦ (let clash : None ≡ Some (placed p ws among).place = sym none ∙ (placed p ws among).place_is in cc)
  | inr absent ↦ absent
]

-- a page of the image that was broken is the spare of its place
pub record IsBroken (spares broken : List ℕ) (i page : ℕ) : Type 0 where
  pub among : is_among broken i ≡ true
  pub place : ℕ
  pub place_is : place_in i broken ≡ Some place
  pub below : place < length broken
  pub page_is : page ≡ slice_index spares place

-- any other is the shadow's
pub record IsUnbroken (number_of : ℕ → Number) (parent : Option ℕ) (broken : List ℕ) (i page : ℕ) : Type 0 where
  pub shadow : ℕ
  pub forked : parent ≡ Some shadow
  pub absent : is_among broken i ≡ false
  pub there : slice_get (number_of shadow).pages i ≡ Some page

own_only : (pages : List ℕ) (i page : ℕ) → slice_get (map Own pages) i ≡ Some (Shared page) → ⊥
own_only [] i page is = cc
own_only (q ∷ pages) zero page is = cc
own_only (q ∷ pages) (suc i) page is = own_only pages i page is

module _ (setup : SetupParts) (number_of : ℕ → Number) (r : Enclave) (n : Number) (k : PagesAre setup number_of r n) where
  pub whole_kinds : n.parent ≡ None → r.pages ≡ map Own n.pages
  whole_kinds whole = k.kinds ∙ ap (λ o. kinds_of n.pages n.spares k.broken (shared_by number_of o)) whole

  pub whole_broken : n.parent ≡ None → k.broken ≡ []
  whole_broken whole = subst (λ o. AreBroken o (flat_image (image_of setup r.image)) r.sent r.retired k.ahead k.broken) whole k.so_far

  pub fork_kinds : (shadow : ℕ) → n.parent ≡ Some shadow → r.pages ≡ forked_kinds n.spares k.broken 0 (number_of shadow).pages
  fork_kinds shadow forked = k.kinds ∙ ap (λ o. kinds_of n.pages n.spares k.broken (shared_by number_of o)) forked

  pub fork_broken : (shadow : ℕ) → n.parent ≡ Some shadow → k.broken ≡ written_by k.ahead (flat_image (image_of setup r.image)) r.sent r.retired
  fork_broken shadow forked = subst (λ o. AreBroken o (flat_image (image_of setup r.image)) r.sent r.retired k.ahead k.broken) forked k.so_far

  pub fork_page : (shadow i : ℕ) → n.parent ≡ Some shadow
      → slice_get r.pages i ≡ option_map (λ page. forked_kind n.spares (place_in i k.broken) page) (slice_get (number_of shadow).pages i)
  fork_page shadow i forked =
      ap (λ kinds. slice_get kinds i) (fork_kinds shadow forked) ∙ forked_get n.spares k.broken 0 (number_of shadow).pages i
      ∙ ap (λ at. option_map (λ page. forked_kind n.spares (place_in at k.broken) page) (slice_get (number_of shadow).pages i)) (let same : 0 + i ≡ i = omega arith in same)

  -- a page of its own is one that it broke
  pub own_is_broken : (shadow i page : ℕ) → n.parent ≡ Some shadow → slice_get r.pages i ≡ Some (Own page) → IsBroken n.spares k.broken i page
  own_is_broken shadow i page forked own = from (slice_get (number_of shadow).pages i) (place_in i k.broken) refl (sym (fork_page shadow i forked) ∙ own)
    where
      from : (o at : Option ℕ) → place_in i k.broken ≡ at → option_map (λ q. forked_kind n.spares at q) o ≡ Some (Own page) → IsBroken n.spares k.broken i page
      from None at is clash = cc
      from (Some q) None is clash = cc
      from (Some q) (Some j) is same =
          let parts = place_among i j k.broken is in
          record { among = parts.0; place = j; place_is = is; below = parts.1; page_is = (let h : Some (Own (slice_index n.spares j)) ≡ Some (Own page) = same in cc) }

  -- a page that is shared is one that it didn't break, the shadow's
  pub shared_isnt : (i page : ℕ) → slice_get r.pages i ≡ Some (Shared page) → IsUnbroken number_of n.parent k.broken i page
  shared_isnt i page shared = by_parent n.parent refl
    where
      from : (shadow : ℕ) → n.parent ≡ Some shadow → (o at : Option ℕ) → slice_get (number_of shadow).pages i ≡ o → place_in i k.broken ≡ at
          → option_map (λ q. forked_kind n.spares at q) o ≡ Some (Shared page) → IsUnbroken number_of n.parent k.broken i page
      from shadow forked None at there is clash = cc
      from shadow forked (Some q) None there is same = record {
        shadow = shadow;
        forked = forked;
        absent = place_absent i k.broken is;
        there = there ∙ ap Some (let h : Some (Shared q) ≡ Some (Shared page) = same in cc);
      }
      from shadow forked (Some q) (Some j) there is clash = cc

      by_parent : (o : Option ℕ) → n.parent ≡ o → IsUnbroken number_of n.parent k.broken i page
      by_parent None whole = absurd (own_only n.pages i page (sym (ap (λ kinds. slice_get kinds i) (whole_kinds whole)) ∙ shared))
      by_parent (Some shadow) forked =
          from shadow forked (slice_get (number_of shadow).pages i) (place_in i k.broken) refl refl (sym (fork_page shadow i forked) ∙ shared)

-- ---- what stays

-- the parts of a record and of its number that say which pages it has, but for its words and instructions
pub record SameKinds (r r' : Enclave) (n n' : Number) : Type 0 where
  pub image : r'.image ≡ r.image
  pub kinds : r'.pages ≡ r.pages
  pub left : r'.spares ≡ r.spares
  pub parent : n'.parent ≡ n.parent
  pub pages : n'.pages ≡ n.pages
  pub spares : n'.spares ≡ n.spares

module _ (image : Image) (sent : List ℕ) (count : ℕ) (a : Flat) (is : alone image sent count ≡ Some a) where
  -- an instruction retires that stores to no page, or to one that is broken: then no page is broken that it doesn't store to
  retired_broken : (parent : Option ℕ) (ahead : Bool) (broken : List ℕ) → AreBroken parent image sent count ahead broken
      → ((shadow p : ℕ) → parent ≡ Some shadow → page_written a.status a ≡ Some p → is_among broken p ≡ true) → AreBroken parent image sent (count + 1) false broken
  retired_broken None ahead broken are own = are
  retired_broken (Some shadow) true broken are own = are ∙ ap (written_pages image sent) (sym (add-one count))
  retired_broken (Some shadow) false broken are own =
      are ∙ sym (written_same image sent count a is (λ p stores. ap (λ ws. is_among ws p) (sym are) ∙ own shadow p refl stores))
      ∙ ap (written_pages image sent) (sym (add-one count))

  -- a word that is sent changes no page that was broken
  sent_broken : (word : ℕ) (parent : Option ℕ) (ahead : Bool) (broken : List ℕ) → AreBroken parent image sent count ahead broken
      → AreBroken parent image (sent ++ word ∷ []) count ahead broken
  sent_broken word None ahead broken are = are
  sent_broken word (Some shadow) true broken are = are ∙ sym (written_later image sent (word ∷ []) count a is).1
  sent_broken word (Some shadow) false broken are = are ∙ sym (written_later image sent (word ∷ []) count a is).0

-- more spares change no page
forked_more : (spares later broken : List ℕ) → length broken ≤ length spares → (at : ℕ) (shared : List ℕ)
    → forked_kinds (spares ++ later) broken at shared ≡ forked_kinds spares broken at shared
forked_more spares later broken few at [] = refl
forked_more spares later broken few at (page ∷ shared) =
    λ i. kind_more (place_in at broken) refl i ∷ forked_more spares later broken few (at + 1) shared i
  where
    kind_more : (o : Option ℕ) → place_in at broken ≡ o → forked_kind (spares ++ later) o page ≡ forked_kind spares o page
    kind_more None is = refl
    kind_more (Some j) is =
        let below = (place_among at j broken is).1 in
        ap Own (get_or_append_left spares later 0 j (omega arith))

kinds_more : (pages spares later broken : List ℕ) → length broken ≤ length spares → (shared : Option (List ℕ))
    → kinds_of pages (spares ++ later) broken shared ≡ kinds_of pages spares broken shared
kinds_more pages spares later broken few None = refl
kinds_more pages spares later broken few (Some shared) = forked_more spares later broken few 0 shared

module _ (setup : SetupParts) (number_of : ℕ → Number) (r : Enclave) (n : Number) (k : PagesAre setup number_of r n) where
  abbrev its_image : Image
  its_image = flat_image (image_of setup r.image)

  -- the same pages, by words and instructions that broke the same
  pub pages_with : (now : Enclave) (n' : Number) → SameKinds r now n n' → (ahead : Bool) → AreBroken n.parent its_image now.sent now.retired ahead k.broken
      → PagesAre setup number_of now n'
  pages_with now n' same ahead are = record {
    broken = k.broken;
    ahead = ahead;
    so_far = subst (λ parent. AreBroken parent (flat_image (image_of setup now.image)) now.sent now.retired ahead k.broken) (sym same.parent)
        (subst (λ number. AreBroken n.parent (flat_image (image_of setup number)) now.sent now.retired ahead k.broken) (sym same.image) are);
    kinds = same.kinds ∙ k.kinds ∙ (λ i. kinds_of (sym same.pages i) (sym same.spares i) k.broken (shared_by number_of (sym same.parent i)));
    spares = same.left ∙ k.spares ∙ ap (drop (length k.broken)) (sym same.spares);
    few = subst (λ spares. length k.broken ≤ length spares) (sym same.spares) k.few;
  }

  -- an instruction retires that stores to no page, or to one that is broken
  pub pages_retired : (now : Enclave) (n' : Number) (a : Flat) → SameKinds r now n n' → now.sent ≡ r.sent → now.retired ≡ r.retired + 1
      → alone its_image r.sent r.retired ≡ Some a
      → ((shadow p : ℕ) → n.parent ≡ Some shadow → page_written a.status a ≡ Some p → is_among k.broken p ≡ true)
      → PagesAre setup number_of now n'
  pages_retired now n' a same sent retired is own =
      pages_with now n' same false
      (subst (λ words. AreBroken n.parent its_image words now.retired false k.broken) (sym sent)
      (subst (λ count. AreBroken n.parent its_image r.sent count false k.broken) (sym retired)
      (retired_broken its_image r.sent r.retired a is n.parent k.ahead k.broken k.so_far own)))

  -- a word is sent
  pub pages_sent : (word : ℕ) (n' : Number) (a : Flat) → n'.parent ≡ n.parent → n'.pages ≡ n.pages → n'.spares ≡ n.spares
      → alone its_image r.sent r.retired ≡ Some a → PagesAre setup number_of (record r { sent = r.sent ++ word ∷ [] }) n'
  pages_sent word n' a parent pages spares is =
      pages_with (record r { sent = r.sent ++ word ∷ [] }) n'
      (record { image = refl; kinds = refl; left = refl; parent = parent; pages = pages; spares = spares }) k.ahead
      (sent_broken its_image r.sent r.retired a is word n.parent k.ahead k.broken k.so_far)

  -- a spare is given
  pub pages_granted : (page : ℕ) → PagesAre setup number_of (with_spare r page) (record n { spares = n.spares ++ page ∷ [] })
  pages_granted page = record {
    broken = k.broken;
    ahead = k.ahead;
    so_far = k.so_far;
    kinds = k.kinds ∙ sym (kinds_more n.pages n.spares (page ∷ []) k.broken k.few (shared_by number_of n.parent));
    spares = ap (λ spares. spares ++ page ∷ []) k.spares ∙ sym (drop-append-le (length k.broken) n.spares (page ∷ []) k.few);
    few = (let more = length-append n.spares (page ∷ []) in let few = k.few in omega arith);
  }

-- ---- a number is made

none_broken : (image : Image) (sent : List ℕ) → [] ≡ written_pages image sent 0
unfolding written_pages
none_broken image sent = refl

module _ (setup : SetupParts) (number_of : ℕ → Number) (n : Number) where
  -- of an image
  pub pages_built : (number : ℕ) (image : image_is.Image) (pages : List ℕ) (enclave : Enclave) → n.parent ≡ None → n.pages ≡ pages → n.spares ≡ []
      → PagesAre setup number_of (built number image pages enclave) n
  pages_built number image pages enclave whole made none = record {
    broken = [];
    ahead = false;
    so_far = subst (λ o. AreBroken o (flat_image (image_of setup number)) [] 0 false []) (sym whole) refl;
    kinds = (λ i. kinds_of (sym made i) n.spares [] (shared_by number_of (sym whole i)));
    spares = sym none;
    few = omega arith;
  }

  -- as a fork of a shadow
  pub pages_forked : (shadow : EncNo) (source : Enclave) (spares pages : List ℕ) (enclave : Enclave) → source.pages ≡ map Own pages
      → (number_of shadow.0).pages ≡ pages → n.parent ≡ Some shadow.0 → n.pages ≡ [] → n.spares ≡ spares
      → PagesAre setup number_of (forked shadow source spares enclave) n
  pages_forked shadow source spares pages enclave own same is none given = record {
    broken = [];
    ahead = false;
    so_far = subst (λ o. AreBroken o (flat_image (image_of setup source.image)) [] 0 false []) (sym is) (none_broken (flat_image (image_of setup source.image)) []);
    kinds = ap (map as_shared) own ∙ shared_all pages ∙ ap (map Shared) (sym same) ∙ sym (forked_none n.spares 0 (number_of shadow.0).pages)
        ∙ ap (λ o. kinds_of n.pages n.spares [] (shared_by number_of o)) (sym is);
    spares = sym given;
    few = omega arith;
  }
    where
      shared_all : (pages : List ℕ) → map as_shared (map Own pages) ≡ map Shared pages
      shared_all [] = refl
      shared_all (page ∷ pages) = ap (λ kinds. Shared page ∷ kinds) (shared_all pages)

-- ---- a page is broken

-- one more page is broken: those after it stay as they are
forked_push_other : (spares broken : List ℕ) (broke at : ℕ) (shared : List ℕ) → broke < at
    → forked_kinds spares (broken ++ broke ∷ []) at shared ≡ forked_kinds spares broken at shared
forked_push_other spares broken broke at [] before = refl
forked_push_other spares broken broke at (page ∷ shared) before =
    let place : place_in at (broken ++ broke ∷ []) ≡ place_in at broken = place_push_other at broke broken (λ same. omega arith) in
    λ i. forked_kind spares (place i) page ∷ forked_push_other spares broken broke (at + 1) shared (omega arith) i

-- and it is the next spare
forked_push : (spares broken : List ℕ) (at i : ℕ) (shared : List ℕ) → is_among broken (at + i) ≡ false
    → set (forked_kinds spares broken at shared) i (Own (slice_index spares (length broken))) ≡ forked_kinds spares (broken ++ (at + i) ∷ []) at shared
forked_push spares broken at i [] new = refl
forked_push spares broken at zero (page ∷ shared) new =
    let same : at + 0 ≡ at = omega arith in
    let here : place_in at (broken ++ at ∷ []) ≡ Some (length broken) = place_push_same at broken (subst (λ p. is_among broken p ≡ false) same new) in
    (λ i. forked_kind spares (sym here i) page ∷ sym (forked_push_other spares broken at (at + 1) shared (omega arith)) i)
    ∙ ap (λ p. forked_kinds spares (broken ++ p ∷ []) at (page ∷ shared)) (sym same)
forked_push spares broken at (suc i) (page ∷ shared) new =
    let same : (at + 1) + i ≡ at + suc i = omega arith in
    let first : place_in at (broken ++ (at + suc i) ∷ []) ≡ place_in at broken = place_push_other at (at + suc i) broken (λ is. omega arith) in
    let rest = forked_push spares broken (at + 1) i shared (subst (λ p. is_among broken p ≡ false) (sym same) new)
    ∙ ap (λ p. forked_kinds spares (broken ++ p ∷ []) (at + 1) shared) same in
    λ j. forked_kind spares (sym first j) page ∷ rest j

module _ (setup : SetupParts) (number_of : ℕ → Number) (r : Enclave) (n : Number) (k : PagesAre setup number_of r n)
    (spare : ℕ) (later : List ℕ) (left : r.spares ≡ spare ∷ later) where
  -- where a spare is left, it is the one after those of the pages that were broken
  pub spare_left : length k.broken < length n.spares
  spare_left =
      let size : length r.spares ≡ suc (length later) = ap length left in
      let rest : length r.spares ≡ length n.spares - length k.broken = ap length k.spares ∙ length-drop (length k.broken) n.spares in
      omega arith

  spares_are : r.spares ≡ slice_index n.spares (length k.broken) ∷ drop (length k.broken + 1) n.spares
  spares_are = k.spares ∙ drop_more n.spares (length k.broken) 0 spare_left

  pub next_is : next_spare r ≡ slice_index n.spares (length k.broken)
  next_is = ap (λ spares. slice_index spares 0) spares_are

module _ (setup : SetupParts) (number_of : ℕ → Number) (r : Enclave) (n : Number) (k : PagesAre setup number_of r n) (a : Flat)
    (is : alone (flat_image (image_of setup r.image)) r.sent r.retired ≡ Some a) (p : ℕ) (stores : page_written a.status a ≡ Some p) where
  abbrev written : ℕ → List ℕ
  written = written_pages (flat_image (image_of setup r.image)) r.sent

  -- where an instruction stores to a page of the number's own, no page is needed
  pub own_needs_none : (page : ℕ) → slice_get r.pages p ≡ Some (Own page) → needs_page n.parent n.spares (written r.retired) (Some p) ≡ false
  own_needs_none page own = by_parent n.parent refl
    where
      from : (shadow : ℕ) → n.parent ≡ Some shadow → (b : Bool) → k.broken ≡ written_by b (flat_image (image_of setup r.image)) r.sent r.retired
          → (not (is_among (written r.retired) p) && eqb (length (written r.retired)) (length n.spares)) ≡ false
      from shadow forked false are =
          let among : is_among (written r.retired) p ≡ true = ap (λ ws. is_among ws p) (sym are) ∙ (own_is_broken setup number_of r n k shadow p page forked own).among in
          ap (λ b. not b && eqb (length (written r.retired)) (length n.spares)) among
      from shadow forked true are =
          let few : length (written (suc r.retired)) ≤ length n.spares = subst (λ ws. length ws ≤ length n.spares) are k.few in
          need_ahead (flat_image (image_of setup r.image)) r.sent r.retired a is p stores (length n.spares) few
          ∙ ap (λ b. not b && eqb (length (written (suc r.retired))) (length n.spares)) (written_next_among (flat_image (image_of setup r.image)) r.sent r.retired a is p stores)

      by_parent : (o : Option ℕ) → n.parent ≡ o → needs_page n.parent n.spares (written r.retired) (Some p) ≡ false
      by_parent None whole = ap (λ o. needs_page o n.spares (written r.retired) (Some p)) whole
      by_parent (Some shadow) forked =
          ap (λ o. needs_page o n.spares (written r.retired) (Some p)) forked ∙ from shadow forked k.ahead (fork_broken setup number_of r n k shadow forked)

  module _ (page : ℕ) (shared : slice_get r.pages p ≡ Some (Shared page)) where
    unbroken : IsUnbroken number_of n.parent k.broken p page
    unbroken = shared_isnt setup number_of r n k p page shared

    -- a page that is shared isn't broken, so none is broken ahead
    pub not_ahead : k.ahead ≡ false
    not_ahead = from k.ahead (fork_broken setup number_of r n k unbroken.shadow unbroken.forked)
      where
        from : (b : Bool) → k.broken ≡ written_by b (flat_image (image_of setup r.image)) r.sent r.retired → b ≡ false
        from false are = refl
        from true are =
            absurd (false≢true (sym unbroken.absent ∙ ap (λ ws. is_among ws p) are ∙ written_next_among (flat_image (image_of setup r.image)) r.sent r.retired a is p stores))

    broken_now : k.broken ≡ written r.retired
    broken_now =
        fork_broken setup number_of r n k unbroken.shadow unbroken.forked ∙ ap (λ b. written_by b (flat_image (image_of setup r.image)) r.sent r.retired) not_ahead

    broken_then : k.broken ++ p ∷ [] ≡ written (suc r.retired)
    broken_then =
        ap (λ ws. ws ++ p ∷ []) broken_now
        ∙ sym (written_new (flat_image (image_of setup r.image)) r.sent r.retired a is p stores (ap (λ ws. is_among ws p) (sym broken_now) ∙ unbroken.absent))

    -- a spare is left: the page is the number's own
    pub pages_broke : (spare : ℕ) (later : List ℕ) → r.spares ≡ spare ∷ later → PagesAre setup number_of (with_own_page r p) n
    pages_broke spare later left = record {
      broken = k.broken ++ p ∷ [];
      ahead = true;
      so_far = subst (λ o. AreBroken o (flat_image (image_of setup r.image)) r.sent r.retired true (k.broken ++ p ∷ [])) (sym unbroken.forked) broken_then;
      kinds =
          (λ i. set (fork_kinds setup number_of r n k unbroken.shadow unbroken.forked i) p (Own (next_is setup number_of r n k spare later left i)))
          ∙ forked_push n.spares k.broken 0 p (number_of unbroken.shadow).pages (subst (λ at. is_among k.broken at ≡ false) (sym from_zero) unbroken.absent)
          ∙ ap (λ at. forked_kinds n.spares (k.broken ++ at ∷ []) 0 (number_of unbroken.shadow).pages) from_zero
          ∙ ap (λ o. kinds_of n.pages n.spares (k.broken ++ p ∷ []) (shared_by number_of o)) (sym unbroken.forked);
      spares = ap (drop 1) (spares_are setup number_of r n k spare later left) ∙ ap (λ size. drop size n.spares) (sym size);
      few = subst (λ size. size ≤ length n.spares) (sym size) (let less = spare_left setup number_of r n k spare later left in omega (arith, less));
    }
      where
        from_zero : 0 + p ≡ p
        from_zero = omega arith

        size : length (k.broken ++ p ∷ []) ≡ length k.broken + 1
        size = length-append k.broken (p ∷ [])

    pub broke_broken : (spare : ℕ) (later : List ℕ) (left : r.spares ≡ spare ∷ later) → (pages_broke spare later left).broken ≡ k.broken ++ p ∷ []
    unfolding pages_broke
    broke_broken spare later left = refl

    pub broke_ahead : (spare : ℕ) (later : List ℕ) (left : r.spares ≡ spare ∷ later) → (pages_broke spare later left).ahead ≡ true
    unfolding pages_broke
    broke_ahead spare later left = refl

    -- a page is needed exactly where no spare is left
    pub need_is : needs_page n.parent n.spares (written r.retired) (Some p) ≡ eqb (length r.spares) 0
    need_is =
        ap (λ o. needs_page o n.spares (written r.retired) (Some p)) unbroken.forked
        ∙ ap (λ ws. not (is_among ws p) && eqb (length ws) (length n.spares)) (sym broken_now)
        ∙ ap (λ b. not b && eqb (length k.broken) (length n.spares)) unbroken.absent
        ∙ counts
      where
        counts : eqb (length k.broken) (length n.spares) ≡ eqb (length r.spares) 0
        counts =
            let few = k.few in
            let rest : length r.spares ≡ length n.spares - length k.broken = ap length k.spares ∙ length-drop (length k.broken) n.spares in
            grind (arith, nat_tests)

    pub need_where : r.spares ≡ [] → needs_page n.parent n.spares (written r.retired) (Some p) ≡ true
    need_where none = need_is ∙ ap (λ spares. eqb (length spares) 0) none

    pub none_left : needs_page n.parent n.spares (written r.retired) (Some p) ≡ true → r.spares ≡ []
    none_left needed = nil_from_length r.spares (eqb-true (length r.spares) 0 (sym need_is ∙ needed))

    -- and none where one is
    pub no_need : (spare : ℕ) (later : List ℕ) → r.spares ≡ spare ∷ later → needs_page n.parent n.spares (written r.retired) (Some p) ≡ false
    no_need spare later left = need_is ∙ ap (λ spares. eqb (length spares) 0) left ∙ eqb-suc-zero (length later)

-- ---- pages apart

-- a page among those of a record stands there as a kind
number_found : (kinds : List PageKind) (page : ℕ) → is_among (numbers_of kinds) page ≡ true
    → (i : ℕ) × (kind : PageKind) × (slice_get kinds i ≡ Some kind) × (page_number_of kind ≡ page)
number_found [] page among = absurd (false≢true among)
number_found (kind ∷ kinds) page among = elim (cases_Bool (eqb (page_number_of kind) page)) [
  | inl here ↦ (0, kind, refl, eqb-true (page_number_of kind) page here)
  | inr later ↦
      let rest = number_found kinds page (sym (ap (λ b. b || is_among (numbers_of kinds) page) later) ∙ among) in
      (suc rest.0, rest.1, rest.2, rest.3)
]

-- a list with one element changed counts no more than with one more
counted_set : (x : ℕ) (ws : List ℕ) (i v : ℕ) → count_by (λ w. eqb w x) (set ws i v) ≤ count_by (λ w. eqb w x) ws + cond (eqb v x) 1 0
counted_set x [] i v = omega arith
counted_set x (w ∷ ws) zero v =
    let old : count_by (λ y. eqb y x) (w ∷ ws) ≡ cond (eqb w x) 1 0 + count_by (λ y. eqb y x) ws = sum_by-cons (λ y. cond (eqb y x) 1 0) w ws in
    let new : count_by (λ y. eqb y x) (v ∷ ws) ≡ cond (eqb v x) 1 0 + count_by (λ y. eqb y x) ws = sum_by-cons (λ y. cond (eqb y x) 1 0) v ws in
    omega (arith, old, new)
counted_set x (w ∷ ws) (suc i) v =
    let old : count_by (λ y. eqb y x) (w ∷ ws) ≡ cond (eqb w x) 1 0 + count_by (λ y. eqb y x) ws = sum_by-cons (λ y. cond (eqb y x) 1 0) w ws in
    let new : count_by (λ y. eqb y x) (w ∷ set ws i v) ≡ cond (eqb w x) 1 0 + count_by (λ y. eqb y x) (set ws i v) = sum_by-cons (λ y. cond (eqb y x) 1 0) w (set ws i v) in
    let rest = counted_set x ws i v in
    omega (arith, old, new, rest)

-- one element becomes a page that isn't among the others
pub once_set : (ws : List ℕ) (i page : ℕ) → first_twice ws ≡ None → is_among ws page ≡ false → first_twice (set ws i page) ≡ None
once_set ws i page once absent = none_twice (set ws i page) few
  where
    few : (x : ℕ) → count_by (λ w. eqb w x) (set ws i page) ≤ 1
    few x =
        let all : count_by (λ w. eqb w x) (ws ++ page ∷ []) ≤ 1 = once_counted (ws ++ page ∷ []) (once_more ws page once absent) x in
        let sum : count_by (λ w. eqb w x) (ws ++ page ∷ []) ≡ count_by (λ w. eqb w x) ws + cond (eqb page x) 1 0 = pushed (λ w. eqb w x) ws page in
        let less = counted_set x ws i page in
        omega (arith, all, sum, less)

module _ (setup : SetupParts) (s : Monitor) (shadows : ShadowsStand setup s.number) (e : ℕ) (r : Enclave) (k : PagesAre setup s.number r (s.number e)) where
  abbrev its : Number
  its = s.number e

  spare_there : (i : ℕ) → i < length its.spares → slice_get its.spares i ≡ Some (slice_index its.spares i)
  spare_there i below = slice_get-get_or its.spares i 0 below

  -- all that a fork took are its spares
  pub fork_takes : (shadow : ℕ) → its.parent ≡ Some shadow → pages_taken its ≡ its.spares
  fork_takes shadow forked = ap (λ pages. pages ++ its.spares) (fork_of setup s.number shadows e shadow forked).none

  -- no spare stands twice
  pub spares_apart : (shadow i j : ℕ) → its.parent ≡ Some shadow → i < length its.spares → j < length its.spares → slice_index its.spares i ≡ slice_index its.spares j → i ≡ j
  spares_apart shadow i j forked below below' same =
      taken_once setup s.number shadows e i j (slice_index its.spares j) (ap (λ pages. slice_get pages i) (fork_takes shadow forked) ∙ spare_there i below ∙ ap Some same)
      (ap (λ pages. slice_get pages j) (fork_takes shadow forked) ∙ spare_there j below')

  module _ (apart : PagesApart s) (shadow : ℕ) (forked : its.parent ≡ Some shadow) (spare : ℕ) (later : List ℕ) (left : r.spares ≡ spare ∷ later) where
    below : length k.broken < length its.spares
    below = spare_left setup s.number r its k spare later left

    next_there : slice_get its.spares (length k.broken) ≡ Some (next_spare r)
    next_there = spare_there (length k.broken) below ∙ ap Some (sym (next_is setup s.number r its k spare later left))

    -- the next spare is no page of the shadow
    pub next_not_shadows : (j : ℕ) → slice_get (s.number shadow).pages j ≡ Some (next_spare r) → ⊥
    next_not_shadows j its_page = spare_apart setup s apart shadows e shadow (length k.broken) j (next_spare r) forked next_there its_page

    -- and none of the record's pages
    pub next_not_held : is_among (numbers_of r.pages) (next_spare r) ≡ false
    next_not_held = elim (cases_Bool (is_among (numbers_of r.pages) (next_spare r))) [
      | inr absent ↦ absent
      | inl among ↦ (let found = number_found r.pages (next_spare r) among in absurd (clash found.0 found.1 found.2 found.3))
    ]
      where
        clash : (i : ℕ) (kind : PageKind) → slice_get r.pages i ≡ Some kind → page_number_of kind ≡ next_spare r → ⊥
        clash i (Own page) there is =
            let broke = own_is_broken setup s.number r its k shadow i page forked there in
            let first : broke.place < length k.broken = broke.below in
            let same : broke.place ≡ length k.broken =
            spares_apart shadow broke.place (length k.broken) forked (omega (arith, first, below)) below
            (sym broke.page_is ∙ is ∙ next_is setup s.number r its k spare later left) in
            omega (arith, first, same)
        clash i (Shared page) there is =
            let un = shared_isnt setup s.number r its k i page there in
            spare_apart setup s apart shadows e un.shadow (length k.broken) i (next_spare r) un.forked next_there (un.there ∙ ap Some is)

    -- so no page stands twice in the record after the break
    pub once_broke : (p : ℕ) → first_twice (numbers_of r.pages) ≡ None → first_twice (numbers_of (with_own_page r p).pages) ≡ None
    once_broke p once = ap first_twice (map-set page_number_of r.pages p (Own (next_spare r))) ∙ once_set (numbers_of r.pages) p (next_spare r) once next_not_held

-- ---- the pages that a number took

own_found : (kinds : List PageKind) (page : ℕ) → is_among (filter_map page_if_own kinds) page ≡ true → (i : ℕ) × (slice_get kinds i ≡ Some (Own page))
own_found [] page among = absurd (false≢true among)
own_found (Own q ∷ kinds) page among = elim (cases_Bool (eqb q page)) [
  | inl here ↦ (0, ap (λ x. Some (Own x)) (eqb-true q page here))
  | inr later ↦ (let rest = own_found kinds page (sym (ap (λ b. b || is_among (filter_map page_if_own kinds) page) later) ∙ among) in (suc rest.0, rest.1))
]
own_found (Shared q ∷ kinds) page among = let rest = own_found kinds page among in (suc rest.0, rest.1)

own_there : (kinds : List PageKind) (i page : ℕ) → slice_get kinds i ≡ Some (Own page) → is_among (filter_map page_if_own kinds) page ≡ true
own_there [] i page there = cc
own_there (Own q ∷ kinds) zero page there = ap (λ b. b || is_among (filter_map page_if_own kinds) page) (eq-eqb q page (let h : Some (Own q) ≡ Some (Own page) = there in cc))
own_there (Own q ∷ kinds) (suc i) page there = or_right (eqb q page) (is_among (filter_map page_if_own kinds) page) (own_there kinds i page there)
own_there (Shared q ∷ kinds) zero page there = cc
own_there (Shared q ∷ kinds) (suc i) page there = own_there kinds i page there

-- a page is among a list where it stands
at_among : (ws : List ℕ) (i : ℕ) → i < length ws → is_among ws (slice_index ws i) ≡ true
at_among ws i below = in_among ws (slice_index ws i) (Contains-get_or ws i 0 below)

among_past : (ws : List ℕ) (size page : ℕ) → is_among (drop size ws) page ≡ true → is_among ws page ≡ true
among_past ws size page among =
    ap (λ all. is_among all page) (sym (take-append-drop size ws)) ∙ list_any-append (λ other. eqb other page) (take size ws) (drop size ws)
    ∙ or_right (is_among (take size ws) page) (is_among (drop size ws) page) among

-- the pages of an image of a setup
pages_counted : (setup : SetupParts) (number : ℕ) → image_page_count setup number ≡ length (flat_image (image_of setup number)).pages
pages_counted setup number = from (slice_get setup.images number)
  where
    from : (o : Option image_is.Image) → option_map_or (λ (i : image_is.Image). length i.pages) o 0 ≡ length (map flat_page (unwrap_or o (record { entry = 0; pages = [] })).pages)
    from None = refl
    from (Some i) = sym (length-map i.pages flat_page)

own_all : (pages : List ℕ) → filter_map page_if_own (map Own pages) ≡ pages
own_all pages = sym (append-nil (filter_map page_if_own (map Own pages))) ∙ built_holds 0 (record { entry = 0; pages = [] }) pages free_enclave

module _ (setup : SetupParts) (s : Monitor) (shadows : ShadowsStand setup s.number) (e : ℕ) (r : Enclave) (k : PagesAre setup s.number r (s.number e))
    (same_image : (s.number e).image ≡ r.image) where
  abbrev of_it : Number
  of_it = s.number e

  abbrev flat : Image
  flat = flat_image (image_of setup r.image)

  -- a shadow has a page for each of the image
  pub shadow_counts : (shadow : ℕ) → of_it.parent ≡ Some shadow → length (s.number shadow).pages ≡ length flat.pages
  shadow_counts shadow forked = shadow_pages setup s.number shadows e shadow forked ∙ ap (image_page_count setup) same_image ∙ pages_counted setup r.image

  -- each page that was broken stands once, and is one of the image's
  pub broken_place : (shadow i : ℕ) → of_it.parent ≡ Some shadow → i < length k.broken → IsWritten flat.pages k.broken i
  broken_place shadow i forked below = from k.ahead (fork_broken setup s.number r of_it k shadow forked)
    where
      written_at : (count : ℕ) → k.broken ≡ written_pages flat r.sent count → IsWritten flat.pages k.broken i
      written_at count are = subst (λ ws. IsWritten flat.pages ws i) (sym are) (written_place flat r.sent count i (subst (λ ws. i < length ws) are below))

      from : (b : Bool) → k.broken ≡ written_by b flat r.sent r.retired → IsWritten flat.pages k.broken i
      from false are = written_at r.retired are
      from true are = written_at (suc r.retired) are

  -- so the spare of its place is the number's own page there
  pub broken_own : (shadow i : ℕ) → of_it.parent ≡ Some shadow → i < length k.broken
      → slice_get r.pages (slice_index k.broken i) ≡ Some (Own (slice_index of_it.spares i))
  broken_own shadow i forked below =
      let at = broken_place shadow i forked below in
      let inside : slice_index k.broken i < length (s.number shadow).pages = subst (λ size. slice_index k.broken i < size) (sym (shadow_counts shadow forked)) at.inside in
      fork_page setup s.number r of_it k shadow (slice_index k.broken i) forked
      ∙ ap (option_map (λ page. forked_kind of_it.spares (place_in (slice_index k.broken i) k.broken) page))
      (slice_get-get_or (s.number shadow).pages (slice_index k.broken i) 0 inside)
      ∙ ap (λ o. Some (forked_kind of_it.spares o (slice_index (s.number shadow).pages (slice_index k.broken i)))) at.place

  -- what a record holds is what the number took
  pub held_set : (page : ℕ) → is_among (pages_held r) page ≡ is_among (pages_taken of_it) page
  held_set page = by_parent of_it.parent refl
    where
      split : is_among (pages_held r) page ≡ (is_among (filter_map page_if_own r.pages) page || is_among r.spares page)
      split = list_any-append (λ other. eqb other page) (filter_map page_if_own r.pages) r.spares

      either : (shadow : ℕ) → of_it.parent ≡ Some shadow → (b : Bool) → is_among (filter_map page_if_own r.pages) page ≡ b → (b || is_among r.spares page) ≡ true
          → is_among of_it.spares page ≡ true
      either shadow forked true own is =
          let found = own_found r.pages page own in
          let broke = own_is_broken setup s.number r of_it k shadow found.0 page forked found.1 in
          let first : broke.place < length k.broken = broke.below in
          let few : length k.broken ≤ length of_it.spares = k.few in
          subst (λ p. is_among of_it.spares p ≡ true) (sym broke.page_is) (at_among of_it.spares broke.place (omega (arith, first, few)))
      either shadow forked false own is = among_past of_it.spares (length k.broken) page (ap (λ spares. is_among spares page) (sym k.spares) ∙ is)

      used : (shadow i : ℕ) → of_it.parent ≡ Some shadow → slice_index of_it.spares i ≡ page → i < length k.broken
          → (is_among (filter_map page_if_own r.pages) page || is_among r.spares page) ≡ true
      used shadow i forked there below =
          ap (λ b. b || is_among r.spares page)
          (own_there r.pages (slice_index k.broken i) page (broken_own shadow i forked below ∙ ap (λ p. Some (Own p)) there))

      unused : (i : ℕ) → slice_index of_it.spares i ≡ page → i < length of_it.spares → length k.broken ≤ i
          → (is_among (filter_map page_if_own r.pages) page || is_among r.spares page) ≡ true
      unused i there inside past =
          let few : length (drop (length k.broken) of_it.spares) ≡ length of_it.spares - length k.broken = length-drop (length k.broken) of_it.spares in
          let there_too : slice_index (drop (length k.broken) of_it.spares) (i - length k.broken) ≡ page =
          get_or-drop (length k.broken) of_it.spares (i - length k.broken) 0
          ∙ ap (slice_index of_it.spares) (let sum : length k.broken + (i - length k.broken) ≡ i = omega (arith, past) in sum) ∙ there in
          or_right (is_among (filter_map page_if_own r.pages) page) (is_among r.spares page)
          (ap (λ spares. is_among spares page) k.spares
          ∙ subst (λ p. is_among (drop (length k.broken) of_it.spares) p ≡ true) there_too
          (at_among (drop (length k.broken) of_it.spares) (i - length k.broken) (omega (arith, few, inside, past))))

      given : (shadow : ℕ) → of_it.parent ≡ Some shadow → is_among of_it.spares page ≡ true → (is_among (filter_map page_if_own r.pages) page || is_among r.spares page) ≡ true
      given shadow forked among =
          let at = placed page of_it.spares among in
          elim (cases_Bool (ltb at.place (length k.broken))) [
            | inl before ↦ used shadow at.place forked at.there (ltb-true at.place (length k.broken) before)
            | inr past ↦ unused at.place at.there at.below (ltb-false at.place (length k.broken) past)
          ]

      by_parent : (o : Option ℕ) → of_it.parent ≡ o → is_among (pages_held r) page ≡ is_among (pages_taken of_it) page
      by_parent None whole =
          let own : filter_map page_if_own r.pages ≡ of_it.pages = ap (filter_map page_if_own) (whole_kinds setup s.number r of_it k whole) ∙ own_all of_it.pages in
          let left : r.spares ≡ of_it.spares = k.spares ∙ ap (λ broken. drop (length broken) of_it.spares) (whole_broken setup s.number r of_it k whole) in
          λ i. is_among (own i ++ left i) page
      by_parent (Some shadow) forked =
          both_ways (is_among (pages_held r) page) (is_among (pages_taken of_it) page)
          (λ held. ap (λ pages. is_among pages page) (fork_takes setup s shadows e r k shadow forked)
          ∙ either shadow forked (is_among (filter_map page_if_own r.pages) page) refl (sym split ∙ held))
          (λ taken. split ∙ given shadow forked (ap (λ pages. is_among pages page) (sym (fork_takes setup s shadows e r k shadow forked)) ∙ taken))
