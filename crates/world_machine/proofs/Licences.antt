-- The place of a fault was attacked, and lies on the path of a page that the line concerns.
use Rattle.std.proofs.Common.{◌≡◌, ℕ, zero, suc, ◌+◌, ◌-◌, ◌*◌, ◌/◌, ◌%◌, ◌<◌, ◌≤◌, ◌⊎◌, Bool, true, false, ◌||◌, List, [], ◌∷◌, ◌++◌, length, map, refl, sym, ap, ◌∙◌, subst, arith, inl, inr, zero-add}
use Rattle.std.proofs.lemmas.Bool.Decides.{nat_tests}
use Rattle.std.proofs.lemmas.Bool.{cases_Bool}
use Rattle.std.proofs.lemmas.List.FromFn.{get_or-map-range_with_len, length-map-range_with_len}
use Rattle.std.proofs.lemmas.List.Elements.{All-append, All-contains, All-from_recursion, All-map, Contains-append_left, Contains-append_right}
use Rattle.std.specs.Prelude.{Contains}
use Rattle.std.specs.List.{list_any, range_with_len}
use Rattle.pl_base.specs.declared.place.Place.{Place}
use Rattle.pl_base.specs.declared.place.Place.TheVariants.{Block, Node, RootNode}
use Rattle.mem_geom.specs.Layout.{Exists, place_end, place_start}
use Rattle.mem_geom.specs.PathPlaces.{block_places, level1_places, page_places, replaced_places, word_places}
use Rattle.mem_geom.specs.Ranges.{overlaps_place}
use Rattle.mem_ctl.specs.Access.{IsCollision as CollidesIn, IsTampered}
use Rattle.mem_ctl.specs.Data.{CtlData}
use Rattle.mem_ctl.specs.Results.{is_of_zone}
use Rattle.mon_tables.specs.Tables.{table_number}
use Rattle.pl_history.specs.declared.setup.SetupParts.{SetupParts}
use Rattle.pl_history.specs.Licence.{LiesOnPath, number_pages, number_tables, parent_pages}
use Rattle.pl_history.specs.Monitor.{Attack, Monitor, Number, pages_taken}
use Rattle.world_machine.specs.BytesAgree.{ByteAgrees, PageAgrees, covers, is_attacked}
use Rattle.world_machine.specs.Standing.{IsAttackedPlace, IsCollision}

-- ---- elements of lists

pub first_in : {A : Type 0} (x : A) (xs : List A) → Contains (x ∷ xs) x
first_in x xs = (0, omega arith, refl)

pub later_in : {A : Type 0} (y x : A) (xs : List A) → Contains xs x → Contains (y ∷ xs) x
later_in y x xs here = (suc here.0, (let h : here.0 < length xs = here.1 in omega arith), here.2)

pub in_numbered : {A : Type 0} (f : ℕ → A) (n k : ℕ) → k < n → Contains (map f (range_with_len 0 n)) (f k)
in_numbered f n k below = (k, subst (λ size. k < size) (sym (length-map-range_with_len f 0 n)) below, get_or-map-range_with_len f 0 n k k (f k) below (zero-add k))

any_weaker : {A : Type 0} (p q : A → Bool) (xs : List A) → ((x : A) → p x ≡ true → q x ≡ true) → list_any p xs ≡ true → list_any q xs ≡ true
any_weaker p q [] weaker any = any
any_weaker p q (x ∷ xs) weaker any = elim (cases_Bool (p x)) [
  | inl here ↦ rw (weaker x here) refl
  | inr later ↦ first_or (q x) _ (any_weaker p q xs weaker (sym (ap (λ b. b || list_any p xs) later) ∙ any))
]
  where
    first_or : (a b : Bool) → b ≡ true → (a || b) ≡ true
    first_or true b is = refl
    first_or false b is = is

-- ---- paths

-- a block on the path of a page is one of its own
abbrev IsOfPage : ℕ → Place → Type 0
IsOfPage page (Block p block) = p ≡ page
IsOfPage page place = Unit {0}

-- the nodes above a page's own eight nodes
abbrev upper_places : ℕ → List Place
upper_places page = Node 4 (page / 64) 0 ∷ Node 3 (page / 64) (page % 64 / 8) ∷ Node 2 (page / 64) (page % 64) ∷ []

page_of_block : (page p block : ℕ) → Contains (page_places page) (Block p block) → p ≡ page
unfolding level1_places block_places
page_of_block page p block on =
    All-contains (IsOfPage page) (page_places page) (Block p block)
    (All-append (IsOfPage page) (upper_places page) (level1_places page ++ block_places page)
    (All-from_recursion (IsOfPage page) (upper_places page) (tt, (tt, (tt, tt))))
    (All-append (IsOfPage page) (level1_places page) (block_places page)
    (All-map (IsOfPage page) (λ k. Node 1 (page / 64) (8 * (page % 64) + k)) (range_with_len 0 8) (λ i d below. tt))
    (All-map (IsOfPage page) (Block page) (range_with_len 0 64) (λ i d below. refl))))
    on

-- the places of a replaced page lie on its path
pub replaced_in_page : (page : ℕ) (place : Place) → Contains (replaced_places page) place → Contains (page_places page) place
replaced_in_page page place = Contains-append_left (replaced_places page) (Node 2 (page / 64) (page % 64) ∷ (level1_places page ++ block_places page)) place

-- and those of a word of it
pub word_in_page : (page block : ℕ) (place : Place) → block < 64 → Contains (word_places page block) place → Contains (page_places page) place
unfolding level1_places block_places
word_in_page page block place few here =
    let upper : List Place = upper_places page in
    let lower : List Place = level1_places page ++ block_places page in
    let among_upper : (p : Place) → Contains upper p → Contains (page_places page) p = Contains-append_left upper lower in
    let among_lower : (p : Place) → Contains lower p → Contains (page_places page) p = Contains-append_right upper lower in
    All-contains (Contains (page_places page)) (word_places page block) place
    (All-from_recursion (Contains (page_places page)) (word_places page block) (
      among_upper (Node 4 (page / 64) 0) (0, omega arith, refl),
      (
        among_upper (Node 3 (page / 64) (page % 64 / 8)) (1, omega arith, refl),
        (
          among_upper (Node 2 (page / 64) (page % 64)) (2, omega arith, refl),
          (
            among_lower (Node 1 (page / 64) (8 * (page % 64) + block / 8))
                (Contains-append_left (level1_places page) (block_places page) (Node 1 (page / 64) (8 * (page % 64) + block / 8))
                (in_numbered (λ k. Node 1 (page / 64) (8 * (page % 64) + k)) 8 (block / 8) (omega arith))),
            (
              among_lower (Block page block) (Contains-append_right (level1_places page) (block_places page) (Block page block) (in_numbered (Block page) 64 block few)),
              tt,
            ),
          ),
        ),
      ),
    )) here

-- a checked place lies on the path of a page that the line concerns
pub lies_on_path : (pages : List ℕ) (page : ℕ) (place : Place) → Contains pages page → Contains (page_places page) place ⊎ (is_of_zone place ≡ false) → LiesOnPath pages place
lies_on_path pages page (Block p block) here (inl on) = (page, here, on)
lies_on_path pages page (Node level zone index) here (inl on) = (page, here, on)
lies_on_path pages page (RootNode level index) here on = tt
lies_on_path pages page (Block p block) here (inr root) = cc
lies_on_path pages page (Node level zone index) here (inr root) = cc

-- no block is above a page
block_above : (page p block : ℕ) → Contains (replaced_places page) (Block p block) → ⊥
block_above page p block (zero, below, is) = cc
block_above page p block (suc zero, below, is) = cc
block_above page p block (suc (suc n), below, is) = absurd (omega arith)

pub by_word : (page block : ℕ) (place : Place) → block < 64 → Contains (word_places page block) place ⊎ (is_of_zone place ≡ false) → Contains (page_places page) place ⊎ (is_of_zone place ≡ false)
by_word page block place few (inl on) = inl (word_in_page page block place few on)
by_word page block place few (inr root) = inr root

pub by_replaced : (page : ℕ) (place : Place) → Contains (replaced_places page) place ⊎ (is_of_zone place ≡ false) → Contains (page_places page) place ⊎ (is_of_zone place ≡ false)
by_replaced page place (inl on) = inl (replaced_in_page page place on)
by_replaced page place (inr root) = inr root

root_checked : {A : Type 0} (place : Place) → Contains [] place ⊎ (is_of_zone place ≡ false) → A ⊎ (is_of_zone place ≡ false)
root_checked place (inl (n, below, is)) = absurd (omega arith)
root_checked place (inr root) = inr root

-- ---- a place of which a byte is another than was written, though all its bytes agree but where they are attacked

covered : (zones i : ℕ) (place : Place) (attack : Attack) → place_start zones place ≤ 0x80000000 + i → 0x80000000 + i < place_end zones place → covers i attack ≡ true
    → overlaps_place zones attack.address attack.length place ≡ true
covered zones i place attack from to covers_it = grind (arith, nat_tests)

module _ (zones : ℕ) (x : CtlData) (attacks : List Attack) where
  -- the bytes of a place
  abbrev pub PlaceAgrees : Place → Type 0
  PlaceAgrees place = (i : ℕ) → place_start zones place ≤ 0x80000000 + i → 0x80000000 + i < place_end zones place → ByteAgrees x.off_chip x.mirror attacks i

  pub tampered_is_attacked : (places : List Place) (place : Place) → x.zones ≡ zones → IsTampered x places place → PlaceAgrees place → IsAttackedPlace zones attacks place
  tampered_is_attacked places place same is agrees =
      let at = is.byte.index in
      let from : place_start zones place ≤ 0x80000000 + at = subst (λ n. place_start n place ≤ 0x80000000 + at) same is.byte.from in
      let to : 0x80000000 + at < place_end zones place = subst (λ n. 0x80000000 + at < place_end n place) same is.byte.to in
      record {
        exists = subst (λ n. Exists n place) same is.exists;
        attacked = elim (cases_Bool (is_attacked attacks at)) [
          | inl here ↦ any_weaker (covers at) (λ (attack : Attack). overlaps_place zones attack.address attack.length place) attacks (λ attack. covered zones at place attack from to) here
          | inr free ↦ absurd (is.byte.other (agrees at from to free))
        ];
      }

  -- ---- places whose bytes agree

  module _ (nodes : (i : ℕ) → 4096 * (64 * zones) ≤ i → ByteAgrees x.off_chip x.mirror attacks i) where
    node_agrees : (level zone index : ℕ) → PlaceAgrees (Node level zone index)
    node_agrees level zone index i from to = nodes i (omega arith)

    root_agrees : (level index : ℕ) → PlaceAgrees (RootNode level index)
    root_agrees level index i from to = nodes i (omega arith)

    block_agrees : (page block : ℕ) → block < 64 → PageAgrees x.off_chip x.mirror attacks page → PlaceAgrees (Block page block)
    block_agrees page block few whole i from to =
        let e : 4096 * page + (i - 4096 * page) ≡ i = omega arith in
        subst (λ n. ByteAgrees x.off_chip x.mirror attacks n) e (whole (i - 4096 * page) (omega arith))

    -- a place on the path of a page that agrees, or of the root table
    pub path_agrees : (page : ℕ) (place : Place) → Exists x.zones place → PageAgrees x.off_chip x.mirror attacks page
        → Contains (page_places page) place ⊎ (is_of_zone place ≡ false) → PlaceAgrees place
    path_agrees page (Node level zone index) exists whole on = node_agrees level zone index
    path_agrees page (RootNode level index) exists whole on = root_agrees level index
    path_agrees page (Block p block) exists whole (inl on) =
        block_agrees p block exists.1 (subst (PageAgrees x.off_chip x.mirror attacks) (sym (page_of_block page p block on)) whole)
    path_agrees page (Block p block) exists whole (inr root) = cc

    -- a place above a page that is replaced, or of the root table
    pub replaced_agrees : (page : ℕ) (place : Place) → Contains (replaced_places page) place ⊎ (is_of_zone place ≡ false) → PlaceAgrees place
    replaced_agrees page (Node level zone index) on = node_agrees level zone index
    replaced_agrees page (RootNode level index) on = root_agrees level index
    replaced_agrees page (Block p block) (inl on) = absurd (block_above page p block on)
    replaced_agrees page (Block p block) (inr root) = cc

    -- ---- the faults of accesses to a word, to a page that is replaced, and to the root table

    pub word_is_attacked : (page block : ℕ) (place : Place) → x.zones ≡ zones → block < 64 → PageAgrees x.off_chip x.mirror attacks page
        → IsTampered x (word_places page block) place → IsAttackedPlace zones attacks place
    word_is_attacked page block place same few whole is =
        tampered_is_attacked (word_places page block) place same is (path_agrees page place is.exists whole (by_word page block place few is.checked))

    pub replaced_is_attacked : (page : ℕ) (place : Place) → x.zones ≡ zones → IsTampered x (replaced_places page) place → IsAttackedPlace zones attacks place
    replaced_is_attacked page place same is = tampered_is_attacked (replaced_places page) place same is (replaced_agrees page place is.checked)

    pub root_is_attacked : (place : Place) → x.zones ≡ zones → IsTampered x [] place → IsAttackedPlace zones attacks place
    root_is_attacked place same is = replaced_is_attacked 0 place same (record {
      exists = is.exists;
      checked = root_checked place is.checked;
      first = λ of. let none = (is.first of).below in absurd (omega arith);
      differs = is.differs;
      byte = is.byte;
    })

-- ---- a collision

-- two unequal byte strings of one digest, at a place that was attacked
pub collision_of : (digest_of : List ℕ → List ℕ) (zones : ℕ) (attacks : List Attack) (x : CtlData) (places : List Place) (place : Place) (held written : List ℕ)
    → CollidesIn digest_of x places place held written → IsAttackedPlace zones attacks place
    → IsCollision digest_of zones attacks (record { place = place; held = held; written = written })
collision_of digest_of zones attacks x places place held written is attacked = record {
  unequal = is.differ;
  one_digest = is.one_digest;
  few = is.held_size;
  as_few = is.written_size;
  place = attacked;
}

-- ---- the pages that the making or a run of a number reads and writes

module _ (setup : SetupParts) (s : Monitor) (e : ℕ) where
  -- its own
  pub own_concerned : (page : ℕ) → Contains (s.number e).pages page → Contains (number_pages setup s e) page
  own_concerned page here =
      let n : Number = s.number e in
      Contains-append_right (number_tables setup.tables e) (pages_taken n ++ parent_pages s n.parent) page
      (Contains-append_left (pages_taken n) (parent_pages s n.parent) page (Contains-append_left n.pages n.spares page here))

  -- and its tables
  among_tables : (level : ℕ) → level < 3 → Contains (number_tables setup.tables e) (table_number setup.tables e level)
  among_tables zero low = (2, omega arith, refl)
  among_tables (suc zero) low = (1, omega arith, refl)
  among_tables (suc (suc zero)) low = (0, omega arith, refl)
  among_tables (suc (suc (suc n))) low = absurd (omega arith)

  pub table_concerned : (level : ℕ) → level < 3 → Contains (number_pages setup s e) (table_number setup.tables e level)
  table_concerned level low = Contains-append_left (number_tables setup.tables e) (pages_taken (s.number e) ++ parent_pages s (s.number e).parent) (table_number setup.tables e level) (among_tables level low)
