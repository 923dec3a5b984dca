-- The bytes of each step, and the tables that they come to.
use Rattle.std.proofs.Common.{ℕ, ◌≡◌, ◌+◌, ◌-◌, ◌*◌, ◌/◌, ◌%◌, ◌<◌, ◌≤◌, zero, suc, eqb, IsTrue, List, [], ◌∷◌, ◌++◌, length, map, replicate, All, refl, ap, sym, subst, ◌∙◌, arith, inl, inr}
use Rattle.std.specs.List.{zip, slice_get}
use Rattle.std.specs.Option.{option_map_or}
use Rattle.std.proofs.lemmas.Bool.{cases_Bool, cases_lt, cond-true, cond-false}
use Rattle.std.proofs.lemmas.List.{length-append, length-map, length-replicate}
use Rattle.std.proofs.lemmas.List.Elements.{All-append, All-cons, All-head, All-map, All-nil, All-replicate, All-tail, All-weaker}
use Rattle.std.proofs.lemmas.Slice.Zip.{length-zip}
use Rattle.byteorder.specs.Endian.{little_number}
use Rattle.pl_base.specs.Bytes.{bytes_at}
use Rattle.pl_base.specs.Perms.{are_page_perms, grants}
use Rattle.pl_base.specs.declared.access.Kind.TheVariants.{Store}
use Rattle.mon_image.specs.declared.image.Image.{Image}
use Rattle.mon_image.specs.declared.page.ImagePage.{ImagePage}
use Rattle.mon_tables.specs.declared.number_tables.Leaf.{Leaf}
use Rattle.mon_tables.specs.Space.{first_vpn}
use Rattle.mon_tables.specs.SpaceWalks.{IsMappable, NumberTables, NumberTablesWalk, leaf_mappings, word_address}
use Rattle.mon_tables.specs.Tables.{leaf_of, leaf_words, number_table_bytes, pointing_words, table_number, table_words}
use Rattle.mon_tables.specs.Words.{dirty_bit}
use Rattle.mon_enclave.specs.declared.enclave.PageKind.{PageKind}
use Rattle.mon_enclave.specs.declared.enclave.PageKind.TheVariants.{Own, Shared}
use Rattle.mon_enclave.specs.Records.{page_number_of}
use Rattle.mon_life.specs.Pages.{PagePut, leaf_for, leaves_of, page_put_at}
use Rattle.mon_life.specs.Laws.{IsMaking, StepsAreWhole, StepsStand, TablesWalk, word_in}
use Rattle.mon_life.proofs.LeafLemmas.{four_perms, leaf_perms, pair_leaf}
use Rattle.mon_life.proofs.StepLemmas.{image_stands, tables_stand}
use Rattle.mon_life.proofs.WordsInBytes.{FitsWord, length-words, word_of_words}

-- ---- how long they are

pub leaves_count : (kinds : List PageKind) (image : List ImagePage) → length kinds ≡ length image → length (leaves_of kinds image) ≡ length image
unfolding leaves_of
leaves_count kinds image count = length-map (zip kinds image) pair_leaf ∙ (length-zip kinds image ∙ omega arith)

leaf_words-long : (leaves : List Leaf) → length leaves ≤ 256 → length (leaf_words leaves) ≡ 512
unfolding leaf_words
leaf_words-long leaves few = simp (length-append, length-map, length-replicate) (omega arith)

pointing_words-long : (page : ℕ) → length (pointing_words page) ≡ 512
unfolding pointing_words
pointing_words-long page = refl

table_words-long : (tables e level : ℕ) (leaves : List Leaf) → length leaves ≤ 256 → length (table_words tables e level leaves) ≡ 512
table_words-long tables e level leaves few = elim (cases_Bool (eqb level 0)) [
  | inl last ↦ ap length (cond-true _ _ _ last) ∙ leaf_words-long leaves few
  | inr above ↦ ap length (cond-false _ _ _ above) ∙ pointing_words-long (table_number tables e (level - 1))
]

image_page-long : (image : List ImagePage) (i : ℕ) → i < length image → All (λ (page : ImagePage). length page.bytes ≡ 4096) image
    → length (option_map_or (λ (page : ImagePage). page.bytes) (slice_get image i) []) ≡ 4096
image_page-long [] i within whole = absurd (omega arith)
image_page-long (page ∷ pages) zero within whole = All-head (λ (p : ImagePage). length p.bytes ≡ 4096) page pages whole
image_page-long (page ∷ pages) (suc i) within whole = image_page-long pages i (omega arith) (All-tail (λ (p : ImagePage). length p.bytes ≡ 4096) page pages whole)

pub steps_are_whole : StepsAreWhole
steps_are_whole tables numbers e all_pages image kinds at making whole = elim (cases_lt at (length image.pages)) [
  | inl below ↦ ap (λ (put : PagePut). length put.bytes) (image_stands tables e image kinds at below) ∙ image_page-long image.pages at below whole
  | inr past ↦
      let leaves : List Leaf = leaves_of kinds image.pages in
      let level : ℕ = 2 - (at - length image.pages) in
      let few : length leaves ≤ 256 = omega (arith, leaves_count kinds image.pages making.count, making.few) in
      ap (λ (put : PagePut). length put.bytes) (tables_stand tables e image kinds at past)
      ∙ (length-words (table_words tables e level leaves) ∙ ap (λ n. 8 * n) (table_words-long tables e level leaves few))
]

-- ---- what leaves have

-- permissions that a page may have, and a page that is there
record IsFit (leaf : Leaf) : Type 0 where
  perms : IsTrue (are_page_perms leaf.perms)
  page : leaf.page < 4096

leaf_page : (kind : PageKind) (perms : _) → (leaf_for kind perms).page ≡ page_number_of kind
leaf_page (Own page) perms = refl
leaf_page (Shared page) perms = refl

pairs_fit : (kinds : List PageKind) (image : List ImagePage) → All (λ (page : ImagePage). IsTrue (are_page_perms page.perms)) image
    → All (λ (kind : PageKind). page_number_of kind < 4096) kinds → All IsFit (map pair_leaf (zip kinds image))
pairs_fit [] image perms pages = All-nil IsFit
pairs_fit (kind ∷ kinds) [] perms pages = All-nil IsFit
pairs_fit (kind ∷ kinds) (page ∷ image) perms pages =
    let here : page_number_of kind < 4096 = All-head (λ (k : PageKind). page_number_of k < 4096) kind kinds pages in
    let fit : IsFit (leaf_for kind page.perms) = record {
      perms = leaf_perms kind page.perms (All-head (λ (p : ImagePage). IsTrue (are_page_perms p.perms)) page image perms);
      page = subst (λ n. n < 4096) (sym (leaf_page kind page.perms)) here;
    } in
    All-cons IsFit (leaf_for kind page.perms) (map pair_leaf (zip kinds image)) fit
    (pairs_fit kinds image (All-tail (λ (p : ImagePage). IsTrue (are_page_perms p.perms)) page image perms) (All-tail (λ (k : PageKind). page_number_of k < 4096) kind kinds pages))

leaves_fit : (kinds : List PageKind) (image : List ImagePage) → All (λ (page : ImagePage). IsTrue (are_page_perms page.perms)) image
    → All (λ (kind : PageKind). page_number_of kind < 4096) kinds → All IsFit (leaves_of kinds image)
unfolding leaves_of
leaves_fit kinds image perms pages = pairs_fit kinds image perms pages

mappings_fit : (leaves : List Leaf) (vpn : ℕ) → All IsFit leaves → All IsMappable (leaf_mappings vpn leaves)
mappings_fit [] vpn fit = All-nil IsMappable
mappings_fit (leaf ∷ leaves) vpn fit =
    let here = All-head IsFit leaf leaves fit in
    let below = here.page in
    All-cons IsMappable (record { vpn = vpn; page = leaf.page; perms = leaf.perms }) (leaf_mappings (vpn + 1) leaves)
    (record { perms = here.perms; page = omega arith }) (mappings_fit leaves (vpn + 1) (All-tail IsFit leaf leaves fit))

-- ---- their words

leaf_word-fits : (leaf : Leaf) → IsFit leaf → FitsWord (leaf_of leaf)
leaf_word-fits leaf fit =
    let below = fit.page in
    let few = four_perms leaf.perms.0 fit.perms in
    let small : leaf.perms.0 ≤ 7 = grind arith in
    elim (cases_Bool (grants leaf.perms Store)) [
      | inl written ↦ let dirty : dirty_bit leaf.perms ≡ 128 = cond-true _ _ _ written in omega arith
      | inr unwritten ↦ let dirty : dirty_bit leaf.perms ≡ 0 = cond-false _ _ _ unwritten in omega arith
    ]

leaf_words-fit : (leaves : List Leaf) → All IsFit leaves → All FitsWord (leaf_words leaves)
unfolding leaf_words
leaf_words-fit leaves fit =
    All-append FitsWord (replicate 16 0) (map leaf_of leaves ++ replicate (496 - length leaves) 0) (All-replicate FitsWord 16 0 (omega arith))
    (All-append FitsWord (map leaf_of leaves) (replicate (496 - length leaves) 0) (All-map FitsWord leaf_of leaves (All-weaker IsFit (λ leaf. FitsWord (leaf_of leaf)) leaf_word-fits leaves fit))
    (All-replicate FitsWord (496 - length leaves) 0 (omega arith)))

pointing_words-fit : (page : ℕ) → page < 4096 → All FitsWord (pointing_words page)
unfolding pointing_words
pointing_words-fit page below = All-cons FitsWord _ (replicate 511 0) (omega arith) (All-replicate FitsWord 511 0 (omega arith))

table_words-fit : (tables e level : ℕ) (leaves : List Leaf) → tables ≤ 32 → e < 64 → All IsFit leaves → All FitsWord (table_words tables e level leaves)
table_words-fit tables e level leaves low number fit = elim (cases_Bool (eqb level 0)) [
  | inl last ↦ subst (All FitsWord) (sym (cond-true _ _ _ last)) (leaf_words-fit leaves fit)
  | inr above ↦ subst (All FitsWord) (sym (cond-false _ _ _ above)) (pointing_words-fit (table_number tables e (level - 1)) (omega arith))
]

-- ---- the tables

-- word k of a page stands at its address
word_at_page : (bytes_of : ℕ → List ℕ) (page k : ℕ) → k < 512 → word_in bytes_of (word_address page k) ≡ little_number 8 (bytes_at (bytes_of page) (8 * k) 8)
word_at_page bytes_of page k small =
    let at_page : word_address page k / 4096 - 0x80000 ≡ page = omega arith in
    let at_byte : word_address page k % 4096 ≡ 8 * k = omega arith in
    ap (λ p. little_number 8 (bytes_at (bytes_of p) (word_address page k % 4096) 8)) at_page ∙ ap (λ b. little_number 8 (bytes_at (bytes_of page) b 8)) at_byte

-- the table of a level stands in its page
table_stands : (tables e : ℕ) (image : Image) (kinds : List PageKind) (bytes_of : ℕ → List ℕ) (level : ℕ) → level < 3
    → StepsStand tables e image kinds bytes_of (length image.pages) (length image.pages + 3)
    → bytes_of (table_number tables e level) ≡ number_table_bytes tables e level (leaves_of kinds image.pages)
table_stands tables e image kinds bytes_of level small stand =
    let n : ℕ = length image.pages in
    let at : ℕ = n + (2 - level) in
    let leaves : List Leaf = leaves_of kinds image.pages in
    let level_is : 2 - (at - n) ≡ level = omega arith in
    let put_is = tables_stand tables e image kinds at (omega arith) in
    let stands = stand at (omega arith) (omega arith) in
    let page_is : (page_put_at tables e image kinds at).page ≡ table_number tables e level =
    ap (λ (put : PagePut). put.page) put_is ∙ ap (λ l. table_number tables e l) level_is in
    let bytes_are : (page_put_at tables e image kinds at).bytes ≡ number_table_bytes tables e level leaves =
    ap (λ (put : PagePut). put.bytes) put_is ∙ ap (λ l. number_table_bytes tables e l leaves) level_is in
    ap bytes_of (sym page_is) ∙ stands ∙ bytes_are

module _ (tables numbers e all_pages : ℕ) (image : Image) (kinds : List PageKind) (making : IsMaking tables numbers e all_pages image kinds) where
  abbrev leaves : List Leaf
  leaves = leaves_of kinds image.pages

  number : e < 64
  number = omega (arith, making.number, making.few_numbers)

  pub few_leaves : length leaves ≤ 256
  few_leaves = omega (arith, leaves_count kinds image.pages making.count, making.few)

  fit : All IsFit leaves
  fit =
      let Below : PageKind → Type 0 = λ (kind : PageKind). page_number_of kind < all_pages in
      let Small : PageKind → Type 0 = λ (kind : PageKind). page_number_of kind < 4096 in
      let most = making.few_pages in
      leaves_fit kinds image.pages making.perms (All-weaker Below Small (λ kind below. omega arith) kinds making.below)

  pub leaves_mappable : All IsMappable (leaf_mappings first_vpn leaves)
  leaves_mappable = mappings_fit leaves first_vpn fit

  -- where the last three steps stand, the pages have the words of the number's tables
  pub put_tables : (bytes_of : ℕ → List ℕ) → StepsStand tables e image kinds bytes_of (length image.pages) (length image.pages + 3) → NumberTables tables e (word_in bytes_of) leaves
  put_tables bytes_of stand level k small within =
      let bytes = table_stands tables e image kinds bytes_of level small stand in
      let long = table_words-long tables e level leaves few_leaves in
      word_at_page bytes_of (table_number tables e level) k within
      ∙ ap (λ b. little_number 8 (bytes_at b (8 * k) 8)) bytes
      ∙ word_of_words (table_words tables e level leaves) k (omega arith) (table_words-fit tables e level leaves making.few_tables number fit)

pub tables_walk : NumberTablesWalk → TablesWalk
tables_walk walk tables numbers e all_pages image kinds bytes_of making stand =
    walk tables e (word_in bytes_of) (leaves_of kinds image.pages) making.few_tables (omega (arith, making.number, making.few_numbers))
    (few_leaves tables numbers e all_pages image kinds making) (leaves_mappable tables numbers e all_pages image kinds making)
    (put_tables tables numbers e all_pages image kinds making bytes_of stand)
