-- Each step of making a number puts 4,096 bytes into a page of the number, and each another one.
use Rattle.std.proofs.Common.{◌≡◌, ◌≢◌, ℕ, zero, suc, ◌+◌, ◌-◌, ◌*◌, ◌<◌, ◌≤◌, ◌⊎◌, eqb, ltb, if◌then◌else◌, List, [], ◌∷◌, ◌++◌, length, map, get_or, replicate, slice_get, option_map, refl, sym, ap, ◌∙◌, subst, arith, inl, inr, length-append, None, Some}
use Rattle.std.specs.Prelude.{Contains}
use Rattle.std.specs.List.{flat_map, zip}
use Rattle.std.specs.Option.{option_map_or}
use Rattle.std.proofs.lemmas.Bool.{cases_Bool, ltb-true, ltb-false}
use Rattle.std.proofs.lemmas.List.{length-map, length-replicate}
use Rattle.std.proofs.lemmas.List.Elements.{Contains-get_or}
use Rattle.std.proofs.lemmas.Option.{slice_get-get_or, slice_get_within}
use Rattle.byteorder.specs.Endian.{little_bytes}
use Rattle.byteorder.specs.Numbers.{length-bytes_low_first}
use Rattle.pl_base.specs.Pages.{first_twice}
use Rattle.mon_enclave.specs.declared.enclave.PageKind.{PageKind}
use Rattle.mon_enclave.specs.Records.{page_number_of}
use Rattle.mon_image.specs.declared.image.Image.{Image}
use Rattle.mon_image.specs.declared.page.ImagePage.{ImagePage}
use Rattle.mon_life.specs.Pages.{PagePut, leaf_for, leaves_of, page_put_at}
use Rattle.mon_owner.specs.declared.owners.Owner.{Owner}
use Rattle.mon_owner.specs.declared.owners.Owner.TheVariants.{Guard}
use Rattle.mon_tables.specs.declared.number_tables.Leaf.{Leaf}
use Rattle.mon_tables.specs.Space.{first_vpn}
use Rattle.mon_tables.specs.Tables.{leaf_of, leaf_words, number_table_bytes, pointing_words, table_number, table_words}
use Rattle.pl_history.specs.Monitor as monitor
use Rattle.world_machine.specs.EnclavesAgree.{IsOwn}
use Rattle.world_machine.specs.Pages.{numbers_of}
use Rattle.world_machine.specs.RecordsAgree.{owner_of}
use Rattle.pl_base.proofs.DistinctPages.{stands_once}
use Rattle.mon_life.proofs.StepLemmas.{image_stands, tables_stand}
use Rattle.world_machine.proofs.PutPages.{image_page}

words_size : (words : List ℕ) → length (flat_map (little_bytes 8) words) ≡ 8 * length words
words_size [] = refl
words_size (word ∷ words) =
    length-append (little_bytes 8 word) (flat_map (little_bytes 8) words)
    ∙ (let one : length (little_bytes 8 word) ≡ 8 = length-bytes_low_first 0 8 word in let rest = words_size words in omega arith)

zeros_size : (n : ℕ) → length (replicate {A = ℕ} n 0) ≡ n
zeros_size n = length-replicate n 0

pointing_size : (page : ℕ) → length (pointing_words page) ≡ 512
unfolding pointing_words
pointing_size page = ap suc (zeros_size 511)

leaf_size : (leaves : List Leaf) → length leaves ≤ 496 → length (leaf_words leaves) ≡ 512
unfolding leaf_words
leaf_size leaves few =
    let zeros : List ℕ = replicate (496 - length leaves) 0 in
    length-append (replicate first_vpn 0) (map leaf_of leaves ++ zeros)
    ∙ ap (λ n. n + length (map leaf_of leaves ++ zeros)) (zeros_size first_vpn)
    ∙ ap (λ n. first_vpn + n) (length-append (map leaf_of leaves) zeros ∙ ap (λ n. n + length zeros) (length-map leaves leaf_of) ∙ ap (λ n. length leaves + n) (zeros_size (496 - length leaves)))
    ∙ (omega arith)

table_size : (tables e level : ℕ) (leaves : List Leaf) → length leaves ≤ 496 → length (table_words tables e level leaves) ≡ 512
table_size tables e level leaves few = elim (cases_Bool (eqb level 0)) [
  | inl last ↦ ap (λ b. length (if b then leaf_words leaves else pointing_words (table_number tables e (level - 1)))) last ∙ leaf_size leaves few
  | inr upper ↦ ap (λ b. length (if b then leaf_words leaves else pointing_words (table_number tables e (level - 1)))) upper ∙ pointing_size (table_number tables e (level - 1))
]

table_bytes_size : (tables e level : ℕ) (leaves : List Leaf) → length leaves ≤ 496 → length (number_table_bytes tables e level leaves) ≡ 4096
table_bytes_size tables e level leaves few = words_size (table_words tables e level leaves) ∙ ap (λ n. 8 * n) (table_size tables e level leaves few)

zip_few : (kinds : List PageKind) (pages : List ImagePage) → length (zip kinds pages) ≤ length pages
zip_few [] pages = omega arith
zip_few (kind ∷ kinds) [] = omega arith
zip_few (kind ∷ kinds) (page ∷ pages) = let rest = zip_few kinds pages in omega arith

pub leaves_few : (kinds : List PageKind) (pages : List ImagePage) → length (leaves_of kinds pages) ≤ length pages
unfolding leaves_of
leaves_few kinds pages = subst (λ n. n ≤ length pages) (sym (length-map (zip kinds pages) (λ (p : PageKind × ImagePage). leaf_for p.0 p.1.perms))) (zip_few kinds pages)

pub stands_at : {A : Type 0} (xs : List A) (i : ℕ) → i < length xs → (x : A) × (slice_get xs i ≡ Some x)
stands_at [] i below = absurd (omega arith)
stands_at (x ∷ xs) zero below = (x, refl)
stands_at (x ∷ xs) (suc i) below = stands_at xs i (omega arith)

module _ (tables e : ℕ) (image : Image) (kinds : List PageKind) where
  abbrev put : ℕ → PagePut
  put = page_put_at tables e image kinds

  -- every page that is put has 4,096 bytes
  pub put_size : (at : ℕ) → length image.pages ≤ 256 → ((i : ℕ) (page : ImagePage) → slice_get image.pages i ≡ Some page → length page.bytes ≡ 4096) → length (put at).bytes ≡ 4096
  put_size at few each = elim (cases_Bool (ltb at (length image.pages))) [
    | inl within ↦
        let below : at < length image.pages = ltb-true at (length image.pages) within in
        let here = stands_at image.pages at below in
        ap (λ (p : PagePut). length p.bytes) (image_stands tables e image kinds at below)
        ∙ ap (λ o. length (option_map_or (λ (page : ImagePage). page.bytes) o [])) here.1 ∙ each at here.0 here.1
    | inr past ↦
        let beyond : length image.pages ≤ at = ltb-false at (length image.pages) past in
        let all = leaves_few kinds image.pages in
        ap (λ (p : PagePut). length p.bytes) (tables_stand tables e image kinds at beyond)
        ∙ table_bytes_size tables e (2 - (at - length image.pages)) (leaves_of kinds image.pages) (omega arith)
  ]

  -- a page of the image has its bytes
  pub put_image_bytes : (at : ℕ) (page : ImagePage) → slice_get image.pages at ≡ Some page → (put at).bytes ≡ page.bytes
  put_image_bytes at page here =
      ap (λ (p : PagePut). p.bytes) (image_stands tables e image kinds at (slice_get_within image.pages at page here))
      ∙ ap (λ o. option_map_or (λ (page : ImagePage). page.bytes) o []) here

  module _ (as_many : length kinds ≡ length image.pages) where
    -- and is put into the number's page of its place
    pub own_put : (at : ℕ) → at < length image.pages → (put at).page ≡ get_or (numbers_of kinds) at 0
    own_put at below = ap (λ (p : PagePut). p.page) (image_stands tables e image kinds at below) ∙ image_page tables e image kinds at (omega arith)

    table_put_at : (at : ℕ) → length image.pages ≤ at → (put at).page ≡ table_number tables e (2 - (at - length image.pages))
    table_put_at at beyond = ap (λ (p : PagePut). p.page) (tables_stand tables e image kinds at beyond)

    pub own_size : length (numbers_of kinds) ≡ length image.pages
    own_size = length-map kinds page_number_of ∙ as_many

    -- which is one of the number's pages, or one of its tables
    pub put_among : (at : ℕ) → at < length image.pages + 3 → Contains (numbers_of kinds) (put at).page ⊎ ((level : ℕ) × (level < 3) × ((put at).page ≡ table_number tables e level))
    put_among at few = elim (cases_Bool (ltb at (length image.pages))) [
      | inl within ↦
          let below : at < length image.pages = ltb-true at (length image.pages) within in
          inl (subst (Contains (numbers_of kinds)) (sym (own_put at below)) (Contains-get_or (numbers_of kinds) at 0 (subst (λ n. at < n) (sym own_size) below)))
      | inr past ↦ inr (2 - (at - length image.pages), omega arith, table_put_at at (ltb-false at (length image.pages) past))
    ]

    -- the steps from this one on put pages of the number: of the image, the number's own, or its tables
    module _ (owners : List Owner) (first : ℕ) (owned : (at : ℕ) → first ≤ at → at < length image.pages → IsOwn owners e (put at).page) where
      pub put_of_number : (at : ℕ) → first ≤ at → at < length image.pages + 3
          → IsOwn owners e (put at).page ⊎ ((level : ℕ) × (level < 3) × ((put at).page ≡ table_number tables e level))
      put_of_number at from few = elim (cases_Bool (ltb at (length image.pages))) [
        | inl within ↦ inl (owned at from (ltb-true at (length image.pages) within))
        | inr past ↦ inr (2 - (at - length image.pages), omega arith, table_put_at at (ltb-false at (length image.pages) past))
      ]

      module _ (guarded : (level : ℕ) → slice_get owners (table_number tables e level) ≡ Some Guard) (apart : first_twice (numbers_of kinds) ≡ None) where
        own_apart : (at later : ℕ) → at < length image.pages → later < length image.pages → (put at).page ≡ (put later).page → at ≡ later
        own_apart at later below also same =
            let size : length (numbers_of kinds) ≡ length image.pages = own_size in
            let here : slice_get (numbers_of kinds) at ≡ Some (get_or (numbers_of kinds) at 0) = slice_get-get_or (numbers_of kinds) at 0 (omega arith) in
            let there : slice_get (numbers_of kinds) later ≡ Some (get_or (numbers_of kinds) later 0) = slice_get-get_or (numbers_of kinds) later 0 (omega arith) in
            stands_once (numbers_of kinds) apart at later (get_or (numbers_of kinds) at 0) here
            (there ∙ ap Some (sym (own_put later also) ∙ sym same ∙ own_put at below))

        own_or_table : (at later : ℕ) → first ≤ at → at < length image.pages → length image.pages ≤ later → (put at).page ≢ (put later).page
        own_or_table at later from below beyond same =
            let guarded_here : option_map owner_of (slice_get owners (put at).page) ≡ Some monitor.guard
            = ap (λ page. option_map owner_of (slice_get owners page)) (same ∙ table_put_at later beyond) ∙ ap (option_map owner_of) (guarded (2 - (later - length image.pages))) in
            let clash : Some (monitor.number e) ≡ Some monitor.guard = sym (owned at from below) ∙ guarded_here in
            cc

        tables_differ : (at later : ℕ) → length image.pages ≤ at → at < later → later < length image.pages + 3 → (put at).page ≢ (put later).page
        tables_differ at later beyond before few same =
            let both : table_number tables e (2 - (at - length image.pages)) ≡ table_number tables e (2 - (later - length image.pages))
            = sym (table_put_at at beyond) ∙ same ∙ table_put_at later (omega arith) in
            absurd (omega arith)

        -- an earlier step puts another page
        pub puts_apart : (at later : ℕ) → first ≤ at → at < later → later < length image.pages + 3 → (put at).page ≢ (put later).page
        puts_apart at later from before few same = elim (cases_Bool (ltb at (length image.pages))) [
          | inl within ↦
              let below : at < length image.pages = ltb-true at (length image.pages) within in
              elim (cases_Bool (ltb later (length image.pages))) [
                | inl too ↦ (let is : at ≡ later = own_apart at later below (ltb-true later (length image.pages) too) same in absurd (omega arith))
                | inr past ↦ own_or_table at later from below (ltb-false later (length image.pages) past) same
              ]
          | inr past ↦ tables_differ at later (ltb-false at (length image.pages) past) before few same
        ]
