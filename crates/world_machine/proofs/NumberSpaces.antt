-- The space of a live enclave number: its mappings are the leaves of its record's pages, and lead each access to the page that it reaches.
use Rattle.std.proofs.Common.{◌≡◌, ℕ, zero, suc, ◌+◌, ◌-◌, ◌/◌, ◌^◌, ◌<◌, ◌≤◌, ◌==◌, leb, eqb, Bool, true, false, cond, List, [], ◌∷◌, length, map, slice_get, Option, Some, None, refl, sym, ap, ◌∙◌, subst, arith, inl, inr, ◌≢◌}
use Rattle.std.specs.Option.{option_and_then}
use Rattle.std.specs.Prelude.{zip}
use Rattle.std.proofs.lemmas.Bool.{cases_Bool, eqb-true, leb-false, leb-true}
use Rattle.std.proofs.lemmas.Bool.Decides.{nat_tests}
use Rattle.std.proofs.lemmas.Nat.{and_assoc}
use Rattle.std.proofs.lemmas.Option.{slice_get_past}
use Rattle.pl_base.specs.Address.{vpn_of}
use Rattle.pl_base.specs.declared.access.Kind.{Kind}
use Rattle.pl_base.specs.declared.access.Kind.TheVariants as kind
use Rattle.pl_base.specs.declared.address.Va.{Va}
use Rattle.pl_base.specs.declared.page.TheConstants.{IMAGE_START}
use Rattle.pl_base.specs.declared.perms.Perms.{Perms}
use Rattle.rv_alone.specs.Flat.{page_number}
use Rattle.rv_sv39.specs.Canonical.{is_canonical}
use Rattle.mon_enclave.specs.declared.enclave.Enclave.{Enclave}
use Rattle.mon_enclave.specs.declared.enclave.PageKind.{PageKind}
use Rattle.mon_enclave.specs.declared.enclave.PageKind.TheVariants.{Own, Shared}
use Rattle.mon_image.specs.declared.image.Image.{Image}
use Rattle.mon_image.specs.declared.page.ImagePage.{ImagePage}
use Rattle.mon_life.specs.Pages.{leaf_for, leaves_of}
use Rattle.mon_owner.specs.declared.owners.Owner.{Owner}
use Rattle.mon_tables.specs.declared.number_tables.Leaf.{Leaf}
use Rattle.mon_tables.specs.Space.{Mapping, first_vpn, mapping_at, without_write}
use Rattle.mon_tables.specs.SpaceWalks.{leaf_mappings}
use Rattle.mon_tables.proofs.Mappings.{leaf_mappings-before}
use Rattle.pl_history.specs.declared.setup.SetupParts.{SetupParts}
use Rattle.pl_history.specs.Monitor.{Number}
use Rattle.pl_history.specs.Rules.{IsSetup}
use Rattle.world_machine.specs.EnclavesAgree.{EnclaveStands}
use Rattle.world_machine.specs.Making.{image_of}
use Rattle.world_machine.specs.Pages.{page_for, reached, served}
use Rattle.world_machine.proofs.LiveEnclaves.{image_found}
use Rattle.world_machine.proofs.MappingTranslations.{page_granted}
use Rattle.world_machine.proofs.SetupFacts.{image_few}
use Rattle.world_machine.specs.TranslationsAgree.{space_of}
use Rattle.pl_base.specs.Perms.{grants}
use Rattle.std.specs.Int.Bits.{and_zero_r}

-- the leaf of a page of the image
abbrev leaf_of_pair : PageKind × ImagePage → Leaf
leaf_of_pair p = leaf_for p.0 p.1.perms

leaves_are : (kinds : List PageKind) (image : List ImagePage) → leaves_of kinds image ≡ map leaf_of_pair (zip kinds image)
unfolding leaves_of
leaves_are kinds image = refl

-- ---- what a leaf grants

-- permissions without W grant what they granted, but no store
without_write_grants : (perms : Perms) (k : Kind) → k ≢ kind.Store → grants (without_write perms) k ≡ grants perms k
without_write_grants perms kind.Fetch other = ap (λ bits. bits == 4) (and_assoc 4 perms.0 5)
without_write_grants perms kind.Load other = ap (λ bits. bits == 1) (and_assoc 1 perms.0 5)
without_write_grants perms kind.Store other = absurd (other refl)

without_write_no_store : (perms : Perms) → grants (without_write perms) kind.Store ≡ false
without_write_no_store perms = ap (λ bits. bits == 2) (and_assoc 2 perms.0 5 ∙ and_zero_r perms.0)

nothing_through : (g : Bool) → None ≡ cond {A = Option ℕ} g None None
nothing_through true = refl
nothing_through false = refl

-- the page that a leaf lets an access through to is the one that serves it
granted_here : (k : Kind) (vpn : ℕ) (x : PageKind) (page : ImagePage)
    → page_granted k (Some (record { vpn = vpn; page = (leaf_for x page.perms).page; perms = (leaf_for x page.perms).perms })) ≡ page_for k (Some page) (served k x)
granted_here kind.Fetch vpn (Own x) page = refl
granted_here kind.Load vpn (Own x) page = refl
granted_here kind.Store vpn (Own x) page = refl
granted_here kind.Fetch vpn (Shared x) page = ap (λ g. cond g (Some x) None) (without_write_grants page.perms kind.Fetch (λ same. (let h : ⊥ = cc in h)))
granted_here kind.Load vpn (Shared x) page = ap (λ g. cond g (Some x) None) (without_write_grants page.perms kind.Load (λ same. (let h : ⊥ = cc in h)))
granted_here kind.Store vpn (Shared x) page = ap (λ g. cond g (Some x) None) (without_write_no_store page.perms) ∙ nothing_through (grants page.perms kind.Store)

-- ---- the mapping of an address

-- from page `at` of the image on
granted_from : (k : Kind) (image : List ImagePage) (kinds : List PageKind) (vpn i : ℕ) → length kinds ≡ length image
    → page_granted k (mapping_at (leaf_mappings vpn (map leaf_of_pair (zip kinds image))) (vpn + i)) ≡ page_for k (slice_get image i) (option_and_then (served k) (slice_get kinds i))
granted_from k [] [] vpn i count = refl
granted_from k [] (x ∷ xs) vpn i count = absurd (omega arith)
granted_from k (page ∷ image) [] vpn i count = absurd (omega arith)
granted_from k (page ∷ image) (x ∷ xs) vpn zero count =
    let here : eqb vpn (vpn + 0) ≡ true = grind (arith, nat_tests) in rw here (granted_here k vpn x page)
granted_from k (page ∷ image) (x ∷ xs) vpn (suc i) count =
    let other : eqb vpn (vpn + suc i) ≡ false = grind (arith, nat_tests) in
    let next : vpn + 1 + i ≡ vpn + suc i = omega arith in
    rw other (subst (λ v. page_granted k (mapping_at (leaf_mappings (vpn + 1) (map leaf_of_pair (zip xs image))) v) ≡ page_for k (slice_get image i) (option_and_then (served k) (slice_get xs i))) next
    (granted_from k image xs (vpn + 1) i (omega (arith, count))))

page_past : (k : Kind) (image : List ImagePage) (kinds : List PageKind) (i : ℕ) → length image ≤ i → page_for k (slice_get image i) (option_and_then (served k) (slice_get kinds i)) ≡ None
page_past k image kinds i past = ap (λ o. page_for k o (option_and_then (served k) (slice_get kinds i))) (slice_get_past image i past)

module _ (k : Kind) (image : List ImagePage) (kinds : List PageKind) (few : length image ≤ 256) (count : length kinds ≡ length image) where
  abbrev reached_below : Bool → ℕ → Option ℕ
  reached_below t i = cond t (page_for k (slice_get image i) (option_and_then (served k) (slice_get kinds i))) None

  past_reached : (t : Bool) (i : ℕ) → length image ≤ i → reached_below t i ≡ None
  past_reached true i past = page_past k image kinds i past
  past_reached false i past = refl

  -- an address that isn't canonical isn't reached
  pub far_unreached : (va : ℕ) → is_canonical va ≡ false → reached k image kinds va ≡ None
  far_unreached va far = past_reached (leb IMAGE_START va) (page_number va) (let high : 2 ^ 38 ≤ va = grind (arith, nat_tests) in omega (arith, high, few))

  abbrev space : List Mapping
  space = leaf_mappings first_vpn (map leaf_of_pair (zip kinds image))

  low_granted : (va : Va) (t : Bool) → va.0 < 2 ^ 38 → leb IMAGE_START va.0 ≡ t → reached_below t (page_number va.0) ≡ page_granted k (mapping_at space (vpn_of va).0)
  low_granted va true low above =
      let from : 65536 ≤ va.0 = leb-true IMAGE_START va.0 above in
      let vpn_is : first_vpn + page_number va.0 ≡ (vpn_of va).0 = omega (arith, from, low) in
      sym (ap (λ v. page_granted k (mapping_at space v)) (sym vpn_is) ∙ granted_from k image kinds first_vpn (page_number va.0) count)
  low_granted va false low under =
      let before : va.0 < 65536 = leb-false IMAGE_START va.0 under in
      sym (ap (page_granted k) (leaf_mappings-before (map leaf_of_pair (zip kinds image)) first_vpn (vpn_of va).0 (omega (arith, before))))

  high_granted : (va : Va) → va.0 / 2 ^ 38 ≡ 2 ^ 26 - 1 → reached k image kinds va.0 ≡ page_granted k (mapping_at space (vpn_of va).0)
  high_granted va high =
      let at : ℕ = (vpn_of va).0 - 16 in
      let vpn_is : first_vpn + at ≡ (vpn_of va).0 = omega (arith, high) in
      past_reached (leb IMAGE_START va.0) (page_number va.0) (omega (arith, high, few))
      ∙ sym (ap (λ v. page_granted k (mapping_at space v)) (sym vpn_is) ∙ granted_from k image kinds first_vpn at count ∙ page_past k image kinds at (omega (arith, high, few)))

  -- a canonical one is reached where it is mapped
  pub reached_granted : (va : Va) → is_canonical va.0 ≡ true → reached k image kinds va.0 ≡ page_granted k (mapping_at space (vpn_of va).0)
  reached_granted va canonical = elim (cases_Bool (va.0 / 2 ^ 38 == 0)) [
    | inl low ↦ low_granted va (leb IMAGE_START va.0) (let is : va.0 / 2 ^ 38 ≡ 0 = eqb-true (va.0 / 2 ^ 38) 0 low in omega (arith, is)) refl
    | inr other ↦ high_granted va (eqb-true (va.0 / 2 ^ 38) (2 ^ 26 - 1) (rw other at canonical))
  ]

-- ---- the space of a record

module _ (setup : SetupParts) (bytes_of : ℕ → List ℕ) (owners : List Owner) (e : ℕ) (r : Enclave) (n : Number) (stands : EnclaveStands setup bytes_of owners e r n) where
  abbrev image : Image
  image = stands.image

  pub image_is : image_of setup r.image ≡ image
  image_is = image_found setup r.image image stands.image_is

  leaves_own : leaves_of r.pages (image_of setup r.image).pages ≡ map leaf_of_pair (zip r.pages image.pages)
  leaves_own = ap (λ (i : Image). leaves_of r.pages i.pages) image_is ∙ leaves_are r.pages image.pages

  -- an access at a canonical address is reached where the space lets it through
  pub reached_mapped : (k : Kind) (va : Va) → IsSetup setup → is_canonical va.0 ≡ true → reached k image.pages r.pages va.0 ≡ page_granted k (mapping_at (space_of setup r) (vpn_of va).0)
  reached_mapped k va rules canonical =
      reached_granted k image.pages r.pages (image_few setup r.image image rules stands.image_is) stands.held.count va canonical
      ∙ sym (ap (λ leaves. page_granted k (mapping_at (leaf_mappings first_vpn leaves) (vpn_of va).0)) leaves_own)

  pub unreached : (k : Kind) (va : ℕ) → IsSetup setup → is_canonical va ≡ false → reached k image.pages r.pages va ≡ None
  unreached k va rules far = far_unreached k image.pages r.pages (image_few setup r.image image rules stands.image_is) stands.held.count va far
