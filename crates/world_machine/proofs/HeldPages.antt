-- The pages of a number that is given back are its own, the host maps none of them, and they become zeroed pages of the host.
use Rattle.std.proofs.Common.{◌≡◌, ◌≢◌, ℕ, ◌+◌, ◌*◌, ◌/◌, ◌<◌, eqb, ◌==◌, true, false, if◌then◌else◌, List, [], ◌∷◌, count_by, length, Some, option_map, slice_get, sym, ap, ◌∙◌, subst, arith, inl, inr}
use Rattle.std.specs.Prelude.{Contains}
use Rattle.std.specs.List.{All, AllByRecursion}
use Rattle.std.proofs.lemmas.Bool.{cases_Bool, eqb-true, false≢true}
use Rattle.std.proofs.lemmas.List.Elements.{All-contains, All-contains_itself, All-from_recursion, All-weaker, recursion_from_All}
use Rattle.pl_base.specs.Bytes.{zero_page}
use Rattle.pl_base.specs.Pages.{is_among}
use Rattle.pl_base.specs.States.{is_free}
use Rattle.pl_base.specs.declared.number.EncNo.{EncNo}
use Rattle.mon_enclave.specs.declared.enclave.PageKind.{PageKind}
use Rattle.mon_enclave.specs.declared.enclave.PageKind.TheVariants.{Own, Shared}
use Rattle.mon_enclave.specs.declared.enclave.Enclave.{Enclave}
use Rattle.mon_enclave.specs.Records.{enclave_at, freed, page_number_of, with_enclave}
use Rattle.mon_life.specs.Destroying.{all_zeroed, held_by}
use Rattle.mon_life.specs.Laws.{IsGivenBack}
use Rattle.mon_life.proofs.DestroyLaws.{is_given_back}
use Rattle.mon_owner.specs.declared.owners.Owner.{Owner}
use Rattle.mon_owner.specs.declared.owners.Owner.TheVariants as owner_is
use Rattle.mon_owner.specs.Owners.{given_to}
use Rattle.mon_tables.specs.Space.{Mapping, count_of_page}
use Rattle.pl_history.specs.GivingBack.{given_back}
use Rattle.pl_history.specs.Monitor as monitor
use Rattle.pl_history.specs.Monitor.{Monitor, Number, Removal, host, is_host, maps_of, number, pages_taken}
use Rattle.pl_history.specs.OwnedPages.{PagesStand}
use Rattle.pl_history.proofs.OwnedPages.{legal_pages}
use Rattle.world_machine.specs.BytesAgree.{ByteAgrees, HostBytesAgree, PageAgrees}
use Rattle.world_machine.specs.EnclavesAgree.{IsOwnOrShared, IsOwn}
use Rattle.world_machine.specs.Pages.{numbers_of}
use Rattle.world_machine.specs.RecordsAgree.{OwnersAgree, owner_of, parent_of}
use Rattle.world_machine.specs.Standing.{Kept, state_of}
use Rattle.world_machine.specs.Worlds.{WorldData}
use Rattle.world_machine.proofs.BrokenPages.{held_set}
use Rattle.world_machine.proofs.ForkedNumbers.{shadows_stand}
use Rattle.world_machine.proofs.FoundElements.{none_counted}
use Rattle.world_machine.proofs.NumberRows.{own_within, same_number}
use Rattle.world_machine.proofs.OwnersGiven.{among_in, in_among}

module _ (digest_of : List ℕ → List ℕ) (w : WorldData) (k : Kept digest_of w) (e : ℕ) (there : e < length w.enclaves) where
  abbrev s : Monitor
  s = state_of w

  abbrev r : Enclave
  r = enclave_at w.enclaves e

  abbrev n : Number
  n = s.number e

  -- ---- the pages, while the number has them

  abbrev held : List ℕ
  held = held_by w.enclaves e

  -- they are those that it took
  among_same : (page : ℕ) → is_among (pages_taken n) page ≡ is_among held page
  among_same page = sym (held_set w.setup s (shadows_stand digest_of w k) e r (k.stands.pages e) (k.stands.records e).image page)

  pages : PagesStand w.setup s
  pages = legal_pages.stand w.setup w.history.bytes w.history.entries k.legal

  held_number : (page : ℕ) → is_among held page ≡ true → s.owner page ≡ Some (number e)
  held_number page within =
      All-contains (λ p. s.owner p ≡ Some (number e)) (pages_taken n) page (pages.taken e) (among_in (pages_taken n) page (among_same page ∙ within))

  owner_held : (page : ℕ) → is_among held page ≡ true → IsOwn w.owners e page
  owner_held page within = sym (k.stands.owners.owner page) ∙ held_number page within

  -- they are pages that there are
  pub held_inside : All (λ page. page < 64 * w.ctl.zones) held
  held_inside = All-weaker (Contains held) (λ page. page < 64 * w.ctl.zones)
      (λ page listed. own_within digest_of w k e page (owner_held page (in_among held page listed))) held (All-contains_itself held)

  -- a page of another owner isn't among them
  not_held : (page : ℕ) (o : monitor.Owner) → o ≢ number e → option_map owner_of (slice_get w.owners page) ≡ Some o → is_among held page ≡ false
  not_held page o other is = elim (cases_Bool (is_among held page)) [
    | inr out ↦ out
    | inl within ↦ absurd (other (let same : Some o ≡ Some (number e) = sym is ∙ owner_held page within in cc))
  ]

  pub other_out : (f page : ℕ) → f ≢ e → IsOwn w.owners f page → is_among held page ≡ false
  other_out f page other own = not_held page (number f) (λ same. other (same_number digest_of w k f e (ap Some same))) own

  guarded_out : (page : ℕ) → slice_get w.owners page ≡ Some owner_is.Guard → is_among held page ≡ false
  guarded_out page guard = not_held page monitor.guard (λ same. cc) (ap (option_map owner_of) guard)

  names_other : (page named : ℕ) → is_among held page ≡ true → is_host (s.owner named) ≡ true → eqb named page ≡ false
  names_other page named within hosts = elim (cases_Bool (eqb named page)) [
    | inr other ↦ other
    | inl same ↦ absurd (false≢true (sym (ap is_host (held_number page within)) ∙ ap (λ p. is_host (s.owner p)) (sym (eqb-true named page same)) ∙ hosts))
  ]

  -- the host maps none of them
  unmapped : (page : ℕ) → is_among held page ≡ true → maps_of s page ≡ 0
  unmapped page within =
      let mapped : count_of_page s.space page ≡ 0 = none_counted (λ (m : Mapping). m.page == page) s.space
      (All-weaker (λ (m : Mapping). is_host (s.owner m.page) ≡ true) (λ (m : Mapping). eqb m.page page ≡ false) (λ m hosts. names_other page m.page within hosts) s.space pages.mapped) in
      let removed : count_by (λ (m : Removal). m.mapping.page == page) s.removals ≡ 0 = none_counted (λ (m : Removal). m.mapping.page == page) s.removals
      (All-weaker (λ (m : Removal). is_host (s.owner m.mapping.page) ≡ true) (λ (m : Removal). eqb m.mapping.page page ≡ false) (λ m hosts. names_other page m.mapping.page within hosts) s.removals
      pages.removed) in
      omega (arith, mapped, removed)

  -- ---- the pages of other numbers, of which none was forked from it

  module _ (childless : (f : ℕ) → (s.number f).parent ≡ Some e → ⊥) where
    pub no_child : (f : ℕ) (shadow : EncNo) → (enclave_at w.enclaves f).parent ≡ Some shadow → shadow.0 ≢ e
    no_child f shadow parent same = childless f ((k.stands.records f).parent ∙ ap parent_of parent ∙ ap Some same)

    kind_out : (f : ℕ) (kind : PageKind) → f ≢ e → IsOwnOrShared w.owners f (enclave_at w.enclaves f).parent kind → is_among held (page_number_of kind) ≡ false
    kind_out f (Own page) other own = other_out f page other own
    kind_out f (Shared page) other (shadow, parent, own) = other_out shadow.0 page (no_child f shadow parent) own

    all_out : (f : ℕ) (kinds : List PageKind) → f ≢ e → AllByRecursion (IsOwnOrShared w.owners f (enclave_at w.enclaves f).parent) kinds
        → AllByRecursion (λ page. is_among held page ≡ false) (numbers_of kinds)
    all_out f [] other own = tt
    all_out f (kind ∷ kinds) other own = (kind_out f kind other own.0, all_out f kinds other own.1)

    -- none of them is given back
    pub number_out : (f page : ℕ) → f ≢ e → is_free (enclave_at w.enclaves f).state ≡ false → Contains (numbers_of (enclave_at w.enclaves f).pages) page
        → is_among held page ≡ false
    number_out f page other in_use listed =
        let r' : Enclave = enclave_at w.enclaves f in
        All-contains (λ p. is_among held p ≡ false) (numbers_of r'.pages) page
        (All-from_recursion (λ p. is_among held p ≡ false) (numbers_of r'.pages)
        (all_out f r'.pages other (recursion_from_All (IsOwnOrShared w.owners f r'.parent) r'.pages (k.stands.enclaves f in_use).held.owned)))
        listed

  -- ---- what is left of them

  abbrev off_chip : List ℕ
  off_chip = (all_zeroed w.ctl held).off_chip

  abbrev owners' : List Owner
  owners' = given_to w.owners held (owner_is.Host 0)

  abbrev s' : Monitor
  s' = given_back s e

  -- what the law of giving back says of them
  pub given_pages : IsGivenBack digest_of w.ctl (all_zeroed w.ctl held) w.owners owners' w.enclaves (with_enclave w.enclaves e (freed r)) e
  given_pages = is_given_back digest_of w.ctl w.owners w.enclaves e k.trees (k.sizes.pages ∙ ap (λ zones. 64 * zones) (sym k.sizes.zones))
      there held_inside

  owner_in : (page : ℕ) → is_among held page ≡ true → s'.owner page ≡ Some host
  owner_in page within = ap (λ b. if b then Some host else s.owner page) (among_same page ∙ within)

  owner_out : (page : ℕ) → is_among held page ≡ false → s'.owner page ≡ s.owner page
  owner_out page out = ap (λ b. if b then Some host else s.owner page) (among_same page ∙ out)

  -- owners agree, and so do the bytes of the host
  pub given_owners : OwnersAgree owners' s'
  given_owners = record {
    owner = λ page. elim (cases_Bool (is_among held page)) [
      | inl within ↦ owner_in page within ∙ sym (ap (option_map owner_of) (given_pages.given page within))
      | inr out ↦ owner_out page out ∙ k.stands.owners.owner page ∙ sym (ap (option_map owner_of) (given_pages.other_owners page out))
    ];
    maps = λ page maps is. elim (cases_Bool (is_among held page)) [
      | inl within ↦ (let same : Some (owner_is.Host maps) ≡ Some (owner_is.Host 0) = sym is ∙ given_pages.given page within in
          let zero : maps ≡ 0 = cc in zero ∙ sym (unmapped page within))
      | inr out ↦ k.stands.owners.maps page maps (sym (given_pages.other_owners page out) ∙ is)
    ];
  }

  pub given_bytes : HostBytesAgree off_chip s'
  given_bytes page is = elim (cases_Bool (is_among held page)) [
    | inl within ↦ given_pages.zeroed page within ∙ sym (ap (λ b. if b then zero_page else s.bytes page) (among_same page ∙ within))
    | inr out ↦
        given_pages.other_pages page out ∙ k.stands.host page (ap is_host (sym (owner_out page out)) ∙ is)
        ∙ sym (ap (λ b. if b then zero_page else s.bytes page) (among_same page ∙ out))
  ]

  -- a page of another number keeps its owner, and so does a guarded one
  pub own_stays : (f page : ℕ) → f ≢ e → IsOwn w.owners f page → IsOwn owners' f page
  own_stays f page other own = ap (option_map owner_of) (given_pages.other_owners page (other_out f page other own)) ∙ own

  pub guard_stays : (page : ℕ) → slice_get w.owners page ≡ Some owner_is.Guard → slice_get owners' page ≡ Some owner_is.Guard
  guard_stays page guard = given_pages.other_owners page (guarded_out page guard) ∙ guard

  -- bytes of other pages stay
  byte_still : (i : ℕ) → is_among held (i / 4096) ≡ false → ByteAgrees w.ctl.off_chip w.ctl.mirror s.attacks i → ByteAgrees off_chip w.ctl.mirror s.attacks i
  byte_still i out old clean = given_pages.other_bytes i out ∙ old clean

  pub page_still : (page : ℕ) → is_among held page ≡ false → PageAgrees w.ctl.off_chip w.ctl.mirror s.attacks page → PageAgrees off_chip w.ctl.mirror s.attacks page
  page_still page out old i few =
      let same : page ≡ (4096 * page + i) / 4096 = omega (arith, few) in
      byte_still (4096 * page + i) (subst (λ p. is_among held p ≡ false) same out) (old i few)

  -- a page that is guarded now was so before
  pub guard_out : (page : ℕ) → slice_get owners' page ≡ Some owner_is.Guard → is_among held page ≡ false
  guard_out page guard = elim (cases_Bool (is_among held page)) [
    | inr out ↦ out
    | inl within ↦ (let clash : Some owner_is.Guard ≡ Some (owner_is.Host 0) = sym guard ∙ given_pages.given page within in cc)
  ]
