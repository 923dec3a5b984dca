-- Who owns each page once listed pages, which were the host's and unmapped, are given to a number.
use Rattle.std.proofs.Common.{◌≡◌, ◌≢◌, ℕ, zero, suc, ◌<◌, eqb, Bool, true, false, ◌||◌, if◌then◌else◌, List, [], ◌∷◌, length, slice_get, Some, option_map, refl, sym, ap, ◌∙◌, arith, inl, inr}
use Rattle.std.specs.Prelude.{Contains}
use Rattle.std.specs.List.{All}
use Rattle.std.proofs.lemmas.Bool.{cases_Bool, eqb-true, eq-eqb}
use Rattle.std.proofs.lemmas.List.Elements.{All-contains}
use Rattle.std.proofs.lemmas.Option.{slice_get_within}
use Rattle.pl_base.specs.Pages.{is_among}
use Rattle.mon_owner.specs.declared.owners.Owner.{Owner}
use Rattle.mon_owner.specs.declared.owners.Owner.TheVariants.{Guard, Host}
use Rattle.mon_owner.specs.Owners.{given_to}
use Rattle.mon_owner.proofs.OwnerLists.{given_listed, given_other}
use Rattle.pl_history.specs.Monitor.{Monitor, is_host, maps_of}
use Rattle.pl_history.specs.Monitor as monitor
use Rattle.world_machine.specs.BytesAgree.{HostBytesAgree}
use Rattle.world_machine.specs.EnclavesAgree.{IsOwn}
use Rattle.world_machine.specs.RecordsAgree.{OwnersAgree, owner_of}

-- ---- listed pages

pub among_in : (pages : List ℕ) (page : ℕ) → is_among pages page ≡ true → Contains pages page
among_in [] page among = cc
among_in (p ∷ pages) page among = elim (cases_Bool (eqb p page)) [
  | inl same ↦ (0, omega arith, eqb-true p page same)
  | inr other ↦ (
      let rest : is_among pages page ≡ true = sym (ap (λ b. b || is_among pages page) other) ∙ among in
      let found = among_in pages page rest in
      (suc found.0, (let few : found.0 < length pages = found.1 in omega arith), found.2))
]

pub in_among : (pages : List ℕ) (page : ℕ) → Contains pages page → is_among pages page ≡ true
in_among [] page here = absurd (omega arith)
in_among (p ∷ pages) page (zero, below, is) = ap (λ b. b || is_among pages page) (eq-eqb p page is)
in_among (p ∷ pages) page (suc k, below, is) = or_is (eqb p page) (is_among pages page) (in_among pages page (k, omega arith, is))
  where
    or_is : (a b : Bool) → b ≡ true → (a || b) ≡ true
    or_is true b yes' = refl
    or_is false b yes' = yes'

module _ (owners : List Owner) (to : Owner) (pages : List ℕ) where
  -- ---- of pages that were the host's, and unmapped

  module _ (free : All (λ page. slice_get owners page ≡ Some (Host 0)) pages) where
    pub was_free : (page : ℕ) → is_among pages page ≡ true → slice_get owners page ≡ Some (Host 0)
    was_free page among = All-contains (λ page. slice_get owners page ≡ Some (Host 0)) pages page free (among_in pages page among)

    pub given_here : (page : ℕ) → is_among pages page ≡ true → slice_get (given_to owners pages to) page ≡ Some to
    given_here page among = given_listed owners to pages page (slice_get_within owners page (Host 0) (was_free page among)) among

    -- a page of another owner isn't listed
    pub not_listed : (page : ℕ) (now : Owner) → now ≢ Host 0 → slice_get owners page ≡ Some now → is_among pages page ≡ false
    not_listed page now other is = elim (cases_Bool (is_among pages page)) [
      | inl among ↦ absurd (other (let h : Some now ≡ Some (Host 0) = sym is ∙ was_free page among in cc))
      | inr out ↦ out
    ]

    -- nor is a page of a number, which stays
    pub own_unlisted : (f page : ℕ) → IsOwn owners f page → is_among pages page ≡ false
    own_unlisted f page own = elim (cases_Bool (is_among pages page)) [
      | inl among ↦ (let clash : Some monitor.host ≡ Some (monitor.number f) = sym (ap (option_map owner_of) (was_free page among)) ∙ own in cc)
      | inr out ↦ out
    ]

    pub own_stays : (f page : ℕ) → IsOwn owners f page → IsOwn (given_to owners pages to) f page
    own_stays f page own = ap (option_map owner_of) (given_other owners to pages page (own_unlisted f page own)) ∙ own

    pub guard_stays : (page : ℕ) → slice_get owners page ≡ Some Guard → slice_get (given_to owners pages to) page ≡ Some Guard
    guard_stays page is = given_other owners to pages page (not_listed page Guard (λ same. cc) is) ∙ is

    -- the monitor gives them to the number too
    module _ (e : ℕ) (taker : owner_of to ≡ monitor.number e) where
      pub given_own : (page : ℕ) → is_among pages page ≡ true → IsOwn (given_to owners pages to) e page
      given_own page among = ap (option_map owner_of) (given_here page among) ∙ ap Some taker

      -- a page with another owner isn't listed
      other_unlisted : (page : ℕ) (now : Owner) → owner_of now ≢ monitor.number e → slice_get (given_to owners pages to) page ≡ Some now → is_among pages page ≡ false
      other_unlisted page now other is = elim (cases_Bool (is_among pages page)) [
        | inl among ↦ absurd (other (let h : Some (owner_of now) ≡ Some (monitor.number e) = sym (ap (option_map owner_of) is) ∙ given_own page among in cc))
        | inr out ↦ out
      ]

      pub guard_stood : (page : ℕ) → slice_get (given_to owners pages to) page ≡ Some Guard → slice_get owners page ≡ Some Guard
      guard_stood page is = sym (given_other owners to pages page (other_unlisted page Guard (λ same. cc) is)) ∙ is

      module _ (s s' : Monitor) (owner : (page : ℕ) → s'.owner page ≡ (if is_among pages page then Some (monitor.number e) else s.owner page)) where
        pub given_agree : ((page : ℕ) → maps_of s' page ≡ maps_of s page) → OwnersAgree owners s → OwnersAgree (given_to owners pages to) s'
        given_agree maps old = record {
          owner = λ page. elim (cases_Bool (is_among pages page)) [
            | inl among ↦ owner page ∙ ap (λ b. if b then Some (monitor.number e) else s.owner page) among ∙ sym (given_own page among)
            | inr out ↦ owner page ∙ ap (λ b. if b then Some (monitor.number e) else s.owner page) out ∙ old.owner page
                ∙ sym (ap (option_map owner_of) (given_other owners to pages page out))
          ];
          maps = λ page count is.
              let out : is_among pages page ≡ false = other_unlisted page (Host count) (λ same. cc) is in
              old.maps page count (sym (given_other owners to pages page out) ∙ is) ∙ sym (maps page);
        }

        pub given_host : (off_chip : List ℕ) → ((page : ℕ) → s'.bytes page ≡ s.bytes page) → HostBytesAgree off_chip s → HostBytesAgree off_chip s'
        given_host off_chip bytes old page is = elim (cases_Bool (is_among pages page)) [
          | inl among ↦ (let h : false ≡ true = sym (ap is_host (owner page ∙ ap (λ b. if b then Some (monitor.number e) else s.owner page) among)) ∙ is in cc)
          | inr out ↦ old page (sym (ap is_host (owner page ∙ ap (λ b. if b then Some (monitor.number e) else s.owner page) out)) ∙ is) ∙ sym (bytes page)
        ]
