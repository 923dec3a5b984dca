-- A page of the host gets one mapping more or less: what stays of the owners.
use Rattle.std.proofs.Common.{◌≡◌, ◌≢◌, ℕ, ◌+◌, ◌-◌, ◌≤◌, eqb, Bool, true, cond, not, List, [], ◌∷◌, ◌++◌, length, map, filter, count_by, Option, Some, None, unwrap_or, option_map, slice_get, set, refl, sym, ap, ◌∙◌, arith, inl, inr, length-set}
use Rattle.std.proofs.lemmas.Bool.{cases_Bool, eqb-true, eqb-false}
use Rattle.std.proofs.lemmas.List.Sums.{sum_by-cons}
use Rattle.std.proofs.lemmas.Option.{slice_get_within}
use Rattle.mon_owner.specs.declared.owners.Owner.{Owner}
use Rattle.mon_owner.specs.declared.owners.Owner.TheVariants as owner_is
use Rattle.mon_owner.specs.Owners.{mapped_once_less, mapped_once_more}
use Rattle.mon_host.specs.Mapping.{with_map}
use Rattle.mon_host.specs.Unmapping.{without_map}
use Rattle.mon_tables.specs.Space.{Mapping, count_of_page, mapping_at, without_vpn}
use Rattle.pl_history.specs.Monitor.{Monitor, Removal, is_host, maps_of}
use Rattle.pl_history.specs.Monitor as monitor
use Rattle.pl_history.proofs.HostMappings.{pushed}
use Rattle.world_machine.specs.FencesStand.{removals_by}
use Rattle.world_machine.specs.RecordsAgree.{OwnersAgree, owner_of}
use Rattle.world_machine.proofs.FoundElements.{counted_apart, counted_one, counted_without}
use Rattle.world_machine.proofs.Lists.{get-set_other, get-set_same}

-- ---- the list of owners

module _ (owners : List Owner) (page before after : ℕ) (is : slice_get owners page ≡ Some (owner_is.Host before)) where
  abbrev owners' : List Owner
  owners' = set owners page (owner_is.Host after)

  here : slice_get owners' page ≡ Some (owner_is.Host after)
  here = get-set_same owners page (owner_is.Host after) (slice_get_within owners page (owner_is.Host before) is)

  other : (p : ℕ) → p ≢ page → slice_get owners' p ≡ slice_get owners p
  other p differs = get-set_other owners page p (owner_is.Host after) differs

  -- an owner that isn't the host stays
  pub remapped_stays : (p : ℕ) (o : Owner) → ((maps : ℕ) → Some o ≡ Some (owner_is.Host maps) → ⊥) → slice_get owners p ≡ Some o → slice_get owners' p ≡ Some o
  remapped_stays p o not_host stands = other p (λ same. not_host before (sym stands ∙ ap (slice_get owners) same ∙ is)) ∙ stands

  pub remapped_guards : (p : ℕ) → slice_get owners' p ≡ Some owner_is.Guard → slice_get owners p ≡ Some owner_is.Guard
  remapped_guards p stands = elim (cases_Bool (eqb p page)) [
    | inl same ↦ (let clash : Some owner_is.Guard ≡ Some (owner_is.Host after) = sym stands ∙ ap (slice_get owners') (eqb-true p page same) ∙ here in cc)
    | inr differs ↦ sym (other p (eqb-false p page differs)) ∙ stands
  ]

  -- whose pages these are stays
  pub remapped_owner : (p : ℕ) → option_map owner_of (slice_get owners' p) ≡ option_map owner_of (slice_get owners p)
  remapped_owner p = elim (cases_Bool (eqb p page)) [
    | inl same_page ↦
        let p_is : p ≡ page = eqb-true p page same_page in
        ap (λ q. option_map owner_of (slice_get owners' q)) p_is ∙ ap (option_map owner_of) here
        ∙ sym (ap (option_map owner_of) is) ∙ ap (λ q. option_map owner_of (slice_get owners q)) (sym p_is)
    | inr differs ↦ ap (option_map owner_of) (other p (eqb-false p page differs))
  ]

  pub remapped_pool : length owners' ≡ length owners
  remapped_pool = length-set owners page (owner_is.Host after)

  -- where the monitor counts as many mappings of the page, and as many as before of each other
  pub remapped_agree : (s s' : Monitor) → OwnersAgree owners s → ((p : ℕ) → s'.owner p ≡ s.owner p) → maps_of s' page ≡ after → ((p : ℕ) → p ≢ page → maps_of s' p ≡ maps_of s p) → OwnersAgree owners' s'
  remapped_agree s s' agree same own others = record {
    owner = λ p. same p ∙ agree.owner p ∙ sym (remapped_owner p);
    maps = λ p maps stands. elim (cases_Bool (eqb p page)) [
      | inl same_page ↦
          let p_is : p ≡ page = eqb-true p page same_page in
          let count_is : Some (owner_is.Host maps) ≡ Some (owner_is.Host after) = sym stands ∙ ap (slice_get owners') p_is ∙ here in
          (let equal : maps ≡ after = cc in equal) ∙ sym own ∙ ap (maps_of s') (sym p_is)
      | inr differs ↦
          let apart : p ≢ page = eqb-false p page differs in
          agree.maps p maps (sym (other p apart) ∙ stands) ∙ sym (others p apart)
    ];
  }

-- the monitor's calls are such changes
pub with_map-is : (owners : List Owner) (page maps : ℕ) → slice_get owners page ≡ Some (owner_is.Host maps) → with_map owners page ≡ set owners page (owner_is.Host (maps + 1))
with_map-is owners page maps is = ap (λ o. set owners page (mapped_once_more (unwrap_or o owner_is.Guard))) is

pub without_map-is : (owners : List Owner) (page maps : ℕ) → slice_get owners page ≡ Some (owner_is.Host maps) → without_map owners page ≡ set owners page (owner_is.Host (maps - 1))
without_map-is owners page maps is = ap (λ o. set owners page (mapped_once_less (unwrap_or o owner_is.Guard))) is

-- a host page has the monitor's owner
pub is_host-host : (o : Option monitor.Owner) → is_host o ≡ true → o ≡ Some monitor.host
is_host-host None is = cc
is_host-host (Some monitor.guard) is = cc
is_host-host (Some monitor.host) is = refl
is_host-host (Some (monitor.number e)) is = cc

-- a page that is the host's in the monitor has a count of mappings
pub host_counted : (owners : List Owner) (s : Monitor) (page : ℕ) → OwnersAgree owners s → s.owner page ≡ Some monitor.host → slice_get owners page ≡ Some (owner_is.Host (maps_of s page))
host_counted owners s page agree host = by_owner (slice_get owners page) refl (sym (agree.owner page) ∙ host)
  where
    by_owner : (o : Option Owner) → slice_get owners page ≡ o → option_map owner_of o ≡ Some monitor.host → slice_get owners page ≡ Some (owner_is.Host (maps_of s page))
    by_owner None stands is = cc
    by_owner (Some owner_is.Guard) stands is = cc
    by_owner (Some (owner_is.Host maps)) stands is = stands ∙ ap (λ n. Some (owner_is.Host n)) (agree.maps page maps stands)
    by_owner (Some (owner_is.Enclave e)) stands is = cc
    by_owner (Some (owner_is.Shadow e)) stands is = cc

-- ---- how often a page is mapped

module _ (s s' : Monitor) where
  -- one mapping more
  pub mapped_more : (m : Mapping) → s'.space ≡ s.space ++ m ∷ [] → s'.removals ≡ s.removals → (page : ℕ) → maps_of s' page ≡ maps_of s page + cond (eqb m.page page) 1 0
  mapped_more m space removals page =
      let now : count_of_page s'.space page ≡ count_of_page s.space page + cond (eqb m.page page) 1 0
      = ap (λ ms. count_of_page ms page) space ∙ pushed (λ (x : Mapping). eqb x.page page) s.space m in
      let open_now : count_by (λ (r : Removal). eqb r.mapping.page page) s'.removals ≡ count_by (λ (r : Removal). eqb r.mapping.page page) s.removals
      = ap (count_by (λ (r : Removal). eqb r.mapping.page page)) removals in
      omega arith

  -- a mapping that is being removed is still counted
  pub removing_same : (hart : ℕ) (m : Mapping) → mapping_at s.space m.vpn ≡ Some m → count_by (λ (x : Mapping). eqb x.vpn m.vpn) s.space ≤ 1 → s'.space ≡ without_vpn s.space m.vpn
      → s'.removals ≡ s.removals ++ record { hart = hart; mapping = m } ∷ [] → (page : ℕ) → maps_of s' page ≡ maps_of s page
  removing_same hart m there once space removals page =
      let before : cond (eqb m.page page) 1 0 + count_of_page (without_vpn s.space m.vpn) page ≡ count_of_page s.space page
      = counted_without (λ (x : Mapping). eqb x.vpn m.vpn) (λ (x : Mapping). eqb x.page page) s.space m there once in
      let now : count_of_page s'.space page ≡ count_of_page (without_vpn s.space m.vpn) page = ap (λ ms. count_of_page ms page) space in
      let open_now : count_by (λ (r : Removal). eqb r.mapping.page page) s'.removals ≡ count_by (λ (r : Removal). eqb r.mapping.page page) s.removals + cond (eqb m.page page) 1 0
      = ap (count_by (λ (r : Removal). eqb r.mapping.page page)) removals ∙ pushed (λ (r : Removal). eqb r.mapping.page page) s.removals (record { hart = hart; mapping = m }) in
      omega arith

  -- and no more once the removal has ended
  pub removed_less : (hart : ℕ) (m : Mapping) → removals_by s.removals hart ≡ m ∷ [] → s'.space ≡ s.space → s'.removals ≡ filter (λ (r : Removal). not (eqb r.hart hart)) s.removals → (page : ℕ)
      → maps_of s page ≡ maps_of s' page + cond (eqb m.page page) 1 0
  removed_less hart m own space removals page =
      let test : Removal → Bool = λ (r : Removal). eqb r.mapping.page page in
      let both : count_by test (filter (λ (r : Removal). eqb r.hart hart) s.removals) + count_by test (filter (λ (r : Removal). not (eqb r.hart hart)) s.removals) ≡ count_by test s.removals
      = counted_apart (λ (r : Removal). eqb r.hart hart) test s.removals in
      let own_count : count_by test (filter (λ (r : Removal). eqb r.hart hart) s.removals) ≡ cond (eqb m.page page) 1 0
      = counted_map (filter (λ (r : Removal). eqb r.hart hart) s.removals) ∙ ap (count_by (λ (x : Mapping). eqb x.page page)) own ∙ counted_one (λ (x : Mapping). eqb x.vpn m.vpn) (λ (x : Mapping). eqb x.page page) m in
      let now : count_of_page s'.space page ≡ count_of_page s.space page = ap (λ ms. count_of_page ms page) space in
      let open_now : count_by test s'.removals ≡ count_by test (filter (λ (r : Removal). not (eqb r.hart hart)) s.removals) = ap (count_by test) removals in
      omega arith
    where
      counted_map : (rs : List Removal) → count_by (λ (r : Removal). eqb r.mapping.page page) rs ≡ count_by (λ (x : Mapping). eqb x.page page) (map (λ (r : Removal). r.mapping) rs)
      counted_map [] = refl
      counted_map (r ∷ rs) =
          sum_by-cons (λ (x : Removal). cond (eqb x.mapping.page page) 1 0) r rs
          ∙ ap (λ n. cond (eqb r.mapping.page page) 1 0 + n) (counted_map rs)
          ∙ sym (sum_by-cons (λ (x : Mapping). cond (eqb x.page page) 1 0) r.mapping (map (λ (x : Removal). x.mapping) rs))
