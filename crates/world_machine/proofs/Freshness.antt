-- Which mappings a hart may still use when mappings of the host come and go, and when fences are acknowledged.
use Rattle.std.proofs.Common.{◌≡◌, ◌≢◌, ◌⊎◌, ℕ, ◌+◌, ◌<◌, ◌≤◌, eqb, ltb, ◌&&◌, Bool, true, false, List, [], ◌∷◌, ◌++◌, length, filter, not, Option, Some, None, option_map, slice_set, refl, sym, ap, ◌∙◌, subst, arith, inl, inr}
use Rattle.std.proofs.lemmas.Bool.{cases_Bool, cond-false, eq-eqb, eqb-true, eqb-false, false≢true, lt-ltb, ne_eqb, not-true}
use Rattle.std.proofs.lemmas.Nat.Bits.{bit_at-zero}
use Rattle.std.specs.Int.{bit_at}
use Rattle.std.specs.List.{All}
use Rattle.pl_base.specs.declared.address.Vpn.{Vpn}
use Rattle.pl_base.specs.declared.number.Space.{Space}
use Rattle.rv_tlb.specs.declared.tlb.TlbEntry.{TlbEntry}
use Rattle.rv_tlb.specs.Tlb.{is_in, is_of}
use Rattle.mon_fence.specs.declared.fences.Fence.{Fence}
use Rattle.mon_fence.specs.Fences.{AreFences, acked, fence_of, lacking, needs, posted, without_need}
use Rattle.mon_fence.proofs.HartSets.{has_hart-without_other}
use Rattle.mon_fence.proofs.Needs.{fence_of-set_other, fence_of-set_same, posted_all}
use Rattle.mon_host.specs.Leaves.{host_space}
use Rattle.mon_tables.specs.Space.{Mapping, mapping_at, without_vpn}
use Rattle.mon_tables.proofs.Mappings.{mapping_at-added_other, mapping_at-without_other, none_some, same_Some}
use Rattle.pl_history.specs.Monitor.{Monitor, Removal}
use Rattle.world_machine.specs.Acknowledging.{without_covered}
use Rattle.world_machine.specs.FencesStand.{FenceStands, IsOfHost, IsOpen, IsOwed, removals_by}
use Rattle.world_machine.specs.TranslationsAgree.{MayUse, entry_of}
use Rattle.world_machine.proofs.FoundElements.{filtered_all}
use Rattle.world_machine.proofs.Leaving.{number_not_host, same_fence}
use Rattle.world_machine.proofs.Removals.{removals_by-begun, removals_by-begun_other, removals_by-ended_other}

nil_cons : (m : Mapping) (ms : List Mapping) → [] ≡ m ∷ ms → ⊥
nil_cons m ms is = cc

one_of : (a b : Mapping) → a ∷ [] ≡ b ∷ [] → a ≡ b
one_of a b same = cc

-- a fence of this page of a space, or of the whole space, covers the translation
abbrev pub is_covered : Space → Option Vpn → TlbEntry → Bool
is_covered space None entry = is_in space entry
is_covered space (Some vpn) entry = is_of space vpn entry

-- and none of another space
pub other_uncovered : (space : Space) (vpn : Option Vpn) (entry : TlbEntry) → entry.space.0 ≢ space.0 → is_covered space vpn entry ≡ false
other_uncovered space None entry other = ne_eqb entry.space.0 space.0 other
other_uncovered space (Some vpn) entry other = ap (λ b. b && eqb entry.vpn.0 vpn.0) (ne_eqb entry.space.0 space.0 other)

-- the fence of a number's whole space, or of the page, covers the translation
pub covered_by : (e : ℕ) (m : Mapping) (vpn : Option Vpn) → (vpn ≡ None) ⊎ (vpn ≡ Some (record { 0 = m.vpn }))
    → is_covered (record { 0 = e + 1 }) vpn (entry_of (record { 0 = e + 1 }) m) ≡ true
covered_by e m vpn (inl whole) = ap (λ v. is_covered (record { 0 = e + 1 }) v (entry_of (record { 0 = e + 1 }) m)) whole ∙ eq-eqb (e + 1) (e + 1) refl
covered_by e m vpn (inr page) =
    ap (λ v. is_covered (record { 0 = e + 1 }) v (entry_of (record { 0 = e + 1 }) m)) page
    ∙ ap (λ b. b && eqb m.vpn m.vpn) (eq-eqb (e + 1) (e + 1) refl) ∙ eq-eqb m.vpn m.vpn refl

-- what follows for those that a fence doesn't cover holds of all that are left
pub left_all : (P Q : TlbEntry → Type 0) (space : Space) (vpn : Option Vpn) → ((entry : TlbEntry) → is_covered space vpn entry ≡ false → P entry → Q entry) → (entries : List TlbEntry)
    → All P entries → All Q (without_covered entries space vpn)
left_all P Q space None follows entries all = filtered_all (λ entry. not (is_in space entry)) P Q (λ entry passed. follows entry (not-true (is_in space entry) passed)) entries all
left_all P Q space (Some vpn) follows entries all =
    filtered_all (λ entry. not (is_of space vpn entry)) P Q (λ entry passed. follows entry (not-true (is_of space vpn entry) passed)) entries all

-- a fence that is owed is so while another fence changes
pub owed_other : (fences : List (Option Fence)) (changed : ℕ) (now : Option Fence) (hart e vpn : ℕ) (owed : IsOwed fences hart e vpn) → owed.poster ≢ changed
    → IsOwed (slice_set fences changed now) hart e vpn
owed_other fences changed now hart e vpn owed other = record {
  poster = owed.poster;
  fence = owed.fence;
  is = fence_of-set_other fences changed owed.poster now other ∙ owed.is;
  of_number = owed.of_number;
  of_page = owed.of_page;
  needed = ap (λ f. needs f hart) (fence_of-set_other fences changed owed.poster now other) ∙ owed.needed;
}

-- ---- a mapping is added

pub added_used : (s s' : Monitor) (fences : List (Option Fence)) (hart : ℕ) (more m : Mapping) → s'.space ≡ s.space ++ more ∷ [] → s'.removals ≡ s.removals → mapping_at s.space more.vpn ≡ None
    → MayUse s fences hart m → MayUse s' fences hart m
added_used s s' fences hart more m space removals free (inl there) =
    let other : m.vpn ≢ more.vpn = λ same. none_some m (sym free ∙ ap (mapping_at s.space) (sym same) ∙ there) in
    inl (ap (λ ms. mapping_at ms m.vpn) space ∙ mapping_at-added_other s.space more m.vpn other ∙ there)
added_used s s' fences hart more m space removals free (inr opened) = inr (subst (λ rs. IsOpen fences rs hart m) (sym removals) opened)

-- ---- a removal begins

-- the removal of a mapping begins, on a hart that had none
pub record Begins (s s' : Monitor) (fences : List (Option Fence)) (poster : ℕ) (gone : Mapping) : Type 0 where
  pub there : mapping_at s.space gone.vpn ≡ Some gone
  pub space : s'.space ≡ without_vpn s.space gone.vpn
  pub removals : s'.removals ≡ s.removals ++ record { hart = poster; mapping = gone } ∷ []
  pub none : removals_by s.removals poster ≡ []
  pub are : AreFences fences
  pub few : poster < length fences

module _ (s s' : Monitor) (fences : List (Option Fence)) (poster : ℕ) (gone : Mapping) (b : Begins s s' fences poster gone) where
  abbrev fences' : List (Option Fence)
  fences' = posted fences poster host_space (Some (record { 0 = gone.vpn }))

  -- what was open is open, since it is of another hart
  open_still : (hart : ℕ) (m : Mapping) → IsOpen fences s.removals hart m → IsOpen fences' s'.removals hart m
  open_still hart m opened =
      let other : opened.poster ≢ poster = λ same. nil_cons m [] (sym b.none ∙ ap (removals_by s.removals) (sym same) ∙ opened.removal) in
      record {
        poster = opened.poster;
        removal = ap (λ rs. removals_by rs opened.poster) b.removals ∙ removals_by-begun_other s.removals poster opened.poster gone other ∙ opened.removal;
        needed = ap (λ f. needs f hart) (fence_of-set_other fences poster opened.poster _ other) ∙ opened.needed;
      }

  kept_other : (hart : ℕ) (m : Mapping) → m.vpn ≢ gone.vpn → MayUse s fences hart m → MayUse s' fences' hart m
  kept_other hart m other (inl there) = inl (ap (λ ms. mapping_at ms m.vpn) b.space ∙ mapping_at-without_other s.space gone.vpn m.vpn other ∙ there)
  kept_other hart m other (inr opened) = inr (open_still hart m opened)

  -- another hart may use the mapping until it acknowledges
  pub begun_used : (hart : ℕ) (m : Mapping) → hart < length fences → hart ≢ poster → MayUse s fences hart m → MayUse s' fences' hart m
  begun_used hart m below differ (inr opened) = inr (open_still hart m opened)
  begun_used hart m below differ (inl there) = elim (cases_Bool (eqb m.vpn gone.vpn)) [
    | inr other ↦ kept_other hart m (eqb-false m.vpn gone.vpn other) (inl there)
    | inl same ↦
        let is : gone ≡ m = same_Some gone m (sym b.there ∙ ap (mapping_at s.space) (sym (eqb-true m.vpn gone.vpn same)) ∙ there) in
        inr (record {
          poster = poster;
          removal = ap (λ rs. removals_by rs poster) b.removals ∙ removals_by-begun s.removals poster gone b.none ∙ ap (λ x. x ∷ []) is;
          needed = posted_all fences poster host_space (Some (record { 0 = gone.vpn })) hart b.are b.few
              ∙ (let inside : ltb hart (length fences) ≡ true = lt-ltb hart (length fences) below in
              let apart : eqb hart poster ≡ false = ne_eqb hart poster differ in
              rw (inside, apart) refl);
        })
  ]

  -- the hart itself drops the translation at once, and keeps all others
  pub begun_used_own : (m : Mapping) → m.vpn ≢ gone.vpn → MayUse s fences poster m → MayUse s' fences' poster m
  begun_used_own m other used = kept_other poster m other used

-- ---- a removal ends

pub lacks_none : (fence : Option Fence) (hart : ℕ) → lacking fence ≡ None → needs fence hart ≡ false
lacks_none None hart is = refl
lacks_none (Some fence) hart is = elim (cases_Bool (eqb fence.need.0 0)) [
  | inl zero ↦ (let none : fence.need.0 ≡ 0 = eqb-true fence.need.0 0 zero in ap (λ n. eqb (bit_at n hart) 1) none ∙ empty hart)
  | inr some ↦ (let h : Some fence.need ≡ None = sym (cond-false _ _ _ some) ∙ is in cc)
]
  where
    empty : (k : ℕ) → eqb (bit_at 0 k) 1 ≡ false
    empty k = ap (λ bit. eqb bit 1) (bit_at-zero k)

module _ (s s' : Monitor) (fences : List (Option Fence)) (poster : ℕ) (space : s'.space ≡ s.space) (removals : s'.removals ≡ filter (λ (r : Removal). not (eqb r.hart poster)) s.removals)
    (nobody : lacking (fence_of fences poster) ≡ None) where
  pub ended_used : (hart : ℕ) (m : Mapping) → MayUse s fences hart m → MayUse s' (slice_set fences poster None) hart m
  ended_used hart m (inl there) = inl (ap (λ ms. mapping_at ms m.vpn) space ∙ there)
  ended_used hart m (inr opened) =
      let other : opened.poster ≢ poster = λ same. false≢true (sym (lacks_none (fence_of fences poster) hart nobody) ∙ ap (λ p. needs (fence_of fences p) hart) (sym same) ∙ opened.needed) in
      inr (record {
        poster = opened.poster;
        removal = ap (λ rs. removals_by rs opened.poster) removals ∙ removals_by-ended_other s.removals poster opened.poster other ∙ opened.removal;
        needed = ap (λ f. needs f hart) (fence_of-set_other fences poster opened.poster None other) ∙ opened.needed;
      })

-- ---- a fence is acknowledged

module _ (fences : List (Option Fence)) (hart requester : ℕ) (fence : Fence) (is : fence_of fences requester ≡ Some fence) (there : requester < length fences) (few : length fences ≤ 8)
    (below : hart < length fences) where
  abbrev after : List (Option Fence)
  after = acked fences hart requester

  pub acked_same : fence_of after requester ≡ Some (without_need hart fence)
  acked_same = fence_of-set_same fences requester _ there ∙ ap (option_map (without_need hart)) is

  -- the needs of other harts stay
  needs_still : (other poster : ℕ) → other < length fences → other ≢ hart → needs (fence_of fences poster) other ≡ true → needs (fence_of after poster) other ≡ true
  needs_still other poster inside differ needed = elim (cases_Bool (eqb poster requester)) [
    | inr apart ↦ ap (λ f. needs f other) (fence_of-set_other fences requester poster _ (eqb-false poster requester apart)) ∙ needed
    | inl same ↦
        let p : poster ≡ requester = eqb-true poster requester same in
        ap (λ q. needs (fence_of after q) other) p ∙ ap (λ f. needs f other) acked_same
        ∙ has_hart-without_other fence.need hart other (omega arith) (omega arith) differ
        ∙ sym (ap (λ f. needs f other) is) ∙ ap (λ q. needs (fence_of fences q) other) (sym p) ∙ needed
  ]

  pub acked_used : (s : Monitor) (other : ℕ) (m : Mapping) → other < length fences → other ≢ hart → MayUse s fences other m → MayUse s after other m
  acked_used s other m inside differ (inl at) = inl at
  acked_used s other m inside differ (inr opened) = inr (record { poster = opened.poster; removal = opened.removal; needed = needs_still other opened.poster inside differ opened.needed })

  -- the hart itself may use what the fence doesn't cover
  pub acked_used_own : (s : Monitor) (m : Mapping) → FenceStands (Some fence) (removals_by s.removals requester) → is_covered fence.space fence.vpn (entry_of host_space m) ≡ false
      → MayUse s fences hart m → MayUse s after hart m
  acked_used_own s m agrees apart (inl at) = inl at
  acked_used_own s m agrees apart (inr opened) =
      let other : opened.poster ≢ requester = λ same. covers_it agrees (sym (ap (removals_by s.removals) same) ∙ opened.removal) in
      inr (record { poster = opened.poster; removal = opened.removal; needed = ap (λ f. needs f hart) (fence_of-set_other fences requester opened.poster _ other) ∙ opened.needed })
    where
      covers_it : FenceStands (Some fence) (removals_by s.removals requester) → removals_by s.removals requester ≡ m ∷ [] → ⊥
      covers_it (inr (e, of_number, none)) removal = nil_cons m [] (sym none ∙ removal)
      covers_it (inl (gone, removed, space, vpn)) removal =
          let same : gone ≡ m = one_of gone m (sym removed ∙ removal) in
          false≢true (sym apart ∙ (λ i. is_covered (space i) (vpn i) (entry_of host_space m)) ∙ eq-eqb m.vpn gone.vpn (ap (λ (x : Mapping). x.vpn) (sym same)))

  -- what another hart owes of a number's space it owes still, and so does this one of what the fence doesn't cover
  pub acked_owed : (other e vpn : ℕ) → other < length fences → other ≢ hart → IsOwed fences other e vpn → IsOwed after other e vpn
  acked_owed other e vpn inside differ owed = still (needs_still other owed.poster inside differ owed.needed)
    where
      still : needs (fence_of after owed.poster) other ≡ true → IsOwed after other e vpn
      still needed = elim (cases_Bool (eqb owed.poster requester)) [
        | inr apart ↦ record {
          poster = owed.poster;
          fence = owed.fence;
          is = fence_of-set_other fences requester owed.poster _ (eqb-false owed.poster requester apart) ∙ owed.is;
          of_number = owed.of_number;
          of_page = owed.of_page;
          needed = needed;
        }
        | inl same ↦
            let p : owed.poster ≡ requester = eqb-true owed.poster requester same in
            let fence_is : owed.fence ≡ fence = same_fence owed.fence fence (sym owed.is ∙ ap (fence_of fences) p ∙ is) in
            record {
              poster = owed.poster;
              fence = without_need hart fence;
              is = ap (fence_of after) p ∙ acked_same;
              of_number = sym (ap (λ (x : Fence). x.space) fence_is) ∙ owed.of_number;
              of_page = subst (λ (x : Fence). (x.vpn ≡ None) ⊎ (x.vpn ≡ Some (record { 0 = vpn }))) fence_is owed.of_page;
              needed = needed;
            }
      ]

  pub acked_owed_own : (e : ℕ) (m : Mapping) → is_covered fence.space fence.vpn (entry_of (record { 0 = e + 1 }) m) ≡ false → IsOwed fences hart e m.vpn → IsOwed after hart e m.vpn
  acked_owed_own e m apart owed =
      owed_other fences requester _ hart e m.vpn owed (λ same. covers_it (same_fence owed.fence fence (sym owed.is ∙ ap (fence_of fences) same ∙ is)) owed.of_page)
    where
      covers_it : owed.fence ≡ fence → (owed.fence.vpn ≡ None) ⊎ (owed.fence.vpn ≡ Some (record { 0 = m.vpn })) → ⊥
      covers_it same of_page =
          let space : fence.space ≡ record { 0 = e + 1 } = sym (ap (λ (x : Fence). x.space) same) ∙ owed.of_number in
          false≢true (sym apart ∙ ap (λ s. is_covered s fence.vpn (entry_of (record { 0 = e + 1 }) m)) space
          ∙ covered_by e m fence.vpn (subst (λ (x : Fence). (x.vpn ≡ None) ⊎ (x.vpn ≡ Some (record { 0 = m.vpn }))) same of_page))

-- ---- the fence of a hart changes that has none of a number

module _ (fences : List (Option Fence)) (poster : ℕ) (now : Option Fence) (of_host : IsOfHost (fence_of fences poster)) where
  pub owed_still : (hart e vpn : ℕ) → IsOwed fences hart e vpn → IsOwed (slice_set fences poster now) hart e vpn
  owed_still hart e vpn owed =
      owed_other fences poster now hart e vpn owed (λ same. number_not_host owed.fence e owed.of_number (subst IsOfHost (ap (fence_of fences) (sym same) ∙ owed.is) of_host))
