-- The removals of each hart, as they begin and end.
use Rattle.std.proofs.Common.{◌≡◌, ◌≢◌, ℕ, eqb, cond, not, false, List, [], ◌∷◌, ◌++◌, map, filter, refl, sym, ap, ◌∙◌, inl, inr}
use Rattle.std.proofs.lemmas.Bool.{cases_Bool, eq-eqb, eqb-true, ne_eqb}
use Rattle.std.proofs.lemmas.List.{map-append, append-nil}
use Rattle.std.proofs.lemmas.List.Elements.{filter-append}
use Rattle.mon_tables.specs.Space.{Mapping}
use Rattle.pl_history.specs.Monitor.{Removal}
use Rattle.world_machine.specs.FencesStand.{removals_by}

abbrev mapping_of : Removal → Mapping
mapping_of r = r.mapping

-- one removal more
pub removals_by-more : (removals : List Removal) (r : Removal) (hart : ℕ) → removals_by (removals ++ r ∷ []) hart ≡ removals_by removals hart ++ removals_by (r ∷ []) hart
removals_by-more removals r hart =
    ap (map mapping_of) (filter-append (λ (x : Removal). eqb x.hart hart) removals (r ∷ []))
    ∙ map-append mapping_of (filter (λ (x : Removal). eqb x.hart hart) removals) (filter (λ (x : Removal). eqb x.hart hart) (r ∷ []))

pub removals_by-begun : (removals : List Removal) (hart : ℕ) (m : Mapping) → removals_by removals hart ≡ [] → removals_by (removals ++ record { hart = hart; mapping = m } ∷ []) hart ≡ m ∷ []
removals_by-begun removals hart m none =
    removals_by-more removals (record { hart = hart; mapping = m }) hart
    ∙ ap (λ xs. xs ++ removals_by (record { hart = hart; mapping = m } ∷ []) hart) none
    ∙ ap (λ b. map mapping_of (cond b (record { hart = hart; mapping = m } ∷ []) [])) (eq-eqb hart hart refl)

pub removals_by-begun_other : (removals : List Removal) (hart other : ℕ) (m : Mapping) → other ≢ hart → removals_by (removals ++ record { hart = hart; mapping = m } ∷ []) other ≡ removals_by removals other
removals_by-begun_other removals hart other m differ =
    removals_by-more removals (record { hart = hart; mapping = m }) other
    ∙ ap (λ b. removals_by removals other ++ map mapping_of (cond b (record { hart = hart; mapping = m } ∷ []) [])) (ne_eqb hart other (λ same. differ (sym same)))
    ∙ append-nil (removals_by removals other)

-- the removals of a hart end
pub removals_by-ended : (removals : List Removal) (hart : ℕ) → removals_by (filter (λ (r : Removal). not (eqb r.hart hart)) removals) hart ≡ []
removals_by-ended [] hart = refl
removals_by-ended (r ∷ rest) hart = elim (cases_Bool (eqb r.hart hart)) [
  | inl own ↦ rw own (removals_by-ended rest hart)
  | inr other ↦ rw (other, other) (removals_by-ended rest hart)
]

pub removals_by-ended_other : (removals : List Removal) (hart other : ℕ) → other ≢ hart
    → removals_by (filter (λ (r : Removal). not (eqb r.hart hart)) removals) other ≡ removals_by removals other
removals_by-ended_other [] hart other differ = refl
removals_by-ended_other (r ∷ rest) hart other differ = elim (cases_Bool (eqb r.hart hart)) [
  | inl own ↦
      let isnt : eqb r.hart other ≡ false = ne_eqb r.hart other (λ same. differ (sym same ∙ eqb-true r.hart hart own)) in
      rw (own, isnt) (removals_by-ended_other rest hart other differ)
  | inr kept ↦ rw kept (elim (cases_Bool (eqb r.hart other)) [
    | inl theirs ↦ rw theirs (ap (λ xs. r.mapping ∷ xs) (removals_by-ended_other rest hart other differ))
    | inr isnt ↦ rw isnt (removals_by-ended_other rest hart other differ)
  ])
]
