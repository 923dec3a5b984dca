-- The pages of a record are those that the number took, or the shadow's: so a line that concerns the number concerns them.
use Rattle.std.proofs.Common.{◌≡◌, ℕ, zero, suc, ◌+◌, ◌<◌, ◌≤◌, List, [], ◌∷◌, ◌++◌, length, Option, Some, None, refl, subst, arith, inl, inr, ◌⊎◌}
use Rattle.std.specs.Prelude.{Contains}
use Rattle.std.proofs.lemmas.List.Elements.{Contains-append_left, Contains-append_right, Contains-get_or}
use Rattle.mon_enclave.specs.declared.enclave.Enclave.{Enclave}
use Rattle.mon_enclave.specs.Records.{page_number_of}
use Rattle.pl_history.specs.declared.setup.SetupParts.{SetupParts}
use Rattle.pl_history.specs.Licence.{number_pages, number_tables, parent_pages}
use Rattle.pl_history.specs.Monitor.{Monitor, Number, pages_taken}
use Rattle.rv_alone.specs.Alone.{place_in}
use Rattle.world_machine.specs.Pages.{numbers_of}
use Rattle.world_machine.specs.PagesAgree.{PagesAre, forked_kind, forked_kinds, kinds_of, shared_by}
use Rattle.world_machine.proofs.BrokenPages.{place_among}
use Rattle.world_machine.proofs.UnderWay.{own_numbers}

-- an element is at the head of a list, or in its tail
head_or_tail : (page x : ℕ) (xs : List ℕ) → Contains (x ∷ xs) page → (x ≡ page) ⊎ Contains xs page
head_or_tail page x xs (zero, few, is) = inl is
head_or_tail page x xs (suc i, few, is) = inr (i, omega arith, is)

in_tail : (page x : ℕ) (xs : List ℕ) → Contains xs page → Contains (x ∷ xs) page
in_tail page x xs (i, few, is) = (suc i, omega arith, is)

-- a page of these kinds is a spare, or the shadow's
kind_among : (spares broken : List ℕ) (o : Option ℕ) (at x page : ℕ) → length broken ≤ length spares → place_in at broken ≡ o → page_number_of (forked_kind spares o x) ≡ page
    → Contains spares page ⊎ (x ≡ page)
kind_among spares broken None at x page few is same = inr same
kind_among spares broken (Some k) at x page few is same =
    let below : k < length broken = (place_among at k broken is).1 in inl (subst (Contains spares) same (Contains-get_or spares k 0 (omega arith)))

forked_among : (spares broken : List ℕ) (at page : ℕ) (shared : List ℕ) → length broken ≤ length spares → Contains (numbers_of (forked_kinds spares broken at shared)) page
    → Contains spares page ⊎ Contains shared page
forked_among spares broken at page [] few here = absurd (let low = here.1 in omega (arith, low))
forked_among spares broken at page (x ∷ shared) few here = elim (head_or_tail page _ _ here) [
  | inl head ↦ elim (kind_among spares broken (place_in at broken) at x page few refl head) [
    | inl spare ↦ inl spare
    | inr same ↦ inr (0, omega arith, same)
  ]
  | inr tail ↦ elim (forked_among spares broken (at + 1) page shared few tail) [
    | inl spare ↦ inl spare
    | inr later ↦ inr (in_tail page x shared later)
  ]
]

module _ (setup : SetupParts) (s : Monitor) (e : ℕ) (r : Enclave) (k : PagesAre setup s.number r (s.number e)) where
  abbrev n : Number
  n = s.number e

  own_or_shared : (parent : Option ℕ) (page : ℕ) → Contains (numbers_of (kinds_of n.pages n.spares k.broken (shared_by s.number parent))) page
      → Contains (pages_taken n) page ⊎ Contains (parent_pages s parent) page
  own_or_shared None page here = inl (Contains-append_left n.pages n.spares page (subst (λ pages. Contains pages page) (own_numbers n.pages) here))
  own_or_shared (Some shadow) page here = elim (forked_among n.spares k.broken 0 page (s.number shadow).pages k.few here) [
    | inl spare ↦ inl (Contains-append_right n.pages n.spares page spare)
    | inr shared ↦ inr shared
  ]

  -- a page of the record is one that the number took, or the shadow's
  pub record_page : (page : ℕ) → Contains (numbers_of r.pages) page → Contains (pages_taken n) page ⊎ Contains (parent_pages s n.parent) page
  record_page page here = own_or_shared n.parent page (subst (λ kinds. Contains (numbers_of kinds) page) k.kinds here)

  -- and a line that concerns the number concerns it
  pub held_concerned : (page : ℕ) → Contains (numbers_of r.pages) page → Contains (number_pages setup s e) page
  held_concerned page here = Contains-append_right (number_tables setup.tables e) (pages_taken n ++ parent_pages s n.parent) page (elim (record_page page here) [
    | inl own ↦ Contains-append_left (pages_taken n) (parent_pages s n.parent) page own
    | inr shared ↦ Contains-append_right (pages_taken n) (parent_pages s n.parent) page shared
  ])
