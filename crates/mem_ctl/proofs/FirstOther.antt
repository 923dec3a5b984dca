-- The first place of a path that isn't as it was written.
use Rattle.std.proofs.Common.{◌≡◌, ℕ, zero, suc, ◌<◌, Bool, true, false, cond, List, [], ◌∷◌, length, get_or, refl, arith}
use Rattle.std.specs.Str.{bytes_eq}
use Rattle.pl_base.specs.declared.place.Place.{Place}
use Rattle.mem_tree.specs.Checks.{Checked, plain_check_on, Holds as AllHold, Fault as BreaksAt, Collision as CollidesAt}
use Rattle.mem_tree.specs.Paths.{Path, breaks}
use Rattle.mem_tree.proofs.Differences.{same-bytes_eq}

module _ (d : List ℕ → List ℕ) (path : Path) (written_at : Place → List ℕ) where
  -- the place stands in the list, and each before it is as written and doesn't break
  pub record StandsFirst (ps : List Place) (p : Place) : Type 0 where
    pub index : ℕ
    pub below : index < length ps
    pub is : (e : Place) → get_or ps index e ≡ p
    pub same : (j : ℕ) (e : Place) → j < index → path.bytes (get_or ps j e) ≡ written_at (get_or ps j e)
    pub fine : (j : ℕ) (e : Place) → j < index → breaks d path (get_or ps j e) ≡ false

  abbrev pub FirstAt : List Place → Checked → Type 0
  FirstAt ps AllHold = Unit {0}
  FirstAt ps (BreaksAt p) = StandsFirst ps p
  FirstAt ps (CollidesAt p held other) = StandsFirst ps p × (breaks d path p ≡ false)

  at_head : (p : Place) (ps : List Place) → StandsFirst (p ∷ ps) p
  at_head p ps = record { index = zero; below = grind arith; is = λ e. refl; same = λ j e h. absurd (omega arith); fine = λ j e h. absurd (omega arith) }

  module _ (p : Place) (ps : List Place) (fine : breaks d path p ≡ false) (same : path.bytes p ≡ written_at p) where
    same_later : (k : ℕ) → ((j : ℕ) (e : Place) → j < k → path.bytes (get_or ps j e) ≡ written_at (get_or ps j e))
        → (j : ℕ) (e : Place) → j < suc k → path.bytes (get_or (p ∷ ps) j e) ≡ written_at (get_or (p ∷ ps) j e)
    same_later k rest zero e h = same
    same_later k rest (suc j) e h = rest j e (omega arith)

    fine_later : (k : ℕ) → ((j : ℕ) (e : Place) → j < k → breaks d path (get_or ps j e) ≡ false) → (j : ℕ) (e : Place) → j < suc k → breaks d path (get_or (p ∷ ps) j e) ≡ false
    fine_later k rest zero e h = fine
    fine_later k rest (suc j) e h = rest j e (omega arith)

    stands_later : (q : Place) → StandsFirst ps q → StandsFirst (p ∷ ps) q
    stands_later q at = record { index = suc at.index; below = let h = at.below in grind arith; is = at.is; same = same_later at.index at.same; fine = fine_later at.index at.fine }

    later : (c : Checked) → FirstAt ps c → FirstAt (p ∷ ps) c
    later AllHold found = tt
    later (BreaksAt q) found = stands_later q found
    later (CollidesAt q held other) found = (stands_later q found.0, found.1)

  step : (p : Place) (ps : List Place) (rest : Checked) (broken same : Bool) → breaks d path p ≡ broken → bytes_eq (path.bytes p) (written_at p) ≡ same → FirstAt ps rest
      → FirstAt (p ∷ ps) (cond broken (BreaksAt p) (cond same rest (CollidesAt p (path.bytes p) (written_at p))))
  step p ps rest true same is is_same found = at_head p ps
  step p ps rest false true is is_same found = later p ps is (same-bytes_eq (path.bytes p) (written_at p) is_same) rest found
  step p ps rest false false is is_same found = (at_head p ps, is)

  pub plain_first : (ps : List Place) → FirstAt ps (plain_check_on d path written_at ps)
  plain_first [] = tt
  plain_first (p ∷ ps) = step p ps (plain_check_on d path written_at ps) (breaks d path p) (bytes_eq (path.bytes p) (written_at p)) refl refl (plain_first ps)
