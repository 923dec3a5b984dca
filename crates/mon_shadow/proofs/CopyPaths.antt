-- The paths of a copy, one after another.
use Rattle.std.proofs.Common.{ℕ, ◌≡◌, ◌+◌, ◌-◌, ◌<◌, false, List, ◌++◌, length, get_or, subst, sym, ◌∙◌, arith, inl, inr, ⊎_elim, length-append}
use Rattle.std.specs.Prelude.{Contains}
use Rattle.std.proofs.lemmas.Bool.{cases_lt}
use Rattle.std.proofs.lemmas.List.{get_or-append-add, get_or_append_left}
use Rattle.std.proofs.lemmas.List.Elements.{Contains-append_left, Contains-append_right}
use Rattle.pl_base.specs.declared.place.Place.{Place}
use Rattle.mem_ctl.specs.Access.{AllAsWritten, IsCollision, IsFirstOther, IsTampered}
use Rattle.mem_ctl.specs.Data.{CtlData}
use Rattle.mem_ctl.specs.Mounting.{taken, written}
use Rattle.mem_ctl.specs.Results.{is_of_zone}

module _ (x : CtlData) (before own after : List Place) (place : Place) (stood : AllAsWritten x before) where
  abbrev whole : List Place
  whole = before ++ (own ++ after)

  -- a place of the path at an index, by its index in the whole
  at_own : (j : ℕ) → j < length own → get_or whole (length before + j) place ≡ get_or own j place
  at_own j below = get_or-append-add before (own ++ after) j place ∙ get_or_append_left own after place j below

  Same : Place → Type 0
  Same p = taken x p ≡ written x p

  first_of_whole : IsFirstOther x own place → IsFirstOther x whole place
  unfolding Same
  first_of_whole first = record {
    index = length before + first.index;
    below = let all = length-append before (own ++ after) in let rest = length-append own after in let there = first.below in omega (arith, all, rest, there);
    is = at_own first.index first.below ∙ first.is;
    before = λ j earlier. elim (cases_lt j (length before)) [
      | inl there ↦ subst Same (sym (get_or_append_left before (own ++ after) place j there)) (stood j place there)
      | inr later ↦
          let k : ℕ = j - length before in
          let small : k < first.index = omega arith in
          let at : length before + k ≡ j = omega arith in
          subst (λ n. Same (get_or whole n place)) at (subst Same (sym (at_own k (omega (arith, first.below)))) (first.before k small))
    ];
  }

  -- a cause on one path is one on all of them, where the paths before it stand as they were written
  pub tampered_of_whole : IsTampered x own place → IsTampered x whole place
  tampered_of_whole t = record {
    exists = t.exists;
    checked = ⊎_elim (λ (among : Contains own place). inl (Contains-append_right before (own ++ after) place (Contains-append_left own after place among))) (λ (top : is_of_zone place ≡ false). inr top) t.checked;
    first = λ of. first_of_whole (t.first of);
    differs = t.differs;
    byte = t.byte;
  }

  pub collision_of_whole : (d : List ℕ → List ℕ) (held other : List ℕ) → IsCollision d x own place held other → IsCollision d x whole place held other
  collision_of_whole d held other c = record {
    tampered = tampered_of_whole c.tampered;
    as_taken = c.as_taken;
    as_written = c.as_written;
    held_size = c.held_size;
    written_size = c.written_size;
    differ = c.differ;
    one_digest = c.one_digest;
  }
