-- What numbers are made of, tried on a small state: number 1 is a shadow of page 30, and number 2 was forked from it with the spare 31.
use Rattle.std.proofs.Common.{◌≡◌, [], ◌∷◌, Some, None, refl, inl, arith}
use Rattle.pl_base.specs.Pages.{first_twice}
use Rattle.pl_base.specs.declared.state.State.TheVariants as state_is
use Rattle.pl_history.specs.GivingBack.{drop_refusal}
use Rattle.pl_base.specs.declared.refusal.No.TheVariants as no_is
use Rattle.pl_history.specs.Monitor.{pages_taken}
use Rattle.pl_history.specs.ShadowPages.{IsMadeOf, NumberStands}
use Rattle.pl_history.proofs.CaseStates.{enc, quiet, some_number, state}

shadow_is_made : IsMadeOf quiet some_number 1 0 (30 ∷ []) None
shadow_is_made = refl

-- an image of three pages isn't made of one
too_few : IsMadeOf quiet some_number 1 1 (30 ∷ []) None → ⊥
too_few is = cc

fork_is_made : IsMadeOf quiet some_number 2 0 [] (Some 1)
fork_is_made = record { sealed = refl; whole = refl; same = refl; other = λ is. cc; none = refl }

-- no number is a fork of a fork, of itself, or of a shadow with another image
fork_of_fork : IsMadeOf quiet some_number 3 0 [] (Some 2) → ⊥
fork_of_fork is = (let h : state_is.Paused ≡ state_is.Sealed = is.sealed in cc)

fork_of_itself : IsMadeOf quiet some_number 1 0 [] (Some 1) → ⊥
fork_of_itself is = is.other refl

other_image : IsMadeOf quiet some_number 2 1 [] (Some 1) → ⊥
other_image is = (let h : (some_number 1).image ≡ 1 = is.same in cc)

fork_stands : NumberStands quiet some_number 2 (some_number 2)
fork_stands = record {
  free = λ is. cc;
  made = λ is. fork_is_made;
  image = λ is. (_, refl);
  sealed = λ is. cc;
  building = λ is. cc;
  still = λ is. cc;
  live = λ is. inl refl;
  once = refl;
  few = omega arith;
}

-- a page that is given twice doesn't stand
given_twice : first_twice (pages_taken (record (some_number 2) { spares = 31 ∷ 32 ∷ 31 ∷ [] })) ≡ Some 31
given_twice = refl

-- a shadow isn't given back while its fork is there
drops : drop_refusal quiet state 1 ≡ Some (no_is.InUse (enc 2))
drops = refl
