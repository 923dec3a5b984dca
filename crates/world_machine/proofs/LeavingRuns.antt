-- Why a run leaves its enclave: what the monitor's rule asks at each way.
use Rattle.std.proofs.Common.{◌≡◌, ℕ, ◌+◌, ◌<◌, ◌==◌, Bool, true, false, List, Some, refl, ap, sym, ◌∙◌, subst, arith}
use Rattle.std.proofs.lemmas.Bool.Decides.{nat_tests}
use Rattle.std.proofs.Common.{add_assoc}
use Rattle.pl_base.specs.declared.place.Place.{Place}
use Rattle.pl_base.specs.declared.state.Why.{Why}
use Rattle.pl_base.specs.declared.state.Why.TheVariants as why_is
use Rattle.mon_enclave.specs.declared.enclave.Enclave.{Enclave}
use Rattle.mon_image.specs.declared.image.Image.{Image}
use Rattle.rv_alone.specs.Flat.{Flat, ended, on}
use Rattle.rv_alone.specs.Alone.{Outcome, alone, full, next, one, page_written, trap, wait, written_pages}
use Rattle.pl_history.specs.Monitor.{Number, flat_image}
use Rattle.pl_history.specs.Running.{EndsBy, MayLeave, needs_page, obstacle, obstacle_of}
use Rattle.mem_geom.specs.Parts.{page_bytes}
use Rattle.world_machine.proofs.Instructions.{flat_of}
use Rattle.world_machine.proofs.LiveEnclaves.{IsLive}

-- A run of this record so many instructions after the number was last left, as the monitor counts them. The number wasn't forked.
pub record IsCounted (r : Enclave) (n : Number) (count : ℕ) : Type 0 where
  pub sent : n.sent ≡ r.sent
  pub retired : r.retired ≡ n.retired + count

spent : (count budget : ℕ) → count ≡ budget → (count == budget) ≡ true
spent count budget same = grind (arith, nat_tests)

not_spent : (count budget : ℕ) → count < budget → (count == budget) ≡ false
not_spent count budget below = grind (arith, nat_tests)

-- an image that is stopped is so whether it needs a page or not, and by no fault
ends_stopped : (MayFault : Place → Type 0) (needs : Bool) (outcome : Outcome) (why : Why) → obstacle false outcome ≡ Some why → EndsBy on false (obstacle needs outcome) MayFault why
ends_stopped MayFault needs (trap cause value) why is = let h : why_is.Trapped cause value ≡ why = cc in subst (EndsBy on false (Some (why_is.Trapped cause value)) MayFault) h refl
ends_stopped MayFault needs wait why is = let h : why_is.Waiting ≡ why = cc in subst (EndsBy on false (Some why_is.Waiting) MayFault) h refl
ends_stopped MayFault needs full why is = let h : why_is.OutFull ≡ why = cc in subst (EndsBy on false (Some why_is.OutFull) MayFault) h refl
ends_stopped MayFault needs (next a) why is = cc

module _ (image : Image) (memory : List ℕ) (r : Enclave) (n : Number) (count budget : ℕ) (live : IsLive image memory r) (counted : IsCounted r n count) (MayFault : Place → Type 0) where
  abbrev here : Flat
  here = flat_of (page_bytes memory) image.pages r

  -- the image run alone comes to the record's state
  pub counted_alone : alone (flat_image image) n.sent (n.retired + count) ≡ Some here
  counted_alone = ap (alone (flat_image image) n.sent) (sym counted.retired) ∙ ap (λ words. alone (flat_image image) words r.retired) counted.sent ∙ live.alone_is

  -- the whole budget is spent
  pub leaves_spent : count ≡ budget → MayLeave (flat_image image) MayFault n budget count why_is.Budget
  leaves_spent whole =
      (omega arith, (here, counted_alone, subst (λ t. EndsBy on t (obstacle_of (flat_image image) n (n.retired + count) here) MayFault why_is.Budget) (sym (spent count budget whole)) refl))

  -- whether the number needs a page for its next instruction
  abbrev needs_now : Bool
  needs_now = needs_page n.parent n.spares (written_pages (flat_image image) n.sent (n.retired + count)) (page_written on here)

  -- what keeps the next instruction from going on
  stopped_by : obstacle_of (flat_image image) n (n.retired + count) here ≡ obstacle needs_now (one here r.sent)
  stopped_by = ap (λ words. obstacle needs_now (one here words)) counted.sent

  -- the budget isn't spent
  unspent : (why : Why) → count < budget → EndsBy on false (obstacle_of (flat_image image) n (n.retired + count) here) MayFault why → MayLeave (flat_image image) MayFault n budget count why
  unspent why below ends =
      (omega arith, (here, counted_alone, subst (λ t. EndsBy on t (obstacle_of (flat_image image) n (n.retired + count) here) MayFault why) (sym (not_spent count budget below)) ends))

  -- its next instruction keeps it from going on: it waits, has no room for a word, or traps
  pub leaves_stopped : (why : Why) → count < budget → obstacle false (one here r.sent) ≡ Some why → MayLeave (flat_image image) MayFault n budget count why
  leaves_stopped why below is =
      unspent why below (subst (λ stopped. EndsBy on false stopped MayFault why) (sym stopped_by) (ends_stopped MayFault needs_now (one here r.sent) why is))

  -- it needs a page for its next instruction
  pub leaves_needing : (a : Flat) → count < budget → one here r.sent ≡ next a → needs_now ≡ true → MayLeave (flat_image image) MayFault n budget count why_is.NeedPage
  leaves_needing a below goes needs =
      unspent why_is.NeedPage below (stopped_by ∙ ap (λ b. obstacle b (one here r.sent)) needs ∙ ap (obstacle true) goes)

  -- a licensed place was found other than its parent has it
  pub leaves_faulted : (place : Place) → count < budget → MayFault place → MayLeave (flat_image image) MayFault n budget count (why_is.Fault place)
  leaves_faulted place below licensed = unspent (why_is.Fault place) below licensed

  -- EXIT retired
  pub leaves_ended : (code : ℕ) → count < budget → alone (flat_image image) r.sent (r.retired + 1) ≡ Some (record here { status = ended code })
      → MayLeave (flat_image image) MayFault n budget (count + 1) (why_is.Ended code)
  leaves_ended code below is = (
    omega arith,
    (
      record here { status = ended code },
      ap (alone (flat_image image) n.sent) (sym (ap (λ k. k + 1) counted.retired ∙ add_assoc n.retired count 1)) ∙ ap (λ words. alone (flat_image image) words (r.retired + 1)) counted.sent ∙ is,
      refl,
    ),
  )
