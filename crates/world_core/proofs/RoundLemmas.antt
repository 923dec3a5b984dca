-- One more hart's turn of those of a round.
use Rattle.std.proofs.Common.{◌≡◌, ℕ, zero, suc, ◌+◌, List, [], ◌∷◌, ◌++◌, refl, sym, ap, ◌∙◌, subst, arith}
use Rattle.std.specs.Prelude.{map}
use Rattle.std.specs.List.{range_with_len}
use Rattle.pl_base.specs.declared.actor.Actor.TheVariants.{Hart, Ack}
use Rattle.mem_slots.specs.declared.slot_use.SlotUse.{SlotUse}
use Rattle.world_machine.specs.Runs.{acknowledgements, hart_turns}
use Rattle.world_machine.specs.Steps.{Ran, StepOf}
use Rattle.world_machine.specs.Worlds.{WorldData}
use Rattle.world_machine.proofs.Stepping.{Ran-snoc}

counting : (from n at : ℕ) → from + n ≡ at → range_with_len from (suc n) ≡ range_with_len from n ++ at ∷ []
counting from zero at is = let same : from ≡ at = omega arith in ap (λ k. k ∷ []) same
counting from (suc n) at is = ap (λ xs. from ∷ xs) (counting (from + 1) n at (omega arith))

counting_more : (at : ℕ) → range_with_len 0 (at + 1) ≡ range_with_len 0 at ++ at ∷ []
counting_more at = ap (range_with_len 0) (let on : at + 1 ≡ suc at = omega arith in on) ∙ counting 0 at at (let e : 0 + at ≡ at = omega arith in e)

map_more : {A B : Type 0} (f : A → B) (xs : List A) (x : A) → map f (xs ++ x ∷ []) ≡ map f xs ++ f x ∷ []
map_more f [] x = refl
map_more f (y ∷ xs) x = ap (λ ys. f y ∷ ys) (map_more f xs x)

module _ (digest_of : List ℕ → List ℕ) (gives : List SlotUse → ℕ → Type 0) (old mid new : WorldData) (at : ℕ) where
  pub hart_more : Ran digest_of gives old (hart_turns at) mid → StepOf digest_of gives mid (Hart (record { 0 = at })) new → Ran digest_of gives old (hart_turns (at + 1)) new
  hart_more ran step =
      subst (λ actors. Ran digest_of gives old actors new)
      (sym (ap (map (λ h. Hart (record { 0 = h }))) (counting_more at) ∙ map_more (λ h. Hart (record { 0 = h })) (range_with_len 0 at) at))
      (Ran-snoc digest_of gives old mid new (hart_turns at) (Hart (record { 0 = at })) ran step)

  pub acknowledgement_more : Ran digest_of gives old (acknowledgements at) mid → StepOf digest_of gives mid (Ack (record { 0 = at })) new → Ran digest_of gives old (acknowledgements (at + 1)) new
  acknowledgement_more ran step =
      subst (λ actors. Ran digest_of gives old actors new)
      (sym (ap (map (λ h. Ack (record { 0 = h }))) (counting_more at) ∙ map_more (λ h. Ack (record { 0 = h })) (range_with_len 0 at) at))
      (Ran-snoc digest_of gives old mid new (acknowledgements at) (Ack (record { 0 = at })) ran step)
