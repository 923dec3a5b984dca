-- Small histories that are legal.
use Rattle.std.proofs.Common.{◌≡◌, ℕ, true, List, [], ◌∷◌, refl, lit≤}
use Rattle.pl_base.specs.declared.refusal.No.TheVariants.{PageFault}
use Rattle.pl_history.specs.declared.answer.Answer.{Answer}
use Rattle.pl_history.specs.declared.answer.Answer.TheVariants as answer_is
use Rattle.pl_history.specs.declared.answer.Entry.{Entry}
use Rattle.pl_history.specs.declared.line.AttackLine.TheVariants as attack
use Rattle.pl_history.specs.declared.line.Line.TheVariants.{Load, Store, Map, Unmap, After}
use Rattle.pl_history.specs.declared.setup.SetupParts.{SetupParts}
use Rattle.pl_history.specs.Legal.{of_hart, of_attacker, legal_state, Legal}
use Rattle.pl_history.specs.Monitor as monitor
use Rattle.pl_history.proofs.CaseStates.{va, small}

abbrev entry : ℕ → ℕ → Answer → Entry
entry actor line answer = record { actor = actor; line = line; answer = answer }

-- a page is mapped, written, read, taken away, and then isn't there
abbrev host_lines : SetupParts
host_lines = small ((Map (va 0x1000) 20 (record { 0 = 3 }) ∷ Store (va 0x1000) 5 ∷ Load (va 0x1000) ∷ Unmap (va 0x1000) ∷ Load (va 0x1000) ∷ []) ∷ [] ∷ []) []

host_history : Legal host_lines [] (entry 0 0 answer_is.Ok ∷ entry 0 1 answer_is.Ok ∷ entry 0 2 (answer_is.Value 5) ∷ entry 0 3 answer_is.Begun ∷ entry 0 3 answer_is.Ok ∷ entry 0 4 (answer_is.No PageFault) ∷ [])
unfolding monitor.opening
host_history = (
  (refl, (of_hart (Map (va 0x1000) 20 (record { 0 = 3 })), refl, (refl, refl))),
  (
    (refl, (of_hart (Store (va 0x1000) 5), refl, refl)),
    (
      (refl, (of_hart (Load (va 0x1000)), refl, refl)),
      (
        (refl, (of_hart (Unmap (va 0x1000)), refl, refl)),
        (
          (refl, (of_hart (Unmap (va 0x1000)), refl, refl)),
          ((refl, (of_hart (Load (va 0x1000)), refl, refl)), tt),
        ),
      ),
    ),
  ),
)

-- the attacker, who is the actor after hart 1, keeps a byte, writes another and writes the first back; hart 0 waits for that
abbrev attack_lines : SetupParts
attack_lines = small ((After 2 3 ∷ []) ∷ [] ∷ []) (attack.Keep (97 ∷ []) 0x80014000 1 ∷ attack.Write 0x80014000 (9 ∷ []) ∷ attack.Back (97 ∷ []) ∷ [])

abbrev attack_entries : List Entry
attack_entries = entry 2 0 (answer_is.Kept 0x80014000 0 1) ∷ entry 2 1 (answer_is.Wrote true 0x80014000 1 1) ∷ entry 2 2 (answer_is.Wrote true 0x80014000 2 1) ∷ entry 0 0 answer_is.Ok ∷ []

attack_history : Legal attack_lines (0 ∷ 9 ∷ 0 ∷ []) attack_entries
unfolding monitor.opening
attack_history = (
  (refl, (of_attacker (attack.Keep (97 ∷ []) 0x80014000 1), refl, (refl, refl, refl, refl))),
  (
    (refl, (of_attacker (attack.Write 0x80014000 (9 ∷ [])), refl, (refl, refl, refl))),
    (
      (refl, (of_attacker (attack.Back (97 ∷ [])), refl, (refl, refl, refl))),
      ((refl, (of_hart (After 2 3), refl, lit≤ tt)), tt),
    ),
  ),
)

attacks : (legal_state attack_lines (0 ∷ 9 ∷ 0 ∷ []) attack_entries).attacks ≡ (record { address = 0x80014000; length = 1 } ∷ record { address = 0x80014000; length = 1 } ∷ [])
unfolding monitor.opening
attacks = refl
