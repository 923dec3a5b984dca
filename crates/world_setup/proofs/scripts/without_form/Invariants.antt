use Rattle.std.proofs.Common.{◌≡◌, drop}
use Rattle.std.specs.List.{position_from}
use Rattle.world_setup.specs.Scripts.{has_no_form}
use Rattle.world_setup.proofs.scripts.without_form.Given as goal

abbrev pub invariant-loop-at : goal.invariant-loop-at
invariant-loop-at l = position_from (λ t. has_no_form t.now) 0 l.texts ≡ position_from (λ t. has_no_form t.now) l.at (drop l.at l.texts)
