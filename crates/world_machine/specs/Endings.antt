-- What the end of a run means.
use Rattle.std.specs.Prelude.{◌≡◌, ℕ, ◌<◌, false, List, Some, None}
use Rattle.mon_fence.specs.Fences.{fence_of}
use Rattle.pl_history.specs.declared.line.AttackLine.{AttackLine}
use Rattle.pl_history.specs.declared.line.AttackLine.TheVariants as attack
use Rattle.pl_history.specs.declared.line.Line.{Line}
use Rattle.pl_history.specs.declared.line.Line.TheVariants as line_is
use Rattle.pl_history.specs.Legal.{AllAnswered}
use Rattle.pl_history.specs.Unattacked.{IsFaultless}
use Rattle.world_machine.specs.declared.turned.Finished.{Finished}
use Rattle.world_machine.specs.declared.turned.Finished.TheVariants as finished
use Rattle.world_machine.specs.declared.under.Under.TheVariants.{Idle}
use Rattle.world_machine.specs.Runs.{all_answered}
use Rattle.world_machine.specs.Standing.{IsCollision, state_of}
use Rattle.world_machine.specs.Worlds.{CollisionData, WorldData, answered_at, attacker_line, hart_line, under_at}

-- each line is answered in the history, and no collision is kept
pub record IsDone (w : WorldData) : Type 0 where
  pub answered : AllAnswered w.setup w.history.bytes w.history.entries
  pub none : w.collision ≡ None

-- two unequal byte strings of one digest are kept
pub record HasCollision (digest_of : List ℕ → List ℕ) (w : WorldData) : Type 0 where
  pub collision : CollisionData
  pub kept : w.collision ≡ Some collision
  pub is : IsCollision digest_of w.setup.zones (state_of w).attacks collision

-- an `after` of a hart that hasn't begun, and waits for another actor to answer so many lines
pub record IsBlocked (w : WorldData) (hart : ℕ) (line : Line) : Type 0 where
  pub actor : ℕ
  pub count : ℕ
  pub line_is : line ≡ line_is.After actor count
  pub idle : under_at w.under hart ≡ Idle
  pub few : answered_at w.answered actor < count

-- and one of the attacker
pub record IsAttackBlocked (w : WorldData) (line : AttackLine) : Type 0 where
  pub actor : ℕ
  pub count : ℕ
  pub line_is : line ≡ attack.After actor count
  pub few : answered_at w.answered actor < count

-- some lines aren't answered, each actor with such lines waits in an `after`, and no fence stands
pub record IsStuck (w : WorldData) : Type 0 where
  pub none : w.collision ≡ None
  pub some : all_answered w ≡ false
  pub harts : (hart : ℕ) (line : Line) → hart < w.setup.harts → hart_line w hart ≡ Some line → IsBlocked w hart line
  pub attacker : (line : AttackLine) → attacker_line w ≡ Some line → IsAttackBlocked w line
  pub fences : (hart : ℕ) → fence_of w.fences hart ≡ None

abbrev pub EndsBy : (List ℕ → List ℕ) → Finished → WorldData → Type 0
EndsBy digest_of finished.Done w = IsDone w
EndsBy digest_of finished.Collision w = HasCollision digest_of w
EndsBy digest_of finished.Stuck w = IsStuck w

-- no answer is a fault, and no collision is kept
pub record IsUndisturbed (w : WorldData) : Type 0 where
  pub faultless : IsFaultless w.history.entries
  pub none : w.collision ≡ None
