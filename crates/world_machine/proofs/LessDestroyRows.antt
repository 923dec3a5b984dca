-- Each turn of a `destroy` leaves less to do.
use Rattle.std.proofs.Common.{◌≡◌, ℕ, ◌<◌, ◌≤◌, List, Option, Some, None, refl, arith}
use Rattle.std.specs.Prelude.{slice_set}
use Rattle.std.proofs.Math.Nat.{le_refl}
use Rattle.pl_base.specs.declared.number.EncNo.{EncNo}
use Rattle.pl_base.specs.declared.refusal.No.{No}
use Rattle.mon_enclave.specs.declared.enclave.Enclave.{Enclave}
use Rattle.mon_enclave.specs.Records.{enclave_at, freed}
use Rattle.mon_fence.specs.declared.fences.Fence.{Fence}
use Rattle.mon_life.specs.Destroying.{DestroyBegun, destroy_begun, destroy_ended, dying_unless}
use Rattle.pl_history.specs.declared.line.Line.TheVariants.{Destroy}
use Rattle.world_machine.specs.declared.under.Under.TheVariants.{Idle, Destroying}
use Rattle.world_machine.specs.GivingBack.{begins_destroy, destroys_unless, ends_destroy}
use Rattle.world_machine.specs.Runs.{remaining}
use Rattle.world_machine.specs.Standing.{Kept}
use Rattle.world_machine.specs.Worlds.{WorldData, hart_line, under_at}
use Rattle.world_machine.proofs.BreaksLeft.{breaks_of, shares_set, shares_stay}
use Rattle.world_machine.proofs.FencesLeft.{left_less, posted_more}
use Rattle.world_machine.proofs.Lessens.{answered_by, answered_less, goes_by, some_cost}

module _ (digest_of : List ℕ → List ℕ) (w : WorldData) (k : Kept digest_of w) (none : w.collision ≡ None) (hart : ℕ) (below : hart < w.setup.harts)
    (e : EncNo) (here : hart_line w hart ≡ Some (Destroy e)) where
  -- the fence that it posts needs at most all harts, and the line has cost as much for each
  module _ (idle : under_at w.under hart ≡ Idle) where
    begun_less : (o : Option No) (dying : List Enclave) (fence : Option Fence) → breaks_of w.setup.harts dying ≤ breaks_of w.setup.harts w.enclaves
        → let begun : DestroyBegun = dying_unless o w.enclaves w.fences dying (slice_set w.fences hart fence) in
        remaining (destroys_unless begun.refusal (record w { enclaves = begun.enclaves; fences = begun.fences }) hart e) < remaining w
    begun_less (Some cause) dying fence fewer = answered_less digest_of w k none hart below (Destroy e) Idle here idle (some_cost w.setup (Destroy e)) _ refl none refl (le_refl _) refl refl
    begun_less None dying fence fewer = goes_by digest_of w k none hart below (Destroy e) Idle here idle _ Destroying refl none refl refl
        (omega (arith, fewer, posted_more w.setup.harts w.fences hart fence))

    pub begins_destroy_less : remaining (begins_destroy w hart e).world < remaining w
    unfolding destroy_begun
    begins_destroy_less = begun_less _ _ _ (shares_stay w.setup.harts w.enclaves e.0 _ refl)

  pub ends_destroy_less : under_at w.under hart ≡ Destroying → remaining (ends_destroy w hart e) < remaining w
  unfolding destroy_ended
  ends_destroy_less so_far =
      answered_by digest_of w k none hart below (Destroy e) Destroying here so_far _ refl none refl refl
      (omega (arith, left_less w.setup.harts w.fences hart, shares_set w.setup.harts w.enclaves e.0 (freed (enclave_at w.enclaves e.0)) (omega arith)))
