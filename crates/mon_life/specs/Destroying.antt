-- The events of `destroy`: the number is dying, and its whole space is fenced; and, once nobody is lacking, it and its pages are given back.
use Rattle.std.specs.Prelude.{ℕ, List, fold, slice_set, Option, Some, None}
use Rattle.pl_base.specs.declared.number.EncNo.{EncNo}
use Rattle.pl_base.specs.declared.refusal.No.{No}
use Rattle.pl_base.specs.declared.state.State.TheVariants.{Dying}
use Rattle.pl_base.specs.HartSet.{space_of_number}
use Rattle.pl_base.specs.States.{idle_refusal}
use Rattle.mem_ctl.specs.Data.{CtlData}
use Rattle.mem_ctl.specs.Raw.{raw_zeroed}
use Rattle.mon_fence.specs.declared.fences.Fence.{Fence}
use Rattle.mon_fence.specs.Fences.{posted}
use Rattle.mon_owner.specs.declared.owners.Owner.{Owner}
use Rattle.mon_owner.specs.declared.owners.Owner.TheVariants.{Host}
use Rattle.mon_owner.specs.Owners.{given_to}
use Rattle.mon_enclave.specs.declared.enclave.Enclave.{Enclave}
use Rattle.mon_enclave.specs.Records.{enclave_at, freed, pages_held, with_enclave}
use Rattle.mon_life.specs.Putting.{in_state}

-- ---- it begins

abbrev pub destroy_refusal_of : List Enclave → ℕ → Option No
destroy_refusal_of enclaves e = idle_refusal (enclave_at enclaves e).state

-- the refusal, where there is one, and the records and the fences after it
pub record DestroyBegun : Type 0 where
  pub refusal : Option No
  pub enclaves : List Enclave
  pub fences : List (Option Fence)

-- a refused line changes nothing
abbrev pub dying_unless : Option No → List Enclave → List (Option Fence) → List Enclave → List (Option Fence) → DestroyBegun
dying_unless (Some cause) enclaves fences dying fenced = record { refusal = Some cause; enclaves = enclaves; fences = fences }
dying_unless None enclaves fences dying fenced = record { refusal = None; enclaves = dying; fences = fenced }

-- number e is dying, and hart h posts its fence of all of the number's space
unfoldable pub destroy_begun : List Enclave → List (Option Fence) → ℕ → EncNo → DestroyBegun
destroy_begun enclaves fences h e =
    dying_unless (destroy_refusal_of enclaves e.0) enclaves fences (in_state enclaves e.0 Dying) (posted fences h (space_of_number e) None)

-- ---- it ends

-- all bytes of these pages are zero off chip
abbrev pub all_zeroed : CtlData → List ℕ → CtlData
all_zeroed x pages = fold raw_zeroed x pages

-- the pages that number e holds
abbrev pub held_by : List Enclave → ℕ → List ℕ
held_by enclaves e = pages_held (enclave_at enclaves e)

pub record DestroyEnded : Type 0 where
  pub ctl : CtlData
  pub owners : List Owner
  pub enclaves : List Enclave
  pub fences : List (Option Fence)

unfoldable pub destroy_ended : CtlData → List Owner → List Enclave → List (Option Fence) → ℕ → ℕ → DestroyEnded
destroy_ended ctl owners enclaves fences h e = record {
  ctl = all_zeroed ctl (held_by enclaves e);
  owners = given_to owners (held_by enclaves e) (Host 0);
  enclaves = with_enclave enclaves e (freed (enclave_at enclaves e));
  fences = slice_set fences h None;
}
