-- A run that broke a page waits with the fence of that page, and starts its instruction anew without one: what holds of its line and its fence.
use Rattle.std.proofs.Common.{◌≡◌, ℕ, ◌+◌, ◌<◌, Bool, true, false, List, [], length, Option, Some, refl}
use Rattle.pl_base.specs.declared.number.EncNo.{EncNo}
use Rattle.pl_base.specs.HartSet.{harts_below, without_hart}
use Rattle.rv_tlb.specs.declared.tlb.TlbEntry.{TlbEntry}
use Rattle.mem_ctl.specs.Data.{CtlData}
use Rattle.mon_enclave.specs.declared.enclave.Enclave.{Enclave}
use Rattle.mon_fence.specs.declared.fences.Fence.{Fence}
use Rattle.mon_fence.specs.Fences.{fence_of, posted}
use Rattle.mon_fence.proofs.Needs.{fence_of-set_same}
use Rattle.mon_tables.specs.Space.{Mapping, vpn_of_page}
use Rattle.pl_history.specs.declared.setup.SetupParts.{SetupParts}
use Rattle.pl_history.specs.Monitor.{Number}
use Rattle.world_machine.specs.declared.under.Under.TheVariants.{Breaking}
use Rattle.world_machine.specs.BytesAgree.{HasPut}
use Rattle.world_machine.specs.FencesStand.{NumberFenceStands, IsBreaking, RemovalStands}
use Rattle.world_machine.specs.LinesUnderWay.{IsRestarting, LineUnderWay, number_under_way}
use Rattle.world_machine.specs.TranslationsAgree.{WalkingStands, walking}
use Rattle.world_machine.proofs.RunMoves.{run_line}

-- ---- the fence

-- what a hart without a fence posts is the fence of that page of the number
pub breaks_fence : (fences : List (Option Fence)) (hart e index : ℕ) → hart < length fences
    → IsBreaking (fence_of (posted fences hart (record { 0 = e + 1 }) (Some (vpn_of_page index))) hart) e index
breaks_fence fences hart e index few = record {
  posted = record { space = record { 0 = e + 1 }; vpn = Some (vpn_of_page index); need = without_hart (harts_below (length fences)) hart };
  is = fence_of-set_same fences hart _ few;
  of_number = refl;
  of_page = refl;
}

-- ---- the line

-- it has the number under way
pub breaking_number : (first : Bool) (e : EncNo) (budget count index : ℕ) → number_under_way (Some (run_line first e budget)) (Breaking count index) ≡ Some e.0
breaking_number true e budget count index = refl
breaking_number false e budget count index = refl

-- it has posted the fence of that page
pub breaking_gives : (first : Bool) (e : EncNo) (budget count index : ℕ) (fence : Option Fence) → IsBreaking fence e.0 index
    → NumberFenceStands (Some (run_line first e budget)) (Breaking count index) fence
breaking_gives true e budget count index fence k = k
breaking_gives false e budget count index fence k = k

-- it takes no mapping away
pub breaking_removes : (first : Bool) (e : EncNo) (budget count index : ℕ) (removed : List Mapping) → removed ≡ []
    → RemovalStands (Some (run_line first e budget)) (Breaking count index) removed
breaking_removes true e budget count index removed none = none
breaking_removes false e budget count index removed none = none

pub breaking_removed : (first : Bool) (e : EncNo) (budget count index : ℕ) (removed : List Mapping)
    → RemovalStands (Some (run_line first e budget)) (Breaking count index) removed → removed ≡ []
breaking_removed true e budget count index removed k = k
breaking_removed false e budget count index removed k = k

-- it has no walk, and puts no page
pub breaking_walks : (ctl : CtlData) (Fresh : TlbEntry → Type 0) (tables : ℕ) (rec : ℕ → Enclave) (first : Bool) (e : EncNo) (budget count index : ℕ)
    → WalkingStands ctl Fresh (walking tables rec (Some (run_line first e budget)) (Breaking count index))
breaking_walks ctl Fresh tables rec true e budget count index = tt
breaking_walks ctl Fresh tables rec false e budget count index = tt

pub breaking_put : (first : Bool) (e : EncNo) (budget count index page : ℕ) → HasPut (Some (run_line first e budget)) (Breaking count index) page → ⊥
breaking_put true e budget count index page put = put
breaking_put false e budget count index page put = put

-- the enclave runs, and its instruction starts anew
module _ (setup : SetupParts) (bytes_of : ℕ → List ℕ) (rec : ℕ → Enclave) (number : ℕ → Number) (hart budget count index : ℕ) (e : EncNo) where
  pub breaking_restarts : (first : Bool) → LineUnderWay setup bytes_of rec number hart (Some (run_line first e budget)) (Breaking count index)
      → IsRestarting setup bytes_of (rec e.0) (number e.0) hart budget count index
  breaking_restarts true k = k
  breaking_restarts false k = k

  pub breaking_is : (first : Bool) → IsRestarting setup bytes_of (rec e.0) (number e.0) hart budget count index
      → LineUnderWay setup bytes_of rec number hart (Some (run_line first e budget)) (Breaking count index)
  breaking_is true k = k
  breaking_is false k = k
