-- A number whose run is under way: from what a world keeps to its live record, and back after an instruction.
use Rattle.std.proofs.Common.{◌≡◌, ℕ, ◌+◌, ◌<◌, ◌≤◌, Bool, true, List, Some, refl, ap, sym, ◌∙◌, subst, arith}
use Rattle.pl_base.specs.declared.access.Kind.{Kind}
use Rattle.pl_base.specs.declared.state.State.{State}
use Rattle.pl_base.specs.declared.state.State.TheVariants as state_is
use Rattle.pl_base.specs.declared.state.Why.{Why}
use Rattle.pl_base.specs.declared.state.Why.TheVariants.{Budget, Ended, Fault, NeedPage, OutFull, Trapped, Waiting}
use Rattle.pl_base.specs.States.{state_left}
use Rattle.mem_geom.specs.Parts.{page_bytes}
use Rattle.mon_enclave.specs.declared.enclave.Enclave.{Enclave}
use Rattle.mon_image.specs.declared.image.Image.{Image}
use Rattle.mon_owner.specs.declared.owners.Owner.{Owner}
use Rattle.rv_alone.specs.Effect.{act_of}
use Rattle.rv_alone.specs.Flat.{fetched}
use Rattle.rv_hart.specs.declared.walks.Micro.{Micro}
use Rattle.rv_hart.specs.declared.walks.Micro.TheVariants.{Fetching, Reaching}
use Rattle.rv_hart.specs.declared.walks.Walk.TheVariants.{Start}
use Rattle.pl_history.specs.declared.setup.SetupParts.{SetupParts}
use Rattle.pl_history.specs.Monitor.{Number}
use Rattle.world_machine.specs.ByteBounds.{AreImageBytes}
use Rattle.world_machine.specs.EnclavesAgree.{EnclaveStands}
use Rattle.world_machine.specs.LinesUnderWay.{IsRunning, access_of}
use Rattle.world_machine.specs.Making.{image_of}
use Rattle.world_machine.specs.Pages.{flat_pages, numbers_of}
use Rattle.world_machine.specs.RecordsAgree.{LiveAgrees, RecordAgrees, RetiredAgrees, parent_of}
use Rattle.world_machine.specs.Running.{retired_with}
use Rattle.world_machine.proofs.Instructions.{Retires}
use Rattle.world_machine.proofs.LeavingRuns.{IsCounted}
use Rattle.world_machine.proofs.LiveEnclaves.{IsLive, image_found, live_of, status_on}
use Rattle.world_machine.proofs.StandingEnclaves.{left_number, left_record}

-- The record of a run under way is the state of its image run alone, and the monitor counts so many instructions less.
pub record RunsAlone (setup : SetupParts) (memory : List ℕ) (image : Image) (r : Enclave) (n : Number) (count : ℕ) : Type 0 where
  pub image_is : image_of setup r.image ≡ image
  pub same_image : n.image ≡ r.image
  pub n_live : n.live ≡ true
  pub live : IsLive image memory r
  pub counted : IsCounted r n count

pub on_live : (state : State) (live : Bool) → state ≡ state_is.On → LiveAgrees state live → live ≡ true
on_live state live is agrees = subst (λ st. LiveAgrees st live) is agrees

pub runs_alone : (setup : SetupParts) (memory : List ℕ) (owners : List Owner) (e : ℕ) (r : Enclave) (n : Number) (hart budget count : ℕ) (micro : Micro) (s : EnclaveStands setup (page_bytes memory) owners e r n) → AreImageBytes setup.images
    → RecordAgrees r n → IsRunning setup (page_bytes memory) r n hart budget count micro → RunsAlone setup memory s.image r n count
runs_alone setup memory owners e r n hart budget count micro s bytes agrees running =
    let n_live : n.live ≡ true = on_live r.state n.live running.state agrees.live in
    record {
      image_is = image_found setup r.image s.image s.image_is;
      same_image = agrees.image;
      n_live = n_live;
      live = live_of setup memory owners e r n s bytes n_live (status_on r.state s.state.now.status running.state s.state.status);
      counted = record { sent = agrees.sent; retired = running.retired };
    }

-- ---- an instruction retires, and the run goes on

on_agrees : (state : State) (retired n : ℕ) → state ≡ state_is.On → n ≤ retired → RetiredAgrees state retired n
on_agrees state retired n is few = subst (λ st. RetiredAgrees st retired n) (sym is) few

pub records_retired : (image : Image) (before after : ℕ → List ℕ) (r now : Enclave) (n : Number) (count : ℕ) → r.state ≡ state_is.On → IsCounted r n count → Retires image.pages before after r now
    → RecordAgrees r n → RecordAgrees now n
records_retired image before after r now n count is_on counted retires agrees =
    let state : now.state ≡ r.state = ap (λ (x : Enclave). x.state) retires.kept in
    record {
      state = agrees.state ∙ sym state;
      live = subst (λ st. LiveAgrees st n.live) (sym state) agrees.live;
      hart = agrees.hart ∙ sym (ap (λ (x : Enclave). x.hart.0) retires.kept);
      image = agrees.image ∙ sym (ap (λ (x : Enclave). x.image) retires.kept);
      given = agrees.given ∙ sym (ap (λ (x : Enclave). x.given) retires.kept);
      parent = agrees.parent ∙ sym (ap (λ (x : Enclave). parent_of x.parent) retires.kept);
      sent = agrees.sent ∙ sym (ap (λ (x : Enclave). x.sent) retires.kept);
      taken = agrees.taken ∙ sym (ap (λ (x : Enclave). x.taken) retires.kept);
      retired = on_agrees now.state now.retired n.retired (state ∙ is_on) (more retires.retired counted.retired);
    }
  where
    more : now.retired ≡ r.retired + 1 → r.retired ≡ n.retired + count → n.retired ≤ now.retired
    more one so_far = omega arith

pub running_more : (setup : SetupParts) (image : Image) (before after : ℕ → List ℕ) (r now : Enclave) (n : Number) (hart budget count : ℕ) (micro : Micro)
    → IsRunning setup before r n hart budget count micro → Retires image.pages before after r now → count + 1 < budget → IsRunning setup after now n hart budget (count + 1) (Fetching Start)
running_more setup image before after r now n hart budget count micro running retires below = record {
  state = ap (λ (x : Enclave). x.state) retires.kept ∙ running.state;
  hart_is = ap (λ (x : Enclave). x.hart.0) retires.kept ∙ running.hart_is;
  within = below;
  retired = one_more retires.retired running.retired;
  instruction = tt;
}
  where
    one_more : now.retired ≡ r.retired + 1 → r.retired ≡ n.retired + count → now.retired ≡ n.retired + (count + 1)
    one_more one so_far = omega arith

-- an instruction that loads or stores is fetched, and its data is sought
pub running_reaches : (setup : SetupParts) (bytes_of : ℕ → List ℕ) (image : Image) (r : Enclave) (n : Number) (hart budget count word : ℕ) (micro : Micro)
    → IsRunning setup bytes_of r n hart budget count micro → image_of setup r.image ≡ image → fetched (flat_pages bytes_of image.pages (numbers_of r.pages)) r.context.pc ≡ Some word
    → (access : Kind × ℕ) → access_of (act_of r.context word) ≡ Some access → IsRunning setup bytes_of r n hart budget count (Reaching word Start)
running_reaches setup bytes_of image r n hart budget count word micro running image_is is access access_is = record {
  state = running.state;
  hart_is = running.hart_is;
  within = running.within;
  retired = running.retired;
  instruction = (
    access,
    record { word_is = subst (λ (i : Image). fetched (flat_pages bytes_of i.pages (numbers_of r.pages)) r.context.pc ≡ Some word) (sym image_is) is; access_is = access_is },
  );
}

-- ---- the run leaves

left_live : (why : Why) (live : Bool) → live ≡ true → LiveAgrees (state_left why) live
left_live (Ended code) live is = is
left_live Budget live is = is
left_live Waiting live is = is
left_live OutFull live is = is
left_live NeedPage live is = is
left_live (Trapped cause value) live is = is
left_live (Fault place) live is = tt

left_retired : (why : Why) (retired n : ℕ) → retired ≡ n → RetiredAgrees (state_left why) retired n
left_retired (Ended code) retired n is = is
left_retired Budget retired n is = is
left_retired Waiting retired n is = is
left_retired OutFull retired n is = is
left_retired NeedPage retired n is = is
left_retired (Trapped cause value) retired n is = is
left_retired (Fault place) retired n is = is

pub records_left : (r : Enclave) (n : Number) (count : ℕ) (why : Why) → r.retired ≡ n.retired + count → n.live ≡ true → RecordAgrees r n → RecordAgrees (left_record r why) (left_number n count why)
records_left r n count why retired n_live agrees = record {
  state = refl;
  live = left_live why n.live n_live;
  hart = agrees.hart;
  image = agrees.image;
  given = agrees.given;
  parent = agrees.parent;
  sent = agrees.sent;
  taken = agrees.taken;
  retired = left_retired why r.retired (n.retired + count) retired;
}

-- EXIT retires with nothing else changed
pub records_ended : (r : Enclave) (n : Number) (count code : ℕ) → r.retired ≡ n.retired + count → n.live ≡ true → RecordAgrees r n
    → RecordAgrees (left_record (retired_with r r.context) (Ended code)) (left_number n (count + 1) (Ended code))
records_ended r n count code retired n_live agrees = record {
  state = refl;
  live = n_live;
  hart = agrees.hart;
  image = agrees.image;
  given = agrees.given;
  parent = agrees.parent;
  sent = agrees.sent;
  taken = agrees.taken;
  retired = one_more retired;
}
  where
    one_more : r.retired ≡ n.retired + count → r.retired + 1 ≡ n.retired + (count + 1)
    one_more so_far = omega arith
