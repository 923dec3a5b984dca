-- Who posted a fence of a number's space; and a hart with a number under way has acknowledged every fence of it.
use Rattle.std.proofs.Common.{◌≡◌, ◌≢◌, ◌⊎◌, ℕ, ◌+◌, ◌<◌, List, Option, Some, None, slice_set, sym, ap, ◌∙◌, subst, arith, refl, inl, inr}
use Rattle.pl_base.specs.declared.number.EncNo.{EncNo}
use Rattle.pl_base.specs.declared.number.Space.{Space}
use Rattle.pl_base.specs.declared.state.State.TheVariants as state_is
use Rattle.mon_enclave.specs.declared.enclave.Enclave.{Enclave}
use Rattle.mon_fence.specs.declared.fences.Fence.{Fence}
use Rattle.mon_fence.specs.Fences.{fence_of, without_need}
use Rattle.mon_fence.proofs.Needs.{fence_of-set_other, fence_of-set_same}
use Rattle.mon_host.specs.Leaves.{host_space}
use Rattle.mon_tables.specs.Space.{vpn_of_page}
use Rattle.pl_history.specs.declared.line.Line.{Line}
use Rattle.pl_history.specs.declared.line.Line.TheVariants.{Destroy, Resume, Run}
use Rattle.pl_history.specs.declared.setup.SetupParts.{SetupParts}
use Rattle.pl_history.specs.Monitor.{Number}
use Rattle.world_machine.specs.declared.under.Under.{Under}
use Rattle.world_machine.specs.declared.under.Under.TheVariants.{Breaking, Destroying}
use Rattle.world_machine.specs.Accesses.{HasAcknowledged}
use Rattle.world_machine.specs.FencesStand.{NumberFenceStands, IsBreaking, IsOfNumber, IsOwed}
use Rattle.world_machine.specs.LinesUnderWay.{LineUnderWay, number_under_way}
use Rattle.world_machine.specs.Standing.{Kept}
use Rattle.world_machine.specs.Worlds.{WorldData, hart_line, under_at}
use Rattle.world_machine.proofs.Lists.{everywhere}

pub same_fence : (a b : Fence) → Some a ≡ Some b → a ≡ b
same_fence a b is = cc

-- the space of a number isn't the host's, and is no other number's
pub number_not_host : (fence : Fence) (e : ℕ) → IsOfNumber fence e → fence.space ≡ host_space → ⊥
number_not_host fence e of_number of_host = (let h : e + 1 ≡ 0 = ap (λ (space : Space). space.0) (sym of_number ∙ of_host) in omega (arith, h))

pub one_number : (fence : Fence) (d e : ℕ) → IsOfNumber fence d → IsOfNumber fence e → d ≡ e
one_number fence d e of_one of_other = (let h : d + 1 ≡ e + 1 = ap (λ (space : Space). space.0) (sym of_one ∙ of_other) in omega (arith, h))

-- ---- the fence of a line

-- a fence that needs one hart less is of the same space and page
acked_breaks : (fence : Fence) (hart e index : ℕ) → IsBreaking (Some fence) e index → IsBreaking (Some (without_need hart fence)) e index
acked_breaks fence hart e index k =
    let same : fence ≡ k.posted = same_fence fence k.posted k.is in
    record {
      posted = without_need hart fence;
      is = refl;
      of_number = ap (λ (x : Fence). x.space) same ∙ k.of_number;
      of_page = ap (λ (x : Fence). x.vpn) same ∙ k.of_page;
    }

pub acked_gives : (line : Option Line) (under : Under) (fence : Fence) (hart : ℕ) → NumberFenceStands line under (Some fence) → NumberFenceStands line under (Some (without_need hart fence))
acked_gives (Some (Destroy e)) Destroying fence hart k =
    let same : fence ≡ k.posted = same_fence fence k.posted k.is in
    record {
      posted = without_need hart fence;
      is = refl;
      of_number = ap (λ (x : Fence). x.space) same ∙ k.of_number;
      whole = ap (λ (x : Fence). x.vpn) same ∙ k.whole;
    }
acked_gives (Some (Run e budget)) (Breaking count index) fence hart k = acked_breaks fence hart e.0 index k
acked_gives (Some (Resume e budget)) (Breaking count index) fence hart k = acked_breaks fence hart e.0 index k
acked_gives line under fence hart k = k

-- ---- the line with the fence of a number

-- a line gives the number back
abbrev pub IsGivenBack : ℕ → Option Line → Under → Fence → Type 0
IsGivenBack e line under fence = (line ≡ Some (Destroy (record { 0 = e }))) × (under ≡ Destroying) × (fence.vpn ≡ None)

-- a line broke a page of the number under way
pub record BrokePage (under : Under) (fence : Fence) : Type 0 where
  pub count : ℕ
  pub index : ℕ
  pub breaking : under ≡ Breaking count index
  pub of_page : fence.vpn ≡ Some (vpn_of_page index)

broke_page : (fence : Fence) (e count index : ℕ) → IsBreaking (Some fence) e index → BrokePage (Breaking count index) fence
broke_page fence e count index k =
    record { count = count; index = index; breaking = refl; of_page = ap (λ (x : Fence). x.vpn) (same_fence fence k.posted k.is) ∙ k.of_page }

-- it has that number under way
of_line : (fence posted : Fence) (d : EncNo) (e : ℕ) → Some fence ≡ Some posted → IsOfNumber posted d.0 → IsOfNumber fence e → d.0 ≡ e
of_line fence posted d e is of_one of_number = one_number fence d.0 e (ap (λ (x : Fence). x.space) (same_fence fence posted is) ∙ of_one) of_number

pub fence_under_way : (line : Option Line) (under : Under) (fence : Fence) (e : ℕ) → IsOfNumber fence e → NumberFenceStands line under (Some fence) → number_under_way line under ≡ Some e
fence_under_way (Some (Destroy d)) Destroying fence e of_number k = ap Some (of_line fence k.posted d e k.is k.of_number of_number)
fence_under_way (Some (Run d budget)) (Breaking count index) fence e of_number k = ap Some (of_line fence k.posted d e k.is k.of_number of_number)
fence_under_way (Some (Resume d budget)) (Breaking count index) fence e of_number k = ap Some (of_line fence k.posted d e k.is k.of_number of_number)
fence_under_way line under fence e of_number of_host = absurd (number_not_host fence e of_number of_host)

module _ (setup : SetupParts) (bytes : ℕ → List ℕ) (rec : ℕ → Enclave) (number : ℕ → Number) where
  -- the record of a number that a fence is of: it is dying, and its hart gives it back, or it is on, and its hart broke a page
  abbrev pub IsPosted : ℕ → Option Line → Under → Fence → Type 0
  IsPosted e line under fence =
      (IsGivenBack e line under fence × ((rec e).state ≡ state_is.Dying)) ⊎ (((rec e).state ≡ state_is.On) × BrokePage under fence)

  pub number_posts : (hart e : ℕ) (line : Option Line) (under : Under) (fence : Fence) → IsOfNumber fence e → NumberFenceStands line under (Some fence)
      → LineUnderWay setup bytes rec number hart line under → IsPosted e line under fence
  number_posts hart e (Some (Destroy d)) Destroying fence of_number k dying =
      let same : d.0 ≡ e = of_line fence k.posted d e k.is k.of_number of_number in
      inl (
        (ap (λ n. Some (Destroy (record { 0 = n }))) same, refl, ap (λ (x : Fence). x.vpn) (same_fence fence k.posted k.is) ∙ k.whole),
        subst (λ n. (rec n).state ≡ state_is.Dying) same dying,
      )
  number_posts hart e (Some (Run d budget)) (Breaking count index) fence of_number k running =
      inr (subst (λ n. (rec n).state ≡ state_is.On) (of_line fence k.posted d e k.is k.of_number of_number) running.running.state, broke_page fence d.0 count index k)
  number_posts hart e (Some (Resume d budget)) (Breaking count index) fence of_number k running =
      inr (subst (λ n. (rec n).state ≡ state_is.On) (of_line fence k.posted d e k.is k.of_number of_number) running.running.state, broke_page fence d.0 count index k)
  number_posts hart e line under fence of_number of_host k = absurd (number_not_host fence e of_number of_host)

  -- so a number of which a fence is owed is dying, or on
  pub owed_state : (fences : List (Option Fence)) (line_of : ℕ → Option Line) (under_of : ℕ → Under)
      → ((hart : ℕ) → LineUnderWay setup bytes rec number hart (line_of hart) (under_of hart)) → ((hart : ℕ) → NumberFenceStands (line_of hart) (under_of hart) (fence_of fences hart))
      → (hart e vpn : ℕ) → IsOwed fences hart e vpn → ((rec e).state ≡ state_is.Dying) ⊎ ((rec e).state ≡ state_is.On)
  owed_state fences line_of under_of lines giving hart e vpn owed =
      elim (number_posts owed.poster e (line_of owed.poster) (under_of owed.poster) owed.fence owed.of_number
      (subst (NumberFenceStands (line_of owed.poster) (under_of owed.poster)) owed.is (giving owed.poster)) (lines owed.poster)) [
        | inl given ↦ inl given.1
        | inr broke ↦ inr broke.0
      ]

-- ---- who has a number under way

-- the hart that posted a fence of the number has it under way, and a fence needs only others
pub runs_acknowledged : (digest_of : List ℕ → List ℕ) (w : WorldData) → Kept digest_of w → (hart e : ℕ) → number_under_way (hart_line w hart) (under_at w.under hart) ≡ Some e
    → HasAcknowledged w hart e
runs_acknowledged digest_of w k hart e runs vpn owed =
    let posts : number_under_way (hart_line w owed.poster) (under_at w.under owed.poster) ≡ Some e
    = fence_under_way (hart_line w owed.poster) (under_at w.under owed.poster) owed.fence e owed.of_number
    (subst (NumberFenceStands (hart_line w owed.poster) (under_at w.under owed.poster)) owed.is (k.stands.translations.giving owed.poster)) in
    (k.stands.translations.fences_stand.needs_others.others owed.poster hart owed.needed).1 (k.stands.apart hart owed.poster e runs posts)

-- ---- the fence of one hart changes

module _ (digest_of : List ℕ → List ℕ) (w : WorldData) (k : Kept digest_of w) (hart : ℕ) (below : hart < w.setup.harts) (now : Option Fence) (line' : ℕ → Option Line) (under' : ℕ → Under)
    (lines : (other : ℕ) → other ≢ hart → line' other ≡ hart_line w other) (unders : (other : ℕ) → other ≢ hart → under' other ≡ under_at w.under other) where
  -- all harts' lines have the fences that they should, where its own has
  pub giving_set : NumberFenceStands (line' hart) (under' hart) now → (other : ℕ) → NumberFenceStands (line' other) (under' other) (fence_of (slice_set w.fences hart now) other)
  giving_set own = everywhere (λ h. NumberFenceStands (line' h) (under' h) (fence_of (slice_set w.fences hart now) h)) hart
      (subst (NumberFenceStands (line' hart) (under' hart)) (sym (fence_of-set_same w.fences hart now (subst (λ n. hart < n) (sym k.stands.translations.fences_stand.size) below))) own)
      (λ h other. subst (λ l. NumberFenceStands l (under' h) (fence_of (slice_set w.fences hart now) h)) (sym (lines h other))
      (subst (λ u. NumberFenceStands (hart_line w h) u (fence_of (slice_set w.fences hart now) h)) (sym (unders h other))
      (subst (NumberFenceStands (hart_line w h) (under_at w.under h)) (sym (fence_of-set_other w.fences hart h now other)) (k.stands.translations.giving h))))
