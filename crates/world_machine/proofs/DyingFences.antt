-- In a kept world dying numbers and broken pages have their fences, and each other fence is one of an open removal.
use Rattle.std.proofs.Common.{◌≡◌, ◌⊎◌, ℕ, ◌==◌, Bool, true, false, if◌then◌else◌, List, Option, Some, None, option_map, refl, sym, ap, ◌∙◌, subst, inl, inr}
use Rattle.pl_base.specs.declared.number.EncNo.{EncNo}
use Rattle.mon_enclave.specs.declared.enclave.Enclave.{Enclave}
use Rattle.mon_enclave.specs.Records.{enclave_at}
use Rattle.mon_fence.specs.declared.fences.Fence.{Fence}
use Rattle.mon_fence.specs.Fences.{fence_of}
use Rattle.mon_tables.specs.Space.{Mapping}
use Rattle.pl_history.specs.declared.line.AttackLine.{AttackLine}
use Rattle.pl_history.specs.declared.line.Line.{Line}
use Rattle.pl_history.specs.declared.line.Line.TheVariants.{Destroy, Resume, Run}
use Rattle.pl_history.specs.declared.setup.SetupParts.{SetupParts}
use Rattle.pl_history.specs.Legal.{line_at, of_attacker, of_hart}
use Rattle.pl_history.specs.Monitor.{Monitor, Number, Progress}
use Rattle.world_machine.specs.declared.under.Under.{Under}
use Rattle.world_machine.specs.declared.under.Under.TheVariants.{Idle, Seeking, Removing, Destroying, Putting, Running, Breaking}
use Rattle.world_machine.specs.DyingNumbers.{BrokeFor, Dies, DyingNumbersFenced, GivesBack, HasBreakFence, HasFence}
use Rattle.world_machine.specs.FencesStand.{FenceStands, NumberFenceStands, IsBreaking, IsOfNumber, IsOfRemoval, removals_by}
use Rattle.world_machine.specs.LinesUnderWay.{LineUnderWay, number_under_way}
use Rattle.world_machine.specs.RecordsAgree.{is_begun, progress_of}
use Rattle.world_machine.specs.Standing.{Kept, state_of, written_page}
use Rattle.world_machine.specs.Worlds.{WorldData, hart_line, under_at}
use Rattle.world_machine.proofs.DyingNumbers.{IsGivenBackBy, legal_given}
use Rattle.world_machine.proofs.Leaving.{fence_under_way, number_posts}

-- a line of a hart is in the script of that hart
pub in_script : (attackers : Bool) (a : Option AttackLine) (b : Option Line) (line : Line)
    → (if attackers then option_map of_attacker a else option_map of_hart b) ≡ Some (of_hart line) → b ≡ Some line
in_script true None b line is = cc
in_script true (Some x) b line is = cc
in_script false a None line is = cc
in_script false a (Some x) line is = ap Some (let same : x ≡ line = cc in same)

-- a begun `destroy` gives its number back
gives_back : (setup : SetupParts) (bytes : ℕ → List ℕ) (rec : ℕ → Enclave) (number : ℕ → Number) (hart : ℕ) (e : EncNo) (under : Under)
    → LineUnderWay setup bytes rec number hart (Some (Destroy e)) under → is_begun under ≡ true → under ≡ Destroying
gives_back setup bytes rec number hart e Idle stands begun = cc
gives_back setup bytes rec number hart e (Seeking walk) stands begun = absurd stands
gives_back setup bytes rec number hart e (Removing page) stands begun = absurd stands
gives_back setup bytes rec number hart e (Putting done) stands begun = absurd stands
gives_back setup bytes rec number hart e (Running micro count) stands begun = absurd stands
gives_back setup bytes rec number hart e (Breaking count index) stands begun = absurd stands
gives_back setup bytes rec number hart e Destroying stands begun = refl

-- the line of a break is of the number whose page it broke
record IsOfBreak (line : Option Line) (under : Under) (fence : Option Fence) (index : ℕ) : Type 0 where
  pub e : ℕ
  pub under_way : number_under_way line under ≡ Some e
  pub fence_is : IsBreaking fence e index

of_break : (setup : SetupParts) (bytes : ℕ → List ℕ) (rec : ℕ → Enclave) (number : ℕ → Number) (hart : ℕ) (line : Option Line) (count index : ℕ) (fence : Option Fence)
    → LineUnderWay setup bytes rec number hart line (Breaking count index) → NumberFenceStands line (Breaking count index) fence → IsOfBreak line (Breaking count index) fence index
of_break setup bytes rec number hart (Some (Run e budget)) count index fence stands giving = record { e = e.0; under_way = refl; fence_is = giving }
of_break setup bytes rec number hart (Some (Resume e budget)) count index fence stands giving = record { e = e.0; under_way = refl; fence_is = giving }
of_break setup bytes rec number hart line count index fence stands giving = absurd stands

module _ (digest_of : List ℕ → List ℕ) (w : WorldData) (k : Kept digest_of w) where
  abbrev s : Monitor
  s = state_of w

  has_break_fence : (hart count index : ℕ) → under_at w.under hart ≡ Breaking count index → HasBreakFence w hart count index
  has_break_fence hart count index is =
      let so = of_break w.setup (written_page w) (enclave_at w.enclaves) s.number hart (hart_line w hart) count index (fence_of w.fences hart)
      (subst (LineUnderWay w.setup (written_page w) (enclave_at w.enclaves) s.number hart (hart_line w hart)) is (k.stands.lines hart))
      (subst (λ u. NumberFenceStands (hart_line w hart) u (fence_of w.fences hart)) is (k.stands.translations.giving hart)) in
      record { e = so.e; under_way = ap (number_under_way (hart_line w hart)) is ∙ so.under_way; fence = so.fence_is }

  module _ (e : ℕ) (g : IsGivenBackBy w.setup s e) where
    abbrev gives : Line
    gives = Destroy (record { 0 = e })

    progress : s.progress g.hart ≡ progress_of w.under w.answered g.hart
    progress = k.stands.progress g.hart

    line : hart_line w g.hart ≡ Some gives
    line = in_script (g.hart == w.setup.harts) _ (hart_line w g.hart) gives (ap (λ (p : Progress). line_at w.setup g.hart p.answered) (sym progress) ∙ g.line)

    begun : under_at w.under g.hart ≡ Destroying
    begun = gives_back w.setup (written_page w) (enclave_at w.enclaves) s.number g.hart (record { 0 = e }) (under_at w.under g.hart)
        (subst (λ l. LineUnderWay w.setup (written_page w) (enclave_at w.enclaves) s.number g.hart l (under_at w.under g.hart)) line (k.stands.lines g.hart))
        (ap (λ (p : Progress). p.begun) (sym progress) ∙ g.begun)

    giving : NumberFenceStands (Some gives) Destroying (fence_of w.fences g.hart)
    giving = subst (λ u. NumberFenceStands (Some gives) u (fence_of w.fences g.hart)) begun
        (subst (λ l. NumberFenceStands l (under_at w.under g.hart) (fence_of w.fences g.hart)) line (k.stands.translations.giving g.hart))

    has_fence : HasFence w e
    has_fence = record {
      hart = g.hart;
      fence = giving.posted;
      is = giving.is;
      gives = record { line = line; begun = begun; of_number = giving.of_number; whole = giving.whole };
    }

  module _ (hart : ℕ) (fence : Fence) (is : fence_of w.fences hart ≡ Some fence) where
    abbrev removed : List Mapping
    removed = removals_by s.removals hart

    -- of a number: its hart gives it back, or broke a page
    abbrev OfNumber : ℕ → Type 0
    OfNumber e = (GivesBack w hart e fence × Dies w e) ⊎ BrokeFor w hart e fence

    by_number : (e : ℕ) → IsOfNumber fence e → OfNumber e
    by_number e of_number =
        elim (number_posts w.setup (written_page w) (enclave_at w.enclaves) s.number hart e (hart_line w hart) (under_at w.under hart) fence of_number gives (k.stands.lines hart)) [
          | inl given ↦ inl (record { line = given.0.0; begun = given.0.1; of_number = of_number; whole = given.0.2 }, given.1)
          | inr broke ↦ inr (record {
            under_way = fence_under_way (hart_line w hart) (under_at w.under hart) fence e of_number gives;
            count = broke.1.count;
            index = broke.1.index;
            breaking = broke.1.breaking;
            of_number = of_number;
            of_page = broke.1.of_page;
          })
        ]
      where
        gives : NumberFenceStands (hart_line w hart) (under_at w.under hart) (Some fence)
        gives = subst (NumberFenceStands (hart_line w hart) (under_at w.under hart)) is (k.stands.translations.giving hart)

    by_kind : FenceStands (Some fence) removed → IsOfRemoval fence removed ⊎ ((e : ℕ) × OfNumber e)
    by_kind (inl of_removal) = inl of_removal
    by_kind (inr (e, of_number, none)) = inr (e, by_number e of_number)

    of_one : IsOfRemoval fence removed ⊎ ((e : ℕ) × OfNumber e)
    of_one = by_kind (subst (λ f. FenceStands f removed) is (k.stands.translations.fences_stand.each hart))

  pub dying_fenced : DyingNumbersFenced w
  dying_fenced = record {
    fenced = λ e dies. has_fence e (legal_given w.setup w.history.bytes w.history.entries k.legal e ((k.stands.records e).state ∙ dies));
    broken = has_break_fence;
    others = of_one;
  }
