-- How far a load or a store of the host is: what is known of its line and its walk.
use Rattle.std.proofs.Common.{◌≡◌, ◌⊎◌, ℕ, ◌%◌, false, List, Some, None, refl, sym, ap, ◌∙◌, subst, inl, inr}
use Rattle.pl_base.specs.declared.address.Va.{Va}
use Rattle.pl_base.specs.declared.refusal.No.{No}
use Rattle.rv_hart.specs.declared.walks.Walk.{Walk}
use Rattle.rv_hart.specs.declared.walks.Walk.TheVariants.{Start}
use Rattle.rv_tlb.specs.declared.tlb.TlbEntry.{TlbEntry}
use Rattle.mon_enclave.specs.declared.enclave.Enclave.{Enclave}
use Rattle.mon_enclave.specs.Records.{enclave_at}
use Rattle.pl_history.specs.declared.answer.Answer.TheVariants as answer_is
use Rattle.pl_history.specs.declared.setup.SetupParts.{SetupParts}
use Rattle.pl_history.specs.Legal.{after_answer}
use Rattle.pl_history.specs.Licence.{host_tables, pages_concerned}
use Rattle.pl_history.specs.Monitor.{Monitor, Number, answer}
use Rattle.world_machine.specs.declared.under.Under.{Under}
use Rattle.world_machine.specs.declared.under.Under.TheVariants.{Idle, Seeking}
use Rattle.world_machine.specs.BytesAgree.{HasPut}
use Rattle.world_machine.specs.HostAccessing.{WordAccess, loads, stores}
use Rattle.world_machine.specs.LinesUnderWay.{LineUnderWay, number_under_way}
use Rattle.world_machine.specs.RecordsAgree.{is_begun}
use Rattle.world_machine.specs.Standing.{Kept, state_of}
use Rattle.world_machine.specs.Translating.{host_view}
use Rattle.world_machine.specs.TranslationsAgree.{IsFresh, WalkStands, WalkingStands, walking}
use Rattle.world_machine.specs.Worlds.{WorldData, hart_line, under_at}
use Rattle.world_machine.proofs.HostAnswers.{access_line}
use Rattle.world_machine.proofs.HostOutcomes.{HostLine}
use Rattle.world_machine.proofs.TranslationFrames.{removal_so}

-- the walk is at its start before the line's first event, and then goes on
abbrev pub IsSoFar : Under → Walk → Type 0
IsSoFar under walk = ((under ≡ Idle) × (walk ≡ Start)) ⊎ (under ≡ Seeking walk)

-- the line of a hart is this access, at a multiple of 8, and its walk is so far
pub record IsAccess (w : WorldData) (hart : ℕ) (va : Va) (access : WordAccess) (walk : Walk) : Type 0 where
  pub here : hart_line w hart ≡ Some (access_line va access)
  pub so_far : IsSoFar (under_at w.under hart) walk
  pub aligned : va.0 % 8 ≡ 0

so_far_not_begun : (under : Under) (walk : Walk) → IsSoFar under walk → is_begun under ≡ false
so_far_not_begun under walk (inl first) = ap is_begun first.0
so_far_not_begun under walk (inr later) = ap is_begun later

-- what the line of an access concerns, and that a refusal changes nothing
access_concerns : (setup : SetupParts) (s : Monitor) (va : Va) (access : WordAccess) → pages_concerned setup s (access_line va access) ≡ host_tables setup.tables va
access_concerns setup s va loads = refl
access_concerns setup s va (stores word) = refl

access_changes : (s : Monitor) (hart : ℕ) (va : Va) (access : WordAccess) (cause : No) → after_answer s hart (access_line va access) (answer_is.No cause) ≡ answer s hart
access_changes s hart va loads cause = refl
access_changes s hart va (stores word) cause = refl

-- the line of an access under way
pub access_stands : (setup : SetupParts) (bytes_of : ℕ → List ℕ) (rec : ℕ → Enclave) (of : ℕ → Number) (hart : ℕ) (va : Va) (access : WordAccess) (walk : Walk) → va.0 % 8 ≡ 0
    → LineUnderWay setup bytes_of rec of hart (Some (access_line va access)) (Seeking walk)
access_stands setup bytes_of rec of hart va loads walk aligned = aligned
access_stands setup bytes_of rec of hart va (stores word) walk aligned = aligned

-- and that it stands at a multiple of 8
pub access_aligned : (setup : SetupParts) (bytes_of : ℕ → List ℕ) (rec : ℕ → Enclave) (of : ℕ → Number) (hart : ℕ) (va : Va) (access : WordAccess) (walk : Walk)
    → LineUnderWay setup bytes_of rec of hart (Some (access_line va access)) (Seeking walk) → va.0 % 8 ≡ 0
access_aligned setup bytes_of rec of hart va loads walk stands = stands
access_aligned setup bytes_of rec of hart va (stores word) walk stands = stands

pub access_number : (va : Va) (access : WordAccess) (walk : Walk) → number_under_way (Some (access_line va access)) (Seeking walk) ≡ None
access_number va loads walk = refl
access_number va (stores word) walk = refl

pub access_put : (va : Va) (access : WordAccess) (walk : Walk) (page : ℕ) → HasPut (Some (access_line va access)) (Seeking walk) page → ⊥
access_put va loads walk page put = put
access_put va (stores word) walk page put = put

pub access_walking : (tables : ℕ) (rec : ℕ → Enclave) (va : Va) (access : WordAccess) (walk : Walk)
    → walking tables rec (Some (access_line va access)) (Seeking walk) ≡ Some (record { view = host_view tables; va = va; walk = walk })
access_walking tables rec va loads walk = refl
access_walking tables rec va (stores word) walk = refl

module _ (digest_of : List ℕ → List ℕ) (w : WorldData) (k : Kept digest_of w) (hart : ℕ) (va : Va) (access : WordAccess) (here : hart_line w hart ≡ Some (access_line va access)) where
  abbrev s : Monitor
  s = state_of w

  line_by : (walk : Walk) → IsSoFar (under_at w.under hart) walk → HostLine w hart (access_line va access) va
  line_by walk so_far = record {
    here = here;
    not_begun = so_far_not_begun (under_at w.under hart) walk so_far;
    no_removal = elim so_far [
      | inl first ↦ removal_so digest_of w k hart Idle first.0 refl
      | inr later ↦ removal_so digest_of w k hart (Seeking walk) later refl
    ];
    concerned = access_concerns w.setup s va access;
    changes_none = access_changes s hart va access;
  }

  -- before the first event
  pub idle_access_is : under_at w.under hart ≡ Idle → HostLine w hart (access_line va access) va
  idle_access_is so_far = line_by Start (inl (so_far, refl))

module _ (digest_of : List ℕ → List ℕ) (w : WorldData) (k : Kept digest_of w) (hart : ℕ) (va : Va) (access : WordAccess) (walk : Walk) (is : IsAccess w hart va access walk) where
  abbrev Fresh : TlbEntry → Type 0
  Fresh = IsFresh w.setup (enclave_at w.enclaves) (state_of w) w.fences hart

  pub access_line_is : HostLine w hart (access_line va access) va
  access_line_is = line_by digest_of w k hart va access is.here walk is.so_far

  -- the walk stands
  pub access_walk_stands : WalkStands w.ctl Fresh (host_view w.setup.tables) va walk
  access_walk_stands = by_so_far is.so_far
    where
      by_so_far : IsSoFar (under_at w.under hart) walk → WalkStands w.ctl Fresh (host_view w.setup.tables) va walk
      by_so_far (inl first) = subst (WalkStands w.ctl Fresh (host_view w.setup.tables) va) (sym first.1) tt
      by_so_far (inr later) =
          subst (WalkingStands w.ctl Fresh)
          (ap (λ l. walking w.setup.tables (enclave_at w.enclaves) l (under_at w.under hart)) is.here
          ∙ ap (walking w.setup.tables (enclave_at w.enclaves) (Some (access_line va access))) later ∙ access_walking w.setup.tables (enclave_at w.enclaves) va access walk)
          (k.stands.translations.fresh.walks hart)
