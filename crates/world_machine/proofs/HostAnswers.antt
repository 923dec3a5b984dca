-- What a load or a store of the host may be answered.
use Rattle.std.proofs.Common.{◌≡◌, ℕ, ◌+◌, ◌%◌, ◌==◌, Bool, true, false, not, [], ◌∷◌, Option, Some, None, refl, sym, ap, ◌∙◌, subst, inr}
use Rattle.std.specs.Prelude.{if◌then◌else◌}
use Rattle.pl_base.specs.Address.{vpn_of}
use Rattle.pl_base.specs.Perms.{grants}
use Rattle.pl_base.specs.Refusals.{first_refusal, refuse}
use Rattle.pl_base.specs.declared.access.Kind.{Kind}
use Rattle.pl_base.specs.declared.address.Va.{Va}
use Rattle.pl_base.specs.declared.place.Place.{Place}
use Rattle.pl_base.specs.declared.refusal.No.{No}
use Rattle.pl_base.specs.declared.refusal.No.TheVariants as refused
use Rattle.mem_geom.specs.Layout.{page_start}
use Rattle.rv_pmp.specs.Pmp.{permits}
use Rattle.rv_sv39.specs.Canonical.{is_canonical}
use Rattle.mon_tables.specs.Space.{Mapping, mapping_at}
use Rattle.pl_history.specs.declared.answer.Answer.{Answer}
use Rattle.pl_history.specs.declared.answer.Answer.TheVariants as answer_is
use Rattle.pl_history.specs.declared.line.Line.{Line}
use Rattle.pl_history.specs.declared.line.Line.TheVariants.{Load, Store}
use Rattle.pl_history.specs.declared.setup.SetupParts.{SetupParts}
use Rattle.pl_history.specs.HostAccess.{AnswersBy, HostAccess as AnswersAccess, address_refusal, answer_or, host_word, load_by, mapping_refusal, store_by}
use Rattle.pl_history.specs.Legal.{AllowedAnswer}
use Rattle.pl_history.specs.Licence.{Licensed}
use Rattle.pl_history.specs.Monitor.{Monitor, removed_at}
use Rattle.pl_history.specs.Protection.{pmp_of}
use Rattle.pl_history.specs.Unattacked.{refuses_by_fault}
use Rattle.pl_history.proofs.Unattacked.{address_faultless, by_cause, mapping_faultless}
use Rattle.world_machine.specs.HostAccessing.{WordAccess, kind_of, loads, stores}
use Rattle.world_machine.proofs.HostRefusals.{unfaulted}
use Rattle.world_machine.proofs.MappingTranslations.{page_granted}

-- the line of an access
abbrev pub access_line : Va → WordAccess → Line
access_line va loads = Load va
access_line va (stores word) = Store va word

-- what the monitor has a mapping answer
abbrev pub answer_by : SetupParts → Monitor → Va → WordAccess → Mapping → Answer
answer_by setup s va loads = load_by setup s va
answer_by setup s va (stores word) = store_by setup va

-- ---- why an address is refused

abbrev refusal_by : Bool → Bool → Option No
refusal_by aligned canonical = first_refusal (refuse (not aligned) refused.Misaligned ∷ refuse (not canonical) refused.PageFault ∷ [])

-- an address that isn't refused
pub address_passes : (va : Va) → (va.0 % 8 == 0) ≡ true → is_canonical va.0 ≡ true → address_refusal va ≡ None
address_passes va aligned canonical = ap (λ b. refusal_by b (is_canonical va.0)) aligned ∙ ap (refusal_by true) canonical

-- ---- why a mapping refuses an access

module _ (setup : SetupParts) (kind : Kind) (va : Va) (m : Mapping) where
  abbrev permitted : Bool
  permitted = permits (pmp_of setup) (page_start m.page + va.0 % 4096) 8 kind

  abbrev lacks_by : Bool → Bool → Option No
  lacks_by granted allowed = first_refusal (refuse (not granted) refused.PageFault ∷ refuse (not allowed) refused.AccessFault ∷ [])

  pub mapping_forbids : grants m.perms kind ≡ false → mapping_refusal setup kind va m ≡ Some refused.PageFault
  mapping_forbids is = ap (λ b. lacks_by b permitted) is

  pub protection_forbids : grants m.perms kind ≡ true → permitted ≡ false → mapping_refusal setup kind va m ≡ Some refused.AccessFault
  protection_forbids granted is = ap (λ b. lacks_by b permitted) granted ∙ ap (lacks_by true) is

  pub nothing_forbids : grants m.perms kind ≡ true → permitted ≡ true → mapping_refusal setup kind va m ≡ None
  nothing_forbids granted is = ap (λ b. lacks_by b permitted) granted ∙ ap (lacks_by true) is

-- ---- what is allowed

module _ (setup : SetupParts) (s : Monitor) (va : Va) where
  -- an access that hasn't begun may be answered so
  abbrev pub MayAnswer : WordAccess → Answer → Type 0
  MayAnswer access now = AllowedAnswer setup s (access_line va access) false now

  abbrev Answers : WordAccess → Answer → Type 0
  Answers access now = AnswersAccess (address_refusal va) (answer_by setup s va access) s va false now

  -- a refusal that is no fault is allowed as it is without faults
  refused_by : (access : WordAccess) (cause : No) → refuses_by_fault cause ≡ false → Answers access (answer_is.No cause) → MayAnswer access (answer_is.No cause)
  refused_by loads cause is allowed = unfaulted (address_refusal va) (Licensed setup s (Load va)) (AnswersAccess (address_refusal va) (load_by setup s va) s va) cause is allowed
  refused_by (stores word) cause is allowed =
      unfaulted (address_refusal va) (Licensed setup s (Store va word)) (AnswersAccess (address_refusal va) (store_by setup va) s va) cause is allowed

  address_refused : (access : WordAccess) (cause : No) → address_refusal va ≡ Some cause → MayAnswer access (answer_is.No cause)
  address_refused access cause is =
      refused_by access cause (by_cause (address_refusal va) cause (address_faultless va) is)
      (subst (λ o. AnswersAccess o (answer_by setup s va access) s va false (answer_is.No cause)) (sym is) refl)

  -- an address that isn't a multiple of 8
  pub misaligned_allowed : (access : WordAccess) → (va.0 % 8 == 0) ≡ false → MayAnswer access (answer_is.No refused.Misaligned)
  misaligned_allowed access is = address_refused access refused.Misaligned (ap (λ b. refusal_by b (is_canonical va.0)) is)

  -- one that isn't canonical
  pub far_allowed : (access : WordAccess) → (va.0 % 8 == 0) ≡ true → is_canonical va.0 ≡ false → MayAnswer access (answer_is.No refused.PageFault)
  far_allowed access aligned is = address_refused access refused.PageFault (ap (λ b. refusal_by b (is_canonical va.0)) aligned ∙ ap (refusal_by true) is)

  module _ (passes : address_refusal va ≡ None) where
    -- the fault of a place that is licensed
    pub fault_allowed : (access : WordAccess) (place : Place) → Licensed setup s (access_line va access) place → MayAnswer access (answer_is.No (refused.Fault place))
    fault_allowed loads place licensed = (passes, licensed)
    fault_allowed (stores word) place licensed = (passes, licensed)

    abbrev AnswersAt : WordAccess → Answer → Type 0
    AnswersAt access now = AnswersBy (answer_by setup s va access) (mapping_at s.space (vpn_of va).0) (removed_at s.removals (vpn_of va).0) now

    as_answered : (access : WordAccess) (now : Answer) → AnswersAt access now → Answers access now
    as_answered access now is = subst (λ o. AnswersAccess o (answer_by setup s va access) s va false now) (sym passes) is

    -- no page, where the space has none
    none_allowed : (access : WordAccess) → mapping_at s.space (vpn_of va).0 ≡ None → MayAnswer access (answer_is.No refused.PageFault)
    none_allowed access none =
        refused_by access refused.PageFault refl (as_answered access (answer_is.No refused.PageFault)
        (subst (λ o. AnswersBy (answer_by setup s va access) o (removed_at s.removals (vpn_of va).0) (answer_is.No refused.PageFault)) (sym none) (by_removed (removed_at s.removals (vpn_of va).0))))
      where
        by_removed : (o : Option Mapping) → AnswersBy (answer_by setup s va access) None o (answer_is.No refused.PageFault)
        by_removed None = refl
        by_removed (Some m) = inr refl

    -- ---- by a mapping that answers

    module _ (m : Mapping) (answers : (by : Mapping → Answer) → AnswersBy by (mapping_at s.space (vpn_of va).0) (removed_at s.removals (vpn_of va).0) (by m)) where
      by_mapping : (access : WordAccess) (now : Answer) → answer_by setup s va access m ≡ now → Answers access now
      by_mapping access now is = subst (Answers access) is (as_answered access (answer_by setup s va access m) (answers (answer_by setup s va access)))

      refusal_is : (access : WordAccess) (cause : No) → mapping_refusal setup (kind_of access) va m ≡ Some cause → answer_by setup s va access m ≡ answer_is.No cause
      refusal_is loads cause is = ap (λ o. answer_or o (answer_is.Value (host_word s va m))) is
      refusal_is (stores word) cause is = ap (λ o. answer_or o answer_is.Ok) is

      -- it refuses the access
      pub refusal_allowed : (access : WordAccess) (cause : No) → mapping_refusal setup (kind_of access) va m ≡ Some cause → MayAnswer access (answer_is.No cause)
      refusal_allowed access cause is =
          refused_by access cause (by_cause (mapping_refusal setup (kind_of access) va m) cause (mapping_faultless setup (kind_of access) va m) is)
          (by_mapping access (answer_is.No cause) (refusal_is access cause is))

      -- or serves it
      pub load_allowed : mapping_refusal setup (kind_of loads) va m ≡ None → MayAnswer loads (answer_is.Value (host_word s va m))
      load_allowed is = by_mapping loads (answer_is.Value (host_word s va m)) (ap (λ o. answer_or o (answer_is.Value (host_word s va m))) is)

      pub store_allowed : (word : ℕ) → mapping_refusal setup (kind_of (stores word)) va m ≡ None → MayAnswer (stores word) answer_is.Ok
      store_allowed word is = by_mapping (stores word) answer_is.Ok (ap (λ o. answer_or o answer_is.Ok) is)

    -- ---- by the space

    ungranted_by : (access : WordAccess) (o : Option Mapping) → mapping_at s.space (vpn_of va).0 ≡ o → page_granted (kind_of access) o ≡ None
        → MayAnswer access (answer_is.No refused.PageFault)
    ungranted_by access None is none = none_allowed access is
    ungranted_by access (Some m) is none =
        refusal_allowed m (λ by. subst (λ o. AnswersBy by o (removed_at s.removals (vpn_of va).0) (by m)) (sym is) refl) access refused.PageFault
        (mapping_forbids setup (kind_of access) va m (by_test (grants m.perms (kind_of access)) none))
      where
        by_test : (g : Bool) → (if g then Some m.page else None) ≡ None → g ≡ false
        by_test true is_none = cc
        by_test false is_none = refl

    -- it lets nothing through: there is no page
    pub ungranted_allowed : (access : WordAccess) → page_granted (kind_of access) (mapping_at s.space (vpn_of va).0) ≡ None → MayAnswer access (answer_is.No refused.PageFault)
    ungranted_allowed access none = ungranted_by access (mapping_at s.space (vpn_of va).0) refl none
