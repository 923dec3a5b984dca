-- Why a line of the host is refused: the monitor's causes are those of the events.
use Rattle.std.proofs.Common.{◌≡◌, ℕ, Bool, true, false, not, List, [], ◌∷◌, ◌++◌, Option, Some, None, is_some, option_map, unwrap_or, slice_get, refl, sym, ap, ◌∙◌}
use Rattle.pl_base.specs.Address.{vpn_of}
use Rattle.pl_base.specs.Refusals.{first_refusal, refuse}
use Rattle.pl_base.specs.declared.address.Va.{Va}
use Rattle.pl_base.specs.declared.perms.Perms.{Perms}
use Rattle.pl_base.specs.declared.place.Place.{Place}
use Rattle.pl_base.specs.declared.refusal.No.{No}
use Rattle.pl_base.specs.declared.refusal.No.TheVariants as refused
use Rattle.mon_fence.specs.declared.fences.Fence.{Fence}
use Rattle.mon_host.specs.Laws.{map_refusal_in, unmap_refusal_in}
use Rattle.mon_host.specs.Leaves.{early_refusal}
use Rattle.mon_owner.specs.declared.owners.Owner.{Owner}
use Rattle.mon_owner.specs.declared.owners.Owner.TheVariants as owner_is
use Rattle.mon_owner.specs.Owners as kept
use Rattle.mon_tables.specs.Space.{mapping_at}
use Rattle.mon_tables.specs.Tables.{can_be_mapped}
use Rattle.pl_history.specs.declared.answer.Answer.{Answer}
use Rattle.pl_history.specs.declared.answer.Answer.TheVariants as answer_is
use Rattle.pl_history.specs.declared.line.Line.TheVariants.{Map, Unmap}
use Rattle.pl_history.specs.declared.setup.SetupParts.{SetupParts}
use Rattle.pl_history.specs.Answering.{AtOnce, Begins, EndsDone, FaultsOr}
use Rattle.pl_history.specs.HostMaps.{early_refusals, map_refusal, unmap_refusal}
use Rattle.pl_history.specs.Legal.{AllowedAnswer}
use Rattle.pl_history.specs.Licence.{Licensed}
use Rattle.pl_history.specs.Monitor.{Monitor, is_host}
use Rattle.pl_history.specs.Unattacked.{refuses_by_fault}
use Rattle.pl_history.proofs.Unattacked.{by_cause, map_is_faultless, unmap_is_faultless}
use Rattle.world_machine.specs.FencesStand.{FencesStand}
use Rattle.world_machine.specs.RecordsAgree.{OwnersAgree, owner_of}
use Rattle.world_machine.proofs.BusyAddresses.{busy_same}

-- ---- causes in order

first_of : (first later : List (Option No)) (cause : No) → first_refusal first ≡ Some cause → first_refusal (first ++ later) ≡ Some cause
first_of [] later cause is = (let clash : None ≡ Some cause = is in cc)
first_of (Some c ∷ rest) later cause is = is
first_of (None ∷ rest) later cause is = first_of rest later cause is

none_of : (first later : List (Option No)) → first_refusal first ≡ None → first_refusal (first ++ later) ≡ first_refusal later
none_of [] later is = refl
none_of (Some c ∷ rest) later is = (let clash : Some c ≡ None = is in cc)
none_of (None ∷ rest) later is = none_of rest later is

-- a refusal that is no fault is allowed as it is without faults
pub unfaulted : (earlier : Option No) (may : Place → Type 0) (otherwise : Bool → Answer → Type 0) (cause : No) → refuses_by_fault cause ≡ false → otherwise false (answer_is.No cause)
    → FaultsOr earlier may otherwise false (answer_is.No cause)
unfaulted earlier may otherwise (refused.Fault place) is k = (let clash : true ≡ false = is in cc)
unfaulted earlier may otherwise cause is k = k

-- ---- `map` and `unmap`

module _ (setup : SetupParts) (s : Monitor) (fences : List (Option Fence)) (agree : FencesStand setup.harts fences s.removals) (va : Va) where
  pub same_early : first_refusal (early_refusals setup s va) ≡ early_refusal setup.tables fences va
  same_early = ap (λ busy. first_refusal (refuse (not (can_be_mapped setup.tables va)) refused.BadAddress ∷ refuse busy refused.Busy ∷ [])) (busy_same setup.harts fences s.removals agree va)

  module _ (owners : List Owner) (owned : OwnersAgree owners s) (page : ℕ) where
    same_host : (o : Option Owner) → kept.is_host (unwrap_or o owner_is.Guard) ≡ is_host (option_map owner_of o)
    same_host None = refl
    same_host (Some owner_is.Guard) = refl
    same_host (Some (owner_is.Host maps)) = refl
    same_host (Some (owner_is.Enclave e)) = refl
    same_host (Some (owner_is.Shadow e)) = refl

    pub host_so : kept.is_host (kept.owner_at owners page) ≡ is_host (s.owner page)
    host_so = same_host (slice_get owners page) ∙ ap is_host (sym (owned.owner page))

    -- the cause to refuse a mapping at once, and else by the space
    pub map_refused_early : (cause : No) → early_refusal setup.tables fences va ≡ Some cause → map_refusal setup s va page ≡ Some cause
    map_refused_early cause is = first_of (early_refusals setup s va) _ cause (same_early ∙ is)

    pub map_refused_in : early_refusal setup.tables fences va ≡ None → map_refusal setup s va page ≡ map_refusal_in s.space owners va page
    map_refused_in is =
        none_of (early_refusals setup s va) _ (same_early ∙ is)
        ∙ ap (λ host. first_refusal (refuse (is_some (mapping_at s.space (vpn_of va).0)) refused.Mapped ∷ refuse (not host) (refused.NotYours page) ∷ [])) (sym host_so)

  pub unmap_refused_early : (cause : No) → early_refusal setup.tables fences va ≡ Some cause → unmap_refusal setup s va ≡ Some cause
  unmap_refused_early cause is = first_of (early_refusals setup s va) _ cause (same_early ∙ is)

  pub unmap_refused_in : early_refusal setup.tables fences va ≡ None → unmap_refusal setup s va ≡ unmap_refusal_in s.space va
  unmap_refused_in is = none_of (early_refusals setup s va) _ (same_early ∙ is) ∙ last (refuse (not (is_some (mapping_at s.space (vpn_of va).0))) refused.NotMapped)
    where
      last : (o : Option No) → first_refusal (o ∷ []) ≡ o
      last None = refl
      last (Some cause) = refl

  -- such a refusal is allowed, and so is a licensed fault where nothing is refused at once
  pub map_allows : (page : ℕ) (perms : Perms) (cause : No) → map_refusal setup s va page ≡ Some cause → AllowedAnswer setup s (Map va page perms) false (answer_is.No cause)
  map_allows page perms cause is =
      unfaulted (first_refusal (early_refusals setup s va)) (Licensed setup s (Map va page perms)) (AtOnce (map_refusal setup s va page) (Some answer_is.Ok)) cause
      (by_cause (map_refusal setup s va page) cause (map_is_faultless setup s va page) is) is

  pub map_may_fault : (page : ℕ) (perms : Perms) → early_refusal setup.tables fences va ≡ None → (place : Place) → Licensed setup s (Map va page perms) place
      → AllowedAnswer setup s (Map va page perms) false (answer_is.No (refused.Fault place))
  map_may_fault page perms is place licensed = (same_early ∙ is, licensed)

  pub unmap_allows : (cause : No) → unmap_refusal setup s va ≡ Some cause → AllowedAnswer setup s (Unmap va) false (answer_is.No cause)
  unmap_allows cause is =
      unfaulted (first_refusal (early_refusals setup s va)) (Licensed setup s (Unmap va)) (Begins (unmap_refusal setup s va) EndsDone) cause
      (by_cause (unmap_refusal setup s va) cause (unmap_is_faultless setup s va) is) is

  pub unmap_may_fault : early_refusal setup.tables fences va ≡ None → (place : Place) → Licensed setup s (Unmap va) place → AllowedAnswer setup s (Unmap va) false (answer_is.No (refused.Fault place))
  unmap_may_fault is place licensed = (same_early ∙ is, licensed)
