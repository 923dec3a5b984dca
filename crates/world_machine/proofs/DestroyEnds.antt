-- The row that ends `destroy`: the pages of the number are zeroed pages of the host, the number is free, and the fence is left.
use Rattle.std.proofs.Common.{◌≡◌, ◌≢◌, ℕ, ◌+◌, ◌<◌, false, List, [], length, Option, Some, None, refl, sym, ap, ◌∙◌, subst}
use Rattle.std.specs.Prelude.{slice_set}
use Rattle.std.proofs.lemmas.List.Elements.{All-weaker}
use Rattle.pl_base.specs.States.{is_free}
use Rattle.pl_base.specs.declared.number.EncNo.{EncNo}
use Rattle.pl_base.specs.declared.state.State.TheVariants as state_is
use Rattle.rv_tlb.specs.declared.tlb.TlbEntry.{TlbEntry}
use Rattle.mem_ctl.specs.Data.{CtlData, with_off_chip}
use Rattle.mon_enclave.specs.declared.enclave.Enclave.{Enclave}
use Rattle.mon_enclave.specs.Records.{enclave_at, freed, with_enclave}
use Rattle.mon_fence.specs.declared.fences.Fence.{Fence}
use Rattle.mon_fence.specs.Fences.{fence_of}
use Rattle.mon_fence.proofs.Needs.{fence_of-set_other, fence_of-set_same}
use Rattle.mon_life.specs.Destroying as destroying_is
use Rattle.mon_life.specs.Destroying.{all_zeroed, held_by}
use Rattle.mon_owner.specs.declared.owners.Owner.{Owner}
use Rattle.mon_owner.specs.declared.owners.Owner.TheVariants as owner_is
use Rattle.mon_owner.specs.Owners.{given_to}
use Rattle.pl_history.specs.declared.answer.Answer.TheVariants as answer_is
use Rattle.pl_history.specs.declared.line.Line.{Line}
use Rattle.pl_history.specs.declared.line.Line.TheVariants.{Destroy}
use Rattle.pl_history.specs.GivingBack.{given_back}
use Rattle.pl_history.specs.Legal.{AllowedAnswer}
use Rattle.pl_history.specs.Monitor.{Monitor, Number, answer}
use Rattle.pl_history.proofs.ShadowLemmas.{no_forks}
use Rattle.world_attack.specs.Room.{RoomStays}
use Rattle.world_machine.specs.declared.under.Under.{Under}
use Rattle.world_machine.specs.declared.under.Under.TheVariants.{Destroying, Idle}
use Rattle.world_machine.specs.Answering.{answers, entry_now, with_entry}
use Rattle.world_machine.specs.FencesStand.{NumberFenceStands, RemovalStands, removals_by}
use Rattle.world_machine.specs.GivingBack.{ends_destroy}
use Rattle.world_machine.specs.HostMapping.{lacked_by}
use Rattle.world_machine.specs.LinesUnderWay.{LineUnderWay, number_under_way}
use Rattle.world_machine.specs.RecordsAgree.{LiveAgrees, RecordAgrees, is_begun}
use Rattle.world_machine.specs.Standing.{Kept, state_of, written_page}
use Rattle.world_machine.specs.TranslationsAgree.{IsFresh, TranslationsStand, WalkingStands, walking}
use Rattle.world_machine.specs.Worlds.{WorldData, answered_at, hart_line, tlb_at, under_at}
use Rattle.world_machine.proofs.ForkedNumbers.{shadows_stand}
use Rattle.world_machine.proofs.GivenRows.{change, given_row, line_other, number_here, number_other}
use Rattle.world_machine.proofs.GivingChanges.{other_spaces, tables_given}
use Rattle.world_machine.proofs.HeldPages.{given_pages}
use Rattle.world_machine.proofs.LineKinds.{answered_line}
use Rattle.world_machine.proofs.LineMoves.{LineMoves}
use Rattle.world_machine.proofs.LineTranslations.{gives_none, idle_walks, removes_none}
use Rattle.world_machine.proofs.NumberChanges.{NumberChange, number_changed}
use Rattle.world_machine.proofs.NumberFreshness.{AllButOneSpace, given_fresh}
use Rattle.world_machine.proofs.RowKept.{line_after}
use Rattle.world_machine.proofs.SetupFacts.{used_there}
use Rattle.world_machine.proofs.StandingFences.{fences_given}

module _ (digest_of : List ℕ → List ℕ) (room_stays : RoomStays) (w : WorldData) (k : Kept digest_of w) (none : w.collision ≡ None) (hart : ℕ) (below : hart < w.setup.harts)
    (e : EncNo) (here : hart_line w hart ≡ Some (Destroy e)) (so_far : under_at w.under hart ≡ Destroying) (nobody : lacked_by w hart ≡ None) where
  abbrev s : Monitor
  s = state_of w

  abbrev r : Enclave
  r = enclave_at w.enclaves e.0

  abbrev n : Number
  n = s.number e.0

  agrees : RecordAgrees r n
  agrees = k.stands.records e.0

  -- what holds of the hart's line holds of a begun `destroy`
  of_line : (P : Option Line → Under → Type 0) → P (hart_line w hart) (under_at w.under hart) → P (Some (Destroy e)) Destroying
  of_line P holds = subst (P (Some (Destroy e))) so_far (subst (λ l. P l (under_at w.under hart)) here holds)

  -- ---- the number

  is_dying : r.state ≡ state_is.Dying
  is_dying = of_line (λ l u. LineUnderWay w.setup (written_page w) (enclave_at w.enclaves) s.number hart l u) (k.stands.lines hart)

  used : is_free r.state ≡ false
  used = ap is_free is_dying

  not_live : n.live ≡ false
  not_live = subst (λ state. LiveAgrees state n.live) is_dying agrees.live

  -- no other hart has it under way
  not_theirs : (other f : ℕ) → other ≢ hart → number_under_way (hart_line w other) (under_at w.under other) ≡ Some f → f ≢ e.0
  not_theirs other f differs theirs same =
      differs (k.stands.apart other hart f theirs (ap (λ l. number_under_way l (under_at w.under hart)) here ∙ ap (number_under_way (Some (Destroy e))) so_far ∙ ap Some (sym same)))

  -- nor is any number forked from it, which isn't a shadow
  childless : (f : ℕ) → (s.number f).parent ≡ Some e.0 → ⊥
  childless = no_forks w.setup s.number (shadows_stand digest_of w k) e.0
      (λ sealed. (let clash : state_is.Dying ≡ state_is.Sealed = sym is_dying ∙ sym agrees.state ∙ sealed in cc))

  -- ---- what is left

  abbrev held : List ℕ
  held = held_by w.enclaves e.0

  abbrev off_chip : List ℕ
  off_chip = (all_zeroed w.ctl held).off_chip

  abbrev owners' : List Owner
  owners' = given_to w.owners held (owner_is.Host 0)

  abbrev enclaves' : List Enclave
  enclaves' = with_enclave w.enclaves e.0 (freed r)

  abbrev fences' : List (Option Fence)
  fences' = slice_set w.fences hart None

  abbrev under' : List Under
  under' = slice_set w.under hart Idle

  abbrev answered' : List ℕ
  answered' = slice_set w.answered hart (answered_at w.answered hart + 1)

  abbrev s' : Monitor
  s' = answer (given_back s e.0) hart

  moves : LineMoves w hart under' answered' (with_entry w.history (entry_now w hart answer_is.Ok)) s' Idle (answered_at w.answered hart + 1)
  moves = answered_line digest_of room_stays w k hart below (Destroy e) answer_is.Ok refl here
      (subst (λ b. AllowedAnswer w.setup s (Destroy e) b answer_is.Ok) (sym (ap is_begun so_far)) refl) (given_back s e.0) (λ actor. refl) refl

  hart_has_fence : hart < length w.fences
  hart_has_fence = subst (λ size. hart < size) (sym k.stands.translations.fences_stand.size) below

  -- ---- translations

  no_removal : removals_by s.removals hart ≡ []
  no_removal = of_line (λ l u. RemovalStands l u (removals_by s.removals hart)) (k.stands.translations.removals hart)

  spaces : AllButOneSpace w.setup (enclave_at w.enclaves) (enclave_at enclaves') s s' e.0
  spaces = other_spaces w e.0 (enclave_at enclaves') s' refl refl (change digest_of w k none hart e.0 used not_theirs childless).others
      (number_other digest_of w k none hart e.0 used not_theirs childless)

  fresh : (other : ℕ) (entry : TlbEntry) → IsFresh w.setup (enclave_at w.enclaves) s w.fences other entry → IsFresh w.setup (enclave_at enclaves') s' fences' other entry
  fresh = given_fresh w.setup (enclave_at w.enclaves) (enclave_at enclaves') s s' e.0 spaces w.fences hart nobody not_live

  numbers_change : NumberChange w hart e.0 (with_off_chip w.ctl off_chip) (enclave_at enclaves') w.tlbs fences' s' (line_after w answered') (under_at under')
  numbers_change = record {
    removals = refl;
    records = (change digest_of w k none hart e.0 used not_theirs childless).others;
    tables = tables_given digest_of w k e.0 (enclave_at enclaves') s' refl ((change digest_of w k none hart e.0 used not_theirs childless).others) (number_other digest_of w k none hart e.0 used not_theirs childless) (ap (λ (m : Number). m.live) (number_here digest_of w k none hart e.0 used not_theirs childless)) off_chip;
    host_at = λ vpn level. refl;
    number_at = λ f live vpn level. refl;
    harts = refl;
    fences_stand = fences_given w.setup.harts w.fences s.removals k.stands.translations.fences_stand hart below no_removal;
    lines = line_other digest_of w k none hart e.0 used not_theirs childless (with_entry w.history (entry_now w hart answer_is.Ok)) moves;
    unders = moves.under_change.others;
    apart = not_theirs;
    fences = λ other differs. fence_of-set_other w.fences hart other None differs;
    tlbs = λ other differs. refl;
    used = λ other inside differs. fresh other;
    own_removals = subst (λ u. RemovalStands (line_after w answered' hart) u (removals_by s.removals hart)) (sym moves.under_change.here) (removes_none _ Idle _ refl no_removal);
    own_giving = subst (λ u. NumberFenceStands (line_after w answered' hart) u (fence_of fences' hart)) (sym moves.under_change.here)
        (subst (NumberFenceStands (line_after w answered' hart) Idle) (sym (fence_of-set_same w.fences hart None hart_has_fence)) (gives_none _ Idle None refl tt));
    own_entries = All-weaker (IsFresh w.setup (enclave_at w.enclaves) s w.fences hart) (IsFresh w.setup (enclave_at enclaves') s' fences' hart) (fresh hart) (tlb_at w.tlbs hart)
        (k.stands.translations.fresh.entries hart);
    own_walk =
        subst (λ u. WalkingStands w.ctl (IsFresh w.setup (enclave_at enclaves') s' fences' hart) (walking w.setup.tables (enclave_at enclaves') (line_after w answered' hart) u))
        (sym moves.under_change.here)
        (idle_walks w.ctl (IsFresh w.setup (enclave_at enclaves') s' fences' hart) w.setup.tables (enclave_at enclaves') _);
  }

  translations : TranslationsStand w.setup (with_off_chip w.ctl off_chip) w.tlbs fences' (enclave_at enclaves') s' (line_after w answered') (under_at under')
  translations = number_changed digest_of w k hart e.0 (with_off_chip w.ctl off_chip) (enclave_at enclaves') w.tlbs fences' s' (line_after w answered') (under_at under') numbers_change

  -- ---- the event

  ended : Kept digest_of (answers (record w { ctl = with_off_chip w.ctl off_chip; owners = owners'; enclaves = enclaves'; fences = fences' }) hart answer_is.Ok)
  ended = given_row digest_of w k none hart e.0 used not_theirs childless (with_entry w.history (entry_now w hart answer_is.Ok)) moves w.tlbs fences' translations

  -- an event that ends a `destroy` keeps what a world keeps
  pub ends_destroy_kept : Kept digest_of (ends_destroy w hart e)
  unfolding destroying_is.destroy_ended
  ends_destroy_kept = subst (λ (c : CtlData). Kept digest_of (answers (record w { ctl = c; owners = owners'; enclaves = enclaves'; fences = fences' }) hart answer_is.Ok))
      (sym (given_pages digest_of w k e.0 (used_there w.enclaves e.0 used)).off_chip_alone) ended
