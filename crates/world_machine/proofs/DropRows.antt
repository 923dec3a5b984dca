-- The row of `drop`: it is refused, or the shadow's pages are zeroed pages of the host, and its number is free.
use Rattle.std.proofs.Common.{◌≡◌, ◌≢◌, ℕ, ◌+◌, ◌<◌, eqb, true, false, not, List, [], ◌∷◌, length, find, Option, Some, None, option_map, refl, sym, ap, ◌∙◌, subst}
use Rattle.std.specs.List.{range_with_len}
use Rattle.std.specs.Option.{option_map_or}
use Rattle.std.specs.Prelude.{slice_set}
use Rattle.std.proofs.lemmas.Bool.{false≢true}
use Rattle.pl_base.specs.Refusals.{first_refusal, refuse}
use Rattle.pl_base.specs.States.{is_free, is_sealed}
use Rattle.pl_base.specs.declared.number.EncNo.{EncNo}
use Rattle.pl_base.specs.declared.refusal.No.{No}
use Rattle.pl_base.specs.declared.refusal.No.TheVariants.{InUse, NoEnclave}
use Rattle.pl_base.specs.declared.state.State.{State}
use Rattle.pl_base.specs.declared.state.State.TheVariants as state_is
use Rattle.mem_ctl.specs.Data.{CtlData, with_off_chip}
use Rattle.mon_enclave.specs.declared.enclave.Enclave.{Enclave}
use Rattle.mon_enclave.specs.Records.{enclave_at, freed, with_enclave}
use Rattle.mon_life.specs.Destroying.{all_zeroed, held_by}
use Rattle.mon_owner.specs.declared.owners.Owner.{Owner}
use Rattle.mon_owner.specs.declared.owners.Owner.TheVariants as owner_is
use Rattle.mon_owner.specs.Owners.{given_to}
use Rattle.mon_shadow.specs.Dropping.{ShadowDropped, drop_refusal_of, dropped_unless, first_child_of, is_child_of, shadow_dropped}
use Rattle.pl_history.specs.declared.answer.Answer.TheVariants as answer_is
use Rattle.pl_history.specs.declared.line.Line.TheVariants.{Drop}
use Rattle.pl_history.specs.GivingBack.{drop_refusal, first_child, given_back, is_parent}
use Rattle.pl_history.specs.Legal.{AllowedAnswer}
use Rattle.pl_history.specs.Monitor.{Monitor, Number, answer}
use Rattle.pl_history.proofs.Refusals.{first_none, refuse_none}
use Rattle.pl_history.proofs.ShadowPages.{dropped_childless}
use Rattle.world_attack.specs.Room.{RoomStays}
use Rattle.world_machine.specs.declared.under.Under.{Under}
use Rattle.world_machine.specs.declared.under.Under.TheVariants.{Idle}
use Rattle.world_machine.specs.Answering.{answers, entry_now, with_entry}
use Rattle.world_machine.specs.GivingBack.{drops_shadow}
use Rattle.world_machine.specs.LinesUnderWay.{number_under_way}
use Rattle.world_machine.specs.Making.{answers_by}
use Rattle.world_machine.specs.RecordsAgree.{LiveAgrees, RecordAgrees, is_begun, parent_of}
use Rattle.world_machine.specs.Standing.{Kept, state_of, written_page}
use Rattle.world_machine.specs.TranslationsAgree.{IsFresh, TranslationsStand, WalkingStands, walking}
use Rattle.world_machine.specs.Worlds.{WorldData, answered_at, hart_line, under_at}
use Rattle.world_machine.proofs.CreateRefusals.{find_same}
use Rattle.world_machine.proofs.ForkedNumbers.{shadows_stand, under_way_unsealed}
use Rattle.world_machine.proofs.GivenRows.{change, given_row, line_other, number_here, number_other}
use Rattle.world_machine.proofs.HeldPages.{given_pages}
use Rattle.world_machine.proofs.LineKinds.{answered_line}
use Rattle.world_machine.proofs.LineMoves.{LineMoves}
use Rattle.world_machine.proofs.LineTranslations.{idle_walks, isnt_waiting}
use Rattle.world_machine.proofs.Lists.{everywhere}
use Rattle.world_machine.proofs.QuietRows.{answers_kept}
use Rattle.world_machine.proofs.RowKept.{line_after}
use Rattle.world_machine.proofs.SetupFacts.{used_there}
use Rattle.world_machine.proofs.TranslationFrames.{KeepsSpace, SpacesStay, TablePagesStay, entries_stay, same_keeps, translations_stay}

-- ---- the refusal is the abstract monitor's

child_same : (shadow : ℕ) (o : Option EncNo) → option_map_or (λ (parent : EncNo). eqb parent.0 shadow) o false ≡ is_parent shadow (parent_of o)
child_same shadow None = refl
child_same shadow (Some parent) = refl

sealed_is : (state : State) → is_sealed state ≡ true → state ≡ state_is.Sealed
sealed_is state_is.Sealed is = refl
sealed_is state is = absurd (false≢true is)

module _ (digest_of : List ℕ → List ℕ) (room_stays : RoomStays) (w : WorldData) (k : Kept digest_of w) (none : w.collision ≡ None) (hart : ℕ) (below : hart < w.setup.harts)
    (shadow : EncNo) (here : hart_line w hart ≡ Some (Drop shadow)) (idle : under_at w.under hart ≡ Idle) where
  abbrev s : Monitor
  s = state_of w

  abbrev e : ℕ
  e = shadow.0

  abbrev r : Enclave
  r = enclave_at w.enclaves e

  abbrev n : Number
  n = s.number e

  agrees : RecordAgrees r n
  agrees = k.stands.records e

  not_begun : is_begun (under_at w.under hart) ≡ false
  not_begun = ap is_begun idle

  children_same : first_child_of w.enclaves e ≡ first_child w.setup s e
  children_same =
      find_same (λ child. is_child_of e (enclave_at w.enclaves child)) (λ child. is_parent e (s.number child).parent) (range_with_len 0 (length w.enclaves))
      (λ child. child_same e (enclave_at w.enclaves child).parent ∙ ap (is_parent e) (sym (k.stands.records child).parent))
      ∙ ap (λ count. find (λ child. is_parent e (s.number child).parent) (range_with_len 0 count)) k.sizes.numbers

  refusal_is : drop_refusal_of w.enclaves e ≡ drop_refusal w.setup s e
  refusal_is = λ i. first_refusal (
      refuse (not (is_sealed (sym agrees.state i))) NoEnclave
      ∷ option_map (λ child. InUse (record { 0 = child })) (children_same i)
      ∷ [])

  -- ---- dropped

  module _ (passes : drop_refusal_of w.enclaves e ≡ None) where
    allowed : drop_refusal w.setup s e ≡ None
    allowed = sym refusal_is ∙ passes

    childless : (f : ℕ) → (s.number f).parent ≡ Some e → ⊥
    childless = dropped_childless w.setup s e (shadows_stand digest_of w k) allowed

    sealed : r.state ≡ state_is.Sealed
    sealed = sealed_is r.state (refuse_none (is_sealed r.state) NoEnclave (first_none (refuse (not (is_sealed r.state)) NoEnclave) _ passes).0)

    used : is_free r.state ≡ false
    used = ap is_free sealed

    not_live : n.live ≡ false
    not_live = subst (λ state. LiveAgrees state n.live) sealed agrees.live

    -- no hart has it under way
    not_theirs : (other f : ℕ) → other ≢ hart → number_under_way (hart_line w other) (under_at w.under other) ≡ Some f → f ≢ e
    not_theirs other f differs theirs same =
        under_way_unsealed w.setup (written_page w) (enclave_at w.enclaves) s.number other f (hart_line w other) (under_at w.under other) (k.stands.lines other) theirs
        (ap (λ g. (enclave_at w.enclaves g).state) same ∙ sealed)

    abbrev held : List ℕ
    held = held_by w.enclaves e

    abbrev ctl' : CtlData
    ctl' = with_off_chip w.ctl (all_zeroed w.ctl held).off_chip

    abbrev owners' : List Owner
    owners' = given_to w.owners held (owner_is.Host 0)

    abbrev enclaves' : List Enclave
    enclaves' = with_enclave w.enclaves e (freed r)

    abbrev under' : List Under
    under' = slice_set w.under hart Idle

    abbrev answered' : List ℕ
    answered' = slice_set w.answered hart (answered_at w.answered hart + 1)

    abbrev s' : Monitor
    s' = answer (given_back s e) hart

    moves : LineMoves w hart under' answered' (with_entry w.history (entry_now w hart answer_is.Ok)) s' Idle (answered_at w.answered hart + 1)
    moves = answered_line digest_of room_stays w k hart below (Drop shadow) answer_is.Ok refl here
        (subst (λ b. AllowedAnswer w.setup s (Drop shadow) b answer_is.Ok) (sym not_begun) (allowed, refl)) (given_back s e) (λ actor. refl) refl

    other_record : (f : ℕ) → f ≢ e → enclave_at enclaves' f ≡ enclave_at w.enclaves f
    other_record = (change digest_of w k none hart e used not_theirs childless).others

    other_number : (f : ℕ) → f ≢ e → s'.number f ≡ s.number f
    other_number = number_other digest_of w k none hart e used not_theirs childless

    freed_number : (s'.number e).live ≡ false
    freed_number = ap (λ (m : Number). m.live) (number_here digest_of w k none hart e used not_theirs childless)

    -- ---- translations: the shadow has none

    spaces : SpacesStay digest_of w k ctl' (enclave_at enclaves') s'
    spaces = record {
      space = refl;
      removals = refl;
      numbers = everywhere (λ f. (s.number f).live ≡ true → KeepsSpace (enclave_at w.enclaves f) (enclave_at enclaves' f) (s'.number f)) e
          (λ live. absurd (false≢true (sym not_live ∙ live)))
          (λ f other live. same_keeps (enclave_at w.enclaves f) (enclave_at enclaves' f) (s.number f) (s'.number f) (other_record f other) (other_number f other) live);
    }

    table_pages : TablePagesStay digest_of w k ctl' (enclave_at enclaves') s'
    table_pages = record {
      host = λ page low. refl;
      numbers = λ f level live low. refl;
      made = λ f was live. absurd (false≢true (sym (still f was) ∙ live));
    }
      where
        still : (f : ℕ) → (s.number f).live ≡ false → (s'.number f).live ≡ false
        still = everywhere (λ f. (s.number f).live ≡ false → (s'.number f).live ≡ false) e (λ was. freed_number)
            (λ f other was. ap (λ (m : Number). m.live) (other_number f other) ∙ was)

    translations : TranslationsStand w.setup ctl' w.tlbs w.fences (enclave_at enclaves') s' (line_after w answered') (under_at under')
    translations = translations_stay digest_of w k ctl' (enclave_at enclaves') s' spaces table_pages hart w.tlbs (line_after w answered') (under_at under') (record {
      lines = line_other digest_of w k none hart e used not_theirs childless (with_entry w.history (entry_now w hart answer_is.Ok)) moves;
      unders = moves.under_change.others;
      contexts = λ other f differs is. ap (λ (y : Enclave). y.context) (other_record f (not_theirs other f differs is));
      harts = refl;
      tlbs = λ other differs. refl;
      waited_none = ap isnt_waiting idle;
      waits_none = ap isnt_waiting moves.under_change.here;
      entries = entries_stay digest_of w k ctl' (enclave_at enclaves') s' spaces hart;
      walk =
          subst (λ u. WalkingStands ctl' (IsFresh w.setup (enclave_at enclaves') s' w.fences hart) (walking w.setup.tables (enclave_at enclaves') (line_after w answered' hart) u))
          (sym moves.under_change.here) (idle_walks ctl' (IsFresh w.setup (enclave_at enclaves') s' w.fences hart) w.setup.tables (enclave_at enclaves') _);
    })

    dropped : Kept digest_of (answers (record w { ctl = ctl'; owners = owners'; enclaves = enclaves' }) hart answer_is.Ok)
    dropped = given_row digest_of w k none hart e used not_theirs childless (with_entry w.history (entry_now w hart answer_is.Ok)) moves w.tlbs w.fences translations

    dropped_kept : Kept digest_of (answers (record w { ctl = all_zeroed w.ctl held; owners = owners'; enclaves = enclaves' }) hart answer_is.Ok)
    dropped_kept = subst (λ (c : CtlData). Kept digest_of (answers (record w { ctl = c; owners = owners'; enclaves = enclaves' }) hart answer_is.Ok))
        (sym (given_pages digest_of w k e (used_there w.enclaves e used)).off_chip_alone) dropped

  -- ---- the event, by whether it is refused

  abbrev world_of : ShadowDropped → WorldData
  world_of gone = answers_by gone.refusal (record w { ctl = gone.ctl; owners = gone.owners; enclaves = gone.enclaves }) hart

  by_refusal : (o : Option No) → drop_refusal_of w.enclaves e ≡ o → Kept digest_of (world_of (dropped_unless o w.ctl w.owners w.enclaves e))
  by_refusal (Some cause) is = answers_kept digest_of room_stays w k none hart below (Drop shadow) (answer_is.No cause) refl here
      (subst (λ b. AllowedAnswer w.setup s (Drop shadow) b (answer_is.No cause)) (sym not_begun) (sym refusal_is ∙ is)) refl (ap isnt_waiting idle)
  by_refusal None is = dropped_kept is

  -- an event of `drop` keeps what a world keeps
  pub drop_kept : Kept digest_of (drops_shadow w hart e).world
  unfolding shadow_dropped
  drop_kept = by_refusal (drop_refusal_of w.enclaves e) refl
