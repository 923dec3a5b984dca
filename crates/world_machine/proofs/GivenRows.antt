-- An event that gives a number back and answers its line, as the end of `destroy` and `drop` do, leaves all else as it was.
use Rattle.std.proofs.Common.{◌≡◌, ◌≢◌, ℕ, ◌+◌, ◌*◌, ◌<◌, ◌≤◌, true, false, List, length, [], Option, Some, None, slice_get, refl, sym, ap, ◌∙◌, subst, arith}
use Rattle.std.specs.Prelude.{Contains, slice_set}
use Rattle.std.proofs.lemmas.Bool.{false≢true}
use Rattle.pl_base.specs.Pages.{is_among}
use Rattle.pl_base.specs.States.{is_free}
use Rattle.rv_tlb.specs.declared.tlb.TlbEntry.{TlbEntry}
use Rattle.mem_ctl.specs.Data.{CtlData, with_off_chip}
use Rattle.mem_ctl.specs.TreesHold.{IsKept}
use Rattle.mon_enclave.specs.declared.enclave.Enclave.{Enclave}
use Rattle.mon_enclave.specs.Records.{enclave_at, free_enclave, freed, with_enclave}
use Rattle.mon_fence.specs.declared.fences.Fence.{Fence}
use Rattle.mon_life.specs.Destroying.{all_zeroed, held_by}
use Rattle.mon_life.specs.Laws.{IsGivenBack}
use Rattle.mon_owner.specs.declared.owners.Owner.{Owner}
use Rattle.mon_owner.specs.declared.owners.Owner.TheVariants as owner_is
use Rattle.mon_owner.specs.Owners.{given_to}
use Rattle.pl_history.specs.GivingBack.{given_back}
use Rattle.pl_history.specs.History.{HistoryData}
use Rattle.pl_history.specs.Monitor as monitor
use Rattle.pl_history.specs.Monitor.{Monitor, Number, answer, script_of}
use Rattle.world_machine.specs.declared.under.Under.{Under}
use Rattle.world_machine.specs.declared.under.Under.TheVariants.{Idle}
use Rattle.world_machine.specs.BytesAgree.{HasPut, OnlyAttacksDiffer, PageAgrees}
use Rattle.world_machine.specs.EnclavesAgree.{EnclavesAgree, is_made}
use Rattle.world_machine.specs.LinesUnderWay.{number_under_way}
use Rattle.world_machine.specs.Pages.{numbers_of}
use Rattle.world_machine.specs.PagesAgree.{PagesAgree, PagesAre}
use Rattle.world_machine.specs.RecordsAgree.{OwnersAgree, RecordAgrees, RecordsAgree}
use Rattle.world_machine.specs.Standing.{Kept, state_of, written_page}
use Rattle.world_machine.specs.TranslationsAgree.{TranslationsStand}
use Rattle.world_machine.specs.Worlds.{WorldData, answered_at, hart_line, under_at}
use Rattle.world_machine.proofs.Frames.{Frame, enclaves_frame, line_frame, records_frame}
use Rattle.world_machine.proofs.HeldPages.{given_bytes, given_owners, given_pages, guard_out, guard_stays, no_child, number_out, own_stays, page_still}
use Rattle.world_machine.proofs.HostStores.{put_page}
use Rattle.world_machine.proofs.LineMoves.{LineMoves}
use Rattle.world_machine.proofs.Lists.{ChangedAt, changed_set, everywhere, if_other, if_same}
use Rattle.world_machine.proofs.PagesStay.{pages_frame}
use Rattle.world_machine.proofs.QuietRows.{idle_has_none, idle_put_none, none_some}
use Rattle.world_machine.proofs.RowKept.{RowFacts, line_after, row_kept, with_parts}
use Rattle.world_machine.proofs.SetupFacts.{used_there}
use Rattle.world_machine.proofs.UnderWay.{line_used, made_used}

-- a number that isn't free, which no hart but this one has under way, and from which none was forked
module _ (digest_of : List ℕ → List ℕ) (w : WorldData) (k : Kept digest_of w) (none : w.collision ≡ None) (hart e : ℕ) (used : is_free (enclave_at w.enclaves e).state ≡ false)
    (not_theirs : (other f : ℕ) → other ≢ hart → number_under_way (hart_line w other) (under_at w.under other) ≡ Some f → f ≢ e)
    (childless : (f : ℕ) → ((state_of w).number f).parent ≡ Some e → ⊥) where
  there : e < length w.enclaves
  there = used_there w.enclaves e used

  abbrev s : Monitor
  s = state_of w

  abbrev r : Enclave
  r = enclave_at w.enclaves e

  abbrev n : Number
  n = s.number e

  abbrev held : List ℕ
  held = held_by w.enclaves e

  abbrev off_chip : List ℕ
  off_chip = (all_zeroed w.ctl held).off_chip

  abbrev ctl' : CtlData
  ctl' = with_off_chip w.ctl off_chip

  abbrev owners' : List Owner
  owners' = given_to w.owners held (owner_is.Host 0)

  abbrev enclaves' : List Enclave
  enclaves' = with_enclave w.enclaves e (freed r)

  abbrev under' : List Under
  under' = slice_set w.under hart Idle

  abbrev answered' : List ℕ
  answered' = slice_set w.answered hart (answered_at w.answered hart + 1)

  abbrev s' : Monitor
  s' = answer (given_back s e) hart

  g : IsGivenBack digest_of w.ctl (all_zeroed w.ctl held) w.owners owners' w.enclaves enclaves' e
  g = given_pages digest_of w k e there

  pub change : ChangedAt free_enclave w.enclaves enclaves' e (freed r)
  change = changed_set free_enclave w.enclaves e (freed r) there

  pub number_here : s'.number e ≡ monitor.freed n
  number_here = if_same e (monitor.freed n) n

  pub number_other : (f : ℕ) → f ≢ e → s'.number f ≡ s.number f
  number_other f other = if_other e f (monitor.freed n) (s.number f) other

  -- ---- records

  frame : Frame w.setup e (enclave_at w.enclaves) (enclave_at enclaves') s.number s'.number (written_page w) (written_page w) w.owners owners'
  frame = record {
    records = change.others;
    numbers = number_other;
    owned = λ f page other is. own_stays digest_of w k e there f page other is;
    own_bytes = λ f page other is. refl;
    table_bytes = λ f level other few low. refl;
    childless = λ f shadow other parent. no_child digest_of w k e there childless f shadow parent;
  }

  free_agrees : RecordAgrees (freed r) (monitor.freed n)
  free_agrees = (let agrees = k.stands.records e in
      record { state = refl; live = refl; hart = agrees.hart; image = agrees.image; given = refl; parent = refl; sent = refl; taken = refl; retired = refl })

  pub records_agree : RecordsAgree (enclave_at enclaves') s'.number
  records_agree = records_frame w.setup e (enclave_at w.enclaves) (enclave_at enclaves') s.number s'.number (written_page w)
      (written_page w) w.owners owners' frame k.stands.records
      (subst (λ y. RecordAgrees y (s'.number e)) (sym change.here) (subst (RecordAgrees (freed r)) (sym number_here) free_agrees))

  pub enclaves_agree : EnclavesAgree w.setup (written_page w) owners' (enclave_at enclaves') s'.number
  enclaves_agree = enclaves_frame w.setup e (enclave_at w.enclaves) (enclave_at enclaves') s.number s'.number (written_page w)
      (written_page w) w.owners owners' frame k.stands.enclaves
      (λ in_use. absurd (false≢true (sym in_use ∙ ap (λ (y : Enclave). is_free y.state) change.here)))

  none_are : PagesAre w.setup s'.number (freed r) (monitor.freed n)
  none_are = record { broken = []; ahead = false; so_far = refl; kinds = refl; spares = refl; few = omega arith }

  pages_agree : PagesAgree w.setup (enclave_at enclaves') s'.number
  pages_agree = pages_frame w.setup e (enclave_at w.enclaves) (enclave_at enclaves') s.number s'.number change.others number_other
      (λ f shadow parent. ap (λ (m : Number). m.pages) (number_other shadow (λ same. childless f (parent ∙ ap Some same)))) k.stands.pages
      (subst (λ y. PagesAre w.setup s'.number y (s'.number e)) (sym change.here) (subst (PagesAre w.setup s'.number (freed r)) (sym number_here) none_are))

  -- ---- the pages that only attacks change

  out : (f page : ℕ) → f ≢ e → is_free (enclave_at w.enclaves f).state ≡ false → Contains (numbers_of (enclave_at w.enclaves f).pages) page → is_among held page ≡ false
  out = number_out digest_of w k e there childless

  made_still : (f page : ℕ) → f ≢ e → Contains (numbers_of (enclave_at enclaves' f).pages) page → is_made (s'.number f) ≡ true → PageAgrees off_chip w.ctl.mirror s.attacks page
  made_still f page other listed made =
      let was_listed : Contains (numbers_of (enclave_at w.enclaves f).pages) page = subst (λ (y : Enclave). Contains (numbers_of y.pages) page) (change.others f other) listed in
      let was : is_made (s.number f) ≡ true = sym (ap is_made (number_other f other)) ∙ made in
      page_still digest_of w k e there page (out f page other (made_used (enclave_at w.enclaves f) (s.number f) (k.stands.records f) was) was_listed)
      (k.stands.attacks.made page f was_listed was)

  put_still : (other page : ℕ) → other ≢ hart → HasPut (hart_line w other) (under_at w.under other) page → PageAgrees off_chip w.ctl.mirror s.attacks page
  put_still other page differs put =
      let stands = k.stands.lines other in
      let listed = put_page w.setup (written_page w) (enclave_at w.enclaves) s.number other (hart_line w other) (under_at w.under other) page stands put in
      let in_use = line_used w.setup (written_page w) (enclave_at w.enclaves) s.number other (hart_line w other) (under_at w.under other) listed.0 stands listed.1 in
      page_still digest_of w k e there page (out listed.0 page (not_theirs other listed.0 differs listed.1) in_use listed.2) (k.stands.attacks.put other page put)

  -- ---- the row, where translations stand after it

  module _ (history' : HistoryData) (moves : LineMoves w hart under' answered' history' s' Idle (answered_at w.answered hart + 1)) where
    pub line_other : (other : ℕ) → other ≢ hart → line_after w answered' other ≡ hart_line w other
    line_other other differs = ap (slice_get (script_of w.setup other)) (moves.answered_change.others other differs)

    attacks : OnlyAttacksDiffer w.setup.zones off_chip w.ctl.mirror s.attacks owners' (enclave_at enclaves') s'.number (line_after w answered') (under_at under')
    attacks = record {
      nodes = λ i past clean. g.nodes i (subst (λ zones. 4096 * (64 * zones) ≤ i) (sym k.sizes.zones) past) ∙ k.stands.attacks.nodes i past clean;
      guarded = λ page is. (let outside : is_among held page ≡ false = guard_out digest_of w k e there page is in
          page_still digest_of w k e there page outside (k.stands.attacks.guarded page (sym (g.other_owners page outside) ∙ is)));
      made = λ page f. everywhere
          (λ f. Contains (numbers_of (enclave_at enclaves' f).pages) page → is_made (s'.number f) ≡ true → PageAgrees off_chip w.ctl.mirror s.attacks page) e
          (λ listed made. absurd (false≢true (sym (ap is_made number_here) ∙ made)))
          (λ f other. made_still f page other) f;
      put = λ other page. everywhere (λ o. HasPut (line_after w answered' o) (under_at under' o) page → PageAgrees off_chip w.ctl.mirror s.attacks page) hart
          (λ put. absurd (idle_put_none _ page (subst (λ u. HasPut (line_after w answered' hart) u page) moves.under_change.here put)))
          (λ o differs put. put_still o page differs (subst (λ u. HasPut (hart_line w o) u page) (moves.under_change.others o differs)
          (subst (λ l. HasPut l (under_at under' o) page) (line_other o differs) put))) other;
    }

    of_owners : OwnersAgree owners' (given_back s e)
    of_owners = given_owners digest_of w k e there

    module _ (tlbs' : List (List TlbEntry)) (fences' : List (Option Fence))
        (translations : TranslationsStand w.setup ctl' tlbs' fences' (enclave_at enclaves') s' (line_after w answered') (under_at under')) where
      facts : RowFacts digest_of w hart ctl' owners' enclaves' tlbs' fences' under' answered' history' s' Idle (answered_at w.answered hart + 1)
      facts = record {
        line = moves;
        sizes = record {
          zones = refl;
          slots = refl;
          pages = g.as_many_owners;
          guarded = λ page is. guard_stays digest_of w k e there page is;
          numbers = change.size;
        };
        trees = subst (IsKept digest_of) g.off_chip_alone g.kept;
        owners_agree = record { owner = of_owners.owner; maps = of_owners.maps };
        records = records_agree;
        pages_agree = pages_agree;
        enclaves_agree = enclaves_agree;
        host = given_bytes digest_of w k e there;
        attacks = attacks;
        other_lines = λ other differs. line_frame w.setup e (enclave_at w.enclaves) (enclave_at enclaves') s.number s'.number (written_page w)
            (written_page w) w.owners owners' frame
            k.stands.enclaves (λ f in_use. subst (λ size. f < size) k.sizes.numbers (used_there w.enclaves f in_use)) other (hart_line w other) (under_at w.under other)
            (λ f is. not_theirs other f differs is) (k.stands.lines other);
        own_line = tt;
        own_apart = λ other f differs own is. none_some f _ (idle_has_none _) own;
        translations = translations;
      }

      -- such an event keeps what a world keeps
      pub given_row : Kept digest_of (with_parts w ctl' owners' enclaves' tlbs' fences' under' answered' history')
      given_row = row_kept digest_of w hart ctl' owners' enclaves' tlbs' fences' under' answered' history' s' Idle (answered_at w.answered hart + 1) k none facts
