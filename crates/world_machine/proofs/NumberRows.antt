-- An event of a hart that has a number under way: it changes that number alone, one page of it or of its tables, and how far the hart is.
use Rattle.std.proofs.Common.{◌≡◌, ◌≢◌, ℕ, ◌+◌, ◌*◌, ◌<◌, ◌⊎◌, true, false, List, length, slice_get, Option, Some, None, option_map, refl, sym, ap, ◌∙◌, subst, arith, inl, inr}
use Rattle.std.specs.Prelude.{Contains}
use Rattle.std.specs.List.{All}
use Rattle.std.proofs.lemmas.Bool.{false≢true}
use Rattle.std.proofs.lemmas.List.Elements.{All-weaker, All-map}
use Rattle.std.proofs.lemmas.Option.{slice_get_within}
use Rattle.pl_base.specs.declared.number.EncNo.{EncNo}
use Rattle.rv_tlb.specs.declared.tlb.TlbEntry.{TlbEntry}
use Rattle.mem_ctl.specs.Access.{BothChange, BothStay, Leaves}
use Rattle.mem_ctl.specs.Data.{CtlData}
use Rattle.mem_geom.specs.Parts.{page_bytes}
use Rattle.mon_enclave.specs.declared.enclave.Enclave.{Enclave}
use Rattle.mon_enclave.specs.declared.enclave.PageKind.{PageKind}
use Rattle.mon_enclave.specs.declared.enclave.PageKind.TheVariants.{Own, Shared}
use Rattle.mon_enclave.specs.Records.{enclave_at, free_enclave, page_number_of}
use Rattle.mon_host.specs.Laws.{mirror_words}
use Rattle.mon_life.specs.Pages.{leaves_of}
use Rattle.mon_owner.specs.declared.owners.Owner.{Owner}
use Rattle.mon_owner.specs.declared.owners.Owner.TheVariants as owner_is
use Rattle.mon_tables.specs.SpaceWalks.{NumberTables}
use Rattle.mon_tables.specs.Tables.{table_number}
use Rattle.pl_history.specs.declared.line.Line.{Line}
use Rattle.pl_history.specs.declared.setup.SetupParts.{SetupParts}
use Rattle.pl_history.specs.History.{HistoryData}
use Rattle.pl_history.specs.Monitor.{Monitor, Number, is_host, maps_of, script_of}
use Rattle.pl_history.specs.Monitor as monitor
use Rattle.world_machine.specs.declared.under.Under.{Under}
use Rattle.world_machine.specs.declared.under.Under.TheVariants.{Idle}
use Rattle.world_machine.specs.BytesAgree.{ByteAgrees, HasPut, HostBytesAgree, OnlyAttacksDiffer, PageAgrees}
use Rattle.world_machine.specs.EnclavesAgree.{EnclaveStands, EnclavesAgree, IsOwn, is_made, IsOwnOrShared}
use Rattle.world_machine.specs.LinesUnderWay.{LineUnderWay, number_under_way}
use Rattle.world_machine.specs.Making.{image_of}
use Rattle.world_machine.specs.Pages.{numbers_of}
use Rattle.world_machine.specs.PagesAgree.{PagesAgree, PagesAre}
use Rattle.world_machine.specs.RecordsAgree.{OwnersAgree, RecordAgrees, RecordsAgree, owner_of}
use Rattle.world_machine.specs.Standing.{Kept, state_of, written_page}
use Rattle.world_machine.specs.TranslationsAgree.{IsFresh, TranslationsStand, WalkingStands, walking}
use Rattle.world_machine.specs.Worlds.{WorldData, hart_line, tlb_at, under_at}
use Rattle.world_machine.proofs.ForkedNumbers.{under_way_childless}
use Rattle.world_machine.proofs.Frames.{Frame, enclaves_frame, line_frame, records_frame}
use Rattle.world_machine.proofs.LineMoves.{LineMoves}
use Rattle.world_machine.proofs.LineTranslations.{fresh_walking, idle_walks, isnt_waiting}
use Rattle.world_machine.proofs.Lists.{ChangedAt, everywhere, if_other, if_same}
use Rattle.world_machine.proofs.PagesStay.{pages_frame, pages_over}
use Rattle.world_machine.proofs.RowKept.{RowFacts, attacks_frame, line_after, row_kept, with_parts}
use Rattle.world_machine.proofs.SetupFacts.{table_guarded, tables_apart, used_there}
use Rattle.world_machine.proofs.TranslationFrames.{KeepsSpace, SpacesStay, TablePagesStay, fresh_stays, host_table_inside, live_there, number_table_inside, same_keeps, translations_stay}

-- all pages but one stay, off chip and in the mirror
pub record AllButOneStay (page : ℕ) (old new : CtlData) : Type 0 where
  pub off_chip : (other : ℕ) → other < 64 * old.zones → other ≢ page → page_bytes new.off_chip other ≡ page_bytes old.off_chip other
  pub mirror : (other : ℕ) → other < 64 * old.zones → other ≢ page → page_bytes new.mirror other ≡ page_bytes old.mirror other

pub but_none : (page : ℕ) (old new : CtlData) → BothStay old new → AllButOneStay page old new
but_none page old new stay = record {
  off_chip = λ other below differs. stay.off_chip_pages other below;
  mirror = λ other below differs. stay.mirror_pages other below;
}

pub but_changed : (page : ℕ) (change : List ℕ → List ℕ) (old new : CtlData) → BothChange page change old new → AllButOneStay page old new
but_changed page change old new both = record {
  off_chip = λ other below differs. both.off_chip_pages other below ∙ if_other page other (change (page_bytes old.off_chip page)) (page_bytes old.off_chip other) differs;
  mirror = λ other below differs. both.mirror_pages other below ∙ if_other page other (change (page_bytes old.mirror page)) (page_bytes old.mirror other) differs;
}

-- a page of a number: its own, or one of its tables
abbrev pub IsPageOfNumber : SetupParts → List Owner → ℕ → ℕ → Type 0
IsPageOfNumber setup owners e page = IsOwn owners e page ⊎ ((level : ℕ) × (level < 3) × (page ≡ table_number setup.tables e level))

-- the number's state in the monitor is this one, and nothing else of the monitor changed but how far a hart is
pub record NumberBecomes (s s' : Monitor) (e : ℕ) (n : Number) : Type 0 where
  pub owner : (page : ℕ) → s'.owner page ≡ s.owner page
  pub maps : (page : ℕ) → maps_of s' page ≡ maps_of s page
  pub bytes : (page : ℕ) → s'.bytes page ≡ s.bytes page
  pub attacks : s'.attacks ≡ s.attacks
  pub space : s'.space ≡ s.space
  pub removals : s'.removals ≡ s.removals
  pub here : s'.number e ≡ n
  pub others : (f : ℕ) → f ≢ e → s'.number f ≡ s.number f

-- it stays
pub becomes_same : (s : Monitor) (e : ℕ) → NumberBecomes s s e (s.number e)
becomes_same s e = record { owner = λ page. refl; maps = λ page. refl; bytes = λ page. refl; attacks = refl; space = refl; removals = refl; here = refl; others = λ f other. refl }

-- it changes, and the hart's line is answered
pub becomes_answered : (s : Monitor) (e hart : ℕ) (n : Number) → NumberBecomes s (monitor.answer (monitor.with_number s e n) hart) e n
becomes_answered s e hart n = record {
  owner = λ page. refl;
  maps = λ page. refl;
  bytes = λ page. refl;
  attacks = refl;
  space = refl;
  removals = refl;
  here = if_same e n (s.number e);
  others = λ f other. if_other e f n (s.number f) other;
}

-- The number's space stays where it is live, and so do its tables' pages; where it becomes live, its tables stand.
pub record NumberTranslates (w : WorldData) (e : ℕ) (c : CtlData) (r' : Enclave) (n' : Number) : Type 0 where
  pub keeps : ((state_of w).number e).live ≡ true → KeepsSpace (enclave_at w.enclaves e) r' n'
  pub tables : (level : ℕ) → ((state_of w).number e).live ≡ true → level < 3 → page_bytes c.mirror (table_number w.setup.tables e level) ≡ page_bytes w.ctl.mirror (table_number w.setup.tables e level)
  pub made : ((state_of w).number e).live ≡ false → n'.live ≡ true → NumberTables w.setup.tables e (mirror_words c) (leaves_of r'.pages (image_of w.setup r'.image).pages)

-- a number that isn't live, and doesn't become so
pub never_live : (w : WorldData) (e : ℕ) (c : CtlData) (r' : Enclave) (n' : Number) → ((state_of w).number e).live ≡ false → n'.live ≡ false → NumberTranslates w e c r' n'
never_live w e c r' n' was is = record {
  keeps = λ live. absurd (false≢true (sym was ∙ live));
  tables = λ level live low. absurd (false≢true (sym was ∙ live));
  made = λ not_live live. absurd (false≢true (sym is ∙ live));
}

-- The hart's line waits for nobody; its translations may be used in the state before the event, and its walk stands.
pub record HartTranslates (w : WorldData) (hart : ℕ) (c : CtlData) (enclaves' : List Enclave) (tlbs' : List (List TlbEntry)) (line : Option Line) (u : Under) : Type 0 where
  pub waits_none : isnt_waiting u ≡ true
  pub harts : length tlbs' ≡ length w.tlbs
  pub tlbs : (other : ℕ) → other ≢ hart → tlb_at tlbs' other ≡ tlb_at w.tlbs other
  pub entries : All (IsFresh w.setup (enclave_at w.enclaves) (state_of w) w.fences hart) (tlb_at tlbs' hart)
  pub walk : WalkingStands c (IsFresh w.setup (enclave_at w.enclaves) (state_of w) w.fences hart) (walking w.setup.tables (enclave_at enclaves') line u)

-- its translations stay
pub keeps_tlbs : (digest_of : List ℕ → List ℕ) (w : WorldData) (hart : ℕ) (c : CtlData) (enclaves' : List Enclave) (line : Option Line) (u : Under) → Kept digest_of w → isnt_waiting u ≡ true
    → WalkingStands c (IsFresh w.setup (enclave_at w.enclaves) (state_of w) w.fences hart) (walking w.setup.tables (enclave_at enclaves') line u) → HartTranslates w hart c enclaves' w.tlbs line u
keeps_tlbs digest_of w hart c enclaves' line u k none walk = record { waits_none = none; harts = refl; tlbs = λ other differs. refl; entries = k.stands.translations.fresh.entries hart; walk = walk }

-- and its line has no walk
pub idle_translates : (digest_of : List ℕ → List ℕ) (w : WorldData) (hart : ℕ) (c : CtlData) (enclaves' : List Enclave) (line : Option Line) → Kept digest_of w
    → HartTranslates w hart c enclaves' w.tlbs line Idle
idle_translates digest_of w hart c enclaves' line k = keeps_tlbs digest_of w hart c enclaves' line Idle k refl (idle_walks c (IsFresh w.setup (enclave_at w.enclaves) (state_of w) w.fences hart) w.setup.tables (enclave_at enclaves') line)

module _ (digest_of : List ℕ → List ℕ) (w : WorldData) (k : Kept digest_of w) where
  abbrev s : Monitor
  s = state_of w

  pub same_number : (f g : ℕ) → Some (monitor.number f) ≡ Some (monitor.number g) → f ≡ g
  same_number f g same = cc

  -- a page of the pool has an owner
  pub owned_within : (page : ℕ) (o : Owner) → slice_get w.owners page ≡ Some o → page < 64 * w.ctl.zones
  owned_within page o is =
      let within : page < length w.owners = slice_get_within w.owners page o is in
      let size : length w.owners ≡ 64 * w.setup.zones = k.sizes.pages in
      let zones : w.ctl.zones ≡ w.setup.zones = k.sizes.zones in
      omega arith

  host_owned : (page : ℕ) (o : Option Owner) → slice_get w.owners page ≡ o → is_host (option_map owner_of o) ≡ true → page < 64 * w.ctl.zones
  host_owned page None is host = cc
  host_owned page (Some o) is host = owned_within page o is

  pub host_within : (page : ℕ) → is_host (s.owner page) ≡ true → page < 64 * w.ctl.zones
  host_within page host = host_owned page (slice_get w.owners page) refl (ap is_host (sym (k.stands.owners.owner page)) ∙ host)

  -- and so has one of a number
  pub own_within : (e page : ℕ) → IsOwn w.owners e page → page < 64 * w.ctl.zones
  own_within e page own = owner_within (slice_get w.owners page) refl own
    where
      owner_within : (o : Option Owner) → slice_get w.owners page ≡ o → option_map owner_of o ≡ Some (monitor.number e) → page < 64 * w.ctl.zones
      owner_within None is none = (let clash : None ≡ Some (monitor.number e) = none in cc)
      owner_within (Some o) is has = owned_within page o is

  -- so all pages of a record are there
  pub held_within : (e : ℕ) (parent : Option EncNo) (kind : PageKind) → IsOwnOrShared w.owners e parent kind → page_number_of kind < 64 * w.ctl.zones
  held_within e parent (Own page) own = own_within e page own
  held_within e parent (Shared page) (shadow, is, own) = own_within shadow.0 page own

  pub held_inside : (e : ℕ) (parent : Option EncNo) (kinds : List PageKind) → All (IsOwnOrShared w.owners e parent) kinds → All (λ page. page < 64 * w.ctl.zones) (numbers_of kinds)
  held_inside e parent kinds owned = All-map (λ page. page < 64 * w.ctl.zones) page_number_of kinds
      (All-weaker (IsOwnOrShared w.owners e parent) (λ kind. page_number_of kind < 64 * w.ctl.zones) (λ kind held. held_within e parent kind held) kinds owned)

  -- the owner of a number's page in the monitor
  pub own_number : (e page : ℕ) → IsOwn w.owners e page → s.owner page ≡ Some (monitor.number e)
  own_number e page own = k.stands.owners.owner page ∙ own

  -- a number's page isn't guarded
  pub own_guard : (e page : ℕ) → IsOwn w.owners e page → slice_get w.owners page ≡ Some owner_is.Guard → ⊥
  own_guard e page own guard = (let clash : Some monitor.guard ≡ Some (monitor.number e) = sym (ap (option_map owner_of) guard) ∙ own in cc)

  -- a table's page is guarded
  pub table_guard : (f level : ℕ) → f < w.setup.enclaves → slice_get w.owners (table_number w.setup.tables f level) ≡ Some owner_is.Guard
  table_guard f level there = k.sizes.guarded (table_number w.setup.tables f level) (table_guarded w.setup f level there)

  module _ (e : ℕ) (there : e < w.setup.enclaves) where
    -- the page of a number isn't the host's, nor another number's, nor a table of one
    pub of_number_within : (page : ℕ) → IsPageOfNumber w.setup w.owners e page → page < 64 * w.ctl.zones
    of_number_within page (inl own) = own_within e page own
    of_number_within page (inr (level, low, is)) = subst (λ p. p < 64 * w.ctl.zones) (sym is) (owned_within (table_number w.setup.tables e level) owner_is.Guard (table_guard e level there))

    pub not_host : (page : ℕ) → IsPageOfNumber w.setup w.owners e page → is_host (s.owner page) ≡ false
    not_host page (inl own) = ap is_host (own_number e page own)
    not_host page (inr (level, low, is)) =
        ap (λ p. is_host (s.owner p)) is ∙ ap is_host (k.stands.owners.owner (table_number w.setup.tables e level) ∙ ap (option_map owner_of) (table_guard e level there))

    pub not_others : (f page other : ℕ) → f ≢ e → IsOwn w.owners f other → IsPageOfNumber w.setup w.owners e page → other ≢ page
    not_others f page other differ theirs (inl own) same =
        absurd (differ (same_number f e (sym theirs ∙ ap (λ p. option_map owner_of (slice_get w.owners p)) same ∙ own)))
    not_others f page other differ theirs (inr (level, low, is)) same =
        absurd (own_guard f other theirs (ap (slice_get w.owners) (same ∙ is) ∙ table_guard e level there))

    pub not_tables : (f lower page : ℕ) → f ≢ e → f < w.setup.enclaves → lower < 3 → IsPageOfNumber w.setup w.owners e page → table_number w.setup.tables f lower ≢ page
    not_tables f lower page differ few low (inl own) same =
        absurd (own_guard e page own (ap (slice_get w.owners) (sym same) ∙ table_guard f lower few))
    not_tables f lower page differ few low (inr (level, lows, is)) same = tables_apart w.setup.tables e f lower level differ low lows (same ∙ is)

    pub not_host_tables : (table page : ℕ) → table < 2 + w.setup.tables → IsPageOfNumber w.setup w.owners e page → table ≢ page
    not_host_tables table page low (inl own) same =
        absurd (own_guard e page own (ap (slice_get w.owners) (sym same) ∙ k.sizes.guarded table (omega arith)))
    not_host_tables table page low (inr (level, lows, is)) same = let equal : table ≡ table_number w.setup.tables e level = same ∙ is in absurd (omega arith)

    -- a page of the number's own isn't a table
    pub own_no_table : (level page : ℕ) → IsOwn w.owners e page → table_number w.setup.tables e level ≢ page
    own_no_table level page own same =
        absurd (own_guard e page own (ap (slice_get w.owners) (sym same) ∙ table_guard e level there))

    -- so the number's tables stay where a page of its own changes
    pub own_leaves_tables : (page : ℕ) (c : CtlData) → IsOwn w.owners e page → AllButOneStay page w.ctl c
        → (level : ℕ) → level < 3 → page_bytes c.mirror (table_number w.setup.tables e level) ≡ page_bytes w.ctl.mirror (table_number w.setup.tables e level)
    own_leaves_tables page c own stay level low = stay.mirror (table_number w.setup.tables e level) (number_table_inside digest_of w k e level there) (own_no_table level page own)

    module _ (none : w.collision ≡ None) (hart : ℕ) (under_way : number_under_way (hart_line w hart) (under_at w.under hart) ≡ Some e)
        (waited : isnt_waiting (under_at w.under hart) ≡ true) (c : CtlData) (leaves : Leaves digest_of w.ctl c) (page : ℕ) (of_number : IsPageOfNumber w.setup w.owners e page) (stay : AllButOneStay page w.ctl c)
        (enclaves' : List Enclave) (r' : Enclave) (change : ChangedAt free_enclave w.enclaves enclaves' e r')
        (s' : Monitor) (n' : Number) (becomes : NumberBecomes s s' e n')
        (under' : List Under) (answered' : List ℕ) (history' : HistoryData) (u : Under) (count : ℕ) (moves : LineMoves w hart under' answered' history' s' u count)
        (agrees : RecordAgrees r' n') (pages_now : PagesAre w.setup s.number r' n') (own_pages : n'.pages ≡ (s.number e).pages)
        (stands : EnclaveStands w.setup (page_bytes c.mirror) w.owners e r' n')
        (made_own : (own : ℕ) → Contains (numbers_of r'.pages) own → is_made n' ≡ true → PageAgrees c.off_chip c.mirror s.attacks own)
        (put_own : (own : ℕ) → HasPut (slice_get (script_of w.setup hart) count) u own → PageAgrees c.off_chip c.mirror s.attacks own)
        (own_line : LineUnderWay w.setup (page_bytes c.mirror) (enclave_at enclaves') s'.number hart (slice_get (script_of w.setup hart) count) u)
        (own_number : (f : ℕ) → number_under_way (slice_get (script_of w.setup hart) count) u ≡ Some f → f ≡ e)
        (translates : NumberTranslates w e c r' n') (tlbs' : List (List TlbEntry)) (own : HartTranslates w hart c enclaves' tlbs' (slice_get (script_of w.setup hart) count) u) where
      abbrev bytes' : ℕ → List ℕ
      bytes' = page_bytes c.mirror

      frame : Frame w.setup e (enclave_at w.enclaves) (enclave_at enclaves') s.number s'.number (written_page w) bytes' w.owners w.owners
      frame = record {
        records = change.others;
        numbers = becomes.others;
        owned = λ f own other is. is;
        own_bytes = λ f own other is. stay.mirror own (own_within f own is) (not_others f page own other is of_number);
        table_bytes = λ f level other few low. stay.mirror (table_number w.setup.tables f level) (owned_within (table_number w.setup.tables f level) owner_is.Guard (table_guard f level few))
            (not_tables f level page other few low of_number);
        childless = λ f shadow other parent. under_way_childless digest_of w k hart e under_way f shadow parent;
      }

      owners_agree : OwnersAgree w.owners s'
      owners_agree = record {
        owner = λ p. becomes.owner p ∙ k.stands.owners.owner p;
        maps = λ p maps is. k.stands.owners.maps p maps is ∙ sym (becomes.maps p);
      }

      host : HostBytesAgree c.off_chip s'
      host p is =
          let was : is_host (s.owner p) ≡ true = ap is_host (sym (becomes.owner p)) ∙ is in
          let apart : p ≢ page = λ same. (let clash : true ≡ false = sym was ∙ ap (λ q. is_host (s.owner q)) same ∙ not_host page of_number in cc) in
          stay.off_chip p (host_within p was) apart ∙ k.stands.host p was ∙ sym (becomes.bytes p)

      with_attacks : (p : ℕ) → PageAgrees c.off_chip c.mirror s.attacks p → PageAgrees c.off_chip c.mirror s'.attacks p
      with_attacks p = subst (λ a. PageAgrees c.off_chip c.mirror a p) (sym becomes.attacks)

      line_own : line_after w answered' hart ≡ slice_get (script_of w.setup hart) count
      line_own = ap (slice_get (script_of w.setup hart)) moves.answered_change.here

      attacks : OnlyAttacksDiffer w.setup.zones c.off_chip c.mirror s'.attacks w.owners (enclave_at enclaves') s'.number (line_after w answered') (under_at under')
      attacks = attacks_frame w.setup.zones w.ctl.off_chip w.ctl.mirror c.off_chip c.mirror s.attacks s'.attacks w.owners w.owners (enclave_at w.enclaves) (enclave_at enclaves') s.number s'.number
          (hart_line w) (line_after w answered') (under_at w.under) (under_at under') hart e
          (λ i old. subst (λ a. ByteAgrees c.off_chip c.mirror a i) (sym becomes.attacks) (λ free. leaves.still_written i (old free)))
          (record {
            guarded = λ p is. is;
            made = λ f other. ap is_made (becomes.others f other);
            pages = λ f other. ap (λ (x : Enclave). x.pages) (change.others f other);
            lines = λ other differs. ap (slice_get (script_of w.setup other)) (moves.answered_change.others other differs);
            unders = moves.under_change.others;
            made_own = λ p is made. with_attacks p (made_own p (subst (λ (x : Enclave). Contains (numbers_of x.pages) p) change.here is) (ap is_made (sym becomes.here) ∙ made));
            put_own = λ p put. with_attacks p (put_own p (subst (λ l. HasPut l u p) line_own (subst (λ v. HasPut (line_after w answered' hart) v p) moves.under_change.here put)));
          })
          k.stands.attacks

      not_theirs : (other f : ℕ) → other ≢ hart → number_under_way (hart_line w other) (under_at w.under other) ≡ Some f → f ≢ e
      not_theirs other f differs is same = differs (k.stands.apart other hart e (is ∙ ap Some same) under_way)

      records_agree : RecordsAgree (enclave_at enclaves') s'.number
      records_agree = records_frame w.setup e (enclave_at w.enclaves) (enclave_at enclaves') s.number s'.number (written_page w) bytes' w.owners w.owners frame k.stands.records
          (subst (λ x. RecordAgrees x (s'.number e)) (sym change.here) (subst (RecordAgrees r') (sym becomes.here) agrees))

      enclaves_agree : EnclavesAgree w.setup bytes' w.owners (enclave_at enclaves') s'.number
      enclaves_agree = enclaves_frame w.setup e (enclave_at w.enclaves) (enclave_at enclaves') s.number s'.number (written_page w) bytes' w.owners w.owners frame k.stands.enclaves
          (λ used. subst (λ x. EnclaveStands w.setup bytes' w.owners e x (s'.number e)) (sym change.here)
          (subst (EnclaveStands w.setup bytes' w.owners e r') (sym becomes.here) stands))

      pages_agree : PagesAgree w.setup (enclave_at enclaves') s'.number
      pages_agree = pages_frame w.setup e (enclave_at w.enclaves) (enclave_at enclaves') s.number s'.number change.others becomes.others (λ f shadow parent. shadow_stays shadow) k.stands.pages
          (subst (λ x. PagesAre w.setup s'.number x (s'.number e)) (sym change.here) (subst (PagesAre w.setup s'.number r') (sym becomes.here)
          (pages_over w.setup s.number s'.number r' n' (λ shadow parent. shadow_stays shadow) pages_now)))
        where
          shadow_stays : (shadow : ℕ) → (s'.number shadow).pages ≡ (s.number shadow).pages
          shadow_stays = everywhere (λ f. (s'.number f).pages ≡ (s.number f).pages) e (ap (λ (m : Number). m.pages) becomes.here ∙ own_pages)
              (λ f other. ap (λ (m : Number). m.pages) (becomes.others f other))

      -- ---- translations

      spaces : SpacesStay digest_of w k c (enclave_at enclaves') s'
      spaces = record {
        space = becomes.space;
        removals = becomes.removals;
        numbers = everywhere (λ f. (s.number f).live ≡ true → KeepsSpace (enclave_at w.enclaves f) (enclave_at enclaves' f) (s'.number f)) e
            (λ live. subst (λ x. KeepsSpace (enclave_at w.enclaves e) x (s'.number e)) (sym change.here)
            (subst (KeepsSpace (enclave_at w.enclaves e) r') (sym becomes.here) (translates.keeps live)))
            (λ f other live. same_keeps (enclave_at w.enclaves f) (enclave_at enclaves' f) (s.number f) (s'.number f) (change.others f other) (becomes.others f other) live);
      }

      table_pages : TablePagesStay digest_of w k c (enclave_at enclaves') s'
      table_pages = record {
        host = λ p low. stay.mirror p (host_table_inside digest_of w k p low) (not_host_tables p page low of_number);
        numbers = everywhere (λ f. (level : ℕ) → (s.number f).live ≡ true → level < 3 → bytes' (table_number w.setup.tables f level) ≡ written_page w (table_number w.setup.tables f level)) e
            translates.tables (λ f other level live low. frame.table_bytes f level other (live_there digest_of w k f live) low);
        made = everywhere (λ f. (s.number f).live ≡ false → (s'.number f).live ≡ true
            → NumberTables w.setup.tables f (mirror_words c) (leaves_of (enclave_at enclaves' f).pages (image_of w.setup (enclave_at enclaves' f).image).pages)) e
            (λ was live. subst (λ (x : Enclave). NumberTables w.setup.tables e (mirror_words c) (leaves_of x.pages (image_of w.setup x.image).pages)) (sym change.here)
            (translates.made was (ap (λ (m : Number). m.live) (sym becomes.here) ∙ live)))
            (λ f other was live. absurd (false≢true (sym was ∙ ap (λ (m : Number). m.live) (sym (becomes.others f other)) ∙ live)));
      }

      translations : TranslationsStand w.setup c tlbs' w.fences (enclave_at enclaves') s' (line_after w answered') (under_at under')
      translations = translations_stay digest_of w k c (enclave_at enclaves') s' spaces table_pages hart tlbs' (line_after w answered') (under_at under') (record {
        lines = λ other differs. ap (slice_get (script_of w.setup other)) (moves.answered_change.others other differs);
        unders = moves.under_change.others;
        contexts = λ other f differs is. ap (λ (x : Enclave). x.context) (change.others f (not_theirs other f differs is));
        harts = own.harts;
        tlbs = own.tlbs;
        waited_none = waited;
        waits_none = ap isnt_waiting moves.under_change.here ∙ own.waits_none;
        entries = All-weaker (IsFresh w.setup (enclave_at w.enclaves) s w.fences hart) (IsFresh w.setup (enclave_at enclaves') s' w.fences hart) (fresh_stays digest_of w k c (enclave_at enclaves') s' spaces hart) (tlb_at tlbs' hart) own.entries;
        walk = subst (λ l. WalkingStands c (IsFresh w.setup (enclave_at enclaves') s' w.fences hart) (walking w.setup.tables (enclave_at enclaves') l (under_at under' hart))) (sym line_own)
            (subst (λ v. WalkingStands c (IsFresh w.setup (enclave_at enclaves') s' w.fences hart) (walking w.setup.tables (enclave_at enclaves') (slice_get (script_of w.setup hart) count) v)) (sym moves.under_change.here)
            (fresh_walking c (IsFresh w.setup (enclave_at w.enclaves) s w.fences hart) (IsFresh w.setup (enclave_at enclaves') s' w.fences hart) (fresh_stays digest_of w k c (enclave_at enclaves') s' spaces hart)
            (walking w.setup.tables (enclave_at enclaves') (slice_get (script_of w.setup hart) count) u) own.walk));
      })

      facts : RowFacts digest_of w hart c w.owners enclaves' tlbs' w.fences under' answered' history' s' u count
      facts = record {
        line = moves;
        sizes = record { zones = leaves.same_zones; slots = leaves.same_slots; pages = refl; guarded = λ p is. is; numbers = change.size };
        trees = leaves.kept;
        owners_agree = owners_agree;
        records = records_agree;
        pages_agree = pages_agree;
        enclaves_agree = enclaves_agree;
        host = host;
        attacks = attacks;
        other_lines = λ other differs. line_frame w.setup e (enclave_at w.enclaves) (enclave_at enclaves') s.number s'.number (written_page w) bytes' w.owners w.owners frame
            k.stands.enclaves (λ f used. subst (λ size. f < size) k.sizes.numbers (used_there w.enclaves f used))
            other (hart_line w other) (under_at w.under other) (λ f is. not_theirs other f differs is) (k.stands.lines other);
        own_line = own_line;
        own_apart = λ other f differs own is. not_theirs other f differs is (own_number f own);
        translations = translations;
      }

      -- such an event keeps what a world keeps
      pub number_row : Kept digest_of (with_parts w c w.owners enclaves' tlbs' w.fences under' answered' history')
      number_row = row_kept digest_of w hart c w.owners enclaves' tlbs' w.fences under' answered' history' s' u count k none facts
