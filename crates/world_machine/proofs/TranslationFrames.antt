-- An event that leaves the fences, the host's space and the removals leaves the translations, where the tables' pages of live numbers stay.
use Rattle.std.proofs.Common.{◌≡◌, ◌≢◌, ℕ, ◌+◌, ◌*◌, ◌<◌, ◌≤◌, leb, Bool, true, false, List, [], length, unwrap_or, Option, Some, refl, ap, sym, ◌∙◌, subst, arith, inl, inr}
use Rattle.std.specs.List.{All}
use Rattle.std.proofs.lemmas.Bool.{and_parts, false≢true, leb-true}
use Rattle.std.proofs.lemmas.List.Elements.{All-weaker}
use Rattle.std.proofs.lemmas.Option.{slice_get_past}
use Rattle.pl_base.specs.declared.state.State.{State}
use Rattle.pl_base.specs.declared.state.State.TheVariants as state_is
use Rattle.pl_base.specs.States.{is_free}
use Rattle.pl_base.specs.declared.address.Vpn.{Vpn}
use Rattle.rv_sv39.specs.Walk.{table_at}
use Rattle.rv_tlb.specs.declared.tlb.TlbEntry.{TlbEntry}
use Rattle.mem_ctl.specs.Access.{BothStay}
use Rattle.mem_ctl.specs.Data.{CtlData}
use Rattle.mem_geom.specs.Parts.{page_bytes}
use Rattle.mon_enclave.specs.declared.enclave.Enclave.{Enclave}
use Rattle.mon_enclave.specs.Records.{enclave_at}
use Rattle.mon_fence.specs.Fences.{fence_of}
use Rattle.mon_host.specs.Laws.{mirror_words}
use Rattle.mon_life.specs.Pages.{leaves_of}
use Rattle.mon_tables.specs.Space.{first_vpn, mapping_at}
use Rattle.mon_tables.specs.SpaceWalks.{HostTables, NumberTables, leaf_mappings}
use Rattle.mon_tables.specs.Tables.{root_of, table_number}
use Rattle.pl_history.specs.declared.line.Line.{Line}
use Rattle.pl_history.specs.declared.setup.SetupParts.{SetupParts}
use Rattle.pl_history.specs.Monitor.{Monitor, Number, Removal}
use Rattle.pl_history.specs.Rules.{guarded_of, pages_of}
use Rattle.world_machine.specs.declared.under.Under.{Under}
use Rattle.world_machine.specs.declared.under.Under.TheVariants.{Idle}
use Rattle.world_machine.specs.FencesStand.{FencesStand, NumberFenceStands, IsOfHost, RemovalStands, removals_by}
use Rattle.world_machine.specs.LinesUnderWay.{number_under_way}
use Rattle.world_machine.specs.Making.{image_of}
use Rattle.world_machine.specs.RecordsAgree.{LiveAgrees, RecordAgrees}
use Rattle.world_machine.specs.Standing.{Kept, state_of, written_page}
use Rattle.world_machine.specs.TablesAgree.{TablesAgree}
use Rattle.world_machine.specs.TranslationsAgree.{IsFresh, MayUse, TranslationsStand, WalkingStands, space_of, walking}
use Rattle.world_machine.specs.Worlds.{WorldData, hart_line, tlb_at, under_at}
use Rattle.world_machine.proofs.LineTranslations.{gives_none, idle_walks, isnt_waiting, line_walks, none_given, none_removed, removes_none}
use Rattle.world_machine.proofs.Lists.{everywhere}
use Rattle.world_machine.proofs.SetupFacts.{guarded_few, table_guarded, used_there}
use Rattle.world_machine.proofs.TablesReached.{host_table_at, host_tables_stay, number_table_at, number_tables_stay}

-- ---- the space of a live number

-- a number stays live, and its record keeps its image and its pages
pub record KeepsSpace (r r' : Enclave) (n' : Number) : Type 0 where
  pub live : n'.live ≡ true
  pub image : r'.image ≡ r.image
  pub pages : r'.pages ≡ r.pages

pub same_keeps : (r r' : Enclave) (n n' : Number) → r' ≡ r → n' ≡ n → n.live ≡ true → KeepsSpace r r' n'
same_keeps r r' n n' same_record same live = record {
  live = ap (λ (m : Number). m.live) same ∙ live;
  image = ap (λ (x : Enclave). x.image) same_record;
  pages = ap (λ (x : Enclave). x.pages) same_record;
}

live_used : (state : State) (live : Bool) → LiveAgrees state live → live ≡ true → is_free state ≡ false
live_used state_is.Free live agrees is = absurd (false≢true (sym agrees ∙ is))
live_used state live agrees is = refl

-- the record of a live number isn't free
pub live_in_use : (r : Enclave) (n : Number) → RecordAgrees r n → n.live ≡ true → is_free r.state ≡ false
live_in_use r n agrees live = live_used r.state n.live agrees.live live

-- ---- its leaves

leaves_same : (setup : SetupParts) (r r' : Enclave) (n' : Number) → KeepsSpace r r' n' → leaves_of r.pages (image_of setup r.image).pages ≡ leaves_of r'.pages (image_of setup r'.image).pages
leaves_same setup r r' n' keeps = λ i. leaves_of (sym keeps.pages i) (image_of setup (sym keeps.image i)).pages

module _ (digest_of : List ℕ → List ℕ) (w : WorldData) (k : Kept digest_of w) where
  abbrev s : Monitor
  s = state_of w

  -- ---- what a hart's line takes away or gives back

  pub removal_so : (hart : ℕ) (under : Under) → under_at w.under hart ≡ under → isnt_waiting under ≡ true → removals_by s.removals hart ≡ []
  removal_so hart under so_far is = none_removed (hart_line w hart) (under_at w.under hart) (removals_by s.removals hart) (ap isnt_waiting so_far ∙ is) (k.stands.translations.removals hart)

  pub giving_so : (hart : ℕ) → isnt_waiting (under_at w.under hart) ≡ true → IsOfHost (fence_of w.fences hart)
  giving_so hart is = none_given (hart_line w hart) (under_at w.under hart) (fence_of w.fences hart) is (k.stands.translations.giving hart)

  -- the line of one hart moves, and waits neither before nor after: all harts' lines still have the removals and the fences that they should
  module _ (actor : ℕ) (line' : ℕ → Option Line) (under' : ℕ → Under) (lines : (hart : ℕ) → hart ≢ actor → line' hart ≡ hart_line w hart)
      (unders : (hart : ℕ) → hart ≢ actor → under' hart ≡ under_at w.under hart) (waited : isnt_waiting (under_at w.under actor) ≡ true) (waits : isnt_waiting (under' actor) ≡ true) where
    pub removals_stay : (hart : ℕ) → RemovalStands (line' hart) (under' hart) (removals_by s.removals hart)
    removals_stay = everywhere (λ h. RemovalStands (line' h) (under' h) (removals_by s.removals h)) actor
        (removes_none (line' actor) (under' actor) (removals_by s.removals actor) waits (removal_so actor (under_at w.under actor) refl waited))
        (λ h other. subst (λ l. RemovalStands l (under' h) (removals_by s.removals h)) (sym (lines h other))
        (subst (λ u. RemovalStands (hart_line w h) u (removals_by s.removals h)) (sym (unders h other)) (k.stands.translations.removals h)))

    pub giving_stays : (hart : ℕ) → NumberFenceStands (line' hart) (under' hart) (fence_of w.fences hart)
    giving_stays = everywhere (λ h. NumberFenceStands (line' h) (under' h) (fence_of w.fences h)) actor
        (gives_none (line' actor) (under' actor) (fence_of w.fences actor) waits (giving_so actor waited))
        (λ h other. subst (λ l. NumberFenceStands l (under' h) (fence_of w.fences h)) (sym (lines h other))
        (subst (λ u. NumberFenceStands (hart_line w h) u (fence_of w.fences h)) (sym (unders h other)) (k.stands.translations.giving h)))

  -- ---- a hart that there isn't

  -- it has no translations, and no line under way
  pub tlb_past : (hart : ℕ) → w.setup.harts ≤ hart → tlb_at w.tlbs hart ≡ []
  tlb_past hart past = ap (λ o. unwrap_or o []) (slice_get_past w.tlbs hart (let size : length w.tlbs ≡ w.setup.harts = k.stands.translations.harts in omega arith))

  pub under_past : (hart : ℕ) → w.setup.harts ≤ hart → under_at w.under hart ≡ Idle
  under_past hart past = ap (λ o. unwrap_or o Idle) (slice_get_past w.under hart (let size : length w.under ≡ w.setup.harts = k.sizes.harts in omega arith))

  -- ---- what a setup's rules say of the tables

  pub few_tables : w.setup.tables ≤ 32
  few_tables = leb-true w.setup.tables 32 (and_parts (leb 1 w.setup.tables) (leb w.setup.tables 32) k.sizes.rules.tables).1

  pub few_numbers : w.setup.enclaves ≤ 64
  few_numbers = leb-true w.setup.enclaves 64 (and_parts (leb 1 w.setup.enclaves) (leb w.setup.enclaves 64) k.sizes.rules.enclaves).1

  guarded_inside : guarded_of w.setup.tables w.setup.enclaves < 64 * w.ctl.zones
  guarded_inside =
      let few : guarded_of w.setup.tables w.setup.enclaves < pages_of w.setup.zones = guarded_few w.setup k.sizes.rules in
      let zones : w.ctl.zones ≡ w.setup.zones = k.sizes.zones in
      omega arith

  -- the pages of tables are pages that there are
  pub host_table_inside : (page : ℕ) → page < 2 + w.setup.tables → page < 64 * w.ctl.zones
  host_table_inside page low = let few : guarded_of w.setup.tables w.setup.enclaves < 64 * w.ctl.zones = guarded_inside in omega arith

  pub number_table_inside : (f level : ℕ) → f < w.setup.enclaves → table_number w.setup.tables f level < 64 * w.ctl.zones
  number_table_inside f level there =
      let few : guarded_of w.setup.tables w.setup.enclaves < 64 * w.ctl.zones = guarded_inside in
      let low : table_number w.setup.tables f level < guarded_of w.setup.tables w.setup.enclaves = table_guarded w.setup f level there in
      omega arith

  -- a live number is one that there is
  pub live_there : (f : ℕ) → (s.number f).live ≡ true → f < w.setup.enclaves
  live_there f live = subst (λ size. f < size) k.sizes.numbers (used_there w.enclaves f (live_in_use (enclave_at w.enclaves f) (s.number f) (k.stands.records f) live))

  few_number : (f : ℕ) → (s.number f).live ≡ true → f < 64
  few_number f live = let there : f < w.setup.enclaves = live_there f live in let few : w.setup.enclaves ≤ 64 = few_numbers in omega arith

  -- where all pages stay, so do the tables
  pub tables_stay : (c : CtlData) → BothStay w.ctl c → TablesAgree w.setup c (enclave_at w.enclaves) s
  tables_stay c both = record {
    host = host_tables_stay w.ctl c w.setup.tables s.space few_tables (λ page low. both.mirror_pages page (host_table_inside page low)) k.stands.translations.tables.host;
    numbers = λ f live. number_tables_stay w.ctl c w.setup.tables f _
        (λ level low. both.mirror_pages (table_number w.setup.tables f level) (number_table_inside f level (live_there f live))) (k.stands.translations.tables.numbers f live);
  }

  -- and each walk stands over tables that stand for the same spaces
  pub walk_over : (c : CtlData) → TablesAgree w.setup c (enclave_at w.enclaves) s → (hart : ℕ)
      → WalkingStands c (IsFresh w.setup (enclave_at w.enclaves) s w.fences hart) (walking w.setup.tables (enclave_at w.enclaves) (hart_line w hart) (under_at w.under hart))
  walk_over c agree hart =
      let tables = k.stands.translations.tables in
      line_walks w.setup.tables w.ctl c (IsFresh w.setup (enclave_at w.enclaves) s w.fences hart) (IsFresh w.setup (enclave_at w.enclaves) s w.fences hart) (λ entry fresh. fresh) s.number
      (host_table_at w.setup.tables (mirror_words w.ctl) (mirror_words c) s.space s.space tables.host agree.host)
      (λ f live. number_table_at w.setup.tables f (mirror_words w.ctl) (mirror_words c) _ _ few_tables (few_number f live) (tables.numbers f live) (agree.numbers f live))
      w.setup (written_page w) (enclave_at w.enclaves) (enclave_at w.enclaves) k.stands.records hart (hart_line w hart) (under_at w.under hart) (k.stands.lines hart) (λ f is. refl)
      (k.stands.translations.fresh.walks hart)

  -- ---- an event that leaves the spaces

  module _ (c : CtlData) (rec' : ℕ → Enclave) (s' : Monitor) where
    -- the host's space and the removals stay, and each live number keeps its space
    pub record SpacesStay : Type 0 where
      pub space : s'.space ≡ s.space
      pub removals : s'.removals ≡ s.removals
      pub numbers : (f : ℕ) → (s.number f).live ≡ true → KeepsSpace (enclave_at w.enclaves f) (rec' f) (s'.number f)

    -- the pages of the host's tables and of those of live numbers stay, and a number that becomes live has its tables
    pub record TablePagesStay : Type 0 where
      pub host : (page : ℕ) → page < 2 + w.setup.tables → page_bytes c.mirror page ≡ page_bytes w.ctl.mirror page
      pub numbers : (f level : ℕ) → (s.number f).live ≡ true → level < 3 → page_bytes c.mirror (table_number w.setup.tables f level) ≡ page_bytes w.ctl.mirror (table_number w.setup.tables f level)
      pub made : (f : ℕ) → (s.number f).live ≡ false → (s'.number f).live ≡ true → NumberTables w.setup.tables f (mirror_words c) (leaves_of (rec' f).pages (image_of w.setup (rec' f).image).pages)

    module _ (spaces : SpacesStay) where
      same_leaves : (f : ℕ) → (s.number f).live ≡ true
          → leaves_of (enclave_at w.enclaves f).pages (image_of w.setup (enclave_at w.enclaves f).image).pages ≡ leaves_of (rec' f).pages (image_of w.setup (rec' f).image).pages
      same_leaves f live = leaves_same w.setup (enclave_at w.enclaves f) (rec' f) (s'.number f) (spaces.numbers f live)

      -- the space of a live number
      pub space_stays : (f : ℕ) → (s.number f).live ≡ true → space_of w.setup (rec' f) ≡ space_of w.setup (enclave_at w.enclaves f)
      space_stays f live = ap (leaf_mappings first_vpn) (sym (same_leaves f live))

      -- a translation that may be used may still be
      pub fresh_stays : (hart : ℕ) (entry : TlbEntry) → IsFresh w.setup (enclave_at w.enclaves) s w.fences hart entry → IsFresh w.setup rec' s' w.fences hart entry
      fresh_stays hart entry (inl of_host) = inl (record {
        mapping = of_host.mapping;
        is = of_host.is;
        fresh = subst (λ space. MayUse (record s' { space = space }) w.fences hart of_host.mapping) (sym spaces.space)
            (subst (λ removals. MayUse (record s' { space = s.space; removals = removals }) w.fences hart of_host.mapping) (sym spaces.removals) of_host.fresh);
      })
      fresh_stays hart entry (inr of_number) = inr (record {
        e = of_number.e;
        mapping = of_number.mapping;
        is = of_number.is;
        fresh = elim of_number.fresh [
          | inl used ↦ inl ((spaces.numbers of_number.e used.0).live, ap (λ space. mapping_at space of_number.mapping.vpn) (space_stays of_number.e used.0) ∙ used.1)
          | inr owed ↦ inr owed
        ];
      })

      -- and so may those of a TLB
      pub entries_stay : (hart : ℕ) → All (IsFresh w.setup rec' s' w.fences hart) (tlb_at w.tlbs hart)
      entries_stay hart = All-weaker (IsFresh w.setup (enclave_at w.enclaves) s w.fences hart) (IsFresh w.setup rec' s' w.fences hart) (fresh_stays hart) (tlb_at w.tlbs hart) (k.stands.translations.fresh.entries hart)

      module _ (pages : TablePagesStay) where
        tables_agree : TablesAgree w.setup c rec' s'
        tables_agree = record {
          host = subst (HostTables w.setup.tables (mirror_words c)) (sym spaces.space)
              (host_tables_stay w.ctl c w.setup.tables s.space few_tables pages.host k.stands.translations.tables.host);
          numbers = λ f live. by_live f (s.number f).live refl live;
        }
          where
            by_live : (f : ℕ) (was : Bool) → (s.number f).live ≡ was → (s'.number f).live ≡ true
                → NumberTables w.setup.tables f (mirror_words c) (leaves_of (rec' f).pages (image_of w.setup (rec' f).image).pages)
            by_live f false was live = pages.made f was live
            by_live f true was live =
                subst (NumberTables w.setup.tables f (mirror_words c)) (same_leaves f was)
                (number_tables_stay w.ctl c w.setup.tables f _ (λ level low. pages.numbers f level was low) (k.stands.translations.tables.numbers f was))

        -- the tables to which walks come
        host_at : (vpn : Vpn) (level : ℕ) → table_at (mirror_words c) (root_of w.setup.tables 0) vpn level ≡ table_at (mirror_words w.ctl) (root_of w.setup.tables 0) vpn level
        host_at = host_table_at w.setup.tables (mirror_words w.ctl) (mirror_words c) s.space s'.space k.stands.translations.tables.host tables_agree.host

        number_at : (f : ℕ) → (s.number f).live ≡ true → (vpn : Vpn) (level : ℕ)
            → table_at (mirror_words c) (root_of w.setup.tables (f + 1)) vpn level ≡ table_at (mirror_words w.ctl) (root_of w.setup.tables (f + 1)) vpn level
        number_at f live = number_table_at w.setup.tables f (mirror_words w.ctl) (mirror_words c) _ _ few_tables (few_number f live)
            (k.stands.translations.tables.numbers f live) (tables_agree.numbers f (spaces.numbers f live).live)

        -- the walk of a hart's line stands where the record of its number keeps its context
        pub walk_stays : (hart : ℕ) → ((f : ℕ) → number_under_way (hart_line w hart) (under_at w.under hart) ≡ Some f → (rec' f).context ≡ (enclave_at w.enclaves f).context)
            → WalkingStands c (IsFresh w.setup rec' s' w.fences hart) (walking w.setup.tables rec' (hart_line w hart) (under_at w.under hart))
        walk_stays hart same = line_walks w.setup.tables w.ctl c (IsFresh w.setup (enclave_at w.enclaves) s w.fences hart) (IsFresh w.setup rec' s' w.fences hart) (fresh_stays hart) s.number host_at number_at
            w.setup (written_page w) (enclave_at w.enclaves) rec' k.stands.records hart (hart_line w hart) (under_at w.under hart) (k.stands.lines hart) same (k.stands.translations.fresh.walks hart)

        module _ (actor : ℕ) (tlbs' : List (List TlbEntry)) (line' : ℕ → Option Line) (under' : ℕ → Under) where
          -- the lines and translations of all harts but one stay; that one waits for nobody, and its translations and its walk stand
          pub record OneHartMoves : Type 0 where
            pub lines : (hart : ℕ) → hart ≢ actor → line' hart ≡ hart_line w hart
            pub unders : (hart : ℕ) → hart ≢ actor → under' hart ≡ under_at w.under hart
            pub contexts : (hart f : ℕ) → hart ≢ actor → number_under_way (hart_line w hart) (under_at w.under hart) ≡ Some f → (rec' f).context ≡ (enclave_at w.enclaves f).context
            pub harts : length tlbs' ≡ length w.tlbs
            pub tlbs : (hart : ℕ) → hart ≢ actor → tlb_at tlbs' hart ≡ tlb_at w.tlbs hart
            pub waited_none : isnt_waiting (under_at w.under actor) ≡ true
            pub waits_none : isnt_waiting (under' actor) ≡ true
            pub entries : All (IsFresh w.setup rec' s' w.fences actor) (tlb_at tlbs' actor)
            pub walk : WalkingStands c (IsFresh w.setup rec' s' w.fences actor) (walking w.setup.tables rec' (line' actor) (under' actor))

          pub translations_stay : OneHartMoves → TranslationsStand w.setup c tlbs' w.fences rec' s' line' under'
          translations_stay m = record {
            tables = tables_agree;
            harts = m.harts ∙ k.stands.translations.harts;
            fences_stand = subst (FencesStand w.setup.harts w.fences) (sym spaces.removals) k.stands.translations.fences_stand;
            removals = λ hart. subst (λ (all : List Removal). RemovalStands (line' hart) (under' hart) (removals_by all hart)) (sym spaces.removals)
                (removals_stay actor line' under' m.lines m.unders m.waited_none m.waits_none hart);
            giving = giving_stays actor line' under' m.lines m.unders m.waited_none m.waits_none;
            fresh = record {
              entries = everywhere (λ h. All (IsFresh w.setup rec' s' w.fences h) (tlb_at tlbs' h)) actor m.entries
                  (λ h other. subst (All (IsFresh w.setup rec' s' w.fences h)) (sym (m.tlbs h other)) (entries_stay h));
              walks = everywhere (λ h. WalkingStands c (IsFresh w.setup rec' s' w.fences h) (walking w.setup.tables rec' (line' h) (under' h))) actor m.walk
                  (λ h other. subst (λ l. WalkingStands c (IsFresh w.setup rec' s' w.fences h) (walking w.setup.tables rec' l (under' h))) (sym (m.lines h other))
                  (subst (λ u. WalkingStands c (IsFresh w.setup rec' s' w.fences h) (walking w.setup.tables rec' (hart_line w h) u)) (sym (m.unders h other))
                  (walk_stays h (λ f is. m.contexts h f other is))));
            };
          }

  -- an event that changes no written byte, and makes no number live
  pub written_stay : (rec' : ℕ → Enclave) (s' : Monitor) → ((f : ℕ) → (s.number f).live ≡ false → (s'.number f).live ≡ false) → TablePagesStay w.ctl rec' s'
  written_stay rec' s' none_live = record { host = λ page low. refl; numbers = λ f level live low. refl; made = λ f was live. absurd (false≢true (sym (none_live f was) ∙ live)) }

  -- an event that changes no number and no written byte, after which the actor's line hasn't begun
  module _ (c : CtlData) (mirror : c.mirror ≡ w.ctl.mirror) (s' : Monitor) (space : s'.space ≡ s.space) (removals : s'.removals ≡ s.removals) (number : s'.number ≡ s.number)
      (actor : ℕ) (line' : ℕ → Option Line) (under' : ℕ → Under) (lines : (hart : ℕ) → hart ≢ actor → line' hart ≡ hart_line w hart) (unders : (hart : ℕ) → hart ≢ actor → under' hart ≡ under_at w.under hart)
      (waited : isnt_waiting (under_at w.under actor) ≡ true) (idle : under' actor ≡ Idle) where
    quiet_spaces : SpacesStay c (enclave_at w.enclaves) s'
    quiet_spaces = record {
      space = space;
      removals = removals;
      numbers = λ f live. same_keeps (enclave_at w.enclaves f) (enclave_at w.enclaves f) (s.number f) (s'.number f) refl (ap (λ (of : ℕ → Number). of f) number) live;
    }

    quiet_pages : TablePagesStay c (enclave_at w.enclaves) s'
    quiet_pages = record {
      host = λ page low. ap (λ (memory : List ℕ). page_bytes memory page) mirror;
      numbers = λ f level live low. ap (λ (memory : List ℕ). page_bytes memory (table_number w.setup.tables f level)) mirror;
      made = λ f was live. absurd (false≢true (sym was ∙ ap (λ (of : ℕ → Number). (of f).live) (sym number) ∙ live));
    }

    pub quiet_translations : TranslationsStand w.setup c w.tlbs w.fences (enclave_at w.enclaves) s' line' under'
    quiet_translations = translations_stay c (enclave_at w.enclaves) s' quiet_spaces quiet_pages actor w.tlbs line' under' (record {
      lines = lines;
      unders = unders;
      contexts = λ hart f other is. refl;
      harts = refl;
      tlbs = λ hart other. refl;
      waited_none = waited;
      waits_none = ap isnt_waiting idle;
      entries = entries_stay c (enclave_at w.enclaves) s' quiet_spaces actor;
      walk = subst (λ u. WalkingStands c (IsFresh w.setup (enclave_at w.enclaves) s' w.fences actor) (walking w.setup.tables (enclave_at w.enclaves) (line' actor) u)) (sym idle)
          (idle_walks c (IsFresh w.setup (enclave_at w.enclaves) s' w.fences actor) w.setup.tables (enclave_at w.enclaves) (line' actor));
    })
