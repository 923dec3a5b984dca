-- The translations of a live enclave number in a kept world: each goes to the page that it reaches, and walks that learn stand.
use Rattle.std.proofs.Common.{◌≡◌, ℕ, ◌+◌, ◌*◌, ◌%◌, ◌<◌, ◌≤◌, Bool, true, false, cond, List, Option, Some, None, sym, ap, ◌∙◌, subst, arith, inl, inr}
use Rattle.std.specs.List.{All}
use Rattle.std.proofs.lemmas.Bool.{cases_Bool}
use Rattle.pl_base.specs.Address.{vpn_of}
use Rattle.pl_base.specs.Perms.{grants}
use Rattle.pl_base.specs.declared.access.Kind.{Kind}
use Rattle.pl_base.specs.declared.access.Mode.TheVariants.{User}
use Rattle.pl_base.specs.declared.address.Pa.{Pa}
use Rattle.pl_base.specs.declared.address.Ppn.{Ppn}
use Rattle.pl_base.specs.declared.address.Va.{Va}
use Rattle.pl_base.specs.declared.perms.Perms.{Perms}
use Rattle.rv_hart.specs.declared.seeking.Sought.TheVariants.{Table, At, PageFault}
use Rattle.rv_hart.specs.declared.walks.View.{View}
use Rattle.rv_hart.specs.declared.walks.Walk.{Walk}
use Rattle.rv_hart.specs.Learning.{learned, tlb_after}
use Rattle.rv_hart.specs.Seeking.{sought}
use Rattle.rv_sv39.specs.Canonical.{is_canonical}
use Rattle.rv_sv39.specs.Walk.{Answer, Walks}
use Rattle.rv_tlb.specs.declared.tlb.TlbEntry.{TlbEntry}
use Rattle.mon_enclave.specs.declared.enclave.Enclave.{Enclave}
use Rattle.mon_enclave.specs.Records.{enclave_at}
use Rattle.mon_host.specs.Laws.{mirror_words}
use Rattle.mon_image.specs.declared.image.Image.{Image}
use Rattle.mon_life.specs.Laws.{IsMaking}
use Rattle.mon_life.specs.Pages.{leaves_of}
use Rattle.mon_life.proofs.TableLemmas.{few_leaves, leaves_mappable}
use Rattle.mon_tables.specs.declared.number_tables.Leaf.{Leaf}
use Rattle.mon_tables.specs.Space.{Mapping, mapping_at}
use Rattle.mon_tables.specs.SpaceWalks.{IsMappable, WalksTo, translation}
use Rattle.mon_tables.specs.Tables.{root_of, table_number}
use Rattle.mon_tables.specs.Words.{ppn_of_page}
use Rattle.mon_tables.proofs.NumberWalks.{number_tables}
use Rattle.pl_history.specs.Monitor.{Monitor}
use Rattle.pl_history.specs.Rules.{pages_of}
use Rattle.world_machine.specs.EnclavesAgree.{EnclaveStands}
use Rattle.world_machine.specs.FencesStand.{IsOwed}
use Rattle.world_machine.specs.Making.{image_of}
use Rattle.world_machine.specs.Pages.{reached}
use Rattle.world_machine.specs.RecordsAgree.{RecordAgrees}
use Rattle.world_machine.specs.Standing.{Kept, state_of, written_page}
use Rattle.world_machine.specs.Translating.{number_view, page_at}
use Rattle.world_machine.specs.TranslationsAgree.{IsFresh, IsHostEntry, IsNumberEntry, MayUseNumber, WalkStands, space_of}
use Rattle.world_machine.specs.Worlds.{WorldData, tlb_at}
use Rattle.world_machine.proofs.MadeTables.{number_making}
use Rattle.world_machine.proofs.MappingTranslations.{mapping_vpn, none_granted, page_granted, through}
use Rattle.world_machine.proofs.NumberSpaces.{image_is, reached_mapped, unreached}
use Rattle.world_machine.proofs.TranslationFrames.{few_numbers, few_tables, live_in_use, live_there}
use Rattle.world_machine.proofs.TablePages.{IsWordOf, number_table_page, word_stands}
use Rattle.world_machine.proofs.WalkLemmas.{Forbids, LearnsSo, Reaches, asks_where, forbidden_by, learns_so, reached_by, tlb_stands, translation_of}
use Rattle.world_machine.specs.Accesses.{HasAcknowledged}

module _ (digest_of : List ℕ → List ℕ) (w : WorldData) (k : Kept digest_of w) (e : ℕ) (live : ((state_of w).number e).live ≡ true) where
  abbrev s : Monitor
  s = state_of w

  abbrev r : Enclave
  r = enclave_at w.enclaves e

  abbrev tables : ℕ
  tables = w.setup.tables

  abbrev words : ℕ → ℕ
  words = mirror_words w.ctl

  agrees : RecordAgrees r (s.number e)
  agrees = k.stands.records e

  stands : EnclaveStands w.setup (written_page w) w.owners e r (s.number e)
  stands = k.stands.enclaves e (live_in_use r (s.number e) agrees live)

  abbrev image : Image
  image = image_of w.setup r.image

  abbrev space : List Mapping
  space = space_of w.setup r

  same_image : image ≡ stands.image
  same_image = image_is w.setup (written_page w) w.owners e r (s.number e) stands

  -- ---- the tables walk to the space

  there : e < w.setup.enclaves
  there = live_there digest_of w k e live

  small : e < 64
  small = (let few = few_numbers digest_of w k in let within = there in omega arith)

  making : IsMaking tables w.setup.enclaves e (pages_of w.setup.zones) image r.pages
  making = number_making digest_of w k e (live_in_use r (s.number e) agrees live)

  abbrev leaves : List Leaf
  leaves = leaves_of r.pages image.pages

  -- its mappings lead to pages that there are, with permissions that a page may have
  pub number_mappable : All IsMappable space
  number_mappable = leaves_mappable tables w.setup.enclaves e (pages_of w.setup.zones) image r.pages making

  pub walks_to : WalksTo words (root_of tables (e + 1)) User space
  walks_to =
      number_tables tables e words leaves (few_tables digest_of w k) small (few_leaves tables w.setup.enclaves e (pages_of w.setup.zones) image r.pages making)
      (leaves_mappable tables w.setup.enclaves e (pages_of w.setup.zones) image r.pages making) (k.stands.translations.tables.numbers e live)

  -- ---- translations of a hart

  -- one that has acknowledged the fences of the number's space
  module _ (hart : ℕ) (acknowledged : HasAcknowledged w hart e) (va : Va) (kind : Kind) where
    abbrev view : View
    view = number_view tables e

    abbrev Fresh : TlbEntry → Type 0
    Fresh = IsFresh w.setup (enclave_at w.enclaves) s w.fences hart

    -- a translation that stands is that of a mapping of the space
    pub record IsMapped (ppn : Ppn) (perms : Perms) : Type 0 where
      pub mapping : Mapping
      pub there : mapping_at space (vpn_of va).0 ≡ Some mapping
      pub page : ppn.0 ≡ ppn_of_page mapping.page
      pub perms_are : perms ≡ mapping.perms

    not_host : (ppn : Ppn) (perms : Perms) → IsHostEntry s w.fences hart (translation_of view va ppn perms) → ⊥
    not_host ppn perms is = (let h : e + 1 ≡ 0 = ap (λ (x : TlbEntry). x.space.0) is.is in omega (arith, h))

    of_number : (ppn : Ppn) (perms : Perms) → IsNumberEntry w.setup (enclave_at w.enclaves) s w.fences hart (translation_of view va ppn perms) → IsMapped ppn perms
    of_number ppn perms is =
        let number_is : is.e ≡ e = (let h : e + 1 ≡ is.e + 1 = ap (λ (x : TlbEntry). x.space.0) is.is in omega (arith, h)) in
        let vpn_is : (vpn_of va).0 ≡ is.mapping.vpn = ap (λ (x : TlbEntry). x.vpn.0) is.is in
        record {
          mapping = is.mapping;
          there = ap (mapping_at space) vpn_is ∙ ap (λ f. mapping_at (space_of w.setup (enclave_at w.enclaves f)) is.mapping.vpn) (sym number_is) ∙ mapped number_is is.fresh;
          page = ap (λ (x : TlbEntry). x.ppn.0) is.is;
          perms_are = ap (λ (x : TlbEntry). x.perms) is.is;
        }
      where
        -- no fence is owed
        mapped : is.e ≡ e → MayUseNumber w.setup (enclave_at w.enclaves) s w.fences hart is.e is.mapping → mapping_at (space_of w.setup (enclave_at w.enclaves is.e)) is.mapping.vpn ≡ Some is.mapping
        mapped same (inl (lives, at)) = at
        mapped same (inr owed) = absurd (acknowledged is.mapping.vpn (subst (λ f. IsOwed w.fences hart f is.mapping.vpn) same owed))

    pub fresh_mapped : (ppn : Ppn) (perms : Perms) → Fresh (translation_of view va ppn perms) → IsMapped ppn perms
    fresh_mapped ppn perms (inl of_host) = absurd (not_host ppn perms of_host)
    fresh_mapped ppn perms (inr number) = of_number ppn perms number

    -- what the tables walk to
    abbrev pub given : Answer
    given = translation User space (vpn_of va) User kind

    pub given_fresh : (ppn : Ppn) (perms : Perms) → given ≡ Some (ppn, perms) → Fresh (translation_of view va ppn perms)
    given_fresh ppn perms is =
        let t = through kind (mapping_at space (vpn_of va).0) ppn perms is in
        let m : Mapping = t.0 in
        let vpn_is : m.vpn ≡ (vpn_of va).0 = mapping_vpn space (vpn_of va).0 m t.1 in
        inr (record {
          e = e;
          mapping = m;
          is = λ i. record { space = record { 0 = e + 1 }; vpn = record { 0 = sym vpn_is i }; ppn = record { 0 = t.2 i }; perms = t.3 i };
          fresh = inl (live, ap (mapping_at space) vpn_is ∙ t.1);
        })

    -- ---- the page that is reached

    abbrev here : Option ℕ
    here = reached kind image.pages r.pages va.0

    here_is : is_canonical va.0 ≡ true → here ≡ page_granted kind (mapping_at space (vpn_of va).0)
    here_is canonical =
        ap (λ (i : Image). reached kind i.pages r.pages va.0) same_image ∙ reached_mapped w.setup (written_page w) w.owners e r (s.number e) stands kind va k.sizes.rules canonical

    far_none : is_canonical va.0 ≡ false → here ≡ None
    far_none far = ap (λ (i : Image). reached kind i.pages r.pages va.0) same_image ∙ unreached w.setup (written_page w) w.owners e r (s.number e) stands kind va.0 k.sizes.rules far

    granted_by : (m : Mapping) (g : Bool) → grants m.perms kind ≡ g → page_granted kind (Some m) ≡ cond g (Some m.page) None
    granted_by m g is = ap (λ b. cond b (Some m.page) None) is

    mapped_is : is_canonical va.0 ≡ true → (ppn : Ppn) (perms : Perms) (g : Bool) (m : IsMapped ppn perms) → grants perms kind ≡ g → here ≡ cond g (Some m.mapping.page) None
    mapped_is canonical ppn perms g m is =
        here_is canonical ∙ ap (page_granted kind) m.there ∙ granted_by m.mapping g (ap (λ p. grants p kind) (sym m.perms_are) ∙ is)

    reached_page : (pa : Pa) → Reaches Fresh view va kind pa → here ≡ Some (page_at pa)
    reached_page pa is =
        let m = fresh_mapped is.ppn is.perms is.fresh in
        let page_is : page_at pa ≡ m.mapping.page
        = (let address : pa.0 ≡ 4096 * is.ppn.0 + va.0 % 4096 = ap (λ (p : Pa). p.0) is.is in let page = m.page in omega (arith, address, page)) in
        mapped_is is.canonical is.ppn is.perms true m is.permits ∙ ap Some (sym page_is)

    above_page : (pa : Pa) → Reaches Fresh view va kind pa → 0x80000000 ≤ pa.0
    above_page pa is =
        let page = (fresh_mapped is.ppn is.perms is.fresh).page in
        let address : pa.0 ≡ 4096 * is.ppn.0 + va.0 % 4096 = ap (λ (p : Pa). p.0) is.is in
        omega (arith, address, page)

    forbidden_none : Forbids Fresh view va kind → here ≡ None
    forbidden_none is = mapped_is is.canonical is.ppn is.perms false (fresh_mapped is.ppn is.perms is.fresh) is.forbids

    pub given_none : given ≡ None → here ≡ None
    given_none is = elim (cases_Bool (is_canonical va.0)) [
      | inl canonical ↦ here_is canonical ∙ none_granted kind (mapping_at space (vpn_of va).0) is
      | inr far ↦ far_none far
    ]

    -- ---- what the walk asks for

    module _ (walk : Walk) (walk_stands : WalkStands w.ctl Fresh view va walk) where
      abbrev entries : List TlbEntry
      entries = tlb_at w.tlbs hart

      pub reached_at : (pa : Pa) → sought walk va kind entries view ≡ At pa → here ≡ Some (page_at pa)
      reached_at pa asks = reached_page pa (reached_by w.ctl Fresh view va kind walk entries walk_stands (k.stands.translations.fresh.entries hart) pa asks)

      -- off-chip memory begins below it
      pub reached_above : (pa : Pa) → sought walk va kind entries view ≡ At pa → 0x80000000 ≤ pa.0
      reached_above pa asks = above_page pa (reached_by w.ctl Fresh view va kind walk entries walk_stands (k.stands.translations.fresh.entries hart) pa asks)

      pub reached_none : sought walk va kind entries view ≡ PageFault → here ≡ None
      reached_none asks = elim (forbidden_by w.ctl Fresh view va kind walk entries walk_stands (k.stands.translations.fresh.entries hart) asks) [
        | inl far ↦ far_none far
        | inr forbids ↦ forbidden_none forbids
      ]

      module _ (pa : Pa) (level : ℕ) (asks : sought walk va kind entries view ≡ Table pa level) where
        -- the word that is asked for stands in a table of the number
        pub asks_table : (level < 3) × IsWordOf (table_number tables e level) pa
        asks_table =
            let at = asks_where view va kind entries pa level w.ctl Fresh walk walk_stands asks in
            let table = number_table_page tables e words leaves (few_tables digest_of w k) small (k.stands.translations.tables.numbers e live) (vpn_of va) at.0 level at.1 in
            (table.0, word_stands (vpn_of va) level (table_number tables e level) at.0 pa table.1 at.2)

        pub walks : Walks words view.root (vpn_of va) view.mode kind given
        walks = walks_to (vpn_of va) (omega arith) User kind

        -- with that word the walk stands, or no page serves the access; the TLB's translations stand
        pub learned_stands : LearnsSo w.ctl Fresh view va kind walk entries pa level walk_stands asks given walks given_fresh (learned walk (words pa.0) va kind view)
        learned_stands = learns_so w.ctl Fresh view va kind walk entries pa level walk_stands asks given walks given_fresh

        pub tlb_learns : All Fresh (tlb_after walk (words pa.0) va kind view entries)
        tlb_learns = tlb_stands w.ctl Fresh view va kind walk entries pa level walk_stands asks given walks given_fresh entries (k.stands.translations.fresh.entries hart)
