-- The translations of the host's accesses in a kept world: each goes by a mapping that the hart may use, and walks that learn stand.
use Rattle.std.proofs.Common.{◌≡◌, ◌⊎◌, ℕ, ◌+◌, ◌*◌, ◌%◌, ◌<◌, true, false, List, Some, None, sym, ap, ◌∙◌, subst, arith, inl, inr}
use Rattle.std.specs.Prelude.{Contains}
use Rattle.std.specs.List.{All}
use Rattle.pl_base.specs.Address.{vpn_of}
use Rattle.pl_base.specs.Perms.{grants}
use Rattle.pl_base.specs.declared.access.Kind.{Kind}
use Rattle.pl_base.specs.declared.access.Mode.TheVariants.{Super}
use Rattle.pl_base.specs.declared.address.Pa.{Pa}
use Rattle.pl_base.specs.declared.address.Ppn.{Ppn}
use Rattle.pl_base.specs.declared.address.Va.{Va}
use Rattle.pl_base.specs.declared.perms.Perms.{Perms}
use Rattle.rv_hart.specs.declared.seeking.Sought.TheVariants.{Table, At, PageFault}
use Rattle.rv_hart.specs.declared.walks.View.{View}
use Rattle.rv_hart.specs.declared.walks.Walk.{Walk}
use Rattle.rv_hart.specs.Learning.{learned, tlb_after}
use Rattle.rv_hart.specs.Seeking.{sought}
use Rattle.rv_sv39.specs.Canonical.{is_canonical}
use Rattle.rv_sv39.specs.Walk.{Answer, Walks}
use Rattle.rv_tlb.specs.declared.tlb.TlbEntry.{TlbEntry}
use Rattle.mem_geom.specs.Layout.{page_start}
use Rattle.mon_enclave.specs.Records.{enclave_at}
use Rattle.mon_host.specs.Laws.{mirror_words}
use Rattle.mon_tables.specs.Space.{Mapping, mapping_at}
use Rattle.mon_tables.specs.SpaceWalks.{translation}
use Rattle.mon_tables.specs.Words.{ppn_of_page}
use Rattle.pl_history.specs.Licence.{host_tables}
use Rattle.pl_history.specs.Monitor.{Monitor, is_host}
use Rattle.world_machine.specs.Standing.{Kept, state_of}
use Rattle.world_machine.specs.Translating.{host_view, page_at}
use Rattle.world_machine.specs.TranslationsAgree.{IsFresh, IsHostEntry, IsNumberEntry, MayUse, WalkStands}
use Rattle.world_machine.specs.Worlds.{WorldData, tlb_at}
use Rattle.world_machine.proofs.HostSpaces.{host_walk, used_host, used_inside}
use Rattle.world_machine.proofs.MappingTranslations.{mapping_vpn, none_granted, page_granted, through}
use Rattle.world_machine.proofs.TablePages.{IsWordOf, host_table_page, word_stands}
use Rattle.world_machine.proofs.TranslationFrames.{few_tables, host_table_inside}
use Rattle.world_machine.proofs.WalkLemmas.{Forbids, LearnsSo, Reaches, asks_where, forbidden_by, learns_so, reached_by, tlb_stands, translation_of}

module _ (digest_of : List ℕ → List ℕ) (w : WorldData) (k : Kept digest_of w) (hart : ℕ) (va : Va) (kind : Kind) where
  abbrev s : Monitor
  s = state_of w

  abbrev words : ℕ → ℕ
  words = mirror_words w.ctl

  abbrev view : View
  view = host_view w.setup.tables

  abbrev Fresh : TlbEntry → Type 0
  Fresh = IsFresh w.setup (enclave_at w.enclaves) s w.fences hart

  -- a translation that stands is that of a mapping that the hart may use
  pub record IsUsed (ppn : Ppn) (perms : Perms) : Type 0 where
    pub mapping : Mapping
    pub may : MayUse s w.fences hart mapping
    pub vpn : mapping.vpn ≡ (vpn_of va).0
    pub page : ppn.0 ≡ ppn_of_page mapping.page
    pub perms_are : perms ≡ mapping.perms

  of_host : (ppn : Ppn) (perms : Perms) → IsHostEntry s w.fences hart (translation_of view va ppn perms) → IsUsed ppn perms
  of_host ppn perms is = record {
    mapping = is.mapping;
    may = is.fresh;
    vpn = ap (λ (x : TlbEntry). x.vpn.0) (sym is.is);
    page = ap (λ (x : TlbEntry). x.ppn.0) is.is;
    perms_are = ap (λ (x : TlbEntry). x.perms) is.is;
  }

  not_number : (ppn : Ppn) (perms : Perms) → IsNumberEntry w.setup (enclave_at w.enclaves) s w.fences hart (translation_of view va ppn perms) → ⊥
  not_number ppn perms is = (let h : 0 ≡ is.e + 1 = ap (λ (x : TlbEntry). x.space.0) is.is in omega (arith, h))

  pub fresh_used : (ppn : Ppn) (perms : Perms) → Fresh (translation_of view va ppn perms) → IsUsed ppn perms
  fresh_used ppn perms (inl host) = of_host ppn perms host
  fresh_used ppn perms (inr number) = absurd (not_number ppn perms number)

  -- what the tables walk to
  abbrev pub host_given : Answer
  host_given = translation Super s.space (vpn_of va) Super kind

  pub host_given_fresh : (ppn : Ppn) (perms : Perms) → host_given ≡ Some (ppn, perms) → Fresh (translation_of view va ppn perms)
  host_given_fresh ppn perms is =
      let t = through kind (mapping_at s.space (vpn_of va).0) ppn perms is in
      let m : Mapping = t.0 in
      let vpn_is : m.vpn ≡ (vpn_of va).0 = mapping_vpn s.space (vpn_of va).0 m t.1 in
      inl (record {
        mapping = m;
        is = λ i. record { space = view.space; vpn = record { 0 = sym vpn_is i }; ppn = record { 0 = t.2 i }; perms = t.3 i };
        fresh = inl (ap (mapping_at s.space) vpn_is ∙ t.1);
      })

  -- it gives nothing where the space lets nothing through
  pub host_given_none : host_given ≡ None → page_granted kind (mapping_at s.space (vpn_of va).0) ≡ None
  host_given_none is = none_granted kind (mapping_at s.space (vpn_of va).0) is

  -- ---- the access

  -- it goes by a mapping that the hart may use, and that permits it, in the mapping's page, which is the host's
  pub record ReachesHost (pa : Pa) : Type 0 where
    pub canonical : is_canonical va.0 ≡ true
    pub mapping : Mapping
    pub may : MayUse s w.fences hart mapping
    pub vpn : mapping.vpn ≡ (vpn_of va).0
    pub permits : grants mapping.perms kind ≡ true
    pub is : pa.0 ≡ page_start mapping.page + va.0 % 4096
    pub page : page_at pa ≡ mapping.page
    pub inside : page_at pa < 64 * w.ctl.zones
    pub host : is_host (s.owner mapping.page) ≡ true

  -- or that mapping doesn't permit it
  pub record ForbidsHost : Type 0 where
    pub canonical : is_canonical va.0 ≡ true
    pub mapping : Mapping
    pub may : MayUse s w.fences hart mapping
    pub vpn : mapping.vpn ≡ (vpn_of va).0
    pub forbids : grants mapping.perms kind ≡ false

  by_reaches : (pa : Pa) → Reaches Fresh view va kind pa → ReachesHost pa
  by_reaches pa is =
      let used = fresh_used is.ppn is.perms is.fresh in
      let address : pa.0 ≡ 4096 * is.ppn.0 + va.0 % 4096 = ap (λ (p : Pa). p.0) is.is in
      let ppn_is = used.page in
      let page_is : page_at pa ≡ used.mapping.page = omega (arith, address, ppn_is) in
      record {
        canonical = is.canonical;
        mapping = used.mapping;
        may = used.may;
        vpn = used.vpn;
        permits = ap (λ p. grants p kind) (sym used.perms_are) ∙ is.permits;
        is = omega (arith, address, ppn_is);
        page = page_is;
        inside = subst (λ p. p < 64 * w.ctl.zones) (sym page_is) (used_inside digest_of w k hart used.mapping used.may);
        host = used_host digest_of w k hart used.mapping used.may;
      }

  by_forbids : Forbids Fresh view va kind → ForbidsHost
  by_forbids is =
      let used = fresh_used is.ppn is.perms is.fresh in
      record { canonical = is.canonical; mapping = used.mapping; may = used.may; vpn = used.vpn; forbids = ap (λ p. grants p kind) (sym used.perms_are) ∙ is.forbids }

  -- ---- what the walk asks for

  module _ (walk : Walk) (walk_stands : WalkStands w.ctl Fresh view va walk) where
    abbrev entries : List TlbEntry
    entries = tlb_at w.tlbs hart

    pub host_reached : (pa : Pa) → sought walk va kind entries view ≡ At pa → ReachesHost pa
    host_reached pa asks = by_reaches pa (reached_by w.ctl Fresh view va kind walk entries walk_stands (k.stands.translations.fresh.entries hart) pa asks)

    pub host_forbidden : sought walk va kind entries view ≡ PageFault → (is_canonical va.0 ≡ false) ⊎ ForbidsHost
    host_forbidden asks = elim (forbidden_by w.ctl Fresh view va kind walk entries walk_stands (k.stands.translations.fresh.entries hart) asks) [
      | inl far ↦ inl far
      | inr forbids ↦ inr (by_forbids forbids)
    ]

    module _ (pa : Pa) (level : ℕ) (asks : sought walk va kind entries view ≡ Table pa level) where
      -- the word that is asked for stands in a table of the host, which the line concerns
      pub record AsksHostTable : Type 0 where
        pub page : ℕ
        pub word : IsWordOf page pa
        pub low : page < 2 + w.setup.tables
        pub inside : page < 64 * w.ctl.zones
        pub concerned : Contains (host_tables w.setup.tables va) page

      pub host_asks_table : AsksHostTable
      host_asks_table =
          let at = asks_where view va kind entries pa level w.ctl Fresh walk walk_stands asks in
          let table = host_table_page w.setup.tables words s.space (few_tables digest_of w k) k.stands.translations.tables.host va at.0 level at.1 in
          record {
            page = table.page;
            word = word_stands (vpn_of va) level table.page at.0 pa table.is at.2;
            low = table.low;
            inside = host_table_inside digest_of w k table.page table.low;
            concerned = table.concerned;
          }

      pub host_walks_to : Walks words view.root (vpn_of va) view.mode kind host_given
      host_walks_to = host_walk digest_of w k (vpn_of va) (omega arith) Super kind

      -- with that word the walk stands, or the space lets nothing through; the TLB's translations stand
      pub host_learned_stands : LearnsSo w.ctl Fresh view va kind walk entries pa level walk_stands asks host_given host_walks_to host_given_fresh (learned walk (words pa.0) va kind view)
      host_learned_stands = learns_so w.ctl Fresh view va kind walk entries pa level walk_stands asks host_given host_walks_to host_given_fresh

      pub host_tlb_learns : All Fresh (tlb_after walk (words pa.0) va kind view entries)
      host_tlb_learns = tlb_stands w.ctl Fresh view va kind walk entries pa level walk_stands asks host_given host_walks_to host_given_fresh entries (k.stands.translations.fresh.entries hart)
