-- What the code asks of a kept world: walks that stand, words in pages that there are, and pages of translated accesses.
use Rattle.std.proofs.Common.{◌≡◌, ℕ, ◌*◌, ◌%◌, ◌<◌, ◌≤◌, ◌==◌, true, List, sym, subst, arith}
use Rattle.pl_base.specs.Address.{vpn_of}
use Rattle.pl_base.specs.declared.access.Kind.{Kind}
use Rattle.pl_base.specs.declared.access.Kind.TheVariants.{Load}
use Rattle.pl_base.specs.declared.address.Pa.{Pa}
use Rattle.pl_base.specs.declared.address.Va.{Va}
use Rattle.rv_hart.specs.declared.seeking.Sought.TheVariants.{Table, At}
use Rattle.rv_hart.specs.declared.walks.View.{View}
use Rattle.rv_hart.specs.declared.walks.Walk.{Walk}
use Rattle.rv_hart.specs.declared.walks.Walk.TheVariants.{Start, Level, Found}
use Rattle.rv_hart.specs.Seeking.{sought}
use Rattle.rv_hart.specs.Walks.{IsWalk}
use Rattle.mon_enclave.specs.declared.enclave.Enclave.{Enclave}
use Rattle.mon_enclave.specs.Records.{enclave_at}
use Rattle.mon_host.specs.Laws.{mirror_words}
use Rattle.mon_life.specs.Pages.{leaves_of}
use Rattle.mon_tables.specs.Space.{Mapping}
use Rattle.mon_tables.specs.SpaceWalks.{IsMappable}
use Rattle.pl_history.specs.Monitor.{Monitor}
use Rattle.world_machine.specs.Accesses.{HasAcknowledged}
use Rattle.world_machine.specs.Making.{image_of}
use Rattle.world_machine.specs.Pages.{numbers_of}
use Rattle.world_machine.specs.Standing.{Kept, state_of}
use Rattle.world_machine.specs.Translating.{host_view, number_view, offset_at, page_at}
use Rattle.world_machine.specs.TranslationsAgree.{IsFresh, WalkStands, space_of}
use Rattle.world_machine.specs.Worlds.{WorldData, tlb_at}
use Rattle.world_machine.proofs.FlatPages.{located_among}
use Rattle.world_machine.proofs.HostSpaces.{few_pages, used_inside}
use Rattle.world_machine.proofs.HostTranslations.{fresh_used, host_asks_table, host_reached}
use Rattle.world_machine.proofs.NumberRows.{own_within}
use Rattle.world_machine.proofs.NumberTranslations.{asks_table, fresh_mapped, number_mappable, reached_above, reached_at}
use Rattle.world_machine.proofs.ReachedPages.{reached_located}
use Rattle.world_machine.proofs.TablePages.{host_table_page, number_table_page}
use Rattle.world_machine.proofs.TranslationFrames.{few_numbers, few_tables, live_in_use, live_there, number_table_inside}
use Rattle.world_machine.proofs.UnderWay.{held_owned}
use Rattle.world_machine.proofs.WalkLemmas.{found}

module _ (digest_of : List ℕ → List ℕ) (w : WorldData) (k : Kept digest_of w) (hart : ℕ) where
  abbrev s : Monitor
  s = state_of w

  -- ---- the host's

  module _ (va : Va) where
    abbrev view : View
    view = host_view w.setup.tables

    pub host_walk_is : (walk : Walk) → WalkStands w.ctl (IsFresh w.setup (enclave_at w.enclaves) s w.fences hart) view va walk → IsWalk walk
    host_walk_is Start stands = tt
    host_walk_is (Level level table) stands =
        let at = host_table_page w.setup.tables (mirror_words w.ctl) s.space (few_tables digest_of w k) k.stands.translations.tables.host va table.0 level stands.1 in
        let low = at.low in
        let few = few_tables digest_of w k in
        let is = at.is in
        let below = stands.0 in
        (omega (arith, below), omega (arith, is, low, few))
    host_walk_is (Found ppn perms) stands =
        let used = fresh_used digest_of w k hart va Load ppn perms stands in
        let inside = used_inside digest_of w k hart used.mapping used.may in
        let few = few_pages digest_of w k in
        let is = used.page in
        omega (arith, is, inside, few)

    module _ (kind : Kind) (walk : Walk) (pa : Pa) (stands : WalkStands w.ctl (IsFresh w.setup (enclave_at w.enclaves) s w.fences hart) view va walk) where
      pub host_asks : (level : ℕ) → sought walk va kind (tlb_at w.tlbs hart) view ≡ Table pa level → (0x80000000 ≤ pa.0) × ((page_at pa < 64 * w.ctl.zones) × (offset_at pa % 8 ≡ 0))
      host_asks level asks =
          let at = host_asks_table digest_of w k hart va kind walk stands pa level asks in
          (at.word.above, (subst (λ p. p < 64 * w.ctl.zones) (sym at.word.page_is) at.inside, at.word.aligned))

      pub host_reaches : sought walk va kind (tlb_at w.tlbs hart) view ≡ At pa → (0x80000000 ≤ pa.0) × (page_at pa < 64 * w.ctl.zones)
      host_reaches asks =
          let at = host_reached digest_of w k hart va kind walk stands pa asks in
          let address = at.is in
          (omega (arith, address), at.inside)

  -- ---- a live number's, whose broken pages the hart has acknowledged

  module _ (e : ℕ) (live : (s.number e).live ≡ true) (acknowledged : HasAcknowledged w hart e) (va : Va) where
    abbrev number_view_of : View
    number_view_of = number_view w.setup.tables e

    abbrev r : Enclave
    r = enclave_at w.enclaves e

    small : e < 64
    small = (let few = few_numbers digest_of w k in let within = live_there digest_of w k e live in omega (arith, few, within))

    pub number_walk_is : (walk : Walk) → WalkStands w.ctl (IsFresh w.setup (enclave_at w.enclaves) s w.fences hart) number_view_of va walk → IsWalk walk
    number_walk_is Start stands = tt
    number_walk_is (Level level table) stands =
        let at = number_table_page w.setup.tables e (mirror_words w.ctl) (leaves_of r.pages (image_of w.setup r.image).pages) (few_tables digest_of w k) small
        (k.stands.translations.tables.numbers e live) (vpn_of va) table.0 level stands.1 in
        let is = at.1 in
        let few = few_tables digest_of w k in
        let number = small in
        (at.0, omega (arith, is, few, number))
    number_walk_is (Found ppn perms) stands =
        let mapped = fresh_mapped digest_of w k e live hart acknowledged va Load ppn perms stands in
        let fits = (found IsMappable (λ (x : Mapping). x.vpn == (vpn_of va).0) (space_of w.setup r) mapped.mapping (number_mappable digest_of w k e live) mapped.there).0 in
        let below = fits.page in
        let is = mapped.page in
        omega (arith, is, below)

    module _ (kind : Kind) (walk : Walk) (pa : Pa) (stands : WalkStands w.ctl (IsFresh w.setup (enclave_at w.enclaves) s w.fences hart) number_view_of va walk) where
      pub number_asks : (level : ℕ) → sought walk va kind (tlb_at w.tlbs hart) number_view_of ≡ Table pa level
          → (0x80000000 ≤ pa.0) × ((page_at pa < 64 * w.ctl.zones) × (offset_at pa % 8 ≡ 0))
      number_asks level asks =
          let at = (asks_table digest_of w k e live hart acknowledged va kind walk stands pa level asks).1 in
          (at.above, (subst (λ p. p < 64 * w.ctl.zones) (sym at.page_is) (number_table_inside digest_of w k e level (live_there digest_of w k e live)), at.aligned))

      pub number_reaches : sought walk va kind (tlb_at w.tlbs hart) number_view_of ≡ At pa → (0x80000000 ≤ pa.0) × (page_at pa < 64 * w.ctl.zones)
      number_reaches asks =
          let there = reached_at digest_of w k e live hart acknowledged va kind walk stands pa asks in
          let image = (image_of w.setup r.image).pages in
          let at = reached_located kind image r.pages va.0 (page_at pa) there in
          let stand = k.stands.enclaves e (live_in_use r (s.number e) (k.stands.records e) live) in
          let owned = held_owned w.owners e r.parent r.pages (page_at pa) stand.held.owned (located_among kind image (numbers_of r.pages) va.0 (page_at pa) at) in
          (reached_above digest_of w k e live hart acknowledged va kind walk stands pa asks, own_within digest_of w k owned.0 (page_at pa) owned.1)
