-- Where the accesses of a kept world lead: words of tables to guarded pages, the host's to its pages, a number's to its own or shared ones.
use Rattle.std.proofs.Common.{◌≡◌, ◌≢◌, ◌⊎◌, ℕ, zero, suc, ◌+◌, ◌*◌, ◌%◌, ◌<◌, ◌≤◌, Bool, true, false, cond, List, [], ◌∷◌, slice_get, Option, Some, None, option_map, refl, sym, ap, ◌∙◌, subst, arith, inl, inr}
use Rattle.std.specs.Prelude.{Contains}
use Rattle.std.specs.List.{AllByRecursion}
use Rattle.std.proofs.lemmas.Bool.{cases_lt, false≢true}
use Rattle.std.proofs.lemmas.List.Elements.{All-contains, All-map, All-weaker, Contains-append_left, recursion_from_All}
use Rattle.pl_base.specs.Perms.{grants}
use Rattle.pl_base.specs.Span.{span}
use Rattle.pl_base.specs.declared.access.Kind.{Kind}
use Rattle.pl_base.specs.States.{is_free}
use Rattle.pl_base.specs.declared.access.Mode.TheVariants.{User}
use Rattle.pl_base.specs.declared.access.Kind.TheVariants as kind
use Rattle.pl_base.specs.declared.address.Pa.{Pa}
use Rattle.pl_base.specs.declared.address.Va.{Va}
use Rattle.rv_alone.specs.Effect.{act_of}
use Rattle.rv_alone.specs.Flat.{page_number}
use Rattle.rv_hart.specs.declared.seeking.Sought.{Sought}
use Rattle.rv_hart.specs.declared.seeking.Sought.TheVariants.{Table, At, PageFault}
use Rattle.rv_hart.specs.declared.walks.Micro.{Micro}
use Rattle.rv_hart.specs.declared.walks.Micro.TheVariants.{Fetching, Reaching, Faulting}
use Rattle.rv_hart.specs.declared.walks.Walk.{Walk}
use Rattle.rv_pmp.specs.declared.rule.Rule.{Rule}
use Rattle.rv_pmp.specs.Pmp.{AccessesAllowed, page_allowed, permits}
use Rattle.rv_pmp.proofs.Deciding.{permits_after-part}
use Rattle.rv_pmp.proofs.Pieces.{piece_covers, piece_of, piece_of-lt, pieces_allowed-each}
use Rattle.mem_geom.specs.Layout.{page_start}
use Rattle.mon_enclave.specs.declared.enclave.Enclave.{Enclave}
use Rattle.mon_enclave.specs.declared.enclave.PageKind.{PageKind}
use Rattle.mon_enclave.specs.declared.enclave.PageKind.TheVariants.{Own, Shared}
use Rattle.mon_enclave.specs.Records.{enclave_at, page_number_of}
use Rattle.mon_host.specs.Laws.{mirror_words}
use Rattle.mon_tables.specs.Space.{Mapping}
use Rattle.mon_tables.specs.SpaceWalks.{WalksTo}
use Rattle.mon_tables.specs.Tables.{root_of, table_number}
use Rattle.pl_history.specs.declared.line.Line.{Line}
use Rattle.pl_history.specs.declared.line.Line.TheVariants.{Load, Store, Run, Resume}
use Rattle.pl_history.specs.Licence.{parent_pages}
use Rattle.pl_history.specs.Monitor.{Monitor, Owner, guard, host, is_host, number, pages_taken}
use Rattle.pl_history.specs.OwnedPages.{PagesStand}
use Rattle.pl_history.specs.Protection.{pmp_of}
use Rattle.pl_history.specs.Rules.{guarded_of}
use Rattle.pl_history.proofs.GuardedPages.{guarded_are_read}
use Rattle.pl_history.proofs.OwnedPages.{legal_pages}
use Rattle.world_machine.specs.declared.under.Under.{Under}
use Rattle.world_machine.specs.declared.under.Under.TheVariants.{Running, Seeking}
use Rattle.world_machine.specs.Accesses.{AccessesKeepToPages, HasAcknowledged, HostHasNone, HostKeeps, IsHostWalk, IsNumberWalk, MayServe, IsTableWord, MayGo, NumberKeeps, NumberWalks, RootsWalk, TellsNone, asked, host_walking, image_page, number_walking, walk_of}
use Rattle.world_machine.specs.EnclavesAgree.{IsOwnOrShared}
use Rattle.world_machine.specs.LinesUnderWay.{IsRunning, LineUnderWay, access_of}
use Rattle.world_machine.specs.Making.{image_of}
use Rattle.world_machine.specs.Pages.{numbers_of}
use Rattle.world_machine.specs.RecordsAgree.{owner_of, parent_of}
use Rattle.world_machine.specs.Standing.{Kept, state_of, written_page}
use Rattle.world_machine.specs.Translating.{host_view, number_view, offset_at, page_at}
use Rattle.world_machine.specs.TranslationsAgree.{IsFresh, WalkStands, Walking, WalkingStands, walking, walking_of}
use Rattle.world_machine.specs.Worlds.{WorldData, hart_line, tlb_at, under_at}
use Rattle.world_machine.proofs.FlatPages.{located_among}
use Rattle.world_machine.proofs.HostSpaces.{host_walk}
use Rattle.world_machine.proofs.HostTranslations as of_host
use Rattle.world_machine.proofs.Leaving.{runs_acknowledged}
use Rattle.world_machine.proofs.MappedPages.{space_mapped}
use Rattle.world_machine.proofs.MappingTranslations.{page_granted}
use Rattle.world_machine.proofs.NumberRows.{host_within, own_number}
use Rattle.world_machine.proofs.NumberTranslations as of_number
use Rattle.world_machine.proofs.ReachedPages.{reached_located, reached_own}
use Rattle.world_machine.proofs.RecordPages.{record_page}
use Rattle.world_machine.proofs.RunningEnclaves.{on_live}
use Rattle.world_machine.proofs.SetupFacts.{table_guarded}
use Rattle.world_machine.proofs.TablePages.{IsWordOf}
use Rattle.world_machine.proofs.TranslationFrames.{live_in_use, live_there}
use Rattle.world_machine.proofs.WalkLemmas.{LearnsSo, reached_by}

-- ---- the protection entries

-- where each piece of a page is let through, so is every aligned access inside it
page_opens : (rules : List Rule) (page : ℕ) → page_allowed rules page ≡ true → AccessesAllowed rules page
page_opens rules page all pa width kind is_width aligned low high =
    let start : ℕ = page_start page in
    let begins : start % 8 ≡ 0 = omega arith in
    let inside = piece_covers start pa width begins low is_width aligned in
    permits_after-part 0 rules (span (start + 8 * piece_of start pa) (start + 8 * piece_of start pa + 8)) (span pa (pa + width)) kind inside.0 inside.1
    (pieces_allowed-each rules start 512 all (piece_of start pa) (piece_of-lt start pa begins high) kind)

-- what holds of all elements holds of the one at a place
all_get : (P : PageKind → Type 0) (kinds : List PageKind) (i : ℕ) (x : PageKind) → AllByRecursion P kinds → slice_get kinds i ≡ Some x → P x
all_get P [] i x all is = cc
all_get P (y ∷ kinds) zero x all is = subst P (let same : y ≡ x = cc in same) all.0
all_get P (y ∷ kinds) (suc i) x all is = all_get P kinds i x all.1 is

pub host_is : (o : Option Owner) → is_host o ≡ true → o ≡ Some host
host_is None is = absurd (false≢true is)
host_is (Some guard) is = absurd (false≢true is)
host_is (Some host) is = refl
host_is (Some (number e)) is = absurd (false≢true is)

-- a mapping that gives no page doesn't grant the kind
ungranted : (kind : Kind) (m : Mapping) → page_granted kind (Some m) ≡ None → grants m.perms kind ≡ false
ungranted kind m none = by_test (grants m.perms kind) none
  where
    by_test : (g : Bool) → cond g (Some m.page) None ≡ None → g ≡ false
    by_test true is = cc
    by_test false is = refl

module _ (digest_of : List ℕ → List ℕ) (w : WorldData) (k : Kept digest_of w) where
  abbrev s : Monitor
  s = state_of w

  abbrev guarded : ℕ
  guarded = guarded_of w.setup.tables w.setup.enclaves

  pages : PagesStand w.setup s
  pages = legal_pages.stand w.setup w.history.bytes w.history.entries k.legal

  -- ---- the roots

  number_walk : (e : ℕ) → (s.number e).live ≡ true → NumberWalks w e (enclave_at w.enclaves e) (s.number e)
  number_walk e live =
      let r : Enclave = enclave_at w.enclaves e in
      let used : is_free r.state ≡ false = live_in_use r (s.number e) (k.stands.records e) live in
      let pages_are = k.stands.pages e in
      record {
        pages = pages_are;
        walks = subst (WalksTo (mirror_words w.ctl) (root_of w.setup.tables (e + 1)) User)
            (space_mapped w.setup (written_page w) w.owners e r s.number (s.number e) (k.stands.enclaves e used) (k.stands.records e) pages_are live)
            (of_number.walks_to digest_of w k e live);
      }

  pub roots_walk : RootsWalk w
  roots_walk = record { host = host_walk digest_of w k; numbers = number_walk }

  -- ---- words of tables

  guard_owns : (page : ℕ) → page < guarded → s.owner page ≡ Some guard
  guard_owns page low = k.stands.owners.owner page ∙ ap (option_map owner_of) (k.sizes.guarded page low)

  table_word : (page : ℕ) (pa : Pa) → page < guarded → IsWordOf page pa → IsTableWord w pa
  table_word page pa low word =
      let at = word.page_is in
      let above = word.above in
      let inside = word.inside in
      let aligned = word.aligned in
      let is : pa.0 ≡ page_start (page_at pa) + offset_at pa = omega (arith, above) in
      let below : page_at pa < guarded = omega (arith, at, low) in
      record {
        is = is;
        aligned = aligned;
        guarded = below;
        owner = guard_owns (page_at pa) below;
        readable = ap (λ a. permits (pmp_of w.setup) a 8 kind.Load) is
            ∙ guarded_are_read w.setup (page_at pa) (offset_at pa) 8 kind.Load below (omega arith) (omega (arith, inside, aligned));
      }

  -- ---- walks

  -- a walk that may go on a hart stands
  walk_stands : (hart : ℕ) (now : Walking) → MayGo w hart now → WalkStands w.ctl (IsFresh w.setup (enclave_at w.enclaves) s w.fences hart) now.view now.va now.walk
  walk_stands hart now (inl under_way) = subst (WalkingStands w.ctl (IsFresh w.setup (enclave_at w.enclaves) s w.fences hart)) under_way (k.stands.translations.fresh.walks hart)
  walk_stands hart now (inr start) = subst (WalkStands w.ctl (IsFresh w.setup (enclave_at w.enclaves) s w.fences hart) now.view now.va) (sym start) tt

  some_walking : (a b : Walking) → Some a ≡ Some b → a ≡ b
  some_walking a b is = cc

  of_this_host : (va : Va) (walk : Walk) (now : Walking) → host_walking w va walk ≡ now → IsHostWalk w now
  of_this_host va walk now is = subst (IsHostWalk w) is refl

  of_this_number : (e : ℕ) (va : Va) (walk : Walk) (now : Walking) → (s.number e).live ≡ true → number_walking w e va walk ≡ now → IsNumberWalk w now
  of_this_number e va walk now live is = subst (IsNumberWalk w) is (record { e = e; live = live; is = refl })

  -- the walk of an instruction is its number's
  of_micro : (e : ℕ) (now : Walking) (micro : Micro) → (s.number e).live ≡ true → walking_of w.setup.tables e (enclave_at w.enclaves e) micro ≡ Some now → IsNumberWalk w now
  of_micro e now (Fetching walk) live is = of_this_number e _ walk now live (some_walking _ now is)
  of_micro e now (Reaching word walk) live is = by_access (access_of (act_of (enclave_at w.enclaves e).context word)) is
    where
      by_access : (access : Option (Kind × ℕ)) → option_map (λ (a : Kind × ℕ). number_walking w e (record { 0 = a.1 }) walk) access ≡ Some now → IsNumberWalk w now
      by_access None none = cc
      by_access (Some access) some = of_this_number e (record { 0 = access.1 }) walk now live (some_walking _ now some)
  of_micro e now (Faulting va access) live is = cc

  runs_live : (e hart budget count : ℕ) (micro : Micro) → IsRunning w.setup (written_page w) (enclave_at w.enclaves e) (s.number e) hart budget count micro → (s.number e).live ≡ true
  runs_live e hart budget count micro running = on_live (enclave_at w.enclaves e).state (s.number e).live running.state (k.stands.records e).live

  -- each walk under way is the host's, or a live number's
  of_line : (hart : ℕ) (now : Walking) (line : Option Line) (under : Under) → LineUnderWay w.setup (written_page w) (enclave_at w.enclaves) s.number hart line under
      → walking w.setup.tables (enclave_at w.enclaves) line under ≡ Some now → IsHostWalk w now ⊎ IsNumberWalk w now
  of_line hart now (Some (Load va)) (Seeking walk) stands is = inl (of_this_host va walk now (some_walking _ now is))
  of_line hart now (Some (Store va word)) (Seeking walk) stands is = inl (of_this_host va walk now (some_walking _ now is))
  of_line hart now (Some (Run e budget)) (Running micro count) stands is = inr (of_micro e.0 now micro (runs_live e.0 hart budget count micro stands) is)
  of_line hart now (Some (Resume e budget)) (Running micro count) stands is = inr (of_micro e.0 now micro (runs_live e.0 hart budget count micro stands) is)
  of_line hart now line under stands is = cc

  walks_are : (hart : ℕ) (now : Walking) → walk_of w hart ≡ Some now → IsHostWalk w now ⊎ IsNumberWalk w now
  walks_are hart now is = of_line hart now (hart_line w hart) (under_at w.under hart) (k.stands.lines hart) is

  -- ---- the host's accesses

  host_keeps : (hart : ℕ) (kind : Kind) (va : Va) (walk : Walk) → MayGo w hart (host_walking w va walk)
      → HostKeeps w hart kind (host_walking w va walk) (asked w hart kind (host_walking w va walk))
  host_keeps hart kind va walk may = by_asked (asked w hart kind (host_walking w va walk)) refl
    where
      stands : WalkStands w.ctl (IsFresh w.setup (enclave_at w.enclaves) s w.fences hart) (host_view w.setup.tables) va walk
      stands = walk_stands hart (host_walking w va walk) may

      unguarded_by : (page : ℕ) → is_host (s.owner page) ≡ true → guarded ≤ page
      unguarded_by page owned = elim (cases_lt page guarded) [
        | inl low ↦ absurd (false≢true (sym (ap is_host (guard_owns page low)) ∙ owned))
        | inr high ↦ high
      ]

      untaken_by : (page : ℕ) → is_host (s.owner page) ≡ true → (e : ℕ) → Contains (pages_taken (s.number e)) page → ⊥
      untaken_by page owned e here =
          false≢true (sym (ap is_host (All-contains (λ p. s.owner p ≡ Some (number e)) (pages_taken (s.number e)) page (pages.taken e) here)) ∙ owned)

      -- the tables tell of none where the space has none
      told_none : (pa : Pa) (level : ℕ) → asked w hart kind (host_walking w va walk) ≡ Table pa level → TellsNone w kind (host_walking w va walk) pa
          → HostHasNone w kind va
      told_none pa level is none m mapped =
          ungranted kind m
          (sym (ap (page_granted kind) mapped)
          ∙ of_host.host_given_none digest_of w k hart va kind
          (subst (LearnsSo w.ctl (IsFresh w.setup (enclave_at w.enclaves) s w.fences hart) (host_view w.setup.tables) va kind walk (tlb_at w.tlbs hart) pa level stands is
          (of_host.host_given digest_of w k hart va kind) (of_host.host_walks_to digest_of w k hart va kind walk stands pa level is)
          (of_host.host_given_fresh digest_of w k hart va kind))
          none.1 (of_host.host_learned_stands digest_of w k hart va kind walk stands pa level is)))

      by_asked : (x : Sought) → asked w hart kind (host_walking w va walk) ≡ x → HostKeeps w hart kind (host_walking w va walk) x
      by_asked (Table pa level) is =
          let table = of_host.host_asks_table digest_of w k hart va kind walk stands pa level is in
          let low = table.low in
          (table_word table.page pa (omega (arith, low)) table.word, told_none pa level is)
      by_asked (At pa) is =
          let reached = of_host.host_reached digest_of w k hart va kind walk stands pa is in
          let zones = k.sizes.zones in
          let within = host_within digest_of w k reached.mapping.page reached.host in
          record {
            mapping = reached.mapping;
            may = reached.may;
            vpn = reached.vpn;
            granted = reached.permits;
            is = reached.is;
            owner = host_is (s.owner reached.mapping.page) reached.host;
            unguarded = unguarded_by reached.mapping.page reached.host;
            there = omega (arith, zones, within);
            untaken = untaken_by reached.mapping.page reached.host;
          }
      by_asked PageFault is = elim (of_host.host_forbidden digest_of w k hart va kind walk stands is) [
        | inl far ↦ inl far
        | inr forbids ↦ inr (record { mapping = forbids.mapping; may = forbids.may; vpn = forbids.vpn; refused = forbids.forbids })
      ]

  -- ---- those of a number

  -- a page that an access of a number reaches is its own or shared, and open to every access
  module _ (e : ℕ) (live : (s.number e).live ≡ true) (va : Va) (page : ℕ) where
    abbrev r : Enclave
    r = enclave_at w.enclaves e

    used : is_free r.state ≡ false
    used = live_in_use r (s.number e) (k.stands.records e) live

    held : AllByRecursion (IsOwnOrShared w.owners e r.parent) r.pages
    held = recursion_from_All (IsOwnOrShared w.owners e r.parent) r.pages (k.stands.enclaves e used).held.owned

    among : (access : Kind) → image_page w e access va ≡ Some page → Contains (numbers_of r.pages) page
    among access here =
        let image = (image_of w.setup r.image).pages in
        located_among access image (numbers_of r.pages) va.0 page (reached_located access image r.pages va.0 page here)

    serves : (access : Kind) → (access ≢ kind.Store) → (x : PageKind) → IsOwnOrShared w.owners e r.parent x → MayServe w e access (page_number_of x)
    serves access no_store (Own p) own = inl (own_number digest_of w k e p own)
    serves access no_store (Shared p) (shadow, parent, own) =
        inr (shadow.0, (k.stands.records e).parent ∙ ap parent_of parent, own_number digest_of w k shadow.0 p own, no_store)

    no_store_reaches : (access : Kind) → (access ≢ kind.Store) → image_page w e access va ≡ Some page → MayServe w e access page
    no_store_reaches access no_store here =
        All-contains (MayServe w e access) (numbers_of r.pages) page
        (All-map (MayServe w e access) page_number_of r.pages
        (All-weaker (IsOwnOrShared w.owners e r.parent) (λ x. MayServe w e access (page_number_of x)) (serves access no_store) r.pages (k.stands.enclaves e used).held.owned))
        (among access here)

    own_or_shared : (access : Kind) → image_page w e access va ≡ Some page → MayServe w e access page
    own_or_shared kind.Fetch here = no_store_reaches kind.Fetch (λ same. (let h : ⊥ = cc in h)) here
    own_or_shared kind.Load here = no_store_reaches kind.Load (λ same. (let h : ⊥ = cc in h)) here
    own_or_shared kind.Store here =
        let own = reached_own (image_of w.setup r.image).pages r.pages va.0 page here in
        inl (own_number digest_of w k e page (all_get (IsOwnOrShared w.owners e r.parent) r.pages (page_number va.0) (Own page) held own))

    taken_open : (f : ℕ) → Contains (pages_taken (s.number f)) page → page_allowed (pmp_of w.setup) page ≡ true
    taken_open f here = All-contains (λ p. page_allowed (pmp_of w.setup) p ≡ true) (pages_taken (s.number f)) page (pages.allowed f) here

    parent_open : (o : Option ℕ) → Contains (parent_pages s o) page → page_allowed (pmp_of w.setup) page ≡ true
    parent_open None here = absurd (let low = here.1 in omega (arith, low))
    parent_open (Some shadow) here = taken_open shadow (Contains-append_left (s.number shadow).pages (s.number shadow).spares page here)

    reached_open : (access : Kind) → image_page w e access va ≡ Some page → AccessesAllowed (pmp_of w.setup) page
    reached_open access here = page_opens (pmp_of w.setup) page (elim (record_page w.setup s e r (k.stands.pages e) page (among access here)) [
      | inl own ↦ taken_open e own
      | inr shared ↦ parent_open (s.number e).parent shared
    ])

  number_keeps : (hart e : ℕ) (kind : Kind) (va : Va) (walk : Walk) → (s.number e).live ≡ true → HasAcknowledged w hart e → MayGo w hart (number_walking w e va walk)
      → NumberKeeps w e kind (number_walking w e va walk) (asked w hart kind (number_walking w e va walk))
  number_keeps hart e kind va walk live acknowledged may = by_asked (asked w hart kind (number_walking w e va walk)) refl
    where
      stands : WalkStands w.ctl (IsFresh w.setup (enclave_at w.enclaves) s w.fences hart) (number_view w.setup.tables e) va walk
      stands = walk_stands hart (number_walking w e va walk) may

      -- the tables tell of none where the image has none
      told_none : (pa : Pa) (level : ℕ) → asked w hart kind (number_walking w e va walk) ≡ Table pa level → TellsNone w kind (number_walking w e va walk) pa
          → image_page w e kind va ≡ None
      told_none pa level is none =
          of_number.given_none digest_of w k e live hart acknowledged va kind
          (subst (LearnsSo w.ctl (IsFresh w.setup (enclave_at w.enclaves) s w.fences hart) (number_view w.setup.tables e) va kind walk (tlb_at w.tlbs hart) pa level stands is
          (of_number.given digest_of w k e live hart acknowledged va kind) (of_number.walks digest_of w k e live hart acknowledged va kind walk stands pa level is)
          (of_number.given_fresh digest_of w k e live hart acknowledged va kind))
          none.1 (of_number.learned_stands digest_of w k e live hart acknowledged va kind walk stands pa level is))

      by_asked : (x : Sought) → asked w hart kind (number_walking w e va walk) ≡ x → NumberKeeps w e kind (number_walking w e va walk) x
      by_asked (Table pa level) is =
          let table = of_number.asks_table digest_of w k e live hart acknowledged va kind walk stands pa level is in
          (table_word (table_number w.setup.tables e level) pa (table_guarded w.setup e level (live_there digest_of w k e live)) table.1, told_none pa level is)
      by_asked (At pa) is =
          let page = of_number.reached_at digest_of w k e live hart acknowledged va kind walk stands pa is in
          let above = of_number.reached_above digest_of w k e live hart acknowledged va kind walk stands pa is in
          let reached = reached_by w.ctl (IsFresh w.setup (enclave_at w.enclaves) s w.fences hart) (number_view w.setup.tables e) va kind walk (tlb_at w.tlbs hart)
          stands (k.stands.translations.fresh.entries hart) pa is in
          let address : pa.0 ≡ 4096 * reached.ppn.0 + va.0 % 4096 = ap (λ (p : Pa). p.0) reached.is in
          record {
            page = page;
            is = omega (arith, above, address);
            owner = own_or_shared e live va (page_at pa) kind page;
            allowed = reached_open e live va (page_at pa) kind page;
          }
      by_asked PageFault is = of_number.reached_none digest_of w k e live hart acknowledged va kind walk stands is

  pub accesses_keep_to_pages : AccessesKeepToPages w
  accesses_keep_to_pages = record { walks = walks_are; host = host_keeps; running = runs_acknowledged digest_of w k; numbers = number_keeps }
