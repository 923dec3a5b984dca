-- The world that a run begins with keeps what every world is to keep.
use Rattle.std.proofs.Common.{◌≡◌, ℕ, zero, suc, ◌+◌, ◌-◌, ◌*◌, ◌/◌, ◌%◌, ◌<◌, ◌≤◌, eqb, ltb, leb, Bool, true, false, ◌&&◌, cond, if◌then◌else◌, List, [], ◌∷◌, ◌++◌, length, map, get_or, replicate, slice_get, unwrap_or, Option, Some, None, option_map, refl, sym, ap, ◌∙◌, subst, arith, zero-add, suc-add, length-append}
use Rattle.std.specs.Prelude.{All, find}
use Rattle.std.specs.List.{concat, range_with_len}
use Rattle.std.specs.Option.{option_map_or}
use Rattle.std.proofs.lemmas.Bool.{and_parts, false≢true, leb-true}
use Rattle.std.proofs.lemmas.Bool.Decides.{nat_tests}
use Rattle.std.proofs.lemmas.List.{length-replicate, replicate-append-replicate}
use Rattle.std.proofs.lemmas.List.Elements.{All-cons, All-head, All-map, All-nil, All-tail}
use Rattle.std.proofs.lemmas.List.FromFn.{get_or-map-range_with_len}
use Rattle.byteorder.specs.Endian.{little_bytes}
use Rattle.pl_base.specs.ListedWords.{listed_word, stands_at}
use Rattle.pl_base.specs.States.{is_free}
use Rattle.mem_geom.specs.Parts.{page_bytes}
use Rattle.rv_tlb.specs.declared.tlb.TlbEntry.{TlbEntry}
use Rattle.mem_ctl.specs.Data.{CtlData}
use Rattle.mem_ctl.specs.Start.{start_data, start_page, start_zone, tree_memory}
use Rattle.mem_ctl.proofs.Joined.{map-range_same}
use Rattle.mem_ctl.proofs.TreeMemory.{page-at, start_data-IsKept, start_data-words, start_zone-IsZone}
use Rattle.mon_enclave.specs.declared.enclave.Enclave.{Enclave}
use Rattle.mon_enclave.specs.Records.{enclave_at, free_enclave}
use Rattle.mon_fence.specs.declared.fences.Fence.{Fence}
use Rattle.mon_fence.specs.Fences.{fence_of}
use Rattle.mon_fence.proofs.Needs.{none_fit}
use Rattle.mon_host.specs.Laws.{mirror_words}
use Rattle.mon_host.proofs.StartLemmas.{starts_in_empty_space}
use Rattle.mon_owner.specs.declared.owners.Owner.TheVariants.{Guard, Host}
use Rattle.mon_owner.specs.Owners.{first_owners}
use Rattle.mon_tables.specs.SpaceWalks.{HostTables}
use Rattle.mon_tables.specs.Tables.{start_words}
use Rattle.mon_tables.specs.Words.{pointer_word}
use Rattle.mon_tables.proofs.StartWords.{starts_empty}
use Rattle.pl_history.specs.declared.line.Line.{Line}
use Rattle.pl_history.specs.declared.setup.SetupParts.{SetupParts}
use Rattle.pl_history.specs.History.{NamesPart}
use Rattle.pl_history.specs.Monitor.{first_owner, free_number, guard, host, is_host, opening}
use Rattle.pl_history.specs.Rules.{guarded_of, is_within, pages_of}
use Rattle.world_attack.proofs.RoomLemmas.{room_at_start}
use Rattle.world_machine.specs.declared.under.Under.{Under}
use Rattle.world_machine.specs.declared.under.Under.TheVariants.{Idle}
use Rattle.world_machine.specs.FencesStand.{FenceStands, NumberFenceStands, RemovalStands}
use Rattle.world_machine.specs.LinesUnderWay.{LineUnderWay, number_under_way}
use Rattle.world_machine.specs.Reached.{CanRun, opening_world}
use Rattle.world_machine.specs.PagesAgree.{PagesAre}
use Rattle.world_machine.specs.RecordsAgree.{OwnersAgree, RecordAgrees, is_begun, owner_of}
use Rattle.world_machine.specs.Sizes.{HasSizes}
use Rattle.world_machine.specs.Standing.{Kept, Stands}
use Rattle.world_machine.specs.TranslationsAgree.{IsFresh, TranslationsStand, WalkingStands, walking}
use Rattle.world_machine.specs.Worlds.{tlb_at, under_at}
use Rattle.world_machine.proofs.LineTranslations.{gives_none, idle_walks, isnt_waiting, removes_none}
use Rattle.world_machine.proofs.QuietRows.{idle_has_none, none_some}
use Rattle.world_machine.proofs.SetupFacts.{guarded_few}

-- ---- lists of equal elements

-- each element is the one that stands past the end
first_of : {A : Type 0} (n : ℕ) (x : A) (i : ℕ) → unwrap_or (slice_get (replicate n x) i) x ≡ x
first_of zero x i = refl
first_of (suc n) x zero = refl
first_of (suc n) x (suc i) = first_of n x i

-- ---- owners

below_none : (page : ℕ) → ltb page 0 ≡ false
below_none page = grind (arith, nat_tests)

below_suc : (page n : ℕ) → ltb (suc page) (suc n) ≡ ltb page n
below_suc page n = grind (arith, nat_tests)

below_first : (n : ℕ) → ltb 0 (suc n) ≡ true
below_first n = grind (arith, nat_tests)

host_part : (n page : ℕ) → option_map owner_of (slice_get (replicate n (Host 0)) page) ≡ (if ltb page n then Some host else None)
host_part zero page = rw (below_none page) refl
host_part (suc n) zero = rw (below_first n) refl
host_part (suc n) (suc page) = rw (below_suc page n) (host_part n page)

all_parts : (g n page : ℕ) → option_map owner_of (slice_get (replicate g Guard ++ replicate n (Host 0)) page)
    ≡ (if ltb page g then Some guard else if ltb page (g + n) then Some host else None)
all_parts zero n page = rw (below_none page, zero-add n) (host_part n page)
all_parts (suc g) n zero = rw (below_first g) refl
all_parts (suc g) n (suc page) = rw (below_suc page g, suc-add g n, below_suc page (g + n)) (all_parts g n page)

-- a guarded page
guarded_part : (g n page : ℕ) → page < g → slice_get (replicate g Guard ++ replicate n (Host 0)) page ≡ Some Guard
guarded_part zero n page below = absurd (omega arith)
guarded_part (suc g) n zero below = refl
guarded_part (suc g) n (suc page) below = guarded_part g n page (omega arith)

-- no page of the host has mappings
no_maps : (g n page maps : ℕ) → slice_get (replicate g Guard ++ replicate n (Host 0)) page ≡ Some (Host maps) → maps ≡ 0
no_maps zero zero page maps is = cc
no_maps zero (suc n) zero maps is = cc
no_maps zero (suc n) (suc page) maps is = no_maps zero n page maps is
no_maps (suc g) n zero maps is = cc
no_maps (suc g) n (suc page) maps is = no_maps g n page maps is

-- which pages are the host's
host_page : (page g n : ℕ) → is_host (if ltb page g then Some guard else if ltb page n then Some host else None) ≡ true → (g ≤ page) × (page < n)
host_page page g n is = grind (arith, nat_tests)

-- ---- bytes of the host's pages

abbrev Word : Type 0
Word = ℕ × ℕ × ℕ

-- where each word of a list fails a test, none is found
stands_nowhere : (test : Word → Bool) (words : List Word) → All (λ (w : Word). test w ≡ false) words → find test words ≡ None
stands_nowhere test [] none = refl
stands_nowhere test (w ∷ words) none =
    ap (λ (b : Bool). cond b (Some w) (find test words)) (All-head (λ (v : Word). test v ≡ false) w words none)
    ∙ stands_nowhere test words (All-tail (λ (v : Word). test v ≡ false) w words none)

-- start words stand in the first two pages alone
no_start_word : (tables page offset : ℕ) → 2 ≤ page → listed_word (start_words tables) page offset ≡ 0
no_start_word tables page offset past =
    let root : eqb 0 page ≡ false = grind (arith, nat_tests) in
    let middle : eqb 1 page ≡ false = grind (arith, nat_tests) in
    let elsewhere = λ (w : Word). stands_at page offset w ≡ false in
    let pointer = λ (i : ℕ). let w : Word = (1, 8 * i, pointer_word (2 + i)) in w in
    let none : All elsewhere (start_words tables) =
    All-cons elsewhere (0, 0, pointer_word 1) (map pointer (range_with_len 0 tables)) (ap (λ (b : Bool). b && eqb 0 offset) root)
    (All-map elsewhere pointer (range_with_len 0 tables) (λ k d h. ap (λ (b : Bool). b && eqb (8 * get_or (range_with_len 0 tables) k d) offset) middle)) in
    ap (λ (o : Option Word). option_map_or (λ (w : Word). w.2) o 0) (stands_nowhere (stands_at page offset) (start_words tables) none)

-- the bytes of so many words that are 0
zero_words : (from count : ℕ) → concat (map (λ k. little_bytes 8 0) (range_with_len from count)) ≡ replicate (8 * count) 0
zero_words from zero = refl
zero_words from (suc count) =
    let all : 8 + 8 * count ≡ 8 * suc count = omega arith in
    let byte : ℕ = 0 in
    ap (λ (rest : List ℕ). replicate 8 0 ++ rest) (zero_words (from + 1) count)
    ∙ replicate-append-replicate 8 (8 * count) byte ∙ ap (λ (n : ℕ). replicate n 0) all

-- a page without listed words is zero
pub zero_page : (words : List Word) (page : ℕ) → ((offset : ℕ) → listed_word words page offset ≡ 0) → start_page words page ≡ replicate 4096 0
unfolding start_page
zero_page words page none =
    ap concat (map-range_same (λ k. little_bytes 8 (listed_word words page (8 * k))) (λ k. little_bytes 8 0) 512 (λ k below. ap (little_bytes 8) (none (8 * k))))
    ∙ zero_words 0 512

module _ (digest_of : List ℕ → List ℕ) (law : (m : List ℕ) → length (digest_of m) ≡ 32) (zones : ℕ) (few : zones ≤ 64) (words : List Word) where
  -- a page of the memory that a controller is made with
  pub made_page : (page : ℕ) → page < 64 * zones → page_bytes (tree_memory digest_of zones (start_zone words)) page ≡ start_page words page
  unfolding start_zone
  made_page page inside =
      let place : 64 * (page / 64) + page % 64 ≡ page = omega arith in
      ap (page_bytes (tree_memory digest_of zones (start_zone words))) (sym place)
      ∙ page-at digest_of law zones few (start_zone words) (λ zone below. start_zone-IsZone words zone) (page / 64) (page % 64) (omega arith) (omega arith)
      ∙ get_or-map-range_with_len (λ k. start_page words (64 * (page / 64) + k)) 0 64 (page % 64) (page % 64) [] (omega arith) (omega arith)
      ∙ ap (start_page words) place

-- ---- what the world keeps

within : (low high n : ℕ) → is_within low high n ≡ true → (low ≤ n) × (n ≤ high)
within low high n is =
    let both = and_parts (leb low n) (leb n high) is in
    (leb-true low n both.0, leb-true n high both.1)

module _ (digest_of : List ℕ → List ℕ) (law : (m : List ℕ) → length (digest_of m) ≡ 32) (setup : SetupParts) (can : CanRun setup) where
  -- guarded pages, all pages, and the bytes off chip
  abbrev guarded : ℕ
  guarded = guarded_of setup.tables setup.enclaves

  abbrev pages : ℕ
  pages = pages_of setup.zones

  abbrev memory : List ℕ
  memory = tree_memory digest_of setup.zones (start_zone (start_words setup.tables))

  abbrev records : List Enclave
  records = replicate setup.enclaves free_enclave

  abbrev under : List Under
  under = replicate setup.harts Idle

  abbrev answered : List ℕ
  answered = replicate (setup.harts + 1) 0

  few_zones : setup.zones ≤ 64
  few_zones = (within 1 64 setup.zones can.rules.zones).1

  all_pages : guarded + (pages - guarded) ≡ pages
  all_pages = let more = guarded_few setup can.rules in omega arith

  sizes : HasSizes setup (start_data digest_of setup.zones setup.slots (start_words setup.tables)) (first_owners guarded pages) records under answered
  sizes =
      let nothing : ℕ = 0 in
      record {
        rules = can.rules;
        bytes = can.bytes;
        lines_fit = can.lines_fit;
        zones = refl;
        slots = refl;
        pages = length-append (replicate guarded Guard) (replicate (pages - guarded) (Host 0))
            ∙ (λ i. length-replicate guarded Guard i + length-replicate (pages - guarded) (Host 0) i) ∙ all_pages;
        guarded = guarded_part guarded (pages - guarded);
        numbers = length-replicate setup.enclaves free_enclave;
        harts = length-replicate setup.harts Idle;
        actors = length-replicate (setup.harts + 1) nothing;
      }

  owners_agree : OwnersAgree (first_owners guarded pages) (opening setup)
  unfolding opening
  owners_agree = record {
    owner = λ page. ap (λ (n : ℕ). if ltb page guarded then Some guard else if ltb page n then Some host else None) (sym all_pages) ∙ sym (all_parts guarded (pages - guarded) page);
    maps = λ page maps is. no_maps guarded (pages - guarded) page maps is;
  }

  free_agrees : RecordAgrees free_enclave free_number
  free_agrees = record {
    state = refl;
    live = refl;
    hart = refl;
    image = refl;
    given = refl;
    parent = refl;
    sent = refl;
    taken = refl;
    retired = refl;
  }

  -- each number is free
  is_first : (e : ℕ) → enclave_at records e ≡ free_enclave
  is_first e = first_of setup.enclaves free_enclave e

  never_used : (e : ℕ) → is_free (enclave_at records e).state ≡ false → ⊥
  never_used e used = false≢true (sym used ∙ ap (λ (r : Enclave). is_free r.state) (is_first e))

  -- no line is under way
  is_idle : (hart : ℕ) → under_at under hart ≡ Idle
  is_idle hart = first_of setup.harts Idle hart

  host_zero : (page : ℕ) → is_host (first_owner setup page) ≡ true → page_bytes memory page ≡ replicate 4096 0
  host_zero page is =
      let range = host_page page guarded pages is in
      made_page digest_of law setup.zones few_zones (start_words setup.tables) page range.1
      ∙ zero_page (start_words setup.tables) page (λ offset. no_start_word setup.tables page offset (omega arith))

  -- ---- translations

  abbrev ctl : CtlData
  ctl = start_data digest_of setup.zones setup.slots (start_words setup.tables)

  few_tables : setup.tables ≤ 32
  few_tables = (within 1 32 setup.tables can.rules.tables).1

  -- the host's tables stand for the empty space
  host_tables : HostTables setup.tables (mirror_words ctl) []
  host_tables = starts_in_empty_space starts_empty setup.tables ctl few_tables
      (let more : guarded < pages = guarded_few setup can.rules in omega arith)
      (start_data-words digest_of law setup.zones (start_words setup.tables) few_zones)

  -- no hart has a fence, or a translation
  no_fence : (hart : ℕ) → fence_of (replicate setup.harts None) hart ≡ None
  no_fence hart = first_of setup.harts None hart

  no_entries : (hart : ℕ) → tlb_at (replicate setup.harts []) hart ≡ []
  no_entries hart = first_of setup.harts [] hart

  translations : (line : ℕ → Option Line) → TranslationsStand setup ctl (replicate setup.harts []) (replicate setup.harts None) (enclave_at records) (opening setup) line (under_at under)
  unfolding opening
  translations line =
      let no_tlb : List TlbEntry = [] in
      let none : Option Fence = None in
      record {
        tables = record { host = host_tables; numbers = λ e live. absurd (false≢true live) };
        harts = length-replicate setup.harts no_tlb;
        fences_stand = record {
          size = length-replicate setup.harts none;
          needs_others = none_fit setup.harts (within 1 8 setup.harts can.rules.harts).1;
          each = λ hart. subst (λ fence. FenceStands fence []) (sym (no_fence hart)) refl;
        };
        removals = λ hart. subst (λ u. RemovalStands (line hart) u []) (sym (is_idle hart)) (removes_none (line hart) Idle [] refl refl);
        giving = λ hart. subst (λ fence. NumberFenceStands (line hart) (under_at under hart) fence) (sym (no_fence hart))
            (gives_none (line hart) (under_at under hart) None (ap isnt_waiting (is_idle hart)) tt);
        fresh = record {
          entries = λ hart. subst (All (IsFresh setup (enclave_at records) (opening setup) (replicate setup.harts None) hart)) (sym (no_entries hart))
              (All-nil (IsFresh setup (enclave_at records) (opening setup) (replicate setup.harts None) hart));
          walks = λ hart. subst (λ u. WalkingStands ctl (IsFresh setup (enclave_at records) (opening setup) (replicate setup.harts None) hart)
              (walking setup.tables (enclave_at records) (line hart) u)) (sym (is_idle hart))
              (idle_walks ctl (IsFresh setup (enclave_at records) (opening setup) (replicate setup.harts None) hart) setup.tables (enclave_at records) (line hart));
        };
      }

  stands : Stands (opening_world digest_of setup) (opening setup)
  unfolding opening_world opening
  stands = record {
    owners = owners_agree;
    records = λ e. subst (λ r. RecordAgrees r free_number) (sym (is_first e)) free_agrees;
    progress = λ actor i. record { answered = sym (first_of (setup.harts + 1) 0 actor) i; begun = is_begun (sym (is_idle actor) i) };
    pages = λ e. subst (λ r. PagesAre setup (opening setup).number r free_number) (sym (is_first e))
        (record { broken = []; ahead = false; so_far = refl; kinds = refl; spares = refl; few = omega arith });
    enclaves = λ e used. absurd (never_used e used);
    host = λ page is. host_zero page is;
    attacks = record {
      nodes = λ i past none. refl;
      guarded = λ page is k few none. refl;
      made = λ page e here live k few none. refl;
      put = λ hart page here k few none. refl;
    };
    lines = λ hart. subst (LineUnderWay setup _ _ _ hart _) (sym (is_idle hart)) tt;
    apart = λ hart other e here there. absurd (none_under_way _ _ e (is_idle hart) here);
    translations = translations (λ hart. _);
  }
    where
      none_under_way : (line : Option Line) (now : Under) (e : ℕ) → now ≡ Idle → number_under_way line now ≡ Some e → ⊥
      none_under_way line now e idle some = none_some e (number_under_way line now) (ap (number_under_way line) idle ∙ idle_has_none line) some

  kept : Kept digest_of (opening_world digest_of setup)
  unfolding opening_world
  kept = record {
    sizes = sizes;
    trees = (let slots = within 1 64 setup.slots can.rules.slots in
        start_data-IsKept digest_of law setup.zones setup.slots (start_words setup.tables) few_zones slots.0 slots.1);
    legal = tt;
    parts = All-nil (NamesPart []);
    room = room_at_start setup _ can.rules (omega arith) (omega arith);
    stands = stands;
    collision = tt;
  }

-- the world that a run of a setup begins with keeps what every world is to keep
pub opening_kept : (digest_of : List ℕ → List ℕ) → ((m : List ℕ) → length (digest_of m) ≡ 32) → (setup : SetupParts) → CanRun setup → Kept digest_of (opening_world digest_of setup)
opening_kept digest_of law setup can = kept digest_of law setup can
