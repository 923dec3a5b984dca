-- The events of a run under way keep what a world keeps.
use Rattle.std.proofs.Common.{◌≡◌, ℕ, ◌<◌, Bool, List, length, Option, Some, None, option_map, refl, sym, ap, ◌∙◌, subst}
use Rattle.pl_base.specs.declared.access.Kind.{Kind}
use Rattle.pl_base.specs.declared.access.Kind.TheVariants as kind
use Rattle.pl_base.specs.declared.number.EncNo.{EncNo}
use Rattle.pl_base.specs.declared.state.Why.TheVariants as why_is
use Rattle.mem_geom.specs.Parts.{page_bytes}
use Rattle.mem_tree.specs.Trees.{HasDigests}
use Rattle.mem_ctl.specs.Laws.{CallsTell}
use Rattle.mon_enclave.specs.declared.enclave.Enclave.{Enclave}
use Rattle.mon_enclave.specs.Records.{enclave_at}
use Rattle.mon_image.specs.declared.image.Image.{Image}
use Rattle.mon_image.specs.declared.page.ImagePage.{ImagePage}
use Rattle.mon_tables.proofs.Mappings.{none_some, same_Some}
use Rattle.rv_alone.specs.declared.step.Act.{Act}
use Rattle.rv_alone.specs.declared.step.Act.TheVariants.{Call, Load, Set, Store, Trap}
use Rattle.rv_alone.specs.Effect.{act_of}
use Rattle.rv_alone.specs.Flat.{fetched}
use Rattle.rv_hart.specs.declared.walks.Micro.{Micro}
use Rattle.rv_hart.specs.declared.walks.Micro.TheVariants.{Faulting, Fetching, Reaching}
use Rattle.rv_hart.specs.declared.walks.Walk.{Walk}
use Rattle.world_attack.specs.Room.{RoomStays}
use Rattle.world_machine.specs.declared.under.Under.TheVariants.{Running}
use Rattle.world_machine.specs.LinesUnderWay.{InstructionStands, IsAccessed, MakesAccess, access_of}
use Rattle.world_machine.specs.Making.{image_of}
use Rattle.world_machine.specs.Pages.{fault_cause, flat_pages, numbers_of, reached, to_break}
use Rattle.world_machine.specs.Running.{RunNow, fetched_in, loads_in, reaches, runs, stores_in, page_faults, faults_by}
use Rattle.world_machine.specs.Standing.{Kept}
use Rattle.world_machine.specs.Translating.{number_view}
use Rattle.world_machine.specs.TranslationsAgree.{Walking, walking_of}
use Rattle.world_machine.specs.Worlds.{WorldData, hart_line, under_at}
use Rattle.world_machine.proofs.FlatPages.{located}
use Rattle.world_machine.proofs.InstructionWays.{Stops, fetch_stops, load_stops, store_stops}
use Rattle.world_machine.proofs.Instructions.{IsFetched}
use Rattle.world_machine.proofs.LiveEnclaves.{IsLive, live_reached}
use Rattle.world_machine.proofs.RunFetches.{fetch_kept}
use Rattle.world_machine.proofs.RunLearns.{IsInstructionWalk}
use Rattle.world_machine.proofs.RunLoads.{load_kept}
use Rattle.world_machine.proofs.RunMoves.{run_line}
use Rattle.world_machine.proofs.RunRows.{alone_so, running, standing, stops_kept}
use Rattle.world_machine.proofs.RunStores.{store_kept}
use Rattle.world_machine.proofs.RunTables.{translates_kept}
use Rattle.world_machine.proofs.ReachedPages.{reached_located, none_located, breaks_at}
use Rattle.world_machine.proofs.BreakRows.{break_kept}

-- ---- the walks of an instruction

pub fetch_walk : (tables : ℕ) (image : List ImagePage) (e : ℕ) (r : Enclave) → IsInstructionWalk tables image e r Fetching r.context.pc kind.Fetch
fetch_walk tables image e r = record { walking = λ walk. refl; carries = λ bytes_of walk more k. k; accesses = λ bytes_of walk k. refl }

-- the walk to its data, for a load and a store
module _ (tables : ℕ) (image : List ImagePage) (e : ℕ) (r : Enclave) (word address : ℕ) where
  reach_walking : (access : Kind) → access_of (act_of r.context word) ≡ Some (access, address) → (walk : Walk)
      → walking_of tables e r (Reaching word walk) ≡ Some (record { view = number_view tables e; va = record { 0 = address }; walk = walk })
  reach_walking access is walk =
      let walking : Kind × ℕ → Walking = λ a. record { view = number_view tables e; va = record { 0 = a.1 }; walk = walk } in
      ap (option_map walking) is

  pub load_walk : access_of (act_of r.context word) ≡ Some (kind.Load, address) → IsInstructionWalk tables image e r (Reaching word) address kind.Load
  load_walk is = record {
    walking = reach_walking kind.Load is;
    carries = λ bytes_of walk more k. k;
    accesses = λ bytes_of walk k. (word, record { word_is = k.1.word_is; access_is = is });
  }

  pub store_walk : access_of (act_of r.context word) ≡ Some (kind.Store, address) → IsInstructionWalk tables image e r (Reaching word) address kind.Store
  store_walk is = record {
    walking = reach_walking kind.Store is;
    carries = λ bytes_of walk more k. k;
    accesses = λ bytes_of walk k. (word, record { word_is = k.1.word_is; access_is = is });
  }

-- ---- no page serves an access

-- the image run alone traps there too
module _ (image : Image) (memory : List ℕ) (r : Enclave) (live : IsLive image memory r) where
  abbrev StopsAt : Kind × ℕ → Type 0
  StopsAt access = located access.0 image.pages (numbers_of r.pages) access.1 ≡ None → Stops image memory r (why_is.Trapped (fault_cause access.0) access.1)

  data_stops : (word : ℕ) (access : Kind × ℕ) (act : Act) → IsFetched image.pages (page_bytes memory) r word act → access_of act ≡ Some access → StopsAt access
  data_stops word access (Load address width is_signed rd) is same =
      let made : Kind × ℕ = (kind.Load, address) in
      subst StopsAt (same_Some made access same) (load_stops image memory r live word address width is_signed rd is)
  data_stops word access (Store address width value) is same =
      let made : Kind × ℕ = (kind.Store, address) in
      subst StopsAt (same_Some made access same) (store_stops image memory r live word address width value is)
  data_stops word access (Set context) is same = absurd (none_some access same)
  data_stops word access (Call number value) is same = absurd (none_some access same)
  data_stops word access (Trap cause value) is same = absurd (none_some access same)

  made_stops : (access : Kind × ℕ) → (word : ℕ) × MakesAccess image.pages (page_bytes memory) r word access → StopsAt access
  made_stops access (word, makes) = data_stops word access (act_of r.context word) (live_reached image memory r live word makes.word_is) makes.access_is

  pub access_stops : (access : Kind) (va : ℕ) → IsAccessed image.pages (page_bytes memory) r va access → located access image.pages (numbers_of r.pages) va ≡ None
      → Stops image memory r (why_is.Trapped (fault_cause access) va)
  access_stops kind.Fetch va is none =
      subst (λ v. Stops image memory r (why_is.Trapped (fault_cause kind.Fetch) v)) (sym is)
      (fetch_stops image memory r live 0 (ap (located kind.Fetch image.pages (numbers_of r.pages)) (sym is) ∙ none))
  access_stops kind.Load va is none = made_stops (kind.Load, va) is none
  access_stops kind.Store va is none = made_stops (kind.Store, va) is none

-- ---- the events

module _ (digest_of : List ℕ → List ℕ) (law : HasDigests digest_of) (tells : CallsTell digest_of) (room_stays : RoomStays) (w : WorldData) (k : Kept digest_of w) (none : w.collision ≡ None) (hart : ℕ)
    (below : hart < w.setup.harts) (first : Bool) (e : EncNo) (budget : ℕ) where
  abbrev r : Enclave
  r = enclave_at w.enclaves e.0

  module _ (count : ℕ) (here : hart_line w hart ≡ Some (run_line first e budget)) (there : e.0 < length w.enclaves) (positions : List ℕ) where
    abbrev run : RunNow
    run = record { hart = hart; e = e.0; budget = budget; count = count }

    module _ (micro : Micro) (under : under_at w.under hart ≡ Running micro count) where
      abbrev image : Image
      image = (standing digest_of room_stays w k none hart below first e budget count micro here under there).image

      same_image : image_of w.setup r.image ≡ image
      same_image = (alone_so digest_of room_stays w k none hart below first e budget count micro here under there).image_is

      -- what is reached by the setup's image is by the record's
      reached_so : (access : Kind) (va : ℕ) (o : Option ℕ) → reached access (image_of w.setup r.image).pages r.pages va ≡ o → reached access image.pages r.pages va ≡ o
      reached_so access va o at = subst (λ (i : Image). reached access i.pages r.pages va ≡ o) same_image at

      -- no page serves an access: its image traps, or a shared page is to be broken
      faults_by_kept : (access : Kind) (va : ℕ) → IsAccessed image.pages (page_bytes w.ctl.mirror) r va access → reached access image.pages r.pages va ≡ None
          → (o : Option ℕ) → to_break access image.pages r.pages va ≡ o → Kept digest_of (faults_by digest_of w run r positions access va o).world
      faults_by_kept access va is at None whole =
          stops_kept digest_of room_stays w k none hart below first e budget count micro here under there (why_is.Trapped (fault_cause access) va)
          (access_stops image w.ctl.mirror r (alone_so digest_of room_stays w k none hart below first e budget count micro here under there).live access va is (none_located access image.pages r.pages va at whole))
      faults_by_kept access va is at (Some index) breaks =
          break_kept digest_of law room_stays w k none hart below first e budget count micro here under there positions access va index is (breaks_at access image.pages r.pages va index breaks)

      pub page_faults_kept : (access : Kind) (va : ℕ) → IsAccessed (image_of w.setup r.image).pages (page_bytes w.ctl.mirror) r va access
          → reached access (image_of w.setup r.image).pages r.pages va ≡ None → Kept digest_of (page_faults digest_of w run r positions access va).world
      page_faults_kept access va is at =
          faults_by_kept access va (subst (λ (i : Image). IsAccessed i.pages (page_bytes w.ctl.mirror) r va access) same_image is) (reached_so access va None at)
          (to_break access (image_of w.setup r.image).pages r.pages va) (ap (λ (i : Image). to_break access i.pages r.pages va) (sym same_image))

    -- a page serves the fetch, or none
    fetch_reached : (walk : Walk) (under : under_at w.under hart ≡ Running (Fetching walk) count) (o : Option ℕ) → reached kind.Fetch (image_of w.setup r.image).pages r.pages r.context.pc ≡ o
        → Kept digest_of (fetched_in digest_of w run r positions o).world
    fetch_reached walk under None at = page_faults_kept (Fetching walk) under kind.Fetch r.context.pc refl at
    fetch_reached walk under (Some page) at =
        fetch_kept digest_of room_stays tells.reads w k none hart below first e budget count (Fetching walk) here under there positions page
        (reached_located kind.Fetch (image (Fetching walk) under).pages r.pages r.context.pc page (reached_so (Fetching walk) under kind.Fetch r.context.pc (Some page) at))

    fetching_kept : (walk : Walk) → under_at w.under hart ≡ Running (Fetching walk) count → Kept digest_of (runs digest_of w hart positions e.0 budget (Fetching walk) count).world
    fetching_kept walk under =
        translates_kept digest_of room_stays tells.reads w k none hart below first e budget count Fetching walk here under there positions r.context.pc kind.Fetch
        (fetch_walk w.setup.tables (image_of w.setup r.image).pages e.0 r) (fetched_in digest_of w run r positions)
        (fetch_reached walk under)

    module _ (word : ℕ) (walk : Walk) (under : under_at w.under hart ≡ Running (Reaching word walk) count) where
      abbrev Fetched : Act → Type 0
      Fetched = IsFetched (image (Reaching word walk) under).pages (page_bytes w.ctl.mirror) r word

      -- a page serves the access to data, or none
      load_reached : (address width : ℕ) (is_signed : Bool) (rd : ℕ) → Fetched (Load address width is_signed rd) → IsAccessed (image_of w.setup r.image).pages (page_bytes w.ctl.mirror) r address kind.Load
          → (o : Option ℕ) → reached kind.Load (image_of w.setup r.image).pages r.pages address ≡ o → Kept digest_of (loads_in digest_of w run r positions address width is_signed rd o).world
      load_reached address width is_signed rd is accessed None at = page_faults_kept (Reaching word walk) under kind.Load address accessed at
      load_reached address width is_signed rd is accessed (Some page) at =
          load_kept digest_of room_stays tells.reads w k none hart below first e budget count (Reaching word walk) here under there positions word address width is_signed rd is page
          (reached_located kind.Load (image (Reaching word walk) under).pages r.pages address page (reached_so (Reaching word walk) under kind.Load address (Some page) at))

      store_reached : (address width value : ℕ) → Fetched (Store address width value) → IsAccessed (image_of w.setup r.image).pages (page_bytes w.ctl.mirror) r address kind.Store
          → (o : Option ℕ) → reached kind.Store (image_of w.setup r.image).pages r.pages address ≡ o → Kept digest_of (stores_in digest_of w run r positions address width value o).world
      store_reached address width value is accessed None at = page_faults_kept (Reaching word walk) under kind.Store address accessed at
      store_reached address width value is accessed (Some page) at =
          store_kept digest_of room_stays tells.writes w k none hart below first e budget count (Reaching word walk) here under there positions word address width value is page
          (reached_so (Reaching word walk) under kind.Store address (Some page) at)

      -- the access that an act makes
      accessed_as : (access : Kind × ℕ) → access_of (act_of r.context word) ≡ Some access → IsFetched (image_of w.setup r.image).pages (page_bytes w.ctl.mirror) r word (act_of r.context word)
          → (word : ℕ) × MakesAccess (image_of w.setup r.image).pages (page_bytes w.ctl.mirror) r word access
      accessed_as access makes is = (word, record { word_is = is.word_is; access_is = makes })

      reach_by : (act : Act) → act_of r.context word ≡ act → (access : Kind × ℕ) → access_of act ≡ Some access → Fetched act
          → IsFetched (image_of w.setup r.image).pages (page_bytes w.ctl.mirror) r word (act_of r.context word) → Kept digest_of (reaches digest_of w run r positions word walk act).world
      reach_by (Load address width is_signed rd) act_is access access_is is made =
          translates_kept digest_of room_stays tells.reads w k none hart below first e budget count (Reaching word) walk here under there positions address kind.Load
          (load_walk w.setup.tables (image_of w.setup r.image).pages e.0 r word address (ap access_of act_is)) (loads_in digest_of w run r positions address width is_signed rd)
          (load_reached address width is_signed rd is (accessed_as (kind.Load, address) (ap access_of act_is) made))
      reach_by (Store address width value) act_is access access_is is made =
          translates_kept digest_of room_stays tells.reads w k none hart below first e budget count (Reaching word) walk here under there positions address kind.Store
          (store_walk w.setup.tables (image_of w.setup r.image).pages e.0 r word address (ap access_of act_is)) (stores_in digest_of w run r positions address width value)
          (store_reached address width value is (accessed_as (kind.Store, address) (ap access_of act_is) made))
      reach_by (Set context) act_is access access_is is made = absurd (none_some access access_is)
      reach_by (Call number value) act_is access access_is is made = absurd (none_some access access_is)
      reach_by (Trap cause value) act_is access access_is is made = absurd (none_some access access_is)

      reaching_kept : (access : Kind × ℕ) → MakesAccess (image_of w.setup r.image).pages (page_bytes w.ctl.mirror) r word access
          → Kept digest_of (runs digest_of w hart positions e.0 budget (Reaching word walk) count).world
      reaching_kept access makes =
          let so = alone_so digest_of room_stays w k none hart below first e budget count (Reaching word walk) here under there in
          reach_by (act_of r.context word) refl access makes.access_is
          (live_reached (image (Reaching word walk) under) w.ctl.mirror r so.live word
          (subst (λ (i : Image). fetched (flat_pages (page_bytes w.ctl.mirror) i.pages (numbers_of r.pages)) r.context.pc ≡ Some word) so.image_is makes.word_is))
          (record { word_is = makes.word_is; act_is = refl; aligned = so.live.aligned })

    by_micro : (micro : Micro) → under_at w.under hart ≡ Running micro count → InstructionStands (image_of w.setup r.image).pages (page_bytes w.ctl.mirror) r micro
        → Kept digest_of (runs digest_of w hart positions e.0 budget micro count).world
    by_micro (Fetching walk) under is = fetching_kept walk under
    by_micro (Reaching word walk) under is = reaching_kept word walk under is.0 is.1
    by_micro (Faulting va access) under is = page_faults_kept (Faulting va access) under access va is.0 is.1

  pub runs_kept : (micro : Micro) (count : ℕ) → hart_line w hart ≡ Some (run_line first e budget) → under_at w.under hart ≡ Running micro count → e.0 < length w.enclaves → (positions : List ℕ)
      → Kept digest_of (runs digest_of w hart positions e.0 budget micro count).world
  runs_kept micro count here under there positions =
      by_micro count here there positions micro under (running digest_of room_stays w k none hart below first e budget count micro here under there).instruction
