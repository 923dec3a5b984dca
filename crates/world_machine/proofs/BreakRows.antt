-- The event of a store to a shared page keeps what a world keeps: copied, refused at a place, broken off by a collision, or without a spare.
use Rattle.std.proofs.Common.{◌≡◌, ◌≢◌, ◌⊎◌, ℕ, ◌+◌, ◌*◌, ◌/◌, ◌<◌, ◌≤◌, Bool, true, false, List, [], ◌∷◌, length, Some, None, refl, sym, ap, ◌∙◌, subst, arith, inl, inr}
use Rattle.std.specs.Prelude.{Contains, IsTrue, slice_get, slice_set}
use Rattle.std.specs.Option.{option_map_or}
use Rattle.std.proofs.lemmas.List.Elements.{All-contains, All-contains_itself, All-get_or, All-weaker, Contains-append_left, Contains-append_right, Contains-get_or, recursion_from_All}
use Rattle.std.proofs.lemmas.Option.{get_or_from_slice_get, slice_get_within}
use Rattle.pl_base.specs.HartSet.{space_of_number}
use Rattle.pl_base.specs.Perms.{are_page_perms}
use Rattle.pl_base.specs.declared.access.Kind.{Kind}
use Rattle.pl_base.specs.declared.access.Mode.TheVariants.{User}
use Rattle.pl_base.specs.declared.number.EncNo.{EncNo}
use Rattle.pl_base.specs.declared.perms.Perms.{Perms}
use Rattle.pl_base.specs.declared.place.Place.{Place}
use Rattle.mem_tree.specs.Trees.{HasDigests}
use Rattle.mem_geom.specs.Parts.{page_bytes}
use Rattle.mem_geom.specs.PathPlaces.{page_places, replaced_places}
use Rattle.mem_ctl.specs.Results.{is_of_zone}
use Rattle.mem_ctl.specs.Access.{BothStay, IsCollision, IsTampered, Leaves}
use Rattle.mem_ctl.specs.Data.{After, CtlData, Outcome, Again, Collision, Fault, Value, going}
use Rattle.mon_enclave.specs.declared.enclave.Enclave.{Enclave}
use Rattle.mon_enclave.specs.Records.{enclave_at, next_spare, page_number_of, with_enclave, with_own_page}
use Rattle.mon_image.specs.declared.image.Image.{Image}
use Rattle.mon_image.specs.declared.page.ImagePage.{ImagePage}
use Rattle.mon_host.specs.Laws.{mirror_words, places_of}
use Rattle.mon_life.specs.Pages.{leaves_of}
use Rattle.mon_shadow.specs.BreakLaws.{HasCopied, SpareChanges}
use Rattle.mon_shadow.specs.Breaking.{if_put, page_broken, page_copied, page_number_at}
use Rattle.mon_tables.specs.Space.{vpn_of_page}
use Rattle.mon_shadow.proofs.CopyLemmas.{copies_tell}
use Rattle.mon_shadow.proofs.CopyTables.{copies_set_leaf}
use Rattle.mon_fence.specs.Fences.{posted}
use Rattle.mon_life.proofs.TableLemmas.{leaves_count}
use Rattle.mon_tables.specs.declared.number_tables.Leaf.{Leaf}
use Rattle.mon_tables.specs.SpaceWalks.{NumberTables}
use Rattle.mon_tables.specs.Tables.{number_slot, table_number}
use Rattle.mon_tables.specs.Words.{leaf_word}
use Rattle.mon_tables.proofs.LeafSets.{sets_leaf}
use Rattle.pl_history.specs.Licence.{number_pages, number_tables, parent_pages}
use Rattle.pl_history.specs.Monitor.{Monitor, Number, pages_taken}
use Rattle.rv_hart.specs.declared.walks.Micro.{Micro}
use Rattle.world_attack.specs.Room.{RoomStays}
use Rattle.world_machine.specs.declared.under.Under.TheVariants.{Running}
use Rattle.world_machine.specs.Answering.{decided}
use Rattle.world_machine.specs.BytesAgree.{ByteAgrees}
use Rattle.world_machine.specs.EnclavesAgree.{EnclaveStands, IsOwn}
use Rattle.world_machine.specs.LinesUnderWay.{IsAccessed}
use Rattle.world_machine.specs.Making.{image_of}
use Rattle.world_machine.specs.Pages.{numbers_of}
use Rattle.world_machine.specs.PagesAgree.{PagesAre}
use Rattle.world_machine.specs.Running.{RunNow, breaks_done, breaks_or_leaves, breaks_page, faults, perms_at}
use Rattle.world_machine.specs.Standing.{IsAttackedPlace, Kept, state_of, written_page}
use Rattle.world_machine.specs.TablesAgree.{TablesAgree}
use Rattle.world_machine.specs.Worlds.{WorldData, hart_line, under_at}
use Rattle.world_machine.proofs.BreakDone.{broke_kept, own, spare_apart, there_so}
use Rattle.world_machine.proofs.BreakFacts.{need_kept, next_given, shared_inside, shared_number}
use Rattle.world_machine.proofs.Frames.{flat_pages-same}
use Rattle.world_machine.proofs.Licences.{by_replaced, by_word, collision_of, lies_on_path, path_agrees, replaced_is_attacked, table_concerned, tampered_is_attacked, word_is_attacked}
use Rattle.world_machine.proofs.LiveEnclaves.{live_made}
use Rattle.world_machine.proofs.NumberRows.{AllButOneStay, but_changed, held_inside, not_host_tables, own_guard, own_leaves_tables, own_no_table, own_within, table_guard}
use Rattle.world_machine.proofs.PutSteps.{leaves_few}
use Rattle.world_machine.proofs.ReachedPages.{IsToBreak}
use Rattle.world_machine.proofs.RecordPages.{held_concerned}
use Rattle.world_machine.proofs.RowKept.{collision_kept}
use Rattle.world_machine.proofs.RunAccesses.{PagesKeep, access_left, read_kept}
use Rattle.world_machine.proofs.RunMoves.{run_line}
use Rattle.world_machine.proofs.RunOutcomes.{concerned_by}
use Rattle.world_machine.proofs.RunRows.{alone_so, faulted_kept, pages, standing}
use Rattle.world_machine.proofs.SetupFacts.{image_few, image_perms}
use Rattle.world_machine.proofs.TablesReached.{host_tables_stay, number_tables_stay}
use Rattle.world_machine.proofs.TranslationFrames.{few_tables, host_table_inside, live_there, number_table_inside}

-- a checked path of one page of a line's number: its places are the page's, and one that isn't as it was written was attacked
record PathFaults (w : WorldData) (ctl : CtlData) (e : ℕ) (places : List Place) : Type 0 where
  pub page : ℕ
  pub concerned : Contains (number_pages w.setup (state_of w) e) page
  pub on_path : (place : Place) → Contains places place ⊎ (is_of_zone place ≡ false) → Contains (page_places page) place ⊎ (is_of_zone place ≡ false)
  pub attacked : (place : Place) → IsTampered ctl places place → IsAttackedPlace w.setup.zones (state_of w).attacks place

module _ (digest_of : List ℕ → List ℕ) (law : HasDigests digest_of) (room_stays : RoomStays) (w : WorldData) (k : Kept digest_of w) (none : w.collision ≡ None) (hart : ℕ) (below : hart < w.setup.harts)
    (first : Bool) (e : EncNo) (budget count : ℕ) (micro : Micro) (here : hart_line w hart ≡ Some (run_line first e budget)) (under : under_at w.under hart ≡ Running micro count)
    (there : e.0 < length w.enclaves) where
  abbrev s : Monitor
  s = state_of w

  abbrev r : Enclave
  r = enclave_at w.enclaves e.0

  abbrev n : Number
  n = s.number e.0

  abbrev run : RunNow
  run = record { hart = hart; e = e.0; budget = budget; count = count }

  abbrev x : EnclaveStands w.setup (written_page w) w.owners e.0 r n
  x = standing digest_of room_stays w k none hart below first e budget count micro here under there

  abbrev its : PagesAre w.setup s.number r n
  its = pages digest_of room_stays w k none hart below first e budget count micro here under there

  -- ---- a refusal

  module _ (ctl : CtlData) (kept : Kept digest_of (record w { ctl = ctl })) (places : List Place) (path : PathFaults w ctl e.0 places) where
    abbrev left : WorldData
    left = record w { ctl = ctl }

    fault_kept : (place : Place) → IsTampered ctl places place → Kept digest_of (faults run r left place)
    fault_kept place is =
        let at : IsAttackedPlace w.setup.zones s.attacks place = path.attacked place is in
        faulted_kept digest_of room_stays left kept none hart below first e budget count micro here under there place (record {
          exists = at.exists;
          attacked = at.attacked;
          concerned = concerned_by w.setup s first e budget place (lies_on_path (number_pages w.setup s e.0) path.page place path.concerned (path.on_path place is.checked));
        })

    found_kept : (place : Place) (held other : List ℕ) → IsCollision digest_of ctl places place held other
        → Kept digest_of (record left { collision = Some (record { place = place; held = held; written = other }) })
    found_kept place held other is =
        collision_kept digest_of left (record { place = place; held = held; written = other }) kept
        (collision_of digest_of w.setup.zones s.attacks ctl places place held other is (path.attacked place is.tampered))

  module _ (access : Kind) (va index : ℕ) (accessed : IsAccessed x.image.pages (page_bytes w.ctl.mirror) r va access) (at : IsToBreak access x.image.pages r.pages va index)
      (spare : ℕ) (later : List ℕ) (empty : r.spares ≡ spare ∷ later) where
    abbrev now : ℕ
    now = next_spare r

    abbrev slot : ℕ × ℕ
    slot = number_slot w.setup.tables e.0 index

    abbrev leaf : Leaf
    leaf = record { page = now; perms = at.image_page.perms }

    abbrev leaves : List Leaf
    leaves = leaves_of r.pages (image_of w.setup r.image).pages

    own_spare : IsOwn w.owners e.0 now
    own_spare = own digest_of room_stays w k none hart below first e budget count micro here under there access va index accessed at spare later empty

    in_setup : e.0 < w.setup.enclaves
    in_setup = there_so digest_of room_stays w k none hart below first e budget count micro here under there access va index accessed at spare later empty

    n_live : n.live ≡ true
    n_live = (alone_so digest_of room_stays w k none hart below first e budget count micro here under there).n_live

    images_few : length x.image.pages ≤ 256
    images_few = image_few w.setup r.image x.image k.sizes.rules x.image_is

    index_few : index < 256
    index_few = (let inside = slice_get_within x.image.pages index at.image_page at.there in let few = images_few in omega (arith, inside, few))

    -- ---- the three paths

    module _ (ctl : CtlData) (left : Leaves digest_of w.ctl ctl) where
      same_zones : ctl.zones ≡ w.setup.zones
      same_zones = left.same_zones ∙ k.sizes.zones

      nodes : (i : ℕ) → 4096 * (64 * w.setup.zones) ≤ i → ByteAgrees ctl.off_chip ctl.mirror s.attacks i
      nodes i past free = left.still_written i (k.stands.attacks.nodes i past free)

      shared_listed : Contains (numbers_of r.pages) at.page
      shared_listed =
          let is : slice_get (numbers_of r.pages) index ≡ Some at.page
          = shared_number digest_of room_stays w k none hart below first e budget count micro here under there access va index accessed at spare later empty in
          subst (Contains (numbers_of r.pages)) (get_or_from_slice_get (numbers_of r.pages) index at.page 0 is)
          (Contains-get_or (numbers_of r.pages) index 0 (slice_get_within (numbers_of r.pages) index at.page is))

      shared_path : PathFaults w ctl e.0 (page_places at.page)
      shared_path = record {
        page = at.page;
        concerned = held_concerned w.setup s e.0 r its at.page shared_listed;
        on_path = λ place on. on;
        attacked = λ place is. tampered_is_attacked w.setup.zones ctl s.attacks (page_places at.page) place same_zones is
            (path_agrees w.setup.zones ctl s.attacks nodes at.page place is.exists
            (λ i low free. left.still_written (4096 * at.page + i) (k.stands.attacks.made at.page e.0 shared_listed (live_made n n_live) i low free)) is.checked);
      }

      spare_path : PathFaults w ctl e.0 (replaced_places now)
      spare_path = record {
        page = now;
        concerned = Contains-append_right (number_tables w.setup.tables e.0) _ now
            (Contains-append_left (pages_taken n) (parent_pages s n.parent) now (Contains-append_right n.pages n.spares now
            (next_given digest_of room_stays w k none hart below first e budget count micro here under there access va index accessed at spare later empty)));
        on_path = λ place on. by_replaced now place on;
        attacked = λ place is. replaced_is_attacked w.setup.zones ctl s.attacks nodes now place same_zones is;
      }

      leaf_path : PathFaults w ctl e.0 (places_of slot)
      leaf_path = record {
        page = slot.0;
        concerned = table_concerned w.setup s e.0 0 (omega arith);
        on_path = λ place on. by_word slot.0 (slot.1 / 64) place few on;
        attacked = λ place is. word_is_attacked w.setup.zones ctl s.attacks nodes slot.0 (slot.1 / 64) place same_zones few
            (λ i low free. left.still_written (4096 * slot.0 + i) (k.stands.attacks.guarded slot.0 (table_guard digest_of w k e.0 0 in_setup) i low free)) is;
      }
        where
          few : slot.1 / 64 < 64
          few = (let in_image : index < 256 = index_few in omega arith)

      -- the world as it is where all pages stay, and where the spare has changed
      all_stay : BothStay w.ctl ctl → Kept digest_of (record w { ctl = ctl })
      all_stay = read_kept digest_of room_stays w k none hart below first e budget count micro here under there ctl left

      -- where the spare has changed, the number's pages stay, and all tables
      module _ (changed : SpareChanges at.page now w.ctl ctl) where
        abbrev others : AllButOneStay now w.ctl ctl
        others = but_changed now (λ bytes. page_bytes w.ctl.mirror at.page) w.ctl ctl changed

        pages_keep : PagesKeep digest_of room_stays w k none hart below first e budget count micro here under there ctl
        pages_keep image = flat_pages-same (page_bytes w.ctl.mirror) (page_bytes ctl.mirror) image (numbers_of r.pages)
            (recursion_from_All (λ page. page_bytes ctl.mirror page ≡ page_bytes w.ctl.mirror page) (numbers_of r.pages)
            (All-weaker (Contains (numbers_of r.pages)) (λ page. page_bytes ctl.mirror page ≡ page_bytes w.ctl.mirror page)
            (λ page listed. others.mirror page
            (All-contains (λ p. p < 64 * w.ctl.zones) (numbers_of r.pages) page (held_inside digest_of w k e.0 r.parent r.pages x.held.owned) listed)
            (spare_apart digest_of room_stays w k none hart below first e budget count micro here under there access va index accessed at spare later empty page listed))
            (numbers_of r.pages) (All-contains_itself (numbers_of r.pages))))

        no_table : (f level : ℕ) → f < w.setup.enclaves → table_number w.setup.tables f level ≢ now
        no_table f level few same = own_guard digest_of w k e.0 now own_spare (ap (slice_get w.owners) (sym same) ∙ table_guard digest_of w k f level few)

        tables_agree : TablesAgree w.setup ctl (enclave_at w.enclaves) s
        tables_agree = record {
          host = host_tables_stay w.ctl ctl w.setup.tables s.space (few_tables digest_of w k)
              (λ page low. others.mirror page (host_table_inside digest_of w k page low) (not_host_tables digest_of w k e.0 in_setup page now low (inl own_spare)))
              k.stands.translations.tables.host;
          numbers = λ f live. number_tables_stay w.ctl ctl w.setup.tables f _
              (λ level low. others.mirror (table_number w.setup.tables f level) (number_table_inside digest_of w k f level (live_there digest_of w k f live))
              (no_table f level (live_there digest_of w k f live)))
              (k.stands.translations.tables.numbers f live);
        }

        spare_changes : Kept digest_of (record w { ctl = ctl })
        spare_changes = access_left digest_of room_stays w k none hart below first e budget count micro here under there ctl (record {
          leaves = left;
          page = now;
          of_number = inl own_spare;
          stay = others;
          tables = λ level low. own_leaves_tables digest_of w k e.0 in_setup now ctl own_spare others level low;
        }) pages_keep tables_agree

    -- ---- the event

    -- the world after a copy with this outcome
    abbrev after : Outcome (Unit {0}) → CtlData → WorldData
    after outcome ctl = record w {
      ctl = ctl;
      enclaves = if_put outcome (with_enclave w.enclaves e.0 (with_own_page r index)) w.enclaves;
      fences = if_put outcome (posted w.fences hart (space_of_number e) (Some (vpn_of_page index))) w.fences;
    }

    by_outcome : (outcome : Outcome (Unit {0})) (ctl : CtlData) → HasCopied digest_of at.page now slot (leaf_word now at.image_page.perms User) w.ctl outcome ctl
        → NumberTables w.setup.tables e.0 (mirror_words ctl) (if_put outcome (slice_set leaves index leaf) leaves)
        → Kept digest_of (decided (after outcome ctl) (λ done. breaks_done (after outcome ctl) run index) (faults run r (after outcome ctl)) outcome)
    by_outcome (Value done) ctl has tables =
        broke_kept digest_of room_stays w k none hart below first e budget count micro here under there access va index accessed at spare later empty ctl has.leaves
        (leaf_word now at.image_page.perms User) has.tells tables
    by_outcome (Fault place) ctl has tables = elim has.tells.0 [
      | inl (both, is) ↦ fault_kept ctl (all_stay ctl has.leaves both) (page_places at.page) (shared_path ctl has.leaves) place is
      | inr later_path ↦ elim later_path [
        | inl (both, is) ↦ fault_kept ctl (all_stay ctl has.leaves both) (replaced_places now) (spare_path ctl has.leaves) place is
        | inr (changed, is) ↦ fault_kept ctl (spare_changes ctl has.leaves changed) (places_of slot) (leaf_path ctl has.leaves) place is
      ]
    ]
    by_outcome (Collision place held other) ctl has tables = elim has.tells.0 [
      | inl (both, is) ↦ found_kept ctl (all_stay ctl has.leaves both) (page_places at.page) (shared_path ctl has.leaves) place held other is
      | inr later_path ↦ elim later_path [
        | inl (both, is) ↦ found_kept ctl (all_stay ctl has.leaves both) (replaced_places now) (spare_path ctl has.leaves) place held other is
        | inr (changed, is) ↦ found_kept ctl (spare_changes ctl has.leaves changed) (places_of slot) (leaf_path ctl has.leaves) place held other is
      ]
    ]
    by_outcome (Again taken root) ctl has tables = absurd has.tells

    module _ (positions : List ℕ) where
      abbrev copy : After (Unit {0})
      copy = page_copied digest_of w.setup.tables e.0 index at.page now at.image_page.perms (going w.ctl positions)

      guarded : 2 + w.setup.tables + 3 * (e.0 + 1) ≤ 64 * w.ctl.zones
      guarded = (let inside : table_number w.setup.tables e.0 0 < 64 * w.ctl.zones = number_table_inside digest_of w k e.0 0 in_setup in omega arith)

      spare_inside : now < 64 * w.ctl.zones
      spare_inside = own_within digest_of w k e.0 now own_spare

      shared_there : at.page < 64 * w.ctl.zones
      shared_there = shared_inside digest_of room_stays w k none hart below first e budget count micro here under there access va index accessed at spare later empty

      no_own_table : (level : ℕ) → level < 3 → now ≢ table_number w.setup.tables e.0 level
      no_own_table level low same = own_no_table digest_of w k e.0 in_setup level now own_spare (sym same)

      same_image : image_of w.setup r.image ≡ x.image
      same_image = (alone_so digest_of room_stays w k none hart below first e budget count micro here under there).image_is

      in_leaves : index < length leaves
      in_leaves = subst (λ size. index < size) (sym (leaves_count r.pages (image_of w.setup r.image).pages (x.held.count ∙ ap (λ (i : Image). length i.pages) (sym same_image)) ∙ ap (λ (i : Image). length i.pages) same_image))
          (slice_get_within x.image.pages index at.image_page at.there)

      allowed : IsTrue (are_page_perms at.image_page.perms)
      allowed = subst (λ (p : ImagePage). IsTrue (are_page_perms p.perms)) (get_or_from_slice_get x.image.pages index at.image_page at.image_page at.there)
          (All-get_or (λ (p : ImagePage). IsTrue (are_page_perms p.perms)) x.image.pages index at.image_page (slice_get_within x.image.pages index at.image_page at.there)
          (image_perms w.setup r.image x.image k.sizes.rules x.image_is))

      copied : Kept digest_of (decided (after copy.outcome copy.after.ctl) (λ done. breaks_done (after copy.outcome copy.after.ctl) run index) (faults run r (after copy.outcome copy.after.ctl)) copy.outcome)
      copied = by_outcome copy.outcome copy.after.ctl
          (copies_tell digest_of law w.setup.tables e.0 index at.page now at.image_page.perms (going w.ctl positions) k.trees guarded index_few shared_there spare_inside (no_own_table 0 (omega arith)))
          (copies_set_leaf sets_leaf digest_of law w.setup.tables e.0 index at.page now at.image_page.perms (going w.ctl positions) leaves k.trees guarded in_leaves
          (let few = leaves_few r.pages (image_of w.setup r.image).pages in let size : length (image_of w.setup r.image).pages ≤ 256 = subst (λ (i : Image). length i.pages ≤ 256) (sym same_image) images_few in omega (arith, few, size))
          shared_there spare_inside no_own_table allowed (k.stands.translations.tables.numbers e.0 n_live))

      same_page : page_number_at r.pages index ≡ at.page
      same_page = ap (λ kind. option_map_or page_number_of kind 0) at.shared

      same_perms : perms_at w.setup r index ≡ at.image_page.perms
      same_perms =
          ap (λ (i : Image). option_map_or (λ (page : ImagePage). page.perms) (slice_get i.pages index) (record { 0 = 0 })) same_image
          ∙ ap (λ page. option_map_or (λ (p : ImagePage). p.perms) page (record { 0 = 0 })) at.there

      breaks_kept : Kept digest_of (breaks_page digest_of w run r positions index).world
      unfolding page_broken
      breaks_kept = subst
          (λ (p : ℕ × Perms). let c : After (Unit {0}) = page_copied digest_of w.setup.tables e.0 index p.0 now p.1 (going w.ctl positions) in
          Kept digest_of (decided (after c.outcome c.after.ctl) (λ done. breaks_done (after c.outcome c.after.ctl) run index) (faults run r (after c.outcome c.after.ctl)) c.outcome))
          (λ i. (sym same_page i, sym same_perms i)) copied

  module _ (positions : List ℕ) (access : Kind) (va index : ℕ) (accessed : IsAccessed x.image.pages (page_bytes w.ctl.mirror) r va access) (at : IsToBreak access x.image.pages r.pages va index) where
    by_spares : (spares : List ℕ) → r.spares ≡ spares → Kept digest_of (breaks_or_leaves digest_of w run r positions index spares).world
    by_spares [] empty = need_kept digest_of room_stays w k none hart below first e budget count micro here under there access va index accessed at empty
    by_spares (spare ∷ later) left = breaks_kept access va index accessed at spare later left positions

    -- a store to a page that is shared keeps what a world keeps
    pub break_kept : Kept digest_of (breaks_or_leaves digest_of w run r positions index r.spares).world
    break_kept = by_spares r.spares refl
