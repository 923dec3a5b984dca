-- What the copy of a page leaves and tells.
use Rattle.std.proofs.Common.{ℕ, ◌≡◌, ◌≢◌, ◌+◌, ◌-◌, ◌*◌, ◌/◌, ◌%◌, ◌<◌, ◌≤◌, ◌==◌, cond, List, [], ◌∷◌, ◌++◌, All, length, get_or, slice_get, drop, true, refl, ap, subst, sym, ◌∙◌, arith, inl, inr, false, length-drop}
use Rattle.std.proofs.lemmas.Bool.{cases_Bool, cond-false, cond-true, eqb-true}
use Rattle.std.proofs.lemmas.Bool.Decides.{nat_tests}
use Rattle.std.proofs.lemmas.List.{append-nil, append_assoc, length-take-le, same_lists}
use Rattle.std.proofs.lemmas.List.Elements.{All-append, All-cons, All-nil}
use Rattle.std.proofs.lemmas.Option.{slice_get-get_or}
use Rattle.byteorder.specs.Endian.{little_bytes}
use Rattle.pl_base.specs.Bytes.{with_bytes}
use Rattle.pl_base.specs.declared.access.Mode.TheVariants.{User}
use Rattle.pl_base.specs.declared.perms.Perms.{Perms}
use Rattle.pl_base.specs.declared.place.Place.{Place}
use Rattle.pl_base.specs.declared.place.Place.TheVariants.{Node}
use Rattle.mem_geom.specs.Layout.{Exists, memory_size, place_bytes, place_length, place_start}
use Rattle.mem_geom.specs.Parts.{page_bytes}
use Rattle.mem_geom.specs.PathPlaces.{page_places, replaced_places}
use Rattle.mem_geom.proofs.Places.{stands_inside}
use Rattle.mem_tree.specs.Changes.{IsOfZone}
use Rattle.mem_tree.specs.Trees.{HasDigests}
use Rattle.mem_ctl.specs.Access.{IsCollision, IsTampered, Accessed, AllAsWritten, BothChange, BothStay, IfValue, Leaves}
use Rattle.mem_ctl.specs.Calls.{get_page_of, put_page_of, write_part_of}
use Rattle.mem_ctl.specs.Data.{CtlData, Going, Outcome, Value, Fault, Collision, Again, After, and_then, go_on}
use Rattle.mem_ctl.specs.Laws.{PageIsRead}
use Rattle.mem_ctl.specs.Mounting.{taken, written}
use Rattle.mem_ctl.specs.Results.{is_of_zone}
use Rattle.mem_ctl.specs.TreesHold.{IsKept}
use Rattle.mem_ctl.specs.WrittenPages.{ChangesPage, KeepsPages}
use Rattle.mem_ctl.proofs.AccessLaws.{page_reads_tell, page_writes_tell, writes_tell}
use Rattle.mem_ctl.proofs.Agreement.{slice_get-bytes_at}
use Rattle.mem_ctl.proofs.PageParts.{zone_place-stays}
use Rattle.mem_ctl.proofs.RootLemmas.{length-place}
use Rattle.mem_ctl.proofs.ZoneLemmas.{of_zone-exists, page-of_zone, replaced-of_zone, word-of_zone}
use Rattle.mon_host.specs.Laws.{WordChanges, places_of}
use Rattle.mon_host.proofs.WordLemmas.{BothChange-after, BothStay-then, Leaves-then}
use Rattle.mon_tables.proofs.Mappings.{same_Some}
use Rattle.mon_tables.specs.Tables.{number_slot, table_number}
use Rattle.mon_tables.specs.Words.{leaf_word}
use Rattle.mon_shadow.proofs.CopyPaths.{collision_of_whole, tampered_of_whole}
use Rattle.mon_shadow.specs.Breaking.{page_copied}
use Rattle.mon_shadow.specs.BreakLaws.{CopiesTell, copied_places, HasCopied, SpareChanges}

-- ---- two changes of pages, and a change that stays

-- one page is replaced, and then another is changed from its own bytes
two_changes : (zones there_zones spare table : ℕ) (bytes : List ℕ) (change : List ℕ → List ℕ) (old between new : List ℕ) → there_zones ≡ zones → table < 64 * zones → spare ≢ table
    → ChangesPage zones spare bytes old between → ChangesPage there_zones table (change (page_bytes between table)) between new
    → (page : ℕ) → page < 64 * zones → page_bytes new page ≡ cond (page == spare) bytes (cond (page == table) (change (page_bytes old table)) (page_bytes old page))
two_changes zones there_zones spare table bytes change old between new same there apart first second page below =
    let last : page_bytes new page ≡ cond (page == table) (change (page_bytes between table)) (page_bytes between page) = second page (omega arith) in
    last ∙ (elim (cases_Bool (page == table)) [
      | inl here ↦
          let is : page ≡ table = eqb-true page table here in
          let no : (page == spare) ≡ false = grind (arith, nat_tests) in
          let own : (table == spare) ≡ false = grind (arith, nat_tests) in
          cond-true _ _ _ here ∙ ap change (first table there ∙ cond-false _ _ _ own) ∙ sym (cond-false _ _ _ no ∙ cond-true _ _ _ here)
      | inr other ↦ cond-false _ _ _ other ∙ first page below ∙ ap (λ (rest : List ℕ). cond (page == spare) bytes rest) (sym (cond-false _ _ _ other))
    ])

-- one page is changed, and then all stay
change_then_stay : (zones there_zones page : ℕ) (bytes : List ℕ) (old between new : List ℕ) → there_zones ≡ zones → ChangesPage zones page bytes old between → KeepsPages there_zones between new
    → ChangesPage zones page bytes old new
change_then_stay zones there_zones page bytes old between new same first second other below = second other (omega arith) ∙ first other below

-- ---- a place that stands as it was written still does

module _ (d : List ℕ → List ℕ) (x y : CtlData) (kept : IsKept d x) (leaves : Leaves d x y) (place : Place) (exists : Exists x.zones place) (stood : taken x place ≡ written x place) where
  abbrev at : ℕ
  at = place_start x.zones place - 0x80000000

  inside : at + place_length place ≤ memory_size x.zones
  inside = let there = stands_inside x.zones place exists in omega (arith, there.0, there.1)

  still_as_written : taken y place ≡ written y place
  still_as_written =
      let sizes = leaves.kept.trees.sizes in
      let off_chip_size : length y.off_chip ≡ memory_size x.zones = sizes.off_chip_size ∙ ap memory_size leaves.same_zones in
      let mirror_size : length y.mirror ≡ memory_size x.zones = sizes.mirror_size ∙ ap memory_size leaves.same_zones in
      let held : List ℕ = place_bytes x.zones y.off_chip place in
      let other : List ℕ = place_bytes x.zones y.mirror place in
      let held_size : length held ≡ place_length place = length-place x.zones y.off_chip place exists off_chip_size in
      let other_size : length other ≡ place_length place = length-place x.zones y.mirror place exists mirror_size in
      let same : held ≡ other =
      same_lists held other (held_size ∙ sym other_size)
      (λ k e below.
      let small : k < place_length place = omega (arith, held_size) in
      let was : slice_get x.off_chip (at + k) ≡ slice_get x.mirror (at + k) =
      sym (slice_get-bytes_at x.off_chip at (place_length place) k small (omega (arith, inside, kept.trees.sizes.off_chip_size)))
      ∙ ap (λ (bytes : List ℕ). slice_get bytes k) stood ∙ slice_get-bytes_at x.mirror at (place_length place) k small (omega (arith, inside, kept.trees.sizes.mirror_size)) in
      let now : slice_get held k ≡ slice_get other k =
      slice_get-bytes_at y.off_chip at (place_length place) k small (omega (arith, inside, off_chip_size)) ∙ leaves.still_written (at + k) was
      ∙ sym (slice_get-bytes_at y.mirror at (place_length place) k small (omega (arith, inside, mirror_size))) in
      same_Some _ _ (sym (slice_get-get_or held k e below) ∙ now ∙ slice_get-get_or other k e (omega (arith, held_size, other_size)))) in
      ap (λ n. place_bytes n y.off_chip place) leaves.same_zones ∙ same ∙ sym (ap (λ n. place_bytes n y.mirror place) leaves.same_zones)

-- so does each place of a path
path-still : (d : List ℕ → List ℕ) (x y : CtlData) (page : ℕ) (places : List Place) → page < 64 * x.zones → All (IsOfZone (page / 64)) places → IsKept d x → Leaves d x y → AllAsWritten x places → AllAsWritten y places
path-still d x y page places there of_zone kept leaves stood = λ i e h.
    still_as_written d x y kept leaves (get_or places i e) (of_zone-exists x.zones (page / 64) (omega arith) _ (of_zone i e h)) (stood i e h)

-- the nodes above a page stood before a step that kept all below the root table
replaced-stood : (x y : CtlData) (page : ℕ) → page < 64 * x.zones → y.zones ≡ x.zones → BothStay x y → AllAsWritten y (replaced_places page) → AllAsWritten x (replaced_places page)
replaced-stood x y page there zones stay stood =
    let P : Place → Type 0 = λ place. taken x place ≡ written x place in
    let n4 : Place = Node 4 (page / 64) 0 in
    let n3 : Place = Node 3 (page / 64) (page % 64 / 8) in
    let back = λ (place : Place) (exists : Exists x.zones place) (of : is_of_zone place ≡ true) (now : taken y place ≡ written y place).
    sym (zone_place-stays x.zones x.off_chip y.off_chip place stay.off_chip_zones exists of) ∙ ap (λ n. place_bytes n y.off_chip place) (sym zones) ∙ now
    ∙ ap (λ n. place_bytes n y.mirror place) zones ∙ zone_place-stays x.zones x.mirror y.mirror place stay.mirror_zones exists of in
    All-cons P n4 (n3 ∷ []) (back n4 (omega arith, omega arith) refl (stood 0 n4 (omega arith)))
    (All-cons P n3 [] (back n3 (omega arith, omega arith) refl (stood 1 n4 (omega arith))) (All-nil P))

-- a page has 4,096 bytes
page_size : (memory : List ℕ) (zones page : ℕ) → length memory ≡ memory_size zones → page < 64 * zones → length (page_bytes memory page) ≡ 4096
page_size memory zones page sized there = length-take-le 4096 (drop (4096 * page) memory) (omega (arith, length-drop (4096 * page) memory))

-- ---- the three accesses

-- the spare is written, and then the leaf's word
pub record CopySteps (shared spare : ℕ) (slot : ℕ × ℕ) (word : ℕ) (old new : CtlData) : Type 0 where
  pub between : CtlData
  pub between_zones : between.zones ≡ old.zones
  pub sized : length between.mirror ≡ memory_size between.zones
  pub spare_now : SpareChanges shared spare old between
  pub leaf_now : WordChanges slot word between new

module _ (d : List ℕ → List ℕ) (law : HasDigests d) (shared spare : ℕ) (slot : ℕ × ℕ) (word : ℕ) (x : CtlData) (kept : IsKept d x) (shared_there : shared < 64 * x.zones) (spare_there : spare < 64 * x.zones)
    (table_there : slot.0 < 64 * x.zones) (in_page : slot.1 < 4096) (aligned : slot.1 % 8 ≡ 0) (apart : spare ≢ slot.0) where
  abbrev put_in : List ℕ → List ℕ
  put_in bytes = with_bytes bytes slot.1 (little_bytes 8 word)

  abbrev Told : Outcome (Unit {0}) → CtlData → Type 0
  Told o w = HasCopied d shared spare slot word x o w × IfValue o (CopySteps shared spare slot word x w)

  abbrev IsRead : List ℕ → CtlData → Type 0
  IsRead bytes y = Accessed d (page_places shared) (PageIsRead shared x y) x (Value bytes) y

  abbrev IsPut : List ℕ → CtlData → Outcome (Unit {0}) → CtlData → Type 0
  IsPut bytes y o z = Accessed d (replaced_places spare) (λ _. BothChange spare (λ _. bytes) y z) y o z

  abbrev IsSet : CtlData → Outcome (Unit {0}) → CtlData → Type 0
  IsSet z o w = Accessed d (places_of slot) (λ _. BothChange slot.0 put_in z w) z o w

  abbrev shared_path : List Place
  shared_path = page_places shared

  abbrev above : List Place
  above = replaced_places spare

  abbrev leaf_path : List Place
  leaf_path = places_of slot

  joined : (shared_path ++ above) ++ (leaf_path ++ []) ≡ copied_places shared spare slot
  joined = append_assoc shared_path above (leaf_path ++ []) ∙ ap (λ rest. shared_path ++ (above ++ rest)) (append-nil leaf_path)

  module _ (bytes : List ℕ) (y : CtlData) (read : IsRead bytes y) where
    shared_stands : (w : CtlData) → Leaves d x w → AllAsWritten w shared_path
    shared_stands w leaves = path-still d x w shared shared_path shared_there (page-of_zone shared) kept leaves read.whole

    -- the page is read, and put
    module _ (u : Unit {0}) (z : CtlData) (put : IsPut bytes y (Value u) z) where
      zones_now : z.zones ≡ x.zones
      zones_now = put.leaves.same_zones ∙ read.leaves.same_zones

      leaves_now : Leaves d x z
      leaves_now = Leaves-then d x y z read.leaves put.leaves

      spare_changed : SpareChanges shared spare x z
      spare_changed =
          subst (λ (b : List ℕ). BothChange spare (λ _. b) x z) read.tells.as_written
          (BothChange-after x y z spare (λ _. bytes) read.leaves.same_zones spare_there read.tells.pages put.tells)

      -- the first two paths stand after the third access too
      first_two : (w : CtlData) → Leaves d z w → AllAsWritten w (shared_path ++ above)
      first_two w leaves =
          All-append (λ p. taken w p ≡ written w p) shared_path above (shared_stands w (Leaves-then d x z w leaves_now leaves))
          (path-still d y w spare above (omega (arith, read.leaves.same_zones)) (replaced-of_zone spare) read.leaves.kept (Leaves-then d y z w put.leaves leaves) put.whole)

      still_changed : (w : CtlData) → BothStay z w → SpareChanges shared spare x w
      still_changed w stay = record {
        off_chip_pages = change_then_stay x.zones z.zones spare (page_bytes x.mirror shared) x.off_chip z.off_chip w.off_chip zones_now spare_changed.off_chip_pages stay.off_chip_pages;
        mirror_pages = change_then_stay x.zones z.zones spare (page_bytes x.mirror shared) x.mirror z.mirror w.mirror zones_now spare_changed.mirror_pages stay.mirror_pages;
      }

      set_told : (o : Outcome (Unit {0})) (w : CtlData) → IsSet z o w → Told o w
      set_told (Value done) w set = (
        record {
          leaves = Leaves-then d x z w leaves_now set.leaves;
          whole = record {
            first_stood = All-append (λ p. taken x p ≡ written x p) shared_path above read.whole (replaced-stood x y spare spare_there read.leaves.same_zones read.tells.pages put.whole);
            all_stand = subst (AllAsWritten w) (append_assoc shared_path above leaf_path)
                (All-append (λ p. taken w p ≡ written w p) (shared_path ++ above) leaf_path (first_two w set.leaves)
                (path-still d z w slot.0 leaf_path (omega (arith, zones_now)) (word-of_zone slot.0 (slot.1 / 64) (omega arith)) put.leaves.kept set.leaves set.whole));
          };
          tells = record {
            as_held = sym read.tells.as_held ∙ read.tells.as_written;
            off_chip_pages = two_changes x.zones z.zones spare slot.0 (page_bytes x.mirror shared) put_in x.off_chip z.off_chip w.off_chip zones_now table_there apart spare_changed.off_chip_pages set.tells.off_chip_pages;
            mirror_pages = two_changes x.zones z.zones spare slot.0 (page_bytes x.mirror shared) put_in x.mirror z.mirror w.mirror zones_now table_there apart spare_changed.mirror_pages set.tells.mirror_pages;
          };
        },
        record { between = z; between_zones = zones_now; sized = put.leaves.kept.trees.sizes.mirror_size; spare_now = spare_changed; leaf_now = set.tells },
      )
      set_told (Fault place) w set = (
        record {
          leaves = Leaves-then d x z w leaves_now set.leaves;
          whole = tt;
          tells = (
            inr (inr (still_changed w set.tells.0, set.tells.1)),
            subst (λ places. IsTampered w places place) joined (tampered_of_whole w (shared_path ++ above) leaf_path [] place (first_two w set.leaves) set.tells.1),
          );
        },
        tt,
      )
      set_told (Collision place held other) w set = (
        record {
          leaves = Leaves-then d x z w leaves_now set.leaves;
          whole = tt;
          tells = (
            inr (inr (still_changed w set.tells.0, set.tells.1)),
            subst (λ places. IsCollision d w places place held other) joined (collision_of_whole w (shared_path ++ above) leaf_path [] place (first_two w set.leaves) d held other set.tells.1),
          );
        },
        tt,
      )
      set_told (Again taken_root root) w set = absurd set.tells

    abbrev leaf_set : Unit {0} → Going → After (Unit {0})
    leaf_set done k = write_part_of d slot.0 slot.1 8 word k

    put_told : (o : Outcome (Unit {0})) (k : Going) → IsPut bytes y o k.ctl → let r = go_on o k leaf_set in Told r.outcome r.after.ctl
    put_told (Value u) k put =
        let set : After (Unit {0}) = write_part_of d slot.0 slot.1 8 word k in
        set_told u k.ctl put set.outcome set.after.ctl
        (writes_tell d law slot.0 slot.1 8 word k put.leaves.kept (omega (arith, zones_now u k.ctl put)) in_page refl aligned)
    put_told (Fault place) k put = (
      record {
        leaves = Leaves-then d x y k.ctl read.leaves put.leaves;
        whole = tt;
        tells = (
          inr (inl (BothStay-then x y k.ctl read.leaves.same_zones read.tells.pages put.tells.0, put.tells.1)),
          tampered_of_whole k.ctl shared_path above leaf_path place (shared_stands k.ctl (Leaves-then d x y k.ctl read.leaves put.leaves)) put.tells.1,
        );
      },
      tt,
    )
    put_told (Collision place held other) k put = (
      record {
        leaves = Leaves-then d x y k.ctl read.leaves put.leaves;
        whole = tt;
        tells = (
          inr (inl (BothStay-then x y k.ctl read.leaves.same_zones read.tells.pages put.tells.0, put.tells.1)),
          collision_of_whole k.ctl shared_path above leaf_path place (shared_stands k.ctl (Leaves-then d x y k.ctl read.leaves put.leaves)) d held other put.tells.1,
        );
      },
      tt,
    )
    put_told (Again taken_root root) k put = absurd put.tells

  abbrev put_then : List ℕ → Going → After (Unit {0})
  put_then bytes h = and_then (put_page_of d spare bytes h) (λ done k. write_part_of d slot.0 slot.1 8 word k)

  read_told : (o : Outcome (List ℕ)) (h : Going) → Accessed d (page_places shared) (PageIsRead shared x h.ctl) x o h.ctl → let r = go_on o h put_then in Told r.outcome r.after.ctl
  read_told (Value bytes) h read =
      let put : After (Unit {0}) = put_page_of d spare bytes h in
      let size : length bytes ≡ 4096 = ap length read.tells.as_written ∙ page_size x.mirror x.zones shared kept.trees.sizes.mirror_size shared_there in
      put_told bytes h.ctl read put.outcome put.after (page_writes_tell d law spare bytes h read.leaves.kept (omega (arith, read.leaves.same_zones)) size)
  read_told (Fault place) h read =
      (record { leaves = read.leaves; whole = tt; tells = (inl read.tells, tampered_of_whole h.ctl [] shared_path (above ++ leaf_path) place (All-nil _) read.tells.1) }, tt)
  read_told (Collision place held other) h read =
      (record { leaves = read.leaves; whole = tt; tells = (inl read.tells, collision_of_whole h.ctl [] shared_path (above ++ leaf_path) place (All-nil _) d held other read.tells.1) }, tt)
  read_told (Again taken_root root) h read = absurd read.tells

module _ (d : List ℕ → List ℕ) (law : HasDigests d) (tables e index shared spare : ℕ) (perms : Perms) (g : Going) (kept : IsKept d g.ctl) (guarded : 2 + tables + 3 * (e + 1) ≤ 64 * g.ctl.zones)
    (in_image : index < 256) (shared_there : shared < 64 * g.ctl.zones) (spare_there : spare < 64 * g.ctl.zones) (apart : spare ≢ table_number tables e 0) where
  abbrev copy : After (Unit {0})
  copy = page_copied d tables e index shared spare perms g

  pub copy_told : HasCopied d shared spare (number_slot tables e index) (leaf_word spare perms User) g.ctl copy.outcome copy.after.ctl
      × IfValue copy.outcome (CopySteps shared spare (number_slot tables e index) (leaf_word spare perms User) g.ctl copy.after.ctl)
  unfolding page_copied
  copy_told =
      let read : After (List ℕ) = get_page_of d shared g in
      read_told d law shared spare (number_slot tables e index) (leaf_word spare perms User) g.ctl kept shared_there spare_there (omega arith) (omega arith) (omega arith) apart read.outcome read.after
      (page_reads_tell d law shared g kept shared_there)

pub copies_tell : (d : List ℕ → List ℕ) → HasDigests d → CopiesTell d
copies_tell d law tables e index shared spare perms g kept guarded in_image shared_there spare_there apart =
    (copy_told d law tables e index shared spare perms g kept guarded in_image shared_there spare_there apart).0
