-- Every access keeps the trees, and answers from a controller whose zone is mounted.
use Rattle.std.proofs.Common.{◌≡◌, ℕ, ◌*◌, ◌/◌, ◌<◌, ◌≤◌, Bool, true, false, cond, List, length, get_or, refl, subst, sym, ap, ◌∙◌, arith}
use Rattle.std.specs.Prelude.{All, nat_lt, slice_index_or}
use mathlib.Core.Logic.{inl}
use Rattle.std.proofs.lemmas.Bool.{ltb-true, ltb-false}
use Rattle.std.proofs.lemmas.List.Edits.{length-remove}
use Rattle.std.proofs.lemmas.List.Elements.{All-map}
use Rattle.pl_base.specs.declared.place.Place.{Place}
use Rattle.pl_digest.specs.Trees.{zone_root}
use Rattle.mem_slots.specs.Slots.{Slot, is_mounted, slot_at, used_slot}
use Rattle.mem_geom.specs.Layout.{memory_size, place_bytes}
use Rattle.mem_geom.specs.PathPlaces.{page_places, replaced_places, word_places}
use Rattle.mem_tree.specs.Changes.{IsOfZone}
use Rattle.mem_tree.specs.Checks.{Checked, IsWrittenPath, Tells, Holds as AllHold, Fault as BreaksAt, Collision as CollidesAt}
use Rattle.mem_tree.specs.Paths.{path_of}
use Rattle.mem_tree.proofs.Differences.{checks_tell}
use Rattle.mem_ctl.specs.Access.{IsCollision, IsTampered}
use Rattle.mem_ctl.specs.Calls.{accessed, slot_root, zone_check}
use Rattle.mem_ctl.specs.Data.{CtlData, Going, Outcome, Value, Fault, Collision, Again, After, answer, and_then, go_on, if_holds}
use Rattle.mem_ctl.specs.Mounting.{asked, count_use, evicted, evicted_at, mounted_anew, mounted_for, mounted_last, position_of, root_check, taken, written, written_back}
use Rattle.mem_ctl.specs.TreesHold.{NodesHold, TreesHold}
use Rattle.mem_ctl.specs.Writes.{zone_pages}
use Rattle.mem_ctl.proofs.MountLemmas.{Keeps, Keeps-refl, Keeps-then, evicted_at-keeps, mounted_last-keeps}
use Rattle.mem_ctl.proofs.SlotLemmas.{SlotsFit-map, is_mounted-map, is_mounted-pushed, none_of_removed, root_found, used_slot-root, used_slot-zone}
use Rattle.mem_ctl.proofs.Refusals.{OrBroken, OrRefused, first_of, root_why, why_broken}
use Rattle.mem_ctl.proofs.ZoneLemmas.{of_zone-exists, page-of_zone, page_path-written, replaced-of_zone, replaced_path-written, word-of_zone, word_path-written}

-- where there are slots and all are full, an eviction takes a position in the list
in_list : (k n : ℕ) (b : Bool) → nat_lt k n ≡ b → 0 < n → cond b k 0 < n
in_list k n true is some = ltb-true k n is
in_list k n false is some = some

position_fits : (g : Going) → 1 ≤ g.ctl.slots → nat_lt (length g.ctl.mounted) g.ctl.slots ≡ false → position_of g < length g.ctl.mounted
position_fits g some full =
    in_list (slice_index_or g.left 0 0) (length g.ctl.mounted) (nat_lt (slice_index_or g.left 0 0) (length g.ctl.mounted)) refl (omega (arith, ltb-false (length g.ctl.mounted) g.ctl.slots full))

module _ (d : List ℕ → List ℕ) (law : (m : List ℕ) → length (d m) ≡ 32) where
  -- ---- mounting

  module _ (places : List Place) where
    -- what a mounting leaves, and that the zone is mounted, or why not
    pub record Mounts (zone : ℕ) (x : CtlData) (r : After (Unit {0})) : Type 0 where
      pub keeps : Keeps d x r.after.ctl
      pub mounted : OrRefused d places r.after.ctl r.outcome (is_mounted r.after.ctl.mounted zone ≡ true)

    Mounts-from : (zone : ℕ) (x y : CtlData) (r : After (Unit {0})) → Keeps d x y → Mounts zone y r → Mounts zone x r
    Mounts-from zone x y r k m = record { keeps = Keeps-then d x y r.after.ctl k m.keeps; mounted = m.mounted }

    anew : (zone : ℕ) (g : Going) → TreesHold d g.ctl → zone < g.ctl.zones → length g.ctl.mounted < g.ctl.slots → is_mounted g.ctl.mounted zone ≡ false
        → (c : Checked) → root_check d g.ctl zone ≡ c → OrBroken d places g.ctl c → Mounts zone g.ctl (if_holds c g (answer tt (record g { ctl = mounted_last g.ctl zone })))
    unfolding mounted_last
    anew zone g trees there room none AllHold is why = record {
      keeps = mounted_last-keeps d law g.ctl zone trees there room none is;
      mounted = is_mounted-pushed g.ctl.mounted _;
    }
    anew zone g trees there room none (BreaksAt p) is why = record { keeps = Keeps-refl d g.ctl trees; mounted = why }
    anew zone g trees there room none (CollidesAt p a b) is why = record { keeps = Keeps-refl d g.ctl trees; mounted = why }

    mounted_anew-says : (zone : ℕ) (g : Going) → TreesHold d g.ctl → zone < g.ctl.zones → length g.ctl.mounted < g.ctl.slots → is_mounted g.ctl.mounted zone ≡ false → Mounts zone g.ctl (mounted_anew d zone g)
    unfolding mounted_anew
    mounted_anew-says zone g trees there room none =
        anew zone g trees there room none (root_check d g.ctl zone) refl (root_why d g.ctl trees zone there places (root_check d g.ctl zone) refl)

    evicted-room : (x : CtlData) (k : ℕ) → TreesHold d x → k < length x.mounted → length (evicted_at d x k).mounted < (evicted_at d x k).slots
    unfolding evicted_at written_back
    evicted-room x k trees there = omega (arith, length-remove x.mounted k there, trees.fit.most)

    evicted-none : (x : CtlData) (k zone : ℕ) → is_mounted x.mounted zone ≡ false → is_mounted (evicted_at d x k).mounted zone ≡ false
    unfolding evicted_at
    evicted-none x k zone none = none_of_removed x.mounted k zone none

    by_cases : (zone : ℕ) (g : Going) → TreesHold d g.ctl → (already room : Bool) (mounts evicts : After (Unit {0})) → (already ≡ true → is_mounted g.ctl.mounted zone ≡ true)
        → (already ≡ false → room ≡ true → Mounts zone g.ctl mounts) → (already ≡ false → room ≡ false → Mounts zone g.ctl evicts)
        → Mounts zone g.ctl (cond already (answer tt g) (cond room mounts evicts))
    by_cases zone g trees true room mounts evicts is first second = record { keeps = Keeps-refl d g.ctl trees; mounted = is refl }
    by_cases zone g trees false true mounts evicts is first second = first refl refl
    by_cases zone g trees false false mounts evicts is first second = second refl refl

    -- an eviction, and the mounting after it
    after_eviction : (zone : ℕ) (g : Going) → TreesHold d g.ctl → zone < g.ctl.zones → position_of g < length g.ctl.mounted → is_mounted g.ctl.mounted zone ≡ false
        → (c : Checked) → root_check d g.ctl (slot_at g.ctl.mounted (position_of g)).zone ≡ c → OrBroken d places g.ctl c
        → Mounts zone g.ctl (and_then (if_holds c (asked g) (answer {A = Unit {0}} tt (record (asked g) { ctl = evicted_at d g.ctl (position_of g) }))) (λ _ h. mounted_anew d zone h))
    after_eviction zone g trees there fits none (BreaksAt p) is why = record { keeps = Keeps-refl d g.ctl trees; mounted = why }
    after_eviction zone g trees there fits none (CollidesAt p a b) is why = record { keeps = Keeps-refl d g.ctl trees; mounted = why }
    after_eviction zone g trees there fits none AllHold is why =
        let k : ℕ = position_of g in
        let y : CtlData = evicted_at d g.ctl k in
        let h : Going = record (asked g) { ctl = y } in
        let kept = evicted_at-keeps d law g.ctl trees k fits is in
        Mounts-from zone g.ctl y (mounted_anew d zone h) kept
        (mounted_anew-says zone h kept.trees (omega (arith, kept.zones_kept)) (evicted-room g.ctl k trees fits) (evicted-none g.ctl k zone none))

    pub mounted_for-says : (zone : ℕ) (g : Going) → TreesHold d g.ctl → zone < g.ctl.zones → 1 ≤ g.ctl.slots → Mounts zone g.ctl (mounted_for d zone g)
    unfolding mounted_for evicted
    mounted_for-says zone g trees there fits =
        let out : ℕ = (slot_at g.ctl.mounted (position_of g)).zone in
        by_cases zone g trees (is_mounted g.ctl.mounted zone) (nat_lt (length g.ctl.mounted) g.ctl.slots) (mounted_anew d zone g)
        (and_then (if_holds (root_check d g.ctl (slot_at g.ctl.mounted (position_of g)).zone) (asked g) (answer {A = Unit {0}} tt (record (asked g) { ctl = evicted_at d g.ctl (position_of g) }))) (λ _ h. mounted_anew d zone h))
        (λ already. already)
        (λ none room. mounted_anew-says zone g trees there (ltb-true (length g.ctl.mounted) g.ctl.slots room) none)
        (λ none full.
        let k = position_fits g fits full in
        after_eviction zone g trees there k none (root_check d g.ctl out) refl (root_why d g.ctl trees out (trees.fit.there (position_of g) _ k) places (root_check d g.ctl out) refl))

  -- ---- one use more

  pub count_use-keeps : (zone : ℕ) (g : Going) → TreesHold d g.ctl → Keeps d g.ctl (count_use zone g).ctl
  count_use-keeps zone g trees =
      let f : Slot → Slot = used_slot zone in
      let x : CtlData = g.ctl in
      record {
        trees = record {
          sizes = trees.sizes;
          fit = SlotsFit-map f (used_slot-zone zone) x.zones x.slots x.mounted trees.fit;
          nodes = trees.nodes;
          slots_hold = All-map (λ (s : Slot). s.root ≡ zone_root d (zone_pages x.mirror s.zone)) f x.mounted
              (λ k e h. let s : Slot = get_or x.mounted k e in used_slot-root zone s ∙ trees.slots_hold k e h ∙ ap (λ (z : ℕ). zone_root d (zone_pages x.mirror z)) (sym (used_slot-zone zone s)));
          entries = λ other below none. trees.entries other below (sym (is_mounted-map f (used_slot-zone zone) x.mounted other) ∙ none);
          top = trees.top;
          chip = trees.chip;
        };
        zones_kept = refl;
        slots_kept = refl;
        pages_kept = λ z h. refl;
        held_kept = λ z h. refl;
        off_chip_front = refl;
        mirror_front = refl;
        agree = λ k same. same;
      }

  -- ---- an access

  -- a path in the zone of a page, which holds in the mirror under the zone's root
  pub record IsPathIn (page : ℕ) (places : List Place) : Type 0 where
    pub of_zone : All (IsOfZone (page / 64)) places
    pub is_written : (zones : ℕ) (mirror : List ℕ) → length mirror ≡ memory_size zones → NodesHold d zones mirror → page < 64 * zones → (root : List ℕ) → root ≡ zone_root d (zone_pages mirror (page / 64))
        → (off_chip : List ℕ) → IsWrittenPath d (path_of root places (place_bytes zones off_chip)) (place_bytes zones mirror)

  pub word_path-in : (page b : ℕ) → b < 64 → IsPathIn page (word_places page b)
  word_path-in page b below = record {
    of_zone = word-of_zone page b below;
    is_written = λ zones mirror size nodes there root is off_chip. word_path-written d law zones mirror size nodes page there root is off_chip b below;
  }

  pub page_path-in : (page : ℕ) → IsPathIn page (page_places page)
  page_path-in page = record {
    of_zone = page-of_zone page;
    is_written = λ zones mirror size nodes there root is off_chip. page_path-written d law zones mirror size nodes page there root is off_chip;
  }

  pub replaced_path-in : (page : ℕ) → IsPathIn page (replaced_places page)
  replaced_path-in page = record {
    of_zone = replaced-of_zone page;
    is_written = λ zones mirror size nodes there root is off_chip. replaced_path-written d law zones mirror size nodes page there root is off_chip;
  }

  -- what the check of such a path tells
  pub zone_written : (x : CtlData) (page : ℕ) (places : List Place) → IsPathIn page places → TreesHold d x → page < 64 * x.zones → is_mounted x.mounted (page / 64) ≡ true
      → IsWrittenPath d (path_of (slot_root x (page / 64)) places (taken x)) (written x)
  zone_written x page places path trees there mounted =
      path.is_written x.zones x.mirror trees.sizes.mirror_size trees.nodes there (slot_root x (page / 64)) (root_found (λ (z : ℕ). zone_root d (zone_pages x.mirror z)) x.mounted (page / 64) trees.slots_hold mounted) x.off_chip

  pub zone_tells : (x : CtlData) (page : ℕ) (places : List Place) → IsPathIn page places → TreesHold d x → page < 64 * x.zones → is_mounted x.mounted (page / 64) ≡ true → (c : Checked) → zone_check d x (page / 64) places ≡ c
      → Tells d (path_of (slot_root x (page / 64)) places (taken x)) (written x) c
  zone_tells x page places path trees there mounted c is =
      let root : List ℕ = slot_root x (page / 64) in
      subst (Tells d (path_of root places (taken x)) (written x)) is (checks_tell d (path_of root places (taken x)) (written x) (zone_written x page places path trees there mounted))

  -- and why it doesn't hold
  pub zone_why : (x : CtlData) (page : ℕ) (places : List Place) → IsPathIn page places → TreesHold d x → page < 64 * x.zones → is_mounted x.mounted (page / 64) ≡ true → OrBroken d places x (zone_check d x (page / 64) places)
  zone_why x page places path trees there mounted =
      let root : List ℕ = slot_root x (page / 64) in
      why_broken x trees.sizes d root places places
      (λ i e below. of_zone-exists x.zones (page / 64) (omega arith) _ (path.of_zone i e below)) (λ place here. inl here) (zone_check d x (page / 64) places)
      (zone_tells x page places path trees there mounted (zone_check d x (page / 64) places) refl) (first_of d x root places (zone_written x page places path trees there mounted))

  -- the controller on which an access answers its value
  pub record Stands (zone : ℕ) (places : List Place) (x y : CtlData) : Type 0 where
    pub keeps : Keeps d x y
    pub is_there : is_mounted y.mounted zone ≡ true
    pub holds : zone_check d y zone places ≡ AllHold
    pub same : All (λ (p : Place). taken y p ≡ written y p) places

  abbrev pub Accesses : {A : Type 0} → ℕ → List Place → (CtlData → A) → (CtlData → CtlData) → CtlData → Outcome A → CtlData → Type 0
  Accesses zone places value change x (Value a) y = (m : CtlData) × Stands zone places x m × (a ≡ value m) × (y ≡ change m)
  Accesses zone places value change x (Fault p) y = Keeps d x y × IsTampered y places p
  Accesses zone places value change x (Collision p held other) y = Keeps d x y × IsCollision d y places p held other
  Accesses zone places value change x (Again taken_root root) y = ⊥

  module _ {A : Type 0} (page : ℕ) (places : List Place) (path : IsPathIn page places) (value : CtlData → A) (change : CtlData → CtlData) where
    checked : (x : CtlData) (h : Going) → Keeps d x h.ctl → is_mounted h.ctl.mounted (page / 64) ≡ true → (c : Checked) → zone_check d h.ctl (page / 64) places ≡ c
        → Tells d (path_of (slot_root h.ctl (page / 64)) places (taken h.ctl)) (written h.ctl) c → OrBroken d places h.ctl c
        → let r : After A = if_holds c h (answer (value h.ctl) (record h { ctl = change h.ctl })) in Accesses (page / 64) places value change x r.outcome r.after.ctl
    checked x h keeps mounted AllHold is tells why = (h.ctl, record { keeps = keeps; is_there = mounted; holds = is; same = tells }, refl, refl)
    checked x h keeps mounted (BreaksAt p) is tells why = (keeps, why)
    checked x h keeps mounted (CollidesAt p a b) is tells why = (keeps, why)

    counted : (x : CtlData) (o : Outcome (Unit {0})) (m : Going) → page < 64 * x.zones → Keeps d x m.ctl → OrRefused d places m.ctl o (is_mounted m.ctl.mounted (page / 64) ≡ true)
        → let r : After A = go_on o m (λ _ n. if_holds (zone_check d (count_use (page / 64) n).ctl (page / 64) places) (count_use (page / 64) n) (answer (value (count_use (page / 64) n).ctl) (record (count_use (page / 64) n) { ctl = change (count_use (page / 64) n).ctl }))) in
        Accesses (page / 64) places value change x r.outcome r.after.ctl
    counted x (Value a) m there keeps mounted =
        let h : Going = count_use (page / 64) m in
        let k : Keeps d x h.ctl = Keeps-then d x m.ctl h.ctl keeps (count_use-keeps (page / 64) m keeps.trees) in
        let in_zones : page < 64 * h.ctl.zones = omega (arith, k.zones_kept) in
        let is_open : is_mounted h.ctl.mounted (page / 64) ≡ true = is_mounted-map (used_slot (page / 64)) (used_slot-zone (page / 64)) m.ctl.mounted (page / 64) ∙ mounted in
        let tells = zone_tells h.ctl page places path k.trees in_zones is_open (zone_check d h.ctl (page / 64) places) refl in
        checked x h k is_open (zone_check d h.ctl (page / 64) places) refl tells
        (zone_why h.ctl page places path k.trees in_zones is_open)
    counted x (Fault p) m there keeps why = (keeps, why)
    counted x (Collision p a b) m there keeps why = (keeps, why)
    counted x (Again t r) m there keeps why = why

    pub accessed-says : (g : Going) → TreesHold d g.ctl → page < 64 * g.ctl.zones → 1 ≤ g.ctl.slots
        → let r : After A = accessed d page places value change g in Accesses (page / 64) places value change g.ctl r.outcome r.after.ctl
    accessed-says g trees there fits =
        let m = mounted_for-says places (page / 64) g trees (omega arith) fits in
        let r : After (Unit {0}) = mounted_for d (page / 64) g in
        counted g.ctl r.outcome r.after there m.keeps m.mounted
