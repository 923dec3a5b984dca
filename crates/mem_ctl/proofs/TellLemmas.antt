-- A sealed path that is told: the ways in which it ends.
use Rattle.std.proofs.Common.{◌≡◌, ℕ, ◌+◌, ◌*◌, ◌/◌, ◌%◌, ◌<◌, true, false, Option, Some, None, List, [], length, refl, subst, sym, ap, ◌∙◌, arith}
use Rattle.std.specs.Prelude.{All, Bool, Err, is_some, not, ◌&&◌}
use Rattle.std.specs.Option.{unwrap_or}
use Rattle.std.proofs.lemmas.Bool.{cond-false, cond-true, false≢true}
use Rattle.byteorder.specs.Endian.{little_bytes, little_number}
use Rattle.pl_base.specs.Bytes.{bytes_at, with_bytes}
use Rattle.pl_base.specs.declared.place.Place.{Place}
use Rattle.pl_digest.specs.Trees.{zone_root}
use Rattle.mem_geom.specs.PathPlaces.{word_places}
use Rattle.mem_slots.specs.declared.slot_use.SlotUse.{SlotUse}
use Rattle.mem_slots.specs.Slots.{is_mounted, root_of, rooted_slot}
use Rattle.mem_tree.specs.Checks.{Checked, IsWrittenPath, Tells, check, Holds as AllHold}
use Rattle.mem_tree.specs.Paths.{first_break}
use Rattle.mem_tree.specs.Words.{part_bytes, verdict_of}
use Rattle.mem_tree.proofs.Differences.{checks_tell, same-bytes_eq}
use Rattle.mem_ctl.specs.declared.broken.Broken.{Broken}
use Rattle.mem_ctl.specs.declared.broken.Broken.TheVariants as broken
use Rattle.mem_ctl.specs.declared.told.Told.TheVariants as told_is
use Rattle.mem_ctl.specs.Calls.{TakenWord, op_offset, path_in, root_stands, tell_of, tell_under, told, with_part}
use Rattle.mem_ctl.specs.Data.{CtlData, Again, Value, After, going}
use Rattle.mem_ctl.specs.Mounting.{used, written}
use Rattle.mem_ctl.specs.Results.{IsCall, checked_of, outcome_of}
use Rattle.mem_ctl.specs.declared.told.Op.{Op}
use Rattle.mem_ctl.specs.declared.told.Op.TheVariants.{Read, Write}
use Rattle.mem_ctl.specs.Tellings.{IsOpIn, is_whole, told_outcome}
use Rattle.mem_ctl.specs.TreesHold.{IsKept}
use Rattle.mem_ctl.specs.Writes.{word_at, zone_pages}
use Rattle.mem_ctl.proofs.CallLemmas.{Ends, call_of, if_holds-goes, if_holds-stops}
use Rattle.mem_ctl.proofs.SlotLemmas.{is_mounted-map, is_some-root_of, root_found, rooted_slot-zone}
use Rattle.mem_ctl.proofs.WordCalls.{none_breaks, part_fits, with_part-agree, with_part-held, with_part-hold, with_part-pages, with_part-sizes, word_of_block}
use Rattle.mem_ctl.specs.Laws.{Obeyed}
use Rattle.mem_ctl.proofs.Agreement.{StillAgree}
use Rattle.mem_ctl.specs.WrittenPages.{ChangesPage}
use Rattle.mem_geom.specs.Layout.{place_bytes}
use Rattle.mem_geom.specs.Parts.{page_bytes}
use Rattle.pl_base.specs.declared.place.Place.TheVariants.{Block}
use Rattle.mem_ctl.proofs.ZoneLemmas.{word_path-written}

pub whole_none : (o : Option Place) → is_whole (verdict_of o) ≡ true → o ≡ None
whole_none None h = refl
whole_none (Some p) h = absurd (false≢true h)

pub told_broken : (b : Broken) → told_outcome (Err (told_is.Broken b)) ≡ outcome_of {A = ℕ} (Err b)
told_broken (broken.Fault p) = refl
told_broken (broken.Collision c) = refl

pub told_holds : (d : List ℕ → List ℕ) (x : CtlData) (t : TakenWord) → AllHold ≡ check d (path_in t) (written x) → first_break d (path_in t) ≡ None
told_holds d x t is = none_breaks d (path_in t) (written x) (path_in t).places (sym is)

module _ (gives : List SlotUse → ℕ → Type 0) (d : List ℕ → List ℕ) (x : CtlData) (t : TakenWord) (op : Op) where
  pub tell_again : first_break d (path_in t) ≡ None → root_stands t.parts.root (root_of x.mounted (t.page / 64)) ≡ false
      → IsCall gives (tell_of d t op) x (Again t.parts.root (root_of x.mounted (t.page / 64))) x
  unfolding tell_of
  tell_again none other =
      let e = ap (λ (o : Option Place). tell_under d o t op (going x [])) none ∙ cond-false (root_stands t.parts.root (root_of x.mounted (t.page / 64))) _ _ other in
      call_of gives (tell_of d t op) x (Again t.parts.root (root_of x.mounted (t.page / 64))) x
      (record { is = sym (ap (λ (r : After ℕ). r.outcome) e); now = sym (ap (λ (r : After ℕ). r.after.ctl) e); shown = ap (λ (r : After ℕ). r.after.shown) e })

  refused_under : (b : Broken) → checked_of (Err b) ≡ check d (path_in t) (written x) → (o : Option Place) → (o ≡ None → root_stands t.parts.root (root_of x.mounted (t.page / 64)) ≡ true)
      → Ends (tell_under d o t op (going x [])) (going x []) (outcome_of (Err b)) x
  refused_under b is (Some p) stands = if_holds-stops (check d (path_in t) (written x)) b (going x []) _ is
  refused_under b is None stands =
      subst (λ (r : After ℕ). Ends r (going x []) (outcome_of (Err b)) x) (sym (cond-true (root_stands t.parts.root (root_of x.mounted (t.page / 64))) _ _ (stands refl)))
      (if_holds-stops (check d (path_in t) (written x)) b (going x []) _ is)

  pub tell_refused : (b : Broken) → (first_break d (path_in t) ≡ None → root_stands t.parts.root (root_of x.mounted (t.page / 64)) ≡ true) → checked_of (Err b) ≡ check d (path_in t) (written x)
      → IsCall gives (tell_of d t op) x (outcome_of (Err b)) x
  unfolding tell_of
  tell_refused b stands is = call_of gives (tell_of d t op) x (outcome_of (Err b)) x (refused_under b is (first_break d (path_in t)) stands)

  pub tell_gives : root_stands t.parts.root (root_of x.mounted (t.page / 64)) ≡ true → AllHold ≡ check d (path_in t) (written x)
      → IsCall gives (tell_of d t op) x (Value (little_number 8 (bytes_at t.parts.block (op_offset op % 64 / 8 * 8) 8))) (used (told d t op x) (t.page / 64))
  unfolding tell_of
  tell_gives stands is =
      let word : ℕ = little_number 8 (bytes_at t.parts.block (op_offset op % 64 / 8 * 8) 8) in
      let y : CtlData = used (told d t op x) (t.page / 64) in
      let e = ap (λ (o : Option Place). tell_under d o t op (going x [])) (told_holds d x t is) ∙ cond-true (root_stands t.parts.root (root_of x.mounted (t.page / 64))) _ _ stands in
      call_of gives (tell_of d t op) x (Value word) y
      (subst (λ (r : After ℕ). Ends r (going x []) (Value word) y) (sym e)
      (if_holds-goes (check d (path_in t) (written x)) (going x []) _ (Value word) y is (record { is = refl; now = refl; shown = refl })))

-- ---- what is told

-- a path that is stale holds, and its root doesn't stand
pub stale : (o : Option Place) (b : Bool) → (is_whole (verdict_of o) && not b) ≡ true → (o ≡ None) × (b ≡ false)
stale None true h = absurd (false≢true h)
stale None false h = (refl, refl)
stale (Some p) b h = absurd (false≢true h)

pub not_stale : (o : Option Place) (b : Bool) → (is_whole (verdict_of o) && not b) ≡ false → o ≡ None → b ≡ true
not_stale None true h none = refl
not_stale None false h none = absurd (false≢true (sym h))
not_stale (Some p) b h none = absurd (some_none p none)
  where
    some_none : (p : Place) → Some p ≡ None → ⊥
    some_none p h = cc

-- a path whose check holds, and that isn't stale
pub told_stands : (d : List ℕ → List ℕ) (x : CtlData) (t : TakenWord) → AllHold ≡ check d (path_in t) (written x)
    → (is_whole (verdict_of (first_break d (path_in t))) && not (root_stands t.parts.root (root_of x.mounted (t.page / 64)))) ≡ false → root_stands t.parts.root (root_of x.mounted (t.page / 64)) ≡ true
told_stands d x t holds fresh = not_stale (first_break d (path_in t)) (root_stands t.parts.root (root_of x.mounted (t.page / 64))) fresh (told_holds d x t holds)

-- ---- a root that stands

stands_some : (root : List ℕ) (o : Option (List ℕ)) → root_stands root o ≡ true → (is_some o ≡ true) × (root ≡ unwrap_or o [])
stands_some root None h = absurd (false≢true h)
stands_some root (Some now) h = (refl, same-bytes_eq root now h)

pub stands-mounted : (x : CtlData) (zone : ℕ) (root : List ℕ) → root_stands root (root_of x.mounted zone) ≡ true → is_mounted x.mounted zone ≡ true
stands-mounted x zone root h = sym (is_some-root_of x.mounted zone) ∙ (stands_some root (root_of x.mounted zone) h).0

-- what is told of a path whose root stands and whose check holds keeps the trees
module _ (d : List ℕ → List ℕ) (law : (m : List ℕ) → length (d m) ≡ 32) (x : CtlData) (kept : IsKept d x) (t : TakenWord) (there : t.page < 64 * x.zones) (below : t.block < 64)
    (stands : root_stands t.parts.root (root_of x.mounted (t.page / 64)) ≡ true) where
  mounted : is_mounted x.mounted (t.page / 64) ≡ true
  mounted = stands-mounted x (t.page / 64) t.parts.root stands

  root_is : t.parts.root ≡ zone_root d (zone_pages x.mirror (t.page / 64))
  root_is =
      (stands_some t.parts.root (root_of x.mounted (t.page / 64)) stands).1
      ∙ root_found (λ (z : ℕ). zone_root d (zone_pages x.mirror z)) x.mounted (t.page / 64) kept.trees.slots_hold mounted

  is_written : IsWrittenPath d (path_in t) (written x)
  is_written =
      let w = word_path-written d law x.zones x.mirror kept.trees.sizes.mirror_size kept.trees.nodes t.page there t.parts.root root_is x.off_chip t.block below in
      record { top_down = w.top_down; holds = w.holds }

  -- what the check of the path tells
  pub told_tells : (c : Checked) → check d (path_in t) (written x) ≡ c → Tells d (path_in t) (written x) c
  told_tells c is = subst (Tells d (path_in t) (written x)) is (checks_tell d (path_in t) (written x) is_written)

  module _ (holds : AllHold ≡ check d (path_in t) (written x)) where
    as_written : All (λ (p : Place). part_bytes t.parts p ≡ written x p) (word_places t.page t.block)
    as_written = told_tells AllHold (sym holds)

    pub told-sizes : (op : Op) → ((told d t op x).zones ≡ x.zones) × ((told d t op x).slots ≡ x.slots)
    told-sizes (Read offset) = (refl, refl)
    told-sizes (Write offset width word) = with_part-sizes d x (part_bytes t.parts) t.page t.block (offset % 64) (little_bytes width word)

    mounted_same : (offset width word : ℕ) → is_mounted (told d t (Write offset width word) x).mounted (t.page / 64) ≡ true
    unfolding with_part
    mounted_same offset width word = is_mounted-map (rooted_slot (t.page / 64) _) (rooted_slot-zone (t.page / 64) _) x.mounted (t.page / 64) ∙ mounted

    pub told-kept : (op : Op) → IsOpIn t.block op → IsKept d (told d t op x)
    told-kept (Read offset) fine = kept
    told-kept (Write offset width word) fine =
        let sizes = told-sizes (Write offset width word) in
        record {
          trees = with_part-hold d law x kept.trees t.page t.block there below mounted (part_bytes t.parts) as_written (offset % 64) (little_bytes width word) (part_fits width offset word fine.2 fine.3);
          some = omega (arith, sizes.1, kept.some);
          few = omega (arith, sizes.1, kept.few);
        }

    pub told-mounted : (op : Op) → is_mounted (told d t op x).mounted (t.page / 64) ≡ true
    told-mounted (Read offset) = mounted
    told-mounted (Write offset width word) = mounted_same offset width word

    -- bytes that were as written still are
    pub told-agree : (op : Op) → IsOpIn t.block op → StillAgree x.off_chip x.mirror (told d t op x).off_chip (told d t op x).mirror
    told-agree (Read offset) fine = λ k same. same
    told-agree (Write offset width word) fine =
        with_part-agree d law x kept.trees t.page t.block there below mounted (part_bytes t.parts) as_written (offset % 64) (little_bytes width word) (part_fits width offset word fine.2 fine.3)

    pub told-pages : (op : Op) → IsOpIn t.block op → Obeyed t op x (used (told d t op x) (t.page / 64))
    told-pages (Read offset) fine = record { off_chip_zones = refl; mirror_zones = refl; off_chip_pages = λ page h. refl; mirror_pages = λ page h. refl }
    told-pages (Write offset width word) fine =
        let part : List ℕ = little_bytes width word in
        let inside = part_fits width offset word fine.2 fine.3 in
        let sum : 64 * t.block + offset % 64 ≡ offset = let own : offset / 64 ≡ t.block = fine.1 in omega arith in
        record {
          off_chip_pages = with_part-held d law x kept.trees t.page t.block there below mounted (part_bytes t.parts) as_written (offset % 64) part inside;
          mirror_pages = subst (λ (k : ℕ). ChangesPage x.zones t.page (with_bytes (page_bytes x.mirror t.page) k part) x.mirror (told d t (Write offset width word) x).mirror) sum
              (with_part-pages d law x kept.trees t.page t.block there below mounted (part_bytes t.parts) as_written (offset % 64) part inside);
        }

    -- the eight bytes that hold the part are as they were written
    pub told-word : (offset : ℕ) → offset / 64 ≡ t.block → little_number 8 (bytes_at t.parts.block (offset % 64 / 8 * 8) 8) ≡ word_at x.mirror t.page (offset / 8 * 8)
    told-word offset own =
        let w : ℕ = offset / 8 * 8 in
        let b : t.block ≡ w / 64 = omega arith in
        let at : offset % 64 / 8 * 8 ≡ w % 64 = omega arith in
        ap (λ (block : List ℕ). little_number 8 (bytes_at block (offset % 64 / 8 * 8) 8)) (as_written 4 (Block t.page t.block) (omega arith))
        ∙ ap (λ (k : ℕ). little_number 8 (bytes_at (place_bytes x.zones x.mirror (Block t.page t.block)) k 8)) at
        ∙ ap (λ (k : ℕ). little_number 8 (bytes_at (place_bytes x.zones x.mirror (Block t.page k)) (w % 64) 8)) b
        ∙ word_of_block x.zones x.mirror t.page w (omega arith)

    pub told-reads : (op : Op) → IsOpIn t.block op → little_number 8 (bytes_at t.parts.block (op_offset op % 64 / 8 * 8) 8) ≡ word_at x.mirror t.page (op_offset op / 8 * 8)
    told-reads (Read offset) fine = told-word offset fine.1
    told-reads (Write offset width word) fine = told-word offset fine.1
