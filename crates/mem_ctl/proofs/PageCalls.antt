-- Whole pages: results of a read, and that a page which is replaced keeps the trees.
use Rattle.std.proofs.Common.{◌≡◌, ℕ, ◌-◌, ◌*◌, ◌/◌, ◌%◌, ◌<◌, List, [], ◌∷◌, length, map, refl, subst, sym, ap, ◌∙◌, arith}
use Rattle.std.specs.Prelude.{All, Err, true}
use Rattle.std.specs.List.{concat}
use Rattle.std.proofs.lemmas.List.Elements.{All-cons, All-nil}
use Rattle.pl_base.specs.Bytes.{with_bytes}
use Rattle.pl_base.specs.declared.place.Place.{Place}
use Rattle.pl_base.specs.declared.place.Place.TheVariants.{Node}
use Rattle.pl_digest.specs.Nodes.{with_entry}
use Rattle.pl_digest.specs.Trees.{block_digests, lower_nodes, upper_node, zone_root}
use Rattle.mem_geom.specs.Layout.{memory_size, place_start}
use Rattle.mem_geom.specs.Parts.{page_bytes}
use Rattle.mem_geom.specs.PathPlaces.{replaced_places}
use Rattle.mem_geom.proofs.Parts.{length-with_bytes}
use Rattle.mem_slots.specs.Slots.{is_mounted, rooted_slot}
use Rattle.mem_tree.specs.Changes.{IsOfZone, PlaceBytes, above_page, renewed, renewed_root}
use Rattle.mem_tree.specs.Checks.{Holds as AllHold}
use Rattle.mem_tree.specs.Trees.{zone_bytes}
use Rattle.mem_ctl.specs.declared.broken.Broken.{Broken}
use Rattle.mem_ctl.specs.declared.broken.Broken.TheVariants as broken
use Rattle.mem_ctl.specs.Calls.{with_page, with_page_at, with_root, zone_check}
use Rattle.mem_ctl.specs.Data.{CtlData}
use Rattle.mem_ctl.specs.Mounting.{put, taken, written}
use Rattle.mem_ctl.specs.Pages.{got_outcome, page_written}
use Rattle.mem_ctl.specs.Results.{outcome_of}
use Rattle.mem_ctl.specs.TreesHold.{TreesHold}
use Rattle.mem_ctl.specs.Writes.{with_places, zone_pages}
use Rattle.mem_ctl.specs.WrittenPages.{ChangesPage}
use Rattle.mem_ctl.proofs.AccessLemmas.{replaced_path-in, zone_tells}
use Rattle.mem_ctl.proofs.Agreement.{StillAgree, StillAgree-then, with_bytes-agree, with_places-agree}
use Rattle.mem_ctl.proofs.PageWrites.{length-level1, length-with_page, page_fit, page_root_is, page_update, put_pages, replaced_pages}
use Rattle.mem_ctl.proofs.RenewedLemmas.{renewed-alike, renewed_root-alike}
use Rattle.mem_ctl.proofs.WriteLemmas.{length-with_places}
use Rattle.mem_ctl.proofs.ZoneLemmas.{mirror_is}
use Rattle.mem_ctl.proofs.ZoneUpdates.{updated-hold}

pub got_broken : (bytes : List ℕ) (b : Broken) → got_outcome bytes (Err b) ≡ outcome_of {A = List ℕ} (Err b)
got_broken bytes (broken.Fault p) = refl
got_broken bytes (broken.Collision c) = refl

module _ (d : List ℕ → List ℕ) where
  pub with_page_at-slots : (x : CtlData) (page : ℕ) (bytes : List ℕ) → (with_page_at d page bytes x).slots ≡ x.slots
  unfolding with_page_at
  with_page_at-slots x page bytes = refl

  -- as many zones and slots as before
  pub with_page_at-sizes : (x : CtlData) (page : ℕ) (bytes : List ℕ) → ((with_page_at d page bytes x).zones ≡ x.zones) × ((with_page_at d page bytes x).slots ≡ x.slots)
  unfolding with_page_at
  with_page_at-sizes x page bytes = (refl, refl)

  -- what a replaced page changes, as the code computes it
  pub replaced-is : (x : CtlData) (page : ℕ) (bytes level1 level2 level3 level4 : List ℕ) → level1 ≡ concat (lower_nodes (block_digests d bytes)) → level2 ≡ upper_node d (block_digests d bytes)
      → level3 ≡ with_entry (page % 64 % 8) (d level2) (taken x (Node 3 (page / 64) (page % 64 / 8))) → level4 ≡ with_entry (page % 64 / 8) (d level3) (taken x (Node 4 (page / 64) 0))
      → with_page_at d page bytes x
      ≡ record x {
        off_chip = page_written x.zones page bytes level1 level2 level3 level4 x.off_chip;
        mirror = page_written x.zones page bytes level1 level2 level3 level4 x.mirror;
        mounted = map (rooted_slot (page / 64) (d level4)) x.mounted;
      }
  unfolding with_page_at
  replaced-is x page bytes level1 level2 level3 level4 is1 is2 is3 is4 =
      let p : ℕ = page % 64 in
      let m1 : List ℕ = concat (lower_nodes (block_digests d bytes)) in
      let m2 : List ℕ = upper_node d (block_digests d bytes) in
      let m3 : List ℕ = with_entry (p % 8) (d m2) (taken x (Node 3 (page / 64) (p / 8))) in
      let m4 : List ℕ = with_entry (p / 8 % 8) (d m3) (taken x (Node 4 (page / 64) 0)) in
      let e4 : p / 8 % 8 ≡ p / 8 = omega arith in
      let s1 : m1 ≡ level1 = sym is1 in
      let s2 : m2 ≡ level2 = sym is2 in
      let s3 : m3 ≡ level3 = ap (λ (q : List ℕ). with_entry (p % 8) (d q) (taken x (Node 3 (page / 64) (p / 8)))) s2 ∙ sym is3 in
      let s4 : m4 ≡ level4 = ap (λ (k : ℕ). with_entry k (d m3) (taken x (Node 4 (page / 64) 0))) e4 ∙ ap (λ (q : List ℕ). with_entry (p / 8) (d q) (taken x (Node 4 (page / 64) 0))) s3 ∙ sym is4 in
      let f = λ (a1 : List ℕ) (a2 : List ℕ) (a3 : List ℕ) (a4 : List ℕ). record x {
        off_chip = page_written x.zones page bytes a1 a2 a3 a4 x.off_chip;
        mirror = page_written x.zones page bytes a1 a2 a3 a4 x.mirror;
        mounted = map (rooted_slot (page / 64) (d a4)) x.mounted;
      } in
      ap (λ (q : List ℕ). f q m2 m3 m4) s1 ∙ ap (λ (q : List ℕ). f level1 q m3 m4) s2 ∙ ap (λ (q : List ℕ). f level1 level2 q m4) s3 ∙ ap (f level1 level2 level3) s4

  module _ (law : (m : List ℕ) → length (d m) ≡ 32) (x : CtlData) (trees : TreesHold d x) (page : ℕ) (there : page < 64 * x.zones) (mounted : is_mounted x.mounted (page / 64) ≡ true) where
    -- what the check of the nodes above a page tells
    replaced_same : AllHold ≡ zone_check d x (page / 64) (replaced_places page) → All (λ (q : Place). taken x q ≡ written x q) (replaced_places page)
    replaced_same holds = zone_tells d law x page (replaced_places page) (replaced_path-in d law page) trees there mounted AllHold (sym holds)

    -- the nodes that stay above the page are the tree's
    above_is : AllHold ≡ zone_check d x (page / 64) (replaced_places page) → All (λ (q : Place). taken x q ≡ zone_bytes d (zone_pages x.mirror (page / 64)) q) (above_page page)
    above_is holds =
        let z : ℕ = page / 64 in
        let n3 : Place = Node 3 z (page % 64 / 8) in
        let n4 : Place = Node 4 z 0 in
        let same = replaced_same holds in
        let tree = λ (q : Place) (of : IsOfZone z q). mirror_is d law x.zones x.mirror trees.sizes.mirror_size trees.nodes z (omega arith) q of in
        let P = λ (q : Place). taken x q ≡ zone_bytes d (zone_pages x.mirror z) q in
        All-cons P n3 (n4 ∷ []) (same 1 n3 (omega arith) ∙ tree n3 (refl, omega arith)) (All-cons P n4 [] (same 0 n4 (omega arith) ∙ tree n4 (refl, omega arith)) (All-nil P))

    -- the nodes that are renewed are those of the tree
    renewed_is : (bytes : List ℕ) → AllHold ≡ zone_check d x (page / 64) (replaced_places page)
        → renewed d (taken x) (Node 2 (page / 64) (page % 64)) (upper_node d (block_digests d bytes)) (above_page page)
        ≡ renewed d (zone_bytes d (zone_pages x.mirror (page / 64))) (Node 2 (page / 64) (page % 64)) (upper_node d (block_digests d bytes)) (above_page page)
    renewed_is bytes holds =
        renewed-alike d (taken x) (zone_bytes d (zone_pages x.mirror (page / 64))) (Node 2 (page / 64) (page % 64)) (upper_node d (block_digests d bytes)) (above_page page) (above_is holds)

    -- whatever memory it is written into: the page is replaced, and no other changes
    put_into : (bytes : List ℕ) → length bytes ≡ 4096 → AllHold ≡ zone_check d x (page / 64) (replaced_places page) → (memory : List ℕ) → length memory ≡ memory_size x.zones
        → ChangesPage x.zones page bytes memory
        (with_places x.zones (with_page d x.zones page bytes memory) (renewed d (taken x) (Node 2 (page / 64) (page % 64)) (upper_node d (block_digests d bytes)) (above_page page)))
    put_into bytes size holds memory sized other below =
        ap (λ (ws : List PlaceBytes). page_bytes (with_places x.zones (with_page d x.zones page bytes memory) ws) other) (renewed_is bytes holds)
        ∙ put_pages d law x.zones x.mirror trees.sizes.mirror_size trees.nodes page bytes there size memory sized other below

    pub with_page_at-pages : (bytes : List ℕ) → length bytes ≡ 4096 → AllHold ≡ zone_check d x (page / 64) (replaced_places page) → ChangesPage x.zones page bytes x.mirror (with_page_at d page bytes x).mirror
    unfolding with_page_at
    with_page_at-pages bytes size holds = put_into bytes size holds x.mirror trees.sizes.mirror_size

    pub with_page_at-held : (bytes : List ℕ) → length bytes ≡ 4096 → AllHold ≡ zone_check d x (page / 64) (replaced_places page) → ChangesPage x.zones page bytes x.off_chip (with_page_at d page bytes x).off_chip
    unfolding with_page_at
    with_page_at-held bytes size holds = put_into bytes size holds x.off_chip trees.sizes.off_chip_size

    -- bytes that were as written still are
    pub with_page_at-agree : (bytes : List ℕ) → length bytes ≡ 4096 → AllHold ≡ zone_check d x (page / 64) (replaced_places page)
        → StillAgree x.off_chip x.mirror (with_page_at d page bytes x).off_chip (with_page_at d page bytes x).mirror
    unfolding with_page_at
    with_page_at-agree bytes size holds =
        let first : ℕ = place_start x.zones (Node 1 (page / 64) (8 * (page % 64))) - 0x80000000 in
        let level1 : List ℕ = concat (lower_nodes (block_digests d bytes)) in
        let one = λ (memory : List ℕ). with_bytes memory (4096 * page) bytes in
        let two = λ (memory : List ℕ). with_page d x.zones page bytes memory in
        let all = λ (ws : List PlaceBytes) (memory : List ℕ). with_places x.zones (two memory) ws in
        let ws : List PlaceBytes = renewed d (zone_bytes d (zone_pages x.mirror (page / 64))) (Node 2 (page / 64) (page % 64)) (upper_node d (block_digests d bytes)) (above_page page) in
        let sizes = trees.sizes in
        let one_size = λ (memory : List ℕ) (sized : length memory ≡ memory_size x.zones). length-with_bytes memory (4096 * page) bytes (omega arith) ∙ sized in
        let off_one = one_size x.off_chip sizes.off_chip_size in
        let mirror_one = one_size x.mirror sizes.mirror_size in
        subst (λ (ps : List PlaceBytes). StillAgree x.off_chip x.mirror (all ps x.off_chip) (all ps x.mirror)) (sym (renewed_is bytes holds))
        (StillAgree-then x.off_chip x.mirror (two x.off_chip) (two x.mirror) (all ws x.off_chip) (all ws x.mirror)
        (StillAgree-then x.off_chip x.mirror (one x.off_chip) (one x.mirror) (two x.off_chip) (two x.mirror)
        (with_bytes-agree x.off_chip x.mirror (4096 * page) bytes (omega (arith, sizes.off_chip_size)) (omega (arith, sizes.mirror_size)))
        (with_bytes-agree (one x.off_chip) (one x.mirror) first level1 (omega (arith, off_one, length-level1 d law bytes)) (omega (arith, mirror_one, length-level1 d law bytes))))
        (with_places-agree x.zones ws (two x.off_chip) (two x.mirror) (page_fit d law x.zones x.mirror sizes.mirror_size trees.nodes page bytes there size)
        (length-with_page d law x.zones page bytes x.off_chip there size sizes.off_chip_size) (length-with_page d law x.zones page bytes x.mirror there size sizes.mirror_size)))

    pub with_page_at-hold : (bytes : List ℕ) → length bytes ≡ 4096 → AllHold ≡ zone_check d x (page / 64) (replaced_places page) → TreesHold d (with_page_at d page bytes x)
    unfolding with_page_at
    with_page_at-hold bytes size holds =
        let z : ℕ = page / 64 in
        let pages : List (List ℕ) = zone_pages x.mirror z in
        let node : List ℕ = upper_node d (block_digests d bytes) in
        let n2 : Place = Node 2 z (page % 64) in
        let above = above_is holds in
        let ws : List PlaceBytes = renewed d (zone_bytes d pages) n2 node (above_page page) in
        let is : renewed d (taken x) n2 node (above_page page) ≡ ws = renewed-alike d (taken x) (zone_bytes d pages) n2 node (above_page page) above in
        let root : List ℕ = renewed_root d (taken x) n2 node (above_page page) in
        let root_is : root ≡ zone_root d (replaced_pages d law x.zones x.mirror trees.sizes.mirror_size trees.nodes page bytes there size) =
        renewed_root-alike d (taken x) (zone_bytes d pages) n2 node (above_page page) above ∙ page_root_is d law x.zones x.mirror trees.sizes.mirror_size trees.nodes page bytes there size in
        let fit = page_fit d law x.zones x.mirror trees.sizes.mirror_size trees.nodes page bytes there size in
        let off : List ℕ = with_page d x.zones page bytes x.off_chip in
        let off_size : length off ≡ memory_size x.zones = length-with_page d law x.zones page bytes x.off_chip there size trees.sizes.off_chip_size in
        subst (λ (l : List PlaceBytes). TreesHold d (with_root (put (record x { off_chip = off; mirror = with_page d x.zones page bytes x.mirror }) l) z root)) (sym is)
        (updated-hold d x trees z (omega arith) mounted (replaced_pages d law x.zones x.mirror trees.sizes.mirror_size trees.nodes page bytes there size)
        (with_places x.zones off ws) (with_places x.zones (with_page d x.zones page bytes x.mirror) ws) root
        (length-with_places x.zones ws off fit off_size)
        (page_update d law x.zones x.mirror trees.sizes.mirror_size trees.nodes page bytes there size) root_is)
