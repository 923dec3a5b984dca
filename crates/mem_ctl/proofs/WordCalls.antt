-- Words: what a path that holds tells of them, and that a write of some of their bytes keeps the trees.
use Rattle.std.proofs.Common.{Bool, false, cond, Some, None, find, IsTrue}
use Rattle.std.proofs.lemmas.Bool.{cond-false}
use Rattle.std.proofs.lemmas.Bool.Decides.{nat_tests}
use Rattle.pl_base.specs.Width.{is_width}
use Rattle.mem_tree.specs.Checks.{Fault, Collision, check_on, collides}
use Rattle.mem_tree.specs.Paths.{Path, breaks}
use Rattle.mem_tree.specs.Words.{IsPart}
use Rattle.std.proofs.Common.{◌≡◌, ℕ, ◌+◌, ◌-◌, ◌*◌, ◌/◌, ◌%◌, ◌<◌, ◌≤◌, ◌==◌, List, [], ◌∷◌, length, drop, refl, subst, sym, ap, ◌∙◌, arith, length-drop}
use Rattle.std.specs.Prelude.{All, true}
use Rattle.std.proofs.lemmas.List.Elements.{All-cons, All-nil}
use Rattle.byteorder.specs.Endian.{little_bytes, little_number}
use Rattle.byteorder.specs.Numbers.{length-bytes_low_first}
use Rattle.pl_base.specs.Bytes.{bytes_at, with_bytes}
use Rattle.pl_base.specs.declared.place.Place.{Place}
use Rattle.pl_base.specs.declared.place.Place.TheVariants.{Block, Node}
use Rattle.pl_digest.specs.Nodes.{with_entry}
use Rattle.pl_digest.specs.Trees.{piece, zone_root}
use Rattle.mem_geom.specs.Layout.{memory_size, place_bytes}
use Rattle.mem_geom.specs.PathPlaces.{word_places}
use Rattle.mem_geom.proofs.PartPlaces.{parts_are_places}
use Rattle.mem_geom.proofs.Parts.{bytes_at-bytes_at}
use Rattle.std.proofs.lemmas.List.{length-take-le}
use Rattle.mem_slots.specs.Slots.{is_mounted}
use Rattle.mem_tree.specs.declared.new_path.NewPath.{NewPath}
use Rattle.mem_tree.specs.Changes.{IsOfZone, PlaceBytes, above_block, at_place, renewed, renewed_root}
use Rattle.mem_tree.specs.Checks.{Checked, check, Holds as AllHold}
use Rattle.mem_tree.specs.Trees.{nth, zone_bytes}
use Rattle.mem_tree.specs.Words.{part_bytes, parts_path, word_path}
use Rattle.mem_tree.proofs.WordPaths.{parts_answer_alike}
use Rattle.mem_ctl.specs.Calls.{slot_root, with_part, with_root, zone_check}
use Rattle.mem_ctl.specs.Data.{CtlData}
use Rattle.mem_ctl.specs.Mounting.{put, taken, written}
use Rattle.mem_ctl.specs.TreesHold.{TreesHold}
use Rattle.mem_ctl.specs.Words.{IsNewPath, stored}
use Rattle.mem_ctl.specs.Writes.{with_places, word_at, zone_pages}
use Rattle.mem_ctl.proofs.RenewedLemmas.{renewed-alike, renewed_root-alike}
use Rattle.mem_ctl.proofs.WordWrites.{new_pages, word_fit, word_pages, word_root, word_update, word_written}
use Rattle.mem_ctl.proofs.WriteLemmas.{AllFit, length-with_places}
use Rattle.mem_ctl.proofs.ZoneLemmas.{mirror_is}
use Rattle.mem_ctl.proofs.ZoneUpdates.{updated-hold}
use Rattle.mem_ctl.proofs.Agreement.{StillAgree, with_places-agree}
use Rattle.mem_ctl.proofs.PageLemmas.{with_bytes-nested}
use Rattle.mem_ctl.specs.WrittenPages.{ChangesPage}
use Rattle.mem_geom.specs.Parts.{page_bytes}

-- a word is a part of its block
pub word_of_block : (zones : ℕ) (memory : List ℕ) (page offset : ℕ) → offset % 8 ≡ 0
    → little_number 8 (bytes_at (place_bytes zones memory (Block page (offset / 64))) (offset % 64) 8) ≡ word_at memory page offset
word_of_block zones memory page offset aligned =
    let at : ℕ = 0x80000000 + 4096 * page + 64 * (offset / 64) - 0x80000000 in
    let sum : at + offset % 64 ≡ 4096 * page + offset = omega arith in
    ap (little_number 8) (bytes_at-bytes_at memory at 64 (offset % 64) 8 (omega arith) ∙ ap (λ (k : ℕ). bytes_at memory k 8) sum)

module _ (d : List ℕ → List ℕ) where
  -- the check of the parts that were taken is that of the path
  pub word_check : (x : CtlData) (page b : ℕ) (parts : NewPath) → b < 64 → parts ≡ word_path (slot_root x (page / 64)) (taken x) page b
      → check d (parts_path page b parts) (written x) ≡ zone_check d x (page / 64) (word_places page b)
  word_check x page b parts below is =
      ap (λ (q : NewPath). check d (parts_path page b q) (written x)) is ∙ (parts_answer_alike d (slot_root x (page / 64)) (taken x) page b below).checks (written x)

  -- what a write renews, as the code computes it from the parts
  pub stored-parts : (x : CtlData) (page b at : ℕ) (part : List ℕ) (parts path : NewPath) → b < 64 → IsNewPath d parts page b at part path → with_part d (part_bytes parts) page b at part x ≡ stored x page b path
  unfolding with_part
  stored-parts x page b at part parts path below is =
      let z : ℕ = page / 64 in
      let p : ℕ = page % 64 in
      let i : ℕ = 8 * p + b / 8 in
      let nb : List ℕ = with_bytes parts.block at part in
      let l1 : List ℕ = with_entry (b % 8) (d nb) parts.level1 in
      let l2 : List ℕ = with_entry (i % 8) (d l1) parts.level2 in
      let l3 : List ℕ = with_entry (p % 8) (d l2) parts.level3 in
      let l4 : List ℕ = with_entry (p / 8 % 8) (d l3) parts.level4 in
      let e2 : i % 8 ≡ b / 8 = omega arith in
      let e3 : p % 8 ≡ page % 8 = omega arith in
      let e4 : p / 8 % 8 ≡ p / 8 = omega arith in
      let s0 : nb ≡ path.block = sym is.block in
      let s1 : l1 ≡ path.level1 = ap (λ (q : List ℕ). with_entry (b % 8) (d q) parts.level1) s0 ∙ sym is.level1 in
      let s2 : l2 ≡ path.level2 = ap (λ (k : ℕ). with_entry k (d l1) parts.level2) e2 ∙ ap (λ (q : List ℕ). with_entry (b / 8) (d q) parts.level2) s1 ∙ sym is.level2 in
      let s3 : l3 ≡ path.level3 = ap (λ (k : ℕ). with_entry k (d l2) parts.level3) e3 ∙ ap (λ (q : List ℕ). with_entry (page % 8) (d q) parts.level3) s2 ∙ sym is.level3 in
      let s4 : l4 ≡ path.level4 = ap (λ (k : ℕ). with_entry k (d l3) parts.level4) e4 ∙ ap (λ (q : List ℕ). with_entry (p / 8) (d q) parts.level4) s3 ∙ sym is.level4 in
      let s5 : d l4 ≡ path.root = ap d s4 ∙ sym is.root in
      let f = λ (a : List ℕ) (a1 : List ℕ) (a2 : List ℕ) (a3 : List ℕ) (a4 : List ℕ) (r : List ℕ).
      with_root (put x (at_place (Block page b) a ∷ at_place (Node 1 z i) a1 ∷ at_place (Node 2 z p) a2 ∷ at_place (Node 3 z (p / 8)) a3 ∷ at_place (Node 4 z 0) a4 ∷ [])) z r in
      ap (λ (q : List ℕ). f q l1 l2 l3 l4 (d l4)) s0 ∙ ap (λ (q : List ℕ). f path.block q l2 l3 l4 (d l4)) s1 ∙ ap (λ (q : List ℕ). f path.block path.level1 q l3 l4 (d l4)) s2
      ∙ ap (λ (q : List ℕ). f path.block path.level1 path.level2 q l4 (d l4)) s3 ∙ ap (λ (q : List ℕ). f path.block path.level1 path.level2 path.level3 q (d l4)) s4
      ∙ ap (f path.block path.level1 path.level2 path.level3 path.level4) s5

  -- a write leaves the numbers of zones and of slots
  pub with_part-sizes : (x : CtlData) (old : Place → List ℕ) (page b at : ℕ) (part : List ℕ) → ((with_part d old page b at part x).zones ≡ x.zones) × ((with_part d old page b at part x).slots ≡ x.slots)
  unfolding with_part
  with_part-sizes x old page b at part = (refl, refl)

  -- the parts of the path that is taken from memory stand for the memory's bytes
  pub with_part-parts : (x : CtlData) (old : Place → List ℕ) (root : List ℕ) (page b at : ℕ) (part : List ℕ) → with_part d old page b at part x ≡ with_part d (part_bytes (word_path root old page b)) page b at part x
  unfolding with_part
  with_part-parts x old root page b at part = refl

module _ (d : List ℕ → List ℕ) (law : (m : List ℕ) → length (d m) ≡ 32) (x : CtlData) (trees : TreesHold d x) (page b : ℕ) (there : page < 64 * x.zones) (below : b < 64) (mounted : is_mounted x.mounted (page / 64) ≡ true) where
  -- a part is written over bytes that are as they were written
  module _ (old : Place → List ℕ) (same : All (λ (p : Place). old p ≡ written x p) (word_places page b)) (at : ℕ) (part : List ℕ) (inside : at + length part ≤ 64) where
    abbrev pages : List (List ℕ)
    pages = zone_pages x.mirror (page / 64)

    in_tree : (place : Place) → IsOfZone (page / 64) place → place_bytes x.zones x.mirror place ≡ zone_bytes d pages place
    in_tree place of = mirror_is d law x.zones x.mirror trees.sizes.mirror_size trees.nodes (page / 64) (omega arith) place of

    above_same : All (λ (p : Place). old p ≡ zone_bytes d pages p) (above_block page b)
    above_same =
        let z : ℕ = page / 64 in
        let p : ℕ = page % 64 in
        let P = λ (q : Place). old q ≡ zone_bytes d pages q in
        let n1 : Place = Node 1 z (8 * p + b / 8) in
        let n2 : Place = Node 2 z p in
        let n3 : Place = Node 3 z (p / 8) in
        let n4 : Place = Node 4 z 0 in
        All-cons P n1 (n2 ∷ n3 ∷ n4 ∷ []) (same 3 n1 (omega arith) ∙ in_tree n1 (refl, omega arith)) (All-cons P n2 (n3 ∷ n4 ∷ []) (same 2 n2 (omega arith) ∙ in_tree n2 (refl, omega arith))
        (All-cons P n3 (n4 ∷ []) (same 1 n3 (omega arith) ∙ in_tree n3 (refl, omega arith)) (All-cons P n4 [] (same 0 n4 (omega arith) ∙ in_tree n4 (refl, omega arith)) (All-nil P))))

    block_same : with_bytes (old (Block page b)) at part ≡ with_bytes (piece 64 b (nth pages (page % 64))) at part
    block_same = ap (λ (xs : List ℕ). with_bytes xs at part) (same 4 (Block page b) (omega arith) ∙ in_tree (Block page b) (refl, below))

    abbrev wrote : List PlaceBytes
    wrote = word_written d law x.zones x.mirror trees.sizes.mirror_size trees.nodes page b at part there below inside

    wrote_is : renewed d old (Block page b) (with_bytes (old (Block page b)) at part) (above_block page b) ≡ wrote
    wrote_is =
        renewed-alike d old (zone_bytes d pages) (Block page b) (with_bytes (old (Block page b)) at part) (above_block page b) above_same
        ∙ ap (λ (xs : List ℕ). renewed d (zone_bytes d pages) (Block page b) xs (above_block page b)) block_same

    root_is : renewed_root d old (Block page b) (with_bytes (old (Block page b)) at part) (above_block page b)
        ≡ zone_root d (new_pages d law x.zones x.mirror trees.sizes.mirror_size trees.nodes page b at part there below inside)
    root_is =
        renewed_root-alike d old (zone_bytes d pages) (Block page b) (with_bytes (old (Block page b)) at part) (above_block page b) above_same
        ∙ ap (λ (xs : List ℕ). renewed_root d (zone_bytes d pages) (Block page b) xs (above_block page b)) block_same
        ∙ word_root d law x.zones x.mirror trees.sizes.mirror_size trees.nodes page b at part there below inside

    fit : AllFit x.zones wrote
    fit = word_fit d law x.zones x.mirror trees.sizes.mirror_size trees.nodes page b at part there below inside

    pub with_part-hold : TreesHold d (with_part d old page b at part x)
    unfolding with_part
    with_part-hold =
        let root : List ℕ = renewed_root d old (Block page b) (with_bytes (old (Block page b)) at part) (above_block page b) in
        subst (λ (ws : List PlaceBytes). TreesHold d (with_root (put x ws) (page / 64) root)) (sym wrote_is)
        (updated-hold d x trees (page / 64) (omega arith) mounted
        (new_pages d law x.zones x.mirror trees.sizes.mirror_size trees.nodes page b at part there below inside)
        (with_places x.zones x.off_chip wrote) (with_places x.zones x.mirror wrote) root
        (length-with_places x.zones wrote x.off_chip fit trees.sizes.off_chip_size)
        (word_update d law x.zones x.mirror trees.sizes.mirror_size trees.nodes page b at part there below inside) root_is)

    abbrev wrote_first : List PlaceBytes
    wrote_first = renewed d old (Block page b) (with_bytes (old (Block page b)) at part) (above_block page b)

    -- whatever memory the places are written into: the page has the block, and no other changes
    pub with_part-block : (memory : List ℕ) → length memory ≡ memory_size x.zones
        → ChangesPage x.zones page (with_bytes (page_bytes memory page) (64 * b) (with_bytes (written x (Block page b)) at part)) memory (with_places x.zones memory wrote_first)
    with_part-block memory sized other in_zones =
        ap (λ (ws : List PlaceBytes). page_bytes (with_places x.zones memory ws) other) wrote_is
        ∙ word_pages d law x.zones x.mirror trees.sizes.mirror_size trees.nodes page b at part there below inside memory sized other in_zones
        ∙ ap (λ (xs : List ℕ). cond (other == page) (with_bytes (page_bytes memory page) (64 * b) (with_bytes xs at part)) (page_bytes memory other)) (sym (in_tree (Block page b) (refl, below)))

    -- and where the block was as written, it has the part
    pub with_part-part : (memory : List ℕ) → length memory ≡ memory_size x.zones → place_bytes x.zones memory (Block page b) ≡ written x (Block page b)
        → ChangesPage x.zones page (with_bytes (page_bytes memory page) (64 * b + at) part) memory (with_places x.zones memory wrote_first)
    with_part-part memory sized block other in_zones =
        let all : List ℕ = page_bytes memory page in
        let size : length all ≡ 4096 = length-take-le 4096 (drop (4096 * page) memory) (omega (arith, length-drop (4096 * page) memory)) in
        let is : with_bytes all (64 * b) (with_bytes (written x (Block page b)) at part) ≡ with_bytes all (64 * b + at) part =
        ap (λ (xs : List ℕ). with_bytes all (64 * b) (with_bytes xs at part)) (sym block ∙ parts_are_places.blocks x.zones page b memory below)
        ∙ with_bytes-nested all (64 * b) 64 at part (omega arith) inside in
        with_part-block memory sized other in_zones ∙ ap (λ (xs : List ℕ). cond (other == page) xs (page_bytes memory other)) is

    pub with_part-pages : ChangesPage x.zones page (with_bytes (page_bytes x.mirror page) (64 * b + at) part) x.mirror (with_part d old page b at part x).mirror
    unfolding with_part
    with_part-pages = with_part-part x.mirror trees.sizes.mirror_size refl

    -- off chip too; and bytes that were as written still are
    pub with_part-held : ChangesPage x.zones page (with_bytes (page_bytes x.off_chip page) (64 * b) (with_bytes (written x (Block page b)) at part)) x.off_chip (with_part d old page b at part x).off_chip
    unfolding with_part
    with_part-held = with_part-block x.off_chip trees.sizes.off_chip_size

    pub with_part-held_part : taken x (Block page b) ≡ written x (Block page b) → ChangesPage x.zones page (with_bytes (page_bytes x.off_chip page) (64 * b + at) part) x.off_chip (with_part d old page b at part x).off_chip
    unfolding with_part
    with_part-held_part block = with_part-part x.off_chip trees.sizes.off_chip_size block

    pub with_part-agree : StillAgree x.off_chip x.mirror (with_part d old page b at part x).off_chip (with_part d old page b at part x).mirror
    unfolding with_part
    with_part-agree =
        subst (λ (ws : List PlaceBytes). StillAgree x.off_chip x.mirror (with_places x.zones x.off_chip ws) (with_places x.zones x.mirror ws)) (sym wrote_is)
        (with_places-agree x.zones wrote x.off_chip x.mirror fit trees.sizes.off_chip_size trees.sizes.mirror_size)

-- ---- parts, and paths whose check holds

pub part_of : (width offset : ℕ) → IsTrue (is_width width) → offset % width ≡ 0 → IsPart (offset % 64) width
part_of width offset is aligned = record { is_width = is; is_aligned = grind (arith, nat_tests); is_inside = grind (arith, nat_tests) }

pub part_fits : (width offset word : ℕ) → IsTrue (is_width width) → offset % width ≡ 0 → offset % 64 + length (little_bytes width word) ≤ 64
part_fits width offset word wide aligned = omega (arith, length-bytes_low_first 0 width word, (part_of width offset wide aligned).is_inside)

not_broken : (b : Bool) (p : Place) (rest : Checked) → cond b (Fault p) rest ≡ AllHold → (b ≡ false) × (rest ≡ AllHold)
not_broken true p rest h = cc
not_broken false p rest h = (refl, h)

not_collided : (b : Bool) (p : Place) (s t : List ℕ) (rest : Checked) → cond b (Collision p s t) rest ≡ AllHold → rest ≡ AllHold
not_collided true p s t rest h = cc
not_collided false p s t rest h = h

-- where a check holds, no place breaks
pub none_breaks : (d : List ℕ → List ℕ) (path : Path) (written : Place → List ℕ) (ps : List Place) → check_on d path written ps ≡ AllHold → find (breaks d path) ps ≡ None
none_breaks d path written [] h = refl
none_breaks d path written (p ∷ ps) h =
    let k = not_broken (breaks d path p) p (cond (collides d path written p) (Collision p (path.bytes p) (written p)) (check_on d path written ps)) h in
    cond-false (breaks d path p) (Some p) (find (breaks d path) ps) k.0
    ∙ none_breaks d path written ps (not_collided (collides d path written p) p (path.bytes p) (written p) (check_on d path written ps) k.1)
