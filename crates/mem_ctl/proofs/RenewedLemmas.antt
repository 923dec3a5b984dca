-- Places that are renewed from below: what they hang on, how long they are, and which places they leave.
use Rattle.std.proofs.Common.{◌≡◌, ℕ, ◌+◌, ◌-◌, ◌*◌, ◌%◌, ◌<◌, ◌≤◌, ◌==◌, Bool, true, false, cond, List, [], ◌∷◌, length, refl, sym, ap, ◌∙◌, arith}
use Rattle.std.specs.Prelude.{All}
use Rattle.std.proofs.lemmas.Bool.{cond-false}
use Rattle.std.proofs.lemmas.Bool.Decides.{nat_tests}
use Rattle.std.proofs.lemmas.List.Elements.{All-head, All-tail}
use Rattle.pl_base.specs.declared.place.Place.{Place}
use Rattle.pl_base.specs.declared.place.Place.TheVariants.{Block, Node, RootNode}
use Rattle.pl_digest.specs.Nodes.{with_entry}
use Rattle.mem_geom.specs.Layout.{Exists, memory_size, place_length, place_start}
use Rattle.mem_geom.proofs.Places.{stands_inside}
use Rattle.mem_geom.specs.Tree.{entry_number}
use Rattle.mem_tree.specs.Changes.{PlaceBytes, at_place, bytes_after, renewed, renewed_root}
use Rattle.mem_tree.specs.Paths.{same_place}
use Rattle.mem_ctl.specs.Writes.{with_place, with_places, zone_pages}
use Rattle.mem_ctl.proofs.RootLemmas.{length-with_entry, zone_pages-before}
use Rattle.mem_ctl.proofs.WriteLemmas.{AllFit, length-with_place}

-- the number of an entry is below 8
pub entry_number-below : (zones : ℕ) (place : Place) → Exists zones place → entry_number place < 8
entry_number-below zones (Block page block) exists = omega arith
entry_number-below zones (Node level zone index) exists = either (level == 4) (zone % 8) (index % 8) (omega arith) (omega arith)
  where
    either : (b : Bool) (m n : ℕ) → m < 8 → n < 8 → cond b m n < 8
    either true m n first second = first
    either false m n first second = second
entry_number-below zones (RootNode level index) exists = grind (arith, nat_tests)

module _ (d : List ℕ → List ℕ) where
  -- only the old bytes of the places above matter
  pub renewed-alike : (old other : Place → List ℕ) (place : Place) (bytes : List ℕ) (above : List Place) → All (λ (q : Place). old q ≡ other q) above
      → renewed d old place bytes above ≡ renewed d other place bytes above
  renewed-alike old other place bytes [] same = refl
  renewed-alike old other place bytes (q ∷ qs) same =
      let is : old q ≡ other q = All-head (λ (p : Place). old p ≡ other p) q qs same in
      ap (λ (ws : List PlaceBytes). at_place place bytes ∷ ws)
      (ap (λ (node : List ℕ). renewed d old q (with_entry (entry_number place) (d bytes) node) qs) is
      ∙ renewed-alike old other q (with_entry (entry_number place) (d bytes) (other q)) qs (All-tail (λ (p : Place). old p ≡ other p) q qs same))

  pub renewed_root-alike : (old other : Place → List ℕ) (place : Place) (bytes : List ℕ) (above : List Place) → All (λ (q : Place). old q ≡ other q) above
      → renewed_root d old place bytes above ≡ renewed_root d other place bytes above
  renewed_root-alike old other place bytes [] same = refl
  renewed_root-alike old other place bytes (q ∷ qs) same =
      let is : old q ≡ other q = All-head (λ (p : Place). old p ≡ other p) q qs same in
      ap (λ (node : List ℕ). renewed_root d old q (with_entry (entry_number place) (d bytes) node) qs) is
      ∙ renewed_root-alike old other q (with_entry (entry_number place) (d bytes) (other q)) qs (All-tail (λ (p : Place). old p ≡ other p) q qs same)

  -- a node that exists, and its bytes
  pub record IsNode (zones : ℕ) (old : Place → List ℕ) (place : Place) : Type 0 where
    pub exists : Exists zones place
    pub size : place_length place ≡ 256
    pub length_is : length (old place) ≡ 256

  module _ (law : (m : List ℕ) → length (d m) ≡ 32) (zones : ℕ) (old : Place → List ℕ) where
    pub renewed-fit : (place : Place) (bytes : List ℕ) (above : List Place) → Exists zones place → length bytes ≡ place_length place → All (IsNode zones old) above
        → AllFit zones (renewed d old place bytes above)
    renewed-fit place bytes [] exists size nodes = ((exists, size), tt)
    renewed-fit place bytes (q ∷ qs) exists size nodes =
        let node : IsNode zones old q = All-head (IsNode zones old) q qs nodes in
        let long : length (with_entry (entry_number place) (d bytes) (old q)) ≡ 256 = length-with_entry (old q) (d bytes) (entry_number place) node.length_is (law bytes) (entry_number-below zones place exists) in
        ((exists, size), renewed-fit q (with_entry (entry_number place) (d bytes) (old q)) qs node.exists (long ∙ sym node.size) (All-tail (IsNode zones old) q qs nodes))

  -- a place that is none of them keeps its bytes
  pub renewed-leaves : (old : Place → List ℕ) (place : Place) (bytes : List ℕ) (above : List Place) (q : Place) (was : List ℕ) → same_place place q ≡ false → All (λ (p : Place). same_place p q ≡ false) above
      → bytes_after (renewed d old place bytes above) q was ≡ was
  renewed-leaves old place bytes [] q was apart others = cond-false (same_place place q) bytes was apart
  renewed-leaves old place bytes (p ∷ ps) q was apart others =
      ap (bytes_after (renewed d old p (with_entry (entry_number place) (d bytes) (old p)) ps) q) (cond-false (same_place place q) bytes was apart)
      ∙ renewed-leaves old p (with_entry (entry_number place) (d bytes) (old p)) ps q was (All-head (λ (r : Place). same_place r q ≡ false) p ps others) (All-tail (λ (r : Place). same_place r q ≡ false) p ps others)

-- the place stands behind all pages
abbrev pub IsBehind : ℕ → Place → Type 0
IsBehind zones place = 0x80000000 + 262144 * zones ≤ place_start zones place

abbrev pub AllBehind : ℕ → List PlaceBytes → Type 0
AllBehind zones [] = Unit {0}
AllBehind zones (w ∷ ws) = IsBehind zones w.place × AllBehind zones ws

pub renewed-behind : (d : List ℕ → List ℕ) (zones : ℕ) (old : Place → List ℕ) (place : Place) (bytes : List ℕ) (above : List Place) → IsBehind zones place → All (IsBehind zones) above
    → AllBehind zones (renewed d old place bytes above)
renewed-behind d zones old place bytes [] first rest = (first, tt)
renewed-behind d zones old place bytes (q ∷ qs) first rest =
    (first, renewed-behind d zones old q (with_entry (entry_number place) (d bytes) (old q)) qs (All-head (IsBehind zones) q qs rest) (All-tail (IsBehind zones) q qs rest))

-- writes behind the pages leave them
pub pages-behind : (zones : ℕ) (ws : List PlaceBytes) (memory : List ℕ) → AllFit zones ws → AllBehind zones ws → length memory ≡ memory_size zones → (zone : ℕ) → zone < zones
    → zone_pages (with_places zones memory ws) zone ≡ zone_pages memory zone
pages-behind zones [] memory fit behind sized zone there = refl
pages-behind zones (w ∷ ws) memory fit behind sized zone there =
    pages-behind zones ws (with_place zones memory w) fit.1 behind.1 (length-with_place zones w memory fit.0.0 fit.0.1 sized) zone there
    ∙ zone_pages-before zones memory (place_start zones w.place - 0x80000000) w.bytes (inside w fit.0.0 fit.0.1) (omega (arith, behind.0)) zone there
  where
    inside : (w : PlaceBytes) → Exists zones w.place → length w.bytes ≡ place_length w.place → place_start zones w.place - 0x80000000 + length w.bytes ≤ length memory
    inside w exists size = let h = stands_inside zones w.place exists in omega (arith, h.0, h.1)
