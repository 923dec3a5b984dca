-- The path of a word: the four nodes over its block, and the block.
use Rattle.std.specs.Prelude.{ℕ, ◌≡◌, ◌+◌, ◌<◌, ◌≤◌, ◌*◌, ◌/◌, ◌%◌, ◌==◌, IsTrue, List, [], Option, Some, None, if◌then◌else◌}
use Rattle.pl_base.specs.declared.place.Place.{Place}
use Rattle.pl_base.specs.declared.place.Place.TheVariants.{Block, Node, RootNode}
use Rattle.pl_base.specs.Width.{is_width}
use Rattle.mem_geom.specs.PathPlaces.{word_places}
use Rattle.mem_tree.specs.declared.new_path.NewPath.{NewPath}
use Rattle.mem_tree.specs.declared.sealed.Verdict.{Verdict}
use Rattle.mem_tree.specs.declared.sealed.Verdict.TheVariants.{Holds, Breaks}
use Rattle.mem_tree.specs.declared.taken.Taken.{Taken}
use Rattle.mem_tree.specs.Checks.{AnswersAlike}
use Rattle.mem_tree.specs.Paths.{Path, first_break, path_of}

-- the parts of a word's path, where these are the root and the bytes of each place
abbrev pub word_path : List ℕ → (Place → List ℕ) → ℕ → ℕ → NewPath
word_path root bytes page block = record {
  block = bytes (Block page block);
  level1 = bytes (Node 1 (page / 64) (8 * (page % 64) + block / 8));
  level2 = bytes (Node 2 (page / 64) (page % 64));
  level3 = bytes (Node 3 (page / 64) (page % 64 / 8));
  level4 = bytes (Node 4 (page / 64) 0);
  root = root;
}

-- the parts that were taken
abbrev pub parts_of : {D : _} → Taken D → NewPath
parts_of taken = record {
  block = taken.block;
  level1 = taken.level1;
  level2 = taken.level2;
  level3 = taken.level3;
  level4 = taken.level4;
  root = taken.root;
}

-- the bytes of each place of a path with these parts
abbrev pub part_bytes : NewPath → Place → List ℕ
part_bytes path (Block page block) = path.block
part_bytes path (Node level zone index) =
    if level == 1 then path.level1 else (if level == 2 then path.level2 else (if level == 3 then path.level3 else path.level4))
part_bytes path (RootNode level index) = []

-- the path of a word with these parts
abbrev pub parts_path : ℕ → ℕ → NewPath → Path
parts_path page block parts = path_of parts.root (word_places page block) (part_bytes parts)

-- the path of a taken block
abbrev pub taken_path : {D : _} → Taken D → Path
taken_path taken = parts_path taken.page taken.block_no (parts_of taken)

-- the path of a word's parts answers as the path of the bytes that they came from
abbrev pub PartsAnswerAlike : (List ℕ → List ℕ) → Type 0
PartsAnswerAlike digest_of = (root : List ℕ) (bytes : Place → List ℕ) (page block : ℕ) → block < 64
    → AnswersAlike digest_of (parts_path page block (word_path root bytes page block)) (path_of root (word_places page block) bytes)

-- its page is one of 64 zones, and its block one of the page
pub record IsInRange {D : Type 0} (taken : Taken D) : Type 0 where
  pub page : taken.page < 4096
  pub block : taken.block_no < 64

-- the verdict: the first place that breaks, if one does
abbrev pub verdict_of : Option Place → Verdict
verdict_of None = Holds
verdict_of (Some place) = Breaks place

-- what a sealed path keeps
pub record IsChecked {D : Type 0} (digest_of : List ℕ → List ℕ) (taken : Taken D) (verdict : Verdict) : Type 0 where
  pub in_range : IsInRange taken
  pub is : verdict ≡ verdict_of (first_break digest_of (taken_path taken))

-- 1, 2, 4 or 8 bytes of a block, aligned to their width
pub record IsPart (offset width : ℕ) : Type 0 where
  pub is_width : IsTrue (is_width width)
  pub is_aligned : offset % width ≡ 0
  pub is_inside : offset + width ≤ 64
