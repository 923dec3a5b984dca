-- The parts of a word's path as the code has them.
use Rattle.std.specs.Prelude.{ℕ, ◌≡◌, ◌+◌, ◌*◌, ◌/◌, ◌%◌, List, [], ◌∷◌}
use Rattle.pl_base.specs.Bytes.{with_bytes}
use Rattle.pl_base.specs.declared.place.Place.TheVariants.{Block, Node}
use Rattle.pl_digest.specs.Nodes.{with_entry}
use Rattle.mem_tree.specs.declared.new_path.NewPath.{NewPath}
use Rattle.mem_tree.specs.Changes.{PlaceBytes, at_place}
use Rattle.mem_ctl.specs.Calls.{with_root}
use Rattle.mem_ctl.specs.Data.{CtlData}
use Rattle.mem_ctl.specs.Mounting.{put}

-- its places with its parts, from below
abbrev pub path_written : ℕ → ℕ → NewPath → List PlaceBytes
path_written page block path =
    at_place (Block page block) path.block ∷ at_place (Node 1 (page / 64) (8 * (page % 64) + block / 8)) path.level1 ∷ at_place (Node 2 (page / 64) (page % 64)) path.level2
    ∷ at_place (Node 3 (page / 64) (page % 64 / 8)) path.level3 ∷ at_place (Node 4 (page / 64) 0) path.level4 ∷ []

-- they are written, and the zone's slot gets its root
abbrev pub stored : CtlData → ℕ → ℕ → NewPath → CtlData
stored x page block path = with_root (put x (path_written page block path)) (page / 64) path.root

-- the path has other bytes in its block, and in each node the digest of what is new below it
pub record IsNewPath (digest_of : List ℕ → List ℕ) (old : NewPath) (page b at : ℕ) (part : List ℕ) (path : NewPath) : Type 0 where
  pub block : path.block ≡ with_bytes old.block at part
  pub level1 : path.level1 ≡ with_entry (b % 8) (digest_of path.block) old.level1
  pub level2 : path.level2 ≡ with_entry (b / 8) (digest_of path.level1) old.level2
  pub level3 : path.level3 ≡ with_entry (page % 8) (digest_of path.level2) old.level3
  pub level4 : path.level4 ≡ with_entry (page % 64 / 8) (digest_of path.level3) old.level4
  pub root : path.root ≡ digest_of path.level4
