-- The places of a path, each from the top (a layout of our own).
use Rattle.std.specs.Prelude.{ℕ, ◌+◌, ◌*◌, ◌/◌, ◌%◌, List, [], ◌∷◌, ◌++◌, map}
use Rattle.std.specs.List.{range_with_len}
use Rattle.pl_base.specs.declared.place.Place.{Place}
use Rattle.pl_base.specs.declared.place.Place.TheVariants.{Block, Node, RootNode}

-- of a page that is replaced: the nodes that stay above it
abbrev pub replaced_places : ℕ → List Place
replaced_places page = Node 4 (page / 64) 0 ∷ Node 3 (page / 64) (page % 64 / 8) ∷ []

-- of a word: the four nodes over its block, and the block
abbrev pub word_places : ℕ → ℕ → List Place
word_places page block =
    Node 4 (page / 64) 0 ∷ Node 3 (page / 64) (page % 64 / 8) ∷ Node 2 (page / 64) (page % 64) ∷ Node 1 (page / 64) (8 * (page % 64) + block / 8) ∷ Block page block
    ∷ []

-- the eight nodes over a page's blocks
unfoldable pub level1_places : ℕ → List Place
level1_places page = map (λ k. Node 1 (page / 64) (8 * (page % 64) + k)) (range_with_len 0 8)

-- its 64 blocks
unfoldable pub block_places : ℕ → List Place
block_places page = map (Block page) (range_with_len 0 64)

-- of a whole page
abbrev pub page_places : ℕ → List Place
page_places page = Node 4 (page / 64) 0 ∷ Node 3 (page / 64) (page % 64 / 8) ∷ Node 2 (page / 64) (page % 64) ∷ (level1_places page ++ block_places page)

-- of a mounting or an eviction: the top node of the root table, and the one that has the zone's root
abbrev pub root_places : ℕ → List Place
root_places zone = RootNode 2 0 ∷ RootNode 1 (zone / 8) ∷ []
