-- Paths of places from the top of a Merkle tree (R. C. Merkle, CRYPTO 1987), and the digests held above them.
use Rattle.std.specs.Prelude.{ℕ, ◌==◌, ◌&&◌, Bool, false, not, List, [], ◌∷◌, Option, find, if◌then◌else◌}
use Rattle.std.specs.Option.{option_map_or}
use Rattle.std.specs.Str.{bytes_eq}
use Rattle.pl_base.specs.declared.place.Place.{Place}
use Rattle.pl_base.specs.declared.place.Place.TheVariants.{Block, Node, RootNode}
use Rattle.pl_digest.specs.Nodes.{entry}
use Rattle.mem_geom.specs.Tree.{parent, entry_number}

-- a root, places from the top, and the bytes of each place as taken
pub record Path : Type 0 where
  pub root : List ℕ
  pub places : List Place
  pub bytes : Place → List ℕ

abbrev pub path_of : List ℕ → List Place → (Place → List ℕ) → Path
path_of root places bytes = record { root = root; places = places; bytes = bytes }

-- the two are one place
abbrev pub same_place : Place → Place → Bool
same_place (Block page block) (Block other number) = (page == other) && (block == number)
same_place (Node level zone index) (Node height other number) = (level == height) && (zone == other) && (index == number)
same_place (RootNode level index) (RootNode height number) = (level == height) && (index == number)
same_place _ _ = false

-- the place is the first of the list
abbrev pub is_first : List Place → Place → Bool
is_first [] place = false
is_first (first ∷ places) place = same_place first place

-- the digest held for a place: the root for the topmost, and otherwise its entry in the taken bytes of its parent
abbrev pub held : Path → Place → List ℕ
held path place =
    if is_first path.places place then path.root
    else option_map_or (λ above. entry (entry_number place) (path.bytes above)) (parent place) []

module _ (digest_of : List ℕ → List ℕ) where
  -- the place breaks: the digest of its bytes is not the one held
  abbrev pub breaks : Path → Place → Bool
  breaks path place = not (bytes_eq (digest_of (path.bytes place)) (held path place))

  -- the first place of a path that breaks
  abbrev pub first_break : Path → Option Place
  first_break path = find (breaks path) path.places
