-- The check of a path against written bytes, and what it tells.
use Rattle.std.specs.Prelude.{ℕ, ◌≡◌, ◌≢◌, ◌&&◌, Bool, true, false, not, List, [], ◌∷◌, ◌++◌, None, All, Contains, if◌then◌else◌}
use Rattle.std.specs.List.{list_any}
use Rattle.std.specs.Option.{option_map_or}
use Rattle.std.specs.Str.{bytes_eq}
use Rattle.pl_base.specs.declared.place.Place.{Place}
use Rattle.mem_geom.specs.Tree.{parent}
use Rattle.mem_tree.specs.Paths.{Path, breaks, first_break, is_first, path_of, same_place}

-- what a check says: each place holds, or the first that does not, with its taken and its written bytes
pub data Checked : Type 0 where
  Holds : Checked
  Fault : Place → Checked
  Collision : Place → List ℕ → List ℕ → Checked

module _ (digest_of : List ℕ → List ℕ) where
  -- the place collides with the written bytes: it does not break, other bytes were written, and both have one digest
  abbrev pub collides : Path → (Place → List ℕ) → Place → Bool
  collides path written place =
      not (breaks digest_of path place) && not (bytes_eq (path.bytes place) (written place)) && bytes_eq (digest_of (path.bytes place)) (digest_of (written place))

  -- the first of the places that breaks or collides
  abbrev pub check_on : Path → (Place → List ℕ) → List Place → Checked
  check_on path written [] = Holds
  check_on path written (place ∷ places) =
      if breaks digest_of path place then Fault place
      else (if collides path written place then Collision place (path.bytes place) (written place) else check_on path written places)

  abbrev pub check : Path → (Place → List ℕ) → Checked
  check path written = check_on path written path.places

  -- the first of the places that breaks or was written otherwise
  abbrev pub plain_check_on : Path → (Place → List ℕ) → List Place → Checked
  plain_check_on path written [] = Holds
  plain_check_on path written (place ∷ places) =
      if breaks digest_of path place then Fault place
      else (if bytes_eq (path.bytes place) (written place) then plain_check_on path written places else Collision place (path.bytes place) (written place))

  abbrev pub plain_check : Path → (Place → List ℕ) → Checked
  plain_check path written = plain_check_on path written path.places

-- the path of the written bytes
abbrev pub written_path : Path → (Place → List ℕ) → Path
written_path path written = path_of path.root path.places written

-- a place is among those of a list
abbrev pub has_place : List Place → Place → Bool
has_place places place = list_any (λ other. same_place other place) places

-- each place of the rest is not the first of those above it, and has its parent among them
abbrev pub IsTopDownFrom : List Place → List Place → Type 0
IsTopDownFrom above [] = Unit {0}
IsTopDownFrom above (place ∷ places) =
    ((is_first above place ≡ false) × (option_map_or (has_place above) (parent place) false ≡ true)) × IsTopDownFrom (above ++ place ∷ []) places

-- each place but the first comes after its parent
abbrev pub IsTopDown : List Place → Type 0
IsTopDown [] = Unit {0}
IsTopDown (place ∷ places) = IsTopDownFrom (place ∷ []) places

-- the path goes from the top down, and the written bytes hold under its root
pub record IsWrittenPath (digest_of : List ℕ → List ℕ) (path : Path) (written : Place → List ℕ) : Type 0 where
  pub top_down : IsTopDown path.places
  pub holds : first_break digest_of (written_path path written) ≡ None

-- there a place that does not break and was written otherwise collides
abbrev pub DifferencesCollide : (List ℕ → List ℕ) → Type 0
DifferencesCollide digest_of = (path : Path) (written : Place → List ℕ) → IsWrittenPath digest_of path written → check digest_of path written ≡ plain_check digest_of path written

-- two unequal lists of bytes with one digest, the first taken at a place, the second written there
pub record AreOneDigest (digest_of : List ℕ → List ℕ) (path : Path) (written : Place → List ℕ) (place : Place) (held other : List ℕ) : Type 0 where
  pub among : Contains path.places place
  pub as_taken : held ≡ path.bytes place
  pub as_written : other ≡ written place
  pub differ : held ≢ other
  pub one : digest_of held ≡ digest_of other

-- what a check tells: where it holds, each place has its written bytes; at a fault, the taken bytes aren't the written
-- ones; at a collision, they are two of one digest
abbrev pub Tells : (List ℕ → List ℕ) → Path → (Place → List ℕ) → Checked → Type 0
Tells digest_of path written Holds = All (λ place. path.bytes place ≡ written place) path.places
Tells digest_of path written (Fault place) = Contains path.places place × (path.bytes place ≢ written place)
Tells digest_of path written (Collision place held other) = AreOneDigest digest_of path written place held other

abbrev pub ChecksTell : (List ℕ → List ℕ) → Type 0
ChecksTell digest_of = (path : Path) (written : Place → List ℕ) → IsWrittenPath digest_of path written → Tells digest_of path written (check digest_of path written)

-- the same answers, whatever is checked
pub record AnswersAlike (digest_of : List ℕ → List ℕ) (path other : Path) : Type 0 where
  pub breaks : first_break digest_of path ≡ first_break digest_of other
  pub checks : (written : Place → List ℕ) → check digest_of path written ≡ check digest_of other written

-- only the bytes of a path's own places matter
abbrev pub OwnBytesMatter : (List ℕ → List ℕ) → Type 0
OwnBytesMatter digest_of = (root : List ℕ) (places : List Place) (bytes others : Place → List ℕ) → IsTopDown places → All (λ place. bytes place ≡ others place) places
    → AnswersAlike digest_of (path_of root places bytes) (path_of root places others)
