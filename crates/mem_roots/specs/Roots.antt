-- The two nodes over a zone's root in the root table (Merkle trees: R. C. Merkle, CRYPTO 1987).
use Rattle.std.specs.Prelude.{ℕ, ◌/◌, List, not, Option, Some, None, if◌then◌else◌}
use Rattle.std.specs.Str.{bytes_eq}
use Rattle.pl_base.specs.declared.place.Place.{Place}
use Rattle.pl_base.specs.declared.place.Place.TheVariants.{RootNode}
use Rattle.pl_digest.specs.Nodes.{entry}

-- the first of the two that breaks: the top node under the root on chip, then the zone's node under the top node
abbrev pub root_break : (List ℕ → List ℕ) → List ℕ → List ℕ → ℕ → List ℕ → Option Place
root_break digest_of top node zone root =
    if not (bytes_eq (digest_of top) root) then Some (RootNode 2 0)
    else (if not (bytes_eq (digest_of node) (entry (zone / 8) top)) then Some (RootNode 1 (zone / 8)) else None)
