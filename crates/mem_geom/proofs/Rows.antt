-- Places that stand one after another.
use Rattle.std.proofs.Common.{◌≡◌, ℕ, zero, suc, ◌+◌, ◌*◌, List, [], ◌∷◌, ◌++◌, map, arith, subst, sym, refl}
use Rattle.std.specs.List.{range_with_len}
use Rattle.pl_base.specs.declared.place.Place.{Place}
use Rattle.pl_base.specs.declared.place.Place.TheVariants.{Node}
use Rattle.mem_geom.specs.Layout.{place_end, nodes_start, nodes_before_level}
use Rattle.mem_geom.specs.Laws.{StandInARow, level_nodes, NodesFollowOneAnother}

-- one row after another is a row
StandInARow-append : (zones from middle to : ℕ) (ps qs : List Place) → StandInARow zones from ps middle → StandInARow zones middle qs to → StandInARow zones from (ps ++ qs) to
StandInARow-append zones from middle to [] qs h k = subst (λ (x : ℕ). StandInARow zones x qs to) (sym h) k
StandInARow-append zones from middle to (p ∷ ps) qs h k = (h.0, StandInARow-append zones (place_end zones p) middle to ps qs h.1 k)

-- nodes of one level, from number a on
some_of_level : (zones zone level a n from to : ℕ) → from ≡ nodes_start zones zone + 256 * (nodes_before_level level + a) → to ≡ from + 256 * n
    → StandInARow zones from (map (Node level zone) (range_with_len a n)) to
some_of_level zones zone level a zero from to at ends = omega arith
some_of_level zones zone level a (suc n) from to at ends =
    (sym at, some_of_level zones zone level (a + 1) n (place_end zones (Node level zone a)) to (omega arith) (omega arith))

-- a level's first nodes
of_level : (zones zone level n from to : ℕ) → from ≡ nodes_start zones zone + 256 * nodes_before_level level → to ≡ from + 256 * n
    → StandInARow zones from (level_nodes zone level n) to
unfolding level_nodes
of_level zones zone level n from to at ends = some_of_level zones zone level 0 n from to (omega arith) ends

-- all nodes of a zone
pub nodes_in_a_row : NodesFollowOneAnother
nodes_in_a_row zones zone =
    let start : ℕ = nodes_start zones zone in
    StandInARow-append zones start (start + 256 * 584) (nodes_start zones (zone + 1)) (level_nodes zone 1 512 ++ level_nodes zone 2 64 ++ level_nodes zone 3 8) (level_nodes zone 4 1)
    (StandInARow-append zones start (start + 256 * 576) (start + 256 * 584) (level_nodes zone 1 512 ++ level_nodes zone 2 64) (level_nodes zone 3 8)
    (StandInARow-append zones start (start + 256 * 512) (start + 256 * 576) (level_nodes zone 1 512) (level_nodes zone 2 64)
    (of_level zones zone 1 512 start (start + 256 * 512) (omega arith) refl)
    (of_level zones zone 2 64 (start + 256 * 512) (start + 256 * 576) refl (omega arith)))
    (of_level zones zone 3 8 (start + 256 * 576) (start + 256 * 584) refl (omega arith)))
    (of_level zones zone 4 1 (start + 256 * 584) (nodes_start zones (zone + 1)) refl (omega arith))
