-- Whole pages: the place at a position of the path, and what a read answers.
use Rattle.std.specs.Prelude.{ℕ, ◌+◌, ◌-◌, ◌*◌, ◌/◌, ◌%◌, ◌==◌, List, [], ◌∷◌, nat_lt, if◌then◌else◌, Result, Ok, Err}
use Rattle.pl_base.specs.declared.place.Place.{Place}
use Rattle.pl_base.specs.declared.place.Place.TheVariants.{Block, Node}
use Rattle.mem_tree.specs.Changes.{at_place}
use Rattle.mem_ctl.specs.Writes.{with_page_under, with_places}
use Rattle.mem_ctl.specs.declared.broken.Broken.{Broken}
use Rattle.mem_ctl.specs.declared.broken.Broken.TheVariants as broken
use Rattle.mem_ctl.specs.Data.{Outcome, Value, Fault, Collision}

-- the place at a position of a whole page's path: three nodes, eight of level 1, and 64 blocks
abbrev pub page_place : ℕ → ℕ → Place
page_place page i =
    if i == 0 then Node 4 (page / 64) 0
    else (if i == 1 then Node 3 (page / 64) (page % 64 / 8)
    else (if i == 2 then Node 2 (page / 64) (page % 64)
    else (if nat_lt i 11 then Node 1 (page / 64) (8 * (page % 64) + (i - 3)) else Block page (i - 11))))

-- what a read of a page answers, by the bytes that it left
abbrev pub got_outcome : List ℕ → Result (Unit {0}) Broken → Outcome (List ℕ)
got_outcome bytes (Ok done) = Value bytes
got_outcome bytes (Err (broken.Fault place)) = Fault place
got_outcome bytes (Err (broken.Collision c)) = Collision c.place c.held.items c.written.items

-- a memory with a page and the nodes over it
abbrev pub page_written : ℕ → ℕ → List ℕ → List ℕ → List ℕ → List ℕ → List ℕ → List ℕ → List ℕ
page_written zones page bytes level1 level2 level3 level4 memory =
    with_places zones (with_page_under zones page bytes level1 memory)
    (at_place (Node 2 (page / 64) (page % 64)) level2 ∷ at_place (Node 3 (page / 64) (page % 64 / 8)) level3 ∷ at_place (Node 4 (page / 64) 0) level4 ∷ [])
