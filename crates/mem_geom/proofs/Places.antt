-- The place at an address, and how places stand to one another.
use Rattle.std.proofs.Common.{◌≡◌, ℕ, ◌+◌, ◌-◌, ◌*◌, ◌/◌, ◌%◌, ◌<◌, ◌≤◌, ◌⊎◌, ⊎_elim, arith}
use Rattle.std.proofs.lemmas.Grind.{common_steps}
use Rattle.std.proofs.lemmas.Bool.{cases_lt}
use Rattle.std.proofs.lemmas.Bool.Decides.{nat_tests}
use Rattle.pl_base.specs.declared.place.Place.{Place}
use Rattle.pl_base.specs.declared.place.Place.TheVariants.{Block, Node, RootNode}
use Rattle.mem_geom.specs.Layout.{Exists, place_start, place_end, nodes_start, memory_end}
use Rattle.mem_geom.specs.Laws.{AreApart, HasByte}

-- two places that exist are one place or stand apart
pub one_or_apart : (zones : ℕ) (p q : Place) → Exists zones p → Exists zones q → (p ≡ q) ⊎ AreApart zones p q
one_or_apart zones p q = grind (arith, common_steps)

-- off-chip memory holds the places that exist
pub stands_inside : (zones : ℕ) (place : Place) → Exists zones place → (0x80000000 ≤ place_start zones place) × (place_end zones place ≤ memory_end zones)
stands_inside zones (Block page block) h = (omega arith, omega arith)
stands_inside zones (Node level zone index) h = grind (arith, nat_tests)
stands_inside zones (RootNode level index) h = grind (arith, nat_tests)

-- a byte has one place at most
pub one_place : (zones address : ℕ) (p q : Place) → HasByte zones p address → HasByte zones q address → p ≡ q
one_place zones address p q hp hq =
    ⊎_elim (λ e. e) (λ (apart : AreApart zones p q). absurd (⊎_elim (λ (h : place_end zones p ≤ place_start zones q). let from = hq.from in let to = hp.to in omega arith) (λ (h : place_end zones q ≤ place_start zones p). let from = hp.from in let to = hq.to in omega arith) apart)) (one_or_apart zones p q hp.exists hq.exists)

-- the byte of a page's block
in_page : (zones address : ℕ) → 0x80000000 ≤ address → address < 0x80000000 + 262144 * zones → (place : Place) × HasByte zones place address
in_page zones address from to =
    let at : ℕ = address - 0x80000000 in
    (Block (at / 4096) (at % 4096 / 64), record { exists = (omega arith, omega arith); from = omega arith; to = omega arith })

-- the byte of node number n of a zone
in_node : (zones zone n address : ℕ) → zone < zones → n < 585 → nodes_start zones zone + 256 * n ≤ address → address < nodes_start zones zone + 256 * n + 256
    → (place : Place) × HasByte zones place address
in_node zones zone n address in_zones below from to =
    ⊎_elim
    (λ (one : n < 512). (Node 1 zone n, record { exists = (in_zones, one); from = omega arith; to = omega arith }))
    (λ (above1 : 512 ≤ n). ⊎_elim
    (λ (two : n < 576). (Node 2 zone (n - 512), record { exists = (in_zones, omega arith); from = omega arith; to = omega arith }))
    (λ (above2 : 576 ≤ n). ⊎_elim
    (λ (three : n < 584). (Node 3 zone (n - 576), record { exists = (in_zones, omega arith); from = omega arith; to = omega arith }))
    (λ (above3 : 584 ≤ n). (Node 4 zone 0, record { exists = (in_zones, omega arith); from = omega arith; to = omega arith }))
    (cases_lt n 584))
    (cases_lt n 576))
    (cases_lt n 512)

-- the byte of a node of the root table
in_table : (zones address : ℕ) → nodes_start zones zones ≤ address → address < memory_end zones → (place : Place) × HasByte zones place address
in_table zones address from to =
    let n : ℕ = (address - nodes_start zones zones) / 256 in
    ⊎_elim
    (λ (one : n < 8). (RootNode 1 n, record { exists = one; from = omega arith; to = omega arith }))
    (λ (two : 8 ≤ n). (RootNode 2 0, record { exists = omega arith; from = omega arith; to = omega arith }))
    (cases_lt n 8)

-- each byte has a place
pub some_place : (zones address : ℕ) → 0x80000000 ≤ address → address < memory_end zones → (place : Place) × HasByte zones place address
some_place zones address from to =
    let at : ℕ = address - (0x80000000 + 262144 * zones) in
    ⊎_elim
    (λ (page : address < 0x80000000 + 262144 * zones). in_page zones address from page)
    (λ (past : 0x80000000 + 262144 * zones ≤ address). ⊎_elim
    (λ (node : address < nodes_start zones zones). in_node zones (at / 149760) (at % 149760 / 256) address (omega arith) (omega arith) (omega arith) (omega arith))
    (λ (table : nodes_start zones zones ≤ address). in_table zones address table to)
    (cases_lt address (nodes_start zones zones)))
    (cases_lt address (0x80000000 + 262144 * zones))
