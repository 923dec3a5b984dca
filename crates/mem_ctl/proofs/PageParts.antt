-- The pages of a memory, one by one, from those of its zones.
use Rattle.std.proofs.Common.{◌≡◌, ℕ, ◌+◌, ◌-◌, ◌*◌, ◌/◌, ◌%◌, ◌<◌, ◌≤◌, ◌==◌, cond, true, false, List, length, sym, ap, ◌∙◌, arith, ⊎_elim}
use Rattle.std.proofs.lemmas.Bool.{cases_Bool, cond-false, cond-true, eqb-true, eqb-false, false≢true}
use Rattle.std.proofs.lemmas.Bool.Decides.{nat_tests}
use Rattle.pl_base.specs.Bytes.{bytes_at, with_bytes}
use Rattle.pl_base.specs.declared.place.Place.{Place}
use Rattle.pl_base.specs.declared.place.Place.TheVariants.{Block, Node, RootNode}
use Rattle.mem_geom.specs.Layout.{Exists, memory_size, nodes_of_level, place_bytes, place_end, place_length, place_start, table_start}
use Rattle.mem_geom.specs.Parts.{page_bytes}
use Rattle.mem_geom.proofs.Parts.{bytes_at-bytes_at}
use Rattle.mem_geom.proofs.Places.{stands_inside}
use Rattle.mem_tree.specs.Trees.{nth}
use Rattle.mem_ctl.specs.Results.{is_of_zone}
use Rattle.mem_ctl.specs.Writes.{zone_pages}
use Rattle.mem_ctl.specs.WrittenPages.{ChangesPage, KeepsPages, KeepsZones}
use Rattle.mem_ctl.proofs.PageLemmas.{other_page, own_page}
use Rattle.mem_ctl.proofs.ZoneLemmas.{page_is}

-- a page of a zone with the same pages
pub page_stays : (old new : List ℕ) (page : ℕ) → zone_pages new (page / 64) ≡ zone_pages old (page / 64) → page_bytes new page ≡ page_bytes old page
page_stays old new page same = sym (page_is new page) ∙ ap (λ (ps : List (List ℕ)). nth ps (page % 64)) same ∙ page_is old page

-- bytes are written into a page, and no zone's pages change by more than that
pub one_page_written : (memory new : List ℕ) (zones page at : ℕ) (bytes : List ℕ) → length memory ≡ memory_size zones → page < 64 * zones → at + length bytes ≤ 4096
    → ((zone : ℕ) → zone < zones → zone_pages new zone ≡ zone_pages (with_bytes memory (4096 * page + at) bytes) zone) → ChangesPage zones page (with_bytes (page_bytes memory page) at bytes) memory new
one_page_written memory new zones page at bytes sized there inside each other below =
    let after : List ℕ = with_bytes memory (4096 * page + at) bytes in
    let own : List ℕ = with_bytes (page_bytes memory page) at bytes in
    page_stays after new other (each (other / 64) (omega arith))
    ∙ ⊎_elim
    (λ (here : (other == page) ≡ true). ap (page_bytes after) (eqb-true other page here) ∙ own_page memory zones page at bytes sized there inside ∙ sym (cond-true (other == page) own (page_bytes memory other) here))
    (λ (apart : (other == page) ≡ false). other_page memory zones page at bytes sized there inside other (eqb-false other page apart) ∙ sym (cond-false (other == page) own (page_bytes memory other) apart))
    (cases_Bool (other == page))

-- a page is changed from its own bytes, after a step that kept all pages
pub change_after : (zones there_zones page : ℕ) (change : List ℕ → List ℕ) (old between new : List ℕ) → there_zones ≡ zones → page < 64 * zones → KeepsPages zones old between
    → ChangesPage there_zones page (change (page_bytes between page)) between new → ChangesPage zones page (change (page_bytes old page)) old new
change_after zones there_zones page change old between new same there kept changes other below =
    changes other (omega arith) ∙ ap (cond (other == page) (change (page_bytes between page))) (kept other below)
    ∙ ap (λ (bytes : List ℕ). cond (other == page) (change bytes) (page_bytes old other)) (kept page there)

-- ---- below the root table

-- a block or a node of a zone ends where the root table begins, or before
node_ends : (zones level zone index : ℕ) → zone < zones → index < nodes_of_level level → place_end zones (Node level zone index) ≤ table_start zones
node_ends zones level zone index there below = grind (arith, nat_tests)

zone_place-ends : (zones : ℕ) (place : Place) → Exists zones place → is_of_zone place ≡ true → place_end zones place ≤ table_start zones
zone_place-ends zones (Block page block) exists of = omega arith
zone_place-ends zones (Node level zone index) exists of = node_ends zones level zone index exists.0 exists.1
zone_place-ends zones (RootNode level index) exists of = absurd (false≢true of)

-- it stays where all below the root table does
pub zone_place-stays : (zones : ℕ) (old new : List ℕ) (place : Place) → KeepsZones zones old new → Exists zones place → is_of_zone place ≡ true → place_bytes zones new place ≡ place_bytes zones old place
zone_place-stays zones old new place kept exists of =
    let at : ℕ = place_start zones place - 0x80000000 in
    let front : ℕ = table_start zones - 0x80000000 in
    let inside = stands_inside zones place exists in
    let ends = zone_place-ends zones place exists of in
    let part = λ (memory : List ℕ). bytes_at-bytes_at memory 0 front at (place_length place) (omega (arith, inside.0)) in
    let from : 0 + at ≡ at = omega arith in
    let own = λ (memory : List ℕ). ap (λ (k : ℕ). bytes_at memory k (place_length place)) from in
    sym (part new ∙ own new) ∙ ap (λ (all : List ℕ). bytes_at all at (place_length place)) kept ∙ part old ∙ own old
