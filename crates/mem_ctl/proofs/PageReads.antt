-- A page that is read is the mirror's.
use Rattle.std.proofs.Common.{◌≡◌, ℕ, ◌+◌, ◌-◌, ◌*◌, ◌<◌, List, drop, subst, sym, ap, ◌∙◌, arith}
use Rattle.std.specs.Prelude.{All, nat_lt}
use Rattle.std.proofs.lemmas.Bool.{cond-false, le-ltb}
use Rattle.std.proofs.lemmas.List.{same_lists, take-take}
use Rattle.std.specs.List.{concat}
use Rattle.pl_digest.specs.Trees.{pieces}
use Rattle.pl_digest.proofs.PieceLemmas.{get_or-pieces, length-pieces}
use Rattle.pl_base.specs.declared.place.Place.{Place}
use Rattle.pl_base.specs.declared.place.Place.TheVariants.{Block}
use Rattle.mem_geom.specs.Layout.{place_bytes}
use Rattle.mem_geom.specs.Parts.{page_bytes}
use Rattle.mem_geom.specs.PathPlaces.{page_places}
use Rattle.mem_geom.proofs.PartPlaces.{parts_are_places}
use Rattle.mem_ctl.specs.Data.{CtlData}
use Rattle.mem_ctl.specs.Mounting.{taken, written}
use Rattle.mem_ctl.specs.Pages.{page_place}
use Rattle.mem_ctl.proofs.Joined.{concat-pieces_of}
use Rattle.mem_ctl.proofs.PagePlaces.{later, length-page_places, page_places-at}

-- the last places of the path are the blocks
block_at : (page j : ℕ) → page_place page (j + 11) ≡ Block page j
block_at page j =
    let own : j + 11 - 11 ≡ j = omega arith in
    later page (j + 11) (omega arith) ∙ cond-false (nat_lt (j + 11) 11) _ _ (le-ltb (j + 11) 11 (omega arith)) ∙ ap (Block page) own

-- a page with the same blocks in two memories
same_blocks : (zones page : ℕ) (a b : List ℕ) → ((k : ℕ) → k < 64 → place_bytes zones a (Block page k) ≡ place_bytes zones b (Block page k)) → page_bytes a page ≡ page_bytes b page
same_blocks zones page a b each =
    let blocks = λ (m : List ℕ). pieces 64 64 (page_bytes m page) in
    let whole = λ (m : List ℕ). concat-pieces_of 64 64 (page_bytes m page) ∙ take-take 4096 4096 (drop (4096 * page) m) (omega arith) in
    let block = λ (m : List ℕ) (k : ℕ) (e : List ℕ) (below : k < 64). get_or-pieces 64 64 (page_bytes m page) k e below ∙ sym (parts_are_places.blocks zones page k m below) in
    let same : blocks a ≡ blocks b =
    same_lists (blocks a) (blocks b) (length-pieces 64 64 (page_bytes a page) ∙ sym (length-pieces 64 64 (page_bytes b page)))
    (λ k e h. let below : k < 64 = omega (arith, length-pieces 64 64 (page_bytes a page)) in block a k e below ∙ each k below ∙ sym (block b k e below)) in
    sym (whole a) ∙ ap concat same ∙ whole b

-- where each place of the page's path is as it was written, so is the page
pub page_of_path : (x : CtlData) (page : ℕ) → All (λ (q : Place). taken x q ≡ written x q) (page_places page) → page_bytes x.off_chip page ≡ page_bytes x.mirror page
page_of_path x page all =
    same_blocks x.zones page x.off_chip x.mirror
    (λ j below.
    let at : j + 11 < 75 = omega arith in
    subst (λ (q : Place). taken x q ≡ written x q) (page_places-at page (j + 11) (Block 0 0) at ∙ block_at page j) (all (j + 11) (Block 0 0) (omega (arith, length-page_places page))))
