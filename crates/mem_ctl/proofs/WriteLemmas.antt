-- What writes at places leave of a memory.
use Rattle.std.proofs.Common.{◌≡◌, ◌≢◌, ℕ, Bool, true, false, cond, List, [], ◌∷◌, length, sym, ap, ◌∙◌, refl}
use Rattle.std.proofs.lemmas.Bool.{false≢true}
use Rattle.pl_base.specs.declared.place.Place.{Place}
use Rattle.mem_geom.specs.Layout.{Exists, memory_size, place_bytes, place_length}
use Rattle.mem_geom.proofs.Writes.{one_place_changes}
use Rattle.mem_tree.specs.Changes.{PlaceBytes, bytes_after}
use Rattle.mem_tree.specs.Paths.{same_place}
use Rattle.mem_tree.proofs.PathPlaces.{is_same, same_place-refl}
use Rattle.mem_ctl.specs.Writes.{with_place, with_places}

-- each place exists, and has its length
abbrev pub AllFit : ℕ → List PlaceBytes → Type 0
AllFit zones [] = Unit {0}
AllFit zones (w ∷ ws) = (Exists zones w.place × (length w.bytes ≡ place_length w.place)) × AllFit zones ws

differs : (p q : Place) → same_place p q ≡ false → q ≢ p
differs p q other = λ same. false≢true (sym other ∙ ap (same_place p) same ∙ same_place-refl p)

one : (zones : ℕ) (w : PlaceBytes) (memory : List ℕ) (q : Place) → (b : Bool) → same_place w.place q ≡ b → Exists zones w.place → length w.bytes ≡ place_length w.place → Exists zones q
    → length memory ≡ memory_size zones → place_bytes zones (with_place zones memory w) q ≡ cond b w.bytes (place_bytes zones memory q)
one zones w memory q true is there size exists sized =
    ap (λ (p : Place). place_bytes zones (with_place zones memory w) p) (sym (is_same w.place q is)) ∙ (one_place_changes zones w.place memory w.bytes there sized size).changed
one zones w memory q false is there size exists sized = (one_place_changes zones w.place memory w.bytes there sized size).others q exists (differs w.place q is)

pub length-with_place : (zones : ℕ) (w : PlaceBytes) (memory : List ℕ) → Exists zones w.place → length w.bytes ≡ place_length w.place → length memory ≡ memory_size zones → length (with_place zones memory w) ≡ memory_size zones
length-with_place zones w memory there size sized = (one_place_changes zones w.place memory w.bytes there sized size).length ∙ sized

pub length-with_places : (zones : ℕ) (ws : List PlaceBytes) (memory : List ℕ) → AllFit zones ws → length memory ≡ memory_size zones → length (with_places zones memory ws) ≡ memory_size zones
length-with_places zones [] memory fit sized = sized
length-with_places zones (w ∷ ws) memory fit sized = length-with_places zones ws (with_place zones memory w) fit.1 (length-with_place zones w memory fit.0.0 fit.0.1 sized)

-- each place after writes
pub with_places-at : (zones : ℕ) (ws : List PlaceBytes) (memory : List ℕ) (q : Place) → AllFit zones ws → Exists zones q → length memory ≡ memory_size zones
    → place_bytes zones (with_places zones memory ws) q ≡ bytes_after ws q (place_bytes zones memory q)
with_places-at zones [] memory q fit exists sized = refl
with_places-at zones (w ∷ ws) memory q fit exists sized =
    with_places-at zones ws (with_place zones memory w) q fit.1 exists (length-with_place zones w memory fit.0.0 fit.0.1 sized)
    ∙ ap (bytes_after ws q) (one zones w memory q (same_place w.place q) refl fit.0.0 fit.0.1 exists sized)
