-- A check that doesn't hold: its place has other bytes than were written.
use Rattle.std.proofs.Common.{◌≡◌, ◌≢◌, ℕ, ◌+◌, ◌-◌, ◌/◌, ◌<◌, ◌≤◌, true, false, List, [], ◌∷◌, length, refl, subst, sym, ap, ◌∙◌, arith}
use Rattle.std.specs.Prelude.{All, Contains, slice_get}
use Rattle.std.proofs.lemmas.Bool.{false≢true}
use Rattle.std.proofs.lemmas.List.Elements.{All-cons, All-contains, All-nil}
use mathlib.Core.Logic.{inr, ◌⊎◌}
use Rattle.pl_base.specs.declared.place.Place.{Place}
use Rattle.pl_base.specs.declared.place.Place.TheVariants.{Block, Node, RootNode}
use Rattle.mem_geom.specs.Layout.{Exists, place_length, place_start}
use Rattle.mem_geom.specs.PathPlaces.{root_places}
use Rattle.mem_geom.proofs.Places.{stands_inside}
use Rattle.mem_tree.specs.Checks.{Checked, IsWrittenPath, Tells, check, plain_check_on, Holds as AllHold, Fault as BreaksAt, Collision as CollidesAt}
use Rattle.mem_tree.specs.Paths.{path_of}
use Rattle.mem_tree.proofs.Differences.{checks_tell, differences_collide}
use Rattle.mem_ctl.specs.Access.{HasOtherByte, IsCollision, IsFirstOther, IsTampered}
use Rattle.mem_ctl.specs.Data.{CtlData, Outcome, Value, Fault, Collision, Again}
use Rattle.mem_ctl.specs.Mounting.{root_check, taken, written}
use Rattle.mem_ctl.specs.Results.{is_of_zone}
use Rattle.mem_ctl.specs.TreesHold.{HasSizes, TreesHold}
use Rattle.mem_ctl.proofs.Agreement.{first_difference, slice_get-bytes_at}
use Rattle.mem_ctl.proofs.FirstOther.{FirstAt, StandsFirst, plain_first}
use Rattle.mem_ctl.proofs.RootLemmas.{length-place, root_path-written}

-- P, where there is a value; else why there is none
abbrev pub OrRefused : {A : Type 0} → (List ℕ → List ℕ) → List Place → CtlData → Outcome A → Type 0 → Type 0
OrRefused d places x (Value a) P = P
OrRefused d places x (Fault place) P = IsTampered x places place
OrRefused d places x (Collision place held other) P = IsCollision d x places place held other
OrRefused d places x (Again taken_root root) P = ⊥

-- where a check doesn't hold, why
abbrev pub OrBroken : (List ℕ → List ℕ) → List Place → CtlData → Checked → Type 0
OrBroken d places x AllHold = Unit {0}
OrBroken d places x (BreaksAt place) = IsTampered x places place
OrBroken d places x (CollidesAt place held other) = IsCollision d x places place held other

-- what holds of the place at which a check doesn't hold
abbrev pub OnBreak : Checked → (Place → Type 0) → Type 0
OnBreak AllHold P = Unit {0}
OnBreak (BreaksAt place) P = P place
OnBreak (CollidesAt place held other) P = P place

-- where the written bytes hold, it is the first that has others
pub first_of : (d : List ℕ → List ℕ) (x : CtlData) (root : List ℕ) (places : List Place) → IsWrittenPath d (path_of root places (taken x)) (written x)
    → OnBreak (check d (path_of root places (taken x)) (written x)) (λ place. is_of_zone place ≡ true → IsFirstOther x places place)
first_of d x root places is =
    let path = path_of root places (taken x) in
    let P = λ (c : Checked). OnBreak c (λ place. is_of_zone place ≡ true → IsFirstOther x places place) in
    subst P (sym (differences_collide d path (written x) is)) (named (plain_check_on d path (written x) places) (plain_first d path (written x) places))
  where
    one : (d : List ℕ → List ℕ) (x : CtlData) (root : List ℕ) (places : List Place) (place : Place) → StandsFirst d (path_of root places (taken x)) (written x) places place → IsFirstOther x places place
    one d x root places place at = record { index = at.index; below = at.below; is = at.is place; before = λ j h. at.same j place h }

    named : (c : Checked) → FirstAt d (path_of root places (taken x)) (written x) places c → OnBreak c (λ place. is_of_zone place ≡ true → IsFirstOther x places place)
    named AllHold found = tt
    named (BreaksAt place) found = λ of. one d x root places place found
    named (CollidesAt place held other) found = λ of. one d x root places place found.0

module _ (x : CtlData) (sizes : HasSizes x.zones x.off_chip x.mirror) where
  -- a place whose bytes differ has a byte that differs
  pub other_byte : (place : Place) → Exists x.zones place → taken x place ≢ written x place → HasOtherByte x place
  other_byte place exists differ =
      let inside = stands_inside x.zones place exists in
      let at : ℕ = place_start x.zones place - 0x80000000 in
      let n : ℕ = place_length place in
      let off_size = length-place x.zones x.off_chip place exists sizes.off_chip_size in
      let mirror_size = length-place x.zones x.mirror place exists sizes.mirror_size in
      let found = first_difference (taken x place) (written x place) (off_size ∙ sym mirror_size) differ in
      let k : ℕ = found.0 in
      let below : k < n = omega (arith, found.1, off_size) in
      record {
        index = at + k;
        from = omega (arith, inside.0);
        to = omega (arith, inside.0);
        other = λ (same : slice_get x.off_chip (at + k) ≡ slice_get x.mirror (at + k)).
            found.2
            (slice_get-bytes_at x.off_chip at n k below (omega (arith, inside.0, inside.1, sizes.off_chip_size)) ∙ same
            ∙ sym (slice_get-bytes_at x.mirror at n k below (omega (arith, inside.0, inside.1, sizes.mirror_size))));
      }

  few_bytes : (place : Place) → place_length place ≤ 256
  few_bytes (Block page block) = omega arith
  few_bytes (Node level zone index) = omega arith
  few_bytes (RootNode level index) = omega arith

  -- what a check of some places tells, of those that an access checks
  module _ (d : List ℕ → List ℕ) (root : List ℕ) (own places : List Place) (exist : All (Exists x.zones) own) (among : (place : Place) → Contains own place → Contains places place ⊎ (is_of_zone place ≡ false)) where
    tampered : (place : Place) → Contains own place → (is_of_zone place ≡ true → IsFirstOther x places place) → taken x place ≢ written x place → IsTampered x places place
    tampered place here first differ =
        let exists : Exists x.zones place = All-contains (Exists x.zones) own place exist here in
        record { exists = exists; checked = among place here; first = first; differs = differ; byte = other_byte place exists differ }

    pub why_broken : (c : Checked) → Tells d (path_of root own (taken x)) (written x) c → OnBreak c (λ place. is_of_zone place ≡ true → IsFirstOther x places place) → OrBroken d places x c
    why_broken AllHold tells first = tt
    why_broken (BreaksAt place) tells first = tampered place tells.0 first tells.1
    why_broken (CollidesAt place held other) tells first =
        let exists : Exists x.zones place = All-contains (Exists x.zones) own place exist tells.among in
        record {
          tampered = tampered place tells.among first (λ same. tells.differ (tells.as_taken ∙ same ∙ sym tells.as_written));
          as_taken = tells.as_taken;
          as_written = tells.as_written;
          held_size = omega (arith, ap length tells.as_taken, length-place x.zones x.off_chip place exists sizes.off_chip_size, few_bytes place);
          written_size = omega (arith, ap length tells.as_written, length-place x.zones x.mirror place exists sizes.mirror_size, few_bytes place);
          differ = tells.differ;
          one_digest = tells.one;
        }

-- the check of the root table's nodes over a zone
pub root_why : (d : List ℕ → List ℕ) (x : CtlData) → TreesHold d x → (zone : ℕ) → zone < x.zones → (places : List Place) (c : Checked) → root_check d x zone ≡ c → OrBroken d places x c
root_why d x trees zone there places c is =
    let top : Place = RootNode 2 0 in
    let node : Place = RootNode 1 (zone / 8) in
    let E = Exists x.zones in
    let R = λ (place : Place). is_of_zone place ≡ false in
    let roots : (place : Place) → Contains (root_places zone) place → is_of_zone place ≡ false =
    λ place here. All-contains R (root_places zone) place (All-cons R top (node ∷ []) refl (All-cons R node [] refl (All-nil R))) here in
    let tells : Tells d (path_of x.root (root_places zone) (taken x)) (written x) c =
    subst (Tells d (path_of x.root (root_places zone) (taken x)) (written x)) is
    (checks_tell d (path_of x.root (root_places zone) (taken x)) (written x)
    (root_path-written d x.zones x.mirror x.root trees.top trees.chip zone (omega (arith, trees.sizes.few)) x.off_chip)) in
    why_broken x trees.sizes d x.root (root_places zone) places
    (All-cons E top (node ∷ []) (omega arith) (All-cons E node [] (omega (arith, trees.sizes.few)) (All-nil E)))
    (λ place here. inr (roots place here)) c tells (in_table d x (root_places zone) places x.root roots c tells)
  where
    in_table : (d : List ℕ → List ℕ) (x : CtlData) (own places : List Place) (root : List ℕ) → ((place : Place) → Contains own place → is_of_zone place ≡ false)
        → (c : Checked) → Tells d (path_of root own (taken x)) (written x) c → OnBreak c (λ place. is_of_zone place ≡ true → IsFirstOther x places place)
    in_table d x own places root roots AllHold tells = tt
    in_table d x own places root roots (BreaksAt place) tells = λ of. absurd (false≢true (sym (roots place tells.0) ∙ of))
    in_table d x own places root roots (CollidesAt place held other) tells = λ of. absurd (false≢true (sym (roots place tells.among) ∙ of))
