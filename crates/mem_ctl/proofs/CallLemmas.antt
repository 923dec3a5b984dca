-- A call after a call.
use Rattle.std.proofs.Common.{◌≡◌, ℕ, ◌/◌, ◌%◌, ◌<◌, ◌≤◌, true, false, cond, List, [], ◌∷◌, length, map, refl, subst, sym, ap, ◌∙◌, arith}
use Rattle.std.specs.Prelude.{nat_lt, remove, Err}
use Rattle.std.proofs.lemmas.Bool.{cond-true, cond-false, le-ltb, lt-ltb}
use Rattle.std.proofs.lemmas.List.{length-map}
use Rattle.pl_base.specs.declared.place.Place.TheVariants.{RootNode}
use Rattle.pl_digest.specs.Nodes.{with_entry}
use Rattle.mem_geom.specs.Layout.{place_bytes}
use Rattle.mem_slots.specs.declared.slot_use.SlotUse.{SlotUse}
use Rattle.mem_slots.specs.Slots.{Slot, is_mounted, slot_at, use_of}
use Rattle.mem_tree.specs.Changes.{at_place}
use Rattle.mem_tree.specs.Checks.{Checked, Holds as AllHold, Fault as BreaksAt, Collision as CollidesAt}
use Rattle.mem_ctl.specs.declared.broken.Broken.{Broken}
use Rattle.mem_ctl.specs.declared.broken.Broken.TheVariants as broken
use Rattle.mem_ctl.specs.Data.{CtlData, ctl_data, Going, Outcome, Value, Fault, Collision, After, answer, and_then, go_on, going, if_holds}
use Rattle.mem_ctl.specs.Mounting.{asked, evicted, evicted_at, mounted_anew, mounted_for, mounted_last, root_check, written_back}
use Rattle.mem_ctl.specs.Results.{AreGiven, IsCall, checked_of, outcome_of}
use Rattle.mem_ctl.specs.Writes.{with_place}

-- a step that evicts nothing ends so
pub record Ends {A : Type 0} (r : After A) (g : Going) (o : Outcome A) (z : CtlData) : Type 0 where
  pub is : o ≡ r.outcome
  pub now : z ≡ r.after.ctl
  pub shown : r.after.shown ≡ g.shown

-- a check that doesn't hold ends the step
pub if_holds-stops : {A : Type 0} (c : Checked) (b : Broken) (g : Going) (next : After A) → checked_of (Err b) ≡ c → Ends (if_holds c g next) g (outcome_of (Err b)) g.ctl
if_holds-stops c (broken.Fault p) g next is = subst (λ (c' : Checked). Ends (if_holds c' g next) g (Fault p) g.ctl) is (record { is = refl; now = refl; shown = refl })
if_holds-stops c (broken.Collision k) g next is = subst (λ (c' : Checked). Ends (if_holds c' g next) g (Collision k.place k.held.items k.written.items) g.ctl) is (record { is = refl; now = refl; shown = refl })

-- a check that holds goes on
pub if_holds-goes : {A : Type 0} (c : Checked) (g : Going) (next : After A) (o : Outcome A) (z : CtlData) → AllHold ≡ c → Ends next g o z → Ends (if_holds c g next) g o z
if_holds-goes c g next o z is ends = subst (λ (c' : Checked). Ends (if_holds c' g next) g o z) is ends

module _ (gives : List SlotUse → ℕ → Type 0) where
  -- where no position is taken
  pub call_of : {A : Type 0} (call : Going → After A) (x : CtlData) (o : Outcome A) (z : CtlData) → Ends (call (going x [])) (going x []) o z → IsCall gives call x o z
  call_of call x o z e = record { positions = []; given = subst (λ (s : List (List SlotUse)). AreGiven gives s []) (sym e.shown) tt; is = e.is; now = e.now }

  module _ {A : Type 0} {B : Type 0} (call : Going → After A) (next : A → Going → After B) (x : CtlData) where
    pub then_stops : (b : Broken) (y : CtlData) → IsCall gives call x (outcome_of (Err b)) y → IsCall gives (λ g. and_then (call g) next) x (outcome_of (Err b)) y
    then_stops (broken.Fault p) y m =
        let r : After A = call (going x m.positions) in
        let e : Ends (go_on r.outcome r.after next) r.after (Fault p) r.after.ctl = subst (λ (o : Outcome A). Ends (go_on o r.after next) r.after (Fault p) r.after.ctl) m.is (record { is = refl; now = refl; shown = refl }) in
        record { positions = m.positions; given = subst (λ (s : List (List SlotUse)). AreGiven gives s m.positions) (sym e.shown) m.given; is = e.is; now = m.now ∙ e.now }
    then_stops (broken.Collision k) y m =
        let r : After A = call (going x m.positions) in
        let f : Outcome B = Collision k.place k.held.items k.written.items in
        let e : Ends (go_on r.outcome r.after next) r.after f r.after.ctl = subst (λ (o : Outcome A). Ends (go_on o r.after next) r.after f r.after.ctl) m.is (record { is = refl; now = refl; shown = refl }) in
        record { positions = m.positions; given = subst (λ (s : List (List SlotUse)). AreGiven gives s m.positions) (sym e.shown) m.given; is = e.is; now = m.now ∙ e.now }

    pub then_goes : (a : A) (y : CtlData) (o : Outcome B) (z : CtlData) → IsCall gives call x (Value a) y → ((g : Going) → g.ctl ≡ y → Ends (next a g) g o z) → IsCall gives (λ g. and_then (call g) next) x o z
    then_goes a y o z m ends =
        let r : After A = call (going x m.positions) in
        let e : Ends (go_on r.outcome r.after next) r.after o z = subst (λ (o' : Outcome A). Ends (go_on o' r.after next) r.after o z) m.is (ends r.after (sym m.now)) in
        record { positions = m.positions; given = subst (λ (s : List (List SlotUse)). AreGiven gives s m.positions) (sym e.shown) m.given; is = e.is; now = e.now }

  module _ (d : List ℕ → List ℕ) where
    -- ---- mounting

    pub anew_stops : (zone : ℕ) (x : CtlData) (b : Broken) → checked_of (Err b) ≡ root_check d x zone → IsCall gives (mounted_anew d zone) x (outcome_of (Err b)) x
    unfolding mounted_anew
    anew_stops zone x b is = call_of (mounted_anew d zone) x (outcome_of (Err b)) x (if_holds-stops (root_check d x zone) b (going x []) _ is)

    pub anew_goes : (zone : ℕ) (x : CtlData) → AllHold ≡ root_check d x zone → IsCall gives (mounted_anew d zone) x (Value tt) (mounted_last x zone)
    unfolding mounted_anew
    anew_goes zone x is = call_of (mounted_anew d zone) x (Value tt) (mounted_last x zone) (if_holds-goes (root_check d x zone) (going x []) _ (Value tt) (mounted_last x zone) is (record { is = refl; now = refl; shown = refl }))

    pub already_mounted : (zone : ℕ) (x : CtlData) → is_mounted x.mounted zone ≡ true → IsCall gives (mounted_for d zone) x (Value tt) x
    unfolding mounted_for
    already_mounted zone x is =
        let e = cond-true (is_mounted x.mounted zone) (answer tt (going x [])) (cond (nat_lt (length x.mounted) x.slots) (mounted_anew d zone (going x [])) (and_then (evicted d (going x [])) (λ _ h. mounted_anew d zone h))) is in
        call_of (mounted_for d zone) x (Value tt) x
        (record { is = sym (ap (λ (r : After (Unit {0})). r.outcome) e); now = sym (ap (λ (r : After (Unit {0})). r.after.ctl) e); shown = ap (λ (r : After (Unit {0})). r.after.shown) e })

    Ends-alike : (zone : ℕ) (c : Checked) (g h : Going) (f : CtlData → CtlData) (y : CtlData) → g.ctl ≡ y → h.ctl ≡ y → (o : Outcome (Unit {0})) (z : CtlData)
        → o ≡ (if_holds c h (answer {A = Unit {0}} tt (record h { ctl = f h.ctl }))).outcome → z ≡ (if_holds c h (answer {A = Unit {0}} tt (record h { ctl = f h.ctl }))).after.ctl
        → Ends (if_holds c g (answer tt (record g { ctl = f g.ctl }))) g o z
    Ends-alike zone AllHold g h f y ge he o z is now = record { is = is; now = now ∙ ap f (he ∙ sym ge); shown = refl }
    Ends-alike zone (BreaksAt p) g h f y ge he o z is now = record { is = is; now = now ∙ he ∙ sym ge; shown = refl }
    Ends-alike zone (CollidesAt p s t) g h f y ge he o z is now = record { is = is; now = now ∙ he ∙ sym ge; shown = refl }

    anew_after : (zone : ℕ) (y : CtlData) (o : Outcome (Unit {0})) (z : CtlData) → IsCall gives (mounted_anew d zone) y o z → (g : Going) → g.ctl ≡ y → Ends (mounted_anew d zone g) g o z
    unfolding mounted_anew
    anew_after zone y o z m g same =
        let h : Going = going y m.positions in
        subst (λ (x : CtlData). Ends (if_holds (root_check d x zone) g (answer tt (record g { ctl = mounted_last g.ctl zone }))) g o z) (sym same)
        (Ends-alike zone (root_check d y zone) g h (λ (x : CtlData). mounted_last x zone) y same refl o z m.is m.now)

    pub mounts_anew : (zone : ℕ) (x : CtlData) (o : Outcome (Unit {0})) (y : CtlData) → is_mounted x.mounted zone ≡ false → length x.mounted < x.slots → IsCall gives (mounted_anew d zone) x o y → IsCall gives (mounted_for d zone) x o y
    unfolding mounted_for
    mounts_anew zone x o y none room m =
        let e = λ (ps : List ℕ). cond-false (is_mounted x.mounted zone) (answer tt (going x ps)) _ none ∙ cond-true (nat_lt (length x.mounted) x.slots) (mounted_anew d zone (going x ps)) (and_then (evicted d (going x ps)) (λ _ h. mounted_anew d zone h)) (lt-ltb (length x.mounted) x.slots room) in
        record {
          positions = m.positions;
          given = subst (λ (r : After (Unit {0})). AreGiven gives r.after.shown m.positions) (sym (e m.positions)) m.given;
          is = m.is ∙ sym (ap (λ (r : After (Unit {0})). r.outcome) (e m.positions));
          now = m.now ∙ sym (ap (λ (r : After (Unit {0})). r.after.ctl) (e m.positions));
        }

    full : (zone : ℕ) (x : CtlData) (o : Outcome (Unit {0})) (y : CtlData) → is_mounted x.mounted zone ≡ false → x.slots ≤ length x.mounted
        → IsCall gives (λ g. and_then (evicted d g) (λ _ h. mounted_anew d zone h)) x o y → IsCall gives (mounted_for d zone) x o y
    unfolding mounted_for
    full zone x o y none no_room m =
        let e = λ (ps : List ℕ). cond-false (is_mounted x.mounted zone) (answer tt (going x ps)) _ none ∙ cond-false (nat_lt (length x.mounted) x.slots) (mounted_anew d zone (going x ps)) (and_then (evicted d (going x ps)) (λ _ h. mounted_anew d zone h)) (le-ltb (length x.mounted) x.slots no_room) in
        record {
          positions = m.positions;
          given = subst (λ (r : After (Unit {0})). AreGiven gives r.after.shown m.positions) (sym (e m.positions)) m.given;
          is = m.is ∙ sym (ap (λ (r : After (Unit {0})). r.outcome) (e m.positions));
          now = m.now ∙ sym (ap (λ (r : After (Unit {0})). r.after.ctl) (e m.positions));
        }

    pub eviction_stops : (zone : ℕ) (x : CtlData) (b : Broken) (y : CtlData) → is_mounted x.mounted zone ≡ false → x.slots ≤ length x.mounted → IsCall gives (evicted d) x (outcome_of {A = Unit {0}} (Err b)) y → IsCall gives (mounted_for d zone) x (outcome_of (Err b)) y
    eviction_stops zone x b y none no_room m = full zone x (outcome_of (Err b)) y none no_room (then_stops (evicted d) (λ _ h. mounted_anew d zone h) x b y m)

    pub eviction_goes : (zone : ℕ) (x y : CtlData) (o : Outcome (Unit {0})) (z : CtlData) → is_mounted x.mounted zone ≡ false → x.slots ≤ length x.mounted → IsCall gives (evicted d) x (Value tt) y
        → IsCall gives (mounted_anew d zone) y o z → IsCall gives (mounted_for d zone) x o z
    eviction_goes zone x y o z none no_room m n = full zone x o z none no_room (then_goes (evicted d) (λ _ h. mounted_anew d zone h) x tt y o z m (anew_after zone y o z n))

    -- ---- evicting

    pub evict_stops : (x : CtlData) (k : ℕ) (b : Broken) → gives (map use_of x.mounted) k → k < length x.mounted → checked_of (Err b) ≡ root_check d x (slot_at x.mounted k).zone → IsCall gives (evicted d) x (outcome_of (Err b)) x
    unfolding evicted
    evict_stops x k b given there is =
        let g : Going = going x (k ∷ []) in
        let e = subst (λ (j : ℕ). Ends {A = Unit {0}} (if_holds (root_check d x (slot_at x.mounted j).zone) (asked g) (answer tt (record (asked g) { ctl = evicted_at d x j }))) (asked g) (outcome_of (Err b)) x)
        (sym (cond-true (nat_lt k (length x.mounted)) k 0 (lt-ltb k (length x.mounted) there)))
        (if_holds-stops {A = Unit {0}} (root_check d x (slot_at x.mounted k).zone) b (asked g) (answer tt (record (asked g) { ctl = evicted_at d x k })) is) in
        record { positions = k ∷ []; given = subst (λ (s : List (List SlotUse)). AreGiven gives s (k ∷ [])) (sym e.shown) (given, omega (arith, length-map x.mounted use_of), tt); is = e.is; now = e.now }

    pub evict_goes : (x : CtlData) (k : ℕ) → gives (map use_of x.mounted) k → k < length x.mounted → AllHold ≡ root_check d x (slot_at x.mounted k).zone → IsCall gives (evicted d) x (Value tt) (evicted_at d x k)
    unfolding evicted
    evict_goes x k given there is =
        let g : Going = going x (k ∷ []) in
        let e = subst (λ (j : ℕ). Ends {A = Unit {0}} (if_holds (root_check d x (slot_at x.mounted j).zone) (asked g) (answer tt (record (asked g) { ctl = evicted_at d x j }))) (asked g) (Value tt) (evicted_at d x k))
        (sym (cond-true (nat_lt k (length x.mounted)) k 0 (lt-ltb k (length x.mounted) there)))
        (if_holds-goes {A = Unit {0}} (root_check d x (slot_at x.mounted k).zone) (asked g) (answer tt (record (asked g) { ctl = evicted_at d x k })) (Value tt) (evicted_at d x k) is (record { is = refl; now = refl; shown = refl })) in
        record { positions = k ∷ []; given = subst (λ (s : List (List SlotUse)). AreGiven gives s (k ∷ [])) (sym e.shown) (given, omega (arith, length-map x.mounted use_of), tt); is = e.is; now = e.now }

-- what the code of an eviction computed, part by part
pub record Evicts (d : List ℕ → List ℕ) (x : CtlData) (k z : ℕ) (r node top off off' mirror mirror' root : List ℕ) (rest : List Slot) : Type 0 where
  pub zone_is : z ≡ (slot_at x.mounted k).zone
  pub root_was : r ≡ (slot_at x.mounted k).root
  pub node_is : node ≡ with_entry (z % 8) r (place_bytes x.zones x.off_chip (RootNode 1 (z / 8)))
  pub top_is : top ≡ with_entry (z / 8) (d node) (place_bytes x.zones x.off_chip (RootNode 2 0))
  pub off_is : off ≡ with_place x.zones x.off_chip (at_place (RootNode 1 (z / 8)) node)
  pub off_is' : off' ≡ with_place x.zones off (at_place (RootNode 2 0) top)
  pub mirror_is : mirror ≡ with_place x.zones x.mirror (at_place (RootNode 1 (z / 8)) node)
  pub mirror_is' : mirror' ≡ with_place x.zones mirror (at_place (RootNode 2 0) top)
  pub root_is : root ≡ d top
  pub rest_is : rest ≡ remove x.mounted k

pub evicts : (d : List ℕ → List ℕ) (x : CtlData) (k z : ℕ) (r node top off off' mirror mirror' root : List ℕ) (rest : List Slot) → Evicts d x k z r node top off off' mirror mirror' root rest
    → ctl_data x.zones x.slots off' mirror' rest root ≡ evicted_at d x k
unfolding evicted_at written_back
evicts d x k z r node top off off' mirror mirror' root rest e =
    rw (e.off_is', e.mirror_is', e.root_is, e.rest_is, e.off_is, e.mirror_is, e.top_is, e.node_is, e.root_was, e.zone_is) refl
