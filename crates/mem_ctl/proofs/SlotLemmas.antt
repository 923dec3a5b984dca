-- Lists of slots: which zones are mounted, and their roots.
use Rattle.std.proofs.Common.{◌≡◌, ℕ, ◌<◌, ◌==◌, ◌||◌, Bool, true, false, cond, List, [], ◌∷◌, ◌++◌, length, map, find, take, drop, get_or, Option, Some, is_some, refl, sym, ap, ◌∙◌, arith}
use Rattle.std.specs.Prelude.{All, AllPairs, remove, zero, suc}
use Rattle.std.specs.Option.{option_map, unwrap_or}
use Rattle.std.proofs.lemmas.Bool.{false≢true, eq-eqb, eqb-true, or_parts, or_from}
use Rattle.std.proofs.lemmas.List.{get_or-map, length-map, length_push}
use Rattle.std.proofs.lemmas.List.Edits.{length-remove}
use Rattle.std.proofs.lemmas.List.Elements.{All-append, All-drop, All-head, All-map, All-push, All-tail, All-take}
use Rattle.std.proofs.lemmas.List.Folds.{list_any-append}
use Rattle.std.proofs.lemmas.List.Quantifiers.{all_pairs_push, all_pairs_remove}
use Rattle.mem_slots.specs.declared.slot_use.SlotUse.{SlotUse}
use Rattle.mem_slots.specs.Slots.{Slot, is_mounted, is_of, root_of, rooted_slot, slot, use_of, used_slot}
use Rattle.mem_ctl.specs.TreesHold.{AreOfTwoZones, AreUsesOfTwoZones, SlotsFit}

-- ---- a change of slots that keeps their zones

module _ (f : Slot → Slot) (keeps : (s : Slot) → (f s).zone ≡ s.zone) where
  pub is_mounted-map : (mounted : List Slot) (zone : ℕ) → is_mounted (map f mounted) zone ≡ is_mounted mounted zone
  is_mounted-map [] zone = refl
  is_mounted-map (s ∷ ss) zone = ap (λ (z : ℕ). (z == zone) || is_mounted (map f ss) zone) (keeps s) ∙ ap (λ (b : Bool). (s.zone == zone) || b) (is_mounted-map ss zone)

  pub SlotsFit-map : (zones slots : ℕ) (mounted : List Slot) → SlotsFit zones slots mounted → SlotsFit zones slots (map f mounted)
  SlotsFit-map zones slots mounted fit = record {
    most = omega (arith, length-map mounted f, fit.most);
    apart = λ i j e before below.
        let there : j < length mounted = omega (arith, length-map mounted f) in
        let here : i < length mounted = omega arith in
        ap (λ (s : Slot). s.zone == (get_or (map f mounted) j e).zone) (get_or-map f mounted i e e here)
        ∙ ap (λ (s : Slot). (f (get_or mounted i e)).zone == s.zone) (get_or-map f mounted j e e there)
        ∙ ap (λ (z : ℕ). z == (f (get_or mounted j e)).zone) (keeps (get_or mounted i e))
        ∙ ap (λ (z : ℕ). (get_or mounted i e).zone == z) (keeps (get_or mounted j e))
        ∙ fit.apart i j e before there;
    there = All-map (λ (s : Slot). s.zone < zones) f mounted (λ k e h. let z = keeps (get_or mounted k e) in let below : (get_or mounted k e).zone < zones = fit.there k e h in omega arith);
  }

used_zone : (b : Bool) (s t : Slot) → t.zone ≡ s.zone → (cond b t s).zone ≡ s.zone
used_zone true s t same = same
used_zone false s t same = refl

pub used_slot-zone : (zone : ℕ) (s : Slot) → (used_slot zone s).zone ≡ s.zone
used_slot-zone zone s = used_zone (is_of zone s) s _ refl

pub rooted_slot-zone : (zone : ℕ) (root : List ℕ) (s : Slot) → (rooted_slot zone root s).zone ≡ s.zone
rooted_slot-zone zone root s = used_zone (is_of zone s) s _ refl

used_root : (b : Bool) (s t : Slot) → t.root ≡ s.root → (cond b t s).root ≡ s.root
used_root true s t same = same
used_root false s t same = refl

pub used_slot-root : (zone : ℕ) (s : Slot) → (used_slot zone s).root ≡ s.root
used_slot-root zone s = used_root (is_of zone s) s _ refl

-- ---- roots

-- where each slot has the root of its zone, so has the one that is found
found : (b : Bool) (root rest : Option Slot) (r : List ℕ) → (b ≡ true → unwrap_or (option_map (λ (s : Slot). s.root) root) [] ≡ r) → (b ≡ false → unwrap_or (option_map (λ (s : Slot). s.root) rest) [] ≡ r)
    → unwrap_or (option_map (λ (s : Slot). s.root) (cond b root rest)) [] ≡ r
found true root rest r here past = here refl
found false root rest r here past = past refl

behind : (b c : Bool) → (b || c) ≡ true → b ≡ false → c ≡ true
behind true c h other = absurd (false≢true (sym other))
behind false c h other = h

pub root_found : (R : ℕ → List ℕ) (mounted : List Slot) (zone : ℕ) → All (λ (s : Slot). s.root ≡ R s.zone) mounted → is_mounted mounted zone ≡ true → unwrap_or (root_of mounted zone) [] ≡ R zone
root_found R [] zone roots mounted = absurd (false≢true mounted)
root_found R (s ∷ ss) zone roots mounted =
    found (is_of zone s) (Some s) (find (is_of zone) ss) (R zone)
    (λ here. All-head (λ (t : Slot). t.root ≡ R t.zone) s ss roots ∙ ap R (eqb-true s.zone zone here))
    (λ other. root_found R ss zone (All-tail (λ (t : Slot). t.root ≡ R t.zone) s ss roots) (behind (is_of zone s) (is_mounted ss zone) mounted other))

-- ---- a zone that isn't mounted

pub apart_from : (mounted : List Slot) (zone : ℕ) → is_mounted mounted zone ≡ false → (k : ℕ) (e : Slot) → k < length mounted → ((get_or mounted k e).zone == zone) ≡ false
apart_from [] zone none k e h = absurd (omega arith)
apart_from (s ∷ ss) zone none zero e h = (or_parts (is_of zone s) (is_mounted ss zone) none).0
apart_from (s ∷ ss) zone none (suc k) e h = apart_from ss zone (or_parts (is_of zone s) (is_mounted ss zone) none).1 k e (omega arith)

pub SlotsFit-push : (zones slots : ℕ) (mounted : List Slot) (s : Slot) → SlotsFit zones slots mounted → length mounted < slots → s.zone < zones → is_mounted mounted s.zone ≡ false → SlotsFit zones slots (mounted ++ s ∷ [])
SlotsFit-push zones slots mounted s fit room there none = record {
  most = omega (arith, length_push mounted s);
  apart = all_pairs_push AreOfTwoZones mounted s fit.apart (apart_from mounted s.zone none);
  there = All-push (λ (t : Slot). t.zone < zones) mounted s fit.there there;
}

pub is_mounted-push : (mounted : List Slot) (s : Slot) (zone : ℕ) → is_mounted (mounted ++ s ∷ []) zone ≡ (is_mounted mounted zone || is_mounted (s ∷ []) zone)
is_mounted-push mounted s zone = list_any-append (is_of zone) mounted (s ∷ [])

or_true : (a b c : Bool) → a ≡ (b || (c || false)) → c ≡ true → a ≡ true
or_true a true c is h = is
or_true a false true is h = is
or_true a false false is h = absurd (false≢true h)

pub is_mounted-pushed : (mounted : List Slot) (s : Slot) → is_mounted (mounted ++ s ∷ []) s.zone ≡ true
is_mounted-pushed mounted s = or_true (is_mounted (mounted ++ s ∷ []) s.zone) (is_mounted mounted s.zone) (s.zone == s.zone) (is_mounted-push mounted s s.zone) (eq-eqb s.zone s.zone refl)

pub none_before : (mounted : List Slot) (s : Slot) (zone : ℕ) → is_mounted (mounted ++ s ∷ []) zone ≡ false → is_mounted mounted zone ≡ false
none_before mounted s zone none = (or_parts (is_mounted mounted zone) (is_mounted (s ∷ []) zone) (sym (is_mounted-push mounted s zone) ∙ none)).0

-- ---- a slot that is taken out

pub All-remove : (P : Slot → Type 0) (mounted : List Slot) (k : ℕ) → All P mounted → All P (remove mounted k)
All-remove P mounted k all = All-append P (take k mounted) (drop (suc k) mounted) (All-take P k mounted all) (All-drop P (suc k) mounted all)

pub SlotsFit-remove : (zones slots : ℕ) (mounted : List Slot) (k : ℕ) → k < length mounted → SlotsFit zones slots mounted → SlotsFit zones slots (remove mounted k)
SlotsFit-remove zones slots mounted k there fit = record {
  most = omega (arith, length-remove mounted k there, fit.most);
  apart = all_pairs_remove AreOfTwoZones mounted k there fit.apart;
  there = All-remove (λ (s : Slot). s.zone < zones) mounted k fit.there;
}

-- a zone that isn't mounted then is the one taken out, or wasn't mounted
pub removed : (mounted : List Slot) (k zone : ℕ) (e : Slot) → k < length mounted → is_mounted (remove mounted k) zone ≡ false → ((get_or mounted k e).zone == zone) ≡ false → is_mounted mounted zone ≡ false
removed [] k zone e there none other = refl
removed (s ∷ ss) zero zone e there none other = or_from (is_of zone s) (is_mounted ss zone) other none
removed (s ∷ ss) (suc k) zone e there none other =
    let h = or_parts (is_of zone s) (is_mounted (remove ss k) zone) none in
    or_from (is_of zone s) (is_mounted ss zone) h.0 (removed ss k zone e (omega arith) h.1 other)

-- a zone that isn't mounted isn't when a slot is taken out
none_of_any : (mounted : List Slot) (zone : ℕ) → is_mounted mounted zone ≡ false → (k : ℕ) → is_mounted (drop k mounted) zone ≡ false
none_of_any mounted zone none zero = none
none_of_any [] zone none (suc k) = refl
none_of_any (s ∷ ss) zone none (suc k) = none_of_any ss zone (or_parts (is_of zone s) (is_mounted ss zone) none).1 k

pub none_of_removed : (mounted : List Slot) (k zone : ℕ) → is_mounted mounted zone ≡ false → is_mounted (remove mounted k) zone ≡ false
none_of_removed [] zero zone none = refl
none_of_removed [] (suc k) zone none = refl
none_of_removed (s ∷ ss) zero zone none = (or_parts (is_of zone s) (is_mounted ss zone) none).1
none_of_removed (s ∷ ss) (suc k) zone none =
    let h = or_parts (is_of zone s) (is_mounted ss zone) none in
    or_from (is_of zone s) (is_mounted (remove ss k) zone) h.0 (none_of_removed ss k zone h.1)

-- a root is found exactly where the zone is mounted
some_of : (b : Bool) (s : Slot) (rest : Option Slot) → is_some (option_map (λ (t : Slot). t.root) (cond b (Some s) rest)) ≡ (b || is_some (option_map (λ (t : Slot). t.root) rest))
some_of true s rest = refl
some_of false s rest = refl

pub is_some-root_of : (mounted : List Slot) (zone : ℕ) → is_some (root_of mounted zone) ≡ is_mounted mounted zone
is_some-root_of [] zone = refl
is_some-root_of (s ∷ ss) zone = some_of (is_of zone s) s (find (is_of zone) ss) ∙ ap (λ (b : Bool). is_of zone s || b) (is_some-root_of ss zone)

-- ---- uses, as the choice is shown them

pub uses-apart : (mounted : List Slot) → AllPairs AreOfTwoZones mounted → AllPairs AreUsesOfTwoZones (map use_of mounted)
uses-apart mounted apart i j e before below =
    let there : j < length mounted = omega (arith, length-map mounted use_of) in
    let here : i < length mounted = omega arith in
    let s : Slot = slot 0 0 [] in
    ap (λ (u : SlotUse). u.zone == (get_or (map use_of mounted) j e).zone) (get_or-map use_of mounted i s e here)
    ∙ ap (λ (u : SlotUse). (get_or mounted i s).zone == u.zone) (get_or-map use_of mounted j s e there) ∙ apart i j s before there

pub uses-there : (zones : ℕ) (mounted : List Slot) → All (λ (s : Slot). s.zone < zones) mounted → All (λ (u : SlotUse). u.zone < zones) (map use_of mounted)
uses-there zones mounted there = All-map (λ (u : SlotUse). u.zone < zones) use_of mounted there
