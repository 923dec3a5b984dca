-- Slots from their uses and their roots, side by side.
use Rattle.std.proofs.Common.{◌≡◌, ℕ, zero, suc, ◌<◌, ◌==◌, Bool, true, false, cond, Option, Some, find, List, [], ◌∷◌, ◌++◌, length, map, take, drop, get_or, set, refl, sym, ap, ◌∙◌, arith}
use Rattle.std.proofs.lemmas.Bool.{cond-false, cond-true, eq-eqb}
use Rattle.std.proofs.lemmas.List.{append-nil, drop_all, get_or_default, set-get_or, take_all}
use Rattle.std.proofs.lemmas.List.Edits.{map_over_more}
use Rattle.std.specs.Prelude.{remove, ◌≤◌, ◌+◌}
use Rattle.std.specs.Option.{option_map}
use Rattle.mem_slots.specs.declared.slot_use.SlotUse.{SlotUse}
use Rattle.mem_slots.specs.Slots.{Slot, is_of, one_more, root_of, rooted_slot, slot, slots_of, use_of, used_slot, used_use}

pub slots_of-push : (us : List SlotUse) (rs : List (List ℕ)) (u : SlotUse) (r : List ℕ) → length rs ≡ length us → slots_of (us ++ u ∷ []) (rs ++ r ∷ []) ≡ slots_of us rs ++ slot u.zone u.uses r ∷ []
slots_of-push [] [] u r same = refl
slots_of-push [] (q ∷ qs) u r same = absurd (omega arith)
slots_of-push (v ∷ vs) [] u r same = absurd (omega arith)
slots_of-push (v ∷ vs) (q ∷ qs) u r same = ap (λ (ss : List Slot). slot v.zone v.uses q ∷ ss) (slots_of-push vs qs u r (omega arith))

pub length-slots_of : (us : List SlotUse) (rs : List (List ℕ)) → length rs ≡ length us → length (slots_of us rs) ≡ length us
length-slots_of [] rs same = refl
length-slots_of (v ∷ vs) [] same = same
length-slots_of (v ∷ vs) (q ∷ qs) same = ap suc (length-slots_of vs qs (omega arith))

pub uses-slots_of : (us : List SlotUse) (rs : List (List ℕ)) → length rs ≡ length us → us ≡ map use_of (slots_of us rs)
uses-slots_of [] rs same = refl
uses-slots_of (v ∷ vs) [] same = absurd (omega arith)
uses-slots_of (v ∷ vs) (q ∷ qs) same = ap (λ (ss : List SlotUse). v ∷ ss) (uses-slots_of vs qs (omega arith))

pub slots_of-remove : (us : List SlotUse) (rs : List (List ℕ)) (k : ℕ) → length rs ≡ length us → slots_of (remove us k) (remove rs k) ≡ remove (slots_of us rs) k
slots_of-remove [] [] zero same = refl
slots_of-remove [] [] (suc k) same = refl
slots_of-remove [] (q ∷ qs) k same = absurd (omega arith)
slots_of-remove (v ∷ vs) [] k same = absurd (omega arith)
slots_of-remove (v ∷ vs) (q ∷ qs) zero same = refl
slots_of-remove (v ∷ vs) (q ∷ qs) (suc k) same = ap (λ (ss : List Slot). slot v.zone v.uses q ∷ ss) (slots_of-remove vs qs k (omega arith))

pub slots_of-at : (us : List SlotUse) (rs : List (List ℕ)) (k : ℕ) (e : Slot) (u : SlotUse) (r : List ℕ) → length rs ≡ length us → k < length us → get_or (slots_of us rs) k e ≡ slot (get_or us k u).zone (get_or us k u).uses (get_or rs k r)
slots_of-at [] rs k e u r same there = absurd (omega arith)
slots_of-at (v ∷ vs) [] k e u r same there = absurd (omega arith)
slots_of-at (v ∷ vs) (q ∷ qs) zero e u r same there = refl
slots_of-at (v ∷ vs) (q ∷ qs) (suc k) e u r same there = slots_of-at vs qs k e u r (omega arith) (omega arith)

-- ---- finding a root, place by place

root_test : (b : Bool) (s : Slot) (rest : Option Slot) → option_map (λ (t : Slot). t.root) (cond b (Some s) rest) ≡ cond b (Some s.root) (option_map (λ (t : Slot). t.root) rest)
root_test true s rest = refl
root_test false s rest = refl

pub root_of-step : (us : List SlotUse) (rs : List (List ℕ)) (zone i j : ℕ) (u : SlotUse) (r : List ℕ) → length rs ≡ length us → i < length us → j ≡ suc i
    → root_of (slots_of (drop i us) (drop i rs)) zone ≡ cond ((get_or us i u).zone == zone) (Some (get_or rs i r)) (root_of (slots_of (drop j us) (drop j rs)) zone)
root_of-step [] rs zone i j u r same there next = absurd (omega arith)
root_of-step (v ∷ vs) [] zone i j u r same there next = absurd (omega arith)
root_of-step (v ∷ vs) (q ∷ qs) zone zero j u r same there next =
    root_test (v.zone == zone) (slot v.zone v.uses q) (find (is_of zone) (slots_of vs qs))
    ∙ ap (λ (k : ℕ). cond (v.zone == zone) (Some q) (root_of (slots_of (drop k (v ∷ vs)) (drop k (q ∷ qs))) zone)) (sym next)
root_of-step (v ∷ vs) (q ∷ qs) zone (suc i) j u r same there next =
    root_of-step vs qs zone i (suc i) u r (omega arith) (omega arith) refl
    ∙ ap (λ (k : ℕ). cond ((get_or vs i u).zone == zone) (Some (get_or qs i r)) (root_of (slots_of (drop k (v ∷ vs)) (drop k (q ∷ qs))) zone)) (sym next)

-- ---- counting

used_test : (b : Bool) (v : SlotUse) (q : List ℕ) (n : ℕ) → slot (cond b (use_of (slot v.zone n q)) v).zone (cond b (use_of (slot v.zone n q)) v).uses q ≡ cond b (slot v.zone n q) (slot v.zone v.uses q)
used_test true v q n = refl
used_test false v q n = refl

pub slots_of-used : (zone : ℕ) (us : List SlotUse) (rs : List (List ℕ)) → slots_of (map (used_use zone) us) rs ≡ map (used_slot zone) (slots_of us rs)
slots_of-used zone [] rs = refl
slots_of-used zone (v ∷ vs) [] = refl
slots_of-used zone (v ∷ vs) (q ∷ qs) =
    ap (λ (s : Slot). s ∷ slots_of (map (used_use zone) vs) qs) (used_test (v.zone == zone) v q (one_more v.uses))
    ∙ ap (λ (ss : List Slot). used_slot zone (slot v.zone v.uses q) ∷ ss) (slots_of-used zone vs qs)

-- ---- putting a root, place by place

pub slots_of-set_root : (us : List SlotUse) (rs : List (List ℕ)) (k : ℕ) (r : List ℕ) (u : SlotUse) → length rs ≡ length us → k < length us
    → slots_of us (set rs k r) ≡ set (slots_of us rs) k (slot (get_or us k u).zone (get_or us k u).uses r)
slots_of-set_root [] rs k r u same there = absurd (omega arith)
slots_of-set_root (v ∷ vs) [] k r u same there = absurd (omega arith)
slots_of-set_root (v ∷ vs) (q ∷ qs) zero r u same there = refl
slots_of-set_root (v ∷ vs) (q ∷ qs) (suc k) r u same there = ap (λ (ss : List Slot). slot v.zone v.uses q ∷ ss) (slots_of-set_root vs qs k r u (omega arith) (omega arith))

-- one place more that has its root
module _ (us : List SlotUse) (old now : List (List ℕ)) (zone i : ℕ) (root : List ℕ) (u : SlotUse) (before : length old ≡ length us) (same : length now ≡ length us) (there : i < length us)
    (so_far : slots_of us now ≡ map (rooted_slot zone root) (take i (slots_of us old)) ++ drop i (slots_of us old)) where
  abbrev here : Slot
  here = get_or (slots_of us now) i (slot 0 0 [])

  here_is : here ≡ slot (get_or us i u).zone (get_or us i u).uses (get_or now i [])
  here_is = slots_of-at us now i (slot 0 0 []) u [] same there

  within : i < length (slots_of us now)
  within = omega (arith, length-slots_of us now same)

  more : set (slots_of us now) i (rooted_slot zone root here) ≡ map (rooted_slot zone root) (take (i + 1) (slots_of us old)) ++ drop (i + 1) (slots_of us old)
  more =
      map_over_more (rooted_slot zone root) (slots_of us old) (slots_of us now) i here (omega (arith, length-slots_of us old before)) so_far
      (get_or_default (slots_of us now) i (slot 0 0 []) here within)

  pub rooted_here : (get_or us i u).zone ≡ zone → slots_of us (set now i root) ≡ map (rooted_slot zone root) (take (i + 1) (slots_of us old)) ++ drop (i + 1) (slots_of us old)
  rooted_here own =
      let at : slot (get_or us i u).zone (get_or us i u).uses root ≡ rooted_slot zone root here =
      sym (ap (rooted_slot zone root) here_is ∙ cond-true ((get_or us i u).zone == zone) (slot (get_or us i u).zone (get_or us i u).uses root) _ (eq-eqb (get_or us i u).zone zone own)) in
      slots_of-set_root us now i root u same there ∙ ap (set (slots_of us now) i) at ∙ more

  pub rooted_elsewhere : ((get_or us i u).zone == zone) ≡ false → slots_of us now ≡ map (rooted_slot zone root) (take (i + 1) (slots_of us old)) ++ drop (i + 1) (slots_of us old)
  rooted_elsewhere other =
      let at : here ≡ rooted_slot zone root here =
      here_is ∙ sym (ap (rooted_slot zone root) here_is ∙ cond-false ((get_or us i u).zone == zone) _ (slot (get_or us i u).zone (get_or us i u).uses (get_or now i [])) other) in
      sym (set-get_or (slots_of us now) i (slot 0 0 [])) ∙ ap (set (slots_of us now) i) at ∙ more

-- all places
pub rooted_all : (us : List SlotUse) (old now : List (List ℕ)) (zone i : ℕ) (root : List ℕ) → length old ≡ length us → length us ≤ i
    → slots_of us now ≡ map (rooted_slot zone root) (take i (slots_of us old)) ++ drop i (slots_of us old) → slots_of us now ≡ map (rooted_slot zone root) (slots_of us old)
rooted_all us old now zone i root before all so_far =
    let size : length (slots_of us old) ≤ i = omega (arith, length-slots_of us old before) in
    so_far ∙ ap (λ (r : List Slot). map (rooted_slot zone root) r ++ drop i (slots_of us old)) (take_all i (slots_of us old) size)
    ∙ ap (λ (r : List Slot). map (rooted_slot zone root) (slots_of us old) ++ r) (drop_all i (slots_of us old) size) ∙ append-nil (map (rooted_slot zone root) (slots_of us old))
