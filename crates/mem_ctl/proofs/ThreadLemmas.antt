-- Calls one after another: their positions and their lists.
use Rattle.std.proofs.Common.{◌≡◌, ℕ, ◌*◌, ◌/◌, ◌%◌, ◌<◌, ◌≤◌, Bool, true, false, cond, Option, Some, None, List, [], ◌∷◌, ◌++◌, length, map, drop, refl, subst, sym, ap, ◌∙◌, arith, length-append, length-drop}
use Rattle.std.specs.Prelude.{nat_lt}
use Rattle.std.proofs.lemmas.List.{append-nil, append_assoc, drop-append-le, drop-drop, drop_all, get_or_append_left}
use Rattle.byteorder.specs.Endian.{little_bytes, little_number}
use Rattle.pl_base.specs.Bytes.{bytes_at}
use Rattle.pl_base.specs.declared.place.Place.{Place}
use Rattle.mem_geom.specs.Parts.{page_bytes}
use Rattle.mem_geom.specs.PathPlaces.{page_places, replaced_places, word_places}
use Rattle.mem_slots.specs.declared.slot_use.SlotUse.{SlotUse}
use Rattle.mem_slots.specs.Slots.{is_mounted, root_of, slot_at, use_of}
use Rattle.mem_tree.specs.Checks.{Checked, check, Holds as AllHold, Fault as BreaksAt, Collision as CollidesAt}
use Rattle.mem_tree.specs.Paths.{first_break}
use Rattle.mem_ctl.specs.declared.told.Op.{Op}
use Rattle.mem_ctl.specs.Calls.{TakenWord, accessed, ask_of, get_page_of, op_offset, path_in, put_page_of, read_word_of, root_stands, tell_of, tell_under, told, with_page_at, with_part, word_taken, write_part_of, zone_check}
use Rattle.mem_ctl.specs.Data.{CtlData, Going, Outcome, Value, Fault, Collision, Again, After, and_then, answer, go_on, going, if_holds}
use Rattle.mem_ctl.specs.Mounting.{asked, evicted, evicted_at, mounted_anew, mounted_for, mounted_last, position_of, root_check, taken, used, written}
use Rattle.mem_ctl.specs.Results.{AreGiven, IsCall}
use Rattle.mem_ctl.specs.Writes.{word_at}
use Rattle.mem_ctl.specs.Threading.{CallsThread, Threads, after_more, more}

-- ---- steps that take no position

-- what is answered and left by the data alone
pub Threads-quiet : {A : Type 0} (o : CtlData → Outcome A) (change : CtlData → CtlData) → Threads (λ g. record { outcome = o g.ctl; after = record g { ctl = change g.ctl } })
Threads-quiet o change = record { lists = λ g. []; shows = λ g. sym (append-nil g.shown); takes = λ g. refl; stable = λ g rest before enough. refl }

module _ {A : Type 0} (refused : CtlData → CtlData) (value : CtlData → A) (change : CtlData → CtlData) where
  abbrev checked_by : Checked → Going → After A
  checked_by c g = if_holds c (record g { ctl = refused g.ctl }) (answer (value g.ctl) (record g { ctl = change g.ctl }))

  still_shown : (c : Checked) (g : Going) → (checked_by c g).after.shown ≡ g.shown
  still_shown AllHold g = refl
  still_shown (BreaksAt p) g = refl
  still_shown (CollidesAt p s t) g = refl

  still_left : (c : Checked) (g : Going) → (checked_by c g).after.left ≡ g.left
  still_left AllHold g = refl
  still_left (BreaksAt p) g = refl
  still_left (CollidesAt p s t) g = refl

  still_alike : (c : Checked) (g : Going) (rest : List ℕ) (before : List (List SlotUse)) → checked_by c (more rest before g) ≡ after_more rest before (checked_by c g)
  still_alike AllHold g rest before = refl
  still_alike (BreaksAt p) g rest before = refl
  still_alike (CollidesAt p s t) g rest before = refl

  -- a check, and then an answer
  pub Threads-checked : (c : CtlData → Checked) → Threads (λ g. if_holds (c g.ctl) (record g { ctl = refused g.ctl }) (answer (value g.ctl) (record g { ctl = change g.ctl })))
  Threads-checked c = record {
    lists = λ g. [];
    shows = λ g. still_shown (c g.ctl) g ∙ sym (append-nil g.shown);
    takes = λ g. still_left (c g.ctl) g;
    stable = λ g rest before enough. still_alike (c g.ctl) g rest before;
  }

-- ---- a call after a call

module _ {A : Type 0} {B : Type 0} (call : Going → After A) (next : A → Going → After B) (first : Threads call) (second : (a : A) → Threads (next a)) where
  lists_on : Outcome A → Going → List (List SlotUse)
  lists_on (Value a) h = (second a).lists h
  lists_on (Fault p) h = []
  lists_on (Collision p s t) h = []
  lists_on (Again t r) h = []

  shows_on : (o : Outcome A) (h : Going) → (go_on o h next).after.shown ≡ h.shown ++ lists_on o h
  unfolding lists_on
  shows_on (Value a) h = (second a).shows h
  shows_on (Fault p) h = sym (append-nil h.shown)
  shows_on (Collision p s t) h = sym (append-nil h.shown)
  shows_on (Again t r) h = sym (append-nil h.shown)

  takes_on : (o : Outcome A) (h : Going) → (go_on o h next).after.left ≡ drop (length (lists_on o h)) h.left
  unfolding lists_on
  takes_on (Value a) h = (second a).takes h
  takes_on (Fault p) h = refl
  takes_on (Collision p s t) h = refl
  takes_on (Again t r) h = refl

  stable_on : (o : Outcome A) (h : Going) (rest : List ℕ) (before : List (List SlotUse)) → length (lists_on o h) ≤ length h.left → go_on o (more rest before h) next ≡ after_more rest before (go_on o h next)
  unfolding lists_on
  stable_on (Value a) h rest before enough = (second a).stable h rest before enough
  stable_on (Fault p) h rest before enough = refl
  stable_on (Collision p s t) h rest before enough = refl
  stable_on (Again t r) h rest before enough = refl

  pub Threads-then : Threads (λ g. and_then (call g) next)
  Threads-then = record {
    lists = λ g. first.lists g ++ lists_on (call g).outcome (call g).after;
    shows = λ g.
        let r : After A = call g in
        let rest : List (List SlotUse) = lists_on r.outcome r.after in
        shows_on r.outcome r.after ∙ ap (λ (all : List (List SlotUse)). all ++ rest) (first.shows g) ∙ append_assoc g.shown (first.lists g) rest;
    takes = λ g.
        let r : After A = call g in
        let n : ℕ = length (first.lists g) in
        let m : ℕ = length (lists_on r.outcome r.after) in
        takes_on r.outcome r.after ∙ ap (drop m) (first.takes g) ∙ drop-drop m n g.left ∙ ap (λ (k : ℕ). drop k g.left) (sym (length-append (first.lists g) (lists_on r.outcome r.after)));
    stable = λ g rest before enough.
        let r : After A = call g in
        let sum = length-append (first.lists g) (lists_on r.outcome r.after) in
        let some : length (first.lists g) ≤ length g.left = omega arith in
        let others : length (lists_on r.outcome r.after) ≤ length r.after.left = omega (arith, ap length (first.takes g), length-drop (length (first.lists g)) g.left) in
        ap (λ (s : After A). and_then s next) (first.stable g rest before some) ∙ stable_on r.outcome r.after rest before others;
  }

-- one of two calls, by the data
module _ {A : Type 0} (test : CtlData → Bool) (one other : Going → After A) (first : Threads one) (second : Threads other) where
  shows_one : (b : Bool) (g : Going) → (cond b (one g) (other g)).after.shown ≡ g.shown ++ cond b (first.lists g) (second.lists g)
  shows_one true g = first.shows g
  shows_one false g = second.shows g

  takes_one : (b : Bool) (g : Going) → (cond b (one g) (other g)).after.left ≡ drop (length (cond b (first.lists g) (second.lists g))) g.left
  takes_one true g = first.takes g
  takes_one false g = second.takes g

  stable_one : (b : Bool) (g : Going) (rest : List ℕ) (before : List (List SlotUse)) → length (cond b (first.lists g) (second.lists g)) ≤ length g.left
      → cond b (one (more rest before g)) (other (more rest before g)) ≡ after_more rest before (cond b (one g) (other g))
  stable_one true g rest before enough = first.stable g rest before enough
  stable_one false g rest before enough = second.stable g rest before enough

  pub Threads-cond : Threads (λ g. cond (test g.ctl) (one g) (other g))
  Threads-cond = record {
    lists = λ g. cond (test g.ctl) (first.lists g) (second.lists g);
    shows = λ g. shows_one (test g.ctl) g;
    takes = λ g. takes_one (test g.ctl) g;
    stable = λ g rest before enough. stable_one (test g.ctl) g rest before enough;
  }

-- ---- evictions

same_position : (g : Going) (rest : List ℕ) (before : List (List SlotUse)) → 0 < length g.left → position_of (more rest before g) ≡ position_of g
same_position g rest before some =
    let n : ℕ = length g.ctl.mounted in
    ap (λ (k : ℕ). cond (nat_lt k n) k 0) (get_or_append_left g.left rest 0 0 some)

asked_more : (g : Going) (rest : List ℕ) (before : List (List SlotUse)) → 0 < length g.left → asked (more rest before g) ≡ more rest before (asked g)
asked_more g rest before some =
    let own : List (List SlotUse) = map use_of g.ctl.mounted ∷ [] in
    λ i. record { ctl = g.ctl; left = drop-append-le 1 g.left rest (omega arith) i; shown = append_assoc before g.shown own i }

module _ (d : List ℕ → List ℕ) where
  abbrev evicted_by : Checked → Going → CtlData → After (Unit {0})
  evicted_by c h y = if_holds c h (answer tt (record h { ctl = y }))

  evicted-shown : (c : Checked) (h : Going) (y : CtlData) → (evicted_by c h y).after.shown ≡ h.shown
  evicted-shown AllHold h y = refl
  evicted-shown (BreaksAt p) h y = refl
  evicted-shown (CollidesAt p s t) h y = refl

  evicted-left : (c : Checked) (h : Going) (y : CtlData) → (evicted_by c h y).after.left ≡ h.left
  evicted-left AllHold h y = refl
  evicted-left (BreaksAt p) h y = refl
  evicted-left (CollidesAt p s t) h y = refl

  evicted-alike : (c : Checked) (h : Going) (y : CtlData) (rest : List ℕ) (before : List (List SlotUse)) → evicted_by c (more rest before h) y ≡ after_more rest before (evicted_by c h y)
  evicted-alike AllHold h y rest before = refl
  evicted-alike (BreaksAt p) h y rest before = refl
  evicted-alike (CollidesAt p s t) h y rest before = refl

  Threads-evicted : Threads (evicted d)
  unfolding evicted
  Threads-evicted = record {
    lists = λ g. map use_of g.ctl.mounted ∷ [];
    shows = λ g. evicted-shown (root_check d g.ctl (slot_at g.ctl.mounted (position_of g)).zone) (asked g) (evicted_at d g.ctl (position_of g));
    takes = λ g. evicted-left (root_check d g.ctl (slot_at g.ctl.mounted (position_of g)).zone) (asked g) (evicted_at d g.ctl (position_of g));
    stable = λ g rest before enough.
        let by = λ (k : ℕ) (h : Going). evicted_by (root_check d g.ctl (slot_at g.ctl.mounted k).zone) h (evicted_at d g.ctl k) in
        ap (λ (k : ℕ). by k (asked (more rest before g))) (same_position g rest before (omega arith)) ∙ ap (by (position_of g)) (asked_more g rest before (omega arith))
        ∙ evicted-alike (root_check d g.ctl (slot_at g.ctl.mounted (position_of g)).zone) (asked g) (evicted_at d g.ctl (position_of g)) rest before;
  }

  Threads-anew : (zone : ℕ) → Threads (mounted_anew d zone)
  unfolding mounted_anew
  Threads-anew zone = Threads-checked (λ (x : CtlData). x) (λ (x : CtlData). tt {0}) (λ (x : CtlData). mounted_last x zone) (λ (x : CtlData). root_check d x zone)

  pub Threads-mounted : (zone : ℕ) → Threads (mounted_for d zone)
  unfolding mounted_for
  Threads-mounted zone =
      Threads-cond (λ (x : CtlData). is_mounted x.mounted zone) (λ (g : Going). answer tt g) (λ (g : Going). cond (nat_lt (length g.ctl.mounted) g.ctl.slots) (mounted_anew d zone g) (and_then (evicted d g) (λ _ h. mounted_anew d zone h)))
      (Threads-quiet (λ (x : CtlData). Value tt) (λ (x : CtlData). x))
      (Threads-cond (λ (x : CtlData). nat_lt (length x.mounted) x.slots) (mounted_anew d zone) (λ (g : Going). and_then (evicted d g) (λ _ h. mounted_anew d zone h)) (Threads-anew zone)
      (Threads-then (evicted d) (λ (done : Unit {0}). mounted_anew d zone) Threads-evicted (λ (done : Unit {0}). Threads-anew zone)))

  -- ---- accesses

  pub Threads-accessed : {A : Type 0} (page : ℕ) (places : List Place) (value : CtlData → A) (change : CtlData → CtlData) → Threads (accessed d page places value change)
  Threads-accessed {A} page places value change =
      let once = λ (x : CtlData). used x (page / 64) in
      Threads-then (mounted_for d (page / 64)) (λ (done : Unit {0}) (m : Going). if_holds (zone_check d (once m.ctl) (page / 64) places) (record m { ctl = once m.ctl }) (answer (value (once m.ctl)) (record m { ctl = change (once m.ctl) })))
      (Threads-mounted (page / 64))
      (λ (done : Unit {0}). Threads-checked once (λ (x : CtlData). value (once x)) (λ (x : CtlData). change (once x)) (λ (x : CtlData). zone_check d (once x) (page / 64) places))

  -- ---- all calls

  pub Threads-read : (page offset : ℕ) → Threads (read_word_of d page offset)
  unfolding read_word_of
  Threads-read page offset = Threads-accessed page (word_places page (offset / 64)) (λ (x : CtlData). word_at x.off_chip page offset) (λ (x : CtlData). x)

  pub Threads-write : (page offset width word : ℕ) → Threads (write_part_of d page offset width word)
  unfolding write_part_of
  Threads-write page offset width word =
      Threads-accessed page (word_places page (offset / 64)) (λ (x : CtlData). tt {0}) (λ (x : CtlData). with_part d (taken x) page (offset / 64) (offset % 64) (little_bytes width word) x)

  pub Threads-get : (page : ℕ) → Threads (get_page_of d page)
  unfolding get_page_of
  Threads-get page = Threads-accessed page (page_places page) (λ (x : CtlData). page_bytes x.off_chip page) (λ (x : CtlData). x)

  pub Threads-put : (page : ℕ) (bytes : List ℕ) → Threads (put_page_of d page bytes)
  unfolding put_page_of
  Threads-put page bytes = Threads-accessed page (replaced_places page) (λ (x : CtlData). tt {0}) (with_page_at d page bytes)

  pub Threads-ask : (page offset : ℕ) → Threads (ask_of d page offset)
  unfolding ask_of
  Threads-ask page offset =
      Threads-then (mounted_for d (page / 64)) (λ (done : Unit {0}) (h : Going). answer (word_taken h.ctl page (offset / 64)) h) (Threads-mounted (page / 64))
      (λ (done : Unit {0}). Threads-quiet (λ (x : CtlData). Value (word_taken x page (offset / 64))) (λ (x : CtlData). x))

  module _ (t : TakenWord) (op : Op) where
    under : (o : Option Place) → Threads (tell_under d o t op)
    under (Some place) = Threads-checked (λ (x : CtlData). x) (λ (x : CtlData). 0) (λ (x : CtlData). x) (λ (x : CtlData). check d (path_in t) (written x))
    under None =
        let word : ℕ = little_number 8 (bytes_at t.parts.block (op_offset op % 64 / 8 * 8) 8) in
        let obeyed = λ (x : CtlData). used (told d t op x) (t.page / 64) in
        Threads-cond (λ (x : CtlData). root_stands t.parts.root (root_of x.mounted (t.page / 64)))
        (λ (g : Going). if_holds (check d (path_in t) (written g.ctl)) g (answer word (record g { ctl = obeyed g.ctl })))
        (λ (g : Going). record { outcome = Again t.parts.root (root_of g.ctl.mounted (t.page / 64)); after = g })
        (Threads-checked (λ (x : CtlData). x) (λ (x : CtlData). word) obeyed (λ (x : CtlData). check d (path_in t) (written x)))
        (Threads-quiet (λ (x : CtlData). Again t.parts.root (root_of x.mounted (t.page / 64))) (λ (x : CtlData). x))

    pub Threads-tell : Threads (tell_of d t op)
    unfolding tell_of
    Threads-tell = under (first_break d (path_in t))

pub calls_thread : (d : List ℕ → List ℕ) → CallsThread d
calls_thread d = record {
  mountings = Threads-mounted d;
  reads = Threads-read d;
  writes = Threads-write d;
  page_reads = Threads-get d;
  page_writes = Threads-put d;
  asks = Threads-ask d;
  tellings = Threads-tell d;
}

-- ---- what was done by two calls was done by one

module _ (gives : List SlotUse → ℕ → Type 0) where
  given-length : (shown : List (List SlotUse)) (positions : List ℕ) → AreGiven gives shown positions → length shown ≡ length positions
  given-length [] [] given = refl
  given-length [] (p ∷ ps) given = absurd given
  given-length (s ∷ ss) [] given = absurd given
  given-length (s ∷ ss) (p ∷ ps) given = let rest = given-length ss ps given.2 in omega arith

  given-append : (shown : List (List SlotUse)) (positions : List ℕ) (more_shown : List (List SlotUse)) (more_positions : List ℕ) → AreGiven gives shown positions → AreGiven gives more_shown more_positions
      → AreGiven gives (shown ++ more_shown) (positions ++ more_positions)
  given-append [] [] ts qs first second = second
  given-append [] (p ∷ ps) ts qs first second = absurd first
  given-append (s ∷ ss) [] ts qs first second = absurd first
  given-append (s ∷ ss) (p ∷ ps) ts qs first second = (first.0, first.1, given-append ss ps ts qs first.2 second)

  pub calls_join : {A : Type 0} {B : Type 0} (call : Going → After A) (next : A → Going → After B) → Threads call → ((a : A) → Threads (next a)) → (x y : CtlData) (a : A) (o : Outcome B) (z : CtlData)
      → IsCall gives call x (Value a) y → IsCall gives (next a) y o z → IsCall gives (λ g. and_then (call g) next) x o z
  calls_join {A} {B} call next first second x y a o z m n =
      let p : List ℕ = m.positions in
      let q : List ℕ = n.positions in
      let r : After A = call (going x p) in
      let s : After B = next a (going y q) in
      let shown : List (List SlotUse) = r.after.shown in
      let some : length (first.lists (going x p)) ≡ length p = ap length (sym (first.shows (going x p))) ∙ given-length shown p m.given in
      let others : length ((second a).lists (going y q)) ≡ length q = ap length (sym ((second a).shows (going y q))) ∙ given-length s.after.shown q n.given in
      let none : r.after.left ≡ [] = first.takes (going x p) ∙ drop_all (length (first.lists (going x p))) p (omega (arith, some)) in
      let h : Going = more q [] r.after in
      let here : h ≡ more [] shown (going y q) = λ i. record { ctl = sym m.now i; left = (ap (λ (left : List ℕ). left ++ q) none ∙ sym (append-nil q)) i; shown = sym (append-nil shown) i } in
      let whole : and_then (call (going x (p ++ q))) next ≡ after_more [] shown s =
      ap (λ (t : After A). and_then t next) (first.stable (going x p) q [] (omega (arith, some))) ∙ ap (λ (t : Outcome A). go_on t h next) (sym m.is) ∙ ap (next a) here
      ∙ (second a).stable (going y q) [] shown (omega (arith, others)) in
      record {
        positions = p ++ q;
        given = subst (λ (t : After B). AreGiven gives t.after.shown (p ++ q)) (sym whole) (given-append shown p s.after.shown q m.given n.given);
        is = n.is ∙ sym (ap (λ (t : After B). t.outcome) whole);
        now = n.now ∙ sym (ap (λ (t : After B). t.after.ctl) whole);
      }
