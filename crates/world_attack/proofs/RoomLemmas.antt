-- Room for the lines that aren't answered: at the start, for the next line, and after each entry.
use Rattle.std.proofs.Common.{◌≡◌, ⊎_elim, ℕ, ◌+◌, ◌-◌, ◌*◌, ◌<◌, ◌≤◌, ◌==◌, ◌&&◌, Bool, true, false, if◌then◌else◌, List, [], ◌∷◌, length, drop, min, sum_by, get_or, Option, Some, None, option_map, slice_get, unwrap_or, suc, zero, refl, sym, ap, ◌∙◌, subst, arith, eq-eqb}
use Rattle.std.proofs.Math.Seq.{drop-cons}
use Rattle.std.proofs.lemmas.Bool.{cases_lt, eqb-true}
use Rattle.std.proofs.lemmas.Bool.Decides.{nat_tests}
use Rattle.std.proofs.lemmas.List.Sums.{sum_by-cons, sum_by-le-sum_by}
use Rattle.std.proofs.lemmas.Option.{get_or_from_slice_get, slice_get_within}
use Rattle.std.specs.List.{range_with_len}
use Rattle.std.specs.Option.{option_map_or}
use Rattle.pl_history.specs.declared.answer.Answer.{Answer}
use Rattle.pl_history.specs.declared.answer.Answer.TheVariants as answer_is
use Rattle.pl_history.specs.declared.answer.Entry.{Entry}
use Rattle.pl_history.specs.declared.line.Line.{Line}
use Rattle.pl_history.specs.declared.line.AttackLine.{AttackLine}
use Rattle.pl_history.specs.declared.setup.SetupParts.{SetupParts}
use Rattle.pl_history.specs.History.{HistoryData}
use Rattle.pl_history.specs.Laws.{moved}
use Rattle.pl_history.specs.Legal.{ActorLine, of_hart, of_attacker, line_at, Allowed, after}
use Rattle.pl_history.specs.Monitor.{Monitor, Progress, opening, script_of, line_count}
use Rattle.pl_history.specs.Rules.{IsSetup, attack_length, attack_known, attacks_known, counts_of}
use Rattle.pl_history.proofs.ProgressLemmas.{answers_move, lines_begin_once, attacker-line_at}
use Rattle.world_attack.specs.Lines.{lines_before, line_bytes}
use Rattle.world_attack.specs.Room.{attack_bytes, bytes_due, answers_due, entries_due, HasRoom, SetupsNeedRoom, RoomForLines, RoomStays}
use Rattle.world_attack.proofs.LegalLemmas.{moved-ends}
use Rattle.world_attack.proofs.LineLemmas.{lines_before-next, bytes_due-at_most}

-- ---- the attacker's bytes

both : (a b : Bool) → (a && b) ≡ true → (a ≡ true) × (b ≡ true)
both true true e = (refl, refl)
both true false e = cc
both false b e = cc

at_most_4_MiB : (zones : ℕ) (counts : List ℕ) (me : ℕ) (earlier : List AttackLine) (total : ℕ) (lines : List AttackLine) → total ≤ 4194304
    → attacks_known zones counts me earlier total lines ≡ true → total + attack_bytes earlier lines ≤ 4194304
at_most_4_MiB zones counts me earlier total [] few known = omega arith
at_most_4_MiB zones counts me earlier total (now ∷ later) few known =
    let parts = both _ _ (both (attack_known zones counts me earlier now) _ known).1 in
    let fits : total + attack_length earlier now ≤ 4194304 = let test = parts.0 in grind (arith, nat_tests) in
    let rest = at_most_4_MiB zones counts me (now ∷ earlier) (total + attack_length earlier now) later fits parts.1 in
    omega (arith, rest)

-- a line's own bytes, and those of the lines after it
bytes_due-next : (setup : SetupParts) (at : ℕ) (line : AttackLine) → slice_get setup.attacker at ≡ Some line → bytes_due setup at ≡ line_bytes setup at + bytes_due setup (at + 1)
bytes_due-next setup at line here =
    let next : suc at ≡ at + 1 = omega arith in
    let read : get_or setup.attacker at line ≡ line = get_or_from_slice_get setup.attacker at line line here in
    let opened : drop at setup.attacker ≡ line ∷ drop (at + 1) setup.attacker =
    drop-cons setup.attacker at line (slice_get_within setup.attacker at line here) ∙ (λ i. read i ∷ drop (next i) setup.attacker) in
    let own : attack_length (lines_before setup at) line ≡ line_bytes setup at = ap (λ (o : Option AttackLine). option_map_or (attack_length (lines_before setup at)) o 0) (sym here) in
    ap (attack_bytes (lines_before setup at)) opened
    ∙ (λ i. own i + attack_bytes ((sym (lines_before-next setup at line here)) i) (drop (at + 1) setup.attacker))

first_bytes : (setup : SetupParts) (at room : ℕ) (o : Option AttackLine) → slice_get setup.attacker at ≡ o → bytes_due setup at ≤ room → line_bytes setup at ≤ room
first_bytes setup at room None is fits = let none : line_bytes setup at ≡ 0 = ap (λ (o : Option AttackLine). option_map_or (attack_length (lines_before setup at)) o 0) is in omega (arith, none)
first_bytes setup at room (Some line) is fits = omega (arith, bytes_due-next setup at line is)

-- ---- sums over actors

-- a sum that is smaller at one actor, and at no other larger, is smaller
pub sum_drops : (f g : ℕ → ℕ) (a from n : ℕ) → from ≤ a → a < from + n → ((x : ℕ) → g x ≤ f x) → g a + 1 ≤ f a → sum_by g (range_with_len from n) + 1 ≤ sum_by f (range_with_len from n)
sum_drops f g a from zero low high all less = absurd (omega arith)
sum_drops f g a from (suc n) low high all less =
    ⊎_elim
    (λ (here : a < from + 1).
    let same : a ≡ from = omega arith in
    let below : g from + 1 ≤ f from = subst (λ (x : ℕ). g x + 1 ≤ f x) same less in
    omega (arith, sum_by-cons f from (range_with_len (from + 1) n), sum_by-cons g from (range_with_len (from + 1) n), below, sum_by-le-sum_by g f (range_with_len (from + 1) n) all))
    (λ (later : from + 1 ≤ a).
    omega (arith, sum_by-cons f from (range_with_len (from + 1) n), sum_by-cons g from (range_with_len (from + 1) n), all from, sum_drops f g a (from + 1) n later (omega arith) all less))
    (cases_lt a (from + 1))

-- a term is at most the sum
pub term_of_sum : (f : ℕ → ℕ) (a from n : ℕ) → from ≤ a → a < from + n → f a ≤ sum_by f (range_with_len from n)
term_of_sum f a from zero low high = absurd (omega arith)
term_of_sum f a from (suc n) low high =
    ⊎_elim
    (λ (here : a < from + 1).
    let same : f a ≡ f from = let e : a ≡ from = omega arith in ap f e in
    omega (arith, sum_by-cons f from (range_with_len (from + 1) n), same))
    (λ (later : from + 1 ≤ a). omega (arith, sum_by-cons f from (range_with_len (from + 1) n), term_of_sum f a (from + 1) n later (omega arith)))
    (cases_lt a (from + 1))

-- ---- at the start

module _ (setup : SetupParts) where
  -- of the harts from one on, and then the attacker
  due_from : (rest : List (List Line)) (hart : ℕ) → hart + length rest ≡ setup.harts → ((i : ℕ) → slice_get setup.lines (hart + i) ≡ slice_get rest i)
      → sum_by (λ (actor : ℕ). 2 * line_count setup actor) (range_with_len hart (suc (length rest))) ≡ 2 * (sum_by length rest + length setup.attacker)
  due_from [] hart last there =
      let mine : (hart == setup.harts) ≡ true = grind (arith, nat_tests) in
      let count : line_count setup hart ≡ length setup.attacker = ap (λ (test : Bool). if test then length setup.attacker else length (script_of setup hart)) mine in
      omega (arith, count)
  due_from (lines ∷ rest) hart last there =
      let other : (hart == setup.harts) ≡ false = grind (arith, nat_tests) in
      let one : hart + 0 ≡ hart = omega arith in
      let own : slice_get setup.lines hart ≡ Some lines = ap (slice_get setup.lines) (sym one) ∙ there 0 in
      let count : line_count setup hart ≡ length lines =
      ap (λ (test : Bool). if test then length setup.attacker else length (script_of setup hart)) other ∙ ap (λ (o : Option (List Line)). length (unwrap_or o [])) own in
      let later = due_from rest (hart + 1) (omega arith) (λ i. let step : hart + 1 + i ≡ hart + suc i = omega arith in ap (slice_get setup.lines) step ∙ there (suc i)) in
      omega (
        arith,
        count,
        later,
        sum_by-cons (λ (actor : ℕ). 2 * line_count setup actor) hart (range_with_len (hart + 1) (suc (length rest))),
        sum_by-cons length lines rest,
      )

  entries_at_start : IsSetup setup → entries_due setup (opening setup) ≡ 2 * (sum_by length setup.lines + length setup.attacker)
  unfolding opening
  entries_at_start rules =
      let size : setup.harts + 1 ≡ suc (length setup.lines) = omega (arith, rules.scripts) in
      let each : (actor : ℕ) → 2 * (line_count setup actor - 0) - 0 ≡ 2 * line_count setup actor = λ actor. omega arith in
      (λ i. sum_by (λ (actor : ℕ). each actor i) (range_with_len 0 (setup.harts + 1)))
      ∙ ap (λ (n : ℕ). sum_by (λ (actor : ℕ). 2 * line_count setup actor) (range_with_len 0 n)) size
      ∙ due_from setup.lines 0 (omega (arith, rules.scripts)) (λ i. let none : 0 + i ≡ i = omega arith in ap (slice_get setup.lines) none)

pub setups_need : SetupsNeedRoom
setups_need setup rules =
    let few = at_most_4_MiB setup.zones (counts_of setup.lines setup.attacker) setup.harts [] 0 setup.attacker (omega arith) rules.attacks in
    record {
      entries = entries_at_start setup rules;
      bytes = omega (arith, few);
    }

-- ---- for the next line

pub room_for_lines : RoomForLines
room_for_lines setup s h actor room there more =
    let due : answers_due setup s actor ≤ entries_due setup s = term_of_sum (answers_due setup s) actor 0 (setup.harts + 1) (omega arith) (omega arith) in
    record {
      entry = next_entry (s.progress actor).begun refl due;
      two = λ waits. two_entries waits due;
      bytes = λ mine. attackers_bytes mine;
    }
  where
    left : ℕ
    left = 2 * (line_count setup actor - (s.progress actor).answered)

    next_entry : (begun : Bool) → (s.progress actor).begun ≡ begun → answers_due setup s actor ≤ entries_due setup s → 0 < h.entry_room
    next_entry true is due = let one : left - 1 ≤ entries_due setup s = subst (λ (b : Bool). left - (if b then 1 else 0) ≤ entries_due setup s) is due in omega (arith, one, room.entries)
    next_entry false is due = let none : left - 0 ≤ entries_due setup s = subst (λ (b : Bool). left - (if b then 1 else 0) ≤ entries_due setup s) is due in omega (arith, none, room.entries)

    two_entries : (s.progress actor).begun ≡ false → answers_due setup s actor ≤ entries_due setup s → 2 ≤ h.entry_room
    two_entries is due = let none : left - 0 ≤ entries_due setup s = subst (λ (b : Bool). left - (if b then 1 else 0) ≤ entries_due setup s) is due in omega (arith, none, room.entries)

    attackers_bytes : actor ≡ setup.harts → line_bytes setup (s.progress actor).answered ≤ h.byte_room
    attackers_bytes mine =
        let at : ℕ = (s.progress actor).answered in
        let all : bytes_due setup at ≤ h.byte_room = subst (λ (a : ℕ). bytes_due setup (s.progress a).answered ≤ h.byte_room) (sym mine) room.bytes in
        first_bytes setup at h.byte_room (slice_get setup.attacker at) refl all

-- ---- one answer

abbrev due_of : ℕ → Progress → ℕ
due_of count p = 2 * (count - p.answered) - (if p.begun then 1 else 0)

-- an answer that ends a line takes at least one of those that are due
ended_drops : (count answered : ℕ) (begun : Bool) → answered < count → 2 * (count - (answered + 1)) - 0 + 1 ≤ 2 * (count - answered) - (if begun then 1 else 0)
ended_drops count answered true more = omega arith
ended_drops count answered false more = omega arith

begun_drops : (count answered : ℕ) (begun : Bool) → answered < count → (begun ≡ true → ⊥) → 2 * (count - answered) - 1 + 1 ≤ 2 * (count - answered) - (if begun then 1 else 0)
begun_drops count answered true more once = absurd (once refl)
begun_drops count answered false more once = omega arith

due_drops : (count : ℕ) (p : Progress) (now : Answer) → p.answered < count → (p.begun ≡ true → now ≡ answer_is.Begun → ⊥) → due_of count (moved p now) + 1 ≤ due_of count p
due_drops count p answer_is.Begun more once = begun_drops count p.answered p.begun more (λ begun. once begun refl)
due_drops count p answer_is.Ok more once = ended_drops count p.answered p.begun more
due_drops count p (answer_is.Value value) more once = ended_drops count p.answered p.begun more
due_drops count p (answer_is.Word word) more once = ended_drops count p.answered p.begun more
due_drops count p (answer_is.Left n why) more once = ended_drops count p.answered p.begun more
due_drops count p (answer_is.No cause) more once = ended_drops count p.answered p.begun more
due_drops count p (answer_is.Wrote changed pa from len) more once = ended_drops count p.answered p.begun more
due_drops count p (answer_is.Kept pa from len) more once = ended_drops count p.answered p.begun more

-- ---- the line of an entry

module _ {A : Type 0} (f : A → ActorLine) (xs : List A) (at : ℕ) (line : ActorLine) where
  mapped_inside : (o : Option A) → slice_get xs at ≡ o → option_map f o ≡ Some line → at < length xs
  mapped_inside None is there = cc
  mapped_inside (Some x) is there = slice_get_within xs at x is

-- a hart that has a line is there
hart_there : (setup : SetupParts) (hart at : ℕ) (o : Option (List Line)) → slice_get setup.lines hart ≡ o → at < length (unwrap_or o []) → hart < length setup.lines
hart_there setup hart at None is inside = absurd (omega arith)
hart_there setup hart at (Some lines) is inside = slice_get_within setup.lines hart lines is

-- a line that is there is one of its actor's, and its actor is a hart or the attacker
pub line_there : (setup : SetupParts) (actor at : ℕ) (line : ActorLine) (test : Bool) → IsSetup setup → (actor == setup.harts) ≡ test
    → (if test then option_map of_attacker (slice_get setup.attacker at) else option_map of_hart (slice_get (script_of setup actor) at)) ≡ Some line
    → (at < (if test then length setup.attacker else length (script_of setup actor))) × (actor ≤ setup.harts)
line_there setup actor at line true rules is there =
    let same = eqb-true actor setup.harts is in
    (mapped_inside of_attacker setup.attacker at line (slice_get setup.attacker at) refl there, omega (arith, same))
line_there setup actor at line false rules is there =
    let inside = mapped_inside of_hart (script_of setup actor) at line (slice_get (script_of setup actor) at) refl there in
    (inside, omega (arith, rules.scripts, hart_there setup actor at (slice_get setup.lines actor) refl inside))

-- ---- after an entry

module _ (setup : SetupParts) (bytes : List ℕ) (s : Monitor) (before : List Entry) (entry : Entry) (rules : IsSetup setup) (allowed : Allowed setup bytes s before entry) where
  abbrev next_state : Monitor
  next_state = after setup bytes s entry

  progress_is : (actor : ℕ) → next_state.progress actor ≡ (if actor == entry.actor then moved (s.progress entry.actor) entry.answer else s.progress actor)
  progress_is = answers_move setup bytes s entry allowed.1.0 allowed.1.1

  of_this : next_state.progress entry.actor ≡ moved (s.progress entry.actor) entry.answer
  of_this = progress_is entry.actor ∙ ap (λ (test : Bool). if test then moved (s.progress entry.actor) entry.answer else s.progress entry.actor) (eq-eqb entry.actor entry.actor refl)

  of_other : (actor : ℕ) → (actor == entry.actor) ≡ false → next_state.progress actor ≡ s.progress actor
  of_other actor other = progress_is actor ∙ ap (λ (test : Bool). if test then moved (s.progress entry.actor) entry.answer else s.progress actor) other

  here : (entry.line < line_count setup entry.actor) × (entry.actor ≤ setup.harts)
  here = line_there setup entry.actor entry.line allowed.1.0 (entry.actor == setup.harts) rules refl allowed.1.1

  less : answers_due setup next_state entry.actor + 1 ≤ answers_due setup s entry.actor
  less =
      let more : (s.progress entry.actor).answered < line_count setup entry.actor = omega (arith, here.0, allowed.0) in
      subst (λ (p : Progress). due_of (line_count setup entry.actor) p + 1 ≤ answers_due setup s entry.actor) (sym of_this)
      (due_drops (line_count setup entry.actor) (s.progress entry.actor) entry.answer more (lines_begin_once.once setup bytes s before entry allowed))

  no_more : (actor : ℕ) → answers_due setup next_state actor ≤ answers_due setup s actor
  no_more actor = by_test (actor == entry.actor) refl
    where
      by_test : (test : Bool) → (actor == entry.actor) ≡ test → answers_due setup next_state actor ≤ answers_due setup s actor
      by_test true is =
          let same : entry.actor ≡ actor = sym (eqb-true actor entry.actor is) in
          let one = less in
          subst (λ (a : ℕ). answers_due setup next_state a ≤ answers_due setup s a) same (omega (arith, one))
      by_test false is =
          let same : answers_due setup next_state actor ≡ answers_due setup s actor = ap (due_of (line_count setup actor)) (of_other actor is) in
          omega (arith, same)

  entries_stay : entries_due setup next_state + 1 ≤ entries_due setup s
  entries_stay = sum_drops (answers_due setup s) (answers_due setup next_state) entry.actor 0 (setup.harts + 1) (omega arith) (omega (arith, here.1)) no_more less

  -- the bytes of the attacker's next line, and of those after it
  bytes_by : (o : Option AttackLine) → slice_get setup.attacker entry.line ≡ o → option_map of_attacker o ≡ Some allowed.1.0
      → bytes_due setup entry.line ≡ line_bytes setup entry.line + bytes_due setup (entry.line + 1)
  bytes_by None is there = cc
  bytes_by (Some line) is there = bytes_due-next setup entry.line line is

  abbrev due_bytes : Monitor → ℕ
  due_bytes t = bytes_due setup (t.progress setup.harts).answered

  bytes_stay : (test : Bool) → (entry.actor == setup.harts) ≡ test → due_bytes next_state + (if test then line_bytes setup entry.line else 0) ≤ due_bytes s
  bytes_stay true is =
      let mine : entry.actor ≡ setup.harts = eqb-true entry.actor setup.harts is in
      let goes_on : (next_state.progress setup.harts).answered ≡ entry.line + 1 =
      ap (λ (a : ℕ). (next_state.progress a).answered) (sym mine) ∙ ap (λ (p : Progress). p.answered) of_this
      ∙ ap (λ (p : Progress). p.answered) (moved-ends (s.progress entry.actor) entry.answer (lines_begin_once.never setup bytes s before entry allowed mine))
      ∙ ap (λ (n : ℕ). n + 1) (sym allowed.0) in
      let at : (s.progress setup.harts).answered ≡ entry.line = ap (λ (a : ℕ). (s.progress a).answered) (sym mine) ∙ sym allowed.0 in
      let there : option_map of_attacker (slice_get setup.attacker entry.line) ≡ Some allowed.1.0 =
      sym (attacker-line_at setup entry.line) ∙ subst (λ (a : ℕ). line_at setup a entry.line ≡ Some allowed.1.0) mine allowed.1.1 in
      omega (arith, ap (bytes_due setup) goes_on, ap (bytes_due setup) at, bytes_by (slice_get setup.attacker entry.line) refl there)
  bytes_stay false is =
      let other : (setup.harts == entry.actor) ≡ false = grind (arith, nat_tests) in
      let same : due_bytes next_state ≡ due_bytes s = ap (λ (p : Progress). bytes_due setup p.answered) (of_other setup.harts other) in
      omega (arith, same)

pub room_stays : RoomStays
room_stays setup bytes s before entry old new rules room allowed entries more =
    let some = entries_stay setup bytes s before entry rules allowed in
    let rest = bytes_stay setup bytes s before entry rules allowed (entry.actor == setup.harts) refl in
    record {
      entries = omega (arith, some, room.entries);
      bytes = omega (arith, rest, room.bytes);
    }

-- ---- enough at the start

pub room_at_start : (setup : SetupParts) (h : HistoryData) → IsSetup setup → 2 * (sum_by length setup.lines + length setup.attacker) ≤ h.entry_room
    → min (4096 * length setup.attacker) 4194304 ≤ h.byte_room → HasRoom setup (opening setup) h
unfolding opening
room_at_start setup h rules entries bytes =
    let start = setups_need setup rules in
    let few = bytes_due-at_most setup rules in
    record {
      entries = omega (arith, start.entries, entries);
      bytes = omega (arith, start.bytes, few, bytes);
    }
