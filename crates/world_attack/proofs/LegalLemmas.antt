-- In a legal history each `keep` that is answered kept its range.
use Rattle.std.proofs.Common.{◌≡◌, ℕ, ◌+◌, ◌==◌, ◌&&◌, Bool, true, false, if◌then◌else◌, List, [], ◌∷◌, ◌++◌, Option, Some, None, option_map, slice_get, refl, sym, ap, ◌∙◌, subst, arith, eq-eqb}
use Rattle.std.proofs.lemmas.Bool.{eqb-true}
use Rattle.std.proofs.lemmas.Bool.Decides.{nat_tests}
use Rattle.std.proofs.lemmas.List.{append-nil, append_assoc}
use Rattle.std.specs.Option.{option_or}
use Rattle.std.specs.Str.{bytes_eq}
use Rattle.pl_history.specs.declared.answer.Answer.{Answer}
use Rattle.pl_history.specs.declared.answer.Answer.TheVariants as answer_is
use Rattle.pl_history.specs.declared.answer.Entry.{Entry}
use Rattle.pl_history.specs.declared.line.AttackLine.{AttackLine}
use Rattle.pl_history.specs.declared.line.AttackLine.TheVariants as attack
use Rattle.pl_history.specs.declared.setup.SetupParts.{SetupParts}
use Rattle.pl_history.specs.Attacking.{Placed, keeps_name, kept_part, kept_by, latest_kept, AllowedKept}
use Rattle.pl_history.specs.History.{named_part}
use Rattle.pl_history.specs.Laws.{moved}
use Rattle.pl_history.specs.Legal.{ActorLine, of_hart, of_attacker, line_at, AllowedAttack, AllowedLine, Allowed, after, state_after, AllAllowed}
use Rattle.pl_history.specs.Monitor.{Monitor, Progress, opening}
use Rattle.pl_history.proofs.ProgressLemmas.{answers_move, lines_begin_once, attacker-line_at, no_line_of_a_hart}
use Rattle.world_attack.specs.Laws.{LegalKeepsAreAnswered}
use Rattle.world_attack.specs.Lines.{Range, range_of, lines_before, kept_range}
use Rattle.world_attack.proofs.KeptLemmas.{latest_kept-append}
use Rattle.world_attack.proofs.LineLemmas.{lines_before-next}

-- ---- one answer

or_found : (o prev : Option Placed) (range : Range) → option_map range_of o ≡ Some range → option_map range_of (option_or o prev) ≡ Some range
or_found None prev range found = cc
or_found (Some what) prev range found = found

kept_its_range : (s : Monitor) (address count : ℕ) (part : List ℕ) (begun : Bool) (now : Answer) → AllowedKept s address count part begun now
    → option_map range_of (kept_part now part) ≡ Some (record { address = address; count = count })
kept_its_range s address count part true now never = absurd never
kept_its_range s address count part false (answer_is.Kept pa from len) allowed = λ i. Some (record { address = allowed.0 i; count = (allowed.2 ∙ allowed.1) i })
kept_its_range s address count part false answer_is.Begun never = absurd never
kept_its_range s address count part false answer_is.Ok never = absurd never
kept_its_range s address count part false (answer_is.Value value) never = absurd never
kept_its_range s address count part false (answer_is.Word word) never = absurd never
kept_its_range s address count part false (answer_is.Left n why) never = absurd never
kept_its_range s address count part false (answer_is.No cause) never = absurd never
kept_its_range s address count part false (answer_is.Wrote changed pa from len) never = absurd never

-- an answer other than Begun ends the line
pub moved-ends : (p : Progress) (now : Answer) → (now ≡ answer_is.Begun → ⊥) → moved p now ≡ record { answered = p.answered + 1; begun = false }
moved-ends p answer_is.Begun ends = absurd (ends refl)
moved-ends p answer_is.Ok ends = refl
moved-ends p (answer_is.Value value) ends = refl
moved-ends p (answer_is.Word word) ends = refl
moved-ends p (answer_is.Left count why) ends = refl
moved-ends p (answer_is.No cause) ends = refl
moved-ends p (answer_is.Wrote changed pa from len) ends = refl
moved-ends p (answer_is.Kept pa from len) ends = refl

line_of : (o : Option AttackLine) (line : AttackLine) → option_map of_attacker o ≡ Some (of_attacker line) → o ≡ Some line
line_of None line same = cc
line_of (Some x) line same = cc

attackers_line : (setup : SetupParts) (actor at : ℕ) (line : AttackLine) → actor ≡ setup.harts → line_at setup actor at ≡ Some (of_attacker line) → slice_get setup.attacker at ≡ Some line
attackers_line setup actor at line mine there =
    line_of (slice_get setup.attacker at) line
    (sym (attacker-line_at setup at) ∙ subst (λ (a : ℕ). line_at setup a at ≡ Some (of_attacker line)) mine there)

module _ (setup : SetupParts) (bytes name : List ℕ) where
  -- what is kept after an answer to a line, by what was before
  abbrev kept_after : AttackLine → List ℕ → Answer → Option Placed → Option Placed
  kept_after line part now earlier = option_or (if keeps_name name (Some line) then kept_part now part else None) earlier

  one_answer : (s : Monitor) (before : List Entry) (part : List ℕ) (line : AttackLine) (begun : Bool) (now : Answer) (prev : Option Placed) (earlier : List AttackLine)
      → option_map range_of prev ≡ kept_range name earlier → AllowedAttack setup bytes s before part line begun now
      → option_map range_of (kept_after line part now prev) ≡ kept_range name (line ∷ earlier)
  one_answer s before part (attack.Write pa new) begun now prev earlier same allowed = same
  one_answer s before part (attack.Keep other pa len) begun now prev earlier same allowed = by_name (bytes_eq other name)
    where
      by_name : (test : Bool) → option_map range_of (option_or (if test then kept_part now part else None) prev) ≡ (if test then Some (record { address = pa; count = len }) else kept_range name earlier)
      by_name true = or_found (kept_part now part) prev (record { address = pa; count = len }) (kept_its_range s pa len part begun now allowed)
      by_name false = same
  one_answer s before part (attack.Back other) begun now prev earlier same allowed = same
  one_answer s before part (attack.After actor count) begun now prev earlier same allowed = same

  -- ---- one entry

  abbrev KeptTo : ℕ → List Entry → Type 0
  KeptTo at entries = option_map range_of (latest_kept setup bytes name entries) ≡ kept_range name (lines_before setup at)

  abbrev answered : Monitor → ℕ
  answered s = (s.progress setup.harts).answered

  one_kept : (before : List Entry) (entry : Entry) → latest_kept setup bytes name (before ++ entry ∷ []) ≡ option_or (kept_by setup bytes name entry) (latest_kept setup bytes name before)
  one_kept before entry = latest_kept-append setup bytes name before (entry ∷ [])

  -- another actor's entry keeps nothing
  of_another : (s : Monitor) (before : List Entry) (entry : Entry) → Allowed setup bytes s before entry → (entry.actor == setup.harts) ≡ false
      → KeptTo (answered s) before → KeptTo (answered (after setup bytes s entry)) (before ++ entry ∷ [])
  of_another s before entry allowed other kept =
      let other_way : (setup.harts == entry.actor) ≡ false = grind (arith, nat_tests) in
      let stays : answered (after setup bytes s entry) ≡ answered s =
      ap (λ (p : Progress). p.answered) (answers_move setup bytes s entry allowed.1.0 allowed.1.1 setup.harts)
      ∙ ap (λ (test : Bool). (if test then moved (s.progress entry.actor) entry.answer else s.progress setup.harts).answered) other_way in
      let none : kept_by setup bytes name entry ≡ None =
      ap (λ (test : Bool). if test && keeps_name name (slice_get setup.attacker entry.line) then kept_part entry.answer (named_part bytes entry.answer) else None) other in
      subst (λ (at : ℕ). KeptTo at (before ++ entry ∷ [])) (sym stays)
      (ap (option_map range_of) (one_kept before entry) ∙ ap (λ (o : Option Placed). option_map range_of (option_or o (latest_kept setup bytes name before))) none ∙ kept)

  -- the attacker's own entry answers the next line
  own_line : (s : Monitor) (before : List Entry) (entry : Entry) (line : AttackLine) → entry.actor ≡ setup.harts → entry.line ≡ (s.progress entry.actor).answered
      → line_at setup entry.actor entry.line ≡ Some (of_attacker line) → AllowedAttack setup bytes s before (named_part bytes entry.answer) line (s.progress entry.actor).begun entry.answer
      → Allowed setup bytes s before entry → KeptTo (answered s) before → KeptTo (answered (after setup bytes s entry)) (before ++ entry ∷ [])
  own_line s before entry line mine next there answer allowed kept =
      let here : slice_get setup.attacker entry.line ≡ Some line = attackers_line setup entry.actor entry.line line mine there in
      let test : (entry.actor == setup.harts) ≡ true = eq-eqb entry.actor setup.harts mine in
      let test_back : (setup.harts == entry.actor) ≡ true = eq-eqb setup.harts entry.actor (sym mine) in
      let at : answered s ≡ entry.line = ap (λ (actor : ℕ). (s.progress actor).answered) (sym mine) ∙ sym next in
      let goes_on : answered (after setup bytes s entry) ≡ entry.line + 1 =
      ap (λ (p : Progress). p.answered) (answers_move setup bytes s entry (of_attacker line) there setup.harts)
      ∙ ap (λ (test : Bool). (if test then moved (s.progress entry.actor) entry.answer else s.progress setup.harts).answered) test_back
      ∙ ap (λ (p : Progress). p.answered) (moved-ends (s.progress entry.actor) entry.answer (lines_begin_once.never setup bytes s before entry allowed mine))
      ∙ ap (λ (n : ℕ). n + 1) (sym next) in
      let kept_here : kept_by setup bytes name entry ≡ (if keeps_name name (Some line) then kept_part entry.answer (named_part bytes entry.answer) else None) =
      λ i. if test i && keeps_name name (here i) then kept_part entry.answer (named_part bytes entry.answer) else None in
      let earlier : option_map range_of (latest_kept setup bytes name before) ≡ kept_range name (lines_before setup entry.line) =
      subst (λ (n : ℕ). KeptTo n before) at kept in
      subst (λ (n : ℕ). KeptTo n (before ++ entry ∷ [])) (sym goes_on)
      (ap (option_map range_of) (one_kept before entry)
      ∙ ap (λ (o : Option Placed). option_map range_of (option_or o (latest_kept setup bytes name before))) kept_here
      ∙ one_answer s before (named_part bytes entry.answer) line (s.progress entry.actor).begun entry.answer (latest_kept setup bytes name before) (lines_before setup entry.line) earlier answer
      ∙ ap (kept_range name) (sym (lines_before-next setup entry.line line here)))

  by_line : (s : Monitor) (before : List Entry) (entry : Entry) (line : ActorLine) → entry.actor ≡ setup.harts → entry.line ≡ (s.progress entry.actor).answered
      → line_at setup entry.actor entry.line ≡ Some line → AllowedLine setup bytes s before line (s.progress entry.actor).begun entry.answer
      → Allowed setup bytes s before entry → KeptTo (answered s) before → KeptTo (answered (after setup bytes s entry)) (before ++ entry ∷ [])
  by_line s before entry (of_attacker line) mine next there answer allowed kept = own_line s before entry line mine next there answer allowed kept
  by_line s before entry (of_hart line) mine next there answer allowed kept =
      absurd (no_line_of_a_hart (slice_get setup.attacker entry.line) line
      (sym (attacker-line_at setup entry.line) ∙ subst (λ (actor : ℕ). line_at setup actor entry.line ≡ Some (of_hart line)) mine there))

  by_actor : (s : Monitor) (before : List Entry) (entry : Entry) (test : Bool) → (entry.actor == setup.harts) ≡ test → Allowed setup bytes s before entry
      → KeptTo (answered s) before → KeptTo (answered (after setup bytes s entry)) (before ++ entry ∷ [])
  by_actor s before entry true is allowed kept = by_line s before entry allowed.1.0 (eqb-true entry.actor setup.harts is) allowed.0 allowed.1.1 allowed.1.2 allowed kept
  by_actor s before entry false is allowed kept = of_another s before entry allowed is kept

  -- ---- all entries

  all_entries : (s : Monitor) (before entries : List Entry) → AllAllowed setup bytes s before entries → KeptTo (answered s) before → KeptTo (answered (state_after setup bytes s entries)) (before ++ entries)
  all_entries s before [] allowed kept = subst (λ (l : List Entry). KeptTo (answered s) l) (sym (append-nil before)) kept
  all_entries s before (entry ∷ entries) allowed kept =
      subst (λ (l : List Entry). KeptTo (answered (state_after setup bytes (after setup bytes s entry) entries)) l) (append_assoc before (entry ∷ []) entries)
      (all_entries (after setup bytes s entry) (before ++ entry ∷ []) entries allowed.1 (by_actor s before entry (entry.actor == setup.harts) refl allowed.0 kept))

pub keeps_answered : LegalKeepsAreAnswered
unfolding opening
keeps_answered setup h name legal = all_entries setup h.bytes name (opening setup) [] h.entries legal refl
