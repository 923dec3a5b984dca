-- No number retires more instructions than the budgets of all lines allow: 2^48, and those of the line under way.
use Rattle.std.proofs.Common.{◌≡◌, ◌≢◌, ◌⊎◌, ℕ, ◌+◌, ◌-◌, ◌*◌, ◌^◌, ◌<◌, ◌≤◌, ◌==◌, eqb, Bool, true, false, if◌then◌else◌, List, [], ◌∷◌, ◌++◌, length, slice_get, unwrap_or, Option, Some, None, option_map, sum_by, refl, sym, ap, ◌∙◌, subst, arith, inl, inr}
use Rattle.std.specs.List.{All, range_with_len}
use Rattle.std.specs.Option.{option_map_or}
use Rattle.std.proofs.lemmas.Bool.{leb-true}
use Rattle.std.proofs.lemmas.List.Elements.{All-get_or}
use Rattle.std.proofs.lemmas.List.Sums.{sum_by-cons, sum_by-le-sum_by}
use Rattle.std.proofs.lemmas.Option.{get_or_from_slice_get, slice_get_within}
use Rattle.pl_base.specs.Address.{vpn_of}
use Rattle.pl_base.specs.declared.address.Va.{Va}
use Rattle.pl_base.specs.declared.number.EncNo.{EncNo}
use Rattle.pl_base.specs.declared.state.State.{State}
use Rattle.pl_base.specs.declared.state.State.TheVariants as state_is
use Rattle.pl_base.specs.declared.state.Why.{Why}
use Rattle.rv_hart.specs.declared.walks.Micro.{Micro}
use Rattle.mon_enclave.specs.Records.{enclave_at}
use Rattle.mon_tables.specs.Space.{Mapping, mapping_at}
use Rattle.pl_history.specs.declared.answer.Answer.{Answer}
use Rattle.pl_history.specs.declared.answer.Answer.TheVariants as answer_is
use Rattle.pl_history.specs.declared.answer.Entry.{Entry}
use Rattle.pl_history.specs.declared.line.AttackLine.{AttackLine}
use Rattle.pl_history.specs.declared.line.AttackLine.TheVariants as attack
use Rattle.pl_history.specs.declared.line.Line.{Line}
use Rattle.pl_history.specs.declared.line.Line.TheVariants as line_is
use Rattle.pl_history.specs.declared.setup.SetupParts.{SetupParts}
use Rattle.pl_history.specs.Answering.{Changes, change_by, progressed, unchanged}
use Rattle.pl_history.specs.Attacking.{Placed, written}
use Rattle.pl_history.specs.History.{named_part}
use Rattle.pl_history.specs.HostAccess.{mapping_used, store_to}
use Rattle.pl_history.specs.HostMaps.{removing_of}
use Rattle.pl_history.specs.Laws.{moved}
use Rattle.pl_history.specs.Legal.{ActorLine, AllAllowed, Allowed, AllowedAnswer, AllowedLine, Legal, after, after_line, attack_changes, changes, legal_state, line_at, of_attacker, of_hart, state_after}
use Rattle.pl_history.specs.Making.{made_faulted}
use Rattle.pl_history.specs.Monitor.{Monitor, Number, Progress, line_count, opening, removed_at, script_of}
use Rattle.pl_history.specs.Rules.{IsSetup}
use Rattle.pl_history.specs.Running.{left}
use Rattle.pl_history.proofs.ProgressLemmas.{answers_move}
use Rattle.world_attack.specs.Room.{answers_due, entries_due}
use Rattle.world_attack.proofs.RoomLemmas.{line_there, setups_need, sum_drops}
use Rattle.world_machine.specs.declared.under.Under.TheVariants.{Running}
use Rattle.world_machine.specs.LineNumbers.{ScriptsFit, NumbersFit, FitsWord}
use Rattle.world_machine.specs.LinesUnderWay.{LineUnderWay}
use Rattle.world_machine.specs.RecordsAgree.{RetiredAgrees}
use Rattle.world_machine.specs.Standing.{Kept, state_of, written_page}
use Rattle.world_machine.specs.Worlds.{WorldData, hart_line, under_at}
use Rattle.world_machine.proofs.Lists.{everywhere, if_other, if_same}
use Rattle.world_machine.proofs.RunMoves.{is_running, run_line}

-- ---- what an answer adds to a number

abbrev AtMost : ℕ → Monitor → Type 0
AtMost m s = (e : ℕ) → (s.number e).retired ≤ m

more : (s : Monitor) (m d : ℕ) → AtMost m s → AtMost (m + d) s
more s m d all e = omega (arith, all e)

-- one number changed
changed : (s : Monitor) (e m : ℕ) (now : Number) → AtMost m s → now.retired ≤ m → (f : ℕ) → (if f == e then now else s.number f).retired ≤ m
changed s e m now all here = everywhere (λ f. (if eqb f e then now else s.number f).retired ≤ m) e
    (subst (λ (n : Number). n.retired ≤ m) (sym (if_same e now (s.number e))) here)
    (λ f other. subst (λ (n : Number). n.retired ≤ m) (sym (if_other e f now (s.number f) other)) (all f))

-- the answers but for the one that leaves an enclave
record Quiet (m : ℕ) (all : Changes) : Type 0 where
  pub begun : AtMost m all.begun
  pub ok : AtMost m all.ok
  pub value : AtMost m all.value
  pub word : AtMost m all.word
  pub no : AtMost m all.no
  pub wrote : (changed : Bool) (pa : ℕ) → AtMost m (all.wrote changed pa)
  pub kept : AtMost m all.kept

module _ (s : Monitor) (m : ℕ) (all : AtMost m s) where
  stored_quiet : (va : Va) (word : ℕ) (o : Option Mapping) → AtMost m (store_to s va word o)
  stored_quiet va word None = all
  stored_quiet va word (Some o) = all

  removing_quiet : (hart : ℕ) (o : Option Mapping) → AtMost m (removing_of s hart o)
  removing_quiet hart None = all
  removing_quiet hart (Some o) = all

  same_retired : (e : ℕ) (now : Number) → now.retired ≡ (s.number e).retired → (f : ℕ) → (if f == e then now else s.number f).retired ≤ m
  same_retired e now same = changed s e m now all (let h = all e in omega (arith, h, same))

  faulted_quiet : (e : ℕ) (begun : Bool) → AtMost m (if begun then made_faulted s e else s)
  faulted_quiet e true = same_retired e _ refl
  faulted_quiet e false = all

  written_quiet : (now : Placed) (changed : Bool) → AtMost m (written s now changed)
  written_quiet now true = all
  written_quiet now false = all

  none_quiet : Quiet m (unchanged s)
  none_quiet = record { begun = all; ok = all; value = all; word = all; no = all; wrote = λ changed pa. all; kept = all }

  line_quiet : (hart : ℕ) (line : Line) (begun : Bool) → Quiet m (changes s hart line begun)
  line_quiet hart (line_is.Load va) begun = none_quiet
  line_quiet hart (line_is.Store va word) begun = record { begun = all; ok = stored_quiet va word (mapping_used (mapping_at s.space (vpn_of va).0) (removed_at s.removals (vpn_of va).0)); value = all; word = all; no = all; wrote = λ changed pa. all; kept = all }
  line_quiet hart (line_is.Map va page perms) begun = record { begun = all; ok = all; value = all; word = all; no = all; wrote = λ changed pa. all; kept = all }
  line_quiet hart (line_is.Unmap va) begun = record { begun = removing_quiet hart (mapping_at s.space (vpn_of va).0); ok = all; value = all; word = all; no = all; wrote = λ changed pa. all; kept = all }
  line_quiet hart (line_is.Create e image pages) begun = record { begun = changed s e.0 m _ all (omega arith); ok = same_retired e.0 _ refl; value = all; word = all; no = faulted_quiet e.0 begun; wrote = λ changed pa. all; kept = all }
  line_quiet hart (line_is.Shadow e image pages) begun = record { begun = changed s e.0 m _ all (omega arith); ok = same_retired e.0 _ refl; value = all; word = all; no = faulted_quiet e.0 begun; wrote = λ changed pa. all; kept = all }
  line_quiet hart (line_is.Fork shadow e pages) begun = record { begun = changed s e.0 m _ all (omega arith); ok = same_retired e.0 _ refl; value = all; word = all; no = faulted_quiet e.0 begun; wrote = λ changed pa. all; kept = all }
  line_quiet hart (line_is.Grant e page) begun = record { begun = all; ok = same_retired e.0 _ refl; value = all; word = all; no = all; wrote = λ changed pa. all; kept = all }
  line_quiet hart (line_is.Run e budget) begun = record { begun = same_retired e.0 _ refl; ok = all; value = all; word = all; no = all; wrote = λ changed pa. all; kept = all }
  line_quiet hart (line_is.Resume e budget) begun = record { begun = same_retired e.0 _ refl; ok = all; value = all; word = all; no = all; wrote = λ changed pa. all; kept = all }
  line_quiet hart (line_is.Send e word) begun = record { begun = all; ok = same_retired e.0 _ refl; value = all; word = all; no = all; wrote = λ changed pa. all; kept = all }
  line_quiet hart (line_is.Take e) begun = record { begun = all; ok = all; value = all; word = same_retired e.0 _ refl; no = all; wrote = λ changed pa. all; kept = all }
  line_quiet hart (line_is.Destroy e) begun = record { begun = same_retired e.0 _ refl; ok = changed s e.0 m _ all (omega arith); value = all; word = all; no = all; wrote = λ changed pa. all; kept = all }
  line_quiet hart (line_is.Drop e) begun = record { begun = all; ok = changed s e.0 m _ all (omega arith); value = all; word = all; no = all; wrote = λ changed pa. all; kept = all }
  line_quiet hart (line_is.After actor count) begun = none_quiet

  attack_quiet : (part : List ℕ) (line : AttackLine) → Quiet m (attack_changes s part line)
  attack_quiet part (attack.Write pa new) = record { begun = all; ok = all; value = all; word = all; no = all; wrote = λ changed pa. written_quiet (record { address = pa; bytes = part }) changed; kept = all }
  attack_quiet part (attack.Keep name pa len) = none_quiet
  attack_quiet part (attack.Back name) = record { begun = all; ok = all; value = all; word = all; no = all; wrote = λ changed pa. written_quiet (record { address = pa; bytes = part }) changed; kept = all }
  attack_quiet part (attack.After actor count) = none_quiet

  -- a run that leaves adds less than its budget
  run_more : (e budget count : ℕ) (why : Why) → FitsWord budget → count ≤ budget → AtMost (m + 2 ^ 32) (left s e count why)
  run_more e budget count why small few = changed s e (m + 2 ^ 32) _ (more s m (2 ^ 32) all) (let h = all e in omega (arith, h, small, few))

  left_more : (setup : SetupParts) (hart : ℕ) (line : Line) (begun : Bool) (count : ℕ) (why : Why) → NumbersFit line → AllowedAnswer setup s line begun (answer_is.Left count why)
      → AtMost (m + 2 ^ 32) ((changes s hart line begun).left count why)
  left_more setup hart (line_is.Run e budget) true count why small allowed = run_more e.0 budget count why small allowed.2.0
  left_more setup hart (line_is.Run e budget) false count why small allowed = absurd allowed
  left_more setup hart (line_is.Resume e budget) true count why small allowed = run_more e.0 budget count why small allowed.2.0
  left_more setup hart (line_is.Resume e budget) false count why small allowed = absurd allowed
  left_more setup hart line begun count why small allowed = more s m (2 ^ 32) all

-- how many lines an answer ends
abbrev ends : Answer → ℕ
ends answer_is.Begun = 0
ends now = 1

answer_more : (all : Changes) (m actor : ℕ) (now : Answer) → Quiet m all → ((count : ℕ) (why : Why) → now ≡ answer_is.Left count why → AtMost (m + 2 ^ 32) (all.left count why))
    → AtMost (m + 2 ^ 32 * ends now) (progressed (change_by all now) actor now)
answer_more all m actor answer_is.Begun quiet leaves = more all.begun m 0 quiet.begun
answer_more all m actor answer_is.Ok quiet leaves = more all.ok m (2 ^ 32) quiet.ok
answer_more all m actor (answer_is.Value value) quiet leaves = more all.value m (2 ^ 32) quiet.value
answer_more all m actor (answer_is.Word word) quiet leaves = more all.word m (2 ^ 32) quiet.word
answer_more all m actor (answer_is.Left count why) quiet leaves = leaves count why refl
answer_more all m actor (answer_is.No cause) quiet leaves = more all.no m (2 ^ 32) quiet.no
answer_more all m actor (answer_is.Wrote changed pa from len) quiet leaves = more (all.wrote changed pa) m (2 ^ 32) (quiet.wrote changed pa)
answer_more all m actor (answer_is.Kept pa from len) quiet leaves = more all.kept m (2 ^ 32) quiet.kept

-- ---- what an entry adds

at_place : {A : Type 0} (P : A → Type 0) (xs : List A) (i : ℕ) (x : A) → All P xs → slice_get xs i ≡ Some x → P x
at_place P xs i x all is = subst P (get_or_from_slice_get xs i x x is) (All-get_or P xs i x (slice_get_within xs i x is) all)

pub script_fits : (scripts : List (List Line)) (hart at : ℕ) (o : Option (List Line)) (line : Line) → ScriptsFit scripts → slice_get scripts hart ≡ o → slice_get (unwrap_or o []) at ≡ Some line
    → NumbersFit line
script_fits scripts hart at None line fit is there = cc
script_fits scripts hart at (Some lines) line fit is there =
    at_place NumbersFit lines at line (at_place (λ (lines : List Line). All NumbersFit lines) scripts hart lines fit is) there

pub not_attackers : (o : Option AttackLine) (line : Line) → option_map of_attacker o ≡ Some (of_hart line) → ⊥
not_attackers None line same = cc
not_attackers (Some x) line same = cc

pub same_line : (o : Option Line) (line : Line) → option_map of_hart o ≡ Some (of_hart line) → o ≡ Some line
same_line None line same = cc
same_line (Some x) line same = cc

module _ (setup : SetupParts) (bytes : List ℕ) where
  line_fits : (actor at : ℕ) (line : Line) (test : Bool) → ScriptsFit setup.lines
      → (if test then option_map of_attacker (slice_get setup.attacker at) else option_map of_hart (slice_get (script_of setup actor) at)) ≡ Some (of_hart line) → NumbersFit line
  line_fits actor at line true fit there = absurd (not_attackers (slice_get setup.attacker at) line there)
  line_fits actor at line false fit there =
      script_fits setup.lines actor at (slice_get setup.lines actor) line fit refl (same_line (slice_get (script_of setup actor) at) line there)

  line_adds : (s : Monitor) (before : List Entry) (m actor at : ℕ) (part : List ℕ) (now : Answer) (line : ActorLine) → ScriptsFit setup.lines → line_at setup actor at ≡ Some line
      → AllowedLine setup bytes s before line (s.progress actor).begun now → AtMost m s → AtMost (m + 2 ^ 32 * ends now) (after_line s actor part now line)
  line_adds s before m actor at part now (of_hart line) fit there allowed all =
      answer_more (changes s actor line (s.progress actor).begun) m actor now (line_quiet s m all actor line (s.progress actor).begun)
      (λ count why is. left_more s m all setup actor line (s.progress actor).begun count why (line_fits actor at line (actor == setup.harts) fit there)
      (subst (AllowedAnswer setup s line (s.progress actor).begun) is allowed))
  line_adds s before m actor at part now (of_attacker line) fit there allowed all =
      answer_more (attack_changes s part line) m actor now (attack_quiet s m all part line) (λ count why is. attack_left s m part line count why all)
    where
      attack_left : (s : Monitor) (m : ℕ) (part : List ℕ) (line : AttackLine) (count : ℕ) (why : Why) → AtMost m s → AtMost (m + 2 ^ 32) ((attack_changes s part line).left count why)
      attack_left s m part (attack.Write pa new) count why all = more s m (2 ^ 32) all
      attack_left s m part (attack.Keep name pa len) count why all = more s m (2 ^ 32) all
      attack_left s m part (attack.Back name) count why all = more s m (2 ^ 32) all
      attack_left s m part (attack.After who count') count why all = more s m (2 ^ 32) all

  entry_adds : (s : Monitor) (before : List Entry) (entry : Entry) (m : ℕ) → ScriptsFit setup.lines → Allowed setup bytes s before entry → AtMost m s
      → AtMost (m + 2 ^ 32 * ends entry.answer) (after setup bytes s entry)
  entry_adds s before entry m fit allowed all =
      subst (λ (o : Option ActorLine). AtMost (m + 2 ^ 32 * ends entry.answer) (option_map_or (after_line s entry.actor (named_part bytes entry.answer) entry.answer) o s)) (sym allowed.1.1)
      (line_adds s before m entry.actor entry.line (named_part bytes entry.answer) entry.answer allowed.1.0 fit allowed.1.1 allowed.1.2 all)

-- ---- the lines that aren't answered

abbrev lines_left : SetupParts → Monitor → ℕ → ℕ
lines_left setup s actor = line_count setup actor - (s.progress actor).answered

-- of all harts and the attacker
abbrev lines_due : SetupParts → Monitor → ℕ
lines_due setup s = sum_by (lines_left setup s) (range_with_len 0 (setup.harts + 1))

moved_on : (p : Progress) (now : Answer) → (moved p now).answered ≡ p.answered + ends now
moved_on p answer_is.Begun = omega arith
moved_on p answer_is.Ok = refl
moved_on p (answer_is.Value value) = refl
moved_on p (answer_is.Word word) = refl
moved_on p (answer_is.Left count why) = refl
moved_on p (answer_is.No cause) = refl
moved_on p (answer_is.Wrote changed pa from len) = refl
moved_on p (answer_is.Kept pa from len) = refl

ends_none_or_one : (now : Answer) → (ends now ≡ 0) ⊎ (ends now ≡ 1)
ends_none_or_one answer_is.Begun = inl refl
ends_none_or_one answer_is.Ok = inr refl
ends_none_or_one (answer_is.Value value) = inr refl
ends_none_or_one (answer_is.Word word) = inr refl
ends_none_or_one (answer_is.Left count why) = inr refl
ends_none_or_one (answer_is.No cause) = inr refl
ends_none_or_one (answer_is.Wrote changed pa from len) = inr refl
ends_none_or_one (answer_is.Kept pa from len) = inr refl

module _ (setup : SetupParts) (bytes : List ℕ) (s : Monitor) (before : List Entry) (entry : Entry) (rules : IsSetup setup) (allowed : Allowed setup bytes s before entry) where
  abbrev next : Monitor
  next = after setup bytes s entry

  progress_is : (actor : ℕ) → next.progress actor ≡ (if actor == entry.actor then moved (s.progress entry.actor) entry.answer else s.progress actor)
  progress_is = answers_move setup bytes s entry allowed.1.0 allowed.1.1

  here : (entry.line < line_count setup entry.actor) × (entry.actor ≤ setup.harts)
  here = line_there setup entry.actor entry.line allowed.1.0 (entry.actor == setup.harts) rules refl allowed.1.1

  own_answered : (next.progress entry.actor).answered ≡ (s.progress entry.actor).answered + ends entry.answer
  own_answered =
      ap (λ (p : Progress). p.answered) (progress_is entry.actor ∙ if_same entry.actor (moved (s.progress entry.actor) entry.answer) (s.progress entry.actor))
      ∙ moved_on (s.progress entry.actor) entry.answer

  other_answered : (actor : ℕ) → actor ≢ entry.actor → (next.progress actor).answered ≡ (s.progress actor).answered
  other_answered actor other = ap (λ (p : Progress). p.answered) (progress_is actor ∙ if_other entry.actor actor (moved (s.progress entry.actor) entry.answer) (s.progress actor) other)

  own_less : lines_left setup next entry.actor + ends entry.answer ≤ lines_left setup s entry.actor
  own_less = elim (ends_none_or_one entry.answer) [
    | inl none ↦ omega (arith, own_answered, none)
    | inr one ↦ omega (arith, own_answered, one, here.0, allowed.0)
  ]

  no_more : (actor : ℕ) → lines_left setup next actor ≤ lines_left setup s actor
  no_more = everywhere (λ actor. lines_left setup next actor ≤ lines_left setup s actor) entry.actor
      (omega (arith, own_less))
      (λ actor other. omega (arith, other_answered actor other))

  due_less : lines_due setup next + ends entry.answer ≤ lines_due setup s
  due_less = elim (ends_none_or_one entry.answer) [
    | inl none ↦ omega (arith, none, sum_by-le-sum_by (lines_left setup next) (lines_left setup s) (range_with_len 0 (setup.harts + 1)) no_more)
    | inr one ↦ omega (arith, one, sum_drops (lines_left setup s) (lines_left setup next) entry.actor 0 (setup.harts + 1) (omega arith) (omega (arith, here.1)) no_more (omega (arith, own_less, one)))
  ]

-- ---- histories

-- what any number retired, and what the lines that aren't answered may add, come to so many at most
record Fits (setup : SetupParts) (top : ℕ) (s : Monitor) : Type 0 where
  pub most : ℕ
  pub paid : most + 2 ^ 32 * lines_due setup s ≤ top
  pub all : AtMost most s

module _ (setup : SetupParts) (bytes : List ℕ) (rules : IsSetup setup) (fit : ScriptsFit setup.lines) where
  entry_fits : (top : ℕ) (s : Monitor) (before : List Entry) (entry : Entry) → Allowed setup bytes s before entry → Fits setup top s → Fits setup top (after setup bytes s entry)
  entry_fits top s before entry allowed fits = record {
    most = fits.most + 2 ^ 32 * ends entry.answer;
    paid = omega (arith, fits.paid, due_less setup bytes s before entry rules allowed);
    all = entry_adds setup bytes s before entry fits.most fit allowed fits.all;
  }

  all_fit : (top : ℕ) (s : Monitor) (before entries : List Entry) → AllAllowed setup bytes s before entries → Fits setup top s → Fits setup top (state_after setup bytes s entries)
  all_fit top s before [] allowed fits = fits
  all_fit top s before (entry ∷ entries) allowed fits =
      all_fit top (after setup bytes s entry) (before ++ entry ∷ []) entries allowed.1 (entry_fits top s before entry allowed.0 fits)

  -- at the start, all lines are due
  start_due : 2 * lines_due setup (opening setup) ≤ entries_due setup (opening setup)
  unfolding opening
  start_due = twice (lines_left setup (opening setup)) (answers_due setup (opening setup)) (range_with_len 0 (setup.harts + 1)) (λ actor. omega arith)
    where
      twice : (f g : ℕ → ℕ) (xs : List ℕ) → ((x : ℕ) → 2 * f x ≤ g x) → 2 * sum_by f xs ≤ sum_by g xs
      twice f g [] each = omega arith
      twice f g (x ∷ xs) each = omega (arith, sum_by-cons f x xs, sum_by-cons g x xs, each x, twice f g xs each)

  none_retired : AtMost 0 (opening setup)
  unfolding opening
  none_retired e = omega arith

  start_fits : Fits setup (2 ^ 48) (opening setup)
  start_fits = record {
    most = 0;
    paid = (let few = leb-true (sum_by length setup.lines + length setup.attacker) 65536 rules.count in omega (arith, start_due, (setups_need setup rules).entries, few));
    all = none_retired;
  }

  pub retired_few : (entries : List Entry) → Legal setup bytes entries → (e : ℕ) → ((legal_state setup bytes entries).number e).retired ≤ 2 ^ 48
  retired_few entries legal e =
      let fits = all_fit (2 ^ 48) (opening setup) [] entries legal start_fits in
      omega (arith, fits.paid, fits.all e)

-- ---- worlds

module _ (digest_of : List ℕ → List ℕ) (w : WorldData) (k : Kept digest_of w) where
  pub monitor_retired : (e : ℕ) → ((state_of w).number e).retired ≤ 2 ^ 48
  monitor_retired = retired_few w.setup w.history.bytes k.sizes.rules k.sizes.lines_fit w.history.entries k.legal

  -- a number that isn't on
  pub rested_retired : (e : ℕ) → (enclave_at w.enclaves e).state ≢ state_is.On → (enclave_at w.enclaves e).retired ≤ 2 ^ 48
  rested_retired e rests = few (enclave_at w.enclaves e).state ((state_of w).number e).retired (enclave_at w.enclaves e).retired rests (monitor_retired e) (k.stands.records e).retired
    where
      few : (state : State) (n retired : ℕ) → state ≢ state_is.On → n ≤ 2 ^ 48 → RetiredAgrees state retired n → retired ≤ 2 ^ 48
      few state_is.On n retired rests most agrees = absurd (rests refl)
      few state n retired rests most agrees = omega (arith, most, agrees)

  -- a number that a hart runs: its budget, what its line added, and what it retired in all
  pub record RunFits (e : EncNo) (budget count : ℕ) : Type 0 where
    pub small : budget < 2 ^ 32
    pub within : count < budget
    pub retired : (enclave_at w.enclaves e.0).retired ≤ 2 ^ 48 + count

  run_budget : (first : Bool) (e : EncNo) (budget : ℕ) → NumbersFit (run_line first e budget) → FitsWord budget
  run_budget true e budget is = is
  run_budget false e budget is = is

  pub running_fits : (hart : ℕ) (first : Bool) (e : EncNo) (budget count : ℕ) (micro : Micro) → hart_line w hart ≡ Some (run_line first e budget) → under_at w.under hart ≡ Running micro count
      → RunFits e budget count
  running_fits hart first e budget count micro line under =
      let stands : LineUnderWay w.setup (written_page w) (enclave_at w.enclaves) (state_of w).number hart (Some (run_line first e budget)) (Running micro count) =
      subst (LineUnderWay w.setup (written_page w) (enclave_at w.enclaves) (state_of w).number hart (Some (run_line first e budget))) under
      (subst (λ (l : Option Line). LineUnderWay w.setup (written_page w) (enclave_at w.enclaves) (state_of w).number hart l (under_at w.under hart)) line (k.stands.lines hart)) in
      let running = is_running w.setup (written_page w) (enclave_at w.enclaves) (state_of w).number hart budget count micro e first stands in
      record {
        small = run_budget first e budget (script_fits w.setup.lines hart _ (slice_get w.setup.lines hart) (run_line first e budget) k.sizes.lines_fit refl line);
        within = running.within;
        retired = omega (arith, running.retired, monitor_retired e.0);
      }
