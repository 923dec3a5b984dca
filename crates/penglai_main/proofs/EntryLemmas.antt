-- Where the attacker has no lines, no answer changes a byte off chip; and no actor answers more lines than it has.
use Rattle.std.proofs.Common.{◌≡◌, ℕ, ◌+◌, ◌≤◌, ◌==◌, Bool, true, false, if◌then◌else◌, ◌||◌, List, [], ◌∷◌, ◌++◌, slice_get, Option, Some, None, option_map, refl, ap, ◌∙◌, inl, inr, arith}
use Rattle.std.specs.List.{list_any}
use Rattle.pl_base.specs.declared.place.Place.{Place}
use Rattle.pl_base.specs.declared.address.Va.{Va}
use Rattle.pl_base.specs.declared.access.Kind.TheVariants as kind_is
use Rattle.pl_base.specs.declared.refusal.No.{No}
use Rattle.pl_base.specs.declared.refusal.No.TheVariants as refused
use Rattle.pl_base.specs.Address.{vpn_of}
use Rattle.mon_tables.specs.Space.{Mapping, mapping_at}
use Rattle.pl_history.specs.declared.answer.Answer.{Answer}
use Rattle.pl_history.specs.declared.answer.Answer.TheVariants as answer_is
use Rattle.pl_history.specs.declared.answer.Entry.{Entry}
use Rattle.pl_history.specs.declared.line.AttackLine.{AttackLine}
use Rattle.pl_history.specs.declared.line.Line.{Line}
use Rattle.pl_history.specs.declared.line.Line.TheVariants as line_is
use Rattle.pl_history.specs.declared.setup.SetupParts.{SetupParts}
use Rattle.pl_history.specs.Answering.{AtOnce, Begins, EndsDone, EndsDoneOrFaulted, FaultsOr}
use Rattle.pl_history.specs.HostAccess.{AnswersBy, HostAccess, address_refusal, answer_or, host_word, load_by, mapping_refusal, store_by}
use Rattle.pl_history.specs.GivingBack.{drop_refusal}
use Rattle.pl_history.specs.HostMaps.{early_refusals, map_refusal, unmap_refusal}
use Rattle.pl_history.specs.Making.{create_refusal, fork_refusal, grant_refusal}
use Rattle.pl_history.specs.Words.{send_refusal, sent_out, take_refusal}
use Rattle.pl_base.specs.Refusals.{first_refusal}
use Rattle.pl_base.specs.States.{idle_refusal, is_fresh, is_paused, run_refusal}
use Rattle.pl_history.specs.Laws.{moved}
use Rattle.pl_history.specs.Legal.{ActorLine, of_hart, of_attacker, AllAllowed, Allowed, AllowedAnswer, AllowedLine, Legal, after, legal_state, state_after}
use Rattle.pl_history.specs.Licence.{Licensed}
use Rattle.pl_history.specs.Monitor.{Monitor, Number, Progress, line_count, opening, removed_at, script_of}
use Rattle.pl_history.specs.Rules.{IsSetup}
use Rattle.pl_history.specs.Running.{Leaves}
use Rattle.pl_history.specs.Unattacked.{IsUnattacked, says_changed}
use Rattle.pl_history.proofs.ProgressLemmas.{answers_move}
use Rattle.world_attack.proofs.RoomLemmas.{line_there}
use Rattle.world_machine.proofs.Lists.{everywhere, if_other, if_same}

-- ---- the forms of answers

at_once : (refusal : Option No) (gives : Option Answer) (begun : Bool) (now : Answer) → ((x : Answer) → gives ≡ Some x → says_changed x ≡ false) → AtOnce refusal gives begun now → says_changed now ≡ false
at_once refusal gives true now fine allowed = absurd allowed
at_once refusal gives false answer_is.Begun fine allowed = refl
at_once refusal gives false answer_is.Ok fine allowed = refl
at_once refusal gives false (answer_is.Value value) fine allowed = refl
at_once refusal gives false (answer_is.Word word) fine allowed = refl
at_once refusal gives false (answer_is.Left count why) fine allowed = refl
at_once refusal gives false (answer_is.No cause) fine allowed = refl
at_once refusal gives false (answer_is.Wrote changed pa from len) fine allowed = fine (answer_is.Wrote changed pa from len) allowed.1
at_once refusal gives false (answer_is.Kept pa from len) fine allowed = refl

-- what is done at once
done_at_once : (x : Answer) → Some answer_is.Ok ≡ Some x → says_changed x ≡ false
done_at_once answer_is.Begun same = refl
done_at_once answer_is.Ok same = refl
done_at_once (answer_is.Value value) same = refl
done_at_once (answer_is.Word word) same = refl
done_at_once (answer_is.Left count why) same = refl
done_at_once (answer_is.No cause) same = refl
done_at_once (answer_is.Wrote changed pa from len) same = cc
done_at_once (answer_is.Kept pa from len) same = refl

-- a word that is taken
word_at_once : (o : Option ℕ) (x : Answer) → option_map answer_is.Word o ≡ Some x → says_changed x ≡ false
word_at_once None x same = cc
word_at_once (Some word) answer_is.Begun same = refl
word_at_once (Some word) answer_is.Ok same = refl
word_at_once (Some word) (answer_is.Value value) same = refl
word_at_once (Some word) (answer_is.Word other) same = refl
word_at_once (Some word) (answer_is.Left count why) same = refl
word_at_once (Some word) (answer_is.No cause) same = refl
word_at_once (Some word) (answer_is.Wrote changed pa from len) same = cc
word_at_once (Some word) (answer_is.Kept pa from len) same = refl

begins : (refusal : Option No) (Ends : Answer → Type 0) (begun : Bool) (now : Answer) → (Ends now → says_changed now ≡ false) → Begins refusal Ends begun now → says_changed now ≡ false
begins refusal Ends true now ends allowed = ends allowed
begins refusal Ends false answer_is.Begun ends allowed = refl
begins refusal Ends false (answer_is.No cause) ends allowed = refl
begins refusal Ends false answer_is.Ok ends allowed = absurd allowed
begins refusal Ends false (answer_is.Value value) ends allowed = absurd allowed
begins refusal Ends false (answer_is.Word word) ends allowed = absurd allowed
begins refusal Ends false (answer_is.Left count why) ends allowed = absurd allowed
begins refusal Ends false (answer_is.Wrote changed pa from len) ends allowed = absurd allowed
begins refusal Ends false (answer_is.Kept pa from len) ends allowed = absurd allowed

done : (now : Answer) → EndsDone now → says_changed now ≡ false
done now is = ap says_changed is

module _ (Licence : Place → Type 0) where
  faults_or : (earlier : Option No) (Otherwise : Bool → Answer → Type 0) (begun : Bool) (now : Answer) → (Otherwise begun now → says_changed now ≡ false) → FaultsOr earlier Licence Otherwise begun now → says_changed now ≡ false
  faults_or earlier Otherwise true now other allowed = other allowed
  faults_or earlier Otherwise false (answer_is.No (refused.Fault place)) other allowed = refl
  faults_or earlier Otherwise false now other allowed = other allowed

  done_or_faulted : (now : Answer) → EndsDoneOrFaulted Licence now → says_changed now ≡ false
  done_or_faulted (answer_is.No (refused.Fault place)) is = refl
  done_or_faulted now is = ap says_changed is

  leaves : (setup : SetupParts) (n : Number) (budget : ℕ) (now : Answer) → Leaves setup Licence n budget now → says_changed now ≡ false
  leaves setup n budget (answer_is.Left count why) is = refl
  leaves setup n budget now is = absurd is

answer_or_unchanging : (refusal : Option No) (gives : Answer) → says_changed gives ≡ false → says_changed (answer_or refusal gives) ≡ false
answer_or_unchanging None gives is = is
answer_or_unchanging (Some cause) gives is = refl

answers_by : (by : Mapping → Answer) → ((m : Mapping) → says_changed (by m) ≡ false) → (m removed : Option Mapping) (now : Answer) → AnswersBy by m removed now → says_changed now ≡ false
answers_by by fine (Some m) removed now is = ap says_changed is ∙ fine m
answers_by by fine None (Some m) now is = elim is [
  | inl same ↦ ap says_changed same ∙ fine m
  | inr none ↦ ap says_changed none
]
answers_by by fine None None now is = ap says_changed is

host_access : (refusal : Option No) (by : Mapping → Answer) (s : Monitor) (va : Va) (begun : Bool) (now : Answer) → ((m : Mapping) → says_changed (by m) ≡ false) → HostAccess refusal by s va begun now → says_changed now ≡ false
host_access refusal by s va true now fine allowed = absurd allowed
host_access (Some cause) by s va false now fine allowed = ap says_changed allowed
host_access None by s va false now fine allowed = answers_by by fine (mapping_at s.space (vpn_of va).0) (removed_at s.removals (vpn_of va).0) now allowed

-- ---- each line of a hart

module _ (setup : SetupParts) (s : Monitor) where
  hart_unchanging : (line : Line) (begun : Bool) (now : Answer) → AllowedAnswer setup s line begun now → says_changed now ≡ false
  hart_unchanging (line_is.Load va) begun now allowed =
      faults_or (Licensed setup s (line_is.Load va)) (address_refusal va) (HostAccess (address_refusal va) (load_by setup s va) s va) begun now
      (host_access (address_refusal va) (load_by setup s va) s va begun now (λ m. answer_or_unchanging (mapping_refusal setup kind_is.Load va m) (answer_is.Value (host_word s va m)) refl)) allowed
  hart_unchanging (line_is.Store va word) begun now allowed =
      faults_or (Licensed setup s (line_is.Store va word)) (address_refusal va) (HostAccess (address_refusal va) (store_by setup va) s va) begun now
      (host_access (address_refusal va) (store_by setup va) s va begun now (λ m. answer_or_unchanging (mapping_refusal setup kind_is.Store va m) answer_is.Ok refl)) allowed
  hart_unchanging (line_is.Map va page perms) begun now allowed =
      faults_or (Licensed setup s (line_is.Map va page perms)) (first_refusal (early_refusals setup s va)) (AtOnce (map_refusal setup s va page) (Some answer_is.Ok)) begun now
      (at_once (map_refusal setup s va page) (Some answer_is.Ok) begun now done_at_once) allowed
  hart_unchanging (line_is.Unmap va) begun now allowed =
      faults_or (Licensed setup s (line_is.Unmap va)) (first_refusal (early_refusals setup s va)) (Begins (unmap_refusal setup s va) EndsDone) begun now
      (begins (unmap_refusal setup s va) EndsDone begun now (done now)) allowed
  hart_unchanging (line_is.Create e image pages) begun now allowed =
      begins (create_refusal setup s e.0 image pages) _ begun now (done_or_faulted (Licensed setup s (line_is.Create e image pages)) now) allowed
  hart_unchanging (line_is.Shadow e image pages) begun now allowed =
      begins (create_refusal setup s e.0 image pages) _ begun now (done_or_faulted (Licensed setup s (line_is.Shadow e image pages)) now) allowed
  hart_unchanging (line_is.Fork shadow e pages) begun now allowed =
      begins (fork_refusal setup s shadow.0 e.0 pages) _ begun now (done_or_faulted (Licensed setup s (line_is.Fork shadow e pages)) now) allowed
  hart_unchanging (line_is.Grant e page) begun now allowed = at_once (grant_refusal setup s e.0 page) (Some answer_is.Ok) begun now done_at_once allowed
  hart_unchanging (line_is.Run e budget) begun now allowed =
      begins (run_refusal is_fresh (s.number e.0).state) _ begun now (leaves (Licensed setup s (line_is.Run e budget)) setup (s.number e.0) budget now) allowed
  hart_unchanging (line_is.Resume e budget) begun now allowed =
      begins (run_refusal is_paused (s.number e.0).state) _ begun now (leaves (Licensed setup s (line_is.Resume e budget)) setup (s.number e.0) budget now) allowed
  hart_unchanging (line_is.Send e word) begun now allowed = at_once (send_refusal (s.number e.0)) (Some answer_is.Ok) begun now done_at_once allowed
  hart_unchanging (line_is.Take e) begun now allowed =
      let sent : Option ℕ = slice_get (sent_out setup (s.number e.0)) (s.number e.0).taken in
      at_once (take_refusal setup (s.number e.0)) (option_map answer_is.Word sent) begun now (word_at_once sent) allowed
  hart_unchanging (line_is.Destroy e) begun now allowed = begins (idle_refusal (s.number e.0).state) EndsDone begun now (done now) allowed
  hart_unchanging (line_is.Drop e) begun now allowed = at_once (drop_refusal setup s e.0) (Some answer_is.Ok) begun now done_at_once allowed
  hart_unchanging (line_is.After actor count) false answer_is.Ok allowed = refl
  hart_unchanging (line_is.After actor count) begun now allowed = absurd allowed

-- ---- no line is the attacker's

none_there : (at : ℕ) (line : AttackLine) (o : Option AttackLine) → o ≡ slice_get [] at → option_map of_attacker o ≡ Some (of_attacker line) → ⊥
none_there at line None is there = cc
none_there at line (Some other) is there = cc

is_harts : (o : Option Line) (line : AttackLine) → option_map of_hart o ≡ Some (of_attacker line) → ⊥
is_harts None line there = cc
is_harts (Some other) line there = cc

no_attack : (setup : SetupParts) (actor at : ℕ) (line : AttackLine) (test : Bool) → setup.attacker ≡ []
    → (if test then option_map of_attacker (slice_get setup.attacker at) else option_map of_hart (slice_get (script_of setup actor) at)) ≡ Some (of_attacker line) → ⊥
no_attack setup actor at line true none there = none_there at line (slice_get setup.attacker at) (ap (λ lines. slice_get lines at) none) there
no_attack setup actor at line false none there = is_harts (slice_get (script_of setup actor) at) line there

both_false : (a b : Bool) → a ≡ false → b ≡ false → (a || b) ≡ false
both_false true b p q = p
both_false false b p q = q

-- ---- histories

module _ (setup : SetupParts) (bytes : List ℕ) where
  module _ (s : Monitor) (before : List Entry) (entry : Entry) (none : setup.attacker ≡ []) where
    line_unchanging : (line : ActorLine) → (if entry.actor == setup.harts then option_map of_attacker (slice_get setup.attacker entry.line) else option_map of_hart (slice_get (script_of setup entry.actor) entry.line)) ≡ Some line
        → AllowedLine setup bytes s before line (s.progress entry.actor).begun entry.answer → says_changed entry.answer ≡ false
    line_unchanging (of_hart line) there allowed = hart_unchanging setup s line (s.progress entry.actor).begun entry.answer allowed
    line_unchanging (of_attacker line) there allowed = absurd (no_attack setup entry.actor entry.line line (entry.actor == setup.harts) none there)

  all_unattacked : (s : Monitor) (before entries : List Entry) → setup.attacker ≡ [] → AllAllowed setup bytes s before entries → IsUnattacked entries
  all_unattacked s before [] none allowed = refl
  all_unattacked s before (entry ∷ entries) none allowed =
      both_false (says_changed entry.answer) (list_any (λ (e : Entry). says_changed e.answer) entries)
      (line_unchanging s before entry none allowed.0.1.0 allowed.0.1.1 allowed.0.1.2)
      (all_unattacked (after setup bytes s entry) (before ++ entry ∷ []) entries none allowed.1)

  -- the attacker changed no byte
  pub unattacked : (entries : List Entry) → setup.attacker ≡ [] → Legal setup bytes entries → IsUnattacked entries
  unattacked entries none legal = all_unattacked (opening setup) [] entries none legal

-- ---- how many lines are answered

moved_by_one : (p : Progress) (now : Answer) → (moved p now).answered ≤ p.answered + 1
moved_by_one p answer_is.Begun = omega arith
moved_by_one p answer_is.Ok = omega arith
moved_by_one p (answer_is.Value value) = omega arith
moved_by_one p (answer_is.Word word) = omega arith
moved_by_one p (answer_is.Left count why) = omega arith
moved_by_one p (answer_is.No cause) = omega arith
moved_by_one p (answer_is.Wrote changed pa from len) = omega arith
moved_by_one p (answer_is.Kept pa from len) = omega arith

-- no actor answered more lines than it has
abbrev Within : SetupParts → Monitor → Type 0
Within setup s = (actor : ℕ) → (s.progress actor).answered ≤ line_count setup actor

module _ (setup : SetupParts) (bytes : List ℕ) (rules : IsSetup setup) where
  stays_within : (s : Monitor) (before : List Entry) (entry : Entry) → Allowed setup bytes s before entry → Within setup s → Within setup (after setup bytes s entry)
  stays_within s before entry allowed within =
      let next : Monitor = after setup bytes s entry in
      let now : (actor : ℕ) → next.progress actor ≡ (if actor == entry.actor then moved (s.progress entry.actor) entry.answer else s.progress actor) = answers_move setup bytes s entry allowed.1.0 allowed.1.1 in
      let there = line_there setup entry.actor entry.line allowed.1.0 (entry.actor == setup.harts) rules refl allowed.1.1 in
      let own : (next.progress entry.actor).answered ≡ (moved (s.progress entry.actor) entry.answer).answered
      = ap (λ (p : Progress). p.answered) (now entry.actor ∙ if_same entry.actor (moved (s.progress entry.actor) entry.answer) (s.progress entry.actor)) in
      everywhere (λ actor. (next.progress actor).answered ≤ line_count setup actor) entry.actor
      (omega (arith, own, moved_by_one (s.progress entry.actor) entry.answer, there.0, allowed.0))
      (λ actor other.
      let same : (next.progress actor).answered ≡ (s.progress actor).answered
      = ap (λ (p : Progress). p.answered) (now actor ∙ if_other entry.actor actor (moved (s.progress entry.actor) entry.answer) (s.progress actor) other) in
      omega (arith, same, within actor))

  all_within : (s : Monitor) (before entries : List Entry) → AllAllowed setup bytes s before entries → Within setup s → Within setup (state_after setup bytes s entries)
  all_within s before [] allowed within = within
  all_within s before (entry ∷ entries) allowed within =
      all_within (after setup bytes s entry) (before ++ entry ∷ []) entries allowed.1 (stays_within s before entry allowed.0 within)

  none_answered : Within setup (opening setup)
  unfolding opening
  none_answered actor = omega arith

  pub answered_within : (entries : List Entry) → Legal setup bytes entries → (actor : ℕ) → ((legal_state setup bytes entries).progress actor).answered ≤ line_count setup actor
  answered_within entries legal = all_within (opening setup) [] entries legal none_answered
