-- After every history what the monitor's state says of each number is what the history says since the newest line that makes it began.
use Rattle.std.proofs.Common.{◌≡◌, ℕ, ◌==◌, Bool, true, false, if◌then◌else◌, List, [], ◌∷◌, Option, Some, None, refl, sym, ap, ◌∙◌, inl, inr}
use Rattle.std.specs.Option.{option_map_or}
use Rattle.std.proofs.lemmas.Bool.{cases_Bool, eqb-true}
use Rattle.pl_history.specs.declared.answer.Answer.{Answer}
use Rattle.pl_history.specs.declared.answer.Answer.TheVariants as answer_is
use Rattle.pl_history.specs.declared.answer.Entry.{Entry}
use Rattle.pl_history.specs.declared.line.Line.{Line}
use Rattle.pl_history.specs.declared.line.Line.TheVariants as line_is
use Rattle.pl_history.specs.declared.setup.SetupParts.{SetupParts}
use Rattle.pl_history.specs.Answering.{change_by, progressed, unchanged}
use Rattle.pl_history.specs.History.{named_part}
use Rattle.pl_history.specs.HostAccess.{host_stored}
use Rattle.pl_history.specs.HostMaps.{removing}
use Rattle.pl_history.specs.Legal.{ActorLine, after, after_line, attack_changes, changes, legal_state, line_at, of_attacker, of_hart, state_after}
use Rattle.pl_history.specs.Monitor.{Monitor, Number, opening, with_number}
use Rattle.world_machine.specs.SinceMade.{SinceMade, answer_adds, forked_of, given_up, line_adds, never_made, now_live, run_left, since_made, spare_given, with_since, word_sent}
use Rattle.world_machine.proofs.NumbersStay.{SameNumbers, attack_numbers, progressed_numbers, removing_numbers, stored_numbers, unchanged_numbers}

-- the same of a number of the monitor
abbrev pub of_number : Number → SinceMade
of_number n = record { live = n.live; image = n.image; pages = n.pages; spares = n.spares; parent = n.parent; sent = n.sent; retired = n.retired }

-- each number of the monitor is as the history says
abbrev pub AllAgree : (ℕ → SinceMade) → Monitor → Type 0
AllAgree all s = (e : ℕ) → all e ≡ of_number (s.number e)

module _ (all : ℕ → SinceMade) where
  -- one number changes, as the history says, and none else
  set_changed : (s : Monitor) (f : ℕ) (n : Number) (now : SinceMade) → now ≡ of_number n → AllAgree all s → AllAgree (with_since all f now) (with_number s f n)
  set_changed s f n now is k e = by_test (e == f)
    where
      by_test : (b : Bool) → (if b then now else all e) ≡ of_number (if b then n else s.number e)
      by_test true = is
      by_test false = k e

  -- or changes in nothing that the history says
  set_kept : (s : Monitor) (f : ℕ) (n : Number) → of_number n ≡ of_number (s.number f) → AllAgree all s → AllAgree all (with_number s f n)
  set_kept s f n same k e = elim (cases_Bool (e == f)) [
    | inl own ↦ k e ∙ ap (λ g. of_number (s.number g)) (eqb-true e f own) ∙ sym same ∙ sym (ap (λ (b : Bool). of_number (if b then n else s.number e)) own)
    | inr other ↦ k e ∙ sym (ap (λ (b : Bool). of_number (if b then n else s.number e)) other)
  ]

  -- or no number changes
  agrees_still : (s t : Monitor) → SameNumbers s t → AllAgree all s → AllAgree all t
  agrees_still s t same k e = k e ∙ sym (ap (λ (number : ℕ → Number). of_number (number e)) same)

  line_agrees : (s : Monitor) (hart : ℕ) (line : Line) (begun : Bool) (now : Answer) → AllAgree all s
      → AllAgree (line_adds all line now) (change_by (changes s hart line begun) now)
  line_agrees s hart (line_is.Load va) begun now k = agrees_still s (change_by (unchanged s) now) (unchanged_numbers s now) k
  line_agrees s hart (line_is.After actor count) begun now k = agrees_still s (change_by (unchanged s) now) (unchanged_numbers s now) k
  line_agrees s hart (line_is.Store va word) begun answer_is.Ok k = agrees_still s (host_stored s va word) (stored_numbers s va word) k
  line_agrees s hart (line_is.Map va page perms) begun answer_is.Ok k = k
  line_agrees s hart (line_is.Unmap va) begun answer_is.Begun k = agrees_still s (removing s hart va) (removing_numbers s hart va) k
  line_agrees s hart (line_is.Unmap va) begun answer_is.Ok k = k
  line_agrees s hart (line_is.Create d image pages) begun answer_is.Begun k = set_changed s d.0 _ _ refl k
  line_agrees s hart (line_is.Create d image pages) begun answer_is.Ok k = set_changed s d.0 _ _ (ap (now_live true) (k d.0)) k
  line_agrees s hart (line_is.Create d image pages) true (answer_is.No cause) k = set_kept s d.0 _ refl k
  line_agrees s hart (line_is.Create d image pages) false (answer_is.No cause) k = k
  line_agrees s hart (line_is.Shadow d image pages) begun answer_is.Begun k = set_changed s d.0 _ _ refl k
  line_agrees s hart (line_is.Shadow d image pages) begun answer_is.Ok k = set_kept s d.0 _ refl k
  line_agrees s hart (line_is.Shadow d image pages) true (answer_is.No cause) k = set_kept s d.0 _ refl k
  line_agrees s hart (line_is.Shadow d image pages) false (answer_is.No cause) k = k
  line_agrees s hart (line_is.Fork shadow d pages) begun answer_is.Begun k = set_changed s d.0 _ _ (ap (λ (x : SinceMade). forked_of shadow.0 x.image pages) (k shadow.0)) k
  line_agrees s hart (line_is.Fork shadow d pages) begun answer_is.Ok k = set_changed s d.0 _ _ (ap (now_live true) (k d.0)) k
  line_agrees s hart (line_is.Fork shadow d pages) true (answer_is.No cause) k = set_kept s d.0 _ refl k
  line_agrees s hart (line_is.Fork shadow d pages) false (answer_is.No cause) k = k
  line_agrees s hart (line_is.Grant d page) begun answer_is.Ok k = set_changed s d.0 _ _ (ap (spare_given page) (k d.0)) k
  line_agrees s hart (line_is.Run d budget) begun answer_is.Begun k = set_kept s d.0 _ refl k
  line_agrees s hart (line_is.Run d budget) begun (answer_is.Left count why) k = set_changed s d.0 _ _ (ap (run_left count) (k d.0)) k
  line_agrees s hart (line_is.Resume d budget) begun answer_is.Begun k = set_kept s d.0 _ refl k
  line_agrees s hart (line_is.Resume d budget) begun (answer_is.Left count why) k = set_changed s d.0 _ _ (ap (run_left count) (k d.0)) k
  line_agrees s hart (line_is.Send d word) begun answer_is.Ok k = set_changed s d.0 _ _ (ap (word_sent word) (k d.0)) k
  line_agrees s hart (line_is.Take d) begun (answer_is.Word word) k = set_kept s d.0 _ refl k
  line_agrees s hart (line_is.Destroy d) begun answer_is.Begun k = set_changed s d.0 _ _ (ap (now_live false) (k d.0)) k
  line_agrees s hart (line_is.Destroy d) begun answer_is.Ok k = set_changed s d.0 _ _ (ap given_up (k d.0)) k
  line_agrees s hart (line_is.Drop d) begun answer_is.Ok k = set_changed s d.0 _ _ (ap given_up (k d.0)) k
  line_agrees s hart line begun now k = k

module _ (setup : SetupParts) (bytes : List ℕ) where
  entry_agrees : (s : Monitor) (all : ℕ → SinceMade) (entry : Entry) → AllAgree all s
      → AllAgree (answer_adds all (line_at setup entry.actor entry.line) entry.answer) (after setup bytes s entry)
  entry_agrees s all entry k = by_line (line_at setup entry.actor entry.line)
    where
      by_line : (o : Option ActorLine) → AllAgree (answer_adds all o entry.answer) (option_map_or (after_line s entry.actor (named_part bytes entry.answer) entry.answer) o s)
      by_line None = k
      by_line (Some (of_hart line)) =
          let changed : Monitor = change_by (changes s entry.actor line (s.progress entry.actor).begun) entry.answer in
          agrees_still (line_adds all line entry.answer) changed (progressed changed entry.actor entry.answer) (progressed_numbers changed entry.actor entry.answer)
          (line_agrees all s entry.actor line (s.progress entry.actor).begun entry.answer k)
      by_line (Some (of_attacker line)) =
          let part : List ℕ = named_part bytes entry.answer in
          let changed : Monitor = change_by (attack_changes s part line) entry.answer in
          agrees_still all changed (progressed changed entry.actor entry.answer) (progressed_numbers changed entry.actor entry.answer)
          (agrees_still all s changed (attack_numbers s part line entry.answer) k)

  all_agree : (s : Monitor) (all : ℕ → SinceMade) (entries : List Entry) → AllAgree all s → AllAgree (since_made setup all entries) (state_after setup bytes s entries)
  all_agree s all [] k = k
  all_agree s all (entry ∷ entries) k =
      all_agree (after setup bytes s entry) (answer_adds all (line_at setup entry.actor entry.line) entry.answer) entries (entry_agrees s all entry k)

  opening_agrees : AllAgree (λ e. never_made) (opening setup)
  unfolding opening
  opening_agrees e = refl

  -- so it is after every history
  pub since_agrees : (entries : List Entry) (e : ℕ) → since_made setup (λ e. never_made) entries e ≡ of_number ((legal_state setup bytes entries).number e)
  since_agrees entries = all_agree (opening setup) (λ e. never_made) entries opening_agrees
