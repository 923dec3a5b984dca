-- In a legal history a number that is free has nothing: no pages, no spares, no parent, no words, and nothing of it was taken or has retired.
use Rattle.std.proofs.Common.{◌≡◌, ℕ, ◌==◌, Bool, true, false, if◌then◌else◌, List, [], Option, None, refl, sym, ap, ◌∙◌, subst}
use Rattle.pl_base.specs.Refusals.{refuse}
use Rattle.pl_base.specs.States.{idle_refusal, is_wordless, state_left}
use Rattle.pl_base.specs.declared.refusal.No.{No}
use Rattle.pl_base.specs.declared.refusal.No.TheVariants as refused
use Rattle.pl_base.specs.declared.state.State.{State}
use Rattle.pl_base.specs.declared.state.State.TheVariants as state_is
use Rattle.pl_base.specs.declared.state.Why.{Why}
use Rattle.pl_base.specs.declared.state.Why.TheVariants as why_is
use Rattle.pl_history.specs.declared.answer.Answer.{Answer}
use Rattle.pl_history.specs.declared.answer.Answer.TheVariants as answer_is
use Rattle.pl_history.specs.declared.answer.Entry.{Entry}
use Rattle.pl_history.specs.declared.line.Line.{Line}
use Rattle.pl_history.specs.declared.line.Line.TheVariants as line_is
use Rattle.pl_history.specs.declared.setup.SetupParts.{SetupParts}
use Rattle.pl_history.specs.Answering.{AtOnce, change_by}
use Rattle.pl_history.specs.Attacking.{Placed, written}
use Rattle.pl_history.specs.HostAccess.{host_stored}
use Rattle.pl_history.specs.HostMaps.{removing}
use Rattle.pl_history.specs.Legal.{AllowedAnswer, Legal, changes, legal_state}
use Rattle.pl_history.specs.Making.{grant_refusal}
use Rattle.pl_history.specs.Monitor.{Monitor, Number, Progress, freed, opening, with_number, with_progress}
use Rattle.pl_history.specs.Words.{send_refusal, take_refusal}
use Rattle.pl_history.proofs.HistoryLemmas.{holds_after, unchanged_holds}
use Rattle.pl_history.proofs.Refusals.{first_none}
use Rattle.world_machine.proofs.NumbersStay.{SameNumbers, removing_numbers, stored_numbers, written_numbers}

-- the number is as one that was freed
pub record IsFreed (n : Number) : Type 0 where
  pub live : n.live ≡ false
  pub pages : n.pages ≡ []
  pub spares : n.spares ≡ []
  pub parent : n.parent ≡ None
  pub sent : n.sent ≡ []
  pub taken : n.taken ≡ 0
  pub retired : n.retired ≡ 0

abbrev pub FreeIsFreed : Number → Type 0
FreeIsFreed n = n.state ≡ state_is.Free → IsFreed n

never_free : (why : Why) → state_left why ≡ state_is.Free → ⊥
never_free (why_is.Ended code) is = cc
never_free (why_is.Trapped cause value) is = cc
never_free (why_is.Fault place) is = cc
never_free why_is.Budget is = cc
never_free why_is.Waiting is = cc
never_free why_is.OutFull is = cc
never_free why_is.NeedPage is = cc

-- a line that is answered at once isn't refused
ok_goes : (refusal : Option No) (gives : Option Answer) (begun : Bool) → AtOnce refusal gives begun answer_is.Ok → refusal ≡ None
ok_goes refusal gives true never = absurd never
ok_goes refusal gives false is = is.0

word_goes : (refusal : Option No) (gives : Option Answer) (begun : Bool) (word : ℕ) → AtOnce refusal gives begun (answer_is.Word word) → refusal ≡ None
word_goes refusal gives true word never = absurd never
word_goes refusal gives false word is = is.0

-- a free number is given no page, and no word goes in or out
not_given : (state : State) → idle_refusal state ≡ None → state ≡ state_is.Free → ⊥
not_given state none is = (let h : idle_refusal state_is.Free ≡ None = ap idle_refusal (sym is) ∙ none in cc)

wordless : (state : State) → refuse (is_wordless state) refused.NoEnclave ≡ None → state ≡ state_is.Free → ⊥
wordless state none is = (let h : refuse (is_wordless state_is.Free) refused.NoEnclave ≡ None = ap (λ (x : State). refuse (is_wordless x) refused.NoEnclave) (sym is) ∙ none in cc)

module _ (setup : SetupParts) (bytes : List ℕ) (e : ℕ) where
  abbrev Stands : Monitor → Type 0
  Stands s = FreeIsFreed (s.number e)

  set_stands : (s : Monitor) (f : ℕ) (now : Number) → FreeIsFreed now → Stands s → Stands (with_number s f now)
  set_stands s f now own k = by_test (e == f)
    where
      by_test : (b : Bool) → FreeIsFreed (if b then now else s.number e)
      by_test true = own
      by_test false = k

  same_stands : (s t : Monitor) → SameNumbers s t → Stands s → Stands t
  same_stands s t same k = subst (λ (number : ℕ → Number). FreeIsFreed (number e)) (sym same) k

  written_stands : (s : Monitor) (now : Placed) (changed : Bool) → Stands s → Stands (written s now changed)
  written_stands s now changed = same_stands s (written s now changed) (written_numbers s now changed)

  progress_stands : (s : Monitor) (actor : ℕ) (now : Progress) → Stands s → Stands (with_progress s actor now)
  progress_stands s actor now k = k

  freed_stands : (n : Number) → FreeIsFreed (freed n)
  freed_stands n is = record { live = refl; pages = refl; spares = refl; parent = refl; sent = refl; taken = refl; retired = refl }

  line_stands : (s : Monitor) (hart : ℕ) (line : Line) (begun : Bool) (now : Answer) → Stands s → AllowedAnswer setup s line begun now
      → Stands (change_by (changes s hart line begun) now)
  line_stands s hart (line_is.Load va) begun now k allowed = unchanged_holds Stands s now k
  line_stands s hart (line_is.After actor count) begun now k allowed = unchanged_holds Stands s now k
  line_stands s hart (line_is.Store va word) begun answer_is.Ok k allowed = same_stands s (host_stored s va word) (stored_numbers s va word) k
  line_stands s hart (line_is.Map va page perms) begun answer_is.Ok k allowed = k
  line_stands s hart (line_is.Unmap va) begun answer_is.Begun k allowed = same_stands s (removing s hart va) (removing_numbers s hart va) k
  line_stands s hart (line_is.Unmap va) begun answer_is.Ok k allowed = k
  line_stands s hart (line_is.Create d image pages) begun answer_is.Begun k allowed = set_stands s d.0 _ (λ h. cc) k
  line_stands s hart (line_is.Create d image pages) begun answer_is.Ok k allowed = set_stands s d.0 _ (λ h. cc) k
  line_stands s hart (line_is.Create d image pages) true (answer_is.No cause) k allowed = set_stands s d.0 _ (λ h. cc) k
  line_stands s hart (line_is.Create d image pages) false (answer_is.No cause) k allowed = k
  line_stands s hart (line_is.Shadow d image pages) begun answer_is.Begun k allowed = set_stands s d.0 _ (λ h. cc) k
  line_stands s hart (line_is.Shadow d image pages) begun answer_is.Ok k allowed = set_stands s d.0 _ (λ h. cc) k
  line_stands s hart (line_is.Shadow d image pages) true (answer_is.No cause) k allowed = set_stands s d.0 _ (λ h. cc) k
  line_stands s hart (line_is.Shadow d image pages) false (answer_is.No cause) k allowed = k
  line_stands s hart (line_is.Fork shadow d pages) begun answer_is.Begun k allowed = set_stands s d.0 _ (λ h. cc) k
  line_stands s hart (line_is.Fork shadow d pages) begun answer_is.Ok k allowed = set_stands s d.0 _ (λ h. cc) k
  line_stands s hart (line_is.Fork shadow d pages) true (answer_is.No cause) k allowed = set_stands s d.0 _ (λ h. cc) k
  line_stands s hart (line_is.Fork shadow d pages) false (answer_is.No cause) k allowed = k
  line_stands s hart (line_is.Grant d page) begun answer_is.Ok k allowed =
      let n : Number = s.number d.0 in
      let goes : idle_refusal n.state ≡ None = (first_none (idle_refusal n.state) _ (ok_goes (grant_refusal setup s d.0 page) _ begun allowed)).0 in
      set_stands s d.0 _ (λ h. absurd (not_given n.state goes h)) k
  line_stands s hart (line_is.Run d budget) begun answer_is.Begun k allowed = set_stands s d.0 _ (λ h. cc) k
  line_stands s hart (line_is.Run d budget) begun (answer_is.Left count why) k allowed = set_stands s d.0 _ (λ h. absurd (never_free why h)) k
  line_stands s hart (line_is.Resume d budget) begun answer_is.Begun k allowed = set_stands s d.0 _ (λ h. cc) k
  line_stands s hart (line_is.Resume d budget) begun (answer_is.Left count why) k allowed = set_stands s d.0 _ (λ h. absurd (never_free why h)) k
  line_stands s hart (line_is.Send d word) begun answer_is.Ok k allowed =
      let n : Number = s.number d.0 in
      let goes : refuse (is_wordless n.state) refused.NoEnclave ≡ None
      = (first_none (refuse (is_wordless n.state) refused.NoEnclave) _ (ok_goes (send_refusal n) _ begun allowed)).0 in
      set_stands s d.0 _ (λ h. absurd (wordless n.state goes h)) k
  line_stands s hart (line_is.Take d) begun (answer_is.Word word) k allowed =
      let n : Number = s.number d.0 in
      let goes : refuse (is_wordless n.state) refused.NoEnclave ≡ None
      = (first_none (refuse (is_wordless n.state) refused.NoEnclave) _ (word_goes (take_refusal setup n) _ begun word allowed)).0 in
      set_stands s d.0 _ (λ h. absurd (wordless n.state goes h)) k
  line_stands s hart (line_is.Destroy d) begun answer_is.Begun k allowed = set_stands s d.0 _ (λ h. cc) k
  line_stands s hart (line_is.Destroy d) begun answer_is.Ok k allowed = set_stands s d.0 _ (freed_stands (s.number d.0)) k
  line_stands s hart (line_is.Drop d) begun answer_is.Ok k allowed = set_stands s d.0 _ (freed_stands (s.number d.0)) k
  line_stands s hart line begun now k allowed = k

  opening_stands : Stands (opening setup)
  unfolding opening
  opening_stands is = record { live = refl; pages = refl; spares = refl; parent = refl; sent = refl; taken = refl; retired = refl }

  pub legal_freed : (entries : List Entry) → Legal setup bytes entries → FreeIsFreed ((legal_state setup bytes entries).number e)
  legal_freed entries legal = holds_after setup bytes Stands progress_stands written_stands line_stands (opening setup) [] entries opening_stands legal
