-- In a legal history each number that is dying is given back by a hart whose first line without an answer is a begun `destroy` of it.
use Rattle.std.proofs.Common.{◌≡◌, ◌⊎◌, ℕ, ◌==◌, Bool, true, false, if◌then◌else◌, List, [], ◌∷◌, ◌++◌, Option, Some, None, refl, sym, ap, ◌∙◌, subst, inl, inr}
use Rattle.std.specs.Option.{option_map_or}
use Rattle.std.proofs.lemmas.Bool.{cases_Bool, eq-eqb, eqb-true}
use Rattle.pl_base.specs.States.{state_left}
use Rattle.pl_base.specs.declared.number.EncNo.{EncNo}
use Rattle.pl_base.specs.declared.state.State.TheVariants as state_is
use Rattle.pl_base.specs.declared.state.Why.{Why}
use Rattle.pl_base.specs.declared.state.Why.TheVariants as why_is
use Rattle.pl_history.specs.declared.answer.Answer.{Answer}
use Rattle.pl_history.specs.declared.answer.Answer.TheVariants as answer_is
use Rattle.pl_history.specs.declared.answer.Entry.{Entry}
use Rattle.pl_history.specs.declared.line.Line.{Line}
use Rattle.pl_history.specs.declared.line.Line.TheVariants as line_is
use Rattle.pl_history.specs.declared.setup.SetupParts.{SetupParts}
use Rattle.pl_history.specs.Answering.{change_by, progressed, unchanged}
use Rattle.pl_history.specs.GivingBack.{AllowedDestroy}
use Rattle.pl_history.specs.History.{named_part}
use Rattle.pl_history.specs.HostAccess.{host_stored}
use Rattle.pl_history.specs.HostMaps.{removing}
use Rattle.pl_history.specs.Laws.{moved}
use Rattle.pl_history.specs.Legal.{ActorLine, AllAllowed, Allowed, AllowedLine, Legal, after, after_answer, after_line, attack_changes, changes, legal_state, line_at, of_attacker, of_hart, state_after}
use Rattle.pl_history.specs.Monitor.{Monitor, Number, Progress, freed, opening, with_number}
use Rattle.pl_history.proofs.ProgressLemmas.{answers_move}
use Rattle.world_machine.proofs.NumbersStay.{SameNumbers, attack_numbers, progressed_numbers, removing_numbers, stored_numbers, unchanged_numbers}

-- ---- which answers make a number dying

never_left : (why : Why) → state_left why ≡ state_is.Dying → ⊥
never_left (why_is.Ended code) is = cc
never_left (why_is.Trapped cause value) is = cc
never_left (why_is.Fault place) is = cc
never_left why_is.Budget is = cc
never_left why_is.Waiting is = cc
never_left why_is.OutFull is = cc
never_left why_is.NeedPage is = cc

module _ (e : ℕ) where
  abbrev Dies : Monitor → Type 0
  Dies s = (s.number e).state ≡ state_is.Dying

  -- where a number that isn't dying isn't made so
  set_dies : (s : Monitor) (f : ℕ) (now : Number) → (now.state ≡ state_is.Dying → (s.number f).state ≡ state_is.Dying) → Dies (with_number s f now) → Dies s
  set_dies s f now before is = elim (cases_Bool (e == f)) [
    | inl own ↦ subst (λ g. (s.number g).state ≡ state_is.Dying) (sym (eqb-true e f own)) (before (sym (ap (λ (b : Bool). (if b then now else s.number e).state) own) ∙ is))
    | inr other ↦ sym (ap (λ (b : Bool). (if b then now else s.number e).state) other) ∙ is
  ]

  -- the `begun` of a `destroy` of this number
  abbrev Begins : Line → Answer → Type 0
  Begins line now = (line ≡ line_is.Destroy (record { 0 = e })) × (now ≡ answer_is.Begun)

  set_begins : (s : Monitor) (d : EncNo) (now : Number) → Dies (with_number s d.0 now) → Dies s ⊎ Begins (line_is.Destroy d) answer_is.Begun
  set_begins s d now is = elim (cases_Bool (e == d.0)) [
    | inl own ↦ inr (ap (λ n. line_is.Destroy (record { 0 = n })) (sym (eqb-true e d.0 own)), refl)
    | inr other ↦ inl (sym (ap (λ (b : Bool). (if b then now else s.number e).state) other) ∙ is)
  ]

  -- the same where no number changes
  dies_still : (s t : Monitor) → SameNumbers s t → Dies t → Dies s
  dies_still s t same is = sym (ap (λ (number : ℕ → Number). (number e).state) same) ∙ is

  line_dies : (s : Monitor) (hart : ℕ) (line : Line) (begun : Bool) (now : Answer) → Dies (change_by (changes s hart line begun) now) → Dies s ⊎ Begins line now
  line_dies s hart (line_is.Load va) begun now is = inl (dies_still s (change_by (unchanged s) now) (unchanged_numbers s now) is)
  line_dies s hart (line_is.After actor count) begun now is = inl (dies_still s (change_by (unchanged s) now) (unchanged_numbers s now) is)
  line_dies s hart (line_is.Store va word) begun answer_is.Ok is = inl (dies_still s (host_stored s va word) (stored_numbers s va word) is)
  line_dies s hart (line_is.Map va page perms) begun answer_is.Ok is = inl is
  line_dies s hart (line_is.Unmap va) begun answer_is.Begun is = inl (dies_still s (removing s hart va) (removing_numbers s hart va) is)
  line_dies s hart (line_is.Unmap va) begun answer_is.Ok is = inl is
  line_dies s hart (line_is.Create d image pages) begun answer_is.Begun is = inl (set_dies s d.0 _ (λ h. cc) is)
  line_dies s hart (line_is.Create d image pages) begun answer_is.Ok is = inl (set_dies s d.0 _ (λ h. cc) is)
  line_dies s hart (line_is.Create d image pages) true (answer_is.No cause) is = inl (set_dies s d.0 _ (λ h. cc) is)
  line_dies s hart (line_is.Create d image pages) false (answer_is.No cause) is = inl is
  line_dies s hart (line_is.Shadow d image pages) begun answer_is.Begun is = inl (set_dies s d.0 _ (λ h. cc) is)
  line_dies s hart (line_is.Shadow d image pages) begun answer_is.Ok is = inl (set_dies s d.0 _ (λ h. cc) is)
  line_dies s hart (line_is.Shadow d image pages) true (answer_is.No cause) is = inl (set_dies s d.0 _ (λ h. cc) is)
  line_dies s hart (line_is.Shadow d image pages) false (answer_is.No cause) is = inl is
  line_dies s hart (line_is.Fork shadow d pages) begun answer_is.Begun is = inl (set_dies s d.0 _ (λ h. cc) is)
  line_dies s hart (line_is.Fork shadow d pages) begun answer_is.Ok is = inl (set_dies s d.0 _ (λ h. cc) is)
  line_dies s hart (line_is.Fork shadow d pages) true (answer_is.No cause) is = inl (set_dies s d.0 _ (λ h. cc) is)
  line_dies s hart (line_is.Fork shadow d pages) false (answer_is.No cause) is = inl is
  line_dies s hart (line_is.Grant d page) begun answer_is.Ok is = inl (set_dies s d.0 _ (λ h. h) is)
  line_dies s hart (line_is.Run d budget) begun answer_is.Begun is = inl (set_dies s d.0 _ (λ h. cc) is)
  line_dies s hart (line_is.Run d budget) begun (answer_is.Left count why) is = inl (set_dies s d.0 _ (λ h. absurd (never_left why h)) is)
  line_dies s hart (line_is.Resume d budget) begun answer_is.Begun is = inl (set_dies s d.0 _ (λ h. cc) is)
  line_dies s hart (line_is.Resume d budget) begun (answer_is.Left count why) is = inl (set_dies s d.0 _ (λ h. absurd (never_left why h)) is)
  line_dies s hart (line_is.Send d word) begun answer_is.Ok is = inl (set_dies s d.0 _ (λ h. h) is)
  line_dies s hart (line_is.Take d) begun (answer_is.Word word) is = inl (set_dies s d.0 _ (λ h. h) is)
  line_dies s hart (line_is.Destroy d) begun answer_is.Begun is = set_begins s d _ is
  line_dies s hart (line_is.Destroy d) begun answer_is.Ok is = inl (set_dies s d.0 _ (λ h. cc) is)
  line_dies s hart (line_is.Drop d) begun answer_is.Ok is = inl (set_dies s d.0 _ (λ h. cc) is)
  line_dies s hart line begun now is = inl is

  -- an entry is the `begun` of a `destroy` of this number
  abbrev IsBegun : SetupParts → Entry → Type 0
  IsBegun setup entry = (line_at setup entry.actor entry.line ≡ Some (of_hart (line_is.Destroy (record { 0 = e })))) × (entry.answer ≡ answer_is.Begun)

  entry_dies : (setup : SetupParts) (bytes : List ℕ) (s : Monitor) (entry : Entry) → Dies (after setup bytes s entry) → Dies s ⊎ IsBegun setup entry
  entry_dies setup bytes s entry = by_line (line_at setup entry.actor entry.line) refl
    where
      begins : (line : Line) → line_at setup entry.actor entry.line ≡ Some (of_hart line) → Dies s ⊎ Begins line entry.answer → Dies s ⊎ IsBegun setup entry
      begins line here (inl dies) = inl dies
      begins line here (inr (is, begun)) = inr (here ∙ ap (λ l. Some (of_hart l)) is, begun)

      by_line : (o : Option ActorLine) → line_at setup entry.actor entry.line ≡ o
          → Dies (option_map_or (after_line s entry.actor (named_part bytes entry.answer) entry.answer) o s) → Dies s ⊎ IsBegun setup entry
      by_line None here is = inl is
      by_line (Some (of_hart line)) here is =
          let changed : Monitor = change_by (changes s entry.actor line (s.progress entry.actor).begun) entry.answer in
          begins line here (line_dies s entry.actor line (s.progress entry.actor).begun entry.answer
          (dies_still changed (progressed changed entry.actor entry.answer) (progressed_numbers changed entry.actor entry.answer) is))
      by_line (Some (of_attacker line)) here is =
          let part : List ℕ = named_part bytes entry.answer in
          let changed : Monitor = change_by (attack_changes s part line) entry.answer in
          inl (dies_still s changed (attack_numbers s part line entry.answer)
          (dies_still changed (progressed changed entry.actor entry.answer) (progressed_numbers changed entry.actor entry.answer) is))

-- ---- who gives a number back

-- a hart's first line without an answer is a `destroy` of this number, begun
pub record IsGivenBackBy (setup : SetupParts) (s : Monitor) (e : ℕ) : Type 0 where
  pub hart : ℕ
  pub line : line_at setup hart (s.progress hart).answered ≡ Some (of_hart (line_is.Destroy (record { 0 = e })))
  pub begun : (s.progress hart).begun ≡ true

abbrev pub DyingGivenBack : SetupParts → Monitor → Type 0
DyingGivenBack setup s = (e : ℕ) → (s.number e).state ≡ state_is.Dying → IsGivenBackBy setup s e

module _ (setup : SetupParts) (bytes : List ℕ) where
  module _ (s : Monitor) (before : List Entry) (entry : Entry) (allowed : Allowed setup bytes s before entry) where
    abbrev now : Monitor
    now = after setup bytes s entry

    progress_is : (hart : ℕ) → now.progress hart ≡ (if hart == entry.actor then moved (s.progress entry.actor) entry.answer else s.progress hart)
    progress_is hart = answers_move setup bytes s entry allowed.1.0 allowed.1.1 hart

    module _ (e : ℕ) where
      abbrev gives : Line
      gives = line_is.Destroy (record { 0 = e })

      -- after its `begun` the hart's line is under way
      begun_now : line_at setup entry.actor entry.line ≡ Some (of_hart gives) → entry.answer ≡ answer_is.Begun → IsGivenBackBy setup now e
      begun_now here begun =
          let own : entry.actor == entry.actor ≡ true = eq-eqb entry.actor entry.actor refl in
          let progress : now.progress entry.actor ≡ moved (s.progress entry.actor) entry.answer = rw own at (progress_is entry.actor) in
          let moves : now.progress entry.actor ≡ moved (s.progress entry.actor) answer_is.Begun = progress ∙ ap (moved (s.progress entry.actor)) begun in
          record {
            hart = entry.actor;
            line = ap (λ (p : Progress). line_at setup entry.actor p.answered) moves ∙ ap (line_at setup entry.actor) (sym allowed.0) ∙ here;
            begun = ap (λ (p : Progress). p.begun) moves;
          }

      -- a begun `destroy` is answered `ok` alone, which frees the number
      allowed_destroy : line_at setup entry.actor entry.line ≡ Some (of_hart gives) → AllowedDestroy s e (s.progress entry.actor).begun entry.answer
      allowed_destroy here =
          subst (λ (l : ActorLine). AllowedLine setup bytes s before l (s.progress entry.actor).begun entry.answer) (same allowed.1.0 (sym allowed.1.1 ∙ here)) allowed.1.2
        where
          same : (l : ActorLine) → Some l ≡ Some (of_hart gives) → l ≡ of_hart gives
          same l is = cc

      freed_now : line_at setup entry.actor entry.line ≡ Some (of_hart gives) → entry.answer ≡ answer_is.Ok → (now.number e).state ≡ state_is.Free
      freed_now here ok =
          ap (λ (o : Option ActorLine). ((option_map_or (after_line s entry.actor (named_part bytes entry.answer) entry.answer) o s).number e).state) here
          ∙ ap (λ a. ((after_answer s entry.actor gives a).number e).state) ok
          ∙ ap (λ (b : Bool). (if b then freed (s.number e) else s.number e).state) (eq-eqb e e refl)

      still_given : IsGivenBackBy setup s e → (now.number e).state ≡ state_is.Dying → IsGivenBackBy setup now e
      still_given g dies = elim (cases_Bool (g.hart == entry.actor)) [
        | inl own ↦ (
            let is : g.hart ≡ entry.actor = eqb-true g.hart entry.actor own in
            let here : line_at setup entry.actor entry.line ≡ Some (of_hart gives)
            = ap (line_at setup entry.actor) allowed.0 ∙ subst (λ h. line_at setup h (s.progress h).answered ≡ Some (of_hart gives)) is g.line in
            let begun : (s.progress entry.actor).begun ≡ true = subst (λ h. (s.progress h).begun ≡ true) is g.begun in
            let ok : entry.answer ≡ answer_is.Ok = subst (λ b. AllowedDestroy s e b entry.answer) begun (allowed_destroy here) in
            let free : (now.number e).state ≡ state_is.Free = freed_now here ok in
            let clash : state_is.Free ≡ state_is.Dying = sym free ∙ dies in
            cc
            )
        | inr other ↦ (
            let progress : now.progress g.hart ≡ s.progress g.hart = rw other at (progress_is g.hart) in
            record {
              hart = g.hart;
              line = ap (λ (p : Progress). line_at setup g.hart p.answered) progress ∙ g.line;
              begun = ap (λ (p : Progress). p.begun) progress ∙ g.begun;
            }
            )
      ]

    entry_given : DyingGivenBack setup s → DyingGivenBack setup now
    entry_given k e dies = elim (entry_dies e setup bytes s entry dies) [
      | inl before ↦ still_given e (k e before) dies
      | inr begins ↦ begun_now e begins.0 begins.1
    ]

  -- ---- whole histories

  opening_given : DyingGivenBack setup (opening setup)
  unfolding opening
  opening_given e dies = cc

  all_given : (s : Monitor) (before entries : List Entry) → AllAllowed setup bytes s before entries → DyingGivenBack setup s
      → DyingGivenBack setup (state_after setup bytes s entries)
  all_given s before [] allowed k = k
  all_given s before (entry ∷ entries) allowed k =
      all_given (after setup bytes s entry) (before ++ entry ∷ []) entries allowed.1 (entry_given s before entry allowed.0 k)

  pub legal_given : (entries : List Entry) → Legal setup bytes entries → DyingGivenBack setup (legal_state setup bytes entries)
  legal_given entries legal = all_given (opening setup) [] entries legal opening_given
