-- A generated load: its run ends with each line answered, none by a fault.
use Rattle.std.proofs.Common.{◌≡◌, ◌≢◌, ℕ, zero, suc, ◌+◌, ◌<◌, ◌≤◌, eqb, Bool, true, false, not, ◌&&◌, if◌then◌else◌, List, [], ◌∷◌, length, slice_get, unwrap_or, Option, Some, None, refl, sym, ap, ◌∙◌, inl, arith, eq-eqb}
use Rattle.std.specs.List.{list_all, range_with_len}
use Rattle.std.proofs.lemmas.Bool.{false≢true}
use Rattle.std.proofs.lemmas.Bool.Decides.{nat_tests}
use Rattle.sha2.specs.Sha256.{sha256}
use Rattle.pl_history.specs.declared.line.Line.{Line}
use Rattle.pl_history.specs.declared.line.Line.TheVariants as line_is
use Rattle.pl_history.specs.declared.setup.ChoiceName.{ChoiceName}
use Rattle.pl_history.specs.declared.setup.ChoiceName.TheVariants as choice_is
use Rattle.pl_history.specs.declared.setup.SetupParts.{SetupParts}
use Rattle.pl_history.specs.Monitor.{Progress, line_count, script_of}
use Rattle.pl_history.specs.Unattacked.{IsFaultless}
use Rattle.world_machine.specs.declared.turned.Finished.{Finished}
use Rattle.world_machine.specs.declared.turned.Finished.TheVariants as finished
use Rattle.world_machine.specs.Endings.{IsStuck}
use Rattle.world_machine.specs.Runs.{all_answered}
use Rattle.world_machine.specs.Standing.{Kept, state_of}
use Rattle.world_machine.specs.Worlds.{WorldData, answered_at, hart_line}
use Rattle.world_machine.proofs.SetupFacts.{each_holds}
use Rattle.world_setup.specs.Generating.{generated}
use Rattle.world_setup.proofs.GeneratedValidity.{Passes, scripts_pass}
use Rattle.penglai_main.specs.declared.solo.Printed.TheVariants as printed_is
use Rattle.penglai_main.specs.declared.status.Status.{Status}
use Rattle.penglai_main.specs.declared.status.Status.TheVariants as status_is
use Rattle.penglai_main.specs.declared.top.Command.TheVariants.{Generate}
use Rattle.penglai_main.specs.Ends.{Ends}
use Rattle.penglai_main.specs.Play.{Gives, IsRunOf, RunEnds, run_text}
use Rattle.penglai_main.specs.Top.{Explains, IsLoad, IsOutput}
use Rattle.penglai_main.proofs.EntryLemmas.{answered_within, unattacked}

-- ---- no line waits

abbrev waits : Line → Bool
waits (line_is.After actor count) = true
waits other = false

abbrev moves_on : Line → Bool
moves_on line = not (waits line)

unwaiting : Passes moves_on
unwaiting = record {
  creations = λ e known. refl;
  sends = λ e word known. refl;
  runs = λ e known. refl;
  resumes = λ e known. refl;
  takes = λ e known. refl;
  destructions = λ e known. refl;
}

in_script : (script : Option (List Line)) (at : ℕ) (line : Line) → ((lines : List Line) → script ≡ Some lines → list_all moves_on lines ≡ true) → slice_get (unwrap_or script []) at ≡ Some line → moves_on line ≡ true
in_script None at line all here = cc
in_script (Some lines) at line all here = each_holds moves_on lines at line (all lines refl) here

past_end : (lines : List Line) (at : ℕ) → slice_get lines at ≡ None → length lines ≤ at
past_end [] at none = omega arith
past_end (line ∷ lines) zero none = cc
past_end (line ∷ lines) (suc at) none = omega (arith, past_end lines at none)

range_passes : (p : ℕ → Bool) (from n : ℕ) → ((x : ℕ) → x < from + n → p x ≡ true) → list_all p (range_with_len from n) ≡ true
range_passes p from zero each = refl
range_passes p from (suc n) each =
    ap (λ b. b && list_all p (range_with_len (from + 1) n)) (each from (omega arith)) ∙ range_passes p (from + 1) n (λ x below. each x (omega arith))

module _ (digest_of : List ℕ → List ℕ) (n : ℕ) (w : WorldData) (k : Kept digest_of w) (setup_is : w.setup ≡ generated n) where
  within : (actor : ℕ) → answered_at w.answered actor ≤ line_count w.setup actor
  within actor =
      let agrees : ((state_of w).progress actor).answered ≡ answered_at w.answered actor = ap (λ (p : Progress). p.answered) (k.stands.progress actor) in
      omega (arith, agrees, answered_within w.setup w.history.bytes k.sizes.rules w.history.entries k.legal actor)

  module _ (stuck : IsStuck w) where
    no_line : (hart : ℕ) → hart < w.setup.harts → (o : Option Line) → hart_line w hart ≡ o → o ≡ None
    no_line hart below None here = refl
    no_line hart below (Some line) here =
        let blocked = stuck.harts hart line below here in
        let all : list_all (list_all moves_on) w.setup.lines ≡ true = ap (λ (s : SetupParts). list_all (list_all moves_on) s.lines) setup_is ∙ scripts_pass moves_on unwaiting n in
        let on : moves_on line ≡ true
        = in_script (slice_get w.setup.lines hart) (answered_at w.answered hart) line (λ lines there. each_holds (list_all moves_on) w.setup.lines hart lines all there) here in
        absurd (false≢true (ap moves_on (sym blocked.line_is) ∙ on))

    -- all lines of a hart are answered, and the attacker has none
    count_is : (actor : ℕ) (test : Bool) → eqb actor w.setup.harts ≡ test → actor < w.setup.harts + 1
        → answered_at w.answered actor ≤ (if test then length w.setup.attacker else length (script_of w.setup actor))
        → answered_at w.answered actor ≡ (if test then length w.setup.attacker else length (script_of w.setup actor))
    count_is actor true is below few =
        let none : length w.setup.attacker ≡ 0 = ap (λ (s : SetupParts). length s.attacker) setup_is in
        omega (arith, few, none)
    count_is actor false is below few =
        let hart : actor < w.setup.harts = grind (arith, nat_tests) in
        let most = past_end (script_of w.setup actor) (answered_at w.answered actor) (no_line actor hart (hart_line w actor) refl) in
        omega (arith, few, most)

    pub never_stuck : ⊥
    never_stuck =
        let all : all_answered w ≡ true
        = range_passes (λ actor. eqb (answered_at w.answered actor) (line_count w.setup actor)) 0 (w.setup.harts + 1)
        (λ actor below. eq-eqb (answered_at w.answered actor) (line_count w.setup actor) (count_is actor (eqb actor w.setup.harts) refl (omega arith) (within actor))) in
        false≢true (sym stuck.some ∙ all)

-- ---- how a generated load ends

-- the run of a load that ended so
module _ (gives : Gives) (n : ℕ) (w : WorldData) where
  faultless : (end : Finished) → IsRunOf sha256 gives (generated n) end w → IsFaultless w.history.entries × (end ≢ finished.Collision)
  faultless end run = run.undisturbed (unattacked w.setup w.history.bytes w.history.entries (ap (λ (s : SetupParts). s.attacker) run.setup_is) run.kept.legal)

  no_collision : IsRunOf sha256 gives (generated n) finished.Collision w → ⊥
  no_collision run = (faultless finished.Collision run).1 refl

  not_stuck : IsRunOf sha256 gives (generated n) finished.Stuck w → ⊥
  not_stuck run = never_stuck sha256 n w run.kept run.setup_is run.ends

  is_load : IsRunOf sha256 gives (generated n) finished.Done w → IsLoad gives n (run_text printed_is.Summary w finished.Done)
  is_load run = record { world = w; run = run; faultless = (faultless finished.Done run).0; text_is = refl }

module _ (gives : ChoiceName → Gives) (n : ℕ) (source sink : Ends) where
  whatever_is_written : (end : Finished) (w : WorldData) → IsRunOf sha256 (gives choice_is.Oldest) (generated n) end w → IsOutput gives (Generate n) end source (run_text printed_is.Summary w end)
  whatever_is_written finished.Done w run = is_load (gives choice_is.Oldest) n w run
  whatever_is_written finished.Collision w run = no_collision (gives choice_is.Oldest) n w run
  whatever_is_written finished.Stuck w run = not_stuck (gives choice_is.Oldest) n w run

  -- what the status of its run says of the whole call
  pub loaded : (status : Status) → RunEnds sha256 (gives choice_is.Oldest) (generated n) printed_is.Summary sink status → Explains gives (Generate n) source sink status
  loaded status_is.Done k = (run_text printed_is.Summary k.0 finished.Done, is_load (gives choice_is.Oldest) n k.0 k.1.0, k.1.1)
  loaded status_is.Collision k = absurd (no_collision (gives choice_is.Oldest) n k.0 k.1.0)
  loaded status_is.Stuck k = absurd (not_stuck (gives choice_is.Oldest) n k.0 k.1.0)
  loaded status_is.WriteFault k =
      (k.1.0, (run_text printed_is.Summary k.0 k.1.1.0, inl (k.1.1.0, whatever_is_written k.1.1.0 k.0 k.1.1.1), k.1.1.2))
  loaded status_is.NoMemory k = k
  loaded status_is.BadWords k = absurd k.1
  loaded status_is.ReadFault k = absurd k.1
  loaded (status_is.BadSetup rule item cause) k = absurd k.1
