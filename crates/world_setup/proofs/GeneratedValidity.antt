-- The generated setup meets the rules of setups.
use Rattle.std.proofs.Common.{◌≡◌, ℕ, ◌*◌, ◌<◌, ◌==◌, true, Bool, List, [], ◌∷◌, ◌++◌, length, refl, ◌∙◌, arith, length-append, sum_by, inl, inr}
use Rattle.std.specs.List.{list_all}
use Rattle.std.proofs.lemmas.Bool.{cases_Bool}
use Rattle.std.proofs.lemmas.Bool.Decides.{nat_tests}
use Rattle.std.proofs.lemmas.List.Folds.{list_all-append}
use Rattle.pl_base.specs.Perms.{are_page_perms}
use Rattle.pl_base.specs.declared.number.EncNo.{EncNo}
use Rattle.pl_base.specs.declared.actor.Actor.{Actor}
use Rattle.mon_image.specs.declared.image.Image.{Image}
use Rattle.rv_pmp.specs.declared.rule.Rule.{Rule}
use Rattle.pl_history.specs.declared.line.AttackLine.{AttackLine}
use Rattle.pl_history.specs.declared.line.Line.{Line}
use Rattle.pl_history.specs.declared.line.Line.TheVariants as line
use Rattle.pl_history.specs.Rules.{is_page, is_image, is_line, names_known, waits_known, all_wait, counts_of, IsSetup}
use Rattle.world_setup.specs.Generating.{creation, creations, destructions, entering, first_state, generated, page_with, number_of, round_lines, rounds_lines, hart_script, scripts_of, sends, state_after, summing_image, takes, number_round, word_from, code}
use Rattle.world_setup.proofs.GeneratedLines.{all_joined, length-joined}
use Rattle.world_setup.proofs.ImageValidity.{page_size}

-- a test that each line of a number below 16 passes
pub record Passes (p : Line → Bool) : Type 0 where
  pub creations : (e : EncNo) → e.0 < 16 → p (creation e) ≡ true
  pub sends : (e : EncNo) (word : ℕ) → e.0 < 16 → p (line.Send e word) ≡ true
  pub runs : (e : EncNo) → e.0 < 16 → p (line.Run e 1000) ≡ true
  pub resumes : (e : EncNo) → e.0 < 16 → p (line.Resume e 1000) ≡ true
  pub takes : (e : EncNo) → e.0 < 16 → p (line.Take e) ≡ true
  pub destructions : (e : EncNo) → e.0 < 16 → p (line.Destroy e) ≡ true

module _ (p : Line → Bool) (each : Passes p) where
  entering_passes : (round : ℕ) (e : EncNo) → e.0 < 16 → p (entering round e) ≡ true
  entering_passes round e known = elim (cases_Bool (round == 0)) [ inl first ↦ rw first (each.runs e known) | inr later ↦ rw later (each.resumes e known) ]

  number_round_passes : (round : ℕ) (e : EncNo) (state : ℕ) → e.0 < 16 → list_all p (number_round round e state) ≡ true
  unfolding number_round
  number_round_passes round e state known =
      list_all-append p (sends e state) (entering round e ∷ takes e)
      ∙ (rw (
        all_joined (λ k. line.Send e (word_from state k) ∷ []) p 8 (λ k lt. rw (each.sends e (word_from state k) known) refl),
        entering_passes round e known,
        all_joined (λ k. line.Take e ∷ []) p 8 (λ k lt. rw (each.takes e known) refl),
      ) refl)

  round_passes : (hart round state : ℕ) → hart < 4 → list_all p (round_lines hart round state) ≡ true
  unfolding round_lines
  round_passes hart round state few = all_joined (λ i. number_round round (number_of hart i) (state_after state (8 * i))) p 4 (λ i lt. number_round_passes round (number_of hart i) (state_after state (8 * i)) (omega arith))

  rounds_pass : (hart state : ℕ) → hart < 4 → list_all p (rounds_lines hart state) ≡ true
  unfolding rounds_lines
  rounds_pass hart state few = all_joined (λ round. round_lines hart round (state_after state (32 * round))) p 25 (λ round lt. round_passes hart round (state_after state (32 * round)) few)

  script_passes : (n hart : ℕ) → hart < 4 → list_all p (hart_script n hart) ≡ true
  unfolding hart_script
  script_passes n hart few =
      let first = all_joined (λ i. creation (number_of hart i) ∷ []) p 4 (λ i lt. rw (each.creations (number_of hart i) (omega arith)) refl) in
      let last = all_joined (λ i. line.Destroy (number_of hart i) ∷ []) p 4 (λ i lt. rw (each.destructions (number_of hart i) (omega arith)) refl) in
      list_all-append p (creations hart) (rounds_lines hart (first_state n hart) ++ destructions hart)
      ∙ (rw (first, list_all-append p (rounds_lines hart (first_state n hart)) (destructions hart), rounds_pass hart (first_state n hart) few, last) refl)

  -- then each line of the generated setup does
  pub scripts_pass : (n : ℕ) → list_all (list_all p) (scripts_of n) ≡ true
  scripts_pass n = rw (script_passes n 0 (omega arith), script_passes n 1 (omega arith), script_passes n 2 (omega arith), script_passes n 3 (omega arith)) refl

-- ---- the rules of lines

forms_pass : Passes is_line
forms_pass = record {
  creations = λ e known. refl;
  sends = λ e word known. refl;
  runs = λ e known. refl;
  resumes = λ e known. refl;
  takes = λ e known. refl;
  destructions = λ e known. refl;
}

names_pass : Passes (names_known 16 1)
names_pass = record {
  creations = λ e known. grind (arith, nat_tests);
  sends = λ e word known. grind (arith, nat_tests);
  runs = λ e known. grind (arith, nat_tests);
  resumes = λ e known. grind (arith, nat_tests);
  takes = λ e known. grind (arith, nat_tests);
  destructions = λ e known. grind (arith, nat_tests);
}

waits_pass : (counts : List ℕ) (me : ℕ) → Passes (waits_known counts me)
waits_pass counts me = record {
  creations = λ e known. refl;
  sends = λ e word known. refl;
  runs = λ e known. refl;
  resumes = λ e known. refl;
  takes = λ e known. refl;
  destructions = λ e known. refl;
}

all_scripts_wait : (counts : List ℕ) (n : ℕ) → all_wait counts 0 (scripts_of n) ≡ true
all_scripts_wait counts n =
    rw (
      script_passes (waits_known counts 0) (waits_pass counts 0) n 0 (omega arith),
      script_passes (waits_known counts 1) (waits_pass counts 1) n 1 (omega arith),
      script_passes (waits_known counts 2) (waits_pass counts 2) n 2 (omega arith),
      script_passes (waits_known counts 3) (waits_pass counts 3) n 3 (omega arith),
    ) refl

-- ---- how many lines there are

length-number_round : (round : ℕ) (e : EncNo) (state : ℕ) → length (number_round round e state) ≡ 17
unfolding number_round
length-number_round round e state =
    omega (
      arith,
      length-append (sends e state) (entering round e ∷ takes e),
      length-joined (λ k. line.Send e (word_from state k) ∷ []) 1 8 (λ k. refl),
      length-joined (λ k. line.Take e ∷ []) 1 8 (λ k. refl),
    )

length-round : (hart round state : ℕ) → length (round_lines hart round state) ≡ 68
unfolding round_lines
length-round hart round state = length-joined (λ i. number_round round (number_of hart i) (state_after state (8 * i))) 17 4 (λ i. length-number_round round (number_of hart i) (state_after state (8 * i)))

length-rounds : (hart state : ℕ) → length (rounds_lines hart state) ≡ 1700
unfolding rounds_lines
length-rounds hart state = length-joined (λ round. round_lines hart round (state_after state (32 * round))) 68 25 (λ round. length-round hart round (state_after state (32 * round)))

pub length-script : (n hart : ℕ) → length (hart_script n hart) ≡ 1708
unfolding hart_script
length-script n hart =
    omega (
      arith,
      length-append (creations hart) (rounds_lines hart (first_state n hart) ++ destructions hart),
      length-append (rounds_lines hart (first_state n hart)) (destructions hart),
      length-rounds hart (first_state n hart),
      length-joined (λ i. creation (number_of hart i) ∷ []) 1 4 (λ i. refl),
      length-joined (λ i. line.Destroy (number_of hart i) ∷ []) 1 4 (λ i. refl),
    )

lines_counted : (n : ℕ) → sum_by length (scripts_of n) ≡ 6832
lines_counted n = rw (length-script n 0, length-script n 1, length-script n 2, length-script n 3) refl

-- ---- the image

page_valid : (perms : ℕ) (bytes : List ℕ) → are_page_perms (record { 0 = perms }) ≡ true → is_page (page_with perms bytes) ≡ true
unfolding page_with
page_valid perms bytes allowed = rw (allowed, page_size bytes) refl

pages_valid : list_all is_page summing_image.pages ≡ true
pages_valid = rw (page_valid 5 code refl, page_valid 3 [] refl) refl

image_valid : is_image summing_image ≡ true
image_valid = rw pages_valid refl

-- ---- all of it

pub generated_is_setup : (n : ℕ) → IsSetup (generated n)
generated_is_setup n = record {
  harts = refl;
  zones = refl;
  slots = refl;
  tables = refl;
  enclaves = refl;
  pool = refl;
  pmp = refl;
  order = refl;
  images = rw image_valid refl;
  scripts = refl;
  count = rw (lines_counted n) refl;
  forms = rw (scripts_pass is_line forms_pass n) refl;
  names = scripts_pass (names_known 16 1) names_pass n;
  waits = all_scripts_wait (counts_of (scripts_of n) []) n;
  attacks = refl;
}

-- the same of parts that are equal to its
pub made_is_setup : (n : ℕ) (pmp : List (ℕ × Rule)) (order : List Actor) (images : List Image) (lines : List (List Line)) (attacker : List AttackLine) → pmp ≡ [] → order ≡ [] → images ≡ summing_image ∷ []
    → lines ≡ scripts_of n → attacker ≡ [] → IsSetup (record (generated n) { pmp = pmp; order = order; images = images; lines = lines; attacker = attacker })
made_is_setup n pmp order images lines attacker none unordered one made unattacked = rw (none, unordered, one, made, unattacked) (generated_is_setup n)
