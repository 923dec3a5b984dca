-- Steps give the walk, and a walk has one answer.
use Rattle.std.proofs.Common.{◌≡◌, ℕ, zero, suc, ◌-◌, Bool, true, false, ◌&&◌, ◌||◌, not, cond, ◌==◌, Option, Some, None, option_and_then, ◌↔◌, inl, inr, refl, sym, ap, ◌∙◌, subst, ⊎_elim, arith}
use Rattle.std.proofs.lemmas.Bool.{cases_Bool, cond-true, cond-false, eqb-true, eqb-false, false≢true, and_right}
use Rattle.pl_base.specs.Perms.{grants}
use Rattle.pl_base.specs.declared.perms.Perms.{Perms}
use Rattle.pl_base.specs.declared.access.Kind.{Kind}
use Rattle.pl_base.specs.declared.access.Mode.{Mode}
use Rattle.pl_base.specs.declared.address.Ppn.{Ppn}
use Rattle.pl_base.specs.declared.address.Vpn.{Vpn}
use Rattle.rv_sv39.specs.Step.{step, FitsAccess, StepsFit}
use Rattle.rv_sv39.specs.Walk.{leads_on, translates, Answer, entry, next_table, table_at, WalksFrom, ends, leads, breaks, answer_of, steps_from, SaysOfWalk}
use Rattle.rv_sv39.specs.Word.{is_readable, is_executable, is_user, is_accessed, is_dirty, ppn_of, perms_of, is_valid_entry, is_pointer, is_accessible, is_aligned, has_a_and_d, page_of}
use Rattle.rv_sv39.specs.declared.walk.Walked.{Walked}
use Rattle.rv_sv39.specs.declared.walk.Walked.TheVariants.{Next, Leaf, PageFault}

-- The tests of a step in their order, and the two tests of what a word is, say the same. The tests are: valid, R, X, U, A, D, level 0,
-- aligned, accessible in the mode, permitted, A and D set.
pub in_any_order : {Y : Type 0} (valid r x u a d lowest aligned accessible permitted accessed : Bool) (next leaf fault : Y)
    → cond (not valid) fault (cond (not r && not x) (cond (((u || a) || d) || lowest) fault next)
    (cond (not aligned) fault (cond (not accessible) fault (cond (not permitted) fault (cond (not accessed) fault leaf)))))
    ≡ cond (((((valid && (not r && not x)) && not u) && not a) && not d) && not lowest) next
    (cond (((((valid && (r || x)) && aligned) && accessible) && permitted) && accessed) leaf fault)
in_any_order false r x u a d lowest aligned accessible permitted accessed next leaf fault = refl
in_any_order true false false true a d lowest aligned accessible permitted accessed next leaf fault = refl
in_any_order true false false false true d lowest aligned accessible permitted accessed next leaf fault = refl
in_any_order true false false false false true lowest aligned accessible permitted accessed next leaf fault = refl
in_any_order true false false false false false true aligned accessible permitted accessed next leaf fault = refl
in_any_order true false false false false false false aligned accessible permitted accessed next leaf fault = refl
in_any_order true false true u a d lowest false accessible permitted accessed next leaf fault = refl
in_any_order true false true u a d lowest true false permitted accessed next leaf fault = refl
in_any_order true false true u a d lowest true true false accessed next leaf fault = refl
in_any_order true false true u a d lowest true true true false next leaf fault = refl
in_any_order true false true u a d lowest true true true true next leaf fault = refl
in_any_order true true x u a d lowest false accessible permitted accessed next leaf fault = refl
in_any_order true true x u a d lowest true false permitted accessed next leaf fault = refl
in_any_order true true x u a d lowest true true false accessed next leaf fault = refl
in_any_order true true x u a d lowest true true true false next leaf fault = refl
in_any_order true true x u a d lowest true true true true next leaf fault = refl

-- what a step answers fits the access, whatever the tests before it say
fits_in_order : (level : ℕ) (kind : Kind) (valid pointer barred aligned accessible accessed : Bool) (next ppn : Ppn) (perms : Perms)
    → FitsAccess level kind (cond (not valid) PageFault (cond pointer (cond (barred || level == 0) PageFault (Next next))
    (cond (not aligned) PageFault (cond (not accessible) PageFault (cond (not (grants perms kind)) PageFault (cond (not accessed) PageFault (Leaf ppn perms)))))))
fits_in_order level kind false pointer barred aligned accessible accessed next ppn perms = tt
fits_in_order level kind true true true aligned accessible accessed next ppn perms = tt
fits_in_order level kind true true false aligned accessible accessed next ppn perms = elim (cases_Bool (level == 0)) [
  | inl lowest ↦ rw lowest tt
  | inr above ↦ rw above (omega (arith, eqb-false level 0 above))
]
fits_in_order level kind true false barred false accessible accessed next ppn perms = tt
fits_in_order level kind true false barred true false accessed next ppn perms = tt
fits_in_order level kind true false barred true true accessed next ppn perms = elim (cases_Bool (grants perms kind)) [
  | inl permitted ↦ rw permitted (of_last accessed permitted)
  | inr not_permitted ↦ rw not_permitted tt
]
  where
    of_last : (accessed : Bool) → grants perms kind ≡ true → FitsAccess level kind (cond (not accessed) PageFault (Leaf ppn perms))
    of_last true permitted = permitted
    of_last false permitted = tt

pub steps_fit : StepsFit
steps_fit level word vpn kind mode =
    fits_in_order level kind (is_valid_entry word) (is_pointer word) ((is_user word || is_accessed word) || is_dirty word)
    (is_aligned level word) (is_accessible word mode) (has_a_and_d word kind) (record { 0 = ppn_of word }) (page_of level word vpn) (perms_of word)

-- a word is not a pointer and a leaf
apart : (valid r x u a d above aligned accessible permitted accessed : Bool)
    → (((((valid && (r || x)) && aligned) && accessible) && permitted) && accessed) ≡ true
    → (((((valid && (not r && not x)) && not u) && not a) && not d) && above) ≡ false
apart false r x u a d above aligned accessible permitted accessed leaf = refl
apart true true x u a d above aligned accessible permitted accessed leaf = refl
apart true false true u a d above aligned accessible permitted accessed leaf = refl
apart true false false u a d above aligned accessible permitted accessed leaf = absurd (false≢true leaf)

module _ (level word : ℕ) (vpn : Vpn) (kind : Kind) (mode : Mode) where
  step_is : step level word vpn kind mode
      ≡ cond (leads_on level word) (Next (record { 0 = ppn_of word }))
      (cond (translates level word kind mode) (Leaf (page_of level word vpn) (perms_of word)) PageFault)
  step_is =
      in_any_order (is_valid_entry word) (is_readable word) (is_executable word) (is_user word) (is_accessed word) (is_dirty word) (level == 0)
      (is_aligned level word) (is_accessible word mode) (grants (perms_of word) kind) (has_a_and_d word kind)
      (Next (record { 0 = ppn_of word })) (Leaf (page_of level word vpn) (perms_of word)) PageFault

  pub no_pointer : translates level word kind mode ≡ true → leads_on level word ≡ false
  no_pointer leaf =
      apart (is_valid_entry word) (is_readable word) (is_executable word) (is_user word) (is_accessed word) (is_dirty word) (not (level == 0))
      (is_aligned level word) (is_accessible word mode) (grants (perms_of word) kind) (has_a_and_d word kind) leaf

  pub step_pointer : leads_on level word ≡ true → step level word vpn kind mode ≡ Next (record { 0 = ppn_of word })
  step_pointer pointer = step_is ∙ cond-true _ _ _ pointer

  pub step_leaf : translates level word kind mode ≡ true → step level word vpn kind mode ≡ Leaf (page_of level word vpn) (perms_of word)
  step_leaf leaf = step_is ∙ (cond-false _ _ _ (no_pointer leaf) ∙ cond-true _ _ _ leaf)

  pub step_fault : leads_on level word ≡ false → translates level word kind mode ≡ false → step level word vpn kind mode ≡ PageFault
  step_fault pointer leaf = step_is ∙ (cond-false _ _ _ pointer ∙ cond-false _ _ _ leaf)

-- at level 0 no word is a pointer
lowest : (word : ℕ) → leads_on 0 word ≡ false
lowest word = and_right _ (not (0 == 0)) refl

module _ (words : ℕ → ℕ) (vpn : Vpn) (mode : Mode) (kind : Kind) where
  answer_walks : (level table : ℕ) (follow : Ppn → Answer)
      → (leads_on level (entry words vpn level table) ≡ true → WalksFrom words vpn mode kind level table (follow (record { 0 = ppn_of (entry words vpn level table) })))
      → WalksFrom words vpn mode kind level table (answer_of (step level (entry words vpn level table) vpn kind mode) follow)
  answer_walks level table follow next =
      let word : ℕ = entry words vpn level table in
      let P : Walked → Type 0 = λ s. WalksFrom words vpn mode kind level table (answer_of s follow) in
      ⊎_elim
      (λ (pointer : leads_on level word ≡ true). subst P (sym (step_pointer level word vpn kind mode pointer)) (next pointer))
      (λ (pointer : leads_on level word ≡ false). ⊎_elim
      (λ (leaf : translates level word kind mode ≡ true). subst P (sym (step_leaf level word vpn kind mode leaf)) (ends level table leaf))
      (λ (leaf : translates level word kind mode ≡ false). subst P (sym (step_fault level word vpn kind mode pointer leaf)) (breaks level table pointer leaf))
      (cases_Bool (translates level word kind mode)))
      (cases_Bool (leads_on level word))

  pub steps_walk : (level table : ℕ) → WalksFrom words vpn mode kind level table (steps_from words vpn mode kind level table)
  steps_walk zero table =
      answer_walks 0 table (λ next. None) (λ pointer. absurd (false≢true (sym (lowest (entry words vpn 0 table)) ∙ pointer)))
  steps_walk (suc level) table =
      answer_walks (suc level) table (λ next. steps_from words vpn mode kind level next.0)
      (λ pointer. leads level table (steps_from words vpn mode kind level (ppn_of (entry words vpn (suc level) table))) pointer
      (steps_walk level (ppn_of (entry words vpn (suc level) table))))

  -- where the step is known, so is the answer
  answer_at_leaf : (level table : ℕ) → translates level (entry words vpn level table) kind mode ≡ true
      → steps_from words vpn mode kind level table ≡ Some (page_of level (entry words vpn level table) vpn, perms_of (entry words vpn level table))
  answer_at_leaf zero table leaf = ap (λ s. answer_of s (λ next. None)) (step_leaf 0 (entry words vpn 0 table) vpn kind mode leaf)
  answer_at_leaf (suc level) table leaf =
      ap (λ s. answer_of s (λ next. steps_from words vpn mode kind level next.0)) (step_leaf (suc level) (entry words vpn (suc level) table) vpn kind mode leaf)

  answer_at_fault : (level table : ℕ) → leads_on level (entry words vpn level table) ≡ false → translates level (entry words vpn level table) kind mode ≡ false
      → steps_from words vpn mode kind level table ≡ None
  answer_at_fault zero table pointer leaf = ap (λ s. answer_of s (λ next. None)) (step_fault 0 (entry words vpn 0 table) vpn kind mode pointer leaf)
  answer_at_fault (suc level) table pointer leaf =
      ap (λ s. answer_of s (λ next. steps_from words vpn mode kind level next.0)) (step_fault (suc level) (entry words vpn (suc level) table) vpn kind mode pointer leaf)

  pub walk_is : (level table : ℕ) (a : Answer) → WalksFrom words vpn mode kind level table a → a ≡ steps_from words vpn mode kind level table
  walk_is _ _ _ (ends level table leaf) = sym (answer_at_leaf level table leaf)
  walk_is _ _ _ (leads level table a pointer rest) =
      walk_is level (ppn_of (entry words vpn (suc level) table)) a rest
      ∙ sym (ap (λ s. answer_of s (λ next. steps_from words vpn mode kind level next.0)) (step_pointer (suc level) (entry words vpn (suc level) table) vpn kind mode pointer))
  walk_is _ _ _ (breaks level table pointer leaf) = sym (answer_at_fault level table pointer leaf)

  pub walks_once : (level table : ℕ) (a b : Answer)
      → WalksFrom words vpn mode kind level table a → WalksFrom words vpn mode kind level table b → a ≡ b
  walks_once level table a b walk other = walk_is level table a walk ∙ sym (walk_is level table b other)

  pub walk_from : (level table : ℕ) (a : Answer) → a ≡ steps_from words vpn mode kind level table → WalksFrom words vpn mode kind level table a
  walk_from level table a same = subst (WalksFrom words vpn mode kind level table) (sym same) (steps_walk level table)

  -- the walk from the next table, where a word leads to one, is the walk from the table itself
  steps_next : (level table next : ℕ) → next_table words vpn (suc level) table ≡ Some next
      → steps_from words vpn mode kind level next ≡ steps_from words vpn mode kind (suc level) table
  steps_next level table next is =
      let word : ℕ = entry words vpn (suc level) table in
      ⊎_elim
      (λ (leads_there : leads_on (suc level) word ≡ true).
      let found : Some (ppn_of word) ≡ Some next = sym (cond-true _ _ _ leads_there) ∙ is in
      let same : ppn_of word ≡ next = cc in
      ap (steps_from words vpn mode kind level) (sym same)
      ∙ sym (ap (λ s. answer_of s (λ p. steps_from words vpn mode kind level p.0)) (step_pointer (suc level) word vpn kind mode leads_there)))
      (λ (stops : leads_on (suc level) word ≡ false). absurd (let none : None ≡ Some next = sym (cond-false _ _ _ stops) ∙ is in cc))
      (cases_Bool (leads_on (suc level) word))

  steps_second : (root : Ppn) (first : Option ℕ) (table : ℕ) → next_table words vpn 2 root.0 ≡ first → option_and_then (next_table words vpn 1) first ≡ Some table
      → steps_from words vpn mode kind 0 table ≡ steps_from words vpn mode kind 2 root.0
  steps_second root None table first_is is = cc
  steps_second root (Some first) table first_is is = steps_next 0 first table is ∙ steps_next 1 root.0 first first_is

  steps_at : (root : Ppn) (level table : ℕ) → table_at words root vpn level ≡ Some table
      → steps_from words vpn mode kind level table ≡ steps_from words vpn mode kind 2 root.0
  steps_at root level table is = elim (cases_Bool (level == 2)) [
    | inl top ↦ (let same : Some root.0 ≡ Some table = sym (cond-true _ _ _ top) ∙ is in
        subst (λ l. steps_from words vpn mode kind l table ≡ steps_from words vpn mode kind 2 root.0) (sym (eqb-true level 2 top))
        (ap (steps_from words vpn mode kind 2) (let h : table ≡ root.0 = cc in h)))
    | inr below_top ↦ elim (cases_Bool (level == 1)) [
      | inl middle ↦
          subst (λ l. steps_from words vpn mode kind l table ≡ steps_from words vpn mode kind 2 root.0) (sym (eqb-true level 1 middle))
          (steps_next 1 root.0 table (sym (cond-true _ _ _ middle) ∙ (sym (cond-false _ _ _ below_top) ∙ is)))
      | inr below_middle ↦ elim (cases_Bool (level == 0)) [
        | inl bottom ↦
            subst (λ l. steps_from words vpn mode kind l table ≡ steps_from words vpn mode kind 2 root.0) (sym (eqb-true level 0 bottom))
            (steps_second root (next_table words vpn 2 root.0) table refl (sym (cond-true _ _ _ bottom) ∙ (sym (cond-false _ _ _ below_middle) ∙ (sym (cond-false _ _ _ below_top) ∙ is))))
        | inr nowhere ↦ absurd (let h : None ≡ Some table = sym (cond-false _ _ _ nowhere) ∙ (sym (cond-false _ _ _ below_middle) ∙ (sym (cond-false _ _ _ below_top) ∙ is)) in cc)
      ]
    ]
  ]

  pub walks_onward : (root : Ppn) (level table : ℕ) (a : Answer) → table_at words root vpn level ≡ Some table
      → (WalksFrom words vpn mode kind level table a ↔ WalksFrom words vpn mode kind 2 root.0 a)
  walks_onward root level table a is =
      let same = steps_at root level table is in (
        λ walk. walk_from 2 root.0 a (walk_is level table a walk ∙ same),
        λ walk. walk_from level table a (walk_is 2 root.0 a walk ∙ sym same),
      )

  -- the next table is the one of the level below
  abbrev LeadsBelow : Ppn → ℕ → ℕ → Type 0
  LeadsBelow root table level =
      leads_on level (entry words vpn level table) ≡ true → table_at words root vpn (level - 1) ≡ Some (ppn_of (entry words vpn level table))

  leads_from_root : (root : Ppn) (table : ℕ) → root.0 ≡ table → LeadsBelow root table 2
  leads_from_root root table same = subst (λ t. LeadsBelow root t 2) same (λ leads_there. cond-true _ _ _ leads_there)

  leads_from_middle : (root : Ppn) (table : ℕ) → next_table words vpn 2 root.0 ≡ Some table → LeadsBelow root table 1
  leads_from_middle root table is leads_there = ap (option_and_then (next_table words vpn 1)) is ∙ cond-true _ _ _ leads_there

  leads_below : (root : Ppn) (level table : ℕ) → table_at words root vpn level ≡ Some table → LeadsBelow root table level
  leads_below root level table is = elim (cases_Bool (level == 2)) [
    | inl top ↦ (let same : Some root.0 ≡ Some table = sym (cond-true _ _ _ top) ∙ is in
        subst (LeadsBelow root table) (sym (eqb-true level 2 top)) (leads_from_root root table (cc)))
    | inr below_top ↦ elim (cases_Bool (level == 1)) [
      | inl middle ↦
          subst (LeadsBelow root table) (sym (eqb-true level 1 middle))
          (leads_from_middle root table (sym (cond-true _ _ _ middle) ∙ (sym (cond-false _ _ _ below_top) ∙ is)))
      | inr below_middle ↦ elim (cases_Bool (level == 0)) [
        | inl bottom ↦
            subst (LeadsBelow root table) (sym (eqb-true level 0 bottom))
            (λ leads_there. absurd (false≢true (sym (lowest (entry words vpn 0 table)) ∙ leads_there)))
        | inr nowhere ↦ absurd (let h : None ≡ Some table = sym (cond-false _ _ _ nowhere) ∙ (sym (cond-false _ _ _ below_middle) ∙ (sym (cond-false _ _ _ below_top) ∙ is)) in cc)
      ]
    ]
  ]

  pub steps_say : (root : Ppn) (level table : ℕ) → table_at words root vpn level ≡ Some table
      → SaysOfWalk words root vpn mode kind level (step level (entry words vpn level table) vpn kind mode)
  steps_say root level table is =
      let word : ℕ = entry words vpn level table in
      let P : Walked → Type 0 = SaysOfWalk words root vpn mode kind level in
      ⊎_elim
      (λ (pointer : leads_on level word ≡ true). subst P (sym (step_pointer level word vpn kind mode pointer)) (leads_below root level table is pointer))
      (λ (pointer : leads_on level word ≡ false). ⊎_elim
      (λ (leaf : translates level word kind mode ≡ true).
      subst P (sym (step_leaf level word vpn kind mode leaf)) ((walks_onward root level table (Some (page_of level word vpn, perms_of word)) is).0 (ends level table leaf)))
      (λ (leaf : translates level word kind mode ≡ false).
      subst P (sym (step_fault level word vpn kind mode pointer leaf)) ((walks_onward root level table None is).0 (breaks level table pointer leaf)))
      (cases_Bool (translates level word kind mode)))
      (cases_Bool (leads_on level word))
