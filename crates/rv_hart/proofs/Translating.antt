-- Asking and learning is the page walk.
use Rattle.std.proofs.Common.{◌≡◌, ℕ, zero, suc, ◌<◌, ◌-◌, Bool, true, false, cond, List, Option, Some, None, find, refl, sym, ap, ◌∙◌, subst, arith}
use Rattle.std.proofs.lemmas.Bool.{cond-true}
use Rattle.pl_base.specs.Address.{vpn_of}
use Rattle.pl_base.specs.Perms.{grants}
use Rattle.pl_base.specs.declared.access.Kind.{Kind}
use Rattle.pl_base.specs.declared.address.Pa.{Pa}
use Rattle.pl_base.specs.declared.address.Ppn.{Ppn}
use Rattle.pl_base.specs.declared.address.Va.{Va}
use Rattle.pl_base.specs.declared.perms.Perms.{Perms}
use Rattle.rv_sv39.specs.Canonical.{is_canonical}
use Rattle.rv_sv39.specs.Step.{step, FitsAccess, StepsFit}
use Rattle.rv_sv39.specs.Walk.{Answer, table_at, entry_address, entry, steps_from, answer_of, SaysOfWalk, StepsSay, WalksBySteps}
use Rattle.rv_sv39.specs.declared.walk.Walked.{Walked}
use Rattle.rv_sv39.specs.declared.walk.Walked.TheVariants as walked
use Rattle.rv_tlb.specs.Tlb.{is_of, with_entry}
use Rattle.rv_tlb.specs.declared.tlb.TlbEntry.{TlbEntry}
use Rattle.rv_hart.specs.declared.seeking.Sought.{Sought}
use Rattle.rv_hart.specs.declared.seeking.Sought.TheVariants as sought_is
use Rattle.rv_hart.specs.declared.walks.View.{View}
use Rattle.rv_hart.specs.declared.walks.Walk.TheVariants.{Start, Level, Found}
use Rattle.rv_hart.specs.Seeking.{address_in, sought, sought_by, sought_table, sought_through}
use Rattle.rv_hart.specs.Learning.{learned, learned_by, tlb_by, tlb_after}
use Rattle.rv_hart.specs.Translation.{HasLearned, AsksWhereItStands, LearnsTheWalk, Translated, after_word, after_question, repeated, translated_by, WalksWithoutEntry, UsesTheEntry}

-- ---- what is asked for

-- a table is asked for only where no entry is used
asked_is : (t : Bool) (o : Option TlbEntry) (l : ℕ) (table : Ppn) (va : Va) (kind : Kind) (pa : Pa) (level : ℕ)
    → cond t (sought_by o va kind (sought_table l table va)) sought_is.PageFault ≡ sought_is.Table pa level
    → (l ≡ level) × (entry_address (vpn_of va) l table.0 ≡ pa.0)
asked_is false o l table va kind pa level is = cc
asked_is true None l table va kind pa level is =
    let same : record { 0 = entry_address (vpn_of va) l table.0 } ≡ pa = cc in
    (cc, ap (λ (p : Pa). p.0) same)
asked_is true (Some e) l table va kind pa level is = by (grants e.perms kind) is
  where
    by : (g : Bool) → cond g (sought_is.At (address_in e.ppn va)) sought_is.PageFault ≡ sought_is.Table pa level → (l ≡ level) × (entry_address (vpn_of va) l table.0 ≡ pa.0)
    by true h = cc
    by false h = cc

found_asks : (t g : Bool) (at : Pa) (pa : Pa) (level : ℕ) → cond t (cond g (sought_is.At at) sought_is.PageFault) sought_is.PageFault ≡ sought_is.Table pa level → ⊥
found_asks false g at pa level is = cc
found_asks true false at pa level is = cc
found_asks true true at pa level is = cc

pub asks_where_it_stands : AsksWhereItStands
asks_where_it_stands words view va kind Start entries pa level stands is =
    let h = asked_is (is_canonical va.0) (find (is_of view.space (vpn_of va)) entries) 2 view.root va kind pa level is in (
      view.root.0,
      subst (λ l. table_at words view.root (vpn_of va) l ≡ Some view.root.0) h.0 refl,
      sym h.1 ∙ ap (λ l. entry_address (vpn_of va) l view.root.0) h.0,
    )
asks_where_it_stands words view va kind (Level l table) entries pa level stands is =
    let h = asked_is (is_canonical va.0) (find (is_of view.space (vpn_of va)) entries) l table va kind pa level is in (
      table.0,
      subst (λ x. table_at words view.root (vpn_of va) x ≡ Some table.0) h.0 stands,
      sym h.1 ∙ ap (λ x. entry_address (vpn_of va) x table.0) h.0,
    )
asks_where_it_stands words view va kind (Found ppn perms) entries pa level stands is =
    absurd (found_asks (is_canonical va.0) (grants perms kind) (address_in ppn va) pa level is)

-- ---- what is learned

learned_says : (words : ℕ → ℕ) (view : View) (va : Va) (kind : Kind) (l : ℕ) (w : Walked)
    → SaysOfWalk words view.root (vpn_of va) view.mode kind l w → HasLearned words view va kind (learned_by l w)
learned_says words view va kind l (walked.Next ppn) says = says
learned_says words view va kind l (walked.Leaf ppn perms) says = says
learned_says words view va kind l walked.PageFault says = says

pub learns_the_walk : StepsSay → LearnsTheWalk
learns_the_walk say words view va kind Start entries pa level stands is =
    let h = asked_is (is_canonical va.0) (find (is_of view.space (vpn_of va)) entries) 2 view.root va kind pa level is in
    subst (λ a. HasLearned words view va kind (learned_by 2 (step 2 (words a) (vpn_of va) kind view.mode))) h.1
    (learned_says words view va kind 2 (step 2 (entry words (vpn_of va) 2 view.root.0) (vpn_of va) kind view.mode)
    (say words view.root (vpn_of va) view.mode kind 2 view.root.0 refl))
learns_the_walk say words view va kind (Level l table) entries pa level stands is =
    let h = asked_is (is_canonical va.0) (find (is_of view.space (vpn_of va)) entries) l table va kind pa level is in
    subst (λ a. HasLearned words view va kind (learned_by l (step l (words a) (vpn_of va) kind view.mode))) h.1
    (learned_says words view va kind l (step l (entry words (vpn_of va) l table.0) (vpn_of va) kind view.mode)
    (say words view.root (vpn_of va) view.mode kind l table.0 stands))
learns_the_walk say words view va kind (Found ppn perms) entries pa level stands is =
    absurd (found_asks (is_canonical va.0) (grants perms kind) (address_in ppn va) pa level is)

-- ---- from the start to the end

module _ (fit : StepsFit) (words : ℕ → ℕ) (view : View) (va : Va) (kind : Kind) (canonical : is_canonical va.0 ≡ true) where
  found_answer : (ppn : Ppn) (perms : Perms) (entries : List TlbEntry) → grants perms kind ≡ true
      → sought (Found ppn perms) va kind entries view ≡ sought_is.At (address_in ppn va)
  found_answer ppn perms entries may = cond-true _ _ _ canonical ∙ cond-true _ _ _ may

  found_repeated : (n : ℕ) (ppn : Ppn) (perms : Perms) (entries : List TlbEntry) → grants perms kind ≡ true
      → repeated words view va kind n (Found ppn perms) entries ≡ record { answer = sought_is.At (address_in ppn va); tlb = entries }
  found_repeated zero ppn perms entries may = ap (λ (s : Sought). record { answer = s; tlb = entries }) (found_answer ppn perms entries may)
  found_repeated (suc n) ppn perms entries may =
      ap (λ (s : Sought). after_question
      (λ pa. after_word (repeated words view va kind n) (learned (Found ppn perms) (words pa.0) va kind view) (tlb_after (Found ppn perms) (words pa.0) va kind view entries))
      s entries) (found_answer ppn perms entries may)

  module _ (entries : List TlbEntry) (none : find (is_of view.space (vpn_of va)) entries ≡ None) where
    asks_table : (l : ℕ) (table : Ppn)
        → cond (is_canonical va.0) (sought_by (find (is_of view.space (vpn_of va)) entries) va kind (sought_table l table va)) sought_is.PageFault
        ≡ sought_table l table va
    asks_table l table = cond-true _ _ _ canonical ∙ ap (λ o. sought_by o va kind (sought_table l table va)) none

    at_word : (n l : ℕ) (w : Walked) (follow : Ppn → Answer) → FitsAccess l kind w
        → ((next : Ppn) → 0 < l → repeated words view va kind n (Level (l - 1) next) entries ≡ translated_by (follow next) va view entries)
        → after_word (repeated words view va kind n) (learned_by l w) (tlb_by entries va view w) ≡ translated_by (answer_of w follow) va view entries
    at_word n l (walked.Next ppn) follow fits onward = onward ppn fits
    at_word n l (walked.Leaf ppn perms) follow fits onward =
        found_repeated n ppn perms (with_entry entries (record { space = view.space; vpn = vpn_of va; ppn = ppn; perms = perms })) fits
    at_word n l walked.PageFault follow fits onward = refl

    from_lowest : (table : Ppn) → repeated words view va kind 1 (Level 0 table) entries
        ≡ translated_by (steps_from words (vpn_of va) view.mode kind 0 table.0) va view entries
    from_lowest table =
        ap (λ (s : Sought). after_question
        (λ pa. after_word (repeated words view va kind 0) (learned (Level 0 table) (words pa.0) va kind view) (tlb_after (Level 0 table) (words pa.0) va kind view entries))
        s entries) (asks_table 0 table)
        ∙ at_word 0 0 (step 0 (entry words (vpn_of va) 0 table.0) (vpn_of va) kind view.mode) (λ next. None)
        (fit 0 (entry words (vpn_of va) 0 table.0) (vpn_of va) kind view.mode) (λ next below. absurd (omega arith))

    from_middle : (table : Ppn) → repeated words view va kind 2 (Level 1 table) entries
        ≡ translated_by (steps_from words (vpn_of va) view.mode kind 1 table.0) va view entries
    from_middle table =
        ap (λ (s : Sought). after_question
        (λ pa. after_word (repeated words view va kind 1) (learned (Level 1 table) (words pa.0) va kind view) (tlb_after (Level 1 table) (words pa.0) va kind view entries))
        s entries) (asks_table 1 table)
        ∙ at_word 1 1 (step 1 (entry words (vpn_of va) 1 table.0) (vpn_of va) kind view.mode) (λ next. steps_from words (vpn_of va) view.mode kind 0 next.0)
        (fit 1 (entry words (vpn_of va) 1 table.0) (vpn_of va) kind view.mode) (λ next below. from_lowest next)

    from_start : repeated words view va kind 3 Start entries
        ≡ translated_by (steps_from words (vpn_of va) view.mode kind 2 view.root.0) va view entries
    from_start =
        ap (λ (s : Sought). after_question
        (λ pa. after_word (repeated words view va kind 2) (learned Start (words pa.0) va kind view) (tlb_after Start (words pa.0) va kind view entries))
        s entries) (asks_table 2 view.root)
        ∙ at_word 2 2 (step 2 (entry words (vpn_of va) 2 view.root.0) (vpn_of va) kind view.mode) (λ next. steps_from words (vpn_of va) view.mode kind 1 next.0)
        (fit 2 (entry words (vpn_of va) 2 view.root.0) (vpn_of va) kind view.mode) (λ next below. from_middle next)

pub walks_without_entry : StepsFit → WalksBySteps → WalksWithoutEntry
walks_without_entry fit by_steps words view va kind entries answer canonical none walk =
    from_start fit words view va kind canonical entries none
    ∙ ap (λ a. translated_by a va view entries) (sym ((by_steps words (vpn_of va) view.mode kind 2 view.root.0 answer).0 walk))

ends : (on : Pa → Translated) (g : Bool) (at : Pa) (entries : List TlbEntry)
    → after_question on (cond g (sought_is.At at) sought_is.PageFault) entries ≡ record { answer = cond g (sought_is.At at) sought_is.PageFault; tlb = entries }
ends on true at entries = refl
ends on false at entries = refl

pub uses_the_entry : UsesTheEntry
uses_the_entry words view va kind entries e canonical is =
    let on : Pa → Translated
    = λ pa. after_word (repeated words view va kind 2) (learned Start (words pa.0) va kind view) (tlb_after Start (words pa.0) va kind view entries) in
    let asks : sought Start va kind entries view ≡ sought_through e.ppn e.perms va kind
    = cond-true _ _ _ canonical ∙ ap (λ o. sought_by o va kind (sought_table 2 view.root va)) is in
    ap (λ (s : Sought). after_question on s entries) asks ∙ ends on (grants e.perms kind) (address_in e.ppn va) entries
