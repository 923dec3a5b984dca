-- An event of the host from what became of its read and its write.
use Rattle.std.proofs.Common.{ℕ, ◌≡◌, List, [], Option, Some, None, refl, ap, subst, sym, ◌∙◌}
use Rattle.std.specs.Prelude.{Result, Ok, Err}
use Rattle.std.specs.Result.{IsErrAnd}
use Rattle.pl_base.specs.declared.refusal.No.{No}
use Rattle.mem_slots.specs.declared.slot_use.SlotUse.{SlotUse}
use Rattle.mem_ctl.specs.declared.broken.Broken.{Broken}
use Rattle.mem_ctl.specs.declared.broken.Broken.TheVariants as broken_is
use Rattle.mem_ctl.specs.declared.broken.Stop.{Stop}
use Rattle.mem_ctl.specs.Calls.{read_word_of, write_part_of}
use Rattle.mem_ctl.specs.Data.{CtlData, Going, Outcome, Value, Fault, Collision, After, and_then, answer, go_on, going}
use Rattle.mem_ctl.specs.Results.{AreGiven, IsCall, outcome_of}
use Rattle.mem_ctl.specs.Stops.{StepAnswer, Done, Refused, step_answer, stop_of}
use Rattle.mem_ctl.specs.Threading.{Threads}
use Rattle.mem_ctl.proofs.ThreadLemmas.{Threads-quiet, Threads-read, Threads-then, Threads-write, calls_join}
use Rattle.mon_host.specs.Leaves.{IsHostEvent, event_by, host_answer, if_done, step_unless, word_replaced, written_unless}

-- ---- a call after a call, of which one ends

module _ (gives : List SlotUse → ℕ → Type 0) {A : Type 0} {B : Type 0} (call : Going → After A) (next : A → Going → After B) (x y : CtlData) where
  ended_by : (ended : Outcome A) (o : Outcome B) → ((g : Going) → go_on ended g next ≡ record { outcome = o; after = g }) → IsCall gives call x ended y
      → IsCall gives (λ g. and_then (call g) next) x o y
  ended_by ended o ends m =
      let r : After A = call (going x m.positions) in
      let whole : go_on r.outcome r.after next ≡ record { outcome = o; after = r.after } = ap (λ e. go_on e r.after next) (sym m.is) ∙ ends r.after in
      record {
        positions = m.positions;
        given = subst (λ (t : After B). AreGiven gives t.after.shown m.positions) (sym whole) m.given;
        is = ap (λ (t : After B). t.outcome) (sym whole);
        now = m.now ∙ ap (λ (t : After B). t.after.ctl) (sym whole);
      }

  -- a refused call ends both
  pub broke : (b : Broken) → IsCall gives call x (outcome_of (Err b)) y → IsCall gives (λ g. and_then (call g) next) x (outcome_of (Err b)) y
  broke (broken_is.Fault place) = ended_by (Fault place) (Fault place) (λ g. refl)
  broke (broken_is.Collision c) = ended_by (Collision c.place c.held.items c.written.items) (Collision c.place c.held.items c.written.items) (λ g. refl)

-- a call that is followed by an answer
answered_after : (gives : List SlotUse → ℕ → Type 0) {A : Type 0} {B : Type 0} (call : Going → After A) (x y : CtlData) (a : A) (b : B) → IsCall gives call x (Value a) y
    → IsCall gives (λ g. and_then (call g) (λ _ h. answer b h)) x (Value b) y
answered_after gives call x y a b = ended_by gives call (λ _ h. answer b h) x y (Value a) (Value b) (λ g. refl)

-- ---- the word

module _ (gives : List SlotUse → ℕ → Type 0) (d : List ℕ → List ℕ) {A : Type 0} (slot : ℕ × ℕ) (refusal : ℕ → Option No) (word : ℕ) (value : ℕ → A) where
  Threads-written : (cause : Option No) (a : A) → Threads (λ g. written_unless d cause slot word a g)
  Threads-written (Some cause) a = Threads-quiet (λ ctl. Value (Err cause)) (λ ctl. ctl)
  Threads-written None a =
      Threads-then (write_part_of d slot.0 slot.1 8 word) (λ _ h. answer (Ok a) h) (Threads-write d slot.0 slot.1 8 word) (λ _. Threads-quiet (λ ctl. Value (Ok a)) (λ ctl. ctl))

  module _ (x y : CtlData) where
    replaced_broke : (b : Broken) → IsCall gives (read_word_of d slot.0 slot.1) x (outcome_of (Err b)) y → IsCall gives (word_replaced d slot refusal word value) x (outcome_of (Err b)) y
    unfolding word_replaced
    replaced_broke b read = broke gives (read_word_of d slot.0 slot.1) (λ old h. written_unless d (refusal old) slot word (value old) h) x y b read

    -- the read gave a word, and what follows it came out so
    replaced_then : (old : ℕ) (o : Outcome (Result A No)) (z : CtlData) → IsCall gives (read_word_of d slot.0 slot.1) x (Value old) y
        → IsCall gives (λ g. written_unless d (refusal old) slot word (value old) g) y o z → IsCall gives (word_replaced d slot refusal word value) x o z
    unfolding word_replaced
    replaced_then old o z read then =
        calls_join gives (read_word_of d slot.0 slot.1) (λ w h. written_unless d (refusal w) slot word (value w) h) (Threads-read d slot.0 slot.1) (λ w. Threads-written (refusal w) (value w)) x y old o z read then

    replaced_refused : (old : ℕ) (cause : No) → refusal old ≡ Some cause → IsCall gives (read_word_of d slot.0 slot.1) x (Value old) y
        → IsCall gives (word_replaced d slot refusal word value) x (Value (Err cause)) y
    replaced_refused old cause refused read =
        let Then : Option No → Type 0 = λ r. IsCall gives (λ g. written_unless d r slot word (value old) g) y (Value (Err cause)) y in
        replaced_then old (Value (Err cause)) y read (subst Then (sym refused) (record { positions = []; given = tt; is = refl; now = refl }))

    -- no cause, and the write came out so
    replaced_write_broke : (old : ℕ) (z : CtlData) (b : Broken) → refusal old ≡ None → IsCall gives (read_word_of d slot.0 slot.1) x (Value old) y
        → IsCall gives (write_part_of d slot.0 slot.1 8 word) y (outcome_of (Err b)) z → IsCall gives (word_replaced d slot refusal word value) x (outcome_of (Err b)) z
    replaced_write_broke old z b none read write =
        let Then : Option No → Type 0 = λ r. IsCall gives (λ g. written_unless d r slot word (value old) g) y (outcome_of (Err b)) z in
        replaced_then old (outcome_of (Err b)) z read (subst Then (sym none) (broke gives (write_part_of d slot.0 slot.1 8 word) (λ _ h. answer (Ok (value old)) h) y z b write))

    replaced_done : (old : ℕ) (z : CtlData) (u : Unit {0}) → refusal old ≡ None → IsCall gives (read_word_of d slot.0 slot.1) x (Value old) y
        → IsCall gives (write_part_of d slot.0 slot.1 8 word) y (Value u) z → IsCall gives (word_replaced d slot refusal word value) x (Value (Ok (value old))) z
    replaced_done old z u none read write =
        let Then : Option No → Type 0 = λ r. IsCall gives (λ g. written_unless d r slot word (value old) g) y (Value (Ok (value old))) z in
        replaced_then old (Value (Ok (value old))) z read (subst Then (sym none) (answered_after gives (write_part_of d slot.0 slot.1 8 word) y z u (Ok (value old)) write))

-- ---- the event

-- an error that a refused access is turned into
error_answer : {A : Type 0} (result : Result A Stop) (b : Broken) → IsErrAnd result (λ stop. stop ≡ stop_of b) → host_answer {A = A} (outcome_of (Err b)) ≡ Some (step_answer result)
error_answer (Ok value) b is = absurd is
error_answer (Err stop) (broken_is.Fault place) is = ap (λ (s : Stop). Some (step_answer (Err s))) (sym is)
error_answer (Err stop) (broken_is.Collision c) is = ap (λ (s : Stop). Some (step_answer (Err s))) (sym is)

broken_leaves : (A : Type 0) {S : Type 0} (b : Broken) (done before : S) → before ≡ if_done {A = A} (outcome_of (Err b)) done before
broken_leaves A (broken_is.Fault place) done before = refl
broken_leaves A (broken_is.Collision c) done before = refl

-- the rule that names the slot to evict is the same for the read and for the write, by an equation
module _ {F : Type 0} (gives_by : F → List SlotUse → ℕ → Type 0) (rule : F) (d : List ℕ → List ℕ) {A : Type 0} {S : Type 0} (early : Option No) (place : ℕ × ℕ) (refusal : ℕ → Option No) (word : ℕ)
    (value : ℕ → A) (done before : S) (x : CtlData) where
  abbrev Happens : StepAnswer A → CtlData → S → Type 0
  Happens answered y rest = IsHostEvent (gives_by rule) (λ g. event_by (step_unless early (word_replaced d place refusal word value) g) done before) x answered y rest

  -- the event is refused before the read
  pub event_at_once : (cause : No) → early ≡ Some cause → Happens (Refused cause) x before
  event_at_once cause refused =
      let Then : Option No → Type 0 = λ e. IsHostEvent (gives_by rule) (λ g. event_by (step_unless e (word_replaced d place refusal word value) g) done before) x (Refused cause) x before in
      subst Then (sym refused) (record { positions = []; given = tt; is = refl; now = refl; rest_is = refl })

  module _ (slot : ℕ × ℕ) (none_early : None ≡ early) (slot_is : slot ≡ place) where
    event_from : (o : Outcome (Result A No)) (answered : StepAnswer A) (y : CtlData) (rest : S) → host_answer o ≡ Some answered → rest ≡ if_done o done before
        → IsCall (gives_by rule) (word_replaced d slot refusal word value) x o y → Happens answered y rest
    event_from o answered y rest answers rest_now call =
        let Then : Option No → ℕ × ℕ → Type 0 = λ e s. IsHostEvent (gives_by rule) (λ g. event_by (step_unless e (word_replaced d s refusal word value) g) done before) x answered y rest in
        subst (λ e. Then e place) none_early (subst (Then None) slot_is (record {
          positions = call.positions;
          given = call.given;
          is = ap host_answer (sym call.is) ∙ answers;
          now = call.now;
          rest_is = rest_now ∙ ap (λ ended. if_done ended done before) call.is;
        }))

    -- the read is refused
    pub event_read_broke : (b : Broken) (result : Result A Stop) (y : CtlData) → IsErrAnd result (λ stop. stop ≡ stop_of b)
        → IsCall (gives_by rule) (read_word_of d slot.0 slot.1) x (outcome_of (Err b)) y → Happens (step_answer result) y before
    event_read_broke b result y is read =
        event_from (outcome_of (Err b)) _ y before (error_answer result b is) (broken_leaves A b done before) (replaced_broke (gives_by rule) d slot refusal word value x y b read)

    module _ (y : CtlData) (old : ℕ) (read : IsCall (gives_by rule) (read_word_of d slot.0 slot.1) x (Value old) y) where
      -- the event is refused by the word
      pub event_refused : (cause : No) → refusal old ≡ Some cause → Happens (Refused cause) y before
      event_refused cause refused = event_from (Value (Err cause)) _ y before refl refl (replaced_refused (gives_by rule) d slot refusal word value x y old cause refused read)

      module _ (none : refusal old ≡ None) (rule_now : F) (same_rule : rule_now ≡ rule) (word_now : ℕ) (word_is : word_now ≡ word) where
        write_by : (o : Outcome (Unit {0})) (z : CtlData) → IsCall (gives_by rule_now) (write_part_of d slot.0 slot.1 8 word_now) y o z → IsCall (gives_by rule) (write_part_of d slot.0 slot.1 8 word) y o z
        write_by o z write =
            subst (λ w. IsCall (gives_by rule) (write_part_of d slot.0 slot.1 8 w) y o z) word_is (subst (λ f. IsCall (gives_by f) (write_part_of d slot.0 slot.1 8 word_now) y o z) same_rule write)

        -- the write is refused
        pub event_write_broke : (b : Broken) (result : Result A Stop) (z : CtlData) → IsErrAnd result (λ stop. stop ≡ stop_of b)
            → IsCall (gives_by rule_now) (write_part_of d slot.0 slot.1 8 word_now) y (outcome_of (Err b)) z → Happens (step_answer result) z before
        event_write_broke b result z is write =
            event_from (outcome_of (Err b)) _ z before (error_answer result b is) (broken_leaves A b done before)
            (replaced_write_broke (gives_by rule) d slot refusal word value x y old z b none read (write_by (outcome_of (Err b)) z write))

        -- the word is replaced
        pub event_done : (u : Unit {0}) (z : CtlData) (answered : A) (rest : S) → answered ≡ value old → rest ≡ done
            → IsCall (gives_by rule_now) (write_part_of d slot.0 slot.1 8 word_now) y (Value u) z → Happens (Done answered) z rest
        event_done u z answered rest answered_is rest_is write =
            event_from (Value (Ok (value old))) _ z rest (ap (λ a. Some (Done a)) (sym answered_is)) rest_is
            (replaced_done (gives_by rule) d slot refusal word value x y old z u none read (write_by (Value u) z write))
