-- Words that are sent later change nothing in a run so far.
use Rattle.std.proofs.Common.{◌≡◌, ℕ, zero, suc, Bool, true, false, cond, eqb, ltb, List, ◌++◌, length, Option, Some, None, option_and_then, refl, sym, ap, ◌∙◌, arith, inl, inr, length-append}
use Rattle.std.proofs.Math.ListN.{get_or-append}
use Rattle.std.proofs.lemmas.Bool.{cases_Bool, ltb-true, lt-ltb}
use Rattle.rv_alone.specs.declared.step.Act.{Act}
use Rattle.rv_alone.specs.declared.step.Act.TheVariants.{Set, Load, Store, Call, Trap}
use Rattle.rv_alone.specs.Effect.{act_of}
use Rattle.rv_alone.specs.Flat.{Image, Flat, Status, on, ended, fetched}
use Rattle.rv_alone.specs.Alone.{Outcome, trap, next_of, context_of, acts, calls, receives, sends, exits, runs, advance_by, alone, page_written, with_page, written_pages}
use Rattle.rv_alone.specs.Laws.{SentLater, WrittenLater}

-- the step with more words gives what the step gave
abbrev Later : Outcome → Outcome → Type 0
Later before after = (b : Flat) → next_of before ≡ Some b → next_of after ≡ Some b

received : (a : Flat) (sent later : List ℕ) → Later (receives a sent) (receives a (sent ++ later))
received a sent later b e = elim (cases_Bool (ltb a.received (length sent))) [
  | inl there ↦
      let below = ltb-true a.received (length sent) there in
      let more : ltb a.received (length (sent ++ later)) ≡ true = lt-ltb a.received (length (sent ++ later)) (omega (arith, length-append sent later)) in
      let word = get_or-append sent later 0 a.received below in
      let e' = rw there at e in
      rw (more, word) e'
  | inr none ↦ (let e' = rw none at e in cc)
]

chosen : (t : Bool) (x y x' y' : Outcome) → Later x x' → Later y y' → Later (cond t x y) (cond t x' y')
chosen true x y x' y' p q = p
chosen false x y x' y' p q = q

same : (x : Outcome) → Later x x
same x b e = e

called : (a : Flat) (sent later : List ℕ) (number value : ℕ) → Later (calls a sent number value) (calls a (sent ++ later) number value)
called a sent later number value =
    let rest = cond (eqb number 3) (sends a value) (trap 8 number) in
    chosen (eqb number 1) (exits a value) (cond (eqb number 2) (receives a sent) rest) (exits a value) (cond (eqb number 2) (receives a (sent ++ later)) rest)
    (same (exits a value))
    (chosen (eqb number 2) (receives a sent) rest (receives a (sent ++ later)) rest (received a sent later) (same rest))

acted : (a : Flat) (sent later : List ℕ) (act : Act) → Later (acts a sent act) (acts a (sent ++ later) act)
acted a sent later (Set context) b e = e
acted a sent later (Load address width is_signed rd) b e = e
acted a sent later (Store address width value) b e = e
acted a sent later (Call number value) b e = called a sent later number value b e
acted a sent later (Trap cause value) b e = e

ran : (a : Flat) (sent later : List ℕ) (word : Option ℕ) → Later (runs a sent word) (runs a (sent ++ later) word)
ran a sent later None b e = e
ran a sent later (Some word) b e = acted a sent later (act_of (context_of a) word) b e

stepped : (s : Status) (a : Flat) (sent later : List ℕ) (b : Flat) → advance_by s a sent ≡ Some b → advance_by s a (sent ++ later) ≡ Some b
stepped on a sent later b e = ran a sent later (fetched a.pages a.pc) b e
stepped (ended code) a sent later b e = e

then_later : (before after : Option Flat) (sent later : List ℕ) (b : Flat) → ((a : Flat) → before ≡ Some a → after ≡ Some a)
    → option_and_then (λ (a : Flat). advance_by a.status a sent) before ≡ Some b → option_and_then (λ (a : Flat). advance_by a.status a (sent ++ later)) after ≡ Some b
then_later None after sent later b before e = cc
then_later (Some a) after sent later b before e = rw (before a refl) (stepped a.status a sent later b e)

pub sent_later : SentLater
unfolding alone
sent_later image sent later zero a e = e
sent_later image sent later (suc n) a e = then_later (alone image sent n) (alone image (sent ++ later) n) sent later a (sent_later image sent later n) e

-- ---- the pages written so far

-- a run that comes so far came to each state before
pub came : (image : Image) (sent : List ℕ) (n : ℕ) (a : Flat) → alone image sent (suc n) ≡ Some a → (b : Flat) × (alone image sent n ≡ Some b)
unfolding alone
came image sent n a e = from (alone image sent n) refl e
  where
    from : (o : Option Flat) → alone image sent n ≡ o → option_and_then (λ (b : Flat). advance_by b.status b sent) o ≡ Some a → (b : Flat) × (alone image sent n ≡ Some b)
    from None is h = cc
    from (Some b) is h = (b, is)

next_written_later : (image : Image) (sent later : List ℕ) (n : ℕ) (a : Flat) → alone image sent n ≡ Some a → written_pages image (sent ++ later) n ≡ written_pages image sent n
    → written_pages image (sent ++ later) (suc n) ≡ written_pages image sent (suc n)
unfolding written_pages
next_written_later image sent later n a is so_far =
    ap (λ o. with_page (written_pages image (sent ++ later) n) (option_and_then (λ (x : Flat). page_written x.status x) o)) (sent_later image sent later n a is)
    ∙ ap (λ ws. with_page ws (page_written a.status a)) so_far
    ∙ ap (λ o. with_page (written_pages image sent n) (option_and_then (λ (x : Flat). page_written x.status x) o)) (sym is)

none_later : (image : Image) (sent later : List ℕ) → written_pages image (sent ++ later) zero ≡ written_pages image sent zero
unfolding written_pages
none_later image sent later = refl

so_far_later : (image : Image) (sent later : List ℕ) (n : ℕ) (a : Flat) → alone image sent n ≡ Some a → written_pages image (sent ++ later) n ≡ written_pages image sent n
so_far_later image sent later zero a e = none_later image sent later
so_far_later image sent later (suc n) a e =
    let before = came image sent n a e in
    next_written_later image sent later n before.0 before.1 (so_far_later image sent later n before.0 before.1)

pub written_later : WrittenLater
written_later image sent later n a e =
    let so_far = so_far_later image sent later n a e in
    (so_far, next_written_later image sent later n a e so_far)
