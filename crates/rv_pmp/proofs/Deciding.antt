-- What the decision of a list of rules is where no rule reaches, and inside an access that is let through.
use Rattle.std.proofs.Common.{◌≡◌, ℕ, ◌<◌, ◌≤◌, ◌^◌, Bool, true, false, ◌&&◌, List, [], ◌∷◌, refl, sym, ◌∙◌, ⊎_elim, arith}
use Rattle.std.specs.Int.{trailing_ones, w64}
use Rattle.std.specs.List.{AllPass}
use Rattle.std.proofs.lemmas.Bool.{and_parts, and_from, cases_Bool, cond-true, cond-false, ltb-true, false≢true}
use Rattle.std.proofs.lemmas.List.Elements.{All-head, All-tail}
use Rattle.pl_base.specs.Perms.{grants}
use Rattle.pl_base.specs.declared.access.Kind.{Kind}
use Rattle.pl_base.specs.declared.access.Kind.TheVariants.{Fetch, Load, Store}
use Rattle.rv_pmp.proofs.AlignedSpan.{trailing_ones-le, size_below, start_below}
use Rattle.rv_pmp.proofs.Spans.{covers-trans, overlaps-from_covers, apart-part, apart-above}
use Rattle.rv_pmp.specs.Pmp.{permits_after}
use Rattle.rv_pmp.specs.Rule.{span_by, span_of, is_valid, matching_of, perms_of, grants_each}
use Rattle.pl_base.specs.Span.{overlaps, covers}
use Rattle.rv_pmp.specs.declared.rule.Matching.{Matching}
use Rattle.rv_pmp.specs.declared.rule.Matching.TheVariants.{Off, Tor, Na4, Napot}
use Rattle.rv_pmp.specs.declared.rule.Rule.{Rule}
use Rattle.pl_base.specs.declared.span.Span.{Span}

-- no rule reaches address 2 ^ 59
pub span_by-stop : (m : Matching) (before addr : ℕ) → before < 2 ^ 54 → addr < 2 ^ 54 → (span_by m before addr).stop ≤ 2 ^ 59
span_by-stop Off before addr b a = omega arith
span_by-stop Tor before addr b a = omega arith
span_by-stop Na4 before addr b a = omega arith
span_by-stop Napot before addr b a =
    let size = size_below (trailing_ones w64 addr) (trailing_ones-le addr a) in
    let low = start_below addr (trailing_ones w64 addr) a in
    omega arith

addr_fits : (rule : Rule) → is_valid rule ≡ true → rule.addr < 2 ^ 54
addr_fits rule valid = ltb-true rule.addr (2 ^ 54) (and_parts _ _ valid).1

pub permits_after_far : (before : ℕ) (all : List Rule) (access : Span) (kind : Kind) → before < 2 ^ 54 → AllPass is_valid all
    → 2 ^ 59 ≤ access.start → permits_after before all access kind ≡ false
permits_after_far before [] access kind b valid far = refl
permits_after_far before (rule ∷ all) access kind b valid far =
    let a : rule.addr < 2 ^ 54 = addr_fits rule (All-head (λ r. is_valid r ≡ true) rule all valid) in
    let stop = span_by-stop (matching_of rule) before rule.addr b a in
    let apart : overlaps (span_of before rule) access ≡ false = apart-above (span_of before rule) access (omega arith) in
    cond-false _ _ _ apart ∙ permits_after_far rule.addr all access kind a (All-tail (λ r. is_valid r ≡ true) rule all valid) far

-- what is let through whole is let through in part
pub permits_after-part : (before : ℕ) (all : List Rule) (whole part : Span) (kind : Kind) → part.start < part.stop
    → covers whole part ≡ true → permits_after before all whole kind ≡ true → permits_after before all part kind ≡ true
permits_after-part before [] whole part kind some inside passes = passes
permits_after-part before (rule ∷ all) whole part kind some inside passes =
    ⊎_elim
    (λ (meets : overlaps (span_of before rule) whole ≡ true).
    let deciding = and_parts _ _ (sym (cond-true _ _ _ meets) ∙ passes) in
    let around : covers (span_of before rule) part ≡ true = covers-trans (span_of before rule) whole part deciding.0 inside in
    cond-true _ _ _ (overlaps-from_covers (span_of before rule) part some around) ∙ and_from _ _ around deciding.1)
    (λ (misses : overlaps (span_of before rule) whole ≡ false).
    cond-false _ _ _ (apart-part (span_of before rule) whole part inside misses)
    ∙ permits_after-part rule.addr all whole part kind some inside (sym (cond-false _ _ _ misses) ∙ passes))
    (cases_Bool (overlaps (span_of before rule) whole))

all_three : (a : Bool) (g : Kind → Bool) → ((kind : Kind) → (a && g kind) ≡ true) → (a && ((g Fetch && g Load) && g Store)) ≡ true
all_three a g h =
    let fetch = and_parts a (g Fetch) (h Fetch) in
    let load = and_parts a (g Load) (h Load) in
    let store = and_parts a (g Store) (h Store) in
    and_from a ((g Fetch && g Load) && g Store) fetch.0 (and_from (g Fetch && g Load) (g Store) (and_from (g Fetch) (g Load) fetch.1 load.1) store.1)

-- a rule that decides on an access and does not let it through for all three kinds bars one of them
pub barred_by : (before : ℕ) (rule : Rule) (all : List Rule) (access : Span) → overlaps (span_of before rule) access ≡ true
    → (covers (span_of before rule) access && grants_each (perms_of rule)) ≡ false
    → ((kind : Kind) → permits_after before (rule ∷ all) access kind ≡ true) → ⊥
barred_by before rule all access meets bars each =
    let granted = all_three (covers (span_of before rule) access) (grants (perms_of rule)) (λ kind. sym (cond-true _ _ _ meets) ∙ each kind) in
    false≢true (sym bars ∙ granted)
