-- `fork` with more pages than a number may have as spares, which are all free to take: any of so many in a row.
use Rattle.std.proofs.Common.{◌≡◌, ℕ, ◌+◌, ◌*◌, ◌/◌, ◌&&◌, ◌<◌, ◌≤◌, ◌==◌, Bool, true, false, not, if◌then◌else◌, cond, List, [], ◌∷◌, ◌++◌, find, count_by, Some, None, option_map, suc, zero, refl, ap, ◌∙◌, arith, replicate, lit≤}
use Rattle.std.proofs.lemmas.Bool.{eqb-true}
use Rattle.std.proofs.lemmas.Bool.Decides.{nat_tests}
use Rattle.std.proofs.lemmas.List.FromFn.{length-range_with_len}
use Rattle.std.proofs.lemmas.List.Sums.{sum_by-cons}
use Rattle.std.specs.List.{range_with_len}
use Rattle.std.specs.Prelude.{nat_lt}
use Rattle.mem_geom.specs.Layout.{page_start}
use Rattle.pl_base.specs.declared.access.Kind.{Kind}
use Rattle.pl_base.specs.declared.access.Kind.TheVariants.{Fetch, Load, Store}
use Rattle.pl_base.specs.declared.refusal.No.TheVariants as no_is
use Rattle.pl_base.specs.declared.state.State.TheVariants as state_is
use Rattle.pl_base.specs.Pages.{first_twice}
use Rattle.pl_base.specs.Perms.{grants}
use Rattle.pl_base.specs.Refusals.{refuse, first_refusal}
use Rattle.pl_base.specs.Span.{span, overlaps, covers}
use Rattle.rv_pmp.specs.declared.rule.Rule.{Rule}
use Rattle.rv_pmp.specs.Pmp.{permits, permits_after, page_allowed}
use Rattle.rv_pmp.proofs.Pieces.{pieces_allowed-from}
use Rattle.pl_history.specs.declared.setup.SetupParts.{SetupParts}
use Rattle.pl_history.specs.Making.{first_barred, first_mapped, first_not_host, fork_refusal}
use Rattle.pl_history.specs.Monitor.{guard, host, number, is_host, maps_of, Monitor, free_number, first_owner}
use Rattle.pl_history.specs.Protection.{pmp_of, rule_at, off}
use Rattle.pl_history.proofs.CaseStates.{quiet, state}

-- five zones, of which pages 15 to 319 are the host's, but for page 300, which a shadow is made of; no entry of its own bars any
abbrev roomy : SetupParts
roomy = record quiet { zones = 5; pmp = [] }

abbrev free_pages : Monitor
free_pages = record state {
  owner = λ page. if page == 300 then Some (number 1) else first_owner roomy page;
  space = [];
  removals = [];
  number = λ e. if e == 1 then record free_number { state = state_is.Sealed; pages = 300 ∷ [] } else free_number;
}

-- ---- pages in a row

-- none of a row is found where none passes
find-none : (p : ℕ → Bool) (from n : ℕ) → ((page : ℕ) → from ≤ page → page < from + n → p page ≡ false) → find p (range_with_len from n) ≡ None
find-none p from zero none = refl
find-none p from (suc n) none =
    ap (λ (test : Bool). cond test (Some from) (find p (range_with_len (from + 1) n))) (none from (omega arith) (omega arith))
    ∙ find-none p (from + 1) n (λ page low high. none page (omega arith) (omega arith))

-- a page before a row isn't in it, and each stands in it once
count-before : (page from n : ℕ) → page < from → count_by (λ other. other == page) (range_with_len from n) ≡ 0
count-before page from zero before = refl
count-before page from (suc n) before =
    let other : (from == page) ≡ false = grind (arith, nat_tests) in
    sum_by-cons (λ (o : ℕ). cond (o == page) 1 0) from (range_with_len (from + 1) n)
    ∙ (λ i. cond (other i) 1 0 + count-before page (from + 1) n (omega arith) i)

count-once : (page from n : ℕ) → count_by (λ other. other == page) (range_with_len from n) ≤ 1
count-once page from zero = omega arith
count-once page from (suc n) =
    once (from == page) (eqb-true from page) (count-before page (from + 1) n) (count-once page (from + 1) n) (sum_by-cons (λ (o : ℕ). cond (o == page) 1 0) from (range_with_len (from + 1) n))
  where
    once : {all rest : ℕ} (test : Bool) → (test ≡ true → from ≡ page) → (page < from + 1 → rest ≡ 0) → rest ≤ 1 → all ≡ cond test 1 0 + rest → all ≤ 1
    once true same none few sum = let here = same refl in omega (arith, sum, none (omega arith))
    once false same none few sum = omega arith

module _ (n : ℕ) (fits : n ≤ 280) where
  abbrev row : List ℕ
  row = range_with_len 20 n

  none_twice : first_twice row ≡ None
  none_twice = find-none (λ page. nat_lt 1 (count_by (λ other. other == page) row)) 20 n (λ page low high. let once = count-once page 20 n in grind (arith, nat_tests))

  all_host : first_not_host free_pages row ≡ None
  all_host =
      find-none (λ page. not (is_host (free_pages.owner page))) 20 n
      (λ page low high.
      let other : (page == 300) ≡ false = grind (arith, nat_tests) in
      let open' : nat_lt page 15 ≡ false = grind (arith, nat_tests) in
      let there : nat_lt page 320 ≡ true = grind (arith, nat_tests) in
      λ i. not (is_host (if other i then Some (number 1) else (if open' i then Some guard else (if there i then Some host else None)))))

  none_mapped : first_mapped free_pages row ≡ None
  none_mapped = find-none (λ page. nat_lt 0 (maps_of free_pages page)) 20 n (λ page low high. refl)

-- ---- what the entries leave open

off_skips : (before address : ℕ) (rules : List Rule) (pa : ℕ) (kind : Kind) → permits_after before (rule_at off address ∷ rules) (span pa (pa + 8)) kind ≡ permits_after (address / 4) rules (span pa (pa + 8)) kind
off_skips before address rules pa kind =
    let apart : overlaps (span 0 0) (span pa (pa + 8)) ≡ false = grind (arith, nat_tests) in
    ap (λ (test : Bool). if test then covers (span 0 0) (span pa (pa + 8)) && grants (record { 0 = 0 }) kind else permits_after (address / 4) rules (span pa (pa + 8)) kind) apart

-- the entries from number 2 to 12 and then 13 are off; entry 14 opens the pages of all zones
abbrev opening_entry : List Rule
opening_entry = rule_at 15 (page_start 320) ∷ rule_at off 0 ∷ []

module _ (pa : ℕ) (kind : Kind) (low : page_start 15 ≤ pa) (high : pa + 8 ≤ page_start 320) where
  granted_each : (k : Kind) → grants (record { 0 = 7 }) k ≡ true
  granted_each Fetch = refl
  granted_each Load = refl
  granted_each Store = refl

  last_opens : permits_after 0x20000000 opening_entry (span pa (pa + 8)) kind ≡ true
  last_opens =
      let meets : overlaps (span 0x80000000 (page_start 320)) (span pa (pa + 8)) ≡ true = grind (arith, nat_tests) in
      let inside : covers (span 0x80000000 (page_start 320)) (span pa (pa + 8)) ≡ true = grind (arith, nat_tests) in
      λ i. if meets i then inside i && granted_each kind i else permits_after (page_start 320 / 4) (rule_at off 0 ∷ []) (span pa (pa + 8)) kind

  past_guarded : (rules : List Rule) → permits_after 0x20000000 (rule_at 9 (page_start 15) ∷ rules) (span pa (pa + 8)) kind ≡ permits_after (page_start 15 / 4) rules (span pa (pa + 8)) kind
  past_guarded rules =
      let apart : overlaps (span 0x80000000 (page_start 15)) (span pa (pa + 8)) ≡ false = grind (arith, nat_tests) in
      ap (λ (test : Bool). if test then covers (span 0x80000000 (page_start 15)) (span pa (pa + 8)) && grants (record { 0 = 1 }) kind else permits_after (page_start 15 / 4) rules (span pa (pa + 8)) kind) apart

  off_many : (n before : ℕ) (rules : List Rule) → permits_after before (replicate n (rule_at off 0) ++ (rule_at off (page_start 0) ∷ rules)) (span pa (pa + 8)) kind ≡ permits_after 0x20000000 rules (span pa (pa + 8)) kind
  off_many zero before rules = off_skips before (page_start 0) rules pa kind
  off_many (suc n) before rules = off_skips before 0 (replicate n (rule_at off 0) ++ (rule_at off (page_start 0) ∷ rules)) pa kind ∙ off_many n 0 rules

  opened : permits (pmp_of roomy) pa 8 kind ≡ true
  opened =
      off_skips 0 (page_start 0) (rule_at 9 (page_start 15) ∷ (replicate 11 (rule_at off 0) ++ (rule_at off (page_start 0) ∷ opening_entry))) pa kind
      ∙ past_guarded (replicate 11 (rule_at off 0) ++ (rule_at off (page_start 0) ∷ opening_entry))
      ∙ off_many 11 (page_start 15 / 4) opening_entry
      ∙ last_opens

none_barred : (n : ℕ) → n ≤ 280 → first_barred roomy (range_with_len 20 n) ≡ None
none_barred n fits =
    find-none (λ page. not (page_allowed (pmp_of roomy) page)) 20 n
    (λ page low high.
    ap not (pieces_allowed-from (pmp_of roomy) (page_start page) 512 (λ piece below kind. opened (page_start page + 8 * piece) kind (omega arith) (omega arith))))

-- ---- the number of pages decides

-- no cause that is tried earlier holds
row_refusal : (n : ℕ) → n ≤ 280 → fork_refusal roomy free_pages 1 0 (range_with_len 20 n) ≡ refuse (nat_lt 256 n) no_is.TooMany
row_refusal n fits =
    (λ i. first_refusal (None ∷ None ∷ option_map no_is.Twice (none_twice n fits i) ∷ option_map no_is.NotYours (all_host n fits i) ∷ option_map no_is.StillMapped (none_mapped n fits i)
    ∷ option_map no_is.Barred (none_barred n fits i) ∷ refuse (nat_lt 256 (length-range_with_len 20 n i)) no_is.TooMany ∷ []))
    ∙ one (nat_lt 256 n)
  where
    one : (test : Bool) → first_refusal (refuse test no_is.TooMany ∷ []) ≡ refuse test no_is.TooMany
    one true = refl
    one false = refl

too_many : fork_refusal roomy free_pages 1 0 (range_with_len 20 257) ≡ Some no_is.TooMany
too_many = row_refusal 257 (lit≤ tt)

as_many_as_may_be : fork_refusal roomy free_pages 1 0 (range_with_len 20 256) ≡ None
as_many_as_may_be = row_refusal 256 (lit≤ tt)
