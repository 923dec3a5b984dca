-- A number is refused exactly where it may not be made, and what then holds of its pages.
use Rattle.std.proofs.Common.{ℕ, ◌≡◌, ◌+◌, ◌*◌, ◌<◌, ◌≤◌, ◌==◌, length, Bool, true, false, not, cond, List, [], ◌∷◌, ◌++◌, All, find, get_or, slice_get, unwrap_or, Option, Some, None, option_map, refl, ap, sym, ◌∙◌, arith, inl, inr}
use Rattle.std.proofs.lemmas.Bool.{cases_lt, eqb-true}
use Rattle.std.proofs.lemmas.Bool.Decides.{nat_tests}
use Rattle.std.proofs.lemmas.List.{length-map}
use Rattle.std.proofs.lemmas.List.Elements.{All-cons, All-head, All-map, All-nil, All-tail, All-weaker}
use Rattle.std.proofs.lemmas.Option.{slice_get_within}
use Rattle.pl_base.specs.declared.refusal.No.{No}
use Rattle.pl_base.specs.declared.refusal.No.TheVariants.{Exists, Count, Twice, NotYours, StillMapped, Barred}
use Rattle.pl_base.specs.Pages.{first_twice}
use Rattle.pl_base.specs.Refusals.{first_refusal, refuse}
use Rattle.pl_base.specs.States.{is_free}
use Rattle.rv_pmp.specs.declared.rule.Rule.{Rule}
use Rattle.rv_pmp.specs.Pmp.{page_allowed}
use Rattle.mon_owner.specs.declared.owners.Owner.{Owner}
use Rattle.mon_owner.specs.declared.owners.Owner.TheVariants as owner
use Rattle.mon_owner.specs.Owners.{is_mapped, owner_at}
use Rattle.mon_enclave.specs.declared.enclave.Enclave.{Enclave}
use Rattle.mon_enclave.specs.declared.enclave.PageKind.{PageKind}
use Rattle.mon_enclave.specs.declared.enclave.PageKind.TheVariants.{Own}
use Rattle.mon_enclave.specs.Records.{enclave_at, page_number_of}
use Rattle.mon_life.specs.Laws.{BegunIsMaking, MayCreate, OthersAreRefused}
use Rattle.mon_life.specs.Making.{create_refusal_of, first_barred, first_mapped, first_not_host, is_host, page_refusals}

-- ---- tests and causes

-- where there is no refusal, no cause holds
pub no_cause : (cause : Option No) (later : List (Option No)) → first_refusal (cause ∷ later) ≡ None → (cause ≡ None) × (first_refusal later ≡ None)
no_cause (Some cause) later none = cc
no_cause None later none = (refl, none)

-- and the other way round
pub none_of : (cause : Option No) (later : List (Option No)) → cause ≡ None → first_refusal later ≡ None → first_refusal (cause ∷ later) ≡ None
none_of (Some cause) later none rest = cc
none_of None later none rest = rest

pub not_refused : (holds : Bool) (cause : No) → refuse (not holds) cause ≡ None → holds ≡ true
not_refused true cause none = refl
not_refused false cause none = cc

pub not_mapped : {A B : Type 0} → (f : A → B) (o : Option A) → option_map f o ≡ None → o ≡ None
not_mapped f (Some a) none = cc
not_mapped f None none = refl

not_found : (here : Bool) (page : ℕ) (later : Option ℕ) → cond here (Some page) later ≡ None → (here ≡ false) × (later ≡ None)
not_found true page later none = cc
not_found false page later none = (refl, none)

not_here : (here : Bool) (page : ℕ) (later : Option ℕ) → here ≡ false → later ≡ None → cond here (Some page) later ≡ None
not_here true page later fails none = cc
not_here false page later fails none = none

pub none_passes : (test : ℕ → Bool) (pages : List ℕ) → find test pages ≡ None → All (λ page. test page ≡ false) pages
none_passes test [] none = All-nil (λ page. test page ≡ false)
none_passes test (page ∷ pages) none =
    let parts = not_found (test page) page (find test pages) none in
    All-cons (λ p. test p ≡ false) page pages parts.0 (none_passes test pages parts.1)

pub finds_none : (test : ℕ → Bool) (pages : List ℕ) → All (λ page. test page ≡ false) pages → find test pages ≡ None
finds_none test [] fail = refl
finds_none test (page ∷ pages) fail =
    not_here (test page) page (find test pages) (All-head (λ p. test p ≡ false) page pages fail)
    (finds_none test pages (All-tail (λ p. test p ≡ false) page pages fail))

negated : (holds : Bool) → not holds ≡ false → holds ≡ true
negated true fails = refl
negated false fails = cc

-- ---- pages that may be taken

-- an owner that is the host, with no mappings
is_free_page : (found : Option Owner) → not (is_host (unwrap_or found owner.Guard)) ≡ false → is_mapped (unwrap_or found owner.Guard) ≡ false
    → found ≡ Some (owner.Host 0)
is_free_page None host unmapped = cc
is_free_page (Some owner.Guard) host unmapped = cc
is_free_page (Some (owner.Host maps)) host unmapped = let zero_maps : maps ≡ 0 = grind arith in ap (λ n. Some (owner.Host n)) zero_maps
is_free_page (Some (owner.Enclave e)) host unmapped = cc
is_free_page (Some (owner.Shadow e)) host unmapped = cc

are_free : (owners : List Owner) (pages : List ℕ) → first_not_host owners pages ≡ None → first_mapped owners pages ≡ None
    → All (λ page. slice_get owners page ≡ Some (owner.Host 0)) pages
are_free owners pages host unmapped = λ k d within.
    let hosts = none_passes (λ page. not (is_host (owner_at owners page))) pages host in
    let bare = none_passes (λ page. is_mapped (owner_at owners page)) pages unmapped in
    is_free_page (slice_get owners (get_or pages k d)) (hosts k d within) (bare k d within)

-- what refuses a list of pages, and then other causes
module _ (owners : List Owner) (rules : List Rule) (pages : List ℕ) (later : List (Option No)) where
  abbrev host : Option No
  host = option_map NotYours (first_not_host owners pages)

  abbrev mapped : Option No
  mapped = option_map StillMapped (first_mapped owners pages)

  abbrev closed : Option No
  closed = option_map Barred (first_barred rules pages)

  pub may_be_taken : first_refusal (page_refusals owners rules pages ++ later) ≡ None
      → All (λ page. slice_get owners page ≡ Some (owner.Host 0)) pages × All (λ page. page_allowed rules page ≡ true) pages × (first_refusal later ≡ None)
  may_be_taken none =
      let after_host = no_cause host (mapped ∷ closed ∷ later) none in
      let after_mapped = no_cause mapped (closed ∷ later) after_host.1 in
      let after_closed = no_cause closed later after_mapped.1 in
      let unbarred = none_passes (λ page. not (page_allowed rules page)) pages (not_mapped Barred (first_barred rules pages) after_closed.0) in (
        are_free owners pages (not_mapped NotYours (first_not_host owners pages) after_host.0) (not_mapped StillMapped (first_mapped owners pages) after_mapped.0),
        λ k d within. negated (page_allowed rules (get_or pages k d)) (unbarred k d within),
        after_closed.1,
      )

  pub taken_unless_later : All (λ page. slice_get owners page ≡ Some (owner.Host 0)) pages → All (λ page. page_allowed rules page ≡ true) pages → first_refusal later ≡ None
      → first_refusal (page_refusals owners rules pages ++ later) ≡ None
  taken_unless_later free unbarred none =
      let hosts : first_not_host owners pages ≡ None =
      finds_none (λ page. not (is_host (owner_at owners page))) pages (λ k d within. ap (λ found. not (is_host (unwrap_or found owner.Guard))) (free k d within)) in
      let bare : first_mapped owners pages ≡ None =
      finds_none (λ page. is_mapped (owner_at owners page)) pages (λ k d within. ap (λ found. is_mapped (unwrap_or found owner.Guard)) (free k d within)) in
      let none_closed : first_barred rules pages ≡ None =
      finds_none (λ page. not (page_allowed rules page)) pages (λ k d within. ap not (unbarred k d within)) in
      none_of host (mapped ∷ closed ∷ later) (ap (option_map NotYours) hosts)
      (none_of mapped (closed ∷ later) (ap (option_map StillMapped) bare) (none_of closed later (ap (option_map Barred) none_closed) none))

-- ---- refused exactly where it may not be made

module _ (owners : List Owner) (enclaves : List Enclave) (rules : List Rule) (image_pages e : ℕ) (pages : List ℕ) where
  abbrev state : Option No
  state = refuse (not (is_free (enclave_at enclaves e).state)) Exists

  abbrev count : Option No
  count = refuse (not (length pages == image_pages)) Count

  abbrev twice : Option No
  twice = option_map Twice (first_twice pages)

  pub may_create : create_refusal_of owners enclaves rules image_pages e pages ≡ None → MayCreate owners enclaves rules image_pages e pages
  may_create none =
      let after_state = no_cause state (count ∷ twice ∷ page_refusals owners rules pages) none in
      let after_count = no_cause count (twice ∷ page_refusals owners rules pages) after_state.1 in
      let after_twice = no_cause twice (page_refusals owners rules pages) after_count.1 in
      let taken = may_be_taken owners rules pages [] after_twice.1 in
      record {
        free = not_refused (is_free (enclave_at enclaves e).state) Exists after_state.0;
        count = eqb-true (length pages) image_pages (not_refused (length pages == image_pages) Count after_count.0);
        once = not_mapped Twice (first_twice pages) after_twice.0;
        host = taken.0;
        unbarred = taken.1;
      }

  pub not_refused_where_it_may : MayCreate owners enclaves rules image_pages e pages → create_refusal_of owners enclaves rules image_pages e pages ≡ None
  not_refused_where_it_may may =
      let same : (length pages == image_pages) ≡ true = (let counts = may.count in grind (arith, nat_tests)) in
      none_of state (count ∷ twice ∷ page_refusals owners rules pages) (ap (λ b. refuse (not b) Exists) may.free)
      (none_of count (twice ∷ page_refusals owners rules pages) (ap (λ b. refuse (not b) Count) same)
      (none_of twice (page_refusals owners rules pages) (ap (option_map Twice) may.once) (taken_unless_later owners rules pages [] may.host may.unbarred refl)))

  pub free_pages : create_refusal_of owners enclaves rules image_pages e pages ≡ None → All (λ page. slice_get owners page ≡ Some (owner.Host 0)) pages
  free_pages none = (may_create none).host

pub others_are_refused : OthersAreRefused
others_are_refused owners enclaves rules image_pages e pages =
    (may_create owners enclaves rules image_pages e pages, not_refused_where_it_may owners enclaves rules image_pages e pages)

-- ---- and its steps follow

pub begun_is_making : BegunIsMaking
begun_is_making owners enclaves rules tables e image pages low few number most few_pages perms room guarded may =
    let guard : ℕ = 2 + tables + 3 * length enclaves in
    let IsTaken : ℕ → Type 0 = λ page. slice_get owners page ≡ Some (owner.Host 0) in
    let above = λ (page : ℕ) (taken : IsTaken page). elim (cases_lt page guard) as (λ c. guard ≤ page) [
      | inl below ↦ absurd (let never : Some (owner.Host 0) ≡ Some owner.Guard = sym taken ∙ guarded page below in cc)
      | inr past ↦ past
    ] in
    let below = λ (page : ℕ) (taken : IsTaken page). slice_get_within owners page (owner.Host 0) taken in
    record {
      few_tables = low;
      few_numbers = few;
      number = number;
      few_pages = most;
      few = few_pages;
      count = length-map pages Own ∙ may.count;
      perms = perms;
      guarded = room;
      above = All-map (λ (kind : PageKind). guard ≤ page_number_of kind) Own pages (All-weaker IsTaken (λ page. guard ≤ page) above pages may.host);
      below = All-map (λ (kind : PageKind). page_number_of kind < length owners) Own pages (All-weaker IsTaken (λ page. page < length owners) below pages may.host);
    }
