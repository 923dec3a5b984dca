-- What the breaks that may still be made cost: no more with fewer shared pages, less at each break, more at a fork.
use Rattle.std.proofs.Common.{◌≡◌, ℕ, ◌+◌, ◌*◌, ◌≤◌, true, false, cond, List, [], ◌∷◌, length, map, sum_by, slice_get, Option, Some, None, refl, ap, arith}
use Rattle.std.specs.Prelude.{count_by, unwrap_or}
use Rattle.std.proofs.Math.Nat.{mul-le-mul_left}
use Rattle.std.proofs.lemmas.List.{length-map}
use Rattle.std.proofs.lemmas.List.Sums.{count_by-le-length, sum_by-cons}
use Rattle.pl_base.specs.declared.refusal.No.{No}
use Rattle.mem_ctl.specs.Data.{Again, Collision, Fault, Outcome, Value}
use Rattle.mon_enclave.specs.declared.enclave.Enclave.{Enclave}
use Rattle.mon_enclave.specs.declared.enclave.PageKind.{PageKind}
use Rattle.mon_enclave.specs.declared.enclave.PageKind.TheVariants.{Own, Shared}
use Rattle.mon_enclave.specs.Records.{as_shared, enclave_at, free_enclave, is_shared, next_spare, with_enclave, with_own_page}
use Rattle.mon_life.specs.Making.{taken_unless}
use Rattle.mon_life.specs.Putting.{enclaves_after}
use Rattle.mon_owner.specs.declared.owners.Owner.{Owner}
use Rattle.world_machine.specs.Runs.{break_cost, shared_count}
use Rattle.world_machine.proofs.Sums.{set_at_most, set_falls}

-- what the breaks of all pages that these records share cost
unfoldable pub breaks_of : ℕ → List Enclave → ℕ
breaks_of harts enclaves = break_cost harts * sum_by shared_count enclaves

times_more : (c a b m : ℕ) → a ≤ b + m → c * a ≤ c * b + m * c
times_more c a b m more = omega (arith, mul-le-mul_left c more)

times_one : (c a b : ℕ) → a + 1 ≤ b → c * a + c ≤ c * b
times_one c a b less = omega (arith, mul-le-mul_left c less)

-- ---- one record changes

module _ (harts : ℕ) (all : List Enclave) (e : ℕ) (now : Enclave) where
  -- to one that shares no more pages
  pub shares_set : shared_count now ≤ shared_count (enclave_at all e) → breaks_of harts (with_enclave all e now) ≤ breaks_of harts all
  unfolding breaks_of
  shares_set fewer =
      let less : sum_by shared_count (with_enclave all e now) + 0 ≤ sum_by shared_count all
      = set_falls shared_count all e now free_enclave 0 refl (let f : shared_count now ≤ shared_count (enclave_at all e) = fewer in omega arith) in
      mul-le-mul_left (break_cost harts) (let l : sum_by shared_count (with_enclave all e now) ≤ sum_by shared_count all = omega arith in l)

  -- to one with the same pages
  pub shares_stay : now.pages ≡ (enclave_at all e).pages → breaks_of harts (with_enclave all e now) ≤ breaks_of harts all
  shares_stay same = shares_set (let s : shared_count now ≡ shared_count (enclave_at all e) = ap (count_by is_shared) same in omega arith)

  -- to one that shares so many pages at most
  pub shares_more : (most : ℕ) → shared_count now ≤ most → breaks_of harts (with_enclave all e now) ≤ breaks_of harts all + most * break_cost harts
  unfolding breaks_of
  shares_more most few =
      let more : sum_by shared_count (with_enclave all e now) ≤ sum_by shared_count all + shared_count now = set_at_most shared_count all e now in
      let f : shared_count now ≤ most = few in
      times_more (break_cost harts) (sum_by shared_count (with_enclave all e now)) (sum_by shared_count all) most (omega arith)

-- a shared page is broken: it is the number's own
pub breaks_one : (harts : ℕ) (all : List Enclave) (e index page : ℕ) → slice_get (enclave_at all e).pages index ≡ Some (Shared page)
    → breaks_of harts (with_enclave all e (with_own_page (enclave_at all e) index)) + break_cost harts ≤ breaks_of harts all
unfolding breaks_of
breaks_one harts all e index page there =
    let one : PageKind → ℕ = λ kind. cond (is_shared kind) 1 0 in
    let r : Enclave = enclave_at all e in
    let was : one (unwrap_or (slice_get r.pages index) (Own 0)) ≡ 1 = ap (λ o. one (unwrap_or o (Own 0))) there in
    let fewer : shared_count (with_own_page r index) + 1 ≤ shared_count r = set_falls one r.pages index (Own (next_spare r)) (Own 0) 1 refl (omega arith) in
    times_one (break_cost harts) (sum_by shared_count (with_enclave all e (with_own_page r index))) (sum_by shared_count all)
    (set_falls shared_count all e (with_own_page r index) free_enclave 1 refl fewer)

-- ---- records whose number is made

pub own_none : (pages : List ℕ) → count_by is_shared (map Own pages) ≡ 0
own_none [] = refl
own_none (page ∷ pages) = omega (arith, sum_by-cons (λ kind. cond (is_shared kind) 1 0) (Own page) (map Own pages), own_none pages)

pub shared_few : (kinds : List PageKind) → count_by is_shared (map as_shared kinds) ≤ length kinds
shared_few kinds = omega (arith, count_by-le-length is_shared (map as_shared kinds), length-map kinds as_shared)

module _ (harts : ℕ) (all : List Enclave) where
  -- a line that is refused changes no record
  pub begun_shares : (refusal : Option No) (owners taken : List Owner) (making : List Enclave) → breaks_of harts making ≤ breaks_of harts all
      → breaks_of harts (taken_unless refusal owners all taken making).enclaves ≤ breaks_of harts all
  begun_shares (Some cause) owners taken making fewer = omega arith
  begun_shares None owners taken making fewer = fewer

  pub put_shares : (o : Outcome _) (shadow : _) (e : ℕ) → breaks_of harts (enclaves_after o shadow all e) ≤ breaks_of harts all
  put_shares (Value true) shadow e = shares_stay harts all e _ refl
  put_shares (Value false) shadow e = omega arith
  put_shares (Fault place) shadow e = shares_stay harts all e _ refl
  put_shares (Collision place held written) shadow e = omega arith
  put_shares (Again taken root) shadow e = omega arith
