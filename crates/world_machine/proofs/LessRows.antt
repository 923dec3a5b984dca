-- Each turn that moves leaves less to do, row by row: the lines that begin or are answered at once, and the numbers that are being made.
use Rattle.std.proofs.Common.{◌≡◌, ℕ, ◌+◌, ◌*◌, ◌<◌, ◌≤◌, Bool, true, false, if◌then◌else◌, List, [], length, Option, Some, None, slice_get, unwrap_or, refl, ap, subst, arith}
use Rattle.std.specs.Prelude.{slice_set}
use Rattle.std.proofs.Math.Nat.{le_refl}
use Rattle.std.proofs.lemmas.Bool.{false≢true}
use Rattle.pl_base.specs.declared.number.EncNo.{EncNo}
use Rattle.pl_base.specs.declared.place.Place.{Place}
use Rattle.pl_base.specs.declared.refusal.No.{No}
use Rattle.pl_base.specs.declared.refusal.No.TheVariants as refused
use Rattle.pl_base.specs.declared.state.State.{State}
use Rattle.pl_base.specs.declared.state.State.TheVariants as state_is
use Rattle.pl_base.specs.States.{is_free, is_sealed}
use Rattle.rv_hart.specs.declared.walks.Micro.TheVariants.{Fetching}
use Rattle.rv_hart.specs.declared.walks.Walk.TheVariants.{Start}
use Rattle.mem_ctl.specs.Data.{Again, Collision, CtlData, Fault, Outcome, Value, going}
use Rattle.mon_enclave.specs.declared.enclave.Enclave.{Enclave}
use Rattle.mon_enclave.specs.Records.{built, enclave_at, forked, freed, with_enclave}
use Rattle.mon_image.specs.declared.image.Image.{Image}
use Rattle.mon_life.specs.Making.{PagesTaken, taken_unless, create_begun, taker}
use Rattle.mon_life.specs.Putting.{CreatePut, create_put, steps_of}
use Rattle.mon_life.specs.Running.{RunBegun, entered, entered_unless, run_begun}
use Rattle.mon_owner.specs.declared.owners.Owner.{Owner}
use Rattle.mon_owner.specs.Owners.{given_to}
use Rattle.mon_shadow.specs.Dropping.{ShadowDropped, dropped_unless, shadow_dropped}
use Rattle.mon_shadow.specs.Forking.{fork_begun, fork_refusal_of}
use Rattle.mon_shadow.specs.Granting.{grant_made}
use Rattle.mon_shadow.proofs.ForkLemmas.{may_fork}
use Rattle.pl_history.specs.declared.answer.Answer.{Answer}
use Rattle.pl_history.specs.declared.answer.Answer.TheVariants as answer_is
use Rattle.pl_history.specs.declared.line.Line.{Line}
use Rattle.pl_history.specs.declared.line.Line.TheVariants as line_is
use Rattle.pl_history.specs.declared.setup.SetupParts.{SetupParts}
use Rattle.pl_history.specs.Protection.{pmp_of}
use Rattle.pl_history.specs.Rules.{IsSetup}
use Rattle.world_machine.specs.declared.under.Under.{Under}
use Rattle.world_machine.specs.declared.under.Under.TheVariants.{Idle, Putting, Running}
use Rattle.world_machine.specs.Answering.{answers, decided, goes_on}
use Rattle.world_machine.specs.GivingBack.{drops_shadow}
use Rattle.world_machine.specs.LinesUnderWay.{IsForking, LineUnderWay}
use Rattle.world_machine.specs.Making.{answers_by, begin_create, begin_fork, begins_unless, grants_page, image_of, put_next}
use Rattle.world_machine.specs.Running.{begin_run}
use Rattle.world_machine.specs.Runs.{break_cost, line_left, remaining, shared_count}
use Rattle.world_machine.specs.Standing.{Kept, state_of, written_page}
use Rattle.world_machine.specs.Talking.{changes_unless}
use Rattle.world_machine.specs.Worlds.{CollisionData, WorldData, answered_at, hart_line, under_at}
use Rattle.world_machine.proofs.BreaksLeft.{begun_shares, breaks_of, own_none, put_shares, shared_few, shares_more, shares_set, shares_stay}
use Rattle.world_machine.proofs.Lessens.{SharesNoMore, answered_less, collision_less, goes_by, goes_less, some_cost}
use Rattle.world_machine.proofs.MakeLines.{is_building, make_line}
use Rattle.world_machine.proofs.NeverAgain.{NeverAgain, step_never}
use Rattle.world_machine.proofs.SetupFacts.{image_few}

-- what an access decides
pub decided_less : {A : Type 0} (w left : WorldData) (then_gives : A → WorldData) (fault_gives : Place → WorldData) (o : Outcome A) → NeverAgain o
    → ((a : A) → remaining (then_gives a) < remaining w) → ((place : Place) → remaining (fault_gives place) < remaining w)
    → ((v : WorldData) (c : CollisionData) → v.collision ≡ Some c → remaining v < remaining w) → remaining (decided left then_gives fault_gives o) < remaining w
decided_less w left then_gives fault_gives (Value a) never value fault clash = value a
decided_less w left then_gives fault_gives (Fault place) never value fault clash = fault place
decided_less w left then_gives fault_gives (Collision place held written) never value fault clash = clash _ (record { place = place; held = held; written = written }) refl
decided_less w left then_gives fault_gives (Again taken root) never value fault clash = absurd never

pub either_less : (w : WorldData) (b : Bool) (x y : WorldData) → remaining x < remaining w → remaining y < remaining w → remaining (if b then x else y) < remaining w
either_less w true x y p q = p
either_less w false x y p q = q

-- an image of a setup has 256 pages at most, and what stands for one that there isn't has none
pages_few : (setup : SetupParts) (number : ℕ) → IsSetup setup → length (image_of setup number).pages ≤ 256
pages_few setup number rules = by_image (slice_get setup.images number) refl
  where
    by_image : (o : Option Image) → slice_get setup.images number ≡ o → length (unwrap_or o (record { entry = 0; pages = [] })).pages ≤ 256
    by_image None is = omega arith
    by_image (Some image) is = image_few setup number image rules is

sealed_used : (state : State) → is_sealed state ≡ true → is_free state ≡ false
sealed_used state_is.Sealed sealed = refl
sealed_used state sealed = absurd (false≢true sealed)

module _ (digest_of : List ℕ → List ℕ) (w : WorldData) (k : Kept digest_of w) (none : w.collision ≡ None) (hart : ℕ) (below : hart < w.setup.harts) where
  -- ---- lines that haven't begun

  module _ (line : Line) (here : hart_line w hart ≡ Some line) (idle : under_at w.under hart ≡ Idle) where
    pub answer_less : (v : WorldData) → v.setup ≡ w.setup → v.collision ≡ None → v.fences ≡ w.fences → SharesNoMore w v → v.under ≡ slice_set w.under hart Idle
        → v.answered ≡ slice_set w.answered hart (answered_at w.answered hart + 1) → remaining v < remaining w
    answer_less = answered_less digest_of w k none hart below line Idle here idle (some_cost w.setup line)

    pub begins_less : (o : Option No) (v : WorldData) (u : Under) → v.setup ≡ w.setup → v.collision ≡ None → v.fences ≡ w.fences → SharesNoMore w v
        → v.under ≡ w.under → v.answered ≡ w.answered → line_left w.setup (Some line) u < line_left w.setup (Some line) Idle → remaining (begins_unless o v hart u) < remaining w
    begins_less (Some cause) v u setup free fences shares under answered less =
        answer_less (begins_unless (Some cause) v hart u) setup free fences shares (ap (λ xs. slice_set xs hart Idle) under)
        (ap (λ xs. slice_set xs hart (answered_at xs hart + 1)) answered)
    begins_less None v u setup free fences shares under answered less =
        goes_less digest_of w k none hart below line Idle here idle (begins_unless None v hart u) u setup free fences shares (ap (λ xs. slice_set xs hart u) under) answered less

    pub changes_less : (o : Option No) (e : ℕ) (r : Enclave) (now : Answer) → r.pages ≡ (enclave_at w.enclaves e).pages
        → remaining (changes_unless o w hart e r now) < remaining w
    changes_less (Some cause) e r now same = answer_less _ refl none refl (le_refl _) refl refl
    changes_less None e r now same = answer_less _ refl none refl (shares_stay w.setup.harts w.enclaves e r same) refl refl

    -- a line that is answered at once
    answers_less : (o : Option No) (ctl : CtlData) (owners : List Owner) (enclaves : List Enclave) → breaks_of w.setup.harts enclaves ≤ breaks_of w.setup.harts w.enclaves
        → remaining (answers_by o (record w { ctl = ctl; owners = owners; enclaves = enclaves }) hart) < remaining w
    answers_less (Some cause) ctl owners enclaves shares = answer_less _ refl none refl shares refl refl
    answers_less None ctl owners enclaves shares = answer_less _ refl none refl shares refl refl

  pub grant_less : (e : EncNo) (page : ℕ) → hart_line w hart ≡ Some (line_is.Grant e page) → under_at w.under hart ≡ Idle
      → remaining (grants_page w hart e.0 page).world < remaining w
  unfolding grant_made
  grant_less e page here idle =
      let made : PagesTaken = grant_made w.owners w.enclaves (pmp_of w.setup) e.0 page in
      answers_less (line_is.Grant e page) here idle made.refusal w.ctl made.owners made.enclaves
      (begun_shares w.setup.harts w.enclaves _ w.owners (given_to w.owners _ (taker e.0 false)) _ (shares_stay w.setup.harts w.enclaves e.0 _ refl))

  pub drop_less : (shadow : EncNo) → hart_line w hart ≡ Some (line_is.Drop shadow) → under_at w.under hart ≡ Idle
      → remaining (drops_shadow w hart shadow.0).world < remaining w
  unfolding shadow_dropped
  drop_less shadow here idle =
      let dropped : ShadowDropped = shadow_dropped w.ctl w.owners w.enclaves shadow.0 in
      answers_less (line_is.Drop shadow) here idle dropped.refusal dropped.ctl dropped.owners dropped.enclaves (shares _)
    where
      shares : (o : Option No) → breaks_of w.setup.harts (dropped_unless o w.ctl w.owners w.enclaves shadow.0).enclaves ≤ breaks_of w.setup.harts w.enclaves
      shares (Some cause) = le_refl _
      shares None = shares_set w.setup.harts w.enclaves shadow.0 (freed (enclave_at w.enclaves shadow.0)) (omega arith)

  -- ---- `run` and `resume` begin

  pub begin_run_less : (first : Bool) (e : EncNo) (line : Line) → hart_line w hart ≡ Some line → under_at w.under hart ≡ Idle
      → line_left w.setup (Some line) (Running (Fetching Start) 0) < line_left w.setup (Some line) Idle → remaining (begin_run w hart e.0 first).world < remaining w
  unfolding run_begun
  begin_run_less first e line here idle less =
      let begun : RunBegun = run_begun w.enclaves (record { 0 = hart }) e.0 first in
      begins_less line here idle begun.refusal (record w { enclaves = begun.enclaves }) (Running (Fetching Start) 0) refl none refl (shares _) refl refl less
    where
      on : List Enclave
      on = entered w.enclaves (record { 0 = hart }) e.0

      shares : (o : Option No) → breaks_of w.setup.harts (entered_unless o w.enclaves on).enclaves ≤ breaks_of w.setup.harts w.enclaves
      shares (Some cause) = le_refl _
      shares None = shares_stay w.setup.harts w.enclaves e.0 _ refl

  -- ---- `create` and `shadow`

  begun_costs : (shadow : Bool) (e : EncNo) (image : ℕ) (pages : List ℕ)
      → line_left w.setup (Some (make_line shadow e image pages)) (Putting 0) < line_left w.setup (Some (make_line shadow e image pages)) Idle
  begun_costs true e image pages = omega arith
  begun_costs false e image pages = omega arith

  pub begin_create_less : (shadow : Bool) (e : EncNo) (image : ℕ) (pages : List ℕ) → hart_line w hart ≡ Some (make_line shadow e image pages)
      → under_at w.under hart ≡ Idle → remaining (begin_create w hart e.0 image pages shadow).world < remaining w
  unfolding create_begun
  begin_create_less shadow e image pages here idle =
      let begun : PagesTaken = create_begun w.owners w.enclaves (pmp_of w.setup) e.0 image (image_of w.setup image) pages shadow in
      let own : count_of_own ≤ shared_count (enclave_at w.enclaves e.0) = (let n = own_none pages in omega arith) in
      begins_less (make_line shadow e image pages) here idle begun.refusal (record w { owners = begun.owners; enclaves = begun.enclaves }) (Putting 0) refl none refl
      (begun_shares w.setup.harts w.enclaves _ w.owners (given_to w.owners pages (taker e.0 shadow)) _ (shares_set w.setup.harts w.enclaves e.0 _ own))
      refl refl (begun_costs shadow e image pages)
    where
      count_of_own : ℕ
      count_of_own = shared_count (built image (image_of w.setup image) pages (enclave_at w.enclaves e.0))

  -- one page more of a number that is being made is put
  module _ (line : Line) (here : hart_line w hart ≡ Some line) (done : ℕ) (so_far : under_at w.under hart ≡ Putting done) (positions : List ℕ)
      (more : line_left w.setup (Some line) (Putting (done + 1)) < line_left w.setup (Some line) (Putting done)) where
    some_left : 0 < line_left w.setup (Some line) (Putting done)
    some_left = let m : line_left w.setup (Some line) (Putting (done + 1)) < line_left w.setup (Some line) (Putting done) = more in omega arith

    module _ (e image : ℕ) (shadow : Bool) where
      abbrev step : CreatePut
      step = create_put digest_of w.setup.tables e (image_of w.setup image) shadow done w.enclaves (going w.ctl positions)

      abbrev left : WorldData
      left = record w { ctl = step.put.after.ctl; enclaves = step.enclaves }

      shares : breaks_of w.setup.harts step.enclaves ≤ breaks_of w.setup.harts w.enclaves
      unfolding create_put
      shares = put_shares w.setup.harts w.enclaves _ shadow e

      put_less : remaining (put_next digest_of w hart positions e image shadow done).world < remaining w
      put_less =
          let ends_less = answered_less digest_of w k none hart below line (Putting done) here so_far some_left in
          decided_less w left (λ last. if last then answers left hart answer_is.Ok else goes_on left hart (Putting (done + 1)))
          (λ place. answers left hart (answer_is.No (refused.Fault place))) step.put.outcome (step_never digest_of w.setup.tables e (image_of w.setup image) shadow done w.enclaves (going w.ctl positions))
          (λ last. either_less w last (answers left hart answer_is.Ok) (goes_on left hart (Putting (done + 1)))
          (ends_less (answers left hart answer_is.Ok) refl none refl shares refl refl)
          (goes_less digest_of w k none hart below line (Putting done) here so_far (goes_on left hart (Putting (done + 1))) (Putting (done + 1))
          refl none refl shares refl refl more))
          (λ place. ends_less (answers left hart (answer_is.No (refused.Fault place))) refl none refl shares refl refl)
          (collision_less digest_of w k none hart below line (Putting done) here so_far some_left)

  -- what is so far of a line that stands
  pub stands_so : (line : Line) (under : Under) → hart_line w hart ≡ Some line → under_at w.under hart ≡ under
      → LineUnderWay w.setup (written_page w) (enclave_at w.enclaves) (state_of w).number hart (Some line) under
  stands_so line under here so_far =
      subst (LineUnderWay w.setup (written_page w) (enclave_at w.enclaves) (state_of w).number hart (Some line)) so_far
      (subst (λ l. LineUnderWay w.setup (written_page w) (enclave_at w.enclaves) (state_of w).number hart l (under_at w.under hart)) here (k.stands.lines hart))

  pub make_less : (shadow : Bool) (e : EncNo) (image : ℕ) (pages : List ℕ) (done : ℕ) → hart_line w hart ≡ Some (make_line shadow e image pages)
      → under_at w.under hart ≡ Putting done → (positions : List ℕ) → remaining (put_next digest_of w hart positions e.0 image shadow done).world < remaining w
  make_less shadow e image pages done here so_far positions =
      let building = is_building e image pages w.setup (written_page w) (enclave_at w.enclaves) (state_of w).number hart done shadow (stands_so _ _ here so_far) in
      put_less (make_line shadow e image pages) here done so_far positions (more shadow building.putting.few) e.0 image shadow
    where
      more : (b : Bool) → done < steps_of b (length (image_of w.setup image).pages)
          → line_left w.setup (Some (make_line b e image pages)) (Putting (done + 1)) < line_left w.setup (Some (make_line b e image pages)) (Putting done)
      more true few = let f : done < length (image_of w.setup image).pages = few in omega arith
      more false few = let f : done < length (image_of w.setup image).pages + 3 = few in omega arith

  -- ---- `fork`

  module _ (shadow e : EncNo) (pages : List ℕ) (here : hart_line w hart ≡ Some (line_is.Fork shadow e pages)) where
    -- the line has cost the breaks of all pages that the number shares
    module _ (idle : under_at w.under hart ≡ Idle) (done : ℕ) where
      abbrev making : List Enclave
      making = with_enclave w.enclaves e.0 (forked shadow (enclave_at w.enclaves shadow.0) pages (enclave_at w.enclaves e.0))

      breaks_more : fork_refusal_of w.owners w.enclaves (pmp_of w.setup) shadow.0 e.0 pages ≡ None
          → breaks_of w.setup.harts making ≤ breaks_of w.setup.harts w.enclaves + 256 * break_cost w.setup.harts
      breaks_more none =
          let may = may_fork w.owners w.enclaves (pmp_of w.setup) shadow.0 e.0 pages none in
          let source : Enclave = enclave_at w.enclaves shadow.0 in
          let stands = k.stands.enclaves shadow.0 (sealed_used source.state may.sealed) in
          let few = image_few w.setup source.image stands.image k.sizes.rules stands.image_is in
          shares_more w.setup.harts w.enclaves e.0 (forked shadow source pages (enclave_at w.enclaves e.0)) 256 (omega (arith, stands.held.count, few, shared_few source.pages))

      begun_less : (o : Option No) → fork_refusal_of w.owners w.enclaves (pmp_of w.setup) shadow.0 e.0 pages ≡ o → (taken : List Owner)
          → let begun : PagesTaken = taken_unless o w.owners w.enclaves taken making in
          remaining (begins_unless begun.refusal (record w { owners = begun.owners; enclaves = begun.enclaves }) hart (Putting done)) < remaining w
      begun_less (Some cause) is taken = answer_less (line_is.Fork shadow e pages) here idle _ refl none refl (le_refl _) refl refl
      begun_less None is taken =
          goes_by digest_of w k none hart below (line_is.Fork shadow e pages) Idle here idle _ (Putting done) refl none refl refl (let more = breaks_more is in omega arith)

    pub begin_fork_less : under_at w.under hart ≡ Idle → remaining (begin_fork w hart shadow e.0 pages).world < remaining w
    unfolding fork_begun
    begin_fork_less idle = begun_less idle _ _ refl _

    pub fork_less : (done : ℕ) → under_at w.under hart ≡ Putting done → (positions : List ℕ)
        → remaining (put_next digest_of w hart positions e.0 (enclave_at w.enclaves e.0).image false done).world < remaining w
    fork_less done so_far positions =
        let forking : IsForking w.setup (written_page w) (enclave_at w.enclaves e.0) e.0 done = stands_so (line_is.Fork shadow e pages) (Putting done) here so_far in
        let few = pages_few w.setup (enclave_at w.enclaves e.0).image k.sizes.rules in
        put_less (line_is.Fork shadow e pages) here done so_far positions (omega (arith, few, forking.putting.few)) e.0 (enclave_at w.enclaves e.0).image false
