-- Each event leaves less to do.
use Rattle.std.proofs.Common.{◌≡◌, ◌≢◌, ℕ, zero, suc, ◌+◌, ◌-◌, ◌<◌, ◌≤◌, if◌then◌else◌, List, [], ◌∷◌, length, drop, slice_get, sum_by, Some, None, is_some, refl, sym, ap, ◌∙◌, subst, arith}
use Rattle.std.specs.Prelude.{slice_set}
use Rattle.std.specs.List.{range_with_len}
use Rattle.std.proofs.lemmas.List.Sums.{sum_by-cons}
use Rattle.pl_history.specs.declared.line.Line.{Line}
use Rattle.pl_history.specs.declared.line.Line.TheVariants as line_is
use Rattle.pl_history.specs.declared.setup.SetupParts.{SetupParts}
use Rattle.pl_history.specs.Monitor.{script_of}
use Rattle.world_attack.proofs.RoomLemmas.{term_of_sum}
use Rattle.world_machine.specs.declared.under.Under.{Under}
use Rattle.world_machine.specs.declared.under.Under.TheVariants.{Idle}
use Rattle.world_machine.specs.Runs.{attacker_left, cost_of, fences_left, hart_left, line_left, remaining}
use Rattle.world_machine.specs.Standing.{Kept}
use Rattle.world_machine.specs.Worlds.{CollisionData, WorldData, answered_at, hart_line, under_at}
use Rattle.world_machine.proofs.BreaksLeft.{breaks_of}
use Rattle.world_machine.proofs.FencesLeft.{needs_left}
use Rattle.world_machine.proofs.Lists.{ChangedAt, changed_none, changed_set}
use Rattle.world_machine.proofs.Sums.{sum_changes}

-- a line's cost, and that of the lines after it
costs_at : (setup : SetupParts) (lines : List Line) (i : ℕ) → line_left setup (slice_get lines i) Idle + sum_by (cost_of setup) (drop (suc i) lines) ≡ sum_by (cost_of setup) (drop i lines)
costs_at setup [] zero = refl
costs_at setup [] (suc i) = refl
costs_at setup (line ∷ lines) zero = sym (sum_by-cons (cost_of setup) line lines)
costs_at setup (line ∷ lines) (suc i) = costs_at setup lines i

pub some_cost : (setup : SetupParts) (line : Line) → 0 < cost_of setup line
some_cost setup (line_is.Load va) = omega arith
some_cost setup (line_is.Store va word) = omega arith
some_cost setup (line_is.Unmap va) = omega arith
some_cost setup (line_is.Destroy e) = omega arith
some_cost setup (line_is.Create e image pages) = omega arith
some_cost setup (line_is.Shadow e image pages) = omega arith
some_cost setup (line_is.Fork shadow e pages) = omega arith
some_cost setup (line_is.Run e budget) = omega arith
some_cost setup (line_is.Resume e budget) = omega arith
some_cost setup line = omega arith

-- what is left of a hart whose lines are answered and begun so far
abbrev pub left_of : SetupParts → ℕ → Under → ℕ → ℕ
left_of setup hart u count = line_left setup (slice_get (script_of setup hart) count) u + sum_by (cost_of setup) (drop (count + 1) (script_of setup hart))

-- all that is left, where no collision is kept
abbrev pub all_left : WorldData → ℕ
all_left w = sum_by (hart_left w) (range_with_len 0 w.setup.harts) + fences_left w + attacker_left w + breaks_of w.setup.harts w.enclaves

pub remaining_is : (w : WorldData) → w.collision ≡ None → remaining w ≡ all_left w
unfolding remaining breaks_of
remaining_is w none = ap (λ o. if is_some o then 0 else all_left w) none

pub none_left : (w : WorldData) (c : CollisionData) → w.collision ≡ Some c → remaining w ≡ 0
unfolding remaining breaks_of
none_left w c kept = ap (λ o. if is_some o then 0 else all_left w) kept

-- what the fences and the breaks come to
abbrev pub besides : ℕ → WorldData → ℕ
besides harts v = needs_left harts v.fences + breaks_of harts v.enclaves

-- the breaks that may still be made cost no more
abbrev pub SharesNoMore : WorldData → WorldData → Type 0
SharesNoMore w v = breaks_of w.setup.harts v.enclaves ≤ breaks_of w.setup.harts w.enclaves

module _ (digest_of : List ℕ → List ℕ) (w : WorldData) (k : Kept digest_of w) (none : w.collision ≡ None) (hart : ℕ) (below : hart < w.setup.harts) where
  not_attacker : w.setup.harts ≢ hart
  not_attacker same = let h : w.setup.harts ≡ hart = same in omega arith

  -- an event that changes how far this hart is, what the fences need and which pages are shared, and leaves less of all together
  module _ (v : WorldData) (setup : v.setup ≡ w.setup) (free : v.collision ≡ None) (u : Under) (count : ℕ)
      (under : ChangedAt Idle w.under v.under hart u) (answered : ChangedAt 0 w.answered v.answered hart count)
      (falls : left_of w.setup hart u count + besides w.setup.harts v < hart_left w hart + besides w.setup.harts w) where
    now_left : (h : ℕ) → hart_left v h ≡ left_of w.setup h (under_at v.under h) (answered_at v.answered h)
    now_left h = ap (λ (p : SetupParts). left_of p h (under_at v.under h) (answered_at v.answered h)) setup

    own_left : hart_left v hart ≡ left_of w.setup hart u count
    own_left = now_left hart ∙ ap (λ x. left_of w.setup hart x (answered_at v.answered hart)) under.here ∙ ap (left_of w.setup hart u) answered.here

    other_left : (h : ℕ) → h ≢ hart → hart_left v h ≡ hart_left w h
    other_left h other = now_left h ∙ ap (λ x. left_of w.setup h x (answered_at v.answered h)) (under.others h other) ∙ ap (left_of w.setup h (under_at w.under h)) (answered.others h other)

    attackers_left : attacker_left v ≡ attacker_left w
    attackers_left =
        ap (λ (p : SetupParts). length p.attacker - answered_at v.answered p.harts) setup
        ∙ ap (λ n. length w.setup.attacker - n) (answered.others w.setup.harts not_attacker)

    pub falls_to : remaining v < remaining w
    falls_to =
        let new : remaining v ≡ all_left v = remaining_is v free in
        let old : remaining w ≡ all_left w = remaining_is w none in
        let same : sum_by (hart_left v) (range_with_len 0 v.setup.harts) ≡ sum_by (hart_left v) (range_with_len 0 w.setup.harts)
        = ap (λ (p : SetupParts). sum_by (hart_left v) (range_with_len 0 p.harts)) setup in
        let sums : sum_by (hart_left v) (range_with_len 0 w.setup.harts) + hart_left w hart ≤ sum_by (hart_left w) (range_with_len 0 w.setup.harts) + hart_left v hart
        = sum_changes (hart_left w) (hart_left v) hart 0 w.setup.harts (omega arith) (omega arith) other_left in
        let fences : fences_left v ≡ needs_left w.setup.harts v.fences = ap (λ (p : SetupParts). needs_left p.harts v.fences) setup in
        let own : hart_left v hart ≡ left_of w.setup hart u count = own_left in
        let attackers : attacker_left v ≡ attacker_left w = attackers_left in
        let breaks : breaks_of v.setup.harts v.enclaves ≡ breaks_of w.setup.harts v.enclaves = ap (λ (p : SetupParts). breaks_of p.harts v.enclaves) setup in
        let less : left_of w.setup hart u count + besides w.setup.harts v < hart_left w hart + besides w.setup.harts w = falls in
        omega arith

  pub hart_there : hart < length w.under
  hart_there = let n : length w.under ≡ w.setup.harts = k.sizes.harts in omega arith

  actor_there : hart < length w.answered
  actor_there = let n : length w.answered ≡ w.setup.harts + 1 = k.sizes.actors in omega arith

  module _ (line : Line) (under : Under) (here : hart_line w hart ≡ Some line) (so_far : under_at w.under hart ≡ under) where
    abbrev later : ℕ
    later = sum_by (cost_of w.setup) (drop (answered_at w.answered hart + 1) (script_of w.setup hart))

    left_is : hart_left w hart ≡ line_left w.setup (Some line) under + later
    left_is = ap (λ l. line_left w.setup l (under_at w.under hart) + later) here ∙ ap (λ x. line_left w.setup (Some line) x + later) so_far

    -- the line is answered, and fences and breaks come to less than it had left besides what they came to
    pub answered_by : (v : WorldData) → v.setup ≡ w.setup → v.collision ≡ None → v.under ≡ slice_set w.under hart Idle
        → v.answered ≡ slice_set w.answered hart (answered_at w.answered hart + 1)
        → besides w.setup.harts v < line_left w.setup (Some line) under + besides w.setup.harts w → remaining v < remaining w
    answered_by v setup free under_is answered_is less =
        falls_to v setup free Idle (answered_at w.answered hart + 1)
        (subst (λ xs. ChangedAt Idle w.under xs hart Idle) (sym under_is) (changed_set Idle w.under hart Idle hart_there))
        (subst (λ xs. ChangedAt 0 w.answered xs hart (answered_at w.answered hart + 1)) (sym answered_is) (changed_set 0 w.answered hart (answered_at w.answered hart + 1) actor_there))
        (let next : line_left w.setup (slice_get (script_of w.setup hart) (answered_at w.answered hart + 1)) Idle + sum_by (cost_of w.setup) (drop (suc (answered_at w.answered hart + 1)) (script_of w.setup hart)) ≡ later
        = costs_at w.setup (script_of w.setup hart) (answered_at w.answered hart + 1) in
        let same : sum_by (cost_of w.setup) (drop (answered_at w.answered hart + 1 + 1) (script_of w.setup hart)) ≡ sum_by (cost_of w.setup) (drop (suc (answered_at w.answered hart + 1)) (script_of w.setup hart))
        = ap (λ n. sum_by (cost_of w.setup) (drop n (script_of w.setup hart))) (let h : answered_at w.answered hart + 1 + 1 ≡ suc (answered_at w.answered hart + 1) = omega arith in h) in
        let l : hart_left w hart ≡ line_left w.setup (Some line) under + later = left_is in
        omega arith)

    -- the line begins, or goes on, and less is left of it, of the fences and of the breaks together
    pub goes_by : (v : WorldData) (u : Under) → v.setup ≡ w.setup → v.collision ≡ None → v.under ≡ slice_set w.under hart u → v.answered ≡ w.answered
        → line_left w.setup (Some line) u + besides w.setup.harts v < line_left w.setup (Some line) under + besides w.setup.harts w → remaining v < remaining w
    goes_by v u setup free under_is answered_is less =
        falls_to v setup free u (answered_at w.answered hart)
        (subst (λ xs. ChangedAt Idle w.under xs hart u) (sym under_is) (changed_set Idle w.under hart u hart_there))
        (subst (λ xs. ChangedAt 0 w.answered xs hart (answered_at w.answered hart)) (sym answered_is) (changed_none 0 w.answered hart))
        (let own : left_of w.setup hart u (answered_at w.answered hart) ≡ line_left w.setup (Some line) u + later = ap (λ l. line_left w.setup l u + later) here in
        let l : hart_left w hart ≡ line_left w.setup (Some line) under + later = left_is in
        omega arith)

    -- with the fences as they were, and no more pages shared
    pub goes_less : (v : WorldData) (u : Under) → v.setup ≡ w.setup → v.collision ≡ None → v.fences ≡ w.fences → SharesNoMore w v
        → v.under ≡ slice_set w.under hart u → v.answered ≡ w.answered → line_left w.setup (Some line) u < line_left w.setup (Some line) under → remaining v < remaining w
    goes_less v u setup free fences shares under_is answered_is less =
        let fewer : breaks_of w.setup.harts v.enclaves ≤ breaks_of w.setup.harts w.enclaves = shares in
        goes_by v u setup free under_is answered_is (let same : needs_left w.setup.harts v.fences ≡ fences_left w = ap (needs_left w.setup.harts) fences in omega arith)

    module _ (some : 0 < line_left w.setup (Some line) under) where
      pub answered_less : (v : WorldData) → v.setup ≡ w.setup → v.collision ≡ None → v.fences ≡ w.fences → SharesNoMore w v
          → v.under ≡ slice_set w.under hart Idle → v.answered ≡ slice_set w.answered hart (answered_at w.answered hart + 1) → remaining v < remaining w
      answered_less v setup free fences shares under_is answered_is =
          let fewer : breaks_of w.setup.harts v.enclaves ≤ breaks_of w.setup.harts w.enclaves = shares in
          answered_by v setup free under_is answered_is (let same : needs_left w.setup.harts v.fences ≡ fences_left w = ap (needs_left w.setup.harts) fences in omega arith)

      -- a collision is kept, and nothing is left
      pub collision_less : (v : WorldData) (c : CollisionData) → v.collision ≡ Some c → remaining v < remaining w
      collision_less v c kept =
          let new : remaining v ≡ 0 = none_left v c kept in
          let old : remaining w ≡ all_left w = remaining_is w none in
          let one : hart_left w hart ≤ sum_by (hart_left w) (range_with_len 0 w.setup.harts) = term_of_sum (hart_left w) hart 0 w.setup.harts (omega arith) (omega arith) in
          let l : hart_left w hart ≡ line_left w.setup (Some line) under + later = left_is in
          omega arith
