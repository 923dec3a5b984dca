-- Each turn of the host's accesses and mappings leaves less to do, row by row, and so does each acknowledgement.
use Rattle.std.proofs.Common.{◌≡◌, ℕ, ◌+◌, ◌-◌, ◌*◌, ◌%◌, ◌<◌, ◌≤◌, ◌==◌, true, List, length, Option, Some, None, refl, ap, arith}
use Rattle.std.specs.Prelude.{slice_set, Result, Ok, Err}
use Rattle.std.proofs.Math.Nat.{le_refl}
use Rattle.std.proofs.lemmas.Bool.{false≢true}
use Rattle.pl_base.specs.declared.address.Pa.{Pa}
use Rattle.pl_base.specs.declared.address.Va.{Va}
use Rattle.pl_base.specs.declared.number.Space.{Space}
use Rattle.pl_base.specs.declared.perms.Perms.{Perms}
use Rattle.pl_base.specs.declared.refusal.No.{No}
use Rattle.pl_base.specs.declared.refusal.No.TheVariants as refused
use Rattle.mem_ctl.specs.Calls.{read_word_of}
use Rattle.mem_ctl.specs.Data.{After, CtlData, going}
use Rattle.mon_fence.proofs.Needs.{first_needs}
use Rattle.mon_fence.specs.declared.fences.Fence.{Fence}
use Rattle.mon_fence.specs.Fences.{fence_of, needs}
use Rattle.mon_host.specs.Leaves.{HostEvent}
use Rattle.mon_host.specs.Mapping.{map_of}
use Rattle.mon_host.specs.Unmapping.{unmap_begun, unmap_ended}
use Rattle.mon_owner.specs.declared.owners.Owner.{Owner}
use Rattle.rv_hart.specs.declared.walks.Walk.{Walk}
use Rattle.rv_hart.specs.declared.walks.Walk.TheVariants.{Start}
use Rattle.rv_hart.specs.Learning.{learned, tlb_after}
use Rattle.rv_pmp.specs.Pmp.{permits}
use Rattle.pl_history.specs.declared.answer.Answer.TheVariants as answer_is
use Rattle.pl_history.specs.declared.line.Line.{Line}
use Rattle.pl_history.specs.declared.line.Line.TheVariants.{Load, Store, Map, Unmap, Run, Resume}
use Rattle.pl_history.specs.declared.setup.SetupParts.{SetupParts}
use Rattle.pl_history.specs.Protection.{pmp_of}
use Rattle.world_machine.specs.declared.under.Under.{Under}
use Rattle.world_machine.specs.declared.under.Under.TheVariants.{Idle, Seeking, Removing, Destroying, Putting, Running, Breaking}
use Rattle.world_machine.specs.Acknowledging.{acknowledged, owed, restarted}
use Rattle.world_machine.specs.Answering.{answers, quiet}
use Rattle.world_machine.specs.HostAccessing.{WordAccess, accesses_host, begins_access, host_faults, host_learns, host_request, kind_of, loads, made, reaches_host, stores}
use Rattle.world_machine.specs.HostMapping.{begins_unmap, ends_unmap, mapped, maps, unmapped}
use Rattle.world_machine.specs.Runs.{fences_left, line_left, remaining, words_read}
use Rattle.world_machine.specs.Standing.{Kept}
use Rattle.world_machine.specs.Translating.{Request, offset_at, page_at, reads_table}
use Rattle.world_machine.specs.Worlds.{WorldData, answered_at, hart_line, tlb_at, under_at, with_tlb}
use Rattle.world_machine.proofs.BreaksLeft.{breaks_of}
use Rattle.world_machine.proofs.FencesLeft.{acked_less, done_more, left_less, needs_left}
use Rattle.world_machine.proofs.Lessens.{SharesNoMore, answered_by, answered_less, collision_less, falls_to, goes_by, goes_less, hart_there, some_cost}
use Rattle.world_machine.proofs.LessRows.{decided_less, either_less}
use Rattle.world_machine.proofs.Lists.{changed_none, changed_set}
use Rattle.world_machine.proofs.NeverAgain.{map_never, read_never, unmap_never}
use Rattle.world_machine.proofs.WordsRead.{IsBelowRoot, at_most_seven, at_most_three, by_learned, by_sought, by_test}

-- the line of an access
abbrev pub access_line : Va → WordAccess → Line
access_line va loads = Load va
access_line va (stores word) = Store va word

seeking_left : (setup : SetupParts) (va : Va) (access : WordAccess) (walk : Walk) → line_left setup (Some (access_line va access)) (Seeking walk) ≡ 4 - words_read walk
seeking_left setup va loads walk = refl
seeking_left setup va (stores word) walk = refl

idle_left : (setup : SetupParts) (va : Va) (access : WordAccess) → line_left setup (Some (access_line va access)) Idle ≡ 4
idle_left setup va loads = refl
idle_left setup va (stores word) = refl

-- what an acknowledgement starts anew: at most seven events are to be made again
restarted_left : (setup : SetupParts) (space : Space) (line : Option Line) (under : Under) → line_left setup line (restarted space line under) ≤ line_left setup line under + 7
restarted_left setup space None under = omega arith
restarted_left setup space (Some (Load va)) (Seeking walk) = let few = at_most_three walk in omega arith
restarted_left setup space (Some (Store va word)) (Seeking walk) = let few = at_most_three walk in omega arith
restarted_left setup space (Some (Run e budget)) (Running micro count) = let few = at_most_seven micro in omega arith
restarted_left setup space (Some (Resume e budget)) (Running micro count) = let few = at_most_seven micro in omega arith
restarted_left setup space (Some line) Idle = omega arith
restarted_left setup space (Some line) (Seeking walk) = omega arith
restarted_left setup space (Some line) (Removing page) = omega arith
restarted_left setup space (Some line) Destroying = omega arith
restarted_left setup space (Some line) (Putting done) = omega arith
restarted_left setup space (Some line) (Running micro count) = omega arith
restarted_left setup space (Some line) (Breaking count index) = omega arith

module _ (digest_of : List ℕ → List ℕ) (w : WorldData) (k : Kept digest_of w) (none : w.collision ≡ None) (hart : ℕ) (below : hart < w.setup.harts) where
  -- ---- `load` and `store`

  module _ (va : Va) (access : WordAccess) (under : Under) (here : hart_line w hart ≡ Some (access_line va access)) (so_far : under_at w.under hart ≡ under) (positions : List ℕ) where
    abbrev request : Request
    request = host_request w hart va access

    -- the walk that is under way, or that the access begins with
    module _ (walk : Walk) (left_is : line_left w.setup (Some (access_line va access)) under ≡ 4 - words_read walk) (stands : IsBelowRoot walk) where
      some_left : 0 < line_left w.setup (Some (access_line va access)) under
      some_left = let few = at_most_three walk in omega arith

      ends_less : (v : WorldData) → v.setup ≡ w.setup → v.collision ≡ None → v.fences ≡ w.fences → SharesNoMore w v → v.under ≡ slice_set w.under hart Idle
          → v.answered ≡ slice_set w.answered hart (answered_at w.answered hart + 1) → remaining v < remaining w
      ends_less = answered_less digest_of w k none hart below (access_line va access) under here so_far some_left

      reach_less : (o : Option Pa) → remaining (reaches_host w hart access o).world < remaining w
      reach_less None = ends_less _ refl none refl (le_refl _) refl refl
      reach_less (Some pa) = either_less w (permits (pmp_of w.setup) pa.0 8 (kind_of access)) _ _ (made_less access) (ends_less _ refl none refl (le_refl _) refl refl)
        where
          made_less : (a : WordAccess) → remaining (made w hart pa a) < remaining w
          made_less loads = ends_less _ refl none refl (le_refl _) refl refl
          made_less (stores word) = ends_less _ refl none refl (le_refl _) refl refl

      table_less : words_read walk < 3 → (pa : Pa)
          → remaining (reads_table digest_of w request positions walk (host_learns hart) (host_faults hart) pa).world < remaining w
      table_less asks pa =
          let read : After ℕ = read_word_of digest_of (page_at pa) (offset_at pa) (going w.ctl positions) in
          let left : WorldData = record w { ctl = read.after.ctl } in
          decided_less w left
          (λ word. host_learns hart (with_tlb left hart (tlb_after walk word va request.kind request.view (tlb_at w.tlbs hart))) (learned walk word va request.kind request.view))
          (host_faults hart left) read.outcome (read_never digest_of (page_at pa) (offset_at pa) (going w.ctl positions))
          (λ word. by_learned (λ result. remaining (host_learns hart (with_tlb left hart (tlb_after walk word va request.kind request.view (tlb_at w.tlbs hart))) result) < remaining w)
          request.kind walk stands asks
          (λ next more. goes_less digest_of w k none hart below (access_line va access) under here so_far _ (Seeking next) refl none refl (le_refl _) refl refl
          (let on = seeking_left w.setup va access next in let few = at_most_three next in omega arith))
          (λ no_page. ends_less _ refl none refl (le_refl _) refl refl)
          word va request.view)
          (λ place. ends_less _ refl none refl (le_refl _) refl refl)
          (collision_less digest_of w k none hart below (access_line va access) under here so_far some_left)

      pub access_less : remaining (accesses_host digest_of w hart positions va access walk).world < remaining w
      access_less =
          by_sought (λ event. remaining event.world < remaining w) w request
          (reads_table digest_of w request positions walk (host_learns hart) (host_faults hart)) (reaches_host w hart access)
          walk table_less reach_less

  pub begins_access_less : (va : Va) (access : WordAccess) → hart_line w hart ≡ Some (access_line va access) → under_at w.under hart ≡ Idle → (positions : List ℕ)
      → remaining (begins_access digest_of w hart positions va access).world < remaining w
  begins_access_less va access here idle positions =
      by_test (λ event. remaining event.world < remaining w) (va.0 % 8 == 0)
      (accesses_host digest_of w hart positions va access Start) (quiet (answers w hart (answer_is.No refused.Misaligned)))
      (access_less va access Idle here idle positions Start (idle_left w.setup va access) tt)
      (ends_less va access Idle here idle positions Start (idle_left w.setup va access) tt _ refl none refl (le_refl _) refl refl)

  pub seeks_less : (va : Va) (access : WordAccess) (walk : Walk) → hart_line w hart ≡ Some (access_line va access) → under_at w.under hart ≡ Seeking walk → IsBelowRoot walk → (positions : List ℕ)
      → remaining (accesses_host digest_of w hart positions va access walk).world < remaining w
  seeks_less va access walk here so_far stands positions = access_less va access (Seeking walk) here so_far positions walk (seeking_left w.setup va access walk) stands

  -- ---- `map`

  pub maps_less : (va : Va) (page : ℕ) (perms : Perms) → hart_line w hart ≡ Some (Map va page perms) → under_at w.under hart ≡ Idle → (positions : List ℕ)
      → remaining (maps digest_of w hart positions va page perms).world < remaining w
  maps_less va page perms here idle positions =
      let event : HostEvent (Unit {0}) (List Owner) = map_of digest_of w.setup.tables w.fences w.owners va page perms (going w.ctl positions) in
      let left : WorldData = record w { ctl = event.step.after.ctl; owners = event.rest } in
      decided_less w left (mapped hart left) (host_faults hart left) event.step.outcome (map_never digest_of w.setup.tables w.fences w.owners va page perms (going w.ctl positions))
      (mapped_less event.step.after.ctl event.rest) (λ place. answer_less _ refl none refl (le_refl _) refl refl)
      (collision_less digest_of w k none hart below (Map va page perms) Idle here idle (some_cost w.setup (Map va page perms)))
    where
      answer_less : (v : WorldData) → v.setup ≡ w.setup → v.collision ≡ None → v.fences ≡ w.fences → SharesNoMore w v → v.under ≡ slice_set w.under hart Idle
          → v.answered ≡ slice_set w.answered hart (answered_at w.answered hart + 1) → remaining v < remaining w
      answer_less = answered_less digest_of w k none hart below (Map va page perms) Idle here idle (some_cost w.setup (Map va page perms))

      mapped_less : (ctl : CtlData) (owners : List Owner) (result : Result (Unit {0}) No)
          → remaining (mapped hart (record w { ctl = ctl; owners = owners }) result) < remaining w
      mapped_less ctl owners (Ok done) = answer_less _ refl none refl (le_refl _) refl refl
      mapped_less ctl owners (Err cause) = answer_less _ refl none refl (le_refl _) refl refl

  -- ---- `unmap`

  -- the fence that it posts needs at most all harts, and the line has cost as much for each
  module _ (va : Va) (here : hart_line w hart ≡ Some (Unmap va)) (idle : under_at w.under hart ≡ Idle) where
    module _ (ctl : CtlData) (fences : List (Option Fence)) (few : needs_left w.setup.harts fences ≤ fences_left w + 8 * w.setup.harts) where
      refused_less : (v : WorldData) → v.setup ≡ w.setup → v.collision ≡ None → v.fences ≡ fences → SharesNoMore w v → v.under ≡ slice_set w.under hart Idle
          → v.answered ≡ slice_set w.answered hart (answered_at w.answered hart + 1) → remaining v < remaining w
      refused_less v setup free is shares under answered =
          answered_by digest_of w k none hart below (Unmap va) Idle here idle v setup free under answered
          (let fewer : breaks_of w.setup.harts v.enclaves ≤ breaks_of w.setup.harts w.enclaves = shares in
          let same : needs_left w.setup.harts v.fences ≡ needs_left w.setup.harts fences = ap (needs_left w.setup.harts) is in omega arith)

      unmapped_less : (result : Result ℕ No) → remaining (unmapped hart va (record w { ctl = ctl; fences = fences }) result) < remaining w
      unmapped_less (Ok page) = goes_by digest_of w k none hart below (Unmap va) Idle here idle _ (Removing page) refl none refl refl (omega arith)
      unmapped_less (Err cause) = refused_less _ refl none refl (le_refl _) refl refl

    rest_few : (positions : List ℕ)
        → needs_left w.setup.harts (unmap_begun digest_of w.setup.tables w.fences hart va (going w.ctl positions)).rest ≤ fences_left w + 8 * w.setup.harts
    unfolding unmap_begun
    rest_few positions = done_more w.setup.harts w.fences hart _ _

    pub begins_unmap_less : (positions : List ℕ) → remaining (begins_unmap digest_of w hart positions va).world < remaining w
    begins_unmap_less positions =
        let event : HostEvent ℕ (List (Option Fence)) = unmap_begun digest_of w.setup.tables w.fences hart va (going w.ctl positions) in
        let left : WorldData = record w { ctl = event.step.after.ctl; fences = event.rest } in
        decided_less w left (unmapped hart va left) (host_faults hart left) event.step.outcome (unmap_never digest_of w.setup.tables w.fences hart va (going w.ctl positions))
        (unmapped_less event.step.after.ctl event.rest (rest_few positions))
        (λ place. refused_less event.step.after.ctl event.rest (rest_few positions) _ refl none refl (le_refl _) refl refl)
        (collision_less digest_of w k none hart below (Unmap va) Idle here idle (some_cost w.setup (Unmap va)))

  pub ends_unmap_less : (va : Va) (page : ℕ) → hart_line w hart ≡ Some (Unmap va) → under_at w.under hart ≡ Removing page → remaining (ends_unmap w hart page) < remaining w
  unfolding unmap_ended
  ends_unmap_less va page here so_far =
      answered_by digest_of w k none hart below (Unmap va) (Removing page) here so_far _ refl none refl refl (let less = left_less w.setup.harts w.fences hart in omega arith)

  -- ---- an acknowledgement

  by_fence : (requester : ℕ) (fence : Option Fence) → fence_of w.fences requester ≡ fence → requester < length w.fences → needs fence hart ≡ true
      → remaining (acknowledged w hart requester fence) < remaining w
  by_fence requester None is there needed = absurd (false≢true needed)
  by_fence requester (Some fence) is there needed =
      falls_to digest_of w k none hart below (acknowledged w hart requester (Some fence)) refl none (restarted fence.space (hart_line w hart) (under_at w.under hart))
      (answered_at w.answered hart)
      (changed_set Idle w.under hart (restarted fence.space (hart_line w hart) (under_at w.under hart)) (hart_there digest_of w k none hart below))
      (changed_none 0 w.answered hart)
      (let fewer = acked_less w.setup.harts w.fences hart requester fence k.stands.translations.fences_stand.needs_others k.stands.translations.fences_stand.size there is needed in
      let more = restarted_left w.setup fence.space (hart_line w hart) (under_at w.under hart) in
      omega arith)

  pub acknowledged_less : (requester : ℕ) → owed w.fences hart ≡ Some requester → remaining (acknowledged w hart requester (fence_of w.fences requester)) < remaining w
  acknowledged_less requester is =
      let first = first_needs w.fences hart requester is in
      by_fence requester (fence_of w.fences requester) refl first.0 first.1
