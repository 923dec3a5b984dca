-- What a hart's line needs, and the turn that it makes, a row for each line and how far it is.
use Rattle.std.specs.Prelude.{ℕ, ◌≡◌, ◌%◌, ◌<◌, Bool, false, List, length}
use Rattle.pl_base.specs.declared.address.Va.{Va}
use Rattle.pl_base.specs.declared.number.EncNo.{EncNo}
use Rattle.pl_base.specs.declared.perms.Perms.{Perms}
use Rattle.rv_hart.specs.declared.walks.Walk.TheVariants.{Start}
use Rattle.mon_enclave.specs.Records.{enclave_at}
use Rattle.pl_history.specs.declared.answer.Answer.TheVariants as answer_is
use Rattle.world_events.specs.declared.dues.Due.{Due}
use Rattle.world_events.specs.declared.dues.Due.TheVariants as due_is
use Rattle.world_events.specs.Conditions.{CanAccess, CanDestroy, CanDrop, CanEndDestroy, CanEndUnmap, CanFork, CanGo, CanMake, CanMap, CanPut, CanReach, CanRestart, CanUnmap}
use Rattle.world_machine.specs.declared.turned.Turned.TheVariants as turned
use Rattle.world_machine.specs.declared.under.Under.{Under}
use Rattle.world_machine.specs.declared.under.Under.TheVariants.{Idle, Seeking, Removing, Destroying, Putting, Running, Breaking}
use Rattle.world_machine.specs.Answering.{answers, quiet}
use Rattle.world_machine.specs.GivingBack.{begins_destroy, drops_shadow, ends_destroy}
use Rattle.world_machine.specs.HostAccessing.{WordAccess, accesses_host, begins_access, loads, stores}
use Rattle.world_machine.specs.HostMapping.{begins_unmap, ends_unmap, lacked_by, maps}
use Rattle.world_machine.specs.Making.{begin_create, begin_fork, grants_page, put_next}
use Rattle.world_machine.specs.Running.{begin_run, restarts, runs}
use Rattle.world_machine.specs.Steps.{Turn, moves, rests, waiting_turn, waits}
use Rattle.world_machine.specs.Talking.{sends_word, takes_word}
use Rattle.world_machine.specs.Worlds.{WorldData}

-- ---- what a turn needs, by the line and how far it is

abbrev pub CanAccessSoFar : WorldData → ℕ → Va → WordAccess → Under → Type 0
CanAccessSoFar w hart va access Idle = CanAccess w hart va access Start
CanAccessSoFar w hart va access (Seeking walk) = CanAccess w hart va access walk × (va.0 % 8 ≡ 0)
CanAccessSoFar w hart va access under = Unit {0}

abbrev pub CanMapSoFar : WorldData → ℕ → ℕ → Perms → Under → Type 0
CanMapSoFar w hart page perms Idle = CanMap w hart page perms
CanMapSoFar w hart page perms under = Unit {0}

abbrev pub CanUnmapSoFar : WorldData → ℕ → Under → Type 0
CanUnmapSoFar w hart Idle = CanUnmap w hart
CanUnmapSoFar w hart (Removing page) = CanEndUnmap w hart page
CanUnmapSoFar w hart under = Unit {0}

abbrev pub CanCreateSoFar : WorldData → ℕ → ℕ → ℕ → Bool → Under → Type 0
CanCreateSoFar w hart e image shadow Idle = CanMake w hart e image
CanCreateSoFar w hart e image shadow (Putting done) = CanPut w hart e image shadow done
CanCreateSoFar w hart e image shadow under = Unit {0}

abbrev pub CanForkSoFar : WorldData → ℕ → ℕ → ℕ → Under → Type 0
CanForkSoFar w hart s e Idle = CanFork w hart s e
CanForkSoFar w hart s e (Putting done) = CanPut w hart e (enclave_at w.enclaves e).image false done
CanForkSoFar w hart s e under = Unit {0}

abbrev pub CanRunSoFar : WorldData → ℕ → ℕ → ℕ → Under → Type 0
CanRunSoFar w hart e budget Idle = CanGo w hart × (e < length w.enclaves)
CanRunSoFar w hart e budget (Running micro count) = CanReach w (record { hart = hart; e = e; budget = budget; count = count }) micro
CanRunSoFar w hart e budget (Breaking count index) = CanRestart w hart
CanRunSoFar w hart e budget under = Unit {0}

abbrev pub CanDestroySoFar : WorldData → ℕ → ℕ → Under → Type 0
CanDestroySoFar w hart e Idle = CanDestroy w hart e
CanDestroySoFar w hart e Destroying = CanEndDestroy w hart e
CanDestroySoFar w hart e under = Unit {0}

-- what a line needs that is answered at once
abbrev pub CanSay : WorldData → ℕ → Due → Type 0
CanSay w hart (due_is.Send e word) = CanGo w hart × (e.0 < length w.enclaves)
CanSay w hart (due_is.Take e) = CanGo w hart × (e.0 < length w.enclaves)
CanSay w hart (due_is.Grant e page) = CanGo w hart × (e.0 < length w.enclaves)
CanSay w hart (due_is.Drop s) = CanDrop w hart s.0
CanSay w hart (due_is.After actor count) = CanGo w hart × (actor < length w.answered)
CanSay w hart due = Unit {0}

abbrev pub CanSayIdle : WorldData → ℕ → Due → Under → Type 0
CanSayIdle w hart due Idle = CanSay w hart due
CanSayIdle w hart due under = Unit {0}

abbrev pub CanDue : WorldData → ℕ → Due → Under → Type 0
CanDue w hart (due_is.Load va) under = CanAccessSoFar w hart va loads under
CanDue w hart (due_is.Store va word) under = CanAccessSoFar w hart va (stores word) under
CanDue w hart (due_is.Map va page perms) under = CanMapSoFar w hart page perms under
CanDue w hart (due_is.Unmap va) under = CanUnmapSoFar w hart under
CanDue w hart (due_is.Create e image shadow) under = CanCreateSoFar w hart e.0 image shadow under
CanDue w hart (due_is.Fork s e) under = CanForkSoFar w hart s.0 e.0 under
CanDue w hart (due_is.Run e budget first) under = CanRunSoFar w hart e.0 budget under
CanDue w hart (due_is.Destroy e) under = CanDestroySoFar w hart e.0 under
CanDue w hart due under = CanSayIdle w hart due under

-- ---- the turn of a line, so far

module _ (digest_of : List ℕ → List ℕ) where
  abbrev pub access_turn : WorldData → ℕ → List ℕ → Va → WordAccess → Under → Turn
  access_turn w hart positions va access Idle = moves (begins_access digest_of w hart positions va access)
  access_turn w hart positions va access (Seeking walk) = moves (accesses_host digest_of w hart positions va access walk)
  access_turn w hart positions va access under = rests turned.Done

  abbrev pub map_turn : WorldData → ℕ → List ℕ → Va → ℕ → Perms → Under → Turn
  map_turn w hart positions va page perms Idle = moves (maps digest_of w hart positions va page perms)
  map_turn w hart positions va page perms under = rests turned.Done

  abbrev pub unmap_so_far : WorldData → ℕ → List ℕ → Va → Under → Turn
  unmap_so_far w hart positions va Idle = moves (begins_unmap digest_of w hart positions va)
  unmap_so_far w hart positions va (Removing page) = waiting_turn (ends_unmap w hart page) (lacked_by w hart)
  unmap_so_far w hart positions va under = rests turned.Done

  abbrev pub create_turn : WorldData → ℕ → List ℕ → List ℕ → ℕ → ℕ → Bool → Under → Turn
  create_turn w hart positions pages e image shadow Idle = moves (begin_create w hart e image pages shadow)
  create_turn w hart positions pages e image shadow (Putting done) = moves (put_next digest_of w hart positions e image shadow done)
  create_turn w hart positions pages e image shadow under = rests turned.Done

  abbrev pub fork_turn : WorldData → ℕ → List ℕ → List ℕ → EncNo → ℕ → Under → Turn
  fork_turn w hart positions pages s e Idle = moves (begin_fork w hart s e pages)
  fork_turn w hart positions pages s e (Putting done) = moves (put_next digest_of w hart positions e (enclave_at w.enclaves e).image false done)
  fork_turn w hart positions pages s e under = rests turned.Done

  abbrev pub run_turn : WorldData → ℕ → List ℕ → ℕ → ℕ → Bool → Under → Turn
  run_turn w hart positions e budget first Idle = moves (begin_run w hart e first)
  run_turn w hart positions e budget first (Running micro count) = moves (runs digest_of w hart positions e budget micro count)
  run_turn w hart positions e budget first (Breaking count index) = waiting_turn (restarts w hart count) (lacked_by w hart)
  run_turn w hart positions e budget first under = rests turned.Done

abbrev pub destroy_so_far : WorldData → ℕ → EncNo → Under → Turn
destroy_so_far w hart e Idle = moves (begins_destroy w hart e)
destroy_so_far w hart e Destroying = waiting_turn (ends_destroy w hart e) (lacked_by w hart)
destroy_so_far w hart e under = rests turned.Done

-- a line that is answered at once
abbrev pub say_turn : WorldData → ℕ → Due → Turn
say_turn w hart (due_is.Send e word) = moves (sends_word w hart e.0 word)
say_turn w hart (due_is.Take e) = moves (takes_word w hart e.0)
say_turn w hart (due_is.Grant e page) = moves (grants_page w hart e.0 page)
say_turn w hart (due_is.Drop s) = moves (drops_shadow w hart s.0)
say_turn w hart (due_is.After actor count) = waits w actor count (quiet (answers w hart answer_is.Ok))
say_turn w hart due = rests turned.Done

abbrev pub begun_turn : Under → Turn → Turn
begun_turn Idle turn = turn
begun_turn under turn = rests turned.Done

module _ (digest_of : List ℕ → List ℕ) where
  -- the turn of a hart's line, with the pages that it names
  abbrev pub due_turn : WorldData → ℕ → List ℕ → List ℕ → Due → Under → Turn
  due_turn w hart positions pages (due_is.Load va) under = access_turn digest_of w hart positions va loads under
  due_turn w hart positions pages (due_is.Store va word) under = access_turn digest_of w hart positions va (stores word) under
  due_turn w hart positions pages (due_is.Map va page perms) under = map_turn digest_of w hart positions va page perms under
  due_turn w hart positions pages (due_is.Unmap va) under = unmap_so_far digest_of w hart positions va under
  due_turn w hart positions pages (due_is.Create e image shadow) under = create_turn digest_of w hart positions pages e.0 image shadow under
  due_turn w hart positions pages (due_is.Fork s e) under = fork_turn digest_of w hart positions pages s e.0 under
  due_turn w hart positions pages (due_is.Run e budget first) under = run_turn digest_of w hart positions e.0 budget first under
  due_turn w hart positions pages (due_is.Destroy e) under = destroy_so_far w hart e under
  due_turn w hart positions pages due under = begun_turn under (say_turn w hart due)
