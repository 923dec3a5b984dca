-- `load` and `store`: each event keeps what a world keeps.
use Rattle.std.proofs.Common.{◌≡◌, ℕ, ◌%◌, ◌<◌, ◌==◌, Bool, true, false, List, Some, None, refl, subst, inl, inr}
use Rattle.std.specs.Prelude.{if◌then◌else◌}
use Rattle.std.proofs.lemmas.Bool.{eqb-true}
use Rattle.pl_base.specs.declared.address.Va.{Va}
use Rattle.pl_base.specs.declared.refusal.No.TheVariants as refused
use Rattle.rv_hart.specs.declared.seeking.Sought.{Sought}
use Rattle.rv_hart.specs.declared.seeking.Sought.TheVariants.{Table, At, PageFault}
use Rattle.rv_hart.specs.declared.walks.Walk.{Walk}
use Rattle.rv_hart.specs.declared.walks.Walk.TheVariants.{Start}
use Rattle.mem_tree.specs.Trees.{HasDigests}
use Rattle.mem_ctl.proofs.TellLaws.{calls_tell}
use Rattle.mon_enclave.specs.Records.{enclave_at}
use Rattle.pl_history.specs.declared.answer.Answer.TheVariants as answer_is
use Rattle.world_attack.specs.Room.{RoomStays}
use Rattle.world_machine.specs.declared.under.Under.TheVariants.{Idle, Seeking}
use Rattle.world_machine.specs.Answering.{answers, quiet}
use Rattle.world_machine.specs.HostAccessing.{WordAccess, accesses_host, begins_access, host_faults, host_learns, host_request, kind_of, reaches_host}
use Rattle.world_machine.specs.LinesUnderWay.{LineUnderWay}
use Rattle.world_machine.specs.Standing.{Kept, state_of, written_page}
use Rattle.world_machine.specs.Translating.{host_view, reads_table, sought_in, translated}
use Rattle.world_machine.specs.TranslationsAgree.{IsFresh, WalkStands}
use Rattle.world_machine.specs.Worlds.{WorldData, hart_line, under_at}
use Rattle.world_machine.proofs.HostAccesses.{IsAccess, access_aligned, access_walk_stands, idle_access_is}
use Rattle.world_machine.proofs.HostAnswers.{access_line, misaligned_allowed}
use Rattle.world_machine.proofs.HostOutcomes.{refused_kept}
use Rattle.world_machine.proofs.HostReaches.{far_kept, forbidden_kept, reached_kept}
use Rattle.world_machine.proofs.HostReads.{table_kept}
use Rattle.world_machine.proofs.HostTranslations.{host_forbidden, host_reached}

module _ (digest_of : List ℕ → List ℕ) (law : HasDigests digest_of) (room_stays : RoomStays) (w : WorldData) (k : Kept digest_of w) (none : w.collision ≡ None) (hart : ℕ)
    (below : hart < w.setup.harts) (va : Va) (access : WordAccess) (here : hart_line w hart ≡ Some (access_line va access)) where
  -- the next event of the walk
  module _ (positions : List ℕ) (walk : Walk) (is : IsAccess w hart va access walk) where
    stands : WalkStands w.ctl (IsFresh w.setup (enclave_at w.enclaves) (state_of w) w.fences hart) (host_view w.setup.tables) va walk
    stands = access_walk_stands digest_of w k hart va access walk is

    by_sought : (x : Sought) → sought_in w (host_request w hart va access) walk ≡ x
        → Kept digest_of (translated x (reads_table digest_of w (host_request w hart va access) positions walk (host_learns hart) (host_faults hart)) (reaches_host w hart access)).world
    by_sought (Table pa level) asks = table_kept digest_of room_stays (calls_tell digest_of law).reads w k none hart below positions va access walk is pa level asks
    by_sought (At pa) asks = reached_kept digest_of room_stays w k none hart below va access walk is pa (host_reached digest_of w k hart va (kind_of access) walk stands pa asks)
    by_sought PageFault asks = elim (host_forbidden digest_of w k hart va (kind_of access) walk stands asks) [
      | inl far ↦ far_kept digest_of room_stays w k none hart below va access walk is far
      | inr forbids ↦ forbidden_kept digest_of room_stays w k none hart below va access walk is forbids
    ]

    next_kept : Kept digest_of (accesses_host digest_of w hart positions va access walk).world
    next_kept = by_sought (sought_in w (host_request w hart va access) walk) refl

  -- an access begins
  pub begins_access_kept : under_at w.under hart ≡ Idle → (positions : List ℕ) → Kept digest_of (begins_access digest_of w hart positions va access).world
  begins_access_kept so_far positions = by_test (va.0 % 8 == 0) refl
    where
      by_test : (b : Bool) → (va.0 % 8 == 0) ≡ b
          → Kept digest_of (if b then accesses_host digest_of w hart positions va access Start else quiet (answers w hart (answer_is.No refused.Misaligned))).world
      by_test true aligned = next_kept positions Start (record { here = here; so_far = inl (so_far, refl); aligned = eqb-true (va.0 % 8) 0 aligned })
      by_test false misaligned =
          refused_kept digest_of room_stays w k none hart below (access_line va access) va (idle_access_is digest_of w k hart va access here so_far) refused.Misaligned
          (misaligned_allowed w.setup (state_of w) va access misaligned)

  -- and goes on
  pub accesses_host_kept : (walk : Walk) → under_at w.under hart ≡ Seeking walk → (positions : List ℕ) → Kept digest_of (accesses_host digest_of w hart positions va access walk).world
  accesses_host_kept walk so_far positions = next_kept positions walk (record { here = here; so_far = inr so_far; aligned = aligned })
    where
      aligned : va.0 % 8 ≡ 0
      aligned = access_aligned w.setup (written_page w) (enclave_at w.enclaves) (state_of w).number hart va access walk
          (subst (λ u. LineUnderWay w.setup (written_page w) (enclave_at w.enclaves) (state_of w).number hart (Some (access_line va access)) u) so_far
          (subst (λ l. LineUnderWay w.setup (written_page w) (enclave_at w.enclaves) (state_of w).number hart l (under_at w.under hart)) here (k.stands.lines hart)))
