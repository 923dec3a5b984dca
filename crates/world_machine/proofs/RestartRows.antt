-- A run whose enclave broke a page starts its instruction anew once nobody is lacking: it leaves its fence, and nothing else changes.
use Rattle.std.proofs.Common.{◌≡◌, ◌≢◌, ℕ, ◌<◌, Bool, List, [], Option, Some, None, refl, sym, ap, ◌∙◌, subst}
use Rattle.std.specs.Prelude.{slice_set}
use Rattle.std.proofs.lemmas.List.Elements.{All-weaker}
use Rattle.pl_base.specs.declared.number.EncNo.{EncNo}
use Rattle.rv_hart.specs.declared.walks.Micro.TheVariants.{Fetching}
use Rattle.rv_hart.specs.declared.walks.Walk.TheVariants.{Start}
use Rattle.rv_tlb.specs.declared.tlb.TlbEntry.{TlbEntry}
use Rattle.mon_enclave.specs.Records.{enclave_at}
use Rattle.mon_fence.specs.declared.fences.Fence.{Fence}
use Rattle.pl_history.specs.declared.line.Line.{Line}
use Rattle.pl_history.specs.Monitor.{Monitor}
use Rattle.world_attack.specs.Room.{RoomStays}
use Rattle.world_machine.specs.declared.under.Under.{Under}
use Rattle.world_machine.specs.declared.under.Under.TheVariants.{Breaking, Running}
use Rattle.world_machine.specs.BytesAgree.{HasPut}
use Rattle.world_machine.specs.FencesStand.{NumberFenceStands, RemovalStands, removals_by}
use Rattle.world_machine.specs.HostMapping.{lacked_by}
use Rattle.world_machine.specs.LinesUnderWay.{LineUnderWay, number_under_way}
use Rattle.world_machine.specs.RecordsAgree.{is_begun}
use Rattle.world_machine.specs.Running.{restarts}
use Rattle.world_machine.specs.Standing.{Kept, state_of, written_page}
use Rattle.world_machine.specs.TranslationsAgree.{IsFresh, TranslationsStand, WalkingStands, walking}
use Rattle.world_machine.specs.Worlds.{WorldData, answered_at, hart_line, tlb_at, under_at}
use Rattle.world_machine.proofs.BreakFences.{breaking_number, breaking_removed, breaking_restarts}
use Rattle.world_machine.proofs.Leaving.{giving_set}
use Rattle.world_machine.proofs.LineKinds.{goes_on_line}
use Rattle.world_machine.proofs.LineMoves.{LineMoves}
use Rattle.world_machine.proofs.LineTranslations.{fresh_walking, gives_none, removes_none}
use Rattle.world_machine.proofs.Lists.{everywhere}
use Rattle.world_machine.proofs.NumberFreshness.{left_fresh}
use Rattle.world_machine.proofs.QuietRows.{attacks_live}
use Rattle.world_machine.proofs.RowKept.{row_kept, same_sizes}
use Rattle.world_machine.proofs.RunMoves.{no_put, run_line, run_walking, running_is, runs_number}
use Rattle.world_machine.proofs.StandingFences.{fences_given}

module _ (digest_of : List ℕ → List ℕ) (room_stays : RoomStays) (w : WorldData) (k : Kept digest_of w) (none : w.collision ≡ None) (hart : ℕ) (below : hart < w.setup.harts)
    (first : Bool) (e : EncNo) (budget count index : ℕ) (here : hart_line w hart ≡ Some (run_line first e budget)) (so_far : under_at w.under hart ≡ Breaking count index)
    (nobody : lacked_by w hart ≡ None) where
  abbrev s : Monitor
  s = state_of w

  abbrev line : Line
  line = run_line first e budget

  abbrev u : Under
  u = Running (Fetching Start) count

  abbrev under' : List Under
  under' = slice_set w.under hart u

  abbrev fences' : List (Option Fence)
  fences' = slice_set w.fences hart None

  moves : LineMoves w hart under' w.answered w.history s u (answered_at w.answered hart)
  moves = goes_on_line digest_of room_stays w k hart below u (sym (ap is_begun so_far))

  -- what holds of the hart's line holds of the run that broke a page, and what holds of the run that goes on holds of the line after the event
  before : (P : Option Line → Under → Type 0) → P (hart_line w hart) (under_at w.under hart) → P (Some line) (Breaking count index)
  before P holds = subst (P (Some line)) so_far (subst (λ l. P l (under_at w.under hart)) here holds)

  after : (P : Option Line → Under → Type 0) → P (Some line) u → P (hart_line w hart) u
  after P holds = subst (λ l. P l u) (sym here) holds

  after_at : (P : Option Line → Under → Type 0) → P (Some line) u → P (hart_line w hart) (under_at under' hart)
  after_at P holds = subst (P (hart_line w hart)) (sym moves.under_change.here) (after P holds)

  -- so it does of another hart's
  other_at : (P : Option Line → Under → Type 0) (other : ℕ) → other ≢ hart → P (hart_line w other) (under_at w.under other) → P (hart_line w other) (under_at under' other)
  other_at P other differs holds = subst (P (hart_line w other)) (sym (moves.under_change.others other differs)) holds

  -- ---- translations

  no_removal : removals_by s.removals hart ≡ []
  no_removal = breaking_removed first e budget count index (removals_by s.removals hart)
      (before (λ l v. RemovalStands l v (removals_by s.removals hart)) (k.stands.translations.removals hart))

  fresh : (other : ℕ) (entry : TlbEntry) → IsFresh w.setup (enclave_at w.enclaves) s w.fences other entry → IsFresh w.setup (enclave_at w.enclaves) s fences' other entry
  fresh = left_fresh w.setup (enclave_at w.enclaves) s w.fences hart nobody

  abbrev Walks : ℕ → Option Line → Under → Type 0
  Walks other l v = WalkingStands w.ctl (IsFresh w.setup (enclave_at w.enclaves) s fences' other) (walking w.setup.tables (enclave_at w.enclaves) l v)

  walk_own : Walks hart (Some line) u
  walk_own = subst (WalkingStands w.ctl (IsFresh w.setup (enclave_at w.enclaves) s fences' hart))
      (sym (run_walking w.setup.tables (enclave_at w.enclaves) first e budget count (Fetching Start))) tt

  translations : TranslationsStand w.setup w.ctl w.tlbs fences' (enclave_at w.enclaves) s (hart_line w) (under_at under')
  translations = record {
    tables = k.stands.translations.tables;
    harts = k.stands.translations.harts;
    fences_stand = fences_given w.setup.harts w.fences s.removals k.stands.translations.fences_stand hart below no_removal;
    removals = everywhere (λ h. RemovalStands (hart_line w h) (under_at under' h) (removals_by s.removals h)) hart
        (after_at (λ l v. RemovalStands l v (removals_by s.removals hart)) (removes_none (Some line) u (removals_by s.removals hart) refl no_removal))
        (λ h other. other_at (λ l v. RemovalStands l v (removals_by s.removals h)) h other (k.stands.translations.removals h));
    giving = giving_set digest_of w k hart below None (hart_line w) (under_at under') (λ h other. refl) moves.under_change.others
        (after_at (λ l v. NumberFenceStands l v None) (gives_none (Some line) u None refl tt));
    fresh = record {
      entries = λ h. All-weaker (IsFresh w.setup (enclave_at w.enclaves) s w.fences h) (IsFresh w.setup (enclave_at w.enclaves) s fences' h) (fresh h) (tlb_at w.tlbs h)
          (k.stands.translations.fresh.entries h);
      walks = everywhere (λ h. Walks h (hart_line w h) (under_at under' h)) hart (after_at (Walks hart) walk_own)
          (λ h other. other_at (Walks h) h other
          (fresh_walking w.ctl (IsFresh w.setup (enclave_at w.enclaves) s w.fences h) (IsFresh w.setup (enclave_at w.enclaves) s fences' h) (fresh h)
          (walking w.setup.tables (enclave_at w.enclaves) (hart_line w h) (under_at w.under h)) (k.stands.translations.fresh.walks h)));
    };
  }

  -- ---- the event

  own_number : (f : ℕ) → number_under_way (hart_line w hart) u ≡ Some f → number_under_way (hart_line w hart) (under_at w.under hart) ≡ Some f
  own_number f own =
      ap (λ l. number_under_way l (under_at w.under hart)) here ∙ ap (number_under_way (Some line)) so_far ∙ breaking_number first e budget count index
      ∙ sym (runs_number first e budget count (Fetching Start)) ∙ sym (ap (λ l. number_under_way l u) here) ∙ own

  pub restart_kept : Kept digest_of (restarts w hart count)
  restart_kept = row_kept digest_of w hart w.ctl w.owners w.enclaves w.tlbs fences' under' w.answered w.history s u (answered_at w.answered hart) k none (record {
    line = moves;
    sizes = same_sizes w.setup w.ctl w.owners w.enclaves;
    trees = k.trees;
    owners_agree = record { owner = k.stands.owners.owner; maps = k.stands.owners.maps };
    records = k.stands.records;
    pages_agree = k.stands.pages;
    enclaves_agree = k.stands.enclaves;
    host = k.stands.host;
    attacks = attacks_live w hart s under' w.answered digest_of k refl (λ f. refl) (λ f. refl) (λ other differs. refl) moves.under_change.others
        (λ page put. absurd (no_put first e budget count page (Fetching Start)
        (subst (λ l. HasPut l u page) here (subst (λ v. HasPut (hart_line w hart) v page) moves.under_change.here put))));
    other_lines = λ other differs. k.stands.lines other;
    own_line = after (LineUnderWay w.setup (written_page w) (enclave_at w.enclaves) s.number hart)
        (running_is w.setup (written_page w) (enclave_at w.enclaves) s.number hart budget count (Fetching Start) e first
        (breaking_restarts w.setup (written_page w) (enclave_at w.enclaves) s.number hart budget count index e first
        (before (LineUnderWay w.setup (written_page w) (enclave_at w.enclaves) s.number hart) (k.stands.lines hart))).running);
    own_apart = λ other f differs own theirs. differs (k.stands.apart other hart f theirs (own_number f own));
    translations = translations;
  })
