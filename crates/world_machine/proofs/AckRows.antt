-- An acknowledgement: the hart drops what the fence covers, and its access under way there starts anew.
use Rattle.std.proofs.Common.{◌≡◌, ◌≢◌, ℕ, ◌+◌, ◌<◌, ◌≤◌, eqb, Bool, true, false, if◌then◌else◌, List, [], length, Option, Some, None, option_map, refl, sym, ◌∙◌, subst, inl, inr, length-set}
use Rattle.std.specs.Prelude.{slice_set}
use Rattle.std.specs.List.{All}
use Rattle.std.proofs.lemmas.Bool.{eqb-false}
use Rattle.pl_base.specs.declared.access.Kind.{Kind}
use Rattle.pl_base.specs.declared.address.Va.{Va}
use Rattle.pl_base.specs.declared.number.Space.{Space}
use Rattle.rv_alone.specs.Effect.{act_of}
use Rattle.rv_hart.specs.declared.walks.Micro.{Micro}
use Rattle.rv_hart.specs.declared.walks.Micro.TheVariants.{Fetching, Reaching, Faulting}
use Rattle.rv_hart.specs.declared.walks.View.{View}
use Rattle.rv_hart.specs.declared.walks.Walk.{Walk}
use Rattle.rv_hart.specs.declared.walks.Walk.TheVariants.{Start, Level, Found}
use Rattle.rv_tlb.specs.declared.tlb.TlbEntry.{TlbEntry}
use Rattle.mem_ctl.specs.Data.{CtlData}
use Rattle.mon_enclave.specs.declared.enclave.Enclave.{Enclave}
use Rattle.mon_enclave.specs.Records.{enclave_at}
use Rattle.mon_fence.specs.declared.fences.Fence.{Fence}
use Rattle.mon_fence.specs.Fences.{acked, fence_of}
use Rattle.mon_fence.proofs.Needs.{fence_of-set_other}
use Rattle.mon_tables.specs.Space.{Mapping}
use Rattle.pl_history.specs.declared.line.Line.{Line}
use Rattle.pl_history.specs.declared.line.Line.TheVariants.{Load, Store, Unmap, Create, Shadow, Fork, Run, Resume, Destroy}
use Rattle.pl_history.specs.declared.setup.SetupParts.{SetupParts}
use Rattle.pl_history.specs.Monitor.{Monitor, Number}
use Rattle.world_attack.specs.Room.{RoomStays}
use Rattle.world_machine.specs.declared.under.Under.{Under}
use Rattle.world_machine.specs.declared.under.Under.TheVariants.{Idle, Seeking, Removing, Destroying, Putting, Running, Breaking}
use Rattle.world_machine.specs.Acknowledging.{acknowledged, restarted, without_covered}
use Rattle.world_machine.specs.BytesAgree.{HasPut, OnlyAttacksDiffer, PageAgrees}
use Rattle.world_machine.specs.FencesStand.{FenceStands, NumberFenceStands, RemovalStands, removals_by}
use Rattle.world_machine.specs.LinesUnderWay.{LineUnderWay, IsRunning, access_of, number_under_way}
use Rattle.world_machine.specs.RecordsAgree.{is_begun}
use Rattle.world_machine.specs.Standing.{Kept, state_of, written_page}
use Rattle.world_machine.specs.Translating.{host_view, number_view}
use Rattle.world_machine.specs.TranslationsAgree.{IsFresh, MayUseNumber, WalkStands, WalkingStands, walking, walking_of}
use Rattle.world_machine.specs.Worlds.{WorldData, answered_at, hart_line, tlb_at, under_at}
use Rattle.world_machine.proofs.Freshness.{acked_owed, acked_owed_own, acked_same, acked_used, acked_used_own, is_covered, left_all, other_uncovered}
use Rattle.world_machine.proofs.HostRows.{HostFrame}
use Rattle.world_machine.proofs.HostChanges.{HostChange, host_changed}
use Rattle.world_machine.proofs.Leaving.{acked_gives}
use Rattle.world_machine.proofs.LineKinds.{goes_on_line}
use Rattle.world_machine.proofs.LineMoves.{LineMoves}
use Rattle.world_machine.proofs.LineTranslations.{gives_none, none_given, none_removed, removes_none}
use Rattle.world_machine.proofs.Lists.{everywhere, or_other, or_same}
use Rattle.world_machine.proofs.RowKept.{row_kept, same_sizes}
use Rattle.world_machine.proofs.StandingFences.{fences_acked}

-- ---- a line that starts anew

restarted_begun : (space : Space) (line : Option Line) (under : Under) → is_begun (restarted space line under) ≡ is_begun under
restarted_begun space line (Seeking walk) = refl
restarted_begun space (Some (Run e budget)) (Running micro count) = refl
restarted_begun space (Some (Resume e budget)) (Running micro count) = refl
restarted_begun space line under = refl

seeks_no_number : (line : Option Line) (walk : Walk) → number_under_way line (Seeking walk) ≡ None
seeks_no_number None walk = refl
seeks_no_number (Some (Create e image pages)) walk = refl
seeks_no_number (Some (Shadow e image pages)) walk = refl
seeks_no_number (Some (Fork shadow e pages)) walk = refl
seeks_no_number (Some (Run e budget)) walk = refl
seeks_no_number (Some (Resume e budget)) walk = refl
seeks_no_number (Some line) walk = refl

seeks_no_put : (line : Option Line) (walk : Walk) (page : ℕ) → HasPut line (Seeking walk) page → ⊥
seeks_no_put None walk page put = put
seeks_no_put (Some (Create e image pages)) walk page put = put
seeks_no_put (Some (Shadow e image pages)) walk page put = put
seeks_no_put (Some line) walk page put = put

restarted_number : (space : Space) (line : Option Line) (under : Under) → number_under_way line (restarted space line under) ≡ number_under_way line under
restarted_number space line (Seeking walk) = seeks_no_number line _ ∙ sym (seeks_no_number line walk)
restarted_number space (Some (Run e budget)) (Running micro count) = refl
restarted_number space (Some (Resume e budget)) (Running micro count) = refl
restarted_number space line under = refl

restarted_put : (space : Space) (line : Option Line) (under : Under) (page : ℕ) → HasPut line (restarted space line under) page → HasPut line under page
restarted_put space line (Seeking walk) page put = absurd (seeks_no_put line _ page put)
restarted_put space (Some (Run e budget)) (Running micro count) page put = put
restarted_put space (Some (Resume e budget)) (Running micro count) page put = put
restarted_put space line under page put = put

restarted_removal : (space : Space) (line : Option Line) (under : Under) (removed : List Mapping) → RemovalStands line under removed → RemovalStands line (restarted space line under) removed
restarted_removal space line (Seeking walk) removed k = removes_none line (Seeking _) removed refl (none_removed line (Seeking walk) removed refl k)
restarted_removal space (Some (Run e budget)) (Running micro count) removed k = k
restarted_removal space (Some (Resume e budget)) (Running micro count) removed k = k
restarted_removal space line under removed k = k

restarted_giving : (space : Space) (line : Option Line) (under : Under) (fence : Option Fence) → NumberFenceStands line under fence → NumberFenceStands line (restarted space line under) fence
restarted_giving space line (Seeking walk) fence k = gives_none line (Seeking _) fence refl (none_given line (Seeking walk) fence refl k)
restarted_giving space (Some (Run e budget)) (Running micro count) fence k = k
restarted_giving space (Some (Resume e budget)) (Running micro count) fence k = k
restarted_giving space line under fence k = k

module _ (setup : SetupParts) (bytes : ℕ → List ℕ) (rec : ℕ → Enclave) (number : ℕ → Number) (hart : ℕ) (space : Space) where
  -- an instruction may always start anew
  runs_anew : (r : Enclave) (n : Number) (budget count : ℕ) (micro : Micro) (b : Bool) → IsRunning setup bytes r n hart budget count micro
      → IsRunning setup bytes r n hart budget count (if b then Fetching Start else micro)
  runs_anew r n budget count micro true k = record { state = k.state; hart_is = k.hart_is; within = k.within; retired = k.retired; instruction = tt }
  runs_anew r n budget count micro false k = k

  restarted_line : (line : Option Line) (under : Under) → LineUnderWay setup bytes rec number hart line under → LineUnderWay setup bytes rec number hart line (restarted space line under)
  restarted_line (Some (Load va)) (Seeking walk) k = k
  restarted_line (Some (Store va word)) (Seeking walk) k = k
  restarted_line (Some (Run e budget)) (Running micro count) k = runs_anew (rec e.0) (number e.0) budget count micro (eqb space.0 (e.0 + 1)) k
  restarted_line (Some (Resume e budget)) (Running micro count) k = runs_anew (rec e.0) (number e.0) budget count micro (eqb space.0 (e.0 + 1)) k
  restarted_line line Idle k = tt
  restarted_line (Some (Unmap va)) (Removing page) k = tt
  restarted_line (Some (Create e image pages)) (Putting done) k = k
  restarted_line (Some (Shadow e image pages)) (Putting done) k = k
  restarted_line (Some (Fork shadow e pages)) (Putting done) k = k
  restarted_line (Some (Run e budget)) (Breaking count index) k = k
  restarted_line (Some (Resume e budget)) (Breaking count index) k = k
  restarted_line (Some (Destroy e)) Destroying k = k
  restarted_line line under k = elim k [ ]

-- ---- walks in another space

module _ (tables : ℕ) (ctl : CtlData) (Fresh Fresh' : TlbEntry → Type 0) (space : Space) (fresh : (entry : TlbEntry) → entry.space.0 ≢ space.0 → Fresh entry → Fresh' entry) where
  other_walk : (view : View) (va : Va) (walk : Walk) → view.space.0 ≢ space.0 → WalkStands ctl Fresh view va walk → WalkStands ctl Fresh' view va walk
  other_walk view va Start other k = tt
  other_walk view va (Level level table) other k = k
  other_walk view va (Found ppn perms) other k = fresh _ other k

  reach_walk : (e : ℕ) (walk : Walk) (access : Option (Kind × ℕ)) → e + 1 ≢ space.0
      → WalkingStands ctl Fresh (option_map (λ (a : Kind × ℕ). record { view = number_view tables e; va = record { 0 = a.1 }; walk = walk }) access)
      → WalkingStands ctl Fresh' (option_map (λ (a : Kind × ℕ). record { view = number_view tables e; va = record { 0 = a.1 }; walk = walk }) access)
  reach_walk e walk None other k = tt
  reach_walk e walk (Some access) other k = other_walk (number_view tables e) (record { 0 = access.1 }) walk other k

  instruction_walk : (e : ℕ) (r : Enclave) (micro : Micro) (b : Bool) → eqb space.0 (e + 1) ≡ b → WalkingStands ctl Fresh (walking_of tables e r micro)
      → WalkingStands ctl Fresh' (walking_of tables e r (if b then Fetching Start else micro))
  instruction_walk e r micro true is k = tt
  instruction_walk e r (Fetching walk) false is k = other_walk (number_view tables e) (record { 0 = r.context.pc }) walk (λ same. eqb-false space.0 (e + 1) is (sym same)) k
  instruction_walk e r (Reaching word walk) false is k = reach_walk e walk (access_of (act_of r.context word)) (λ same. eqb-false space.0 (e + 1) is (sym same)) k
  instruction_walk e r (Faulting va access) false is k = tt

  host_walk : (va : Va) (walk : Walk) (b : Bool) → eqb space.0 0 ≡ b → WalkStands ctl Fresh (host_view tables) va walk → WalkStands ctl Fresh' (host_view tables) va (if b then Start else walk)
  host_walk va walk true is k = tt
  host_walk va walk false is k = other_walk (host_view tables) va walk (λ same. eqb-false space.0 0 is (sym same)) k

  -- after a fence of a space an access there has no walk, and those in other spaces stand
  restarted_walk : (rec : ℕ → Enclave) (line : Option Line) (under : Under) → WalkingStands ctl Fresh (walking tables rec line under)
      → WalkingStands ctl Fresh' (walking tables rec line (restarted space line under))
  restarted_walk rec (Some (Load va)) (Seeking walk) k = host_walk va walk (eqb space.0 0) refl k
  restarted_walk rec (Some (Store va word)) (Seeking walk) k = host_walk va walk (eqb space.0 0) refl k
  restarted_walk rec (Some (Run e budget)) (Running micro count) k = instruction_walk e.0 (rec e.0) micro (eqb space.0 (e.0 + 1)) refl k
  restarted_walk rec (Some (Resume e budget)) (Running micro count) k = instruction_walk e.0 (rec e.0) micro (eqb space.0 (e.0 + 1)) refl k
  restarted_walk rec line under k = tt

-- ---- the event

module _ (digest_of : List ℕ → List ℕ) (room_stays : RoomStays) (w : WorldData) (k : Kept digest_of w) (none : w.collision ≡ None) (hart : ℕ) (below : hart < w.setup.harts) (requester : ℕ)
    (posted_there : requester < length w.fences) where
  abbrev s : Monitor
  s = state_of w

  -- nothing of owners, numbers and bytes changes
  frame : HostFrame digest_of w w.ctl w.owners s
  frame = record {
    kept = k.trees;
    same_zones = refl;
    same_slots = refl;
    bytes = λ i old. old;
    pages = λ page behind within. refl;
    pool = refl;
    guarded = λ page is. is;
    guards = λ page is. is;
    owned = λ e page is. is;
    owners_agree = record { owner = k.stands.owners.owner; maps = k.stands.owners.maps };
    numbers = λ e. refl;
    attacks = refl;
    host = k.stands.host;
  }

  -- whatever fence it is
  module _ (fence : Fence) (is : fence_of w.fences requester ≡ Some fence) where
    abbrev u : Under
    u = restarted fence.space (hart_line w hart) (under_at w.under hart)

    abbrev under' : List Under
    under' = slice_set w.under hart u

    abbrev fences' : List (Option Fence)
    fences' = acked w.fences hart requester

    abbrev kept_entries : List TlbEntry
    kept_entries = without_covered (tlb_at w.tlbs hart) fence.space fence.vpn

    abbrev tlbs' : List (List TlbEntry)
    tlbs' = slice_set w.tlbs hart kept_entries

    moves : LineMoves w hart under' w.answered w.history s u (answered_at w.answered hart)
    moves = goes_on_line digest_of room_stays w k hart below u (restarted_begun fence.space (hart_line w hart) (under_at w.under hart))

    few : length w.fences ≤ 8
    few = k.stands.translations.fences_stand.needs_others.few

    inside : (other : ℕ) → other < w.setup.harts → other < length w.fences
    inside other there = subst (λ n. other < n) (sym k.stands.translations.fences_stand.size) there

    agrees : FenceStands (Some fence) (removals_by s.removals requester)
    agrees = subst (λ f. FenceStands f (removals_by s.removals requester)) is (k.stands.translations.fences_stand.each requester)

    -- translations that the fence doesn't cover stay fresh
    own_fresh : (entry : TlbEntry) → is_covered fence.space fence.vpn entry ≡ false → IsFresh w.setup (enclave_at w.enclaves) s w.fences hart entry → IsFresh w.setup (enclave_at w.enclaves) s fences' hart entry
    own_fresh entry passed (inl host) = inl (record {
      mapping = host.mapping;
      is = host.is;
      fresh = acked_used_own w.fences hart requester fence is posted_there few (inside hart below) s host.mapping agrees
          (subst (λ x. is_covered fence.space fence.vpn x ≡ false) host.is passed) host.fresh;
    })
    own_fresh entry passed (inr number) = inr (record { e = number.e; mapping = number.mapping; is = number.is; fresh = still number.fresh })
      where
        still : MayUseNumber w.setup (enclave_at w.enclaves) s w.fences hart number.e number.mapping
            → MayUseNumber w.setup (enclave_at w.enclaves) s fences' hart number.e number.mapping
        still (inl there) = inl there
        still (inr owed) = inr (acked_owed_own w.fences hart requester fence is posted_there few (inside hart below) number.e number.mapping
            (subst (λ x. is_covered fence.space fence.vpn x ≡ false) number.is passed) owed)

    giving : (other : ℕ) → NumberFenceStands (hart_line w other) (under_at w.under other) (fence_of fences' other)
    giving = everywhere (λ other. NumberFenceStands (hart_line w other) (under_at w.under other) (fence_of fences' other)) requester
        (subst (NumberFenceStands (hart_line w requester) (under_at w.under requester)) (sym (acked_same w.fences hart requester fence is posted_there few (inside hart below)))
        (acked_gives (hart_line w requester) (under_at w.under requester) fence hart
        (subst (NumberFenceStands (hart_line w requester) (under_at w.under requester)) is (k.stands.translations.giving requester))))
        (λ other differs. subst (NumberFenceStands (hart_line w other) (under_at w.under other)) (sym (fence_of-set_other w.fences requester other _ differs)) (k.stands.translations.giving other))

    change : HostChange w hart w.ctl tlbs' fences' s (hart_line w) (under_at under')
    change = record {
      host = k.stands.translations.tables.host;
      harts = length-set w.tlbs hart kept_entries;
      fences_stand = fences_acked w.setup.harts w.fences s.removals k.stands.translations.fences_stand hart below requester fence is posted_there;
      removals = λ other differs. refl;
      own_removals = subst (λ v. RemovalStands (hart_line w hart) v (removals_by s.removals hart)) (sym moves.under_change.here)
          (restarted_removal fence.space (hart_line w hart) (under_at w.under hart) (removals_by s.removals hart) (k.stands.translations.removals hart));
      others = λ other differs. or_other w.tlbs hart other kept_entries [] differs;
      used = λ other there differs m. acked_used w.fences hart requester fence is posted_there few (inside hart below) s other m (inside other there) differs;
      owed = λ other there differs e vpn. acked_owed w.fences hart requester fence is posted_there few (inside hart below) other e vpn (inside other there) differs;
      giving = everywhere (λ other. NumberFenceStands (hart_line w other) (under_at under' other) (fence_of fences' other)) hart
          (subst (λ v. NumberFenceStands (hart_line w hart) v (fence_of fences' hart)) (sym moves.under_change.here)
          (restarted_giving fence.space (hart_line w hart) (under_at w.under hart) (fence_of fences' hart) (giving hart)))
          (λ other differs. subst (λ v. NumberFenceStands (hart_line w other) v (fence_of fences' other)) (sym (moves.under_change.others other differs)) (giving other));
      own = subst (All (IsFresh w.setup (enclave_at w.enclaves) s fences' hart)) (sym (or_same w.tlbs hart kept_entries [] (subst (λ n. hart < n) (sym k.stands.translations.harts) below)))
          (left_all (IsFresh w.setup (enclave_at w.enclaves) s w.fences hart) (IsFresh w.setup (enclave_at w.enclaves) s fences' hart) fence.space fence.vpn own_fresh (tlb_at w.tlbs hart) (k.stands.translations.fresh.entries hart));
      lines = λ other differs. refl;
      unders = moves.under_change.others;
      own_walk = subst (λ v. WalkingStands w.ctl (IsFresh w.setup (enclave_at w.enclaves) s fences' hart) (walking w.setup.tables (enclave_at w.enclaves) (hart_line w hart) v)) (sym moves.under_change.here)
          (restarted_walk w.setup.tables w.ctl (IsFresh w.setup (enclave_at w.enclaves) s w.fences hart) (IsFresh w.setup (enclave_at w.enclaves) s fences' hart) fence.space
          (λ entry other. own_fresh entry (other_uncovered fence.space fence.vpn entry other)) (enclave_at w.enclaves) (hart_line w hart) (under_at w.under hart)
          (k.stands.translations.fresh.walks hart));
    }

    attacks : OnlyAttacksDiffer w.setup.zones w.ctl.off_chip w.ctl.mirror s.attacks w.owners (enclave_at w.enclaves) s.number (hart_line w) (under_at under')
    attacks = record {
      nodes = k.stands.attacks.nodes;
      guarded = k.stands.attacks.guarded;
      made = k.stands.attacks.made;
      put = λ other p. everywhere (λ other. HasPut (hart_line w other) (under_at under' other) p → PageAgrees w.ctl.off_chip w.ctl.mirror s.attacks p) hart
          (λ put. k.stands.attacks.put hart p (restarted_put fence.space (hart_line w hart) (under_at w.under hart) p (subst (λ v. HasPut (hart_line w hart) v p) moves.under_change.here put)))
          (λ other differs put. k.stands.attacks.put other p (subst (λ v. HasPut (hart_line w other) v p) (moves.under_change.others other differs) put)) other;
    }

    fence_acked : Kept digest_of (acknowledged w hart requester (Some fence))
    fence_acked = row_kept digest_of w hart w.ctl w.owners w.enclaves tlbs' fences' under' w.answered w.history s u (answered_at w.answered hart) k none (record {
      line = moves;
      sizes = same_sizes w.setup w.ctl w.owners w.enclaves;
      trees = k.trees;
      owners_agree = record { owner = k.stands.owners.owner; maps = k.stands.owners.maps };
      records = k.stands.records;
      pages_agree = k.stands.pages;
      enclaves_agree = k.stands.enclaves;
      host = k.stands.host;
      attacks = attacks;
      other_lines = λ other differs. k.stands.lines other;
      own_line = restarted_line w.setup (written_page w) (enclave_at w.enclaves) s.number hart fence.space (hart_line w hart) (under_at w.under hart) (k.stands.lines hart);
      own_apart = λ other e differs own theirs. differs (k.stands.apart other hart e theirs (sym (restarted_number fence.space (hart_line w hart) (under_at w.under hart)) ∙ own));
      translations = host_changed digest_of w k w.ctl w.owners s frame hart tlbs' fences' (hart_line w) (under_at under') change;
    })

  pub acknowledged_kept : Kept digest_of (acknowledged w hart requester (fence_of w.fences requester))
  acknowledged_kept = by_fence (fence_of w.fences requester) refl
    where
      by_fence : (o : Option Fence) → fence_of w.fences requester ≡ o → Kept digest_of (acknowledged w hart requester o)
      by_fence None is = k
      by_fence (Some fence) is = fence_acked fence is
