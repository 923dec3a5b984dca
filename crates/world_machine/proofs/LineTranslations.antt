-- What the translations say of a hart's line: what it takes away, which fence it posted, and where its walk stands after an event of another hart.
use Rattle.std.proofs.Common.{◌≡◌, ℕ, ◌+◌, Bool, true, false, List, [], Option, Some, None, option_map, refl, ap, sym, ◌∙◌, subst}
use Rattle.pl_base.specs.Address.{vpn_of}
use Rattle.pl_base.specs.declared.access.Kind.{Kind}
use Rattle.pl_base.specs.declared.address.Va.{Va}
use Rattle.pl_base.specs.declared.address.Vpn.{Vpn}
use Rattle.rv_alone.specs.declared.step.Context.{Context}
use Rattle.rv_alone.specs.Effect.{act_of}
use Rattle.rv_hart.specs.declared.walks.Micro.{Micro}
use Rattle.rv_hart.specs.declared.walks.Micro.TheVariants.{Fetching, Reaching, Faulting}
use Rattle.rv_hart.specs.declared.walks.View.{View}
use Rattle.rv_hart.specs.declared.walks.Walk.{Walk}
use Rattle.rv_hart.specs.declared.walks.Walk.TheVariants.{Start, Level, Found}
use Rattle.rv_sv39.specs.Walk.{table_at}
use Rattle.rv_tlb.specs.declared.tlb.TlbEntry.{TlbEntry}
use Rattle.mem_ctl.specs.Data.{CtlData}
use Rattle.mon_enclave.specs.declared.enclave.Enclave.{Enclave}
use Rattle.mon_fence.specs.declared.fences.Fence.{Fence}
use Rattle.mon_host.specs.Laws.{mirror_words}
use Rattle.mon_tables.specs.Space.{Mapping}
use Rattle.mon_tables.specs.Tables.{root_of}
use Rattle.pl_history.specs.declared.line.Line.{Line}
use Rattle.pl_history.specs.declared.line.Line.TheVariants.{Load, Store, Unmap, Create, Shadow, Fork, Run, Resume, Destroy}
use Rattle.pl_history.specs.declared.setup.SetupParts.{SetupParts}
use Rattle.pl_history.specs.Monitor.{Number}
use Rattle.world_machine.specs.declared.under.Under.{Under}
use Rattle.world_machine.specs.declared.under.Under.TheVariants.{Idle, Seeking, Removing, Destroying, Putting, Running, Breaking}
use Rattle.world_machine.specs.FencesStand.{NumberFenceStands, IsOfHost, RemovalStands}
use Rattle.world_machine.specs.LinesUnderWay.{IsRunning, LineUnderWay, access_of, number_under_way}
use Rattle.world_machine.specs.RecordsAgree.{LiveAgrees, RecordsAgree, is_begun}
use Rattle.world_machine.specs.Translating.{host_view, number_view}
use Rattle.world_machine.specs.TranslationsAgree.{WalkStands, Walking, WalkingStands, walking, walking_of}

-- ---- what a line takes away or gives back

-- a line that is so far waits for no acknowledgement: it is no begun `unmap` or `destroy`, and broke no page
abbrev pub isnt_waiting : Under → Bool
isnt_waiting (Removing page) = false
isnt_waiting Destroying = false
isnt_waiting (Breaking count index) = false
isnt_waiting under = true

-- a line that hasn't begun doesn't wait
pub unbegun_waits_none : (under : Under) → is_begun under ≡ false → isnt_waiting under ≡ true
unbegun_waits_none Idle is = refl
unbegun_waits_none (Seeking walk) is = refl
unbegun_waits_none under is = (let clash : true ≡ false = is in cc)

-- a line that doesn't wait takes nothing away
pub none_removed : (line : Option Line) (under : Under) (removed : List Mapping) → isnt_waiting under ≡ true → RemovalStands line under removed → removed ≡ []
none_removed (Some (Unmap va)) (Removing page) removed is k = (let clash : false ≡ true = is in cc)
none_removed line under removed is k = k

pub removes_none : (line : Option Line) (under : Under) (removed : List Mapping) → isnt_waiting under ≡ true → removed ≡ [] → RemovalStands line under removed
removes_none (Some (Unmap va)) (Removing page) removed is none = (let clash : false ≡ true = is in absurd (let h : ⊥ = cc in h))
removes_none line under removed is none = none

-- and its fence is none, or of the host's space
pub none_given : (line : Option Line) (under : Under) (fence : Option Fence) → isnt_waiting under ≡ true → NumberFenceStands line under fence → IsOfHost fence
none_given (Some (Destroy e)) Destroying fence is k = (let clash : false ≡ true = is in absurd (let h : ⊥ = cc in h))
none_given (Some (Run e budget)) (Breaking count index) fence is k = (let clash : false ≡ true = is in absurd (let h : ⊥ = cc in h))
none_given (Some (Resume e budget)) (Breaking count index) fence is k = (let clash : false ≡ true = is in absurd (let h : ⊥ = cc in h))
none_given line under fence is k = k

pub gives_none : (line : Option Line) (under : Under) (fence : Option Fence) → isnt_waiting under ≡ true → IsOfHost fence → NumberFenceStands line under fence
gives_none (Some (Destroy e)) Destroying fence is of_host = (let clash : false ≡ true = is in absurd (let h : ⊥ = cc in h))
gives_none (Some (Run e budget)) (Breaking count index) fence is of_host = (let clash : false ≡ true = is in absurd (let h : ⊥ = cc in h))
gives_none (Some (Resume e budget)) (Breaking count index) fence is of_host = (let clash : false ≡ true = is in absurd (let h : ⊥ = cc in h))
gives_none line under fence is of_host = of_host

-- ---- walks

-- a line that hasn't begun has no walk
pub idle_walks : (ctl : CtlData) (Fresh : TlbEntry → Type 0) (tables : ℕ) (rec : ℕ → Enclave) (line : Option Line) → WalkingStands ctl Fresh (walking tables rec line Idle)
idle_walks ctl Fresh tables rec None = tt
idle_walks ctl Fresh tables rec (Some (Load va)) = tt
idle_walks ctl Fresh tables rec (Some (Store va word)) = tt
idle_walks ctl Fresh tables rec (Some (Run e budget)) = tt
idle_walks ctl Fresh tables rec (Some (Resume e budget)) = tt
idle_walks ctl Fresh tables rec (Some line) = tt

-- the walk of an instruction is the same where its context is
same_walking : (tables e : ℕ) (r r' : Enclave) (micro : Micro) → r'.context ≡ r.context → walking_of tables e r' micro ≡ walking_of tables e r micro
same_walking tables e r r' (Fetching walk) same = ap (λ (c : Context). Some (record { view = number_view tables e; va = record { 0 = c.pc }; walk = walk })) same
same_walking tables e r r' (Reaching word walk) same =
    ap (λ (c : Context). option_map (λ (access : Kind × ℕ). record { view = number_view tables e; va = record { 0 = access.1 }; walk = walk }) (access_of (act_of c word))) same
same_walking tables e r r' (Faulting va access) same = refl

-- a walk stands with more translations that may be used
fresh_walk : (ctl : CtlData) (Fresh Fresh' : TlbEntry → Type 0) → ((entry : TlbEntry) → Fresh entry → Fresh' entry) → (view : View) (va : Va) (walk : Walk) → WalkStands ctl Fresh view va walk → WalkStands ctl Fresh' view va walk
fresh_walk ctl Fresh Fresh' fresh view va Start k = tt
fresh_walk ctl Fresh Fresh' fresh view va (Level level table) k = k
fresh_walk ctl Fresh Fresh' fresh view va (Found ppn perms) k = fresh _ k

pub fresh_walking : (ctl : CtlData) (Fresh Fresh' : TlbEntry → Type 0) → ((entry : TlbEntry) → Fresh entry → Fresh' entry) → (walking : Option Walking) → WalkingStands ctl Fresh walking → WalkingStands ctl Fresh' walking
fresh_walking ctl Fresh Fresh' fresh None k = tt
fresh_walking ctl Fresh Fresh' fresh (Some walking) k = fresh_walk ctl Fresh Fresh' fresh walking.view walking.va walking.walk k

-- Fresh translations stay so, and a walk from the host's root and from that of a live number comes to the same tables.
module _ (tables : ℕ) (ctl ctl' : CtlData) (Fresh Fresh' : TlbEntry → Type 0) (fresh : (entry : TlbEntry) → Fresh entry → Fresh' entry) (number : ℕ → Number)
    (host : (vpn : Vpn) (level : ℕ) → table_at (mirror_words ctl') (root_of tables 0) vpn level ≡ table_at (mirror_words ctl) (root_of tables 0) vpn level)
    (numbers : (e : ℕ) → (number e).live ≡ true → (vpn : Vpn) (level : ℕ) → table_at (mirror_words ctl') (root_of tables (e + 1)) vpn level ≡ table_at (mirror_words ctl) (root_of tables (e + 1)) vpn level) where
  walk_stays : (view : View) (va : Va) (walk : Walk) → ((vpn : Vpn) (level : ℕ) → table_at (mirror_words ctl') view.root vpn level ≡ table_at (mirror_words ctl) view.root vpn level)
      → WalkStands ctl Fresh view va walk → WalkStands ctl' Fresh' view va walk
  walk_stays view va Start same k = tt
  walk_stays view va (Level level table) same k = (k.0, same (vpn_of va) level ∙ k.1)
  walk_stays view va (Found ppn perms) same k = fresh _ k

  reach_stays : (e : ℕ) (walk : Walk) (access : Option (Kind × ℕ)) → (number e).live ≡ true
      → WalkingStands ctl Fresh (option_map (λ (a : Kind × ℕ). record { view = number_view tables e; va = record { 0 = a.1 }; walk = walk }) access)
      → WalkingStands ctl' Fresh' (option_map (λ (a : Kind × ℕ). record { view = number_view tables e; va = record { 0 = a.1 }; walk = walk }) access)
  reach_stays e walk None live k = tt
  reach_stays e walk (Some access) live k = walk_stays (number_view tables e) (record { 0 = access.1 }) walk (numbers e live) k

  instruction_stays : (e : ℕ) (r : Enclave) (micro : Micro) → (number e).live ≡ true → WalkingStands ctl Fresh (walking_of tables e r micro) → WalkingStands ctl' Fresh' (walking_of tables e r micro)
  instruction_stays e r (Fetching walk) live k = walk_stays (number_view tables e) (record { 0 = r.context.pc }) walk (numbers e live) k
  instruction_stays e r (Reaching word walk) live k = reach_stays e walk (access_of (act_of r.context word)) live k
  instruction_stays e r (Faulting va access) live k = tt

  module _ (setup : SetupParts) (bytes : ℕ → List ℕ) (rec rec' : ℕ → Enclave) (records : RecordsAgree rec number) where
    running_stays : (hart e budget count : ℕ) (micro : Micro) → IsRunning setup bytes (rec e) (number e) hart budget count micro → (rec' e).context ≡ (rec e).context
        → WalkingStands ctl Fresh (walking_of tables e (rec e) micro) → WalkingStands ctl' Fresh' (walking_of tables e (rec' e) micro)
    running_stays hart e budget count micro runs same k =
        subst (WalkingStands ctl' Fresh') (sym (same_walking tables e (rec e) (rec' e) micro same))
        (instruction_stays e (rec e) micro (subst (λ state. LiveAgrees state (number e).live) runs.state (records e).live) k)

    -- the walk of a line stands where the record of its number keeps its context
    pub line_walks : (hart : ℕ) (line : Option Line) (under : Under) → LineUnderWay setup bytes rec number hart line under
        → ((f : ℕ) → number_under_way line under ≡ Some f → (rec' f).context ≡ (rec f).context)
        → WalkingStands ctl Fresh (walking tables rec line under) → WalkingStands ctl' Fresh' (walking tables rec' line under)
    line_walks hart line Idle lines same k = idle_walks ctl' Fresh' tables rec' line
    line_walks hart (Some (Load va)) (Seeking walk) lines same k = walk_stays (host_view tables) va walk host k
    line_walks hart (Some (Store va word)) (Seeking walk) lines same k = walk_stays (host_view tables) va walk host k
    line_walks hart (Some (Unmap va)) (Removing page) lines same k = tt
    line_walks hart (Some (Create e image pages)) (Putting done) lines same k = tt
    line_walks hart (Some (Shadow e image pages)) (Putting done) lines same k = tt
    line_walks hart (Some (Fork shadow e pages)) (Putting done) lines same k = tt
    line_walks hart (Some (Run e budget)) (Breaking count index) lines same k = tt
    line_walks hart (Some (Resume e budget)) (Breaking count index) lines same k = tt
    line_walks hart (Some (Run e budget)) (Running micro count) lines same k = running_stays hart e.0 budget count micro lines (same e.0 refl) k
    line_walks hart (Some (Resume e budget)) (Running micro count) lines same k = running_stays hart e.0 budget count micro lines (same e.0 refl) k
    line_walks hart (Some (Destroy e)) Destroying lines same k = tt
    line_walks hart line under lines same k = elim lines [ ]
