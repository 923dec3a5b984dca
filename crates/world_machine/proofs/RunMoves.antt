-- An event of a run under way: what a world keeps, from what is known of the number's record and of the controller after an access.
use Rattle.std.proofs.Common.{◌≡◌, ℕ, ◌<◌, Bool, true, false, List, length, slice_get, Some, None, refl, sym, ◌∙◌, subst, arith, inl, inr}
use Rattle.std.specs.Prelude.{Contains}
use Rattle.std.proofs.lemmas.Bool.{false≢true}
use Rattle.pl_base.specs.declared.number.EncNo.{EncNo}
use Rattle.pl_base.specs.declared.state.Why.{Why}
use Rattle.rv_tlb.specs.declared.tlb.TlbEntry.{TlbEntry}
use Rattle.mem_ctl.specs.Access as left_so
use Rattle.mem_ctl.specs.Data.{CtlData}
use Rattle.mem_geom.specs.Parts.{page_bytes}
use Rattle.mon_enclave.specs.declared.enclave.Enclave.{Enclave}
use Rattle.mon_enclave.specs.Records.{enclave_at, free_enclave, with_enclave}
use Rattle.mon_tables.specs.Tables.{table_number}
use Rattle.rv_hart.specs.declared.walks.Micro.{Micro}
use Rattle.pl_history.specs.declared.answer.Answer.TheVariants as answer_is
use Rattle.pl_history.specs.declared.line.Line.{Line}
use Rattle.pl_history.specs.declared.line.Line.TheVariants as line_is
use Rattle.pl_history.specs.declared.setup.SetupParts.{SetupParts}
use Rattle.pl_history.specs.History.{HistoryData}
use Rattle.pl_history.specs.Legal.{AllowedAnswer, after_answer}
use Rattle.pl_history.specs.Licence.{Licensed}
use Rattle.pl_history.specs.Monitor.{Monitor, Number, answer, script_of}
use Rattle.pl_history.specs.Running.{Leaves, left}
use Rattle.world_machine.specs.declared.under.Under.{Under}
use Rattle.world_machine.specs.declared.under.Under.TheVariants.{Running}
use Rattle.world_machine.specs.BytesAgree.{HasPut}
use Rattle.world_machine.specs.EnclavesAgree.{EnclaveStands, IsOwn}
use Rattle.world_machine.specs.LinesUnderWay.{IsRunning, LineUnderWay, number_under_way}
use Rattle.world_machine.specs.RecordsAgree.{RecordAgrees}
use Rattle.world_machine.specs.Standing.{Kept, state_of}
use Rattle.world_machine.specs.TranslationsAgree.{walking, walking_of}
use Rattle.world_machine.specs.Worlds.{WorldData, hart_line, under_at}
use Rattle.world_machine.proofs.LineMoves.{LineMoves}
use Rattle.world_machine.proofs.LineTranslations.{isnt_waiting}
use Rattle.world_machine.proofs.Lists.{changed_set}
use Rattle.world_machine.proofs.NumberRows.{AllButOneStay, HartTranslates, IsPageOfNumber, NumberBecomes, number_row, own_leaves_tables}
use Rattle.world_machine.proofs.RowKept.{with_parts}
use Rattle.world_machine.specs.Pages.{numbers_of}
use Rattle.world_machine.specs.PagesAgree.{PagesAre}
use Rattle.world_machine.proofs.StandingEnclaves.{KeepsPages}
use Rattle.world_machine.proofs.LiveEnclaves.{live_made}

-- ---- a line that runs a number: `run`, which is the first, or `resume`

abbrev pub run_line : Bool → EncNo → ℕ → Line
run_line true e budget = line_is.Run e budget
run_line false e budget = line_is.Resume e budget

pub runs_number : (first : Bool) (e : EncNo) (budget count : ℕ) (micro : Micro) → number_under_way (Some (run_line first e budget)) (Running micro count) ≡ Some e.0
runs_number true e budget count micro = refl
runs_number false e budget count micro = refl

-- the walk of a run is that of its instruction
pub run_walking : (tables : ℕ) (rec : ℕ → Enclave) (first : Bool) (e : EncNo) (budget count : ℕ) (micro : Micro)
    → walking tables rec (Some (run_line first e budget)) (Running micro count) ≡ walking_of tables e.0 (rec e.0) micro
run_walking tables rec true e budget count micro = refl
run_walking tables rec false e budget count micro = refl

module _ (setup : SetupParts) (bytes_of : ℕ → List ℕ) (rec : ℕ → Enclave) (number : ℕ → Number) (hart budget count : ℕ) (micro : Micro) (e : EncNo) where
  pub is_running : (first : Bool) → LineUnderWay setup bytes_of rec number hart (Some (run_line first e budget)) (Running micro count) → IsRunning setup bytes_of (rec e.0) (number e.0) hart budget count micro
  is_running true k = k
  is_running false k = k

  pub running_is : (first : Bool) → IsRunning setup bytes_of (rec e.0) (number e.0) hart budget count micro → LineUnderWay setup bytes_of rec number hart (Some (run_line first e budget)) (Running micro count)
  running_is true k = k
  running_is false k = k

pub may_leave : (setup : SetupParts) (s : Monitor) (first : Bool) (e : EncNo) (budget count : ℕ) (why : Why) → Leaves setup (Licensed setup s (run_line first e budget)) (s.number e.0) budget (answer_is.Left count why)
    → AllowedAnswer setup s (run_line first e budget) true (answer_is.Left count why)
may_leave setup s true e budget count why k = k
may_leave setup s false e budget count why k = k

pub left_gives : (s : Monitor) (hart : ℕ) (first : Bool) (e : EncNo) (budget count : ℕ) (why : Why) → after_answer s hart (run_line first e budget) (answer_is.Left count why) ≡ answer (left s e.0 count why) hart
left_gives s hart true e budget count why = refl
left_gives s hart false e budget count why = refl

-- nothing is put by a run
pub no_put : (first : Bool) (e : EncNo) (budget count page : ℕ) (micro : Micro) → HasPut (Some (run_line first e budget)) (Running micro count) page → ⊥
no_put true e budget count page micro k = k
no_put false e budget count page micro k = k

-- ---- what an access leaves

-- The controller after an access of number e: its trees are kept, and all pages but one of the number stay, and its tables.
pub record AfterAccess (digest_of : List ℕ → List ℕ) (w : WorldData) (e : ℕ) (ctl : CtlData) : Type 0 where
  pub leaves : left_so.Leaves digest_of w.ctl ctl
  pub page : ℕ
  pub of_number : IsPageOfNumber w.setup w.owners e page
  pub stay : AllButOneStay page w.ctl ctl
  pub tables : (level : ℕ) → level < 3 → page_bytes ctl.mirror (table_number w.setup.tables e level) ≡ page_bytes w.ctl.mirror (table_number w.setup.tables e level)

-- no access
pub no_access : (digest_of : List ℕ → List ℕ) (w : WorldData) (e : ℕ) → Kept digest_of w → AfterAccess digest_of w e w.ctl
no_access digest_of w e k = record {
  leaves = record { kept = k.trees; same_zones = refl; same_slots = refl; still_written = λ index is. is };
  page = table_number w.setup.tables e 0;
  of_number = inr (0, omega arith, refl);
  stay = record { off_chip = λ other below differs. refl; mirror = λ other below differs. refl };
  tables = λ level low. refl;
}

-- an access that changes a page of the number's own
pub own_access : (digest_of : List ℕ → List ℕ) (w : WorldData) (e page : ℕ) (ctl : CtlData) → Kept digest_of w → e < w.setup.enclaves → left_so.Leaves digest_of w.ctl ctl → IsOwn w.owners e page
    → AllButOneStay page w.ctl ctl → AfterAccess digest_of w e ctl
own_access digest_of w e page ctl k there leaves own stay =
    record { leaves = leaves; page = page; of_number = inl own; stay = stay; tables = own_leaves_tables digest_of w k e there page ctl own stay }

module _ (digest_of : List ℕ → List ℕ) (w : WorldData) (k : Kept digest_of w) (none : w.collision ≡ None) (hart e : ℕ) (there : e < length w.enclaves)
    (runs : number_under_way (hart_line w hart) (under_at w.under hart) ≡ Some e) (waited : isnt_waiting (under_at w.under hart) ≡ true) (ctl : CtlData) (access : AfterAccess digest_of w e ctl) (r : Enclave) (n : Number) (s' : Monitor)
    (becomes : NumberBecomes (state_of w) s' e n) (was_live : ((state_of w).number e).live ≡ true) (live : n.live ≡ true) (own_pages : n.pages ≡ ((state_of w).number e).pages) (keeps : KeepsPages (enclave_at w.enclaves e) r)
    (agrees : RecordAgrees r n) (pages_now : PagesAre w.setup (state_of w).number r n) (stands : EnclaveStands w.setup (page_bytes ctl.mirror) w.owners e r n) where
  -- the run's event keeps what a world keeps, where what is so far of its own line stands
  pub run_moved : (under : List Under) (answered : List ℕ) (history : HistoryData) (u : Under) (count : ℕ) → LineMoves w hart under answered history s' u count
      → LineUnderWay w.setup (page_bytes ctl.mirror) (enclave_at (with_enclave w.enclaves e r)) s'.number hart (slice_get (script_of w.setup hart) count) u
      → ((f : ℕ) → number_under_way (slice_get (script_of w.setup hart) count) u ≡ Some f → f ≡ e)
      → ((page : ℕ) → HasPut (slice_get (script_of w.setup hart) count) u page → ⊥)
      → (tlbs : List (List TlbEntry)) → HartTranslates w hart ctl (with_enclave w.enclaves e r) tlbs (slice_get (script_of w.setup hart) count) u
      → Kept digest_of (with_parts w ctl w.owners (with_enclave w.enclaves e r) tlbs w.fences under answered history)
  run_moved under answered history u count line own_line own_number own_put tlbs own_translates =
      number_row digest_of w k e (subst (λ m. e < m) k.sizes.numbers there) none hart runs waited ctl access.leaves access.page access.of_number access.stay
      (with_enclave w.enclaves e r) r (changed_set free_enclave w.enclaves e r there) s' n becomes under answered history u count line agrees pages_now own_pages stands
      (λ own is made k_th few unattacked. access.leaves.still_written _ (k.stands.attacks.made own e (subst (λ kinds. Contains (numbers_of kinds) own) keeps.pages is) (live_made ((state_of w).number e) was_live) k_th few unattacked))
      (λ own put. absurd (own_put own put)) own_line own_number
      (record {
        keeps = λ was. record { live = live; image = keeps.image; pages = keeps.pages };
        tables = λ level was low. access.tables level low;
        made = λ was now_live. absurd (false≢true (sym was ∙ was_live));
      })
      tlbs own_translates
