-- What an instruction comes to, told by its record alone: it retires, stops the run, ends the image, or seeks its data.
use Rattle.std.proofs.Common.{◌≡◌, ℕ, ◌+◌, ◌==◌, Bool, true, false, cond, eqb, List, [], ◌∷◌, ◌++◌, Option, Some, None, refl, ap, sym, subst}
use Rattle.std.specs.Prelude.{if◌then◌else◌}
use Rattle.std.proofs.lemmas.Bool.{eqb-true}
use Rattle.pl_base.specs.declared.access.Kind.{Kind}
use Rattle.pl_base.specs.declared.access.Kind.TheVariants as kind
use Rattle.pl_base.specs.declared.state.Why.{Why}
use Rattle.pl_base.specs.declared.state.Why.TheVariants as why_is
use Rattle.mem_geom.specs.Parts.{page_bytes}
use Rattle.mon_enclave.specs.declared.enclave.Enclave.{Enclave}
use Rattle.mon_enclave.specs.Records.{has_room, received_word}
use Rattle.mon_image.specs.declared.image.Image.{Image}
use Rattle.rv_alone.specs.declared.step.Act.{Act}
use Rattle.rv_alone.specs.declared.step.Act.TheVariants.{Call, Load, Set, Store, Trap}
use Rattle.rv_alone.specs.Effect.{advanced, with_register}
use Rattle.rv_alone.specs.Flat.{ended}
use Rattle.rv_alone.specs.Alone.{alone, one}
use Rattle.rv_hart.specs.declared.walks.Micro.TheVariants.{Reaching}
use Rattle.rv_hart.specs.declared.walks.Walk.TheVariants.{Start}
use Rattle.pl_history.specs.Monitor.{flat_image}
use Rattle.pl_history.specs.Running.{obstacle}
use Rattle.world_machine.specs.declared.under.Under.TheVariants.{Running}
use Rattle.world_machine.specs.Answering.{goes_on}
use Rattle.world_machine.specs.LinesUnderWay.{access_of}
use Rattle.world_machine.specs.Pages.{fault_cause, numbers_of}
use Rattle.world_machine.specs.Running.{RunNow, acts, calls, leaves, receives, retired_with, retires, sends}
use Rattle.world_machine.specs.Worlds.{WorldData}
use Rattle.world_machine.proofs.FlatPages.{located}
use Rattle.world_machine.proofs.Instructions.{IsFetched, Retires, call_traps, fetch_traps, flat_of, load_traps, receive_retires, receive_waits, send_full, send_retires, store_traps, trap_traps}
use Rattle.world_machine.proofs.LiveEnclaves.{IsLive, live_exit, live_set}

-- It retires with this record, the run leaves for this reason, EXIT retires with this code, or the data of the instruction is sought.
pub data Way : Type 0 where
  goes_on_with : Enclave → Way
  stops : Why → Way
  ends : ℕ → Way
  seeks : Way

abbrev receives_way : Enclave → Option ℕ → Way
receives_way r None = stops why_is.Waiting
receives_way r (Some word) = goes_on_with (record (retired_with r (advanced (with_register r.context 10 word))) { received = r.received + 1 })

abbrev sends_way : Enclave → ℕ → Way
sends_way r word = if has_room r then goes_on_with (record (retired_with r (advanced r.context)) { out = r.out ++ word ∷ [] }) else stops why_is.OutFull

abbrev calls_way : Enclave → ℕ → ℕ → Way
calls_way r number value =
    if number == 1 then ends value
    else if number == 2 then receives_way r (received_word r)
    else if number == 3 then sends_way r value
    else stops (why_is.Trapped 8 number)

abbrev pub way_of : Enclave → Act → Way
way_of r (Set context) = goes_on_with (retired_with r context)
way_of r (Load address width is_signed rd) = seeks
way_of r (Store address width value) = seeks
way_of r (Call number value) = calls_way r number value
way_of r (Trap cause value) = stops (why_is.Trapped cause value)

-- ---- the world after it

abbrev pub world_by : WorldData → RunNow → Enclave → ℕ → Way → WorldData
world_by w run r word (goes_on_with now) = retires w run now
world_by w run r word (stops why) = leaves w run r run.count why
world_by w run r word (ends code) = leaves w run (retired_with r r.context) (run.count + 1) (why_is.Ended code)
world_by w run r word seeks = goes_on w run.hart (Running (Reaching word Start) run.count)

module _ (w : WorldData) (run : RunNow) (r : Enclave) (word : ℕ) where
  either : (t : Bool) (x y : WorldData) (p q : Way) → x ≡ world_by w run r word p → y ≡ world_by w run r word q → cond t x y ≡ world_by w run r word (cond t p q)
  either true x y p q left right = left
  either false x y p q left right = right

  receives_is : (got : Option ℕ) → receives w run r got ≡ world_by w run r word (receives_way r got)
  receives_is None = refl
  receives_is (Some got) = refl

  sends_is : (value : ℕ) → sends w run r value ≡ world_by w run r word (sends_way r value)
  sends_is value = either (has_room r) _ _ (goes_on_with (record (retired_with r (advanced r.context)) { out = r.out ++ value ∷ [] })) (stops why_is.OutFull) refl refl

  calls_is : (number value : ℕ) → calls w run r number value ≡ world_by w run r word (calls_way r number value)
  calls_is number value =
      either (eqb number 1) _ _ (ends value) _ refl
      (either (eqb number 2) _ _ (receives_way r (received_word r)) _ (receives_is (received_word r))
      (either (eqb number 3) _ _ (sends_way r value) (stops (why_is.Trapped 8 number)) (sends_is value) refl))

  pub acts_is : (act : Act) → acts w run r word act ≡ world_by w run r word (way_of r act)
  acts_is (Set context) = refl
  acts_is (Load address width is_signed rd) = refl
  acts_is (Store address width value) = refl
  acts_is (Call number value) = calls_is number value
  acts_is (Trap cause value) = refl

-- ---- the image run alone goes the same way

-- the next instruction of the record's state doesn't retire, for this reason
abbrev pub Stops : Image → List ℕ → Enclave → Why → Type 0
Stops image memory r why = obstacle false (one (flat_of (page_bytes memory) image.pages r) r.sent) ≡ Some why

abbrev pub GoesBy : Image → List ℕ → Enclave → Act → Way → Type 0
GoesBy image memory r act (goes_on_with now) = Retires image.pages (page_bytes memory) (page_bytes memory) r now
GoesBy image memory r act (stops why) = Stops image memory r why
GoesBy image memory r act (ends code) = alone (flat_image image) r.sent (r.retired + 1) ≡ Some (record (flat_of (page_bytes memory) image.pages r) { status = ended code })
GoesBy image memory r act seeks = (access : Kind × ℕ) × (access_of act ≡ Some access)

module _ (image : Image) (memory : List ℕ) (r : Enclave) (live : IsLive image memory r) (word : ℕ) where
  abbrev Fetched : Act → Type 0
  Fetched = IsFetched image.pages (page_bytes memory) r word

  receive_goes : (value : ℕ) (got : Option ℕ) → received_word r ≡ got → Fetched (Call 2 value) → GoesBy image memory r (Call 2 value) (receives_way r got)
  receive_goes value None none is = ap (obstacle false) (receive_waits image.pages (page_bytes memory) r word value is none)
  receive_goes value (Some got) here is = receive_retires image.pages (page_bytes memory) r word value got is here

  send_goes : (value : ℕ) → Fetched (Call 3 value) → (room : Bool) → has_room r ≡ room
      → GoesBy image memory r (Call 3 value) (cond room (goes_on_with (record (retired_with r (advanced r.context)) { out = r.out ++ value ∷ [] })) (stops why_is.OutFull))
  send_goes value is true room = send_retires image.pages (page_bytes memory) r word value is room
  send_goes value is false none = ap (obstacle false) (send_full image.pages (page_bytes memory) r word value is none)

  call_goes : (number value : ℕ) → Fetched (Call number value) → (a b c : Bool) → eqb number 1 ≡ a → eqb number 2 ≡ b → eqb number 3 ≡ c
      → GoesBy image memory r (Call number value) (cond a (ends value) (cond b (receives_way r (received_word r)) (cond c (sends_way r value) (stops (why_is.Trapped 8 number)))))
  call_goes number value is true b c one_is two_is three_is = live_exit image memory r live word value (subst (λ n. Fetched (Call n value)) (eqb-true number 1 one_is) is)
  call_goes number value is false true c one_is two_is three_is =
      subst (λ n. GoesBy image memory r (Call n value) (receives_way r (received_word r))) (sym (eqb-true number 2 two_is))
      (receive_goes value (received_word r) refl (subst (λ n. Fetched (Call n value)) (eqb-true number 2 two_is) is))
  call_goes number value is false false true one_is two_is three_is =
      subst (λ n. GoesBy image memory r (Call n value) (sends_way r value)) (sym (eqb-true number 3 three_is))
      (send_goes value (subst (λ n. Fetched (Call n value)) (eqb-true number 3 three_is) is) (has_room r) refl)
  call_goes number value is false false false one_is two_is three_is = ap (obstacle false) (call_traps image.pages (page_bytes memory) r word number value is one_is two_is three_is)

  pub goes_by : (act : Act) → Fetched act → GoesBy image memory r act (way_of r act)
  goes_by (Set context) is = live_set image memory r live word context is
  goes_by (Load address width is_signed rd) is = ((kind.Load, address), refl)
  goes_by (Store address width value) is = ((kind.Store, address), refl)
  goes_by (Call number value) is = call_goes number value is (eqb number 1) (eqb number 2) (eqb number 3) refl refl refl
  goes_by (Trap cause value) is = ap (obstacle false) (trap_traps image.pages (page_bytes memory) r word cause value is)

  -- no page of the record lets an access through
  pub fetch_stops : located kind.Fetch image.pages (numbers_of r.pages) r.context.pc ≡ None → Stops image memory r (why_is.Trapped (fault_cause kind.Fetch) r.context.pc)
  fetch_stops none = ap (obstacle false) (fetch_traps image.pages (page_bytes memory) r none)

  pub load_stops : (address width : ℕ) (is_signed : Bool) (rd : ℕ) → Fetched (Load address width is_signed rd) → located kind.Load image.pages (numbers_of r.pages) address ≡ None
      → Stops image memory r (why_is.Trapped (fault_cause kind.Load) address)
  load_stops address width is_signed rd is none = ap (obstacle false) (load_traps image.pages (page_bytes memory) r word address width is_signed rd is none)

  pub store_stops : (address width value : ℕ) → Fetched (Store address width value) → located kind.Store image.pages (numbers_of r.pages) address ≡ None
      → Stops image memory r (why_is.Trapped (fault_cause kind.Store) address)
  store_stops address width value is none = ap (obstacle false) (store_traps image.pages (page_bytes memory) r word address width value is none)
