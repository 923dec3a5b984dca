-- The later events of `create`, `shadow` and `fork`: each puts one page, of the image or of the number's tables.
use Rattle.std.specs.Prelude.{ℕ, ◌≡◌, ◌+◌, ◌==◌, Bool, true, false, if◌then◌else◌, List, length, Some}
use Rattle.pl_base.specs.declared.state.State.{State}
use Rattle.pl_base.specs.declared.state.State.TheVariants as state_is
use Rattle.mem_slots.specs.declared.slot_use.SlotUse.{SlotUse}
use Rattle.mem_ctl.specs.Calls.{put_page_of}
use Rattle.mem_ctl.specs.Data.{CtlData, Going, Outcome, Value, Fault, Collision, Again, After, and_then, answer, going}
use Rattle.mem_ctl.specs.Results.{AreGiven}
use Rattle.mem_ctl.specs.Stops.{StepAnswer, answer_to}
use Rattle.mon_image.specs.declared.image.Image.{Image}
use Rattle.mon_enclave.specs.declared.enclave.Enclave.{Enclave}
use Rattle.mon_enclave.specs.Records.{enclave_at, with_enclave}
use Rattle.mon_life.specs.Pages.{PagePut, page_put_at}

-- the number of the step after the last one: a shadow has no tables
abbrev pub steps_of : Bool → ℕ → ℕ
steps_of shadow image_pages = if shadow then image_pages else image_pages + 3

-- the state of a number that is made
abbrev pub made_state : Bool → State
made_state shadow = if shadow then state_is.Sealed else state_is.Fresh

abbrev pub in_state : List Enclave → ℕ → State → List Enclave
in_state enclaves e now = with_enclave enclaves e (record (enclave_at enclaves e) { state = now })

-- with the last page the number is made; a fault leaves it with its pages
abbrev pub enclaves_after : Outcome Bool → Bool → List Enclave → ℕ → List Enclave
enclaves_after (Value true) shadow enclaves e = in_state enclaves e (made_state shadow)
enclaves_after (Value false) shadow enclaves e = enclaves
enclaves_after (Fault place) shadow enclaves e = in_state enclaves e state_is.Faulted
enclaves_after (Collision place held written) shadow enclaves e = enclaves
enclaves_after (Again taken root) shadow enclaves e = enclaves

-- whether this was the last page, the controller after it, and the records after it
pub record CreatePut : Type 0 where
  pub put : After Bool
  pub enclaves : List Enclave

abbrev pub create_put_by : After Bool → Bool → List Enclave → ℕ → CreatePut
create_put_by put shadow enclaves e = record { put = put; enclaves = enclaves_after put.outcome shadow enclaves e }

module _ (digest_of : List ℕ → List ℕ) where
  -- a page is put, and the answer is whether it is the last
  unfoldable pub put_at : PagePut → Bool → Going → After Bool
  put_at put last g = and_then (put_page_of digest_of put.page put.bytes g) (λ _ h. answer last h)

  -- step `at` of the line that makes number e, as an enclave or as a shadow
  unfoldable pub create_put : ℕ → ℕ → Image → Bool → ℕ → List Enclave → Going → CreatePut
  create_put tables e image shadow at enclaves g =
      create_put_by (put_at (page_put_at tables e image (enclave_at enclaves e).pages at) (at + 1 == steps_of shadow (length image.pages)) g)
      shadow enclaves e

-- what a step answered, and the data and the records after it, are those of its function, with positions that the choice answers on the
-- slots that it is shown
pub record IsCreatePut (gives : List SlotUse → ℕ → Type 0) (step : Going → CreatePut) (old : CtlData) (answered : StepAnswer Bool) (new : CtlData) (records : List Enclave) : Type 0 where
  pub positions : List ℕ
  pub given : AreGiven gives (step (going old positions)).put.after.shown positions
  pub is : answer_to (step (going old positions)).put.outcome ≡ Some answered
  pub now : new ≡ (step (going old positions)).put.after.ctl
  pub made : records ≡ (step (going old positions)).enclaves
