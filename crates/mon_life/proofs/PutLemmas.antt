-- A step's answer and its records, from what became of the page that it puts.
use Rattle.std.proofs.Common.{ℕ, ◌≡◌, ◌+◌, ◌==◌, Bool, List, length, Some, refl, ap, subst, sym, ◌∙◌}
use Rattle.mem_slots.specs.declared.slot_use.SlotUse.{SlotUse}
use Rattle.mem_ctl.specs.Calls.{put_page_of}
use Rattle.mem_ctl.specs.Data.{CtlData, Going, Outcome, Value, Fault, Collision, Again, After, answer, go_on, going}
use Rattle.mem_ctl.specs.Results.{AreGiven, IsCall}
use Rattle.mem_ctl.specs.Stops.{StepAnswer, answer_to}
use Rattle.mon_image.specs.declared.image.Image.{Image}
use Rattle.mon_enclave.specs.declared.enclave.Enclave.{Enclave}
use Rattle.mon_enclave.specs.declared.enclave.PageKind.{PageKind}
use Rattle.mon_enclave.specs.Records.{enclave_at}
use Rattle.mon_life.specs.Pages.{page_put_at}
use Rattle.mon_life.specs.Putting.{IsCreatePut, create_put, enclaves_after, put_at, steps_of}

-- a page that was put is the last or not; all else is as it was
abbrev pub marked : Outcome (Unit {0}) → Bool → Outcome Bool
marked (Value done) last = Value last
marked (Fault place) last = Fault place
marked (Collision place held written) last = Collision place held written
marked (Again taken root) last = Again taken root

marks : (outcome : Outcome (Unit {0})) (g : Going) (last : Bool)
    → let next : Unit {0} → Going → After Bool = λ _ h. answer last h in
    ((go_on outcome g next).outcome ≡ marked outcome last) × ((go_on outcome g next).after ≡ g)
marks (Value done) g last = (refl, refl)
marks (Fault place) g last = (refl, refl)
marks (Collision place held written) g last = (refl, refl)
marks (Again taken root) g last = (refl, refl)

from_put : (gives : List SlotUse → ℕ → Type 0) (digest_of : List ℕ → List ℕ) (tables e : ℕ) (image : Image) (shadow : Bool) (at : ℕ) (enclaves : List Enclave)
    (old : CtlData) (outcome : Outcome (Unit {0})) (new : CtlData) (answered : StepAnswer Bool) (records : List Enclave)
    → let put = page_put_at tables e image (enclave_at enclaves e).pages at in
    IsCall gives (put_page_of digest_of put.page put.bytes) old outcome new
    → answer_to (marked outcome (at + 1 == steps_of shadow (length image.pages))) ≡ Some answered
    → records ≡ enclaves_after (marked outcome (at + 1 == steps_of shadow (length image.pages))) shadow enclaves e
    → IsCreatePut gives (create_put digest_of tables e image shadow at enclaves) old answered new records
unfolding create_put put_at
from_put gives digest_of tables e image shadow at enclaves old outcome new answered records call answers records_are =
    let put = page_put_at tables e image (enclave_at enclaves e).pages at in
    let last : Bool = at + 1 == steps_of shadow (length image.pages) in
    let x : After (Unit {0}) = put_page_of digest_of put.page put.bytes (going old call.positions) in
    let m = marks x.outcome x.after last in
    let outcome_is = m.0 ∙ ap (λ o. marked o last) (sym call.is) in
    let Given : Going → Type 0 = λ g. AreGiven gives g.shown call.positions in
    record {
      positions = call.positions;
      given = subst Given (sym m.1) call.given;
      is = ap answer_to outcome_is ∙ answers;
      now = call.now ∙ ap (λ g. g.ctl) (sym m.1);
      made = records_are ∙ ap (λ o. enclaves_after o shadow enclaves e) (sym outcome_is);
    }

pub step_from_put : (gives : List SlotUse → ℕ → Type 0) (digest_of : List ℕ → List ℕ) (tables e : ℕ) (image : Image) (shadow : Bool) (at : ℕ) (enclaves : List Enclave)
    (kinds : List PageKind) (old : CtlData) (outcome : Outcome (Unit {0})) (new : CtlData) (answered : StepAnswer Bool) (records : List Enclave)
    → kinds ≡ (enclave_at enclaves e).pages
    → IsCall gives (put_page_of digest_of (page_put_at tables e image kinds at).page (page_put_at tables e image kinds at).bytes) old outcome new
    → answer_to (marked outcome (at + 1 == steps_of shadow (length image.pages))) ≡ Some answered
    → records ≡ enclaves_after (marked outcome (at + 1 == steps_of shadow (length image.pages))) shadow enclaves e
    → IsCreatePut gives (create_put digest_of tables e image shadow at enclaves) old answered new records
step_from_put gives digest_of tables e image shadow at enclaves kinds old outcome new answered records kinds_are call answers records_are =
    let Calls : List PageKind → Type 0 =
    λ ks. IsCall gives (put_page_of digest_of (page_put_at tables e image ks at).page (page_put_at tables e image ks at).bytes) old outcome new in
    from_put gives digest_of tables e image shadow at enclaves old outcome new answered records (subst Calls kinds_are call) answers records_are
