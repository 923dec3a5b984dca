-- Pages that are broken: one that an access is to break is shared, and has permissions that a page may have; and what a break came to.
use Rattle.std.proofs.Common.{◌≡◌, ℕ, false, Option, Some, sym, ap, subst, List, refl, ◌∙◌}
use Rattle.std.specs.Prelude.{IsTrue, Result, Ok, Err, OnErr}
use Rattle.std.specs.Option.{option_map_or}
use Rattle.std.proofs.lemmas.Option.{get_or_from_slice_get, slice_get_within}
use Rattle.pl_base.specs.Perms.{are_page_perms}
use Rattle.pl_base.specs.declared.access.Kind.{Kind}
use Rattle.pl_base.specs.declared.perms.Perms.{Perms}
use Rattle.mon_enclave.specs.declared.enclave.Enclave.{Enclave}
use Rattle.mon_enclave.specs.declared.enclave.PageKind.{PageKind}
use Rattle.mon_enclave.specs.Records.{enclave_at, is_shared, with_enclave, with_own_page}
use Rattle.mon_image.specs.declared.page.ImagePage.{ImagePage}
use Rattle.world_events.specs.Conditions.{CanBreak, CanBreakAt, CanLeave}
use Rattle.world_machine.specs.Making.{image_of}
use Rattle.world_machine.specs.Pages.{to_break}
use Rattle.world_machine.specs.Running.{RunNow, breaks_done, breaks_page, faults, perms_at}
use Rattle.world_machine.specs.Worlds.{WorldData}
use Rattle.world_machine.proofs.ReachedPages.{IsToBreak, breaks_at}
use Rattle.pl_base.specs.declared.place.Place.{Place}
use Rattle.mem_slots.specs.declared.slot_use.SlotUse.{SlotUse}
use Rattle.mem_ctl.specs.declared.broken.Broken.{Broken}
use Rattle.mem_ctl.specs.Data.{CtlData, Going, Outcome, Value, Fault, Collision, Again, going}
use Rattle.mon_fence.specs.declared.fences.Fence.{Fence}
use Rattle.mon_shadow.specs.Breaking.{IsPageBroken, PageBroken, if_put, page_broken}
use Rattle.world_events.specs.Events.{IsEvent}
use Rattle.world_runs.specs.Running.{break_goes, run_faults}
use Rattle.world_events.specs.Running.{runner}
use Rattle.world_machine.specs.Answering.{decided}
use Rattle.mon_shadow.specs.Breaking as breaking

pub can_break_at : (w : WorldData) (run : RunNow) (access : Kind) (address index : ℕ) → CanBreak w run
    → to_break access (image_of w.setup (enclave_at w.enclaves run.e).image).pages (enclave_at w.enclaves run.e).pages address ≡ Some index → CanBreakAt w run index
can_break_at w run access address index can is =
    let r : Enclave = enclave_at w.enclaves run.e in
    let image = (image_of w.setup r.image).pages in
    let at : IsToBreak access image r.pages address index = breaks_at access image r.pages address index is in
    record {
      breaks = can;
      shared = ap (λ (o : Option PageKind). option_map_or is_shared o false) at.shared;
      allowed =
          subst (λ (p : Perms). IsTrue (are_page_perms p)) (sym (ap (λ (o : Option ImagePage). option_map_or (λ (page : ImagePage). page.perms) o (record { 0 = 0 })) at.there))
          (subst (λ (page : ImagePage). IsTrue (are_page_perms page.perms)) (get_or_from_slice_get image index at.image_page at.image_page at.there)
          (can.perms index at.image_page (slice_get_within image index at.image_page at.there)));
    }

-- ---- what a break came to

module _ (gives : List SlotUse → ℕ → Type 0) (digest_of : List ℕ → List ℕ) (old mid new : WorldData) (run : RunNow) (index : ℕ) where
  abbrev pub break_call : Going → PageBroken
  break_call = page_broken digest_of old.setup.tables run.hart (record { 0 = run.e }) index (perms_at old.setup (runner old run) index) old.enclaves old.fences

  abbrev after_break : PageBroken → WorldData
  after_break broken = record old { ctl = broken.step.after.ctl; enclaves = broken.enclaves; fences = broken.fences }

  -- a fault changes no record
  records_stay : (g : Going) (place : Place) → (break_call g).step.outcome ≡ Fault place → (break_call g).enclaves ≡ old.enclaves
  unfolding breaking.page_broken
  records_stay g place is = ap (λ (o : Outcome (Unit {0})). if_put o (with_enclave old.enclaves run.e (with_own_page (enclave_at old.enclaves run.e) index)) old.enclaves) is

  break_decided : (g : Going) (o : Outcome (Unit {0})) → (break_call g).step.outcome ≡ o
      → decided (after_break (break_call g)) (break_goes run index (after_break (break_call g))) (run_faults run (after_break (break_call g))) o
      ≡ decided (after_break (break_call g)) (λ done. breaks_done (after_break (break_call g)) run index) (faults run (runner old run) (after_break (break_call g))) o
  break_decided g (Value done) is = refl
  break_decided g (Fault place) is = ap (λ (all : List Enclave). faults run (enclave_at all run.e) (after_break (break_call g)) place) (records_stay g place is)
  break_decided g (Collision place held written) is = refl
  break_decided g (Again taken root) is = refl

  -- a page was broken, and what that came to
  pub break_event : (outcome : Outcome (Unit {0})) → IsPageBroken gives break_call old.ctl outcome mid.ctl mid.enclaves mid.fences
      → mid ≡ record old { ctl = mid.ctl; enclaves = mid.enclaves; fences = mid.fences } → new ≡ decided mid (break_goes run index mid) (run_faults run mid) outcome
      → IsEvent gives (λ positions. breaks_page digest_of old run (runner old run) positions index) new
  break_event outcome step rest is = record {
    positions = step.positions;
    given = step.given;
    is =
        let broken : PageBroken = break_call (going old.ctl step.positions) in
        let left : WorldData = after_break broken in
        let same : mid ≡ left =
        rest ∙ ap (λ (x : CtlData). record old { ctl = x; enclaves = mid.enclaves; fences = mid.fences }) step.now
        ∙ ap (λ (all : List Enclave). record old { ctl = broken.step.after.ctl; enclaves = all; fences = mid.fences }) step.records_are
        ∙ ap (λ (all : List (Option Fence)). record old { ctl = broken.step.after.ctl; enclaves = broken.enclaves; fences = all }) step.fences_are in
        is ∙ ap (λ (w : WorldData). decided w (break_goes run index w) (run_faults run w) outcome) same
        ∙ ap (λ (o : Outcome (Unit {0})). decided left (break_goes run index left) (run_faults run left) o) step.is
        ∙ break_decided (going old.ctl step.positions) broken.step.outcome refl;
  }

-- where that faults, the enclave may be left
pub broke_leaves : (old new : WorldData) (run : RunNow) (done : Result (Unit {0}) Broken) → CanLeave old run → new ≡ record old { ctl = new.ctl; enclaves = new.enclaves; fences = new.fences }
    → OnErr done (new.enclaves ≡ old.enclaves) → OnErr done (CanLeave new run)
broke_leaves old new run (Ok done) can is same = tt
broke_leaves old new run (Err broken) can is same =
    subst (λ (w : WorldData). CanLeave w run) (sym is)
    (subst (λ (all : List Enclave). CanLeave (record old { ctl = new.ctl; enclaves = all; fences = new.fences }) run) (sym same)
    (record {
      harts = record { harts = can.harts.harts; actors = record { actors = can.harts.actors.actors; few = can.harts.actors.few; room = can.harts.actors.room } };
      number = can.number;
      on = can.on;
    }))
