-- What holds of an enclave stays through an instruction that retires, and where a run leaves it.
use Rattle.std.proofs.Common.{◌≡◌, ℕ, ◌+◌, ◌%◌, ◌≤◌, true, List, ◌++◌, length, take, Some, slice_get, refl, ap, sym, ◌∙◌, subst, arith, length-append}
use Rattle.std.proofs.lemmas.Bool.{false≢true}
use Rattle.std.proofs.lemmas.List.{take-append-le, take_all}
use Rattle.pl_base.specs.declared.state.Why.{Why}
use Rattle.pl_base.specs.declared.state.Why.TheVariants as why_is
use Rattle.pl_base.specs.States.{state_left}
use Rattle.mem_geom.specs.Parts.{page_bytes}
use Rattle.mon_enclave.specs.declared.enclave.Enclave.{Enclave}
use Rattle.mon_enclave.specs.declared.enclave.PageKind.{PageKind}
use Rattle.mon_image.specs.declared.image.Image.{Image}
use Rattle.mon_image.specs.declared.page.ImagePage.{ImagePage}
use Rattle.mon_owner.specs.declared.owners.Owner.{Owner}
use Rattle.rv_alone.specs.Flat.{Flat, ended}
use Rattle.rv_alone.specs.Alone.{alone, context_of}
use Rattle.pl_history.specs.declared.setup.SetupParts.{SetupParts}
use Rattle.pl_history.specs.Monitor.{Number, flat_image}
use Rattle.world_machine.specs.EnclavesAgree.{EnclaveStands, HasItsPages, StateStands, StatusStands}
use Rattle.world_machine.specs.Pages.{flat_pages, numbers_of}
use Rattle.world_machine.specs.Running.{retired_with}
use Rattle.world_machine.proofs.Instructions.{Retires, flat_of}
use Rattle.world_machine.proofs.LeavingRuns.{IsCounted}
use Rattle.world_machine.proofs.LiveEnclaves.{IsLive, on_stands, same_pages}
use Rattle.world_machine.proofs.SentOut.{sent_out_by}

-- ---- a record that stays with its image and its pages, and comes to a state of its image

-- it keeps its image, its pages and whether it was forked
pub record KeepsPages (r now : Enclave) : Type 0 where
  pub image : now.image ≡ r.image
  pub pages : now.pages ≡ r.pages
  pub parent : now.parent ≡ r.parent

pub keeps_all : (r : Enclave) → KeepsPages r r
keeps_all r = record { image = refl; pages = refl; parent = refl }

module _ (setup : SetupParts) (before after : ℕ → List ℕ) (owners : List Owner) (e : ℕ) (r : Enclave) (n : Number) (s : EnclaveStands setup before owners e r n) where
  pub stands_as : (r' : Enclave) (n' : Number) → KeepsPages r r' → StateStands setup after s.image r' n' → EnclaveStands setup after owners e r' n'
  stands_as r' n' kept state = record {
    image = s.image;
    image_is = ap (slice_get setup.images) kept.image ∙ s.image_is;
    held = subst (λ (kinds : List PageKind). HasItsPages owners e s.image kinds r'.parent) (sym kept.pages)
        (subst (HasItsPages owners e s.image r.pages) (sym kept.parent) s.held);
    state = state;
  }

-- ---- an instruction that retires; the number stays as it was, until the run leaves

-- it keeps its pages
pub retired_keeps : (image : List ImagePage) (before after : ℕ → List ℕ) (r now : Enclave) → Retires image before after r now → KeepsPages r now
retired_keeps image before after r now retires = record {
  image = ap (λ (x : Enclave). x.image) retires.kept;
  pages = same_pages r now retires.kept;
  parent = ap (λ (x : Enclave). x.parent) retires.kept;
}

all_few : {taken shown words : ℕ} → taken ≤ shown → shown ≤ words → taken ≤ words
all_few few more = omega arith

few_more : (shown : ℕ) (out words : List ℕ) → shown ≤ length out → shown ≤ length (out ++ words)
few_more shown out words few = omega (arith, length-append out words)

module _ (setup : SetupParts) (memory new : List ℕ) (owners : List Owner) (e : ℕ) (r : Enclave) (n : Number) (s : EnclaveStands setup (page_bytes memory) owners e r n) where
  pub stands_retired : (now : Enclave) → n.live ≡ true → Retires s.image.pages (page_bytes memory) (page_bytes new) r now → IsLive s.image new now → EnclaveStands setup (page_bytes new) owners e now n
  stands_retired now n_live retires live =
      let shown : now.shown ≡ r.shown = ap (λ (x : Enclave). x.shown) retires.kept in
      let taken : now.taken ≡ r.taken = ap (λ (x : Enclave). x.taken) retires.kept in
      stands_as setup (page_bytes memory) (page_bytes new) owners e r n s now n (retired_keeps s.image.pages (page_bytes memory) (page_bytes new) r now retires)
      (record {
        now = flat_of (page_bytes new) s.image.pages now;
        alone_is = live.alone_is;
        context = refl;
        received = refl;
        out = refl;
        status = on_stands now.state;
        aligned = live.aligned;
        taken_few = subst (λ k. k ≤ now.shown) (sym taken) (subst (λ k. r.taken ≤ k) (sym shown) s.state.taken_few);
        shown_few = subst (λ k. k ≤ length now.out) (sym shown) (subst (λ ws. r.shown ≤ length ws) (sym retires.grows) (few_more r.shown r.out retires.words s.state.shown_few));
        shown = ap (λ k. take k now.out) shown ∙ ap (take r.shown) retires.grows ∙ take-append-le r.shown r.out retires.words s.state.shown_few ∙ s.state.shown;
        pages = λ made. refl;
        start = λ not_live. absurd (false≢true (sym not_live ∙ n_live));
      })

-- ---- a run leaves its enclave

-- the record and the number that a run leaves; all words that were sent out are shown
abbrev pub left_record : Enclave → Why → Enclave
left_record r why = record r { state = state_left why; shown = length r.out }

abbrev pub left_number : Number → ℕ → Why → Number
left_number n count why = record n { state = state_left why; retired = n.retired + count }

pub counted_more : (image : Image) (before after : ℕ → List ℕ) (r now : Enclave) (n : Number) (count : ℕ) → IsCounted r n count → Retires image.pages before after r now → IsCounted now n (count + 1)
counted_more image before after r now n count counted retires = record {
  sent = counted.sent ∙ sym (ap (λ (x : Enclave). x.sent) retires.kept);
  retired = (let more : now.retired ≡ r.retired + 1 = retires.retired in let so_far : r.retired ≡ n.retired + count = counted.retired in omega arith);
}

module _ (setup : SetupParts) (memory : List ℕ) (owners : List Owner) (e : ℕ) (r : Enclave) (n : Number) (s : EnclaveStands setup (page_bytes memory) owners e r n) (count : ℕ) (same_image : n.image ≡ r.image) (n_live : n.live ≡ true) where
  left_as : (why : Why) (r' : Enclave) (now : Flat) → KeepsPages r r' → r'.taken ≤ r'.shown → r'.shown ≡ length r'.out → n.sent ≡ r'.sent → r'.retired ≡ n.retired + count
      → alone (flat_image s.image) r'.sent r'.retired ≡ Some now → r'.context ≡ context_of now → r'.received ≡ now.received → r'.out ≡ now.out → StatusStands r'.state now.status → r'.context.pc % 4 ≡ 0
      → now.pages ≡ flat_pages (page_bytes memory) s.image.pages (numbers_of r'.pages) → EnclaveStands setup (page_bytes memory) owners e r' (left_number n count why)
  left_as why r' now kept taken shown sent retired alone_is context received out status aligned pages =
      let n' : Number = left_number n count why in
      let image_is : slice_get setup.images n.image ≡ Some s.image = ap (slice_get setup.images) same_image ∙ s.image_is in
      let came : alone (flat_image s.image) n.sent (n.retired + count) ≡ Some now = ap (alone (flat_image s.image) n.sent) (sym retired) ∙ ap (λ words. alone (flat_image s.image) words r'.retired) sent ∙ alone_is in
      stands_as setup (page_bytes memory) (page_bytes memory) owners e r n s r' n' kept
      (record {
        now = now;
        alone_is = alone_is;
        context = context;
        received = received;
        out = out;
        status = status;
        aligned = aligned;
        taken_few = taken;
        shown_few = subst (λ k. k ≤ length r'.out) (sym shown) (omega arith);
        shown = ap (λ k. take k r'.out) shown ∙ take_all (length r'.out) r'.out (omega arith) ∙ out ∙ sym (sent_out_by setup n' s.image now image_is came);
        pages = λ made. pages;
        start = λ not_live. absurd (false≢true (sym not_live ∙ n_live));
      })

  -- with its image on: its budget is spent, it waits, is full, traps, or a place faults
  pub stands_left : (why : Why) → IsLive s.image memory r → IsCounted r n count → EnclaveStands setup (page_bytes memory) owners e (left_record r why) (left_number n count why)
  stands_left why live counted =
      left_as why (left_record r why) (flat_of (page_bytes memory) s.image.pages r) (record { image = refl; pages = refl; parent = refl }) (all_few s.state.taken_few s.state.shown_few) refl counted.sent counted.retired live.alone_is refl refl refl (on_stands (state_left why)) live.aligned refl

  -- with its image ended
  pub stands_ended : (code before : ℕ) → IsLive s.image memory r → IsCounted r n before → count ≡ before + 1
      → alone (flat_image s.image) r.sent (r.retired + 1) ≡ Some (record (flat_of (page_bytes memory) s.image.pages r) { status = ended code })
      → EnclaveStands setup (page_bytes memory) owners e (left_record (retired_with r r.context) (why_is.Ended code)) (left_number n count (why_is.Ended code))
  stands_ended code before live counted more is =
      left_as (why_is.Ended code) (left_record (retired_with r r.context) (why_is.Ended code)) (record (flat_of (page_bytes memory) s.image.pages r) { status = ended code })
      (record { image = refl; pages = refl; parent = refl }) (all_few s.state.taken_few s.state.shown_few) refl counted.sent (one_more counted.retired) is refl refl refl tt live.aligned refl
    where
      one_more : r.retired ≡ n.retired + before → r.retired + 1 ≡ n.retired + count
      one_more so_far = omega arith
