-- An access within an event is never asked again: it answers a value, a fault or a collision.
use Rattle.std.proofs.Common.{ℕ, ◌+◌, ◌/◌, ◌%◌, Bool, true, false, if◌then◌else◌, List, length, Option, Some, None}
use Rattle.std.specs.Prelude.{nat_lt, ◌==◌, Result, Ok}
use Rattle.pl_base.specs.declared.address.Va.{Va}
use Rattle.pl_base.specs.declared.perms.Perms.{Perms}
use Rattle.pl_base.specs.declared.place.Place.{Place}
use Rattle.pl_base.specs.declared.refusal.No.{No}
use Rattle.byteorder.specs.Endian.{little_bytes}
use Rattle.mem_geom.specs.Parts.{page_bytes}
use Rattle.mem_geom.specs.PathPlaces.{page_places, replaced_places, word_places}
use Rattle.mem_slots.specs.Slots.{is_mounted, slot_at}
use Rattle.mem_tree.specs.Checks.{Checked, Holds as AllHold, Fault as BreaksAt, Collision as CollidesAt}
use Rattle.mem_ctl.specs.Calls.{accessed, get_page_of, put_page_of, read_word_of, with_page_at, with_part, write_part_of, zone_check}
use Rattle.mem_ctl.specs.Data.{After, Again, Collision, CtlData, Fault, Going, Outcome, Value, and_then, answer, go_on, if_holds}
use Rattle.mem_ctl.specs.Mounting.{asked, count_use, evicted, evicted_at, mounted_anew, mounted_for, mounted_last, position_of, root_check, taken}
use Rattle.mem_ctl.specs.Writes.{word_at}
use Rattle.mon_image.specs.declared.image.Image.{Image}
use Rattle.mon_enclave.specs.declared.enclave.Enclave.{Enclave}
use Rattle.mon_enclave.specs.Records.{enclave_at}
use Rattle.mon_fence.specs.declared.fences.Fence.{Fence}
use Rattle.mon_host.specs.Leaves.{early_refusal, leaf_slot, step_unless, word_replaced, written_unless}
use Rattle.mon_host.specs.Mapping.{map_of, map_refusal}
use Rattle.mon_host.specs.Unmapping.{page_of_leaf, unmap_begun, unmap_refusal}
use Rattle.mon_life.specs.Pages.{PagePut, page_put_at}
use Rattle.mon_life.specs.Putting.{create_put, put_at, steps_of}
use Rattle.mon_owner.specs.declared.owners.Owner.{Owner}
use Rattle.mon_shadow.specs.Breaking.{page_copied}
use Rattle.mon_tables.specs.Tables.{number_slot}
use Rattle.mon_tables.specs.Words.{leaf_word}
use Rattle.pl_base.specs.declared.access.Mode.TheVariants.{Super, User}

abbrev pub NeverAgain : {A : Type 0} → Outcome A → Type 0
NeverAgain (Value a) = Unit {0}
NeverAgain (Fault place) = Unit {0}
NeverAgain (Collision place held written) = Unit {0}
NeverAgain (Again taken root) = ⊥

checked_never : {A : Type 0} (c : Checked) (g : Going) (next : After A) → NeverAgain next.outcome → NeverAgain (if_holds c g next).outcome
checked_never AllHold g next never = never
checked_never (BreaksAt place) g next never = tt
checked_never (CollidesAt place held written) g next never = tt

then_never : {A : Type 0} {B : Type 0} (o : Outcome A) (g : Going) (next : A → Going → After B) → NeverAgain o → ((a : A) (h : Going) → NeverAgain (next a h).outcome) → NeverAgain (go_on o g next).outcome
then_never (Value a) g next never after = after a g
then_never (Fault place) g next never after = tt
then_never (Collision place held written) g next never after = tt
then_never (Again taken root) g next never after = absurd never

either_never : {A : Type 0} (b : Bool) (x y : After A) → NeverAgain x.outcome → NeverAgain y.outcome → NeverAgain (if b then x else y).outcome
either_never true x y p q = p
either_never false x y p q = q

module _ (digest_of : List ℕ → List ℕ) where
  anew_never : (zone : ℕ) (g : Going) → NeverAgain (mounted_anew digest_of zone g).outcome
  unfolding mounted_anew
  anew_never zone g = checked_never {A = Unit {0}} (root_check digest_of g.ctl zone) g (answer tt (record g { ctl = mounted_last g.ctl zone })) tt

  evicted_never : (g : Going) → NeverAgain (evicted digest_of g).outcome
  unfolding evicted
  evicted_never g = checked_never {A = Unit {0}} (root_check digest_of g.ctl (slot_at g.ctl.mounted (position_of g)).zone) (asked g)
      (answer tt (record (asked g) { ctl = evicted_at digest_of g.ctl (position_of g) })) tt

  evicted_first : (zone : ℕ) (g : Going) → NeverAgain (go_on (evicted digest_of g).outcome (evicted digest_of g).after (λ _ h. mounted_anew digest_of zone h)).outcome
  evicted_first zone g = then_never {A = Unit {0}} {B = Unit {0}} (evicted digest_of g).outcome (evicted digest_of g).after (λ _ h. mounted_anew digest_of zone h)
      (evicted_never g) (λ a h. anew_never zone h)

  mounted_never : (zone : ℕ) (g : Going) → NeverAgain (mounted_for digest_of zone g).outcome
  unfolding mounted_for
  mounted_never zone g = either_never {A = Unit {0}} (is_mounted g.ctl.mounted zone) (answer tt g) _ tt
      (either_never {A = Unit {0}} (nat_lt (length g.ctl.mounted) g.ctl.slots) (mounted_anew digest_of zone g) _ (anew_never zone g) (evicted_first zone g))

  accessed_never : {A : Type 0} (page : ℕ) (places : List Place) (value : CtlData → A) (change : CtlData → CtlData) (g : Going) → NeverAgain (accessed digest_of page places value change g).outcome
  accessed_never {A} page places value change g =
      then_never {A = Unit {0}} {B = A} (mounted_for digest_of (page / 64) g).outcome (mounted_for digest_of (page / 64) g).after
      (λ _ mounted. if_holds (zone_check digest_of (count_use (page / 64) mounted).ctl (page / 64) places) (count_use (page / 64) mounted)
      (answer (value (count_use (page / 64) mounted).ctl) (record (count_use (page / 64) mounted) { ctl = change (count_use (page / 64) mounted).ctl })))
      (mounted_never (page / 64) g)
      (λ a mounted. checked_never {A = A} (zone_check digest_of (count_use (page / 64) mounted).ctl (page / 64) places) (count_use (page / 64) mounted)
      (answer (value (count_use (page / 64) mounted).ctl) (record (count_use (page / 64) mounted) { ctl = change (count_use (page / 64) mounted).ctl })) tt)

  pub read_never : (page offset : ℕ) (g : Going) → NeverAgain (read_word_of digest_of page offset g).outcome
  unfolding read_word_of
  read_never page offset g = accessed_never page (word_places page (offset / 64)) (λ x. word_at x.off_chip page offset) (λ x. x) g

  pub write_never : (page offset width word : ℕ) (g : Going) → NeverAgain (write_part_of digest_of page offset width word g).outcome
  unfolding write_part_of
  write_never page offset width word g = accessed_never {A = Unit {0}} page (word_places page (offset / 64)) (λ x. tt)
      (λ x. with_part digest_of (taken x) page (offset / 64) (offset % 64) (little_bytes width word) x) g

  get_never : (page : ℕ) (g : Going) → NeverAgain (get_page_of digest_of page g).outcome
  unfolding get_page_of
  get_never page g = accessed_never page (page_places page) (λ x. page_bytes x.off_chip page) (λ x. x) g

  put_never : (page : ℕ) (bytes : List ℕ) (g : Going) → NeverAgain (put_page_of digest_of page bytes g).outcome
  unfolding put_page_of
  put_never page bytes g = accessed_never {A = Unit {0}} page (replaced_places page) (λ x. tt) (with_page_at digest_of page bytes) g

  put_at_never : (put : PagePut) (last : Bool) (g : Going) → NeverAgain (put_at digest_of put last g).outcome
  unfolding put_at
  put_at_never put last g = then_never {A = Unit {0}} {B = Bool} (put_page_of digest_of put.page put.bytes g).outcome (put_page_of digest_of put.page put.bytes g).after
      (λ _ h. answer last h) (put_never put.page put.bytes g) (λ a h. tt)

  pub step_never : (tables e : ℕ) (image : Image) (shadow : Bool) (done : ℕ) (enclaves : List Enclave) (g : Going) → NeverAgain (create_put digest_of tables e image shadow done enclaves g).put.outcome
  unfolding create_put
  step_never tables e image shadow done enclaves g =
      put_at_never (page_put_at tables e image (enclave_at enclaves e).pages done) (done + 1 == steps_of shadow (length image.pages)) g

  -- a page is read, put into another one, and a leaf leads there
  pub copied_never : (tables e index shared spare : ℕ) (perms : Perms) (g : Going) → NeverAgain (page_copied digest_of tables e index shared spare perms g).outcome
  unfolding page_copied
  copied_never tables e index shared spare perms g =
      let leaf : Unit {0} → Going → After (Unit {0}) = λ done k. write_part_of digest_of (number_slot tables e index).0 (number_slot tables e index).1 8 (leaf_word spare perms User) k in
      then_never {A = List ℕ} {B = Unit {0}} (get_page_of digest_of shared g).outcome (get_page_of digest_of shared g).after (λ bytes h. and_then (put_page_of digest_of spare bytes h) leaf)
      (get_never shared g)
      (λ bytes h. then_never {A = Unit {0}} {B = Unit {0}} (put_page_of digest_of spare bytes h).outcome (put_page_of digest_of spare bytes h).after leaf
      (put_never spare bytes h) (λ done k. write_never (number_slot tables e index).0 (number_slot tables e index).1 8 (leaf_word spare perms User) k))

  -- ---- the host's leaves

  module _ {A : Type 0} (slot : ℕ × ℕ) (refusal : ℕ → Option No) (word : ℕ) (value : ℕ → A) where
    written_never : (o : Option No) (a : A) (g : Going) → NeverAgain (written_unless digest_of o slot word a g).outcome
    written_never (Some cause) a g = tt
    written_never None a g = then_never {A = Unit {0}} {B = Result A No} (write_part_of digest_of slot.0 slot.1 8 word g).outcome
        (write_part_of digest_of slot.0 slot.1 8 word g).after (λ _ h. answer (Ok a) h) (write_never slot.0 slot.1 8 word g) (λ done h. tt)

    replaced_never : (g : Going) → NeverAgain (word_replaced digest_of slot refusal word value g).outcome
    unfolding word_replaced
    replaced_never g = then_never {A = ℕ} {B = Result A No} (read_word_of digest_of slot.0 slot.1 g).outcome
        (read_word_of digest_of slot.0 slot.1 g).after (λ old h. written_unless digest_of (refusal old) slot word (value old) h) (read_never slot.0 slot.1 g)
        (λ old h. written_never (refusal old) (value old) h)

    unless_never : (o : Option No) (g : Going) → NeverAgain (step_unless o (word_replaced digest_of slot refusal word value) g).outcome
    unless_never (Some cause) g = tt
    unless_never None g = replaced_never g

  pub map_never : (tables : ℕ) (fences : List (Option Fence)) (owners : List Owner) (va : Va) (page : ℕ) (perms : Perms) (g : Going)
      → NeverAgain (map_of digest_of tables fences owners va page perms g).step.outcome
  unfolding map_of
  map_never tables fences owners va page perms g =
      unless_never {A = Unit {0}} (leaf_slot tables va) (map_refusal owners page) (leaf_word page perms Super) (λ word. tt) (early_refusal tables fences va) g

  pub unmap_never : (tables : ℕ) (fences : List (Option Fence)) (hart : ℕ) (va : Va) (g : Going) → NeverAgain (unmap_begun digest_of tables fences hart va g).step.outcome
  unfolding unmap_begun
  unmap_never tables fences hart va g = unless_never {A = ℕ} (leaf_slot tables va) unmap_refusal 0 page_of_leaf (early_refusal tables fences va) g
