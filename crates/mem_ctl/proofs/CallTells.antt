-- What a call leaves and tells, from the positions that its choice answered.
use Rattle.std.proofs.Common.{◌≡◌, ℕ, ◌*◌, ◌/◌, ◌%◌, ◌<◌, List, [], length, subst, sym, IsTrue}
use Rattle.std.specs.Prelude.{Err}
use Rattle.byteorder.specs.Endian.{little_bytes}
use Rattle.pl_base.specs.Bytes.{with_bytes}
use Rattle.pl_base.specs.Width.{is_width}
use Rattle.pl_base.specs.declared.place.Place.{Place}
use Rattle.mem_geom.specs.PathPlaces.{page_places, replaced_places, word_places}
use Rattle.mem_slots.specs.declared.slot_use.SlotUse.{SlotUse}
use Rattle.mem_tree.specs.Trees.{HasDigests}
use Rattle.mem_ctl.specs.declared.broken.Broken.{Broken}
use Rattle.mem_ctl.specs.declared.broken.Broken.TheVariants as broken
use Rattle.mem_ctl.specs.declared.told.Told.{Told}
use Rattle.mem_ctl.specs.declared.told.Told.TheVariants as told
use Rattle.mem_ctl.specs.Access.{Accessed, AccessTells, BothChange, BothStay}
use Rattle.mem_ctl.specs.declared.told.Op.{Op}
use Rattle.mem_ctl.specs.Calls.{TakenWord, ask_of, get_page_of, put_page_of, read_word_of, tell_of, write_part_of}
use Rattle.mem_ctl.specs.Causes.{IsCause, IsCauseOfTelling}
use Rattle.mem_ctl.specs.Data.{CtlData, Going, Outcome, After, going}
use Rattle.mem_ctl.specs.Laws.{HasTold, PageIsRead, PathIsTaken, TellingTells, WordIsRead}
use Rattle.mem_ctl.specs.Results.{IsCall, outcome_of}
use Rattle.mem_ctl.specs.Tellings.{IsOpIn, told_outcome}
use Rattle.mem_ctl.specs.TreesHold.{IsKept}
use Rattle.mem_ctl.proofs.AccessLaws.{asks_tell, page_reads_tell, page_writes_tell, reads_tell, writes_tell}
use Rattle.mem_ctl.proofs.TellLaws.{tellings_tell}

-- ---- refusals

pub cause_of : {A : Type 0} (d : List ℕ → List ℕ) (places : List Place) (Done : A → Type 0) (old : CtlData) (b : Broken) (new : CtlData) → AccessTells d places Done old (outcome_of (Err b)) new
    → BothStay old new × IsCause d places new b
cause_of d places Done old (broken.Fault place) new tells = tells
cause_of d places Done old (broken.Collision c) new tells = tells

pub cause_of_telling : (d : List ℕ → List ℕ) (t : TakenWord) (op : Op) (old : CtlData) (why : Told) (new : CtlData) → TellingTells d t op old (told_outcome (Err why)) new → (new ≡ old) × IsCauseOfTelling d t old why
cause_of_telling d t op old (told.Broken (broken.Fault place)) new tells = tells
cause_of_telling d t op old (told.Broken (broken.Collision c)) new tells = tells
cause_of_telling d t op old (told.Again taken_root root) new tells = tells

-- ---- calls

module _ (gives : List SlotUse → ℕ → Type 0) (d : List ℕ → List ℕ) (law : HasDigests d) (old : CtlData) (kept : IsKept d old) where
  from_call : {A : Type 0} (call : Going → After A) (P : Outcome A → CtlData → Type 0) → ((positions : List ℕ) → let r = call (going old positions) in P r.outcome r.after.ctl)
      → (o : Outcome A) (new : CtlData) → IsCall gives call old o new → P o new
  from_call call P tells o new m =
      let r = call (going old m.positions) in
      subst (λ p. P p new) (sym m.is) (subst (P r.outcome) (sym m.now) (tells m.positions))

  pub read_tells : (page offset : ℕ) → page < 64 * old.zones → offset < 4096 → offset % 8 ≡ 0 → (o : Outcome ℕ) (new : CtlData) → IsCall gives (read_word_of d page offset) old o new
      → Accessed d (word_places page (offset / 64)) (WordIsRead page offset old new) old o new
  read_tells page offset there inside aligned =
      from_call (read_word_of d page offset) (λ o new. Accessed d (word_places page (offset / 64)) (WordIsRead page offset old new) old o new)
      (λ positions. reads_tell d law page offset (going old positions) kept there inside aligned)

  pub write_tells : (page offset width word : ℕ) → page < 64 * old.zones → offset < 4096 → IsTrue (is_width width) → offset % width ≡ 0 → (o : Outcome (Unit {0})) (new : CtlData)
      → IsCall gives (write_part_of d page offset width word) old o new
      → Accessed d (word_places page (offset / 64)) (λ _. BothChange page (λ bytes. with_bytes bytes offset (little_bytes width word)) old new) old o new
  write_tells page offset width word there inside wide aligned =
      from_call (write_part_of d page offset width word) (λ o new. Accessed d (word_places page (offset / 64)) (λ _. BothChange page (λ bytes. with_bytes bytes offset (little_bytes width word)) old new) old o new)
      (λ positions. writes_tell d law page offset width word (going old positions) kept there inside wide aligned)

  pub get_tells : (page : ℕ) → page < 64 * old.zones → (o : Outcome (List ℕ)) (new : CtlData) → IsCall gives (get_page_of d page) old o new → Accessed d (page_places page) (PageIsRead page old new) old o new
  get_tells page there =
      from_call (get_page_of d page) (λ o new. Accessed d (page_places page) (PageIsRead page old new) old o new) (λ positions. page_reads_tell d law page (going old positions) kept there)

  pub put_tells : (page : ℕ) (bytes : List ℕ) → page < 64 * old.zones → length bytes ≡ 4096 → (o : Outcome (Unit {0})) (new : CtlData) → IsCall gives (put_page_of d page bytes) old o new
      → Accessed d (replaced_places page) (λ _. BothChange page (λ _. bytes) old new) old o new
  put_tells page bytes there size =
      from_call (put_page_of d page bytes) (λ o new. Accessed d (replaced_places page) (λ _. BothChange page (λ _. bytes) old new) old o new)
      (λ positions. page_writes_tell d law page bytes (going old positions) kept there size)

  pub ask_tells : (page offset : ℕ) → page < 64 * old.zones → (o : Outcome TakenWord) (new : CtlData) → IsCall gives (ask_of d page offset) old o new → Accessed d [] (PathIsTaken page offset old new) old o new
  ask_tells page offset there =
      from_call (ask_of d page offset) (λ o new. Accessed d [] (PathIsTaken page offset old new) old o new) (λ positions. asks_tell d law page offset (going old positions) kept there)

  pub tell_tells : (t : TakenWord) (op : Op) → t.page < 64 * old.zones → t.block < 64 → IsOpIn t.block op → (o : Outcome ℕ) (new : CtlData) → IsCall gives (tell_of d t op) old o new → HasTold d t op old o new
  tell_tells t op there below fine =
      from_call (tell_of d t op) (λ o new. HasTold d t op old o new) (λ positions. tellings_tell d law t op (going old positions) kept there below fine)
