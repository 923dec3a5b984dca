-- A word that is read is the mirror's.
use Rattle.mem_tree.specs.Paths.{first_break}
use Rattle.mem_tree.specs.Words.{part_bytes}
use Rattle.mem_ctl.specs.Calls.{with_part}
use Rattle.mem_ctl.specs.Opened.{IsOpened}
use Rattle.mem_ctl.specs.Words.{IsNewPath, stored}
use Rattle.mem_ctl.proofs.WordCalls.{none_breaks, stored-parts, with_part-hold, with_part-parts}
use Rattle.std.proofs.Common.{◌≡◌, ℕ, ◌+◌, ◌*◌, ◌/◌, ◌%◌, ◌<◌, ◌≤◌, Option, Some, None, is_some, List, [], length, refl, subst, sym, ap, ◌∙◌, arith}
use Rattle.std.specs.Prelude.{All, true}
use Rattle.std.specs.Option.{unwrap_or}
use Rattle.std.proofs.lemmas.Bool.{false≢true}
use Rattle.byteorder.specs.Endian.{little_number}
use Rattle.pl_base.specs.Bytes.{bytes_at}
use Rattle.pl_base.specs.declared.place.Place.{Place}
use Rattle.pl_base.specs.declared.place.Place.TheVariants.{Block}
use Rattle.mem_geom.specs.Parts.{page_bytes}
use Rattle.mem_geom.specs.PathPlaces.{word_places}
use Rattle.mem_geom.proofs.Parts.{bytes_at-bytes_at}
use Rattle.mem_slots.specs.declared.slot_use.SlotUse.{SlotUse}
use Rattle.mem_slots.specs.Slots.{is_mounted, used_slot}
use Rattle.mem_tree.specs.declared.new_path.NewPath.{NewPath}
use Rattle.mem_tree.specs.declared.taken.Taken.{Taken}
use Rattle.mem_tree.specs.Checks.{check, Holds as AllHold}
use Rattle.mem_tree.specs.Trees.{nth}
use Rattle.mem_tree.specs.Words.{parts_of, parts_path, taken_path, word_path}
use Rattle.mem_ctl.specs.Calls.{slot_root, zone_check}
use Rattle.mem_ctl.specs.Data.{CtlData, Value, going}
use Rattle.mem_ctl.specs.Mounting.{mounted_for, taken, used, written}
use Rattle.mem_ctl.specs.Results.{IsCall}
use Rattle.mem_ctl.specs.TreesHold.{IsKept, TreesHold}
use Rattle.mem_ctl.specs.Writes.{word_at, zone_pages}
use Rattle.mem_ctl.proofs.AccessLemmas.{count_use-keeps, mounted_for-says, word_path-in, zone_tells}
use Rattle.mem_ctl.proofs.Refusals.{OrRefused}
use Rattle.mem_ctl.proofs.MountLemmas.{Keeps, Keeps-then}
use Rattle.mem_ctl.proofs.SlotLemmas.{is_mounted-map, used_slot-zone}
use Rattle.mem_ctl.proofs.WordCalls.{word_check, word_of_block}
use Rattle.mem_ctl.proofs.ZoneLemmas.{page_is}

-- a root that is there, whatever stands in its place
pub root_there : (o : Option (List ℕ)) (a b : List ℕ) → is_some o ≡ true → unwrap_or o a ≡ unwrap_or o b
root_there (Some r) a b some = refl
root_there None a b some = absurd (false≢true some)

-- a word of two memories in which the zone has the same pages
pub same_words : (old new : List ℕ) (page offset : ℕ) → offset < 4096 → offset % 8 ≡ 0 → zone_pages new (page / 64) ≡ zone_pages old (page / 64) → word_at new page offset ≡ word_at old page offset
same_words old new page offset inside aligned same =
    let own = λ (memory : List ℕ). bytes_at-bytes_at memory (4096 * page) 4096 offset 8 (omega arith) in
    let pages : page_bytes new page ≡ page_bytes old page = sym (page_is new page) ∙ ap (λ (ps : List (List ℕ)). nth ps (page % 64)) same ∙ page_is old page in
    ap (little_number 8) (sym (own new) ∙ ap (λ (bytes : List ℕ). bytes_at bytes offset 8) pages ∙ own old)

-- where each place of the word's path is as it was written, so is the word
pub word_of_path : (x : CtlData) (page offset : ℕ) → offset % 8 ≡ 0 → All (λ (q : Place). taken x q ≡ written x q) (word_places page (offset / 64)) → word_at x.off_chip page offset ≡ word_at x.mirror page offset
word_of_path x page offset aligned all =
    sym (word_of_block x.zones x.off_chip page offset aligned)
    ∙ ap (λ (block : List ℕ). little_number 8 (bytes_at block (offset % 64) 8)) (all 4 (Block page (offset / 64)) (omega arith)) ∙ word_of_block x.zones x.mirror page offset aligned

-- the check of a sealed path is that of the path where it was taken
pub sealed_check : {D : _} (d : List ℕ → List ℕ) (x : CtlData) (page b : ℕ) (t : Taken D) → b < 64 → t.page ≡ page → t.block_no ≡ b → parts_of t ≡ word_path (slot_root x (page / 64)) (taken x) page b
    → check d (taken_path t) (written x) ≡ zone_check d x (page / 64) (word_places page b)
sealed_check d x page b t below own_page own_block parts =
    ap (λ (k : ℕ). check d (parts_path k t.block_no (parts_of t)) (written x)) own_page ∙ ap (λ (k : ℕ). check d (parts_path page k (parts_of t)) (written x)) own_block
    ∙ word_check d x page b (parts_of t) below parts

module _ (d : List ℕ → List ℕ) (law : (m : List ℕ) → length (d m) ≡ 32) (gives : List SlotUse → ℕ → Type 0) (old : CtlData) (kept : IsKept d old) (page : ℕ) (there : page < 64 * old.zones) where
  -- what a mounting that was made leaves, and the use that is counted after it
  pub mounting-keeps : (between : CtlData) → IsCall gives (mounted_for d (page / 64)) old (Value tt) between → Keeps d old between
  mounting-keeps between m =
      subst (Keeps d old) (sym m.now) (mounted_for-says d law [] (page / 64) (going old m.positions) kept.trees (omega arith) kept.some).keeps

  pub mounting-mounts : (between : CtlData) → IsCall gives (mounted_for d (page / 64)) old (Value tt) between → is_mounted between.mounted (page / 64) ≡ true
  mounting-mounts between m =
      let says = (mounted_for-says d law [] (page / 64) (going old m.positions) kept.trees (omega arith) kept.some).mounted in
      ap (λ (x : CtlData). is_mounted x.mounted (page / 64)) m.now
      ∙ subst (λ o. OrRefused d [] (mounted_for d (page / 64) (going old m.positions)).after.ctl o (is_mounted (mounted_for d (page / 64) (going old m.positions)).after.ctl.mounted (page / 64) ≡ true)) (sym m.is) says

  pub opened-keeps : (between : CtlData) → IsCall gives (mounted_for d (page / 64)) old (Value tt) between → Keeps d old (used between (page / 64))
  opened-keeps between m =
      let k = mounting-keeps between m in
      Keeps-then d old between (used between (page / 64)) k (count_use-keeps d law (page / 64) (going between []) k.trees)

  pub opened-mounted : (between : CtlData) → IsCall gives (mounted_for d (page / 64)) old (Value tt) between → is_mounted (used between (page / 64)).mounted (page / 64) ≡ true
  opened-mounted between m = is_mounted-map (used_slot (page / 64)) (used_slot-zone (page / 64)) between.mounted (page / 64) ∙ mounting-mounts between m

-- what a word's access has where its path holds, for a write
module _ {D : _} (d : List ℕ → List ℕ) (law : (m : List ℕ) → length (d m) ≡ 32) (gives : List SlotUse → ℕ → Type 0) (old : CtlData) (kept : IsKept d old) (page : ℕ) (there : page < 64 * old.zones) (b : ℕ) (below : b < 64)
    (t : Taken D) (new : CtlData) (h : IsOpened gives d page b old t new) where
  pub opened-kept : Keeps d old new
  opened-kept = subst (Keeps d old) (sym h.now) (opened-keeps d law gives old kept page there h.between h.mounts)

  pub opened-holds : first_break d (taken_path t) ≡ None
  opened-holds = none_breaks d (taken_path t) (written new) (taken_path t).places (sealed_check d new page b t below h.own_page h.own_block h.parts ∙ sym h.holds)

  -- the path that the code makes, by the page and the block that were asked for
  pub opened-path : (at : ℕ) (part : List ℕ) (path : NewPath) → IsNewPath d (parts_of t) t.page t.block_no at part path → IsNewPath d (parts_of t) page b at part path
  opened-path at part path own =
      subst (λ (k : ℕ). IsNewPath d (parts_of t) page k at part path) h.own_block (subst (λ (p : ℕ). IsNewPath d (parts_of t) p t.block_no at part path) h.own_page own)

  module _ (at : ℕ) (part : List ℕ) (inside : at + length part ≤ 64) (path : NewPath) (is : IsNewPath d (parts_of t) page b at part path) where
    -- the parts that the code stores are what the write renews
    pub opened-stored : with_part d (taken new) page b at part new ≡ stored new page b path
    opened-stored =
        with_part-parts d new (taken new) (slot_root new (page / 64)) page b at part ∙ ap (λ (q : NewPath). with_part d (part_bytes q) page b at part new) (sym h.parts)
        ∙ stored-parts d new page b at part (parts_of t) path below is

    pub opened-stored_kept : IsKept d (stored new page b path)
    opened-stored_kept =
        let same = zone_tells d law new page (word_places page b) (word_path-in d law page b below) opened-kept.trees (omega (arith, opened-kept.zones_kept)) h.mounted AllHold (sym h.holds) in
        let trees : TreesHold d (stored new page b path) =
        subst (TreesHold d) opened-stored (with_part-hold d law new opened-kept.trees page b (omega (arith, opened-kept.zones_kept)) below h.mounted (taken new) same at part inside) in
        record { trees = trees; some = omega (arith, opened-kept.slots_kept, kept.some); few = omega (arith, opened-kept.slots_kept, kept.few) }
