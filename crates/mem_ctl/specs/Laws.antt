-- What holds of every call of the controller as plain data, for every digest function and any positions: what it leaves, and what its outcome tells.
use Rattle.std.specs.Prelude.{ℕ, ◌≡◌, ◌≢◌, ◌*◌, ◌/◌, ◌%◌, ◌<◌, Bool, true, false, IsTrue, List, [], length, slice_index_or, Contains, Option, Some, None}
use Rattle.byteorder.specs.Endian.{little_bytes}
use Rattle.pl_base.specs.Bytes.{with_bytes}
use Rattle.pl_base.specs.Width.{is_width}
use Rattle.pl_base.specs.declared.place.Place.{Place}
use Rattle.pl_base.specs.declared.place.Place.TheVariants.{Block}
use Rattle.mem_geom.specs.Parts.{page_bytes}
use Rattle.mem_geom.specs.PathPlaces.{page_places, replaced_places, word_places}
use Rattle.mem_slots.specs.Slots.{is_mounted, root_of}
use Rattle.mem_tree.specs.Checks.{AreOneDigest}
use Rattle.mem_tree.specs.Paths.{first_break}
use Rattle.mem_tree.specs.Words.{part_bytes}
use Rattle.mem_ctl.specs.Access.{Accessed, BothChange, BothStay, IsTampered, Leaves}
use Rattle.mem_ctl.specs.declared.told.Op.{Op}
use Rattle.mem_ctl.specs.declared.told.Op.TheVariants.{Read, Write}
use Rattle.mem_ctl.specs.Calls.{TakenWord, ask_of, get_page_of, op_offset, path_in, put_page_of, read_word_of, root_stands, tell_of, word_taken, write_part_of}
use Rattle.mem_ctl.specs.Data.{CtlData, Going, Outcome, Value, Fault, Collision, Again}
use Rattle.mem_ctl.specs.Mounting.{mounted_for, taken, written}
use Rattle.mem_ctl.specs.Tellings.{IsOpIn}
use Rattle.mem_ctl.specs.TreesHold.{IsKept}
use Rattle.mem_ctl.specs.Writes.{word_at}
use Rattle.mem_ctl.specs.WrittenPages.{ChangesPage}

-- a zone is mounted, and all pages stay
pub record IsMounted (zone : ℕ) (old new : CtlData) : Type 0 where
  pub pages : BothStay old new
  pub mounts : is_mounted new.mounted zone ≡ true

-- a word is the one that was written, and stands off chip too; all pages stay
pub record WordIsRead (page offset : ℕ) (old new : CtlData) (word : ℕ) : Type 0 where
  pub pages : BothStay old new
  pub as_written : word ≡ word_at old.mirror page offset
  pub as_held : word ≡ word_at old.off_chip page offset

-- the same of a page's bytes
pub record PageIsRead (page : ℕ) (old new : CtlData) (bytes : List ℕ) : Type 0 where
  pub pages : BothStay old new
  pub as_written : bytes ≡ page_bytes old.mirror page
  pub as_held : bytes ≡ page_bytes old.off_chip page

-- the path of a word is taken from the controller after its zone is mounted
pub record PathIsTaken (page offset : ℕ) (old new : CtlData) (word : TakenWord) : Type 0 where
  pub zone : IsMounted (page / 64) old new
  pub as_held : word ≡ word_taken new page (offset / 64)

-- a part is written by a path that was sealed before: its page has the part in the mirror, and off chip it gets the whole block that is written
pub record PartIsPut (page block offset : ℕ) (part : List ℕ) (old new : CtlData) : Type 0 where
  pub off_chip_pages : ChangesPage old.zones page (with_bytes (page_bytes old.off_chip page) (64 * block) (with_bytes (written old (Block page block)) (offset % 64) part)) old.off_chip new.off_chip
  pub mirror_pages : ChangesPage old.zones page (with_bytes (page_bytes old.mirror page) offset part) old.mirror new.mirror

abbrev pub Obeyed : TakenWord → Op → CtlData → CtlData → Type 0
Obeyed t (Read offset) old new = BothStay old new
Obeyed t (Write offset width word) old new = PartIsPut t.page t.block offset (little_bytes width word) old new

-- the root of a taken path is that of its zone's slot
abbrev pub is_fresh : TakenWord → CtlData → Bool
is_fresh t x = root_stands t.parts.root (root_of x.mounted (t.page / 64))

module _ (digest_of : List ℕ → List ℕ) where
  -- a sealed path that is obeyed holds, under the root of its zone's slot; its word is the one that was written
  pub record IsObeyed (t : TakenWord) (op : Op) (old new : CtlData) (word : ℕ) : Type 0 where
    pub fresh : is_fresh t old ≡ true
    pub whole : first_break digest_of (path_in t) ≡ None
    pub as_written : word ≡ word_at old.mirror t.page (op_offset op / 8 * 8)
    pub pages : Obeyed t op old new

  -- one that breaks: under a root that stands, its bytes at that place aren't the written ones
  pub record IsBroken (t : TakenWord) (old : CtlData) (place : Place) : Type 0 where
    pub breaks : first_break digest_of (path_in t) ≡ Some place
    pub checked : Contains (word_places t.page t.block) place
    pub differs : is_fresh t old ≡ true → part_bytes t.parts place ≢ written old place

  -- one that is to be asked for again holds under a root that isn't the one of its zone's slot
  pub record IsStale (t : TakenWord) (old : CtlData) (taken_root : List ℕ) (root : Option (List ℕ)) : Type 0 where
    pub whole : first_break digest_of (path_in t) ≡ None
    pub stale : is_fresh t old ≡ false
    pub taken_is : taken_root ≡ t.parts.root
    pub root_is : root ≡ root_of old.mounted (t.page / 64)

  -- a refusal changes nothing
  abbrev pub TellingTells : TakenWord → Op → CtlData → Outcome ℕ → CtlData → Type 0
  TellingTells t op old (Value word) new = IsObeyed t op old new word
  TellingTells t op old (Fault place) new = (new ≡ old) × IsBroken t old place
  TellingTells t op old (Collision place held other) new = (new ≡ old) × AreOneDigest digest_of (path_in t) (written old) place held other
  TellingTells t op old (Again taken_root root) new = (new ≡ old) × IsStale t old taken_root root

  pub record HasTold (t : TakenWord) (op : Op) (old : CtlData) (outcome : Outcome ℕ) (new : CtlData) : Type 0 where
    pub leaves : Leaves digest_of old new
    pub tells : TellingTells t op old outcome new

  -- a mounting checks places of the root table alone
  abbrev pub MountingsTell : Type 0
  MountingsTell = (zone : ℕ) (g : Going) → IsKept digest_of g.ctl → zone < g.ctl.zones
      → let r = mounted_for digest_of zone g in Accessed digest_of [] (λ _. IsMounted zone g.ctl r.after.ctl) g.ctl r.outcome r.after.ctl

  abbrev pub ReadsTell : Type 0
  ReadsTell = (page offset : ℕ) (g : Going) → IsKept digest_of g.ctl → page < 64 * g.ctl.zones → offset < 4096 → offset % 8 ≡ 0
      → let r = read_word_of digest_of page offset g in Accessed digest_of (word_places page (offset / 64)) (WordIsRead page offset g.ctl r.after.ctl) g.ctl r.outcome r.after.ctl

  abbrev pub WritesTell : Type 0
  WritesTell = (page offset width word : ℕ) (g : Going) → IsKept digest_of g.ctl → page < 64 * g.ctl.zones → offset < 4096 → IsTrue (is_width width) → offset % width ≡ 0
      → let r = write_part_of digest_of page offset width word g in
      Accessed digest_of (word_places page (offset / 64)) (λ _. BothChange page (λ bytes. with_bytes bytes offset (little_bytes width word)) g.ctl r.after.ctl) g.ctl r.outcome r.after.ctl

  abbrev pub PageReadsTell : Type 0
  PageReadsTell = (page : ℕ) (g : Going) → IsKept digest_of g.ctl → page < 64 * g.ctl.zones
      → let r = get_page_of digest_of page g in Accessed digest_of (page_places page) (PageIsRead page g.ctl r.after.ctl) g.ctl r.outcome r.after.ctl

  abbrev pub PageWritesTell : Type 0
  PageWritesTell = (page : ℕ) (bytes : List ℕ) (g : Going) → IsKept digest_of g.ctl → page < 64 * g.ctl.zones → length bytes ≡ 4096
      → let r = put_page_of digest_of page bytes g in Accessed digest_of (replaced_places page) (λ _. BothChange page (λ _. bytes) g.ctl r.after.ctl) g.ctl r.outcome r.after.ctl

  abbrev pub AsksTell : Type 0
  AsksTell = (page offset : ℕ) (g : Going) → IsKept digest_of g.ctl → page < 64 * g.ctl.zones
      → let r = ask_of digest_of page offset g in Accessed digest_of [] (PathIsTaken page offset g.ctl r.after.ctl) g.ctl r.outcome r.after.ctl

  abbrev pub TellingsTell : Type 0
  TellingsTell = (t : TakenWord) (op : Op) (g : Going) → IsKept digest_of g.ctl → t.page < 64 * g.ctl.zones → t.block < 64 → IsOpIn t.block op
      → let r = tell_of digest_of t op g in HasTold t op g.ctl r.outcome r.after.ctl

  -- a path that is taken from a mounted zone, and breaks at a place above which all stands as it was written then: so does that place not
  abbrev pub TakenPathsTell : Type 0
  TakenPathsTell = (x : CtlData) (page block : ℕ) → IsKept digest_of x → page < 64 * x.zones → block < 64 → is_mounted x.mounted (page / 64) ≡ true
      → (place : Place) → first_break digest_of (path_in (word_taken x page block)) ≡ Some place → (index : ℕ) → slice_index_or (word_places page block) index place ≡ place → index < 5
      → ((j : ℕ) → j < index → taken x (slice_index_or (word_places page block) j place) ≡ written x (slice_index_or (word_places page block) j place))
      → IsTampered x (word_places page block) place

  pub record CallsTell : Type 0 where
    pub mountings : MountingsTell
    pub reads : ReadsTell
    pub writes : WritesTell
    pub page_reads : PageReadsTell
    pub page_writes : PageWritesTell
    pub asks : AsksTell
    pub taken_paths : TakenPathsTell
    pub tellings : TellingsTell
