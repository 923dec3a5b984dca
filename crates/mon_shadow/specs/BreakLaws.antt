-- What the copy of a page leaves and tells, over plain data, for every digest function with digests of 32 bytes and any positions.
use Rattle.std.specs.Prelude.{ℕ, ◌≡◌, ◌≢◌, ◌+◌, ◌*◌, ◌<◌, ◌≤◌, ◌==◌, ◌⊎◌, if◌then◌else◌, IsTrue, List, ◌++◌, length, slice_set}
use Rattle.byteorder.specs.Endian.{little_bytes}
use Rattle.pl_base.specs.Bytes.{with_bytes}
use Rattle.pl_base.specs.Perms.{are_page_perms}
use Rattle.pl_base.specs.declared.access.Mode.TheVariants.{User}
use Rattle.pl_base.specs.declared.perms.Perms.{Perms}
use Rattle.pl_base.specs.declared.place.Place.{Place}
use Rattle.mem_geom.specs.Parts.{page_bytes}
use Rattle.mem_geom.specs.PathPlaces.{page_places, replaced_places}
use Rattle.mem_ctl.specs.Access.{AllAsWritten, BothChange, BothStay, IfValue, IsCollision, IsTampered, Leaves}
use Rattle.mem_ctl.specs.Data.{CtlData, Going, Outcome, Value, Fault, Collision, Again}
use Rattle.mem_ctl.specs.TreesHold.{IsKept}
use Rattle.mon_host.specs.Laws.{mirror_words, places_of}
use Rattle.mon_tables.specs.declared.number_tables.Leaf.{Leaf}
use Rattle.mon_tables.specs.SpaceWalks.{NumberTables}
use Rattle.mon_tables.specs.Tables.{number_slot, table_number}
use Rattle.mon_tables.specs.Words.{leaf_word}
use Rattle.mon_shadow.specs.Breaking.{if_put, page_copied}

-- ---- what is left

-- a memory whose page `spare` has these bytes, and one word of the table's page is another; every other page stays
abbrev pub CopiesPage : ℕ → ℕ → List ℕ → ℕ × ℕ → ℕ → List ℕ → List ℕ → Type 0
CopiesPage zones spare bytes slot word old new =
    (page : ℕ) → page < 64 * zones
    → page_bytes new page ≡ (if page == spare then bytes else (if page == slot.0 then with_bytes (page_bytes old slot.0) slot.1 (little_bytes 8 word) else page_bytes old page))

-- the spare has the bytes of the shared page as last written, off chip and in the mirror, where the shared page stood as it was written; and the
-- leaf's word alone is changed
pub record PageIsCopied (shared spare : ℕ) (slot : ℕ × ℕ) (word : ℕ) (old new : CtlData) : Type 0 where
  pub as_held : page_bytes old.off_chip shared ≡ page_bytes old.mirror shared
  pub off_chip_pages : CopiesPage old.zones spare (page_bytes old.mirror shared) slot word old.off_chip new.off_chip
  pub mirror_pages : CopiesPage old.zones spare (page_bytes old.mirror shared) slot word old.mirror new.mirror

-- the spare alone has changed, in both: it has the bytes of the shared page as last written
abbrev pub SpareChanges : ℕ → ℕ → CtlData → CtlData → Type 0
SpareChanges shared spare old new = BothChange spare (λ _. page_bytes old.mirror shared) old new

-- ---- what a refusal tells

-- by which of the three paths a copy is refused, with its cause: by the shared page's or above the spare, and all pages stay; by the leaf's, and
-- the spare alone has changed
abbrev pub CopyRefused : ℕ → ℕ → ℕ × ℕ → (List Place → Type 0) → CtlData → CtlData → Type 0
CopyRefused shared spare slot Cause old new =
    (BothStay old new × Cause (page_places shared)) ⊎ ((BothStay old new × Cause (replaced_places spare)) ⊎ (SpareChanges shared spare old new × Cause (places_of slot)))

-- the places that a copy checks, one path after another
abbrev pub copied_places : ℕ → ℕ → ℕ × ℕ → List Place
copied_places shared spare slot = page_places shared ++ (replaced_places spare ++ places_of slot)

-- the first two paths stood as they were written before the copy, and all three stand so after it
pub record PathsStand (shared spare : ℕ) (slot : ℕ × ℕ) (old new : CtlData) : Type 0 where
  pub first_stood : AllAsWritten old (page_places shared ++ replaced_places spare)
  pub all_stand : AllAsWritten new (copied_places shared spare slot)

module _ (digest_of : List ℕ → List ℕ) where
  abbrev pub CopyTells : ℕ → ℕ → ℕ × ℕ → ℕ → CtlData → Outcome (Unit {0}) → CtlData → Type 0
  CopyTells shared spare slot word old (Value done) new = PageIsCopied shared spare slot word old new
  CopyTells shared spare slot word old (Fault place) new =
      CopyRefused shared spare slot (λ places. IsTampered new places place) old new × IsTampered new (copied_places shared spare slot) place
  CopyTells shared spare slot word old (Collision place held other) new =
      CopyRefused shared spare slot (λ places. IsCollision digest_of new places place held other) old new × IsCollision digest_of new (copied_places shared spare slot) place held other
  CopyTells shared spare slot word old (Again taken_root root) new = ⊥

  -- a copy, as `Accessed`: what it leaves, and what its outcome tells
  pub record HasCopied (shared spare : ℕ) (slot : ℕ × ℕ) (word : ℕ) (old : CtlData) (outcome : Outcome (Unit {0})) (new : CtlData) : Type 0 where
    pub leaves : Leaves digest_of old new
    pub whole : IfValue outcome (PathsStand shared spare slot old new)
    pub tells : CopyTells shared spare slot word old outcome new

  -- ---- the laws

  abbrev pub CopiesTell : Type 0
  CopiesTell = (tables e index shared spare : ℕ) (perms : Perms) (g : Going) → IsKept digest_of g.ctl → 2 + tables + 3 * (e + 1) ≤ 64 * g.ctl.zones → index < 256
      → shared < 64 * g.ctl.zones → spare < 64 * g.ctl.zones → spare ≢ table_number tables e 0
      → let r = page_copied digest_of tables e index shared spare perms g in
      HasCopied shared spare (number_slot tables e index) (leaf_word spare perms User) g.ctl r.outcome r.after.ctl

  -- the number's tables have the leaf of the spare where all is put, and stay where not
  abbrev pub CopiesSetLeaf : Type 0
  CopiesSetLeaf = (tables e index shared spare : ℕ) (perms : Perms) (g : Going) (leaves : List Leaf) → IsKept digest_of g.ctl → 2 + tables + 3 * (e + 1) ≤ 64 * g.ctl.zones
      → index < length leaves → length leaves ≤ 256 → shared < 64 * g.ctl.zones → spare < 64 * g.ctl.zones → ((level : ℕ) → level < 3 → spare ≢ table_number tables e level)
      → IsTrue (are_page_perms perms) → NumberTables tables e (mirror_words g.ctl) leaves
      → let r = page_copied digest_of tables e index shared spare perms g in
      NumberTables tables e (mirror_words r.after.ctl) (if_put r.outcome (slice_set leaves index (record { page = spare; perms = perms })) leaves)
