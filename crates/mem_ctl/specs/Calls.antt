-- What each call of the controller does.
use Rattle.std.specs.Prelude.{ℕ, ◌-◌, ◌*◌, ◌/◌, ◌%◌, Bool, List, [], Option, Some, None, map, if◌then◌else◌}
use Rattle.std.specs.List.{concat}
use Rattle.std.specs.Option.{option_map_or, unwrap_or}
use Rattle.std.specs.Str.{bytes_eq}
use Rattle.byteorder.specs.Endian.{little_bytes, little_number}
use Rattle.pl_base.specs.declared.place.Place.{Place}
use Rattle.pl_base.specs.declared.place.Place.TheVariants.{Block, Node}
use Rattle.pl_base.specs.Bytes.{bytes_at, with_bytes}
use Rattle.pl_digest.specs.Trees.{block_digests, lower_nodes, upper_node}
use Rattle.mem_geom.specs.Layout.{place_start}
use Rattle.mem_geom.specs.Parts.{page_bytes}
use Rattle.mem_geom.specs.PathPlaces.{page_places, replaced_places, word_places}
use Rattle.mem_slots.specs.Slots.{root_of, rooted_slot}
use Rattle.mem_tree.specs.declared.new_path.NewPath.{NewPath}
use Rattle.mem_tree.specs.Changes.{above_block, above_page, renewed, renewed_root}
use Rattle.mem_tree.specs.Checks.{Checked, check}
use Rattle.mem_tree.specs.Paths.{Path, first_break, path_of}
use Rattle.mem_tree.specs.Words.{part_bytes, parts_path, word_path}
use Rattle.mem_ctl.specs.declared.told.Op.{Op}
use Rattle.mem_ctl.specs.declared.told.Op.TheVariants.{Read, Write}
use Rattle.mem_ctl.specs.Data.{CtlData, Going, After, Again, answer, and_then, if_holds}
use Rattle.mem_ctl.specs.Mounting.{count_use, mounted_for, put, taken, written}
use Rattle.mem_ctl.specs.Writes.{with_page_under, word_at}

-- the root of a mounted zone
abbrev pub slot_root : CtlData → ℕ → List ℕ
slot_root x zone = unwrap_or (root_of x.mounted zone) []

-- a mounted zone has another root
abbrev pub with_root : CtlData → ℕ → List ℕ → CtlData
with_root x zone root = record x { mounted = map (rooted_slot zone root) x.mounted }

-- the path of a word, as it was taken: its page, its block, and the bytes and the root
pub record TakenWord : Type 0 where
  pub page : ℕ
  pub block : ℕ
  pub parts : NewPath

abbrev pub word_taken : CtlData → ℕ → ℕ → TakenWord
word_taken x page block = record { page = page; block = block; parts = word_path (slot_root x (page / 64)) (taken x) page block }

abbrev pub path_in : TakenWord → Path
path_in t = parts_path t.page t.block t.parts

-- where a sealed path's word is read, or some bytes of it are written
abbrev pub op_offset : Op → ℕ
op_offset (Read offset) = offset
op_offset (Write offset width value) = offset

-- a root is the one of the zone's slot
abbrev pub root_stands : List ℕ → Option (List ℕ) → Bool
root_stands root now = option_map_or (bytes_eq root) now Bool.false

module _ (digest_of : List ℕ → List ℕ) where
  -- the check of a path in a mounted zone
  abbrev pub zone_check : CtlData → ℕ → List Place → Checked
  zone_check x zone places = check digest_of (path_of (slot_root x zone) places (taken x)) (written x)

  -- an access mounts the zone of its page, counts a use, checks its path, and then answers its value and changes the controller
  abbrev pub accessed : {A : Type 0} → ℕ → List Place → (CtlData → A) → (CtlData → CtlData) → Going → After A
  accessed page places value change g =
      and_then (mounted_for digest_of (page / 64) g) (λ _ mounted.
      let h : Going = count_use (page / 64) mounted in
      if_holds (zone_check h.ctl (page / 64) places) h (answer (value h.ctl) (record h { ctl = change h.ctl })))

  unfoldable pub read_word_of : ℕ → ℕ → Going → After ℕ
  read_word_of page offset = accessed page (word_places page (offset / 64)) (λ x. word_at x.off_chip page offset) (λ x. x)

  -- some bytes are written into a block: it, the nodes over it and the root are renewed, from these bytes of each place
  unfoldable pub with_part : (Place → List ℕ) → ℕ → ℕ → ℕ → List ℕ → CtlData → CtlData
  with_part old page block at bytes x =
      with_root (put x (renewed digest_of old (Block page block) (with_bytes (old (Block page block)) at bytes) (above_block page block)))
      (page / 64) (renewed_root digest_of old (Block page block) (with_bytes (old (Block page block)) at bytes) (above_block page block))

  unfoldable pub write_part_of : ℕ → ℕ → ℕ → ℕ → Going → After (Unit {0})
  write_part_of page offset width word =
      accessed page (word_places page (offset / 64)) (λ x. tt) (λ x. with_part (taken x) page (offset / 64) (offset % 64) (little_bytes width word) x)

  unfoldable pub get_page_of : ℕ → Going → After (List ℕ)
  get_page_of page = accessed page (page_places page) (λ x. page_bytes x.off_chip page) (λ x. x)

  -- a memory with another page and the nodes of level 1 over its blocks
  abbrev pub with_page : ℕ → ℕ → List ℕ → List ℕ → List ℕ
  with_page zones page bytes = with_page_under zones page bytes (concat (lower_nodes (block_digests digest_of bytes)))

  -- a page is replaced: its node of level 2, the nodes above it and the root are renewed
  unfoldable pub with_page_at : ℕ → List ℕ → CtlData → CtlData
  with_page_at page bytes x =
      let node : List ℕ = upper_node digest_of (block_digests digest_of bytes) in
      let y : CtlData = record x { off_chip = with_page x.zones page bytes x.off_chip; mirror = with_page x.zones page bytes x.mirror } in
      with_root (put y (renewed digest_of (taken x) (Node 2 (page / 64) (page % 64)) node (above_page page)))
      (page / 64) (renewed_root digest_of (taken x) (Node 2 (page / 64) (page % 64)) node (above_page page))

  unfoldable pub put_page_of : ℕ → List ℕ → Going → After (Unit {0})
  put_page_of page bytes = accessed page (replaced_places page) (λ x. tt) (with_page_at page bytes)

  -- the path of a word alone, which is not checked
  unfoldable pub ask_of : ℕ → ℕ → Going → After TakenWord
  ask_of page offset g = and_then (mounted_for digest_of (page / 64) g) (λ _ h. answer (word_taken h.ctl page (offset / 64)) h)

  -- what a sealed path does where it holds, its root stands, and each place is as it was written
  abbrev pub told : TakenWord → Op → CtlData → CtlData
  told t (Read offset) x = x
  told t (Write offset width value) x = with_part (part_bytes t.parts) t.page t.block (offset % 64) (little_bytes width value) x

  -- a path that breaks is refused by its check; where it holds and its root is another or none by now, it is asked again;
  -- else it is checked against the mirror, counts a use, answers the eight bytes that hold the part, and writes
  abbrev pub tell_under : Option Place → TakenWord → Op → Going → After ℕ
  tell_under (Some place) t op g = if_holds (check digest_of (path_in t) (written g.ctl)) g (answer 0 g)
  tell_under None t op g =
      if root_stands t.parts.root (root_of g.ctl.mounted (t.page / 64))
      then if_holds (check digest_of (path_in t) (written g.ctl)) g
      (answer (little_number 8 (bytes_at t.parts.block (op_offset op % 64 / 8 * 8) 8)) (count_use (t.page / 64) (record g { ctl = told t op g.ctl })))
      else record { outcome = Again t.parts.root (root_of g.ctl.mounted (t.page / 64)); after = g }

  unfoldable pub tell_of : TakenWord → Op → Going → After ℕ
  tell_of t op g = tell_under (first_break digest_of (path_in t)) t op g
