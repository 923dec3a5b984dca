-- Parts of off-chip memory, and what writes at places leave of it.
use Rattle.std.specs.Prelude.{ℕ, ◌+◌, ◌-◌, ◌*◌, ◌/◌, ◌%◌, List, ◌∷◌, [], map}
use Rattle.std.specs.List.{range_with_len}
use Rattle.byteorder.specs.Endian.{little_number}
use Rattle.pl_base.specs.declared.place.Place.TheVariants.{Node}
use Rattle.pl_base.specs.Bytes.{bytes_at, with_bytes}
use Rattle.mem_geom.specs.Layout.{place_start}
use Rattle.mem_geom.specs.Parts.{page_bytes}
use Rattle.mem_tree.specs.Changes.{PlaceBytes}

-- other bytes at a place
abbrev pub with_place : ℕ → List ℕ → PlaceBytes → List ℕ
with_place zones memory written = with_bytes memory (place_start zones written.place - 0x80000000) written.bytes

-- and at several, one after another
abbrev pub with_places : ℕ → List ℕ → List PlaceBytes → List ℕ
with_places zones memory [] = memory
with_places zones memory (written ∷ rest) = with_places zones (with_place zones memory written) rest

-- a memory with other bytes in a page, and these bytes as the nodes of level 1 over its blocks
abbrev pub with_page_under : ℕ → ℕ → List ℕ → List ℕ → List ℕ → List ℕ
with_page_under zones page bytes level1 memory =
    with_bytes (with_bytes memory (4096 * page) bytes) (place_start zones (Node 1 (page / 64) (8 * (page % 64))) - 0x80000000) level1

-- the 64 pages of a zone
unfoldable pub zone_pages : List ℕ → ℕ → List (List ℕ)
zone_pages memory zone = map (λ k. page_bytes memory (64 * zone + k)) (range_with_len 0 64)

-- the eight bytes of a page from an offset on, as a number
abbrev pub word_at : List ℕ → ℕ → ℕ → ℕ
word_at memory page offset = little_number 8 (bytes_at memory (4096 * page + offset) 8)
