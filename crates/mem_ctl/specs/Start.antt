-- A controller as it is made: page words from a list, all digests over them, and nothing mounted.
use Rattle.std.specs.Prelude.{ℕ, ◌≡◌, ◌+◌, ◌*◌, ◌<◌, List, [], ◌++◌, map}
use Rattle.std.specs.List.{concat, range_with_len}
use Rattle.byteorder.specs.Endian.{little_bytes}
use Rattle.pl_base.specs.Bytes.{bytes_at}
use Rattle.pl_base.specs.ListedWords.{listed_word}
use Rattle.pl_digest.specs.Nodes.{table_entries}
use Rattle.pl_digest.specs.Trees.{block_digests, page_roots, table_root, upper_node, zone_root}
use Rattle.mem_ctl.specs.Data.{CtlData, ctl_data}

-- the bytes of a page: its 512 words are the listed ones, and else 0
unfoldable pub start_page : List (ℕ × ℕ × ℕ) → ℕ → List ℕ
start_page words page = concat (map (λ k. little_bytes 8 (listed_word words page (8 * k))) (range_with_len 0 512))

-- the words of so many pages in a memory are those
abbrev pub HasWords : ℕ → List (ℕ × ℕ × ℕ) → List ℕ → Type 0
HasWords pages words memory = (page k : ℕ) → page < pages → k < 512 → bytes_at memory (4096 * page + 8 * k) 8 ≡ little_bytes 8 (listed_word words page (8 * k))

-- the 64 pages of a zone
unfoldable pub start_zone : List (ℕ × ℕ × ℕ) → ℕ → List (List ℕ)
start_zone words zone = map (λ k. start_page words (64 * zone + k)) (range_with_len 0 64)

module _ (digest_of : List ℕ → List ℕ) where
  -- the nodes of the two lower levels over some pages
  unfoldable pub level1_nodes : List (List ℕ) → List ℕ
  level1_nodes pages = concat (map (λ page. concat (block_digests digest_of page)) pages)

  unfoldable pub level2_nodes : List (List ℕ) → List ℕ
  level2_nodes pages = concat (map (λ page. upper_node digest_of (block_digests digest_of page)) pages)

  -- the nodes over a zone's pages, level by level from below
  unfoldable pub zone_nodes : List (List ℕ) → List ℕ
  zone_nodes pages = level1_nodes pages ++ level2_nodes pages ++ concat (page_roots digest_of pages) ++ upper_node digest_of (page_roots digest_of pages)

  -- the nodes of the root table
  unfoldable pub table_nodes : List (List ℕ) → List ℕ
  table_nodes entries = concat entries ++ upper_node digest_of entries

  -- its entries: the roots of the zones that there are, and 32 zero bytes for each other
  unfoldable pub zone_entries : ℕ → (ℕ → List (List ℕ)) → List (List ℕ)
  zone_entries zones pages_of = table_entries (map (λ zone. zone_root digest_of (pages_of zone)) (range_with_len 0 zones))

  -- all off-chip bytes, where these are the pages of each zone: the pages, the nodes over them, and the root table
  unfoldable pub tree_memory : ℕ → (ℕ → List (List ℕ)) → List ℕ
  tree_memory zones pages_of =
      concat (map (λ zone. concat (pages_of zone)) (range_with_len 0 zones)) ++ concat (map (λ zone. zone_nodes (pages_of zone)) (range_with_len 0 zones))
      ++ table_nodes (zone_entries zones pages_of)

  -- the mirror has the off-chip bytes, the root on chip is the root table's, and nothing is mounted
  abbrev pub start_data : ℕ → ℕ → List (ℕ × ℕ × ℕ) → CtlData
  start_data zones slots words =
      ctl_data zones slots (tree_memory zones (start_zone words)) (tree_memory zones (start_zone words)) [] (table_root digest_of (zone_entries zones (start_zone words)))
