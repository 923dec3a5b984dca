-- Hash trees over 64 leaves, eight under each node, for any digest function (Merkle trees: R. C. Merkle, CRYPTO 1987).
use Rattle.std.specs.Prelude.{ℕ, ◌*◌, List, map, take, drop}
use Rattle.std.specs.List.{concat, range_with_len}

-- piece number k, where each has n elements
abbrev pub piece : {A : Type 0} → ℕ → ℕ → List A → List A
piece n k xs = take n (drop (n * k) xs)

-- the first count pieces of n elements
unfoldable pub pieces : {A : Type 0} → ℕ → ℕ → List A → List (List A)
pieces n count xs = map (λ k. piece n k xs) (range_with_len 0 count)

-- a page's 64 blocks of 64 bytes
abbrev pub blocks : List ℕ → List (List ℕ)
blocks page = pieces 64 64 page

-- the eight nodes over 64 digests: each is eight of them, one after another
abbrev pub lower_nodes : List (List ℕ) → List (List ℕ)
lower_nodes digests = map concat (pieces 8 8 digests)

module _ (digest_of : List ℕ → List ℕ) where
  -- the node over those eight: their digests, one after another
  abbrev pub upper_node : List (List ℕ) → List ℕ
  upper_node digests = concat (map digest_of (lower_nodes digests))

  -- the root over 64 digests
  abbrev pub tree_root : List (List ℕ) → List ℕ
  tree_root digests = digest_of (upper_node digests)

  -- the digests of a page's blocks, and its root over them
  abbrev pub block_digests : List ℕ → List (List ℕ)
  block_digests page = map digest_of (blocks page)

  unfoldable pub page_root : List ℕ → List ℕ
  page_root page = tree_root (block_digests page)

  -- the roots of a zone's 64 pages, and its root over them
  abbrev pub page_roots : List (List ℕ) → List (List ℕ)
  page_roots pages = map page_root pages

  unfoldable pub zone_root : List (List ℕ) → List ℕ
  zone_root pages = tree_root (page_roots pages)

  -- the root over the 64 entries of the root table
  unfoldable pub table_root : List (List ℕ) → List ℕ
  table_root entries = tree_root entries
