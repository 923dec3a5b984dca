-- What the steps of making a controller leave: words, and nodes whose digests are known.
use Rattle.std.specs.Prelude.{ℕ, ◌≡◌, ◌*◌, ◌<◌, List, ◌++◌, map}
use Rattle.std.specs.List.{concat}
use Rattle.pl_base.specs.Bytes.{with_bytes}
use Rattle.pl_digest.specs.Trees.{block_digests, page_root, piece, pieces, upper_node}
use Rattle.mem_ctl.specs.declared.start.Known.{Known}
use Rattle.mem_ctl.specs.declared.start.LowerNodes.{LowerNodes}
use Rattle.mem_ctl.specs.declared.start.Top.{Top}

-- 64 times one digest
abbrev pub AreEachDigest : List ℕ → List ℕ → Type 0
AreEachDigest digest digests = (k : ℕ) → k < 64 → piece 32 k digests ≡ digest

module _ (digest_of : List ℕ → List ℕ) where
  -- the nodes over a page, and its root
  pub record AreNodesOver (page : List ℕ) (nodes : LowerNodes) : Type 0 where
    pub level1 : nodes.level1 ≡ concat (block_digests digest_of page)
    pub level2 : nodes.level2 ≡ upper_node digest_of (block_digests digest_of page)
    pub root : nodes.root ≡ page_root digest_of page

  -- the node over eight nodes, which are 2,048 bytes, and its digest
  pub record IsTopOver (lower : List ℕ) (top : Top) : Type 0 where
    pub node : top.node ≡ concat (map digest_of (pieces 256 8 lower))
    pub root : top.root ≡ digest_of top.node

  -- the root table is written with these entries, as 2,048 bytes, and this is its root
  pub record IsTableWritten (zones : ℕ) (entries : List ℕ) (old new root : List ℕ) : Type 0 where
    pub bytes : new ≡ with_bytes old (411904 * zones) (entries ++ concat (map digest_of (pieces 256 8 entries)))
    pub is : root ≡ digest_of (concat (map digest_of (pieces 256 8 entries)))

  -- the nodes of a known page, and the node over known digests
  pub record IsKnown (known : Known) : Type 0 where
    pub nodes : AreNodesOver known.page known.nodes
    pub top : IsTopOver known.digests known.top
