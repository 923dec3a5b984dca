-- Nodes of a hash tree: eight digests of 32 bytes, one after another.
use Rattle.std.specs.Prelude.{ℕ, ◌-◌, ◌*◌, List, ◌++◌, length, replicate}
use Rattle.pl_base.specs.Bytes.{with_bytes}
use Rattle.pl_digest.specs.Trees.{piece}

-- digest number k of a node's eight
abbrev pub entry : ℕ → List ℕ → List ℕ
entry k node = piece 32 k node

-- the node with another digest as number k
abbrev pub with_entry : ℕ → List ℕ → List ℕ → List ℕ
with_entry k digest node = with_bytes node (32 * k) digest

-- the entry of a zone that does not exist: 32 zero bytes
unfoldable pub no_root : List ℕ
no_root = replicate 32 0

-- the 64 entries of the root table: the roots of the zones that there are, and then one for each that does not exist
unfoldable pub table_entries : List (List ℕ) → List (List ℕ)
table_entries roots = roots ++ replicate (64 - length roots) no_root
