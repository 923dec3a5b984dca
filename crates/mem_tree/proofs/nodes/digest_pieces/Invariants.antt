use Rattle.std.proofs.Common.{◌≡◌, ◌*◌, ◌++◌, map, drop}
use Rattle.std.specs.List.{concat}
use Rattle.pl_digest.specs.Trees.{pieces}
use Rattle.mem_tree.proofs.nodes.digest_pieces.Given as goal

-- the digests of the pieces so far, and then what was there
abbrev pub invariant-loop-k : goal.invariant-loop-k
invariant-loop-k g l = l.into ≡ concat (map g.D.Digester.digest_of (pieces l.size l.k l.bytes)) ++ drop (32 * l.k) l.fn.into
