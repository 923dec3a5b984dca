use Rattle.std.proofs.Common.{List, ℕ, map, ap, ◌∙◌}
use Rattle.std.specs.List.{concat}
use Rattle.pl_digest.specs.Trees.{pieces}
use Rattle.mem_tree.proofs.TreeNodes.{page_level1, page_level2}
use Rattle.mem_tree.proofs.nodes.page_nodes.Goals as goal

pub returns-clause-level1 : goal.returns-clause-level1
returns-clause-level1 g c = c.digest_pieces.ensures ∙ page_level1 g.D.Digester.digest_of g.met.D.Digester.digest_length c.args.page.now

pub returns-clause-level2 : goal.returns-clause-level2
returns-clause-level2 g c =
    c.digest_pieces-2.ensures ∙ ap (λ (bytes : List ℕ). concat (map g.D.Digester.digest_of (pieces 256 8 bytes))) c.digest_pieces.ensures
    ∙ page_level2 g.D.Digester.digest_of g.met.D.Digester.digest_length c.args.page.now
