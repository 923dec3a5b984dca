use Rattle.std.proofs.Common.{◌∙◌, ap, sym}
use Rattle.pl_digest.specs.Trees.{page_root}
use Rattle.mem_tree.proofs.TreeNodes.{page_level1}
use Rattle.mem_ctl.proofs.start.nodes_over.Goals as goal

pub returns : goal.returns
unfolding page_root
returns g c =
    let d = g.D.Digester.digest_of in
    record {
      level1 = c.page_nodes.ensures.level1 ∙ sym (page_level1 d g.met.D.Digester.digest_length c.args.page.now);
      level2 = c.page_nodes.ensures.level2;
      root = c.digest-root.ensures ∙ ap d c.page_nodes.ensures.level2;
    }
