use Rattle.std.proofs.Common.{◌≡◌, subst}
use Rattle.pl_digest.specs.Trees.{table_root}
use Rattle.mem_ctl.specs.Kept.{root_entries}
use Rattle.mem_ctl.proofs.KeptLaws.{table_holds}
use Rattle.mem_ctl.proofs.ctl.Ctl.root.Goals as goal

pub returns-clause-table : goal.returns-clause-table
returns-clause-table g c =
    subst (λ v. c.self.inside.root ≡ table_root g.D.Digester.digest_of (root_entries v.0.zones v.0.mirror)) c.self.view_is
    (table_holds g.D.Digester.digest_of g.met.D.Digester.digest_length _ c.self.invariant.trees).root_is
