use Rattle.std.proofs.Common.{IsTrue, All, List, subst, sym, ◌∙◌}
use Rattle.pl_base.specs.Perms.{are_page_perms}
use Rattle.mon_tables.specs.declared.number_tables.Leaf.{Leaf}
use Rattle.mon_life.proofs.LeafLemmas.{leaves_perms}
use Rattle.mon_life.proofs.pages.put_table.Goals as goal

pub table_page-requires-clause-perms : goal.table_page-requires-clause-perms
table_page-requires-clause-perms g c =
    let P : List Leaf → Type 0 = λ leaves. All (λ (leaf : Leaf). IsTrue (are_page_perms leaf.perms)) leaves in
    subst P (sym (c.as_slice.ensures.value ∙ c.leaves_of-leaves.ensures)) (leaves_perms c.args.kinds.now c.args.image.now c.requires.perms)
