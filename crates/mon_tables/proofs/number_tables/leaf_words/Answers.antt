use Rattle.std.proofs.Common.{◌≡◌, ◌+◌, length, arith, ap, set, ◌∙◌}
use Rattle.mon_tables.specs.declared.number_tables.Leaf.{Leaf}
use Rattle.mon_tables.proofs.LeafWords.{leaves_written, none_written, one_more, all_written}
use Rattle.mon_tables.proofs.number_tables.leaf_words.Goals as goal

pub loop-i-init : goal.loop-i-init
loop-i-init c = none_written c.args.leaves.now

pub loop-i-preserved : goal.loop-i-preserved
loop-i-preserved c =
    let none : Leaf = record { page = 0; perms = record { 0 = 0 } } in
    ap (λ ws. set ws (16 + c.loop-i.i) c.leaf_word.result) c.loop-i.invariant
    ∙ (ap (λ w. set (leaves_written c.args.leaves.now c.loop-i.i) (16 + c.loop-i.i) w) c.leaf_word.ensures
    ∙ one_more c.args.leaves.now c.loop-i.i none c.loop-i-test.true c.requires.few)

pub returns : goal.returns
returns c =
    let last : c.loop-i.i ≡ length c.args.leaves.now = omega (arith, c.loop-i.auto.i-end, c.loop-i-test.false) in
    c.loop-i.invariant ∙ all_written c.args.leaves.now c.loop-i.i last
