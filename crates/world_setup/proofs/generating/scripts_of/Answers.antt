use Rattle.std.proofs.Common.{List, [], ◌∷◌, ◌++◌, sym, ap, ◌∙◌, arith}
use Rattle.std.proofs.lemmas.List.FromFn.{map-range_with_len_more}
use Rattle.pl_history.specs.declared.line.Line.{Line}
use Rattle.world_setup.specs.Generating.{hart_script}
use Rattle.world_setup.proofs.generating.scripts_of.Goals as goal

pub loop-hart-preserved : goal.loop-hart-preserved
loop-hart-preserved c =
    c.in_ok-push.ensures.items ∙ ap (λ (lines : List Line). c.loop-hart.scripts.items ++ lines ∷ []) c.in_ok-hart_script.ensures
    ∙ ap (λ (scripts : List (List Line)). scripts ++ hart_script c.args.n c.loop-hart.hart ∷ []) c.loop-hart.invariant ∙ sym (map-range_with_len_more (hart_script c.args.n) 0 c.loop-hart.hart c.loop-hart.hart (omega arith))
