use Rattle.std.proofs.Common.{◌++◌, map, option_map, sym, ◌∙◌}
use Rattle.pl_io.proofs.PutsLemmas.{puts_second, puts_first_failed}
use Rattle.world_events.specs.Parts.{collision_data}
use Rattle.world_core.specs.Report.{ending_text, mounted_text, root_text}
use Rattle.world_core.proofs.report.put_report.Goals as goal

pub returns-then-is_err : goal.returns-then-is_err
returns-then-is_err g c =
    let mounted = mounted_text (map (λ s. s.zone) c.args.mounted.now) in
    let end = ending_text c.args.end (option_map (λ k. collision_data k.now) c.args.collision) in
    puts_first_failed _ _ _ _ (root_text c.args.root.now) (mounted ++ end) (record {}) c.put_root.result c.put_root.ensures (sym c.is_err.ensures.value ∙ c.if-is_err.true)

pub returns-then-is_err-2 : goal.returns-then-is_err-2
returns-then-is_err-2 g c =
    let mounted = mounted_text (map (λ s. s.zone) c.args.mounted.now) in
    let end = ending_text c.args.end (option_map (λ k. collision_data k.now) c.args.collision) in
    puts_second _ _ _ _ _ _ (root_text c.args.root.now) (mounted ++ end) c.put_root.result _ c.put_root.ensures (sym c.is_err.ensures.value ∙ c.if-is_err.false)
    (puts_first_failed _ _ _ _ mounted end (record {}) c.put_mounted.result c.put_mounted.ensures (sym c.is_err-2.ensures.value ∙ c.if-is_err-2.true))

pub returns : goal.returns
returns g c =
    let mounted = mounted_text (map (λ s. s.zone) c.args.mounted.now) in
    let end = ending_text c.args.end (option_map (λ k. collision_data k.now) c.args.collision) in
    puts_second _ _ _ _ _ _ (root_text c.args.root.now) (mounted ++ end) c.put_root.result _ c.put_root.ensures (sym c.is_err.ensures.value ∙ c.if-is_err.false)
    (puts_second _ _ _ _ _ _ mounted end c.put_mounted.result _ c.put_mounted.ensures (sym c.is_err-2.ensures.value ∙ c.if-is_err-2.false) c.put_end.ensures)
