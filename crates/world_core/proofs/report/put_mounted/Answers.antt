use Rattle.std.proofs.Common.{◌≡◌, ◌++◌, map, sym, ◌∙◌}
use Rattle.std.specs.Prelude.{codes}
use Rattle.std.specs.List.{flat_map}
use Rattle.std.proofs.lemmas.List.Folds.{flat_map-map}
use Rattle.pl_io.proofs.PutsLemmas.{puts_second, puts_first_failed}
use Rattle.pl_history.specs.Text.{line_end}
use Rattle.world_core.specs.Report.{zone_text}
use Rattle.world_core.proofs.report.put_mounted.Goals as goal

pub returns-then-is_err : goal.returns-then-is_err
returns-then-is_err g c =
    puts_first_failed _ _ _ _ (codes "mounted") (flat_map zone_text (map (λ s. s.zone) c.args.mounted.now) ++ line_end) (record {}) c.put_text.result c.put_text.ensures (sym c.is_err.ensures.value ∙ c.if-is_err.true)

pub returns : goal.returns
returns g c =
    let zones : flat_map zone_text (map (λ s. s.zone) c.args.mounted.now) ≡ flat_map (λ s. zone_text s.zone) c.args.mounted.now = flat_map-map zone_text (λ s. s.zone) c.args.mounted.now in
    rw zones (puts_second _ _ _ _ _ _ (codes "mounted") (flat_map (λ s. zone_text s.zone) c.args.mounted.now ++ line_end) c.put_text.result _ c.put_text.ensures (sym c.is_err.ensures.value ∙ c.if-is_err.false) c.put_zone_line.ensures)
