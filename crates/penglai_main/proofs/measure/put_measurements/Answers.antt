use Rattle.std.proofs.Common.{sym, ◌∙◌, arith}
use Rattle.penglai_main.proofs.MeasureLemmas.{went_on, stopped}
use Rattle.penglai_main.proofs.measure.put_measurements.Goals as goal

pub returns-then-is_err : goal.returns-then-is_err
returns-then-is_err g c =
    stopped _ _ _ _ _ _ c.args.images.now c.loop-number.number c.index-images-number.result tt (record {}) c.put_measurement.result (omega arith) c.index-images-number.is c.loop-number.invariant c.put_measurement.ensures
    (sym c.is_err.ensures.value ∙ c.if-is_err.true)

pub loop-number-preserved : goal.loop-number-preserved
loop-number-preserved g c =
    went_on _ _ _ _ _ _ c.args.images.now c.loop-number.number c.index-images-number.result tt c.put_measurement.result (omega arith) c.index-images-number.is c.loop-number.invariant c.put_measurement.ensures
    (sym c.is_err.ensures.value ∙ c.if-is_err.false)
