use Rattle.std.proofs.Common.{arith, ◌∙◌, length-set}
use Rattle.pl_io.specs.Numbers.{hex_digits}
use Rattle.pl_io.proofs.HexSteps.{fits_before, hex_written, zeros_before, places_filled}
use Rattle.pl_io.proofs.writing.hex_digits.Goals as goal

pub loop-rest-preserved : goal.loop-rest-preserved
loop-rest-preserved c =
    let now = c.loop-rest in
    let kept = now.invariant in
    let some = c.loop-rest-test.true in record {
      size = length-set _ _ _ ∙ kept.size;
      within = omega (arith, kept.within);
      fits = fits_before now.rest now.start some kept.fits;
      digits = hex_written (hex_digits c.args.value) now.text now.rest now.start c.digit_char.result some kept.fits (omega (arith, kept.size, kept.within)) c.digit_char.ensures kept.digits;
      zeros = zeros_before now.text now.start c.digit_char.result kept.zeros;
    }

pub returns-clause-all : goal.returns-clause-all
returns-clause-all c =
    let now = c.loop-rest in
    let kept = now.invariant in
    places_filled c.args.value now.rest now.start now.text kept.size kept.within (omega (arith, c.loop-rest-test.false)) kept.digits
