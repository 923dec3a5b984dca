use Rattle.std.proofs.Common.{◌≡◌, ◌^◌, ◌<◌, ◌≤◌, ◌++◌, length, take, drop, replicate}
use Rattle.pl_io.specs.Numbers.{hex_digits}
use Rattle.pl_io.proofs.writing.hex_digits.Given as goal

abbrev pub invariant-loop-rest : goal.invariant-loop-rest
invariant-loop-rest l = record {
  size : length l.text ≡ 16;
  within : l.start ≤ 16;
  fits : l.rest < 16 ^ l.start;
  digits : hex_digits l.value ≡ hex_digits l.rest ++ drop l.start l.text;
  zeros : take l.start l.text ≡ replicate l.start 48;
}

abbrev pub decreases-loop-rest : goal.decreases-loop-rest
decreases-loop-rest l = l.rest
