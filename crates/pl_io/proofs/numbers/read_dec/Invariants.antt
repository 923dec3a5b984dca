use Rattle.std.proofs.Common.{◌≡◌, ◌^◌, ◌<◌, drop}
use Rattle.std.specs.List.{list_all}
use Rattle.std.specs.Str.Parse.{digits_value_after}
use Rattle.pl_io.specs.Numbers.{is_dec_digit}
use Rattle.pl_io.proofs.numbers.read_dec.Given as goal

abbrev pub invariant-loop-byte : goal.invariant-loop-byte
invariant-loop-byte l = record {
  fits : l.value < 10 ^ l.byte-index;
  all : list_all is_dec_digit l.text ≡ list_all is_dec_digit (drop l.byte-index l.text);
  rest : digits_value_after 10 0 l.text ≡ digits_value_after 10 l.value (drop l.byte-index l.text);
}
