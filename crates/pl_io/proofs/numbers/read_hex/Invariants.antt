use Rattle.std.proofs.Common.{◌≡◌, ◌^◌, ◌<◌, drop}
use Rattle.std.specs.List.{list_all}
use Rattle.std.specs.Str.Parse.{digits_value_after}
use Rattle.pl_io.specs.Numbers.{is_hex_digit}
use Rattle.pl_io.proofs.numbers.read_hex.Given as goal

abbrev pub invariant-loop-byte : goal.invariant-loop-byte
invariant-loop-byte l = record {
  fits : l.value < 16 ^ l.byte-index;
  all : list_all is_hex_digit l.text ≡ list_all is_hex_digit (drop l.byte-index l.text);
  rest : digits_value_after 16 0 l.text ≡ digits_value_after 16 l.value (drop l.byte-index l.text);
}
