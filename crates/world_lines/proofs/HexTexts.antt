-- Which texts are bytes.
use Rattle.std.proofs.Common.{◌≡◌, ℕ, ◌%◌, ◌==◌, ◌&&◌, nat_le, Bool, true, false, List, [], ◌∷◌, length, is_some, Option, None, if◌then◌else◌, Result, Ok, Err, refl, sym, ◌∙◌, arith, inl, inr}
use Rattle.std.specs.List.{list_all}
use Rattle.std.proofs.lemmas.List.Sums.{AllPass-from_list_all}
use Rattle.std.proofs.lemmas.Bool.{and_parts, cases_eq}
use Rattle.std.proofs.lemmas.Bool.Decides.{nat_tests}
use Rattle.hex.specs.Hex.{decode_of}
use Rattle.hex.specs.Hex as hex
use Rattle.hex.specs.declared.error.FromHexError.TheVariants.{OddLength}
use Rattle.hex.proofs.HexLemmas.{decode_of-digits, decode_of-odd}
use Rattle.pl_io.specs.Numbers.{is_hex_digit}
use Rattle.world_lines.specs.Arguments.{bytes_of_hex, decoded}

-- a digit of ours is one of theirs
digit_is : (c : ℕ) → is_hex_digit c ≡ true → hex.is_hex_digit c ≡ true
digit_is c e = grind (arith, nat_tests)

all_digits : (text : List ℕ) → list_all is_hex_digit text ≡ true → list_all hex.is_hex_digit text ≡ true
all_digits [] e = refl
all_digits (c ∷ cs) e =
    let both = and_parts (is_hex_digit c) (list_all is_hex_digit cs) e in
    rw (digit_is c both.0, all_digits cs both.1) refl

some_decoded : {E : Type 0} (r : Result (List ℕ) E) (bytes : List ℕ) → r ≡ Ok bytes → is_some (decoded r) ≡ true
some_decoded r bytes e = rw e refl

none_decoded : {E : Type 0} (r : Result (List ℕ) E) (fault : E) → r ≡ Err fault → is_some (decoded r) ≡ false
none_decoded r fault e = rw e refl

zero_test : (n : ℕ) → n ≡ 0 → (n == 0) ≡ true
zero_test n e = rw e refl

one_test : (n : ℕ) → n ≡ 1 → (n == 0) ≡ false
one_test n e = rw e refl

-- digits are bytes where their number is even
decodes : (text : List ℕ) → list_all is_hex_digit text ≡ true → is_some (decoded (decode_of text)) ≡ (length text % 2 == 0)
decodes text digits =
    elim (cases_eq (length text % 2) 1) [
      | inl odd ↦ none_decoded (decode_of text) OddLength (decode_of-odd text odd) ∙ sym (one_test (length text % 2) odd)
      | inr other ↦
          let even : length text % 2 ≡ 0 = omega arith in
          let read = decode_of-digits text even (AllPass-from_list_all hex.is_hex_digit text (all_digits text digits)) in
          some_decoded (decode_of text) read.0 read.1 ∙ sym (zero_test (length text % 2) even)
    ]

chosen : (short digits even : Bool) (o : Option (List ℕ)) → (digits ≡ true → is_some o ≡ even) → is_some (if short && digits then o else None) ≡ (even && (short && digits))
chosen true true true o e = e refl
chosen true true false o e = e refl
chosen true false true o e = refl
chosen true false false o e = refl
chosen false digits true o e = refl
chosen false digits false o e = refl

pub is_hex_text : (text : List ℕ) → is_some (bytes_of_hex text) ≡ (length text % 2 == 0 && (nat_le (length text) 8192 && list_all is_hex_digit text))
is_hex_text text = chosen (nat_le (length text) 8192) (list_all is_hex_digit text) (length text % 2 == 0) (decoded (decode_of text)) (decodes text)
