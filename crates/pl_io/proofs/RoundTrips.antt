-- What is written for a number is read back as it.
use Rattle.std.proofs.Common.{◌≡◌, ℕ, zero, suc, ◌-◌, ◌^◌, ◌<◌, ◌≤◌, true, List, [], ◌∷◌, ◌++◌, length, map, replicate, Some, refl, ap, ◌∙◌, arith, length-append}
use Rattle.std.specs.Prelude.{decimal}
use Rattle.std.specs.List.{list_all}
use Rattle.std.specs.Char.{digit_char, digit_value}
use Rattle.std.specs.Int.Digits.{digits_of, AllBelowBase, number_from_digits}
use Rattle.std.specs.Str.Parse.{digits_value, AllDigits}
use Rattle.std.proofs.lemmas.Bool.{le-leb, ne_eqb}
use Rattle.std.proofs.lemmas.Bool.Decides.{leb_tells}
use Rattle.std.proofs.lemmas.List.{length-map, length-replicate}
use Rattle.std.proofs.lemmas.List.Folds.{list_all-append}
use Rattle.std.proofs.lemmas.Int.Digits.{digits_value_is, length-digits_of-le, length-digits_of_step, all_below_base_digits_of, number_digits_of}
use Rattle.std.proofs.lemmas.Str.{digit_value-digit_char}
use Rattle.std.proofs.lemmas.Str.Parse.{digit_from_value}
use Rattle.std.proofs.lemmas.Fmt.{decimal_is_IsNumeral, length-decimal-le}
use Rattle.pl_io.specs.Numbers.{is_hex_digit, is_dec_digit, hex_digits, hex_text, short_text, hex_value, dec_value}

-- 1 to 16 digits are read
hex_read : (text : List ℕ) (n : ℕ) → 1 ≤ length text → length text ≤ 16 → list_all is_hex_digit text ≡ true → digits_value 16 text ≡ n → hex_value text ≡ Some n
hex_read text n some few digits value = rw (le-leb 1 (length text) some, le-leb (length text) 16 few, digits, value) refl

digit_read : (d : ℕ) → d < 16 → is_hex_digit (digit_char d) ≡ true
digit_read d below = grind (arith, leb_tells)

digits_read : (ds : List ℕ) → AllBelowBase 16 ds → list_all is_hex_digit (map digit_char ds) ≡ true
digits_read [] below = refl
digits_read (d ∷ ds) below = rw (digit_read d below.0, digits_read ds below.1) refl

digits_meant : (ds : List ℕ) → AllBelowBase 16 ds → map digit_value (map digit_char ds) ≡ ds
digits_meant [] below = refl
digits_meant (d ∷ ds) below = let low = below.0 in rw (digit_value-digit_char d (omega (arith, low)), digits_meant ds below.1) refl

zeros_read : (n : ℕ) → list_all is_hex_digit (replicate n 48) ≡ true
zeros_read zero = refl
zeros_read (suc n) = zeros_read n

-- leading zeros add nothing
zeros_value : (n : ℕ) (ds : List ℕ) → digits_value 16 (replicate n 48 ++ ds) ≡ digits_value 16 ds
zeros_value zero ds = refl
zeros_value (suc n) ds = zeros_value n ds

hex_digits_value : (n : ℕ) → digits_value 16 (hex_digits n) ≡ n
hex_digits_value n =
    digits_value_is 16 (hex_digits n) ∙ ap (number_from_digits 16) (digits_meant (digits_of 16 n) (all_below_base_digits_of 16 n (omega arith))) ∙ number_digits_of 16 n (omega arith)

length-hex_digits : (n : ℕ) → n < 2 ^ 64 → length (hex_digits n) ≤ 16
length-hex_digits n fits = let few = length-digits_of-le 16 16 n (omega arith) (omega (arith, fits)) in omega (arith, few, length-map (digits_of 16 n) digit_char)

pub hex_reads_back : (n : ℕ) → n < 2 ^ 64 → hex_value (hex_text n) ≡ Some n
hex_reads_back n fits =
    let few = length-hex_digits n fits in
    let zeros = 16 - length (hex_digits n) in
    let whole : length (hex_text n) ≡ 16 = omega (arith, few, length-append (replicate zeros 48) (hex_digits n), length-replicate {A = ℕ} zeros 48) in
    let digits : list_all is_hex_digit (hex_text n) ≡ true =
    list_all-append is_hex_digit (replicate zeros 48) (hex_digits n) ∙ rw (zeros_read zeros, digits_read (digits_of 16 n) (all_below_base_digits_of 16 n (omega arith))) refl in
    hex_read (hex_text n) n (omega (arith, whole)) (omega (arith, whole)) digits (zeros_value zeros (hex_digits n) ∙ hex_digits_value n)

has_digit : (n : ℕ) → 0 < n → 1 ≤ length (hex_digits n)
has_digit n some = let more = length-digits_of_step 16 n (omega arith) some in omega (arith, more, length-map (digits_of 16 n) digit_char)

short_some : (n : ℕ) → 0 < n → short_text n ≡ hex_digits n
short_some n some = rw (ne_eqb n 0 (λ e. omega (arith, e))) refl

short_above : (n : ℕ) → 0 < n → n < 2 ^ 64 → hex_value (short_text n) ≡ Some n
short_above n some fits =
    let digits = digits_read (digits_of 16 n) (all_below_base_digits_of 16 n (omega arith)) in
    ap hex_value (short_some n some) ∙ hex_read (hex_digits n) n (has_digit n some) (length-hex_digits n fits) digits (hex_digits_value n)

pub short_reads_back : (n : ℕ) → n < 2 ^ 64 → hex_value (short_text n) ≡ Some n
short_reads_back zero fits = refl
short_reads_back (suc m) fits = short_above (suc m) (omega arith) fits

decimals_read : (text : List ℕ) → AllDigits 10 text → list_all is_dec_digit text ≡ true
decimals_read [] all = refl
decimals_read (c ∷ cs) all =
    let range = digit_from_value c all.0 in
    rw (le-leb 48 c range.0, le-leb c 57 range.1, decimals_read cs all.1) refl

pub dec_reads_back : (n : ℕ) → n < 2 ^ 64 → dec_value (decimal n) ≡ Some n
dec_reads_back n fits =
    let numeral = decimal_is_IsNumeral n fits in
    let few = length-decimal-le 20 n (omega arith) (omega (arith, fits)) fits in
    rw (le-leb 1 (length (decimal n)) numeral.0.0, le-leb (length (decimal n)) 20 few, decimals_read (decimal n) numeral.0.1, numeral.1, le-leb (suc n) (2 ^ 64) fits) refl
