-- Digits of base 16, written from the last to the first.
use Rattle.std.proofs.Common.{◌≡◌, ℕ, zero, suc, ◌+◌, ◌-◌, ◌*◌, ◌/◌, ◌%◌, ◌^◌, ◌<◌, ◌≤◌, List, [], ◌∷◌, ◌++◌, length, map, take, drop, set, replicate, refl, sym, ap, ◌∙◌, arith, append_assoc, length-drop}
use Rattle.std.proofs.Math.Nat.{div-lt_iff_lt-mul, pow-succ'}
use Rattle.std.proofs.lemmas.List.{drop-set, take-set, take-replicate, take-take, map-append}
use Rattle.std.proofs.lemmas.Int.Digits.{digits_of_step}
use Rattle.std.specs.Char.{digit_char}
use Rattle.std.specs.Int.Digits.{digits_of}
use Rattle.pl_io.specs.Numbers.{hex_digits}

-- a number that isn't 0 has a digit
pub has_place : (n start : ℕ) → 0 < n → n < 16 ^ start → 0 < start
has_place n zero some fits = absurd (omega arith)
has_place n (suc s) some fits = omega arith

-- without its last digit it has one less
pub fits_before : (n start : ℕ) → 0 < n → n < 16 ^ start → n / 16 < 16 ^ (start - 1)
fits_before n zero some fits = absurd (omega arith)
fits_before n (suc s) some fits =
    let grown : 16 ^ suc s ≡ 16 * 16 ^ s = pow-succ' 16 s in
    let below : n / 16 < 16 ^ s = (div-lt_iff_lt-mul {k = 16} {x = n} {y = 16 ^ s} (omega arith)).1 (omega (arith, grown)) in
    let one_less : suc s - 1 ≡ s = omega arith in
    rw one_less below

-- the last digit of a number comes after those of its sixteenth
hex_last : (n : ℕ) → 0 < n → hex_digits n ≡ hex_digits (n / 16) ++ digit_char (n % 16) ∷ []
hex_last n some = ap (map digit_char) (digits_of_step 16 n (omega arith) some) ∙ map-append digit_char (digits_of 16 (n / 16)) (n % 16 ∷ [])

-- the last digit is written before the others
pub hex_written : (whole text : List ℕ) (n start d : ℕ) → 0 < n → n < 16 ^ start → start ≤ length text → d ≡ digit_char (n % 16) → whole ≡ hex_digits n ++ drop start text
    → whole ≡ hex_digits (n / 16) ++ drop (start - 1) (set text (start - 1) d)
hex_written whole text n start d some fits within digit so_far =
    let place = has_place n start some fits in
    let whole_again : (start - 1) + 1 ≡ start = omega arith in
    let written : drop (start - 1) (set text (start - 1) d) ≡ d ∷ drop start text = rw whole_again at (drop-set text (start - 1) d (omega arith)) in
    rw (written, digit) (so_far ∙ rw (hex_last n some) refl ∙ append_assoc (hex_digits (n / 16)) (digit_char (n % 16) ∷ []) (drop start text))

-- the places before it still hold zeros
pub zeros_before : (text : List ℕ) (start d : ℕ) → take start text ≡ replicate start 48 → take (start - 1) (set text (start - 1) d) ≡ replicate (start - 1) 48
zeros_before text start d zeros =
    take-set text (start - 1) d ∙ sym (take-take (start - 1) start text (omega arith)) ∙ ap (take (start - 1)) zeros ∙ take-replicate (start - 1) start 48 (omega arith)

-- at the end the digits fill the places from the start on
pub places_filled : (value rest start : ℕ) (text : List ℕ) → length text ≡ 16 → start ≤ 16 → rest ≡ 0 → hex_digits value ≡ hex_digits rest ++ drop start text → start + length (hex_digits value) ≡ 16
places_filled value rest start text size within none digits =
    let written : hex_digits value ≡ drop start text = rw none at digits in
    omega (arith, ap length written, length-drop start text)
