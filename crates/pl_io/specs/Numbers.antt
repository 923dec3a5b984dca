-- Numbers as texts, in ASCII.
use Rattle.std.specs.Prelude.{ℕ, ◌-◌, ◌/◌, ◌%◌, ◌^◌, Bool, ◌&&◌, ◌||◌, ◌==◌, List, [], ◌∷◌, ◌++◌, length, map, replicate, Option, Some, None, if◌then◌else◌, nat_le, nat_lt, codes}
use Rattle.std.specs.List.{list_all, flat_map}
use Rattle.std.specs.Char.{digit_char}
use Rattle.std.specs.Int.Digits.{digits_of}
use Rattle.std.specs.Str.Parse.{digits_value}

-- the characters 0 to 9
abbrev pub is_dec_digit : ℕ → Bool
is_dec_digit c = nat_le 48 c && nat_le c 57

-- the characters 0 to 9 and a to f
abbrev pub is_hex_digit : ℕ → Bool
is_hex_digit c = is_dec_digit c || (nat_le 97 c && nat_le c 102)

-- the number that 1 to 16 hexadecimal digits stand for, the highest first
abbrev pub hex_value : List ℕ → Option ℕ
hex_value text = if (nat_le 1 (length text) && nat_le (length text) 16) && list_all is_hex_digit text then Some (digits_value 16 text) else None

-- the number that 1 to 20 decimal digits stand for, the highest first, where it is below 2^64
abbrev pub dec_value : List ℕ → Option ℕ
dec_value text =
    if (nat_le 1 (length text) && nat_le (length text) 20) && (list_all is_dec_digit text && nat_lt (digits_value 10 text) (2 ^ 64)) then Some (digits_value 10 text) else None

-- the characters of a number's digits in base 16, the highest first; none for 0
abbrev pub hex_digits : ℕ → List ℕ
hex_digits n = map digit_char (digits_of 16 n)

-- hexadecimal without leading zeros; 0 is `0`
abbrev pub short_text : ℕ → List ℕ
short_text n = if n == 0 then codes "0" else hex_digits n

-- hexadecimal with leading zeros, to 16 digits
abbrev pub hex_text : ℕ → List ℕ
hex_text n = replicate (16 - length (hex_digits n)) 48 ++ hex_digits n

-- two digits of a byte
abbrev pub byte_text : ℕ → List ℕ
byte_text b = digit_char (b / 16) ∷ digit_char (b % 16) ∷ []

-- two digits of each byte
abbrev pub bytes_text : List ℕ → List ℕ
bytes_text = flat_map byte_text
