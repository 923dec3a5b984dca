-- The arguments of a line, and the values that they stand for.
use Rattle.std.specs.Prelude.{ℕ, ◌&&◌, min, nat_le, List, length, codes, Option, Some, None, option_map, if◌then◌else◌, Result, Ok, Err}
use Rattle.std.specs.List.{list_all}
use Rattle.std.specs.Str.{bytes_eq}
use Rattle.hex.specs.Hex.{decode_of}
use Rattle.pl_base.specs.declared.number.EncNo.{EncNo}
use Rattle.pl_base.specs.declared.address.Va.{Va}
use Rattle.pl_base.specs.declared.perms.Perms.{Perms}
use Rattle.pl_io.specs.Numbers.{is_hex_digit, hex_value, dec_value}
use Rattle.pl_history.specs.Rules.{is_within, is_name}

-- a number from `low` to `high`
abbrev pub within : ℕ → ℕ → Option ℕ → Option ℕ
within low high None = None
within low high (Some n) = if is_within low high n then Some n else None

-- a decimal number below 2^32
abbrev pub small_number_of : List ℕ → Option ℕ
small_number_of text = within 0 0xffff_ffff (dec_value text)

-- the same, of which 255 and more are one: no enclave, image or actor has such a number
abbrev pub short_of : List ℕ → Option ℕ
short_of text = option_map (min 255) (small_number_of text)

abbrev pub enclave_of : List ℕ → Option EncNo
enclave_of text = option_map (λ n. record { 0 = n }) (short_of text)

abbrev pub budget_of : List ℕ → Option ℕ
budget_of text = within 1 0xffff_ffff (dec_value text)

abbrev pub length_of : List ℕ → Option ℕ
length_of text = within 1 4096 (dec_value text)

-- an address of the host, in hexadecimal
abbrev pub address_of : List ℕ → Option Va
address_of text = option_map (λ n. record { 0 = n }) (hex_value text)

abbrev pub perms_of_text : List ℕ → Option Perms
perms_of_text text =
    if bytes_eq text (codes "r") then Some (record { 0 = 1 })
    else if bytes_eq text (codes "rw") then Some (record { 0 = 3 })
    else if bytes_eq text (codes "rx") then Some (record { 0 = 5 })
    else if bytes_eq text (codes "rwx") then Some (record { 0 = 7 })
    else None

-- what a decoder gave
abbrev pub decoded : {E : Type 0} → Result (List ℕ) E → Option (List ℕ)
decoded (Ok bytes) = Some bytes
decoded (Err e) = None

-- at most 4,096 bytes, two digits `0-9a-f` each
abbrev pub bytes_of_hex : List ℕ → Option (List ℕ)
bytes_of_hex text = if nat_le (length text) 8192 && list_all is_hex_digit text then decoded (decode_of text) else None

-- the same, at least one
abbrev pub hex_bytes_of : List ℕ → Option (List ℕ)
hex_bytes_of text = if nat_le 1 (length text) then bytes_of_hex text else None

-- 1 to 16 of `a-z` and `0-9`
abbrev pub name_of : List ℕ → Option (List ℕ)
name_of text = if is_name text then Some text else None
