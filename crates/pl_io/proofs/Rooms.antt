-- Digits read so far leave room for one more.
use Rattle.std.proofs.Common.{◌≡◌, ℕ, ◌+◌, ◌*◌, ◌^◌, ◌<◌, ◌≤◌, refl, arith}
use Rattle.std.proofs.Math.Nat.{pow-le-pow_right}

pub hex_room : (value i : ℕ) → value < 16 ^ i → i < 16 → value * 16 + 15 < 2 ^ 64
hex_room value i fits below =
    let bound : 16 ^ i ≤ 16 ^ 15 = pow-le-pow_right {n = 16} (omega arith) {i = i} {j = 15} (omega arith) in
    let top : 16 ^ 15 ≡ 1152921504606846976 = refl in
    omega arith

pub dec_room : (value i : ℕ) → value < 10 ^ i → i < 20 → value * 10 + 9 < 2 ^ 128
dec_room value i fits below =
    let bound : 10 ^ i ≤ 10 ^ 19 = pow-le-pow_right {n = 10} (omega arith) {i = i} {j = 19} (omega arith) in
    let top : 10 ^ 19 ≡ 10000000000000000000 = refl in
    omega arith
