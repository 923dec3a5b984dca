-- Virtual addresses (RISC-V Privileged Architecture, Sv39).
use Rattle.std.specs.Prelude.{ℕ, ◌/◌, ◌-◌, ◌^◌, ◌≡◌, ◌<◌, ◌≤◌, Bool, ◌==◌, ◌||◌}
use Rattle.std.specs.Int.{bit_at}

-- bits 63:38 of the address are all zeros, or all ones
abbrev pub is_canonical : ℕ → Bool
is_canonical va = va / 2 ^ 38 == 0 || va / 2 ^ 38 == 2 ^ 26 - 1

-- bits 63:39 of the address equal bit 38
abbrev pub ExtendsBit38 : ℕ → Type 0
ExtendsBit38 va = (i : ℕ) → 39 ≤ i → i < 64 → bit_at va i ≡ bit_at va 38
