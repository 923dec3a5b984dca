-- One protection rule: a configuration byte and an address register (RISC-V Privileged Architecture, Physical Memory Protection CSRs).
use Rattle.std.specs.Prelude.{ℕ, ◌+◌, ◌*◌, ◌/◌, ◌%◌, ◌^◌, ◌-◌, ◌<◌, ◌≡◌, Bool, nat_lt, ◌==◌, ◌&&◌, ◌||◌, not, if◌then◌else◌}
use Rattle.std.specs.Int.{trailing_ones, w64}
use Rattle.pl_base.specs.Perms.{grants}
use Rattle.pl_base.specs.declared.access.Kind.TheVariants.{Fetch, Load, Store}
use Rattle.pl_base.specs.declared.perms.Perms.{Perms}
use Rattle.pl_base.specs.Span.{span}
use Rattle.rv_pmp.specs.declared.rule.Matching.{Matching}
use Rattle.rv_pmp.specs.declared.rule.Matching.TheVariants.{Off, Tor, Na4, Napot}
use Rattle.rv_pmp.specs.declared.rule.Rule.{Rule}
use Rattle.pl_base.specs.declared.span.Span.{Span}

-- bits 2:0 of the configuration, X, W and R: what the rule lets through
abbrev pub perms_of : Rule → Perms
perms_of rule = record { 0 = rule.cfg % 8 }

-- the bits of all three kinds
abbrev pub grants_each : Perms → Bool
grants_each perms = grants perms Fetch && grants perms Load && grants perms Store

-- bits 4:3 of the configuration, A: how the register is read
abbrev pub matching_of : Rule → Matching
matching_of rule =
    let a = rule.cfg / 8 % 4 in
    if a == 0 then Off else (if a == 1 then Tor else (if a == 2 then Na4 else Napot))

-- bits 6:5 are zero, W does not stand without R, and the register holds bits 55:2 of an address
abbrev pub is_valid : Rule → Bool
is_valid rule =
    rule.cfg / 32 % 4 == 0
    && (not (grants (perms_of rule) Store) || grants (perms_of rule) Load)
    && nat_lt rule.addr (2 ^ 54)

-- the number-th range of a size, counted from 0
abbrev pub nth_span : ℕ → ℕ → Span
nth_span number size = span (number * size) (number * size + size)

-- The naturally aligned range of a register in which k ones trail: of the ranges of 2 ^ (k + 3) bytes the one whose number stands
-- above the ones and their zero.
abbrev pub aligned_span : ℕ → Span
aligned_span addr =
    let k = trailing_ones w64 addr in
    nth_span (addr / 2 ^ (k + 1)) (2 ^ (k + 3))

-- the range of a register that is read in one of the four ways, after a register `before`
abbrev pub span_by : Matching → ℕ → ℕ → Span
span_by Off before addr = span 0 0
span_by Tor before addr = span (4 * before) (4 * addr)
span_by Na4 before addr = span (4 * addr) (4 * addr + 4)
span_by Napot before addr = aligned_span addr

-- the addresses that a rule matches, after a rule whose register is `before`
abbrev pub span_of : ℕ → Rule → Span
span_of before rule = span_by (matching_of rule) before rule.addr

-- the bits of a number, then a zero, then k ones, name the range of 2 ^ (k + 3) bytes that has this number
abbrev pub NamesRange : Type 0
NamesRange =
    (number k : ℕ) → number * 2 ^ (k + 1) + (2 ^ k - 1) < 2 ^ 54
    → aligned_span (number * 2 ^ (k + 1) + (2 ^ k - 1)) ≡ nth_span number (2 ^ (k + 3))
