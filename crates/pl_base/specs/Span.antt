-- Ranges of byte addresses.
use Rattle.std.specs.Prelude.{ℕ, Bool, nat_lt, nat_le, min, max, ◌&&◌}
use Rattle.pl_base.specs.declared.span.Span.{Span}

-- the addresses from one up to another, which is not in it
abbrev pub span : ℕ → ℕ → Span
span start stop = record { start = start; stop = stop }

-- some address is in both
abbrev pub overlaps : Span → Span → Bool
overlaps a b = nat_lt (max a.start b.start) (min a.stop b.stop)

-- no address of the second is outside the first
abbrev pub covers : Span → Span → Bool
covers a b = nat_le a.start b.start && nat_le b.stop a.stop
