-- Ranges of addresses, and the places that they meet.
use Rattle.std.specs.Prelude.{ℕ, ◌+◌, Bool}
use Rattle.pl_base.specs.declared.place.Place.{Place}
use Rattle.pl_base.specs.declared.span.Span.{Span}
use Rattle.pl_base.specs.Span.{span, overlaps}
use Rattle.mem_geom.specs.Layout.{place_start, place_end}

-- the addresses of a place
abbrev pub place_span : ℕ → Place → Span
place_span zones place = span (place_start zones place) (place_end zones place)

-- some byte of the range, of so many bytes from an address on, belongs to the place
abbrev pub overlaps_place : ℕ → ℕ → ℕ → Place → Bool
overlaps_place zones address count place = overlaps (span address (address + count)) (place_span zones place)
