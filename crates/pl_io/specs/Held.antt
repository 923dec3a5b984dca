-- What a source and a sink in memory hold, and what a read and a put make of it.
use Rattle.std.specs.Prelude.{ℕ, ◌+◌, ◌-◌, ◌/◌, ◌^◌, Bool, ◌==◌, ◌++◌, nat_lt, min, if◌then◌else◌, length, take, List}
use Rattle.std.specs.List.{list_any}

-- the bytes that are left, the numbers of the reads that fail, the number of the next read, the count of faults
pub record SourceData : Type 0 where
  pub left : List ℕ
  pub fails : List ℕ
  pub turn : ℕ
  pub faults : ℕ

-- the bytes written, the room for them, the numbers of the puts that fail, the number of the next put, the count of faults
pub record SinkData : Type 0 where
  pub bytes : List ℕ
  pub room : ℕ
  pub fails : List ℕ
  pub turn : ℕ
  pub faults : ℕ

-- the number of this turn is listed
abbrev pub is_listed : List ℕ → ℕ → Bool
is_listed fails turn = list_any (λ n. n == turn) fails

-- one more, to the end of 64 bits
abbrev pub one_more : ℕ → ℕ
one_more n = min (n + 1) (2 ^ 64 - 1)

-- a piece has more bytes than there is room for
abbrev pub is_over : SinkData → List ℕ → Bool
is_over s piece = nat_lt (s.room - length s.bytes) (length piece)

-- the bytes after a put: nothing of a piece that doesn't fit, and of a listed one the first half, rounded down
abbrev pub after_put : SinkData → List ℕ → List ℕ
after_put s piece = if is_over s piece then s.bytes else if is_listed s.fails s.turn then s.bytes ++ take (length piece / 2) piece else s.bytes ++ piece
