-- Parts of a list of bytes.
use Rattle.std.specs.Prelude.{ℕ, ◌+◌, List, ◌++◌, length, replicate, take, drop}

-- the n bytes from place at on
abbrev pub bytes_at : List ℕ → ℕ → ℕ → List ℕ
bytes_at all at n = take n (drop at all)

-- all with other bytes from place at on
abbrev pub with_bytes : List ℕ → ℕ → List ℕ → List ℕ
with_bytes all at bytes = take at all ++ (bytes ++ drop (at + length bytes) all)

-- a page of zero bytes
unfoldable pub zero_page : List ℕ
zero_page = replicate 4096 0
