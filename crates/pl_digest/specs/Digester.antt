-- What digests are made of.
use Rattle.std.specs.Prelude.{ℕ, ◌<◌, List, ◌∷◌, replicate, slice_index, All}
use Rattle.sha2.specs.Sha256.{sha256}

-- each number is a byte
abbrev pub AreBytes : List ℕ → Type 0
AreBytes xs = All (λ b. b < 256) xs

-- the first byte of SHA-256 (FIPS 180-4, section 6.2), and then 31 zero bytes
abbrev pub first_byte_of : List ℕ → List ℕ
first_byte_of message = slice_index (sha256 message) 0 ∷ replicate 31 0
