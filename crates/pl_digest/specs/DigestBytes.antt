-- Laws of the two digest functions: a digest is 32 bytes. The impls cite them.
use Rattle.std.specs.Prelude.{◌≡◌, ℕ, zero, suc, ◌/◌, ◌^◌, ◌<◌, List, length, replicate, slice_index, refl}
use Rattle.std.specs.Int.{w32, to_be_bytes, bytes_high_first, byte_at}
use Rattle.std.proofs.Common.{lit<}
use Rattle.std.proofs.lemmas.Nat.{mod_below}
use Rattle.std.proofs.lemmas.List.{get_or-replicate}
use Rattle.std.proofs.lemmas.List.Elements.{All-nil, All-cons, All-append}
use Rattle.sha2.proofs.Facts256.{length-sha256}
use Rattle.sha2.specs.Sha256.{sha256, digest_bytes, final_hash, initial_hash_256}
use Rattle.pl_digest.specs.Digester.{AreBytes, first_byte_of}

pub length-first_byte_of : (m : List ℕ) → length (first_byte_of m) ≡ 32
length-first_byte_of m = refl

byte_at_byte : (k n : ℕ) → byte_at k n < 256
byte_at_byte zero n = mod_below n 256 (lit< tt)
byte_at_byte (suc k) n = mod_below (n / 256 ^ suc k) 256 (lit< tt)

high_first_bytes : (k n : ℕ) → AreBytes (bytes_high_first k n)
high_first_bytes zero n = All-nil (λ b. b < 256)
high_first_bytes (suc k) n = All-cons (λ b. b < 256) (byte_at k n) (bytes_high_first k n) (byte_at_byte k n) (high_first_bytes k n)

digest_bytes_bytes : (h : List ℕ) (n : ℕ) → AreBytes (digest_bytes h n)
unfolding digest_bytes
digest_bytes_bytes h zero = All-nil (λ b. b < 256)
digest_bytes_bytes h (suc n) = All-append (λ b. b < 256) (digest_bytes h n) (to_be_bytes w32 (slice_index h n)) (digest_bytes_bytes h n) (high_first_bytes 4 (slice_index h n))

pub sha256_bytes : (m : List ℕ) → AreBytes (sha256 m)
unfolding sha256
sha256_bytes m = digest_bytes_bytes (final_hash initial_hash_256 m) 8

pub first_byte_bytes : (m : List ℕ) → AreBytes (first_byte_of m)
first_byte_bytes m =
    All-cons (λ b. b < 256) (slice_index (sha256 m) 0) (replicate 31 0) (sha256_bytes m 0 0 (rw (length-sha256 m) (lit< tt))) (λ k d h. rw (get_or-replicate 31 k 0 d h) (lit< tt))
