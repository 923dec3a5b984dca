-- Whether a write of the attacker may be answered as changing a byte: the host's bytes in the monitor are those off chip.
use Rattle.std.proofs.Common.{◌≡◌, ◌≢◌, ℕ, zero, suc, ◌+◌, ◌-◌, ◌*◌, ◌/◌, ◌%◌, ◌<◌, ◌≤◌, eqb, Bool, true, false, not, ◌&&◌, ◌||◌, if◌then◌else◌, List, [], ◌∷◌, length, drop, slice_get, Option, Some, None, is_some, refl, sym, ap, ◌∙◌, subst, arith, inl, inr}
use Rattle.std.specs.Str.{bytes_eq}
use Rattle.std.proofs.lemmas.Bool.{cases_Bool, eqb-true, eq-eqb, false≢true}
use Rattle.std.proofs.lemmas.List.{length-take-le}
use Rattle.std.proofs.lemmas.Slice.Eq.{bytes_eq-Decides}
use Rattle.pl_base.specs.Bytes.{bytes_at}
use Rattle.pl_history.specs.Attacking.{changes_host, host_byte, is_other, lies_in_host, may_say_changed}
use Rattle.pl_history.specs.Monitor.{Monitor, is_host}
use Rattle.world_attack.proofs.WriteLemmas.{slice_get-drop, slice_get-take}
use Rattle.world_machine.specs.BytesAgree.{HostBytesAgree}
use Rattle.world_machine.proofs.HostBytes.{byte_of_page, same_elements}

bytes_same : (xs : List ℕ) → bytes_eq xs xs ≡ true
bytes_same [] = refl
bytes_same (x ∷ xs) = ap (λ b. b && bytes_eq xs xs) (eq-eqb x x refl) ∙ bytes_same xs

or_false : (a b : Bool) → a || b ≡ false → (a ≡ false) × (b ≡ false)
or_false true b is = absurd (false≢true (sym is))
or_false false b is = (refl, is)

and_true : (a b : Bool) → a && b ≡ true → (a ≡ true) × (b ≡ true)
and_true true b is = (refl, is)
and_true false b is = absurd (false≢true is)

module _ (off : List ℕ) (s : Monitor) (host : HostBytesAgree off s) where
  -- the host's byte at an address is the one off chip
  byte_by : (b : Bool) (address : ℕ) → 0x80000000 ≤ address → is_host (s.owner ((address - 0x80000000) / 4096)) ≡ b
      → host_byte s address ≡ (if b then slice_get off (address - 0x80000000) else None)
  byte_by true address from is =
      ap (λ t. if t then slice_get (s.bytes ((address - 0x80000000) / 4096)) (address % 4096) else None) is
      ∙ ap (λ xs. slice_get xs (address % 4096)) (sym (host ((address - 0x80000000) / 4096) is))
      ∙ byte_of_page off ((address - 0x80000000) / 4096) (address % 4096) (omega arith)
      ∙ ap (slice_get off) (let h : 4096 * ((address - 0x80000000) / 4096) + address % 4096 ≡ address - 0x80000000 = omega arith in h)
  byte_by false address from is = ap (λ t. if t then slice_get (s.bytes ((address - 0x80000000) / 4096)) (address % 4096) else None) is

  -- bytes that stand off chip already are no others than the host's
  none_other : (b : Bool) (address byte : ℕ) → 0x80000000 ≤ address → is_host (s.owner ((address - 0x80000000) / 4096)) ≡ b → slice_get off (address - 0x80000000) ≡ Some byte
      → is_other byte (host_byte s address) ≡ false
  none_other true address byte from is here =
      ap (is_other byte) (byte_by true address from is ∙ here) ∙ ap not (eq-eqb byte byte refl)
  none_other false address byte from is here = ap (is_other byte) (byte_by false address from is)

  unchanged : (bytes : List ℕ) (address : ℕ) → 0x80000000 ≤ address → ((i : ℕ) → i < length bytes → slice_get off (address - 0x80000000 + i) ≡ slice_get bytes i)
      → changes_host s address bytes ≡ false
  unchanged [] address from each = refl
  unchanged (byte ∷ bytes) address from each =
      let first : slice_get off (address - 0x80000000) ≡ Some byte = ap (slice_get off) (let h : address - 0x80000000 ≡ address - 0x80000000 + 0 = omega arith in h) ∙ each 0 (omega arith) in
      ap (λ b. b || changes_host s (address + 1) bytes) (none_other (is_host (s.owner ((address - 0x80000000) / 4096))) address byte from refl first)
      ∙ unchanged bytes (address + 1) (omega arith)
      (λ i few. ap (slice_get off) (let h : address + 1 - 0x80000000 + i ≡ address - 0x80000000 + suc i = omega arith in h) ∙ each (suc i) (omega arith))

  -- and bytes that are all the host's, and none another, stand off chip already
  same_byte : (b : Bool) (address byte : ℕ) → 0x80000000 ≤ address → is_host (s.owner ((address - 0x80000000) / 4096)) ≡ b
      → is_some (host_byte s address) ≡ true → is_other byte (host_byte s address) ≡ false → slice_get off (address - 0x80000000) ≡ Some byte
  same_byte false address byte from is some other = absurd (false≢true (sym (ap is_some (byte_by false address from is)) ∙ some))
  same_byte true address byte from is some other = stands (slice_get off (address - 0x80000000)) (ap is_some (sym (byte_by true address from is)) ∙ some) (ap (is_other byte) (sym (byte_by true address from is)) ∙ other)
    where
      not_other : (old : ℕ) → not (eqb old byte) ≡ false → old ≡ byte
      not_other old is = elim (cases_Bool (eqb old byte)) [
        | inl same ↦ eqb-true _ _ same
        | inr differ ↦ absurd (false≢true (sym is ∙ ap not differ))
      ]

      stands : (o : Option ℕ) → is_some o ≡ true → is_other byte o ≡ false → o ≡ Some byte
      stands None some other = absurd (false≢true some)
      stands (Some old) some other = ap Some (not_other old other)

  all_stand : (bytes : List ℕ) (address : ℕ) → 0x80000000 ≤ address → lies_in_host s address bytes ≡ true → changes_host s address bytes ≡ false
      → (i : ℕ) → i < length bytes → slice_get off (address - 0x80000000 + i) ≡ slice_get bytes i
  all_stand [] address from inside same i few = absurd (omega arith)
  all_stand (byte ∷ bytes) address from inside same zero few =
      ap (slice_get off) (let h : address - 0x80000000 + 0 ≡ address - 0x80000000 = omega arith in h)
      ∙ same_byte (is_host (s.owner ((address - 0x80000000) / 4096))) address byte from refl (and_true _ _ inside).0 (or_false _ _ same).0
  all_stand (byte ∷ bytes) address from inside same (suc i) few =
      ap (slice_get off) (let h : address - 0x80000000 + suc i ≡ address + 1 - 0x80000000 + i = omega arith in h)
      ∙ all_stand bytes (address + 1) (omega arith) (and_true _ _ inside).1 (or_false _ _ same).1 i (omega arith)

  module _ (bytes : List ℕ) (address : ℕ) (from : 0x80000000 ≤ address) (to : address - 0x80000000 + length bytes ≤ length off) where
    abbrev there : List ℕ
    there = bytes_at off (address - 0x80000000) (length bytes)

    there_size : length there ≡ length bytes
    there_size = length-take-le (length bytes) (drop (address - 0x80000000) off) (let n = Rattle.std.proofs.Common.length-drop (address - 0x80000000) off in omega arith)

    there_byte : (i : ℕ) → i < length bytes → slice_get there i ≡ slice_get off (address - 0x80000000 + i)
    there_byte i few = slice_get-take (drop (address - 0x80000000) off) (length bytes) i few ∙ slice_get-drop off (address - 0x80000000) i (address - 0x80000000 + i) refl

    pub same_then_unchanged : there ≡ bytes → changes_host s address bytes ≡ false
    same_then_unchanged same = unchanged bytes address from (λ i few. sym (there_byte i few) ∙ ap (λ xs. slice_get xs i) same)

    stand_then_same : lies_in_host s address bytes ≡ true → changes_host s address bytes ≡ false → there ≡ bytes
    stand_then_same inside same = same_elements there bytes there_size
        (λ i few. let n : length there ≡ length bytes = there_size in there_byte i (omega arith) ∙ all_stand bytes address from inside same i (omega arith))

    said_by : (changes lies equal : Bool) → changes_host s address bytes ≡ changes → lies_in_host s address bytes ≡ lies → bytes_eq there bytes ≡ equal
        → (if changes then not equal else (if lies then not (not equal) else true)) ≡ true
    said_by true lies true c l e = absurd (false≢true (sym (same_then_unchanged ((bytes_eq-Decides there bytes).0 e)) ∙ c))
    said_by true lies false c l e = refl
    said_by false true true c l e = refl
    said_by false true false c l e = absurd (false≢true (sym e ∙ subst (λ xs. bytes_eq xs bytes ≡ true) (sym (stand_then_same l c)) (bytes_same bytes)))
    said_by false false equal c l e = refl

    -- the answer's flag is one that the monitor allows
    pub may_say : may_say_changed s (record { address = address; bytes = bytes }) (not (bytes_eq there bytes)) ≡ true
    may_say = said_by (changes_host s address bytes) (lies_in_host s address bytes) (bytes_eq there bytes) refl refl refl
