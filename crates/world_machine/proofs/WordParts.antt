-- A part of a word is the number in the page's own bytes.
use Rattle.std.proofs.Common.{◌≡◌, ℕ, zero, suc, ◌+◌, ◌-◌, ◌*◌, ◌/◌, ◌%◌, ◌^◌, ◌<◌, ◌≤◌, ◌==◌, ◌||◌, Bool, true, false, List, [], ◌∷◌, length, drop, refl, ap, sym, ◌∙◌, subst, arith, inl, inr}
use Rattle.std.specs.Prelude.{slice_index, IsTrue}
use Rattle.std.proofs.Math.Nat.{add-mul-div_left, div-eq_of_lt, mod-eq_of_lt, add-mul-mod_self_left, pow-suc}
use Rattle.std.proofs.lemmas.Bool.{cases_lt, eqb-true}
use Rattle.std.proofs.lemmas.List.Elements.{All-drop, All-take}
use Rattle.byteorder.specs.Endian.{little_from, little_number}
use Rattle.byteorder.specs.Numbers.{little_from-cons, little_from-lt, little_from-take}
use Rattle.byteorder.proofs.Bytes.{pow256}
use Rattle.pl_base.specs.Bytes.{bytes_at}
use Rattle.pl_base.specs.Width.{is_width}
use Rattle.mem_geom.specs.Parts.{page_bytes}
use Rattle.mem_geom.proofs.Parts.{bytes_at-bytes_at}
use Rattle.mem_ctl.specs.Writes.{word_at}
use Rattle.world_machine.specs.ByteBounds.{AreBytes}
use Rattle.world_machine.specs.Pages.{part_of_word, word_offset}

pub bytes_within : (bytes : List ℕ) (at n : ℕ) → AreBytes bytes → AreBytes (bytes_at bytes at n)
bytes_within bytes at n small = All-take (λ byte. byte < 256) n (drop at bytes) (All-drop (λ byte. byte < 256) at bytes small)

past_end : (xs : List ℕ) (k : ℕ) → length xs ≤ k → slice_index xs k ≡ 0
past_end [] k past = refl
past_end (x ∷ xs) zero past = absurd (omega arith)
past_end (x ∷ xs) (suc k) past = past_end xs k (omega arith)

pub byte_below : (bytes : List ℕ) → AreBytes bytes → (k : ℕ) → slice_index bytes k < 256
byte_below bytes small k = elim (cases_lt k (length bytes)) [
  | inl there ↦ small k 0 there
  | inr past ↦ let none = past_end bytes k past in omega (arith, none)
]

-- ---- the number in some bytes, by those below and those above

joined : (s a p b q : ℕ) → q ≡ p * 256 → s + 256 * (a + p * b) ≡ (s + 256 * a) + q * b
joined s a p b q is = rw is (omega arith)

split : (i m n k : ℕ) (xs : List ℕ) → k ≡ m + n → little_from i k xs ≡ little_from i m xs + 256 ^ m * little_from (i + m) n xs
split i zero n k xs whole =
    let same : k ≡ n = omega arith in
    let place : i + 0 ≡ i = omega arith in
    rw (same, place) (omega arith)
split i (suc m) n zero xs whole = absurd (omega arith)
split i (suc m) n (suc k) xs whole =
    let rest = split (suc i) m n k xs (omega arith) in
    let place : suc i + m ≡ i + suc m = omega arith in
    ap (λ r. slice_index xs i + 256 * r) rest
    ∙ ap (λ at. slice_index xs i + 256 * (little_from (suc i) m xs + 256 ^ m * little_from at n xs)) place
    ∙ joined (slice_index xs i) (little_from (suc i) m xs) (256 ^ m) (little_from (i + suc m) n xs) (256 ^ suc m) (pow-suc 256 m)

none_there : (i j n : ℕ) → little_from i n [] ≡ little_from j n []
none_there i j zero = refl
none_there i j (suc n) = ap (λ r. 0 + 256 * r) (none_there (suc i) (suc j) n)

-- from a place on is from the start of the bytes there
moved : (i n : ℕ) (xs : List ℕ) → little_from i n xs ≡ little_from 0 n (drop i xs)
moved zero n xs = refl
moved (suc i) n [] = none_there (suc i) 0 n
moved (suc i) n (x ∷ xs) = little_from-cons i n x xs ∙ moved i n xs

-- ---- the digits of a number in the middle

zero_plus : (n : ℕ) → 0 + n ≡ n
zero_plus n = omega arith

middle : (low p mid q high : ℕ) → low < p → mid < q → (low + p * (mid + q * high)) / p % q ≡ mid
middle low p mid q high small fits =
    ap (λ x. x % q) (add-mul-div_left low (mid + q * high) {y = p} (omega arith) ∙ ap (λ x. x + (mid + q * high)) (div-eq_of_lt small))
    ∙ ap (λ x. x % q) (zero_plus (mid + q * high))
    ∙ add-mul-mod_self_left mid q high
    ∙ mod-eq_of_lt fits

number_part : (n : ℕ) (bytes : List ℕ) (k width rest : ℕ) → AreBytes bytes → n ≡ k + (width + rest) → little_from 0 n bytes / 256 ^ k % 256 ^ width ≡ little_from k width bytes
number_part n bytes k width rest small whole =
    ap (λ x. x / 256 ^ k % 256 ^ width) (split 0 k (width + rest) n bytes whole ∙ ap (λ at. little_from 0 k bytes + 256 ^ k * little_from at (width + rest) bytes) (zero_plus k)
    ∙ ap (λ x. little_from 0 k bytes + 256 ^ k * x) (split k width rest (width + rest) bytes refl))
    ∙ middle (little_from 0 k bytes) (256 ^ k) (little_from k width bytes) (256 ^ width) (little_from (k + width) rest bytes)
    (little_from-lt 0 k bytes (byte_below bytes small)) (little_from-lt k width bytes (byte_below bytes small))

part_from : (n : ℕ) (bytes : List ℕ) (k width rest : ℕ) → AreBytes bytes → n ≡ k + (width + rest) → little_number n bytes / 2 ^ (8 * k) % 2 ^ (8 * width) ≡ little_number width (bytes_at bytes k width)
part_from n bytes k width rest small whole =
    ap (λ p. little_number n bytes / p % 2 ^ (8 * width)) (sym (pow256 k)) ∙ ap (λ q. little_number n bytes / 256 ^ k % q) (sym (pow256 width))
    ∙ number_part n bytes k width rest small whole
    ∙ moved k width bytes ∙ sym (little_from-take 0 width width (drop k bytes) (omega arith))

-- ---- the part of a word that is read in a page

-- an aligned access stays in its word, and so in its page, where it is aligned too
pub record StaysInWord (address width : ℕ) : Type 0 where
  pub in_word : address % 8 + width ≤ 8
  pub in_page : address % 4096 + width ≤ 4096
  pub in_part : address % 4096 % width ≡ 0

stays_by : (address width : ℕ) (one two four eight : Bool) → (width == 1) ≡ one → (width == 2) ≡ two → (width == 4) ≡ four → (width == 8) ≡ eight → (one || (two || (four || eight))) ≡ true
    → address % width ≡ 0 → StaysInWord address width
stays_by address width true two four eight is1 is2 is4 is8 some aligned =
    let w : width ≡ 1 = eqb-true width 1 is1 in
    record { in_word = omega arith; in_page = omega arith; in_part = subst (λ n. address % 4096 % n ≡ 0) (sym w) (let part : address % 4096 % 1 ≡ 0 = omega arith in part) }
stays_by address width false true four eight is1 is2 is4 is8 some aligned =
    let w : width ≡ 2 = eqb-true width 2 is2 in let h : address % 2 ≡ 0 = subst (λ n. address % n ≡ 0) w aligned in
    record { in_word = omega arith; in_page = omega arith; in_part = subst (λ n. address % 4096 % n ≡ 0) (sym w) (let part : address % 4096 % 2 ≡ 0 = omega arith in part) }
stays_by address width false false true eight is1 is2 is4 is8 some aligned =
    let w : width ≡ 4 = eqb-true width 4 is4 in let h : address % 4 ≡ 0 = subst (λ n. address % n ≡ 0) w aligned in
    record { in_word = omega arith; in_page = omega arith; in_part = subst (λ n. address % 4096 % n ≡ 0) (sym w) (let part : address % 4096 % 4 ≡ 0 = omega arith in part) }
stays_by address width false false false true is1 is2 is4 is8 some aligned =
    let w : width ≡ 8 = eqb-true width 8 is8 in let h : address % 8 ≡ 0 = subst (λ n. address % n ≡ 0) w aligned in
    record { in_word = omega arith; in_page = omega arith; in_part = subst (λ n. address % 4096 % n ≡ 0) (sym w) (let part : address % 4096 % 8 ≡ 0 = omega arith in part) }
stays_by address width false false false false is1 is2 is4 is8 some aligned = cc

pub stays_in_word : (address width : ℕ) → IsTrue (is_width width) → address % width ≡ 0 → StaysInWord address width
stays_in_word address width is_one aligned = stays_by address width (width == 1) (width == 2) (width == 4) (width == 8) refl refl refl refl is_one aligned

within_word : (bytes : List ℕ) (address width : ℕ) → AreBytes bytes → StaysInWord address width
    → part_of_word (little_number 8 bytes) address width ≡ little_number width (bytes_at bytes (address % 8) width)
within_word bytes address width small stays = part_from 8 bytes (address % 8) width (8 - (address % 8 + width)) small (rest_is stays.in_word)
  where
    rest_is : address % 8 + width ≤ 8 → 8 ≡ address % 8 + (width + (8 - (address % 8 + width)))
    rest_is h = omega arith

pub part_in_page : (memory : List ℕ) (page address width : ℕ) → AreBytes (page_bytes memory page) → StaysInWord address width
    → part_of_word (word_at memory page (word_offset address)) address width ≡ little_number width (bytes_at (page_bytes memory page) (address % 4096) width)
part_in_page memory page address width small stays =
    let at : ℕ = 4096 * page + word_offset address in
    let here : bytes_at memory at 8 ≡ bytes_at (page_bytes memory page) (word_offset address) 8 = sym (bytes_at-bytes_at memory (4096 * page) 4096 (word_offset address) 8 (omega arith)) in
    let small_word : AreBytes (bytes_at memory at 8) = subst AreBytes (sym here) (bytes_within (page_bytes memory page) (word_offset address) 8 small) in
    let inside : address % 8 + width ≤ 8 = stays.in_word in
    let in_page : address % 4096 + width ≤ 4096 = stays.in_page in
    let place : at + address % 8 ≡ 4096 * page + address % 4096 = omega arith in
    within_word (bytes_at memory at 8) address width small_word stays
    ∙ ap (little_number width) (bytes_at-bytes_at memory at 8 (address % 8) width inside ∙ ap (λ k. bytes_at memory k width) place ∙ sym (bytes_at-bytes_at memory (4096 * page) 4096 (address % 4096) width in_page))
