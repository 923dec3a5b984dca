-- What the end of `destroy` leaves: zeroed pages of the host, and a number that is free.
use Rattle.std.proofs.Common.{ℕ, ◌≡◌, ◌≢◌, ◌+◌, ◌*◌, ◌/◌, ◌≤◌, eqb, ◌||◌, Bool, true, false, List, [], ◌∷◌, length, slice_get, All, refl, ap, sym, subst, ◌∙◌, arith, inl, inr}
use Rattle.std.proofs.lemmas.Bool.{cases_Bool, cases_lt, eqb-true, eqb-false, or_parts}
use Rattle.std.proofs.lemmas.List.{length-replicate}
use Rattle.std.proofs.lemmas.List.Elements.{All-head, All-tail}
use Rattle.pl_base.specs.Bytes as bytes
use Rattle.pl_base.specs.Bytes.{with_bytes, zero_page}
use Rattle.pl_base.specs.Pages.{is_among}
use Rattle.mem_geom.specs.Parts.{page_bytes}
use Rattle.mem_geom.proofs.Parts.{bytes_at-with_bytes, bytes_at-with_bytes_after, bytes_at-with_bytes_before, length-with_bytes}
use Rattle.mem_ctl.specs.Data.{CtlData, with_off_chip}
use Rattle.mem_ctl.specs.Raw.{raw_zeroed}
use Rattle.mem_ctl.proofs.Agreement.{byte_outside}
use Rattle.mon_life.specs.Destroying.{all_zeroed}

-- ---- nothing but the bytes off chip

pub off_chip_alone : (x : CtlData) (pages : List ℕ) → all_zeroed x pages ≡ with_off_chip x (all_zeroed x pages).off_chip
off_chip_alone x [] = refl
off_chip_alone x (page ∷ pages) = off_chip_alone (raw_zeroed x page) pages

-- ---- one page

length-zero_page : length zero_page ≡ 4096
unfolding bytes.zero_page
length-zero_page = length-replicate {A = ℕ} 4096 0

-- the page has all its bytes, of so many
abbrev pub FitsIn : ℕ → ℕ → Type 0
FitsIn size page = 4096 * page + 4096 ≤ size

module _ (memory : List ℕ) (page : ℕ) (fits : FitsIn (length memory) page) where
  abbrev zeroed : List ℕ
  zeroed = with_bytes memory (4096 * page) zero_page

  inside : 4096 * page + length zero_page ≤ length memory
  inside = omega (arith, length-zero_page, fits)

  length-zeroed : length zeroed ≡ length memory
  length-zeroed = length-with_bytes memory (4096 * page) zero_page inside

  own_zero : page_bytes zeroed page ≡ zero_page
  own_zero = ap (λ n. bytes.bytes_at zeroed (4096 * page) n) (sym length-zero_page) ∙ bytes_at-with_bytes memory (4096 * page) zero_page inside

  other_page : (q : ℕ) → page ≢ q → page_bytes zeroed q ≡ page_bytes memory q
  other_page q other = elim (cases_lt q page) [
    | inl before ↦ bytes_at-with_bytes_before memory (4096 * page) zero_page inside (4096 * q) 4096 (omega arith)
    | inr past ↦ bytes_at-with_bytes_after memory (4096 * page) zero_page inside (4096 * q) 4096 (omega (arith, length-zero_page))
  ]

  other_byte : (k : ℕ) → page ≢ k / 4096 → slice_get zeroed k ≡ slice_get memory k
  other_byte k other = byte_outside memory (4096 * page) zero_page inside k (elim (cases_lt k (4096 * page)) [
    | inl before ↦ inl before
    | inr past ↦ inr (omega (arith, length-zero_page))
  ])

-- ---- one after another

module _ (size : ℕ) where
  pub length-all_zeroed : (x : CtlData) (pages : List ℕ) → length x.off_chip ≡ size → All (FitsIn size) pages → length (all_zeroed x pages).off_chip ≡ size
  length-all_zeroed x [] long fit = long
  length-all_zeroed x (page ∷ pages) long fit =
      let here : FitsIn (length x.off_chip) page = subst (λ n. FitsIn n page) (sym long) (All-head (FitsIn size) page pages fit) in
      length-all_zeroed (raw_zeroed x page) pages (length-zeroed x.off_chip page here ∙ long) (All-tail (FitsIn size) page pages fit)

  pub other_bytes : (x : CtlData) (pages : List ℕ) (k : ℕ) → length x.off_chip ≡ size → All (FitsIn size) pages → is_among pages (k / 4096) ≡ false
      → slice_get (all_zeroed x pages).off_chip k ≡ slice_get x.off_chip k
  other_bytes x [] k long fit other = refl
  other_bytes x (page ∷ pages) k long fit other =
      let here : FitsIn (length x.off_chip) page = subst (λ n. FitsIn n page) (sym long) (All-head (FitsIn size) page pages fit) in
      let parts = or_parts (eqb page (k / 4096)) (is_among pages (k / 4096)) other in
      other_bytes (raw_zeroed x page) pages k (length-zeroed x.off_chip page here ∙ long) (All-tail (FitsIn size) page pages fit) parts.1
      ∙ other_byte x.off_chip page here k (eqb-false page (k / 4096) parts.0)

  pub other_pages : (x : CtlData) (pages : List ℕ) (q : ℕ) → length x.off_chip ≡ size → All (FitsIn size) pages → is_among pages q ≡ false
      → page_bytes (all_zeroed x pages).off_chip q ≡ page_bytes x.off_chip q
  other_pages x [] q long fit other = refl
  other_pages x (page ∷ pages) q long fit other =
      let here : FitsIn (length x.off_chip) page = subst (λ n. FitsIn n page) (sym long) (All-head (FitsIn size) page pages fit) in
      let parts = or_parts (eqb page q) (is_among pages q) other in
      other_pages (raw_zeroed x page) pages q (length-zeroed x.off_chip page here ∙ long) (All-tail (FitsIn size) page pages fit) parts.1
      ∙ other_page x.off_chip page here q (eqb-false page q parts.0)

  pub listed_zero : (x : CtlData) (pages : List ℕ) (q : ℕ) → length x.off_chip ≡ size → All (FitsIn size) pages → is_among pages q ≡ true
      → page_bytes (all_zeroed x pages).off_chip q ≡ zero_page
  listed_zero x [] q long fit among = cc
  listed_zero x (page ∷ pages) q long fit among =
      let here : FitsIn (length x.off_chip) page = subst (λ n. FitsIn n page) (sym long) (All-head (FitsIn size) page pages fit) in
      let x' : CtlData = raw_zeroed x page in
      let long' : length x'.off_chip ≡ size = length-zeroed x.off_chip page here ∙ long in
      let fit' = All-tail (FitsIn size) page pages fit in
      elim (cases_Bool (is_among pages q)) [
        | inl later ↦ listed_zero x' pages q long' fit' later
        | inr gone ↦
            let is : page ≡ q = eqb-true page q (first (eqb page q) (is_among pages q) among gone) in
            other_pages x' pages q long' fit' gone ∙ subst (λ p. page_bytes x'.off_chip p ≡ zero_page) is (own_zero x.off_chip page here)
      ]
    where
      first : (a b : Bool) → (a || b) ≡ true → b ≡ false → a ≡ true
      first true b either gone = refl
      first false b either gone = cc
