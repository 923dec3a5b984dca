-- Words that are written into pages of zeros.
use Rattle.std.proofs.Common.{◌≡◌, ℕ, ◌+◌, ◌*◌, ◌%◌, ◌<◌, ◌≤◌, ◌==◌, Bool, true, false, Option, Some, None, List, [], ◌∷◌, ◌++◌, cond, ⊎_elim, length, take, drop, get_or, replicate, refl, subst, sym, ap, ◌∙◌, arith, length-drop}
use Rattle.std.specs.Prelude.{All, find}
use Rattle.std.specs.List.{concat}
use Rattle.std.specs.Option.{option_map_or}
use Rattle.std.proofs.lemmas.Bool.{and_parts, and_from, cases_Bool, cases_lt, eq-eqb, eqb-true, false≢true}
use Rattle.std.proofs.lemmas.List.{get_or_default, get_or-drop, get_or-take, get_or-replicate, length-replicate, length-take-le, same_lists, take_all, take_more}
use Rattle.std.proofs.lemmas.List.Elements.{All-head, All-tail}
use Rattle.byteorder.specs.Endian.{little_bytes}
use Rattle.pl_base.specs.Bytes.{bytes_at, with_bytes}
use Rattle.pl_base.specs.ListedWords.{AreWordsOf, listed_word, stands_at}
use Rattle.pl_digest.specs.Trees.{piece, pieces}
use Rattle.mem_geom.specs.Parts.{page_bytes}
use Rattle.mem_geom.proofs.Parts.{bytes_at-bytes_at, bytes_at-with_bytes, bytes_at-with_bytes_after, bytes_at-with_bytes_before}
use Rattle.mem_ctl.specs.Start.{HasWords, start_page, start_zone}
use Rattle.mem_ctl.specs.Writes.{zone_pages}
use Rattle.mem_ctl.proofs.Joined.{concat-pieces_of, map-range_same}

-- ---- one word more in a list

abbrev Word : Type 0
Word = ℕ × ℕ × ℕ

abbrev value_of : Option Word → ℕ
value_of o = option_map_or (λ (w : Word). w.2) o 0

find-skips : (p : Word → Bool) (ws : List Word) (w : Word) → p w ≡ false → find p (ws ++ w ∷ []) ≡ find p ws
find-skips p [] w skipped = ap (λ (b : Bool). cond b (Some w) None) skipped
find-skips p (v ∷ vs) w skipped = ap (cond (p v) (Some v)) (find-skips p vs w skipped)

find-last : (p : Word → Bool) (ws : List Word) (w : Word) → All (λ (v : Word). p v ≡ false) ws → p w ≡ true → find p (ws ++ w ∷ []) ≡ Some w
find-last p [] w none here = ap (λ (b : Bool). cond b (Some w) None) here
find-last p (v ∷ vs) w none here = ap (λ (b : Bool). cond b (Some v) (find p (vs ++ w ∷ []))) (All-head (λ (u : Word). p u ≡ false) v vs none) ∙ find-last p vs w (All-tail (λ (u : Word). p u ≡ false) v vs none) here

-- ---- words that stand in a memory

pub words-none : (pages : ℕ) (memory : List ℕ) → 4096 * pages ≤ length memory → All (λ byte. byte ≡ 0) memory → HasWords pages [] memory
words-none pages memory most zero page k there below =
    let at : ℕ = 4096 * page + 8 * k in
    let nothing : ℕ = 0 in
    let eight : length (bytes_at memory at 8) ≡ 8 = length-take-le 8 (drop at memory) (omega (arith, length-drop at memory)) in
    same_lists (bytes_at memory at 8) (replicate 8 0) (eight ∙ sym (length-replicate 8 nothing))
    (λ j d h.
    let small : j < 8 = omega (arith, eight) in
    get_or-take 8 (drop at memory) j d small ∙ get_or-drop at memory j d ∙ zero (at + j) d (omega arith) ∙ sym (get_or-replicate 8 j 0 d small))

module _ (ws : List Word) (w : Word) (pages : ℕ) (memory : List ℕ) (stand : HasWords pages ws memory) (apart : All (λ (v : Word). stands_at w.0 w.1 v ≡ false) ws)
    (small : w.1 < 4096) (aligned : w.1 % 8 ≡ 0) (fits : 4096 * w.0 + 4096 ≤ length memory) where
  abbrev at : ℕ
  at = 4096 * w.0 + w.1

  abbrev bytes : List ℕ
  bytes = little_bytes 8 w.2

  abbrev after : List ℕ
  after = with_bytes memory at bytes

  eight : length bytes ≡ 8
  eight = refl

  here : (page k : ℕ) → stands_at page (8 * k) w ≡ true → bytes_at after (4096 * page + 8 * k) 8 ≡ little_bytes 8 (listed_word (ws ++ w ∷ []) page (8 * k))
  here page k is =
      let parts = and_parts (w.0 == page) (w.1 == 8 * k) is in
      let page_is : w.0 ≡ page = eqb-true w.0 page parts.0 in
      let offset_is : w.1 ≡ 8 * k = eqb-true w.1 (8 * k) parts.1 in
      let place : 4096 * page + 8 * k ≡ at = omega arith in
      let none : All (λ (v : Word). stands_at page (8 * k) v ≡ false) ws = λ j d h. ap (λ (p : ℕ). stands_at p (8 * k) (get_or ws j d)) (sym page_is) ∙ ap (λ (o : ℕ). stands_at w.0 o (get_or ws j d)) (sym offset_is) ∙ apart j d h in
      ap (λ (n : ℕ). bytes_at after n 8) place ∙ bytes_at-with_bytes memory at bytes (omega arith)
      ∙ ap (λ (o : Option Word). little_bytes 8 (value_of o)) (sym (find-last (stands_at page (8 * k)) ws w none is))

  elsewhere : (page k : ℕ) → page < pages → k < 512 → stands_at page (8 * k) w ≡ false
      → bytes_at after (4096 * page + 8 * k) 8 ≡ little_bytes 8 (listed_word (ws ++ w ∷ []) page (8 * k))
  elsewhere page k there below other =
      let far : ℕ = 4096 * page + 8 * k in
      let kept : bytes_at after far 8 ≡ bytes_at memory far 8 =
      ⊎_elim
      (λ (before : far < at). bytes_at-with_bytes_before memory at bytes (omega arith) far 8 (omega arith))
      (λ (not_before : at ≤ far). ⊎_elim
      (λ (past : at < far). bytes_at-with_bytes_after memory at bytes (omega arith) far 8 (omega arith))
      (λ (not_past : far ≤ at).
      absurd (false≢true (sym other ∙ and_from (w.0 == page) (w.1 == 8 * k) (eq-eqb w.0 page (omega arith)) (eq-eqb w.1 (8 * k) (omega arith)))))
      (cases_lt at far))
      (cases_lt far at) in
      kept ∙ stand page k there below ∙ ap (λ (o : Option Word). little_bytes 8 (value_of o)) (sym (find-skips (stands_at page (8 * k)) ws w other))

  pub words-more : HasWords pages (ws ++ w ∷ []) after
  words-more page k there below = ⊎_elim (here page k) (elsewhere page k there below) (cases_Bool (stands_at page (8 * k) w))

-- the words so far, and the next
pub words-next : (words : List Word) (i pages : ℕ) (memory : List ℕ) → i < length words → HasWords pages (take i words) memory → AreWordsOf pages words → 4096 * pages ≤ length memory → (d : Word)
    → HasWords pages (take (i + 1) words) (with_bytes memory (4096 * (get_or words i d).0 + (get_or words i d).1) (little_bytes 8 (get_or words i d).2))
words-next words i pages memory below stand are fits d =
    let w : Word = get_or words i d in
    let after : List ℕ = with_bytes memory (4096 * w.0 + w.1) (little_bytes 8 w.2) in
    let page = are.inside i d below in
    let earlier : All (λ (v : Word). stands_at w.0 w.1 v ≡ false) (take i words) =
    λ j e h.
    let before : j < i = omega (arith, length-take-le i words (omega arith)) in
    ap (stands_at w.0 w.1) (get_or-take i words j e before ∙ get_or_default words j e d (omega arith)) ∙ are.apart j i d before below in
    subst (λ (ws : List Word). HasWords pages ws after) (sym (take_more words i d below)) (words-more (take i words) w pages memory stand earlier (are.offsets i d below) (are.aligned i d below) (omega arith))

-- ---- the pages of such a memory

module _ (words : List Word) (pages : ℕ) (memory : List ℕ) (stand : HasWords pages words memory) (most : 4096 * pages ≤ length memory) where
  pub page-is : (page : ℕ) → page < pages → page_bytes memory page ≡ start_page words page
  unfolding start_page pieces
  page-is page there =
      let bytes : List ℕ = page_bytes memory page in
      let size : length bytes ≡ 4096 = length-take-le 4096 (drop (4096 * page) memory) (omega (arith, length-drop (4096 * page) memory)) in
      sym (take_all 4096 bytes (omega arith)) ∙ sym (concat-pieces_of 8 512 bytes)
      ∙ ap concat (map-range_same (λ k. piece 8 k bytes) (λ k. little_bytes 8 (listed_word words page (8 * k))) 512
      (λ k below. bytes_at-bytes_at memory (4096 * page) 4096 (8 * k) 8 (omega arith) ∙ stand page k there below))

  pub zone-is : (zone : ℕ) → 64 * (zone + 1) ≤ pages → zone_pages memory zone ≡ start_zone words zone
  unfolding start_zone zone_pages
  zone-is zone inside =
      map-range_same (λ k. page_bytes memory (64 * zone + k)) (λ k. start_page words (64 * zone + k)) 64 (λ k below. page-is (64 * zone + k) (omega arith))
