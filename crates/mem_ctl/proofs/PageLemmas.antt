-- The pages of a zone after other bytes were written into one of them.
use Rattle.std.proofs.Common.{◌≡◌, ◌≢◌, ℕ, ◌+◌, ◌*◌, ◌/◌, ◌%◌, ◌<◌, ◌≤◌, ◌==◌, false, List, ◌++◌, ⊎_elim, length, take, drop, get_or, set, sym, ap, ◌∙◌, arith, length-drop}
use Rattle.std.proofs.Math.Seq.{take-add}
use Rattle.std.proofs.lemmas.Bool.{cases_eq, cases_lt, eqb-false}
use Rattle.std.proofs.lemmas.List.{append_assoc, drop-append-le, drop-drop, get_or-set_other, get_or-set_same, length-set, length-take-le, same_lists, take-append-drop, take-take}
use Rattle.pl_base.specs.Bytes.{bytes_at, with_bytes}
use Rattle.mem_geom.specs.Layout.{memory_size}
use Rattle.mem_geom.specs.Parts.{page_bytes}
use Rattle.mem_geom.proofs.Parts.{bytes_at-with_bytes_after, bytes_at-with_bytes_before, bytes_at-with_bytes_inside, length-with_bytes}
use Rattle.mem_ctl.specs.Writes.{zone_pages}
use Rattle.mem_ctl.proofs.ZoneLemmas.{get_or-zone_pages, length-zone_pages}

module _ (old new : List ℕ) (zone : ℕ) where
  pub zone_pages-same : ((k : ℕ) → k < 64 → page_bytes new (64 * zone + k) ≡ page_bytes old (64 * zone + k)) → zone_pages new zone ≡ zone_pages old zone
  zone_pages-same same =
      same_lists (zone_pages new zone) (zone_pages old zone) (length-zone_pages new zone ∙ sym (length-zone_pages old zone))
      (λ k e h. let below : k < 64 = omega (arith, length-zone_pages new zone) in get_or-zone_pages new zone k e below ∙ same k below ∙ sym (get_or-zone_pages old zone k e below))

  pub zone_pages-set : (p : ℕ) (page : List ℕ) → p < 64 → page_bytes new (64 * zone + p) ≡ page → ((k : ℕ) → k < 64 → k ≢ p → page_bytes new (64 * zone + k) ≡ page_bytes old (64 * zone + k))
      → zone_pages new zone ≡ set (zone_pages old zone) p page
  zone_pages-set p page small is same =
      same_lists (zone_pages new zone) (set (zone_pages old zone) p page) (length-zone_pages new zone ∙ sym (length-set (zone_pages old zone) p page ∙ length-zone_pages old zone))
      (λ k e h.
      let below : k < 64 = omega (arith, length-zone_pages new zone) in
      get_or-zone_pages new zone k e below
      ∙ ⊎_elim
      (λ (here : k ≡ p). ap (λ (j : ℕ). page_bytes new (64 * zone + j)) here ∙ is
      ∙ sym (ap (λ (j : ℕ). get_or (set (zone_pages old zone) p page) j e) here ∙ get_or-set_same (zone_pages old zone) p page e (omega (arith, length-zone_pages old zone))))
      (λ (other : k ≢ p). same k below other ∙ sym (get_or-set_other (zone_pages old zone) p k page e other ∙ get_or-zone_pages old zone k e below))
      (cases_eq k p))

-- other bytes in a part of a part
pub with_bytes-nested : (all : List ℕ) (from n at : ℕ) (bytes : List ℕ) → from + n ≤ length all → at + length bytes ≤ n
    → with_bytes all from (with_bytes (bytes_at all from n) at bytes) ≡ with_bytes all (from + at) bytes
with_bytes-nested all from n at bytes fits inside =
    let far : List ℕ = drop from all in
    let part : List ℕ = take n far in
    let end : ℕ = at + length bytes in
    let inner : List ℕ = with_bytes part at bytes in
    let part_size : length part ≡ n = length-take-le n far (omega (arith, length-drop from all)) in
    let inner_size : length inner ≡ n = length-with_bytes part at bytes (omega arith) ∙ part_size in
    let back : drop (from + length inner) all ≡ drop n far = ap (λ (k : ℕ). drop (from + k) all) inner_size ∙ sym (drop-drop n from all) in
    let first : take at part ≡ take at far = take-take at n far (omega arith) in
    let last : drop end part ++ drop n far ≡ drop end far = sym (drop-append-le end part (drop n far) (omega arith)) ∙ ap (drop end) (take-append-drop n far) in
    let past : drop end far ≡ drop (from + at + length bytes) all = let e : from + end ≡ from + at + length bytes = omega arith in drop-drop end from all ∙ ap (λ (k : ℕ). drop k all) e in
    ap (λ (r : List ℕ). take from all ++ (inner ++ r)) back
    ∙ ap (λ (r : List ℕ). take from all ++ r) (append_assoc (take at part) (bytes ++ drop end part) (drop n far) ∙ ap (λ (r : List ℕ). take at part ++ r) (append_assoc bytes (drop end part) (drop n far)))
    ∙ ap (λ (r : List ℕ). take from all ++ (r ++ (bytes ++ (drop end part ++ drop n far)))) first
    ∙ ap (λ (r : List ℕ). take from all ++ (take at far ++ (bytes ++ r))) (last ∙ past)
    ∙ sym (append_assoc (take from all) (take at far) (bytes ++ drop (from + at + length bytes) all))
    ∙ ap (λ (r : List ℕ). r ++ (bytes ++ drop (from + at + length bytes) all)) (sym (take-add from at all))

-- bytes are written into a page
module _ (memory : List ℕ) (zones page at : ℕ) (bytes : List ℕ) (sized : length memory ≡ memory_size zones) (there : page < 64 * zones) (inside : at + length bytes ≤ 4096) where
  abbrev after : List ℕ
  after = with_bytes memory (4096 * page + at) bytes

  pub other_page : (q : ℕ) → q ≢ page → page_bytes after q ≡ page_bytes memory q
  other_page q other =
      ⊎_elim
      (λ (before : q < page). bytes_at-with_bytes_before memory (4096 * page + at) bytes (omega arith) (4096 * q) 4096 (omega arith))
      (λ (past : page ≤ q). bytes_at-with_bytes_after memory (4096 * page + at) bytes (omega arith) (4096 * q) 4096 (omega arith))
      (cases_lt q page)

  pub own_page : page_bytes after page ≡ with_bytes (page_bytes memory page) at bytes
  own_page = bytes_at-with_bytes_inside memory (4096 * page) 4096 at bytes (omega arith) inside

  pub pages-own_zone : zone_pages after (page / 64) ≡ set (zone_pages memory (page / 64)) (page % 64) (with_bytes (page_bytes memory page) at bytes)
  pages-own_zone =
      let same : 64 * (page / 64) + page % 64 ≡ page = omega arith in
      zone_pages-set memory after (page / 64) (page % 64) (with_bytes (page_bytes memory page) at bytes) (omega arith) (ap (page_bytes after) same ∙ own_page)
      (λ k below other. other_page (64 * (page / 64) + k) (λ equal. other (omega arith)))

  pub pages-other_zone : (zone : ℕ) → (zone == page / 64) ≡ false → zone_pages after zone ≡ zone_pages memory zone
  pages-other_zone zone other = zone_pages-same memory after zone (λ k below. other_page (64 * zone + k) (λ equal. eqb-false zone (page / 64) other (omega arith)))
