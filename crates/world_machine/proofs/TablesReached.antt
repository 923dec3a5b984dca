-- Tables in memory stand where the bytes of their pages stay, and which table a walk comes to doesn't depend on the leaves.
use Rattle.std.proofs.Common.{◌≡◌, ◌⊎◌, ℕ, ◌+◌, ◌-◌, ◌/◌, ◌%◌, ◌^◌, ◌<◌, ◌≤◌, eqb, false, if◌then◌else◌, ◌==◌, zero, suc, List, slice_index, Option, Some, None, refl, ap, sym, ◌∙◌, subst, arith, inl, inr, lit<}
use Rattle.std.specs.Option.{option_and_then}
use Rattle.std.proofs.lemmas.Bool.{cases_Bool, cond-true, cond-false}
use Rattle.std.proofs.lemmas.Bool.Decides.{nat_tests}
use Rattle.std.proofs.lemmas.List.{get_or-replicate}
use Rattle.byteorder.specs.Endian.{little_number}
use Rattle.pl_base.specs.Bytes.{bytes_at}
use Rattle.pl_base.specs.declared.address.Vpn.{Vpn}
use Rattle.rv_sv39.specs.Walk.{leads_on, next_table, table_at}
use Rattle.rv_sv39.specs.Word.{ppn_of}
use Rattle.mem_geom.specs.Parts.{page_bytes}
use Rattle.mem_ctl.specs.Data.{CtlData}
use Rattle.mon_host.specs.Laws.{mirror_words}
use Rattle.mon_host.proofs.SpaceLemmas.{same_tables, word_of_page}
use Rattle.mon_tables.specs.declared.number_tables.Leaf.{Leaf}
use Rattle.mon_tables.specs.Space.{Mapping}
use Rattle.mon_tables.specs.SpaceWalks.{HostTables, NumberTables, word_address}
use Rattle.mon_tables.specs.Tables.{pointing_words, root_of, table_number}
use Rattle.mon_tables.specs.Words.{pointer_word, ppn_of_page}
use Rattle.mon_tables.proofs.WordBits.{ppn_of-pointer}

-- ---- tables whose pages have the bytes that they had

module _ (x y : CtlData) where
  pub same_word : (page k : ℕ) → k < 512 → page_bytes y.mirror page ≡ page_bytes x.mirror page → mirror_words y (word_address page k) ≡ mirror_words x (word_address page k)
  same_word page k small same =
      let p : ℕ = word_address page k / 4096 - 0x80000 in
      let at : ℕ = word_address page k % 4096 in
      let p_is : p ≡ page = omega arith in
      word_of_page y.mirror p at (omega arith)
      ∙ ap (λ (bytes : List ℕ). little_number 8 (bytes_at bytes at 8)) (ap (page_bytes y.mirror) p_is ∙ same ∙ ap (page_bytes x.mirror) (sym p_is))
      ∙ sym (word_of_page x.mirror p at (omega arith))

  pub host_tables_stay : (tables : ℕ) (space : List Mapping) → tables ≤ 32 → ((page : ℕ) → page < 2 + tables → page_bytes y.mirror page ≡ page_bytes x.mirror page)
      → HostTables tables (mirror_words x) space → HostTables tables (mirror_words y) space
  host_tables_stay tables space few same stand =
      same_tables tables (mirror_words x) (mirror_words y) space (omega arith) (λ page k low small. same_word page k small (same page low)) stand

  pub number_tables_stay : (tables e : ℕ) (leaves : List Leaf) → ((level : ℕ) → level < 3 → page_bytes y.mirror (table_number tables e level) ≡ page_bytes x.mirror (table_number tables e level))
      → NumberTables tables e (mirror_words x) leaves → NumberTables tables e (mirror_words y) leaves
  number_tables_stay tables e leaves same stand level k low small = same_word (table_number tables e level) k small (same level low) ∙ stand level k low small

-- ---- the table that a walk comes to

-- a word that is a pointer to this table or says nothing
abbrev pub LeadsTo : ℕ → ℕ → Type 0
LeadsTo page word = (word ≡ pointer_word page) ⊎ (word ≡ 0)

-- a table one level lower, where there is one, is this one
abbrev pub IsTable : ℕ → Option ℕ → Type 0
IsTable page found = (found ≡ Some (ppn_of_page page)) ⊎ (found ≡ None)

abbrev pub led_by : ℕ → ℕ → Option ℕ
led_by level word = if leads_on level word then Some (ppn_of word) else None

pub led_there : (level page word : ℕ) → page < 2 ^ 32 → LeadsTo page word → IsTable page (led_by level word)
led_there level page word small (inl is) = elim (cases_Bool (leads_on level word)) [
  | inl leads ↦ inl (cond-true _ _ _ leads ∙ ap Some (ap ppn_of is ∙ ppn_of-pointer page small))
  | inr ends ↦ inr (cond-false _ _ _ ends)
]
led_there level page word small (inr is) = inr (ap (led_by level) is)

-- two memories whose roots and middle tables have the same words
module _ (words now : ℕ → ℕ) (root middle : ℕ) (small : middle < 2 ^ 32) (roots : (k : ℕ) → k < 512 → now (word_address root k) ≡ words (word_address root k))
    (middles : (k : ℕ) → k < 512 → now (word_address middle k) ≡ words (word_address middle k)) (leads : (k : ℕ) → k < 512 → LeadsTo middle (words (word_address root k))) (vpn : Vpn) where
  below_root : next_table now vpn 2 (ppn_of_page root) ≡ next_table words vpn 2 (ppn_of_page root)
  below_root = ap (led_by 2) (roots (vpn.0 / 2 ^ 18 % 512) (omega arith))

  below_middle : next_table now vpn 1 (ppn_of_page middle) ≡ next_table words vpn 1 (ppn_of_page middle)
  below_middle = ap (led_by 1) (middles (vpn.0 / 2 ^ 9 % 512) (omega arith))

  onward : (found : Option ℕ) → IsTable middle found → option_and_then (next_table now vpn 1) found ≡ option_and_then (next_table words vpn 1) found
  onward found (inl is) = ap (option_and_then (next_table now vpn 1)) is ∙ below_middle ∙ ap (option_and_then (next_table words vpn 1)) (sym is)
  onward found (inr is) = ap (option_and_then (next_table now vpn 1)) is ∙ ap (option_and_then (next_table words vpn 1)) (sym is)

  last : option_and_then (next_table now vpn 1) (next_table now vpn 2 (ppn_of_page root)) ≡ option_and_then (next_table words vpn 1) (next_table words vpn 2 (ppn_of_page root))
  last = ap (option_and_then (next_table now vpn 1)) below_root
      ∙ onward (next_table words vpn 2 (ppn_of_page root)) (led_there 2 middle (words (word_address root (vpn.0 / 2 ^ 18 % 512))) small (leads (vpn.0 / 2 ^ 18 % 512) (omega arith)))

  same_table_at : (level : ℕ) → table_at now (record { 0 = ppn_of_page root }) vpn level ≡ table_at words (record { 0 = ppn_of_page root }) vpn level
  same_table_at level =
      ap (λ (first : Option ℕ). if level == 2 then Some (ppn_of_page root) else (if level == 1 then first else (if level == 0 then option_and_then (next_table now vpn 1) (next_table now vpn 2 (ppn_of_page root)) else None))) below_root
      ∙ ap (λ (lowest : Option ℕ). if level == 2 then Some (ppn_of_page root) else (if level == 1 then next_table words vpn 2 (ppn_of_page root) else (if level == 0 then lowest else None))) last

-- a walk from the host's root comes to the same table whatever is mapped
pub host_table_at : (tables : ℕ) (words now : ℕ → ℕ) (space space' : List Mapping) → HostTables tables words space → HostTables tables now space' → (vpn : Vpn) (level : ℕ)
    → table_at now (root_of tables 0) vpn level ≡ table_at words (root_of tables 0) vpn level
host_table_at tables words now space space' old new vpn level =
    same_table_at words now 0 1 (lit< tt) (λ k below. new.root k below ∙ sym (old.root k below)) (λ k below. new.middle k below ∙ sym (old.middle k below)) leads vpn level
  where
    leads : (k : ℕ) → k < 512 → LeadsTo 1 (words (word_address 0 k))
    leads k below = elim (cases_Bool (eqb k 0)) [
      | inl first ↦ inl (old.root k below ∙ cond-true _ _ _ first)
      | inr later ↦ inr (old.root k below ∙ cond-false _ _ _ later)
    ]

-- the first word of a pointing table leads on, and all others say nothing
pub pointing_leads : (page k : ℕ) → k < 512 → LeadsTo page (slice_index (pointing_words page) k)
unfolding pointing_words
pointing_leads page zero below = inl refl
pointing_leads page (suc k) below = inr (get_or-replicate 511 k 0 0 (omega arith))

-- the page of a number's root table
pub root_page : (tables e : ℕ) → (if eqb (e + 1) 0 then 0 else table_number tables (e + 1 - 1) 2) ≡ table_number tables e 2
root_page tables e =
    let some : eqb (e + 1) 0 ≡ false = grind (arith, nat_tests) in
    let before : e + 1 - 1 ≡ e = omega arith in
    cond-false _ _ _ some ∙ ap (λ n. table_number tables n 2) before

-- and so does one from a number's root
pub number_table_at : (tables e : ℕ) (words now : ℕ → ℕ) (leaves leaves' : List Leaf) → tables ≤ 32 → e < 64 → NumberTables tables e words leaves → NumberTables tables e now leaves' → (vpn : Vpn) (level : ℕ)
    → table_at now (root_of tables (e + 1)) vpn level ≡ table_at words (root_of tables (e + 1)) vpn level
number_table_at tables e words now leaves leaves' few small old new vpn level =
    subst (λ page. table_at now (record { 0 = ppn_of_page page }) vpn level ≡ table_at words (record { 0 = ppn_of_page page }) vpn level) (sym (root_page tables e))
    (same_table_at words now (table_number tables e 2) (table_number tables e 1) (omega arith)
    (λ k below. new 2 k (lit< tt) below ∙ sym (old 2 k (lit< tt) below)) (λ k below. new 1 k (lit< tt) below ∙ sym (old 1 k (lit< tt) below))
    (λ k below. subst (LeadsTo (table_number tables e 1)) (sym (old 2 k (lit< tt) below)) (pointing_leads (table_number tables e 1) k below)) vpn level)
