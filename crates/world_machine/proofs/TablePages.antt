-- Where the words of tables stand that a walk asks for: in the guarded pages of the host's tables, or of a number's.
use Rattle.std.proofs.Common.{◌≡◌, ℕ, ◌+◌, ◌*◌, ◌/◌, ◌%◌, ◌^◌, ◌<◌, ◌≤◌, eqb, ltb, Bool, true, false, cond, List, [], ◌∷◌, Option, Some, None, option_and_then, refl, sym, ap, ◌∙◌, subst, arith, inl, inr, lit<}
use Rattle.std.specs.Prelude.{Contains}
use Rattle.std.proofs.lemmas.Bool.{cases_Bool, cond-true, eqb-true, lt-ltb, ltb-true}
use Rattle.pl_base.specs.Address.{vpn_of}
use Rattle.pl_base.specs.declared.address.Pa.{Pa}
use Rattle.pl_base.specs.declared.address.Ppn.{Ppn}
use Rattle.pl_base.specs.declared.address.Va.{Va}
use Rattle.pl_base.specs.declared.address.Vpn.{Vpn}
use Rattle.rv_sv39.specs.Walk.{entry_address, next_table, table_at}
use Rattle.mon_tables.specs.declared.number_tables.Leaf.{Leaf}
use Rattle.mon_tables.specs.Space.{Mapping}
use Rattle.mon_tables.specs.SpaceWalks.{HostTables, NumberTables, word_address}
use Rattle.mon_tables.specs.Tables.{host_slot, root_of, table_number}
use Rattle.mon_tables.specs.Words.{pointer_word, ppn_of_page}
use Rattle.pl_history.specs.Licence.{host_tables, slot_pages}
use Rattle.world_machine.specs.Translating.{offset_at, page_at}
use Rattle.world_machine.proofs.Licences.{first_in, later_in}
use Rattle.world_machine.proofs.TablesReached.{LeadsTo, led_by, led_there, pointing_leads, root_page}

-- ---- the address of a word

-- the word of a table stands in the table's page, at a multiple of 8
pub record IsWordOf (page : ℕ) (pa : Pa) : Type 0 where
  pub above : 0x80000000 ≤ pa.0
  pub page_is : page_at pa ≡ page
  pub inside : offset_at pa < 4096
  pub aligned : offset_at pa % 8 ≡ 0

pub word_stands : (vpn : Vpn) (level page table : ℕ) (pa : Pa) → table ≡ ppn_of_page page → pa.0 ≡ entry_address vpn level table → IsWordOf page pa
word_stands vpn level page table pa at is =
    let k : ℕ = vpn.0 / 2 ^ (9 * level) % 512 in
    let small : k < 512 = omega arith in
    let address : pa.0 ≡ 4096 * (0x80000 + page) + 8 * k = is ∙ ap (λ t. 4096 * t + 8 * k) at in
    record { above = omega (arith, address); page_is = omega (arith, address, small); inside = omega arith; aligned = omega (arith, address) }

-- ---- the table of a level

module _ (words : ℕ → ℕ) (root : Ppn) (vpn : Vpn) (table : ℕ) where
  abbrev first : Option ℕ
  first = next_table words vpn 2 root.0

  abbrev lowest : Option ℕ
  lowest = option_and_then (next_table words vpn 1) first

  -- the root is of level 2, and the tables below it of levels 1 and 0
  by_level : (P : ℕ → Type 0) → (root.0 ≡ table → P 2) → (first ≡ Some table → P 1) → (lowest ≡ Some table → P 0) → (level : ℕ) → table_at words root vpn level ≡ Some table → P level
  by_level P at_root at_first at_lowest level is = elim (cases_Bool (eqb level 2)) [
    | inl two ↦ subst P (sym (eqb-true level 2 two)) (at_root (let h : Some root.0 ≡ Some table = rw two at is in cc))
    | inr less ↦ elim (cases_Bool (eqb level 1)) [
      | inl one ↦ subst P (sym (eqb-true level 1 one)) (at_first (rw one at rw less at is))
      | inr none ↦ elim (cases_Bool (eqb level 0)) [
        | inl last ↦ subst P (sym (eqb-true level 0 last)) (at_lowest (rw last at rw none at rw less at is))
        | inr past ↦ (let h : None ≡ Some table = rw past at rw none at rw less at is in cc)
      ]
    ]
  ]

-- a table that a word leads to
led_page : (level page word table : ℕ) → page < 2 ^ 32 → LeadsTo page word → led_by level word ≡ Some table → table ≡ ppn_of_page page
led_page level page word table small leads is = elim (led_there level page word small leads) [
  | inl there ↦ (let h : Some table ≡ Some (ppn_of_page page) = sym is ∙ there in cc)
  | inr none ↦ (let h : Some table ≡ None = sym is ∙ none in cc)
]

-- a word that says nothing leads nowhere
leads_nowhere : (level word table : ℕ) → word ≡ 0 → led_by level word ≡ Some table → ⊥
leads_nowhere level word table none is = (let h : None ≡ Some table = sym (ap (led_by level) none) ∙ is in cc)

-- ---- a number's

module _ (tables e : ℕ) (words : ℕ → ℕ) (leaves : List Leaf) (few : tables ≤ 32) (small : e < 64) (stand : NumberTables tables e words leaves) (vpn : Vpn) (table : ℕ) where
  abbrev page : ℕ → ℕ
  page level = table_number tables e level

  abbrev at_root : ℕ
  at_root = vpn.0 / 2 ^ 18 % 512

  abbrev at_middle : ℕ
  at_middle = vpn.0 / 2 ^ 9 % 512

  root_leads : LeadsTo (page 1) (words (word_address (page 2) at_root))
  root_leads = subst (LeadsTo (page 1)) (sym (stand 2 at_root (lit< tt) (omega arith))) (pointing_leads (page 1) at_root (omega arith))

  middle_leads : LeadsTo (page 0) (words (word_address (page 1) at_middle))
  middle_leads = subst (LeadsTo (page 0)) (sym (stand 1 at_middle (lit< tt) (omega arith))) (pointing_leads (page 0) at_middle (omega arith))

  first_is : (t : ℕ) → next_table words vpn 2 (ppn_of_page (page 2)) ≡ Some t → t ≡ ppn_of_page (page 1)
  first_is t is = led_page 2 (page 1) (words (word_address (page 2) at_root)) t (omega arith) root_leads is

  second_is : next_table words vpn 1 (ppn_of_page (page 1)) ≡ Some table → table ≡ ppn_of_page (page 0)
  second_is is = led_page 1 (page 0) (words (word_address (page 1) at_middle)) table (omega arith) middle_leads is

  lowest_is : (first : Option ℕ) → next_table words vpn 2 (ppn_of_page (page 2)) ≡ first → option_and_then (next_table words vpn 1) first ≡ Some table → table ≡ ppn_of_page (page 0)
  lowest_is None led is = (let h : None ≡ Some table = is in cc)
  lowest_is (Some t) led is = second_is (ap (next_table words vpn 1) (sym (first_is t led)) ∙ is)

  -- the table of a level stands in its page
  pub number_table_page : (level : ℕ) → table_at words (root_of tables (e + 1)) vpn level ≡ Some table → (level < 3) × (table ≡ ppn_of_page (page level))
  number_table_page level is =
      by_level words (record { 0 = ppn_of_page (page 2) }) vpn table (λ l. (l < 3) × (table ≡ ppn_of_page (page l)))
      (λ root. (lit< tt, sym root)) (λ led. (lit< tt, first_is table led)) (λ led. (lit< tt, lowest_is (next_table words vpn 2 (ppn_of_page (page 2))) refl led)) level
      (subst (λ p. table_at words (record { 0 = ppn_of_page p }) vpn level ≡ Some table) (root_page tables e) is)

-- ---- the host's

module _ (tables : ℕ) (words : ℕ → ℕ) (space : List Mapping) (few : tables ≤ 32) (stand : HostTables tables words space) (va : Va) (table : ℕ) where
  abbrev vpn : Vpn
  vpn = vpn_of va

  -- the page of a table of the address
  pub record IsHostTable : Type 0 where
    pub page : ℕ
    pub is : table ≡ ppn_of_page page
    pub low : page < 2 + tables
    pub concerned : Contains (host_tables tables va) page

  abbrev at_first : ℕ
  at_first = vpn.0 / 2 ^ 18 % 512

  abbrev at_second : ℕ
  at_second = vpn.0 / 2 ^ 9 % 512

  -- the root leads to the middle table, from its first word
  root_by : (t : ℕ) (b : Bool) → eqb at_first 0 ≡ b → words (word_address 0 at_first) ≡ cond b (pointer_word 1) 0 → led_by 2 (words (word_address 0 at_first)) ≡ Some t
      → (t ≡ ppn_of_page 1) × (at_first ≡ 0)
  root_by t true test word is = (led_page 2 1 (words (word_address 0 at_first)) t (lit< tt) (inl word) is, eqb-true at_first 0 test)
  root_by t false test word is = absurd (leads_nowhere 2 (words (word_address 0 at_first)) t word is)

  host_root_leads : (t : ℕ) → next_table words vpn 2 (ppn_of_page 0) ≡ Some t → (t ≡ ppn_of_page 1) × (at_first ≡ 0)
  host_root_leads t is = root_by t (eqb at_first 0) refl (stand.root at_first (omega arith)) is

  -- and the middle table to that of the address, where there is one
  middle_by : (b : Bool) → ltb at_second tables ≡ b → words (word_address 1 at_second) ≡ cond b (pointer_word (2 + at_second)) 0 → led_by 1 (words (word_address 1 at_second)) ≡ Some table
      → (table ≡ ppn_of_page (2 + at_second)) × (at_second < tables)
  middle_by true test word is =
      let there : at_second < tables = ltb-true at_second tables test in
      (led_page 1 (2 + at_second) (words (word_address 1 at_second)) table (omega (arith, there, few)) (inl word) is, there)
  middle_by false test word is = absurd (leads_nowhere 1 (words (word_address 1 at_second)) table word is)

  host_middle_leads : next_table words vpn 1 (ppn_of_page 1) ≡ Some table → (table ≡ ppn_of_page (2 + at_second)) × (at_second < tables)
  host_middle_leads is = middle_by (ltb at_second tables) refl (stand.middle at_second (omega arith)) is

  last_is_host : at_first ≡ 0 → (table ≡ ppn_of_page (2 + at_second)) × (at_second < tables) → IsHostTable
  last_is_host first leads =
      let there : at_second < tables = leads.1 in
      let same : at_second ≡ vpn.0 / 512 = omega (arith, first) in
      let slot : host_slot tables vpn.0 ≡ Some (2 + vpn.0 / 512, 8 * (vpn.0 % 512)) = cond-true _ _ _ (lt-ltb vpn.0 (512 * tables) (omega (arith, there, same))) in
      record {
        page = 2 + at_second;
        is = leads.0;
        low = omega (arith, there);
        concerned = later_in 0 (2 + at_second) (1 ∷ slot_pages (host_slot tables vpn.0)) (later_in 1 (2 + at_second) (slot_pages (host_slot tables vpn.0))
            (subst (λ o. Contains (slot_pages o) (2 + at_second)) (sym slot) (subst (λ p. Contains (p ∷ []) (2 + at_second)) (ap (λ n. 2 + n) same) (first_in (2 + at_second) []))));
      }

  lowest_is_host : (found : Option ℕ) → next_table words vpn 2 (ppn_of_page 0) ≡ found → option_and_then (next_table words vpn 1) found ≡ Some table → IsHostTable
  lowest_is_host None led is = (let h : None ≡ Some table = is in cc)
  lowest_is_host (Some t) led is =
      let root = host_root_leads t led in
      last_is_host root.1 (host_middle_leads (ap (next_table words vpn 1) (sym root.0) ∙ is))

  pub host_table_page : (level : ℕ) → table_at words (root_of tables 0) vpn level ≡ Some table → IsHostTable
  host_table_page level is =
      by_level words (root_of tables 0) vpn table (λ _. IsHostTable)
      (λ root. record { page = 0; is = sym root; low = omega arith; concerned = first_in 0 (1 ∷ slot_pages (host_slot tables vpn.0)) })
      (λ first. record {
        page = 1;
        is = (host_root_leads table first).0;
        low = omega arith;
        concerned = later_in 0 1 (1 ∷ slot_pages (host_slot tables vpn.0)) (first_in 1 (slot_pages (host_slot tables vpn.0)));
      })
      (lowest_is_host (next_table words vpn 2 (ppn_of_page 0)) refl) level is
