-- A walk, word by word: a zero word breaks it, a pointer leads it on, and the leaf of a mapping ends it.
use Rattle.std.proofs.Common.{◌≡◌, ℕ, suc, ◌+◌, ◌*◌, ◌/◌, ◌%◌, ◌^◌, ◌<◌, ◌&&◌, Bool, true, false, cond, Option, Some, None, List, All, refl, ap, sym, ◌∙◌, subst, arith}
use Rattle.std.specs.Option.{option_and_then}
use Rattle.std.proofs.lemmas.Bool.{and_right}
use Rattle.pl_base.specs.Perms.{grants}
use Rattle.pl_base.specs.declared.access.Kind.{Kind}
use Rattle.pl_base.specs.declared.access.Mode.{Mode}
use Rattle.pl_base.specs.declared.address.Vpn.{Vpn}
use Rattle.pl_base.specs.declared.perms.Perms.{Perms}
use Rattle.rv_sv39.specs.Walk.{Answer, WalksFrom, ends, leads, breaks, entry, leads_on, translates}
use Rattle.rv_sv39.specs.Word.{ppn_of, perms_of}
use Rattle.mon_tables.specs.Space.{Mapping, mapping_at}
use Rattle.mon_tables.specs.SpaceWalks.{IsMappable, let_through, same_mode, translation, word_of}
use Rattle.mon_tables.specs.Words.{leaf_word, pointer_word, ppn_of_page}
use Rattle.mon_tables.proofs.Mappings.{found}
use Rattle.mon_tables.proofs.WordBits.{leaf_translates, perms_of-leaf, pointer_leads, ppn_of-leaf, ppn_of-pointer}

-- what an access gets, by the mapping that is found
by_mapping : Mode → Mode → Kind → Option Mapping → Answer
by_mapping owner mode kind o = cond (same_mode owner mode) (option_and_then (let_through kind) o) None

nothing : (owner mode : Mode) (kind : Kind) → by_mapping owner mode kind None ≡ None
unfolding by_mapping
nothing owner mode kind = elim (same_mode owner mode) as (λ s. cond s (option_and_then (let_through kind) None) None ≡ None) [ true ↦ refl | false ↦ refl ]

no_leaf : (level : ℕ) (kind : Kind) (mode : Mode) → translates level 0 kind mode ≡ false
no_leaf level kind mode = refl

module _ (words : ℕ → ℕ) (vpn : Vpn) (mode : Mode) (kind : Kind) where
  pub leads_by_pointer : (level table page : ℕ) (answer : Answer) → page < 2 ^ 32 → entry words vpn (suc level) table ≡ pointer_word page
      → WalksFrom words vpn mode kind level (ppn_of_page page) answer → WalksFrom words vpn mode kind (suc level) table answer
  leads_by_pointer level table page answer small is walk =
      leads level table answer (subst (λ word. leads_on (suc level) word ≡ true) (sym is) (pointer_leads level page small))
      (subst (λ next. WalksFrom words vpn mode kind level next answer) (sym (ap ppn_of is ∙ ppn_of-pointer page small)) walk)

  module _ (owner : Mode) (space : List Mapping) where
    pub breaks_at_zero : (level table : ℕ) → entry words vpn level table ≡ 0 → mapping_at space vpn.0 ≡ None
        → WalksFrom words vpn mode kind level table (translation owner space vpn mode kind)
    unfolding by_mapping
    breaks_at_zero level table is none =
        subst (λ answer. WalksFrom words vpn mode kind level table answer) (sym (ap (by_mapping owner mode kind) none ∙ nothing owner mode kind))
        (breaks level table (subst (λ word. leads_on level word ≡ false) (sym is) refl) (subst (λ word. translates level word kind mode ≡ false) (sym is) (no_leaf level kind mode)))

    module _ (m : Mapping) (fits : IsMappable m) (table : ℕ) (is : entry words vpn 0 table ≡ leaf_word m.page m.perms owner) where
      -- what the word lets through
      lets_through : (answer : Bool) → (same_mode owner mode && grants m.perms kind) ≡ answer → translates 0 (entry words vpn 0 table) kind mode ≡ answer
      lets_through answer asked = ap (λ word. translates 0 word kind mode) is ∙ (leaf_translates m.page m.perms owner fits.page fits.perms mode kind ∙ asked)

      ends_there : (same_mode owner mode && grants m.perms kind) ≡ true → WalksFrom words vpn mode kind 0 table (Some (record { 0 = ppn_of_page m.page }, m.perms))
      ends_there asked =
          let number : ppn_of (entry words vpn 0 table) ≡ ppn_of_page m.page = ap ppn_of is ∙ ppn_of-leaf m.page m.perms owner fits.page fits.perms in
          let page : ppn_of (entry words vpn 0 table) / 1 * 1 + vpn.0 % 1 ≡ ppn_of_page m.page = omega arith in
          let perms : perms_of (entry words vpn 0 table) ≡ m.perms = ap perms_of is ∙ perms_of-leaf m.page m.perms owner fits.page fits.perms in
          subst (λ (p : Perms). WalksFrom words vpn mode kind 0 table (Some (record { 0 = ppn_of_page m.page }, p))) perms (
          subst (λ (n : ℕ). WalksFrom words vpn mode kind 0 table (Some (record { 0 = n }, perms_of (entry words vpn 0 table)))) page (
          ends 0 table (lets_through true asked)))

      breaks_there : (same_mode owner mode && grants m.perms kind) ≡ false → WalksFrom words vpn mode kind 0 table None
      breaks_there asked = breaks 0 table (and_right _ _ refl) (lets_through false asked)

      answers : (s g : Bool) → same_mode owner mode ≡ s → grants m.perms kind ≡ g
          → WalksFrom words vpn mode kind 0 table (cond s (cond g (Some (record { 0 = ppn_of_page m.page }, m.perms)) None) None)
      answers true true mode_is kind_is = ends_there (rw (mode_is, kind_is) refl)
      answers true false mode_is kind_is = breaks_there (rw (mode_is, kind_is) refl)
      answers false g mode_is kind_is = breaks_there (rw mode_is refl)

    pub ends_at_leaf : (table : ℕ) → All IsMappable space → entry words vpn 0 table ≡ word_of owner (mapping_at space vpn.0)
        → WalksFrom words vpn mode kind 0 table (translation owner space vpn mode kind)
    unfolding by_mapping
    ends_at_leaf table all is = by_case (mapping_at space vpn.0) refl
      where
        by_case : (o : Option Mapping) → mapping_at space vpn.0 ≡ o → WalksFrom words vpn mode kind 0 table (translation owner space vpn mode kind)
        by_case None none = breaks_at_zero 0 table (is ∙ ap (word_of owner) none) none
        by_case (Some m) some =
            subst (λ answer. WalksFrom words vpn mode kind 0 table answer) (sym (ap (by_mapping owner mode kind) some)) (
            answers m (found IsMappable space vpn.0 m all some) table (is ∙ ap (word_of owner) some) (same_mode owner mode) (grants m.perms kind) refl refl)
