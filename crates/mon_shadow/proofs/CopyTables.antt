-- A number's tables after the copy of a page.
use Rattle.std.proofs.Common.{ℕ, ◌≡◌, ◌≢◌, ◌+◌, ◌-◌, ◌*◌, ◌/◌, ◌%◌, ◌<◌, ◌≤◌, ◌==◌, IsTrue, List, length, slice_set, ◌∙◌, arith, false, inl, inr}
use Rattle.std.proofs.lemmas.Bool.{cond-false}
use Rattle.std.proofs.lemmas.Bool.Decides.{nat_tests}
use Rattle.pl_base.specs.Perms.{are_page_perms}
use Rattle.pl_base.specs.declared.access.Mode.TheVariants.{User}
use Rattle.pl_base.specs.declared.perms.Perms.{Perms}
use Rattle.pl_base.specs.declared.place.Place.{Place}
use Rattle.mem_tree.specs.Trees.{HasDigests}
use Rattle.mem_ctl.specs.Access.{BothStay, IfValue, IsCollision, IsTampered}
use Rattle.mem_ctl.specs.Data.{CtlData, Outcome, Value, Fault, Collision, Again, After}
use Rattle.mon_host.specs.Laws.{mirror_words}
use Rattle.mon_host.proofs.SpaceLemmas.{changed_words, leaf_fits, same_page, stayed_words}
use Rattle.mon_tables.specs.declared.number_tables.Leaf.{Leaf}
use Rattle.mon_tables.specs.SpaceWalks.{NumberTables, SetsLeaf, with_word, word_address}
use Rattle.mon_tables.specs.Tables.{number_slot, slot_address, table_number}
use Rattle.mon_tables.specs.Words.{leaf_word}
use Rattle.mon_shadow.specs.Breaking.{if_put, page_copied}
use Rattle.mon_shadow.specs.BreakLaws.{CopiesSetLeaf, CopyRefused, CopyTells, SpareChanges}
use Rattle.mon_shadow.proofs.CopyLemmas.{CopySteps, copy_told}

module _ (tables e : ℕ) where
  -- tables that have the same words stand for the same leaves
  same_number : (words now : ℕ → ℕ) (leaves : List Leaf) → ((level k : ℕ) → level < 3 → k < 512 → now (word_address (table_number tables e level) k) ≡ words (word_address (table_number tables e level) k))
      → NumberTables tables e words leaves → NumberTables tables e now leaves
  same_number words now leaves same stand = λ level k low small. same level k low small ∙ stand level k low small

  module _ (x y : CtlData) (guarded : 2 + tables + 3 * (e + 1) ≤ 64 * x.zones) (leaves : List Leaf) (stand : NumberTables tables e (mirror_words x) leaves) where
    still : BothStay x y → NumberTables tables e (mirror_words y) leaves
    still stay = same_number (mirror_words x) (mirror_words y) leaves (λ level k low small. stayed_words x y stay (table_number tables e level) k (omega arith) small) stand

    -- the spare is none of them
    module _ (shared spare : ℕ) (none : (level : ℕ) → level < 3 → spare ≢ table_number tables e level) (change : SpareChanges shared spare x y) where
      word_stays : (page k : ℕ) → page < 64 * x.zones → k < 512 → spare ≢ page → mirror_words y (word_address page k) ≡ mirror_words x (word_address page k)
      word_stays page k there small apart =
          let p : ℕ = word_address page k / 4096 - 0x80000 in
          let p_is : p ≡ page = omega arith in
          let no : (p == spare) ≡ false = grind (arith, nat_tests) in
          same_page x y p (word_address page k % 4096) (omega arith) (change.mirror_pages p (omega arith) ∙ cond-false _ _ _ no)

      elsewhere : NumberTables tables e (mirror_words y) leaves
      elsewhere = same_number (mirror_words x) (mirror_words y) leaves (λ level k low small. word_stays (table_number tables e level) k (omega arith) small (none level low)) stand

  -- after a copy
  module _ (sets : SetsLeaf) (d : List ℕ → List ℕ) (index shared spare : ℕ) (perms : Perms) (x w : CtlData) (guarded : 2 + tables + 3 * (e + 1) ≤ 64 * x.zones) (few_zones : x.zones ≤ 64)
      (leaves : List Leaf) (below : index < length leaves) (few : length leaves ≤ 256) (spare_there : spare < 64 * x.zones) (none : (level : ℕ) → level < 3 → spare ≢ table_number tables e level)
      (allowed : IsTrue (are_page_perms perms)) (stand : NumberTables tables e (mirror_words x) leaves) where
    abbrev slot : ℕ × ℕ
    slot = number_slot tables e index

    abbrev leaf : Leaf
    leaf = record { page = spare; perms = perms }

    leaf_stands : CopySteps shared spare slot (leaf_word spare perms User) x w → NumberTables tables e (mirror_words w) (slice_set leaves index leaf)
    leaf_stands s =
        let z : CtlData = s.between in
        let word : ℕ = leaf_word spare perms User in
        let before : NumberTables tables e (mirror_words z) leaves = elsewhere x z guarded leaves stand shared spare none s.spare_now in
        same_number (with_word (mirror_words z) (slot_address slot) word) (mirror_words w) (slice_set leaves index leaf)
        (λ level k low small.
        changed_words z w slot word s.sized (omega (arith, s.between_zones)) (omega arith) (omega arith) (leaf_fits spare perms User (omega arith) allowed) s.leaf_now (table_number tables e level) k
        (omega (arith, s.between_zones)) small)
        (sets tables e index (mirror_words z) leaves leaf few below before)

    refused : (Cause : List Place → Type 0) → CopyRefused shared spare slot Cause x w → NumberTables tables e (mirror_words w) leaves
    refused Cause (inl first) = still x w guarded leaves stand first.0
    refused Cause (inr (inl second)) = still x w guarded leaves stand second.0
    refused Cause (inr (inr third)) = elsewhere x w guarded leaves stand shared spare none third.0

    after : (o : Outcome (Unit {0})) → CopyTells d shared spare slot (leaf_word spare perms User) x o w → IfValue o (CopySteps shared spare slot (leaf_word spare perms User) x w)
        → NumberTables tables e (mirror_words w) (if_put o (slice_set leaves index leaf) leaves)
    after (Value done) told steps = leaf_stands steps
    after (Fault place) told steps = refused (λ places. IsTampered w places place) told.0
    after (Collision place held other) told steps = refused (λ places. IsCollision d w places place held other) told.0
    after (Again taken_root root) told steps = absurd told

pub copies_set_leaf : SetsLeaf → (d : List ℕ → List ℕ) → HasDigests d → CopiesSetLeaf d
copies_set_leaf sets d law tables e index shared spare perms g leaves kept guarded below few shared_there spare_there none allowed stand =
    let r : After (Unit {0}) = page_copied d tables e index shared spare perms g in
    let told = copy_told d law tables e index shared spare perms g kept guarded (omega arith) shared_there spare_there (none 0 (omega arith)) in
    after tables e sets d index shared spare perms g.ctl r.after.ctl guarded kept.trees.sizes.few leaves below few spare_there none allowed stand r.outcome told.0.tells told.1
