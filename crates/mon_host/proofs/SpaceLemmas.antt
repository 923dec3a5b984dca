-- What the events come to in the host's space.
use Rattle.std.proofs.Common.{ℕ, ◌≡◌, ◌≢◌, ◌+◌, ◌-◌, ◌*◌, ◌/◌, ◌%◌, ◌^◌, ◌<◌, ◌≤◌, ◌==◌, ◌⊎◌, nat_lt, true, false, cond, not, IsTrue, List, [], ◌∷◌, ◌++◌, length, drop, All, Option, Some, None, is_some, unwrap_or, refl, ap, subst, sym, ◌∙◌, arith, inl, inr, length-drop, lit<, Bool}
use Rattle.std.specs.Prelude.{Result, Ok, Err}
use Rattle.std.proofs.lemmas.Bool.{and_parts, cases_Bool, cases_lt, cond-false, cond-true, eqb-false, eqb-true, lt-ltb, ltb-true}
use Rattle.std.proofs.lemmas.Bool.Decides.{nat_tests}
use Rattle.std.proofs.lemmas.List.{append-nil, length-take-le}
use Rattle.byteorder.specs.Endian.{little_bytes, little_number}
use Rattle.byteorder.specs.Numbers.{length-bytes_low_first, little_number-reads_back}
use Rattle.pl_base.specs.Address.{vpn_of}
use Rattle.pl_base.specs.Bytes.{bytes_at, with_bytes}
use Rattle.pl_base.specs.Perms.{are_page_perms, grants}
use Rattle.pl_base.specs.declared.access.Kind.TheVariants.{Store}
use Rattle.pl_base.specs.Refusals.{refuse, first_refusal}
use Rattle.pl_base.specs.declared.access.Mode.TheVariants.{Super, User}
use Rattle.pl_base.specs.declared.access.Mode.{Mode}
use Rattle.pl_base.specs.declared.address.Va.{Va}
use Rattle.pl_base.specs.declared.perms.Perms.{Perms}
use Rattle.pl_base.specs.declared.refusal.No.{No}
use Rattle.pl_base.specs.declared.refusal.No.TheVariants.{Mapped, NotMapped, NotYours}
use Rattle.mem_geom.specs.Layout.{memory_size}
use Rattle.mem_geom.specs.Parts.{page_bytes}
use Rattle.mem_geom.proofs.Parts.{bytes_at-bytes_at, bytes_at-with_bytes, bytes_at-with_bytes_after, bytes_at-with_bytes_before}
use Rattle.mem_ctl.specs.Access.{AccessTells, BothStay}
use Rattle.mem_ctl.specs.Data.{CtlData, Outcome, Value, Fault, Collision, Again}
use Rattle.mem_ctl.specs.Writes.{word_at}
use Rattle.mon_owner.specs.declared.owners.Owner.{Owner}
use Rattle.mon_owner.specs.Owners.{is_host, owner_at}
use Rattle.mon_tables.specs.Space.{Mapping, mapping_at, without_vpn}
use Rattle.mon_tables.specs.SpaceWalks.{ClearsMapping, HostTables, HostTablesWalk, IsMappable, SetsMapping, with_word, word_address, word_of}
use Rattle.mon_tables.specs.Tables.{can_be_mapped, host_slot, slot_address}
use Rattle.mon_tables.specs.Words.{dirty_bit, leaf_word, ppn_of_page, user_bit}
use Rattle.mon_tables.proofs.Mappings.{found, none_some, same_Some}
use Rattle.mon_tables.proofs.WordBits.{ppn_of-leaf}
use Rattle.mon_host.specs.Laws.{AnswersBy, HappensIn, SpacesHaveLeaves, WordChanges, WordTells, map_refusal_in, mirror_words, new_mapping, places_of, unmap_refusal_in, word_in}
use Rattle.mon_host.specs.Leaves.{if_done, leaf_slot}
use Rattle.mon_host.specs.Mapping.{map_refusal}
use Rattle.mon_host.specs.Unmapping.{HaveHostLeaves, IsHostLeaf, page_of_leaf, unmap_refusal}

-- ---- where a leaf stands

pub record IsSlot (tables : ℕ) (va : Va) : Type 0 where
  pub vpn_below : (vpn_of va).0 < 512 * tables
  pub slot_is : host_slot tables (vpn_of va).0 ≡ Some (leaf_slot tables va)
  pub leaf_is : leaf_slot tables va ≡ (2 + (vpn_of va).0 / 512, 8 * ((vpn_of va).0 % 512))

-- an address that can be mapped has a slot
pub mapped-IsSlot : (tables : ℕ) (va : Va) → can_be_mapped tables va ≡ true → IsSlot tables va
mapped-IsSlot tables va can =
    let n : ℕ = (vpn_of va).0 in
    let far : va.0 < 4096 * 512 * tables = ltb-true va.0 (4096 * 512 * tables) (and_parts (va.0 % 4096 == 0) (nat_lt va.0 (4096 * 512 * tables)) can).1 in
    let below : n < 512 * tables = omega arith in
    let is : host_slot tables n ≡ Some (2 + n / 512, 8 * (n % 512)) = cond-true _ _ _ (lt-ltb n (512 * tables) below) in
    let leaf : leaf_slot tables va ≡ (2 + n / 512, 8 * (n % 512)) = ap (λ (o : Option (ℕ × ℕ)). unwrap_or o (0, 0)) is in
    record { vpn_below = below; slot_is = is ∙ ap Some (sym leaf); leaf_is = leaf }

-- the slot of a page that has one
has_slot : (tables vpn : ℕ) (slot : ℕ × ℕ) → host_slot tables vpn ≡ Some slot → (vpn < 512 * tables) × ((2 + vpn / 512, 8 * (vpn % 512)) ≡ slot)
has_slot tables vpn slot is = elim (cases_Bool (nat_lt vpn (512 * tables))) [
  | inl there ↦ (ltb-true vpn (512 * tables) there, same_Some _ _ (sym (cond-true _ _ _ there) ∙ is))
  | inr none ↦ absurd (none_some slot (sym (cond-false _ _ _ none) ∙ is))
]

-- ---- words of pages

-- a word is read back from its bytes
pub read_back : (word : ℕ) → word < 2 ^ 64 → little_number 8 (little_bytes 8 word) ≡ word
read_back word fits = ap (little_number 8) (sym (append-nil (little_bytes 8 word))) ∙ little_number-reads_back 8 word [] fits

-- the word of a page, from the page's bytes
pub word_of_page : (memory : List ℕ) (page at : ℕ) → at + 8 ≤ 4096 → word_at memory page at ≡ little_number 8 (bytes_at (page_bytes memory page) at 8)
word_of_page memory page at inside = ap (little_number 8) (sym (bytes_at-bytes_at memory (4096 * page) 4096 at 8 inside))

module _ (x y : CtlData) where
  pub same_page : (page at : ℕ) → at + 8 ≤ 4096 → page_bytes y.mirror page ≡ page_bytes x.mirror page → word_at y.mirror page at ≡ word_at x.mirror page at
  same_page page at inside same = word_of_page y.mirror page at inside ∙ ap (λ (bytes : List ℕ). little_number 8 (bytes_at bytes at 8)) same ∙ sym (word_of_page x.mirror page at inside)

  -- the words of tables that stayed
  pub stayed_words : BothStay x y → (page k : ℕ) → page < 64 * x.zones → k < 512 → mirror_words y (word_address page k) ≡ mirror_words x (word_address page k)
  stayed_words stays page k there small =
      let p : ℕ = word_address page k / 4096 - 0x80000 in
      let p_is : p ≡ page = omega arith in
      same_page p (word_address page k % 4096) (omega arith) (stays.mirror_pages p (omega arith))

  stayed_leaves : (tables : ℕ) → 2 + tables ≤ 64 * x.zones → y.zones ≡ x.zones → BothStay x y → HaveHostLeaves tables x → HaveHostLeaves tables y
  stayed_leaves tables guarded zones stays leaves vpn slot is =
      let has = has_slot tables vpn slot is in
      let first : 2 + vpn / 512 ≡ slot.0 = ap (λ (s : ℕ × ℕ). s.0) has.1 in
      let second : 8 * (vpn % 512) ≡ slot.1 = ap (λ (s : ℕ × ℕ). s.1) has.1 in
      let same : word_at y.mirror slot.0 slot.1 ≡ word_at x.mirror slot.0 slot.1 = same_page slot.0 slot.1 (omega arith) (stays.mirror_pages slot.0 (omega (arith, has.0))) in
      subst (λ w. (w ≡ 0) ⊎ IsHostLeaf (64 * y.zones) w) (sym same)
      (subst (λ n. (word_at x.mirror slot.0 slot.1 ≡ 0) ⊎ IsHostLeaf (64 * n) (word_at x.mirror slot.0 slot.1)) (sym zones) (leaves vpn slot is))

  module _ (slot : ℕ × ℕ) (word : ℕ) (sized : length x.mirror ≡ memory_size x.zones) (there : slot.0 < 64 * x.zones) (inside : slot.1 < 4096) (aligned : slot.1 % 8 ≡ 0) (fits : word < 2 ^ 64)
      (change : WordChanges slot word x y) where
    abbrev bytes : List ℕ
    bytes = page_bytes x.mirror slot.0

    abbrev written : List ℕ
    written = with_bytes bytes slot.1 (little_bytes 8 word)

    long : length (little_bytes 8 word) ≡ 8
    long = length-bytes_low_first 0 8 word

    fits_in : slot.1 + length (little_bytes 8 word) ≤ length bytes
    fits_in = let whole : length bytes ≡ 4096 = length-take-le 4096 (drop (4096 * slot.0) x.mirror) (omega (arith, length-drop (4096 * slot.0) x.mirror)) in omega (arith, long)

    page_now : (page : ℕ) → page < 64 * x.zones → page_bytes y.mirror page ≡ cond (page == slot.0) written (page_bytes x.mirror page)
    page_now page below = change.mirror_pages page below

    own_page : page_bytes y.mirror slot.0 ≡ written
    own_page = page_now slot.0 there ∙ cond-true _ _ _ (let same : (slot.0 == slot.0) ≡ true = grind (arith, nat_tests) in same)

    -- the word that was written
    word_now : word_at y.mirror slot.0 slot.1 ≡ word
    word_now =
        let read : bytes_at written slot.1 8 ≡ little_bytes 8 word = subst (λ n. bytes_at written slot.1 n ≡ little_bytes 8 word) long (bytes_at-with_bytes bytes slot.1 (little_bytes 8 word) fits_in) in
        word_of_page y.mirror slot.0 slot.1 (omega arith) ∙ ap (λ (b : List ℕ). little_number 8 (bytes_at b slot.1 8)) own_page ∙ ap (little_number 8) read ∙ read_back word fits

    -- another word
    other_word : (page at : ℕ) → page < 64 * x.zones → at < 4096 → at % 8 ≡ 0 → (page ≢ slot.0) ⊎ (at ≢ slot.1) → word_at y.mirror page at ≡ word_at x.mirror page at
    other_word page at below small even (inl apart) =
        same_page page at (omega arith) (page_now page below ∙ cond-false _ _ _ (let no : (page == slot.0) ≡ false = grind (arith, nat_tests) in no))
    other_word page at below small even (inr apart) = elim (cases_Bool (page == slot.0)) [
      | inr other ↦ same_page page at (omega arith) (page_now page below ∙ cond-false _ _ _ other)
      | inl same ↦
          let here : page ≡ slot.0 = eqb-true page slot.0 same in
          let now : page_bytes y.mirror page ≡ written = page_now page below ∙ cond-true _ _ _ same in
          let was : bytes_at bytes at 8 ≡ bytes_at (page_bytes x.mirror page) at 8 = ap (λ n. bytes_at (page_bytes x.mirror n) at 8) (sym here) in
          let stays : bytes_at written at 8 ≡ bytes_at bytes at 8 = elim (cases_lt at slot.1) [
            | inl before ↦ bytes_at-with_bytes_before bytes slot.1 (little_bytes 8 word) fits_in at 8 (omega arith)
            | inr after ↦ bytes_at-with_bytes_after bytes slot.1 (little_bytes 8 word) fits_in at 8 (omega (arith, long))
          ] in
          word_of_page y.mirror page at (omega arith) ∙ ap (λ (b : List ℕ). little_number 8 (bytes_at b at 8)) now ∙ ap (little_number 8) (stays ∙ was) ∙ sym (word_of_page x.mirror page at (omega arith))
    ]

    -- leaves stay those of pages, where the word is one of them
    changed_leaves : (tables : ℕ) → 2 + tables ≤ 64 * x.zones → y.zones ≡ x.zones → (word ≡ 0) ⊎ IsHostLeaf (64 * x.zones) word → HaveHostLeaves tables x → HaveHostLeaves tables y
    changed_leaves tables guarded zones leaf leaves vpn other is =
        let has = has_slot tables vpn other is in
        let first : 2 + vpn / 512 ≡ other.0 = ap (λ (s : ℕ × ℕ). s.0) has.1 in
        let second : 8 * (vpn % 512) ≡ other.1 = ap (λ (s : ℕ × ℕ). s.1) has.1 in
        let Leaf : ℕ → Type 0 = λ w. (w ≡ 0) ⊎ IsHostLeaf (64 * y.zones) w in
        let was : Leaf (word_at x.mirror other.0 other.1) = subst (λ n. (word_at x.mirror other.0 other.1 ≡ 0) ⊎ IsHostLeaf (64 * n) (word_at x.mirror other.0 other.1)) (sym zones) (leaves vpn other is) in
        let elsewhere = λ (apart : (other.0 ≢ slot.0) ⊎ (other.1 ≢ slot.1)).
        subst Leaf (sym (other_word other.0 other.1 (omega (arith, has.0)) (omega arith) (omega arith) apart)) was in
        elim (cases_Bool (other.0 == slot.0)) [
          | inr differs ↦ elsewhere (inl (eqb-false other.0 slot.0 differs))
          | inl same ↦ elim (cases_Bool (other.1 == slot.1)) [
            | inr differs ↦ elsewhere (inr (eqb-false other.1 slot.1 differs))
            | inl equal ↦
                let page_is : other.0 ≡ slot.0 = eqb-true other.0 slot.0 same in
                let at_is : other.1 ≡ slot.1 = eqb-true other.1 slot.1 equal in
                let now : word_at y.mirror other.0 other.1 ≡ word = ap (λ n. word_at y.mirror n other.1) page_is ∙ ap (word_at y.mirror slot.0) at_is ∙ word_now in
                subst Leaf (sym now) (subst (λ n. (word ≡ 0) ⊎ IsHostLeaf (64 * n) word) (sym zones) leaf)
          ]
        ]

    -- so the tables have this word, and all others as before
    pub changed_words : (page k : ℕ) → page < 64 * x.zones → k < 512 → mirror_words y (word_address page k) ≡ with_word (mirror_words x) (slot_address slot) word (word_address page k)
    changed_words page k below small =
        let address : ℕ = word_address page k in
        let p : ℕ = address / 4096 - 0x80000 in
        let at : ℕ = address % 4096 in
        elim (cases_Bool (address == slot_address slot)) [
          | inl same ↦
              let here : address ≡ slot_address slot = eqb-true address (slot_address slot) same in
              let p_is : p ≡ slot.0 = omega arith in
              let at_is : at ≡ slot.1 = omega arith in
              ap (λ n. word_at y.mirror n at) p_is ∙ ap (word_at y.mirror slot.0) at_is ∙ word_now ∙ sym (cond-true _ _ _ same)
          | inr other ↦
              let elsewhere : address ≢ slot_address slot = eqb-false address (slot_address slot) other in
              let apart : (p ≢ slot.0) ⊎ (at ≢ slot.1) = elim (cases_Bool (p == slot.0)) [
                | inl same ↦ let p_is : p ≡ slot.0 = eqb-true p slot.0 same in inr (λ at_is. elsewhere (omega arith))
                | inr differs ↦ inl (eqb-false p slot.0 differs)
              ] in
              other_word p at (omega arith) (omega arith) (omega arith) apart ∙ sym (cond-false _ _ _ other)
        ]

-- ---- tables

-- tables that have the same words stand for the same space
pub same_tables : (tables : ℕ) (words now : ℕ → ℕ) (space : List Mapping) → tables ≤ 512 → ((page k : ℕ) → page < 2 + tables → k < 512 → now (word_address page k) ≡ words (word_address page k))
    → HostTables tables words space → HostTables tables now space
same_tables tables words now space few same stand = record {
  root = λ k small. same 0 k (omega arith) small ∙ stand.root k small;
  middle = λ k small. same 1 k (omega arith) small ∙ stand.middle k small;
  leaves = λ vpn slot is.
      let has = has_slot tables vpn slot is in
      subst (λ (s : ℕ × ℕ). now (slot_address s) ≡ words (slot_address s)) has.1 (same (2 + vpn / 512) (vpn % 512) (omega (arith, has.0)) (omega arith)) ∙ stand.leaves vpn slot is;
  past = stand.past;
}

-- the word of a leaf is that of the space
leaf_is_of : (tables : ℕ) (x : CtlData) (space : List Mapping) (vpn : ℕ) (slot : ℕ × ℕ) → host_slot tables vpn ≡ Some slot → HostTables tables (mirror_words x) space
    → word_in x slot ≡ word_of Super (mapping_at space vpn)
leaf_is_of tables x space vpn slot is stand =
    let has = has_slot tables vpn slot is in
    let first : 2 + vpn / 512 ≡ slot.0 = ap (λ (s : ℕ × ℕ). s.0) has.1 in
    let second : 8 * (vpn % 512) ≡ slot.1 = ap (λ (s : ℕ × ℕ). s.1) has.1 in
    let page_is : slot_address slot / 4096 - 0x80000 ≡ slot.0 = omega arith in
    let at_is : slot_address slot % 4096 ≡ slot.1 = omega arith in
    sym (ap (λ n. word_at x.mirror n (slot_address slot % 4096)) page_is ∙ ap (word_at x.mirror slot.0) at_is) ∙ stand.leaves vpn slot is

-- ---- refusals by the word and by the space

leaf_some : (m : Mapping) → (leaf_word m.page m.perms Super == 0) ≡ false
leaf_some m = grind (arith, nat_tests)

map_refusal_same : (o : Option Mapping) (owners : List Owner) (page word : ℕ) → word ≡ word_of Super o
    → map_refusal owners page word ≡ first_refusal (refuse (is_some o) Mapped ∷ refuse (not (is_host (owner_at owners page))) (NotYours page) ∷ [])
map_refusal_same None owners page word is = ap (map_refusal owners page) is
map_refusal_same (Some m) owners page word is =
    ap (map_refusal owners page) is ∙ ap (λ zero. first_refusal (refuse (not zero) Mapped ∷ refuse (not (is_host (owner_at owners page))) (NotYours page) ∷ [])) (leaf_some m)

unmap_refusal_same : (o : Option Mapping) (word : ℕ) → word ≡ word_of Super o → unmap_refusal word ≡ refuse (not (is_some o)) NotMapped
unmap_refusal_same None word is = ap unmap_refusal is
unmap_refusal_same (Some m) word is = ap unmap_refusal is ∙ ap (λ zero. refuse zero NotMapped) (leaf_some m)

-- a page is mapped only where the address isn't
none_mapped : (o : Option Mapping) (later : List (Option No)) → first_refusal (refuse (is_some o) Mapped ∷ later) ≡ None → o ≡ None
none_mapped None later none = refl
none_mapped (Some m) later none = cc

-- ---- what is left

module _ (walk : HostTablesWalk) (d : List ℕ → List ℕ) {A : Type 0} (tables : ℕ) (few : tables ≤ 32) (x y : CtlData) (guarded : 2 + tables ≤ 64 * x.zones) (space done : List Mapping) (slot : ℕ × ℕ)
    (refusal : ℕ → Option No) (word : ℕ) (value : ℕ → A) (refusal_in : Option No) (stand : HostTables tables (mirror_words x) space) (refusal_is : refusal (word_in x slot) ≡ refusal_in)
    (done_stands : refusal_in ≡ None → WordChanges slot word x y → HostTables tables (mirror_words y) done) where
  still : BothStay x y → HostTables tables (mirror_words y) space
  still stays = same_tables tables (mirror_words x) (mirror_words y) space (omega arith) (λ page k below small. stayed_words x y stays page k (omega arith) small) stand

  happens_by : (o : Outcome (Result A No)) → AnswersBy refusal_in o → HostTables tables (mirror_words y) (if_done o done space) → HappensIn tables refusal_in done space o y
  happens_by o answered stands = record { answers = answered; stand = stands; walks = λ all. walk tables (mirror_words y) (if_done o done space) few all stands }

  -- from what the leaf's word tells
  happens : (o : Outcome (Result A No)) → AccessTells d (places_of slot) (WordTells slot refusal word value x y) x o y → HappensIn tables refusal_in done space o y
  happens (Value (Ok a)) tells = let none : refusal_in ≡ None = sym refusal_is ∙ tells.0 in happens_by (Value (Ok a)) none (done_stands none tells.2)
  happens (Value (Err cause)) tells = happens_by (Value (Err cause)) (sym refusal_is ∙ tells.0) (still tells.1)
  happens (Fault place) tells = happens_by (Fault place) tt (still tells.0)
  happens (Collision place held other) tells = happens_by (Collision place held other) tt (still tells.0)
  happens (Again taken root) tells = absurd tells

user_bit-few : (mode : Mode) → user_bit mode ≤ 16
user_bit-few Super = omega arith
user_bit-few User = omega arith

pub leaf_fits : (page : ℕ) (perms : Perms) (mode : Mode) → page < 2 ^ 32 → IsTrue (are_page_perms perms) → leaf_word page perms mode < 2 ^ 64
leaf_fits page perms mode small allowed =
    let bits : perms.0 ≤ 7 = grind (arith, nat_tests) in
    let user : user_bit mode ≤ 16 = user_bit-few mode in
    elim (cases_Bool (grants perms Store)) [
      | inl stores ↦ let dirty : dirty_bit perms ≡ 128 = cond-true _ _ _ stores in omega arith
      | inr reads ↦ let dirty : dirty_bit perms ≡ 0 = cond-false _ _ _ reads in omega arith
    ]

module _ (walk : HostTablesWalk) (d : List ℕ → List ℕ) (tables : ℕ) (few : tables ≤ 32) (x y : CtlData) (sized : length x.mirror ≡ memory_size x.zones) (guarded : 2 + tables ≤ 64 * x.zones)
    (space : List Mapping) (va : Va) (at : IsSlot tables va) (stand : HostTables tables (mirror_words x) space) where
  abbrev slot : ℕ × ℕ
  slot = leaf_slot tables va

  pub slot_there : slot.0 < 64 * x.zones
  slot_there = let is : slot.0 ≡ 2 + (vpn_of va).0 / 512 = ap (λ (s : ℕ × ℕ). s.0) at.leaf_is in omega (arith, at.vpn_below)

  word_is : word_in x slot ≡ word_of Super (mapping_at space (vpn_of va).0)
  word_is = leaf_is_of tables x space (vpn_of va).0 slot at.slot_is stand

  -- a table with one other word
  with_word_stands : (word : ℕ) (done : List Mapping) → word < 2 ^ 64 → WordChanges slot word x y → HostTables tables (with_word (mirror_words x) (slot_address slot) word) done
      → HostTables tables (mirror_words y) done
  with_word_stands word done fits change stands =
      let offset : slot.1 ≡ 8 * ((vpn_of va).0 % 512) = ap (λ (s : ℕ × ℕ). s.1) at.leaf_is in
      same_tables tables (with_word (mirror_words x) (slot_address slot) word) (mirror_words y) done (omega arith)
      (λ page k below small. changed_words x y slot word sized slot_there (omega arith) (omega arith) fits change page k (omega arith) small) stands

  -- a page is mapped
  pub map_happens : SetsMapping → (owners : List Owner) (page : ℕ) (perms : Perms) → page < 2 ^ 32 → IsTrue (are_page_perms perms) → (o : Outcome (Result (Unit {0}) No))
      → AccessTells d (places_of slot) (WordTells slot (map_refusal owners page) (leaf_word page perms Super) (λ word. tt) x y) x o y
      → HappensIn tables (map_refusal_in space owners va page) (space ++ new_mapping va page perms ∷ []) space o y
  map_happens sets owners page perms small allowed =
      let word : ℕ = leaf_word page perms Super in
      let added : List Mapping = space ++ new_mapping va page perms ∷ [] in
      let found_at : Option Mapping = mapping_at space (vpn_of va).0 in
      happens walk d tables few x y guarded space added slot (map_refusal owners page) word (λ w. tt) (map_refusal_in space owners va page) stand (map_refusal_same found_at owners page (word_in x slot) word_is)
      (λ none change. with_word_stands word added (leaf_fits page perms Super small allowed) change (sets tables (mirror_words x) space (new_mapping va page perms) slot few at.slot_is (none_mapped found_at _ none) stand))

  -- a mapping is removed
  pub unmap_happens : ClearsMapping → (o : Outcome (Result ℕ No)) → AccessTells d (places_of slot) (WordTells slot unmap_refusal 0 page_of_leaf x y) x o y
      → HappensIn tables (unmap_refusal_in space va) (without_vpn space (vpn_of va).0) space o y
  unmap_happens clears =
      let left : List Mapping = without_vpn space (vpn_of va).0 in
      happens walk d tables few x y guarded space left slot unmap_refusal 0 page_of_leaf (unmap_refusal_in space va) stand (unmap_refusal_same (mapping_at space (vpn_of va).0) (word_in x slot) word_is)
      (λ none change. with_word_stands 0 left (lit< tt) change (clears tables (mirror_words x) space (vpn_of va).0 slot few at.slot_is stand))

-- ---- leaves stay those of pages

module _ (d : List ℕ → List ℕ) {A : Type 0} (tables : ℕ) (x y : CtlData) (sized : length x.mirror ≡ memory_size x.zones) (guarded : 2 + tables ≤ 64 * x.zones) (zones : y.zones ≡ x.zones) (va : Va)
    (at : IsSlot tables va) (refusal : ℕ → Option No) (word : ℕ) (value : ℕ → A) (fits : word < 2 ^ 64)
    (leaf : refusal (word_in x (leaf_slot tables va)) ≡ None → (word ≡ 0) ⊎ IsHostLeaf (64 * x.zones) word) (leaves : HaveHostLeaves tables x) where
  pub keeps_leaves : (o : Outcome (Result A No)) → AccessTells d (places_of (leaf_slot tables va)) (WordTells (leaf_slot tables va) refusal word value x y) x o y → HaveHostLeaves tables y
  keeps_leaves (Value (Ok a)) tells =
      let page : (leaf_slot tables va).0 ≡ 2 + (vpn_of va).0 / 512 = ap (λ (s : ℕ × ℕ). s.0) at.leaf_is in
      let offset : (leaf_slot tables va).1 ≡ 8 * ((vpn_of va).0 % 512) = ap (λ (s : ℕ × ℕ). s.1) at.leaf_is in
      changed_leaves x y (leaf_slot tables va) word sized (omega (arith, at.vpn_below)) (omega arith) (omega arith) fits tells.2 tables guarded zones (leaf tells.0) leaves
  keeps_leaves (Value (Err cause)) tells = stayed_leaves x y tables guarded zones tells.1 leaves
  keeps_leaves (Fault place) tells = stayed_leaves x y tables guarded zones tells.0 leaves
  keeps_leaves (Collision place held other) tells = stayed_leaves x y tables guarded zones tells.0 leaves
  keeps_leaves (Again taken root) tells = absurd tells

-- a page that may be mapped is the host's
none_refused : (mapped host : Bool) (page : ℕ) → first_refusal (refuse mapped Mapped ∷ refuse (not host) (NotYours page) ∷ []) ≡ None → host ≡ true
none_refused true host page none = cc
none_refused false true page none = refl
none_refused false false page none = cc

pub new_leaf : (owners : List Owner) (page word pages : ℕ) (perms : Perms) → IsTrue (are_page_perms perms) → (is_host (owner_at owners page) ≡ true → page < pages) → map_refusal owners page word ≡ None
    → (leaf_word page perms Super ≡ 0) ⊎ IsHostLeaf pages (leaf_word page perms Super)
new_leaf owners page word pages perms allowed inside none =
    inr (record { page = page; perms = perms; inside = inside (none_refused (not (word == 0)) (is_host (owner_at owners page)) page none); allowed = allowed; is = refl })

-- ---- the page that a leaf names

named_page : (page : ℕ) (perms : Perms) → page < 2 ^ 32 → IsTrue (are_page_perms perms) → page_of_leaf (leaf_word page perms Super) ≡ page
named_page page perms small allowed = ap (λ n. n - ppn_of_page 0) (ppn_of-leaf page perms Super small allowed) ∙ omega arith

page_found : (o found_at : Option Mapping) (word page : ℕ) → found_at ≡ o → ((m : Mapping) → o ≡ Some m → IsMappable m) → word ≡ word_of Super o → unmap_refusal word ≡ None → page ≡ page_of_leaf word
    → (m : Mapping) × (found_at ≡ Some m) × (m.page ≡ page)
page_found None found_at word page is may word_is none page_is = let refused : unmap_refusal 0 ≡ None = ap unmap_refusal (sym word_is) ∙ none in cc
page_found (Some m) found_at word page is may word_is none page_is =
    let mappable : IsMappable m = may m refl in
    (m, is, sym (page_is ∙ ap page_of_leaf word_is ∙ named_page m.page m.perms mappable.page mappable.perms))

-- what is answered is the page that was mapped
pub unmapped_page : (tables : ℕ) (x : CtlData) (space : List Mapping) (va : Va) (page : ℕ) → IsSlot tables va → All IsMappable space → HostTables tables (mirror_words x) space
    → unmap_refusal (word_in x (leaf_slot tables va)) ≡ None → page ≡ page_of_leaf (word_in x (leaf_slot tables va)) → (m : Mapping) × (mapping_at space (vpn_of va).0 ≡ Some m) × (m.page ≡ page)
unmapped_page tables x space va page at all stand none page_is =
    let n : ℕ = (vpn_of va).0 in
    page_found (mapping_at space n) (mapping_at space n) (word_in x (leaf_slot tables va)) page refl (λ m is. found IsMappable space n m all is)
    (leaf_is_of tables x space n (leaf_slot tables va) at.slot_is stand) none page_is

-- leaves of a space
leaf_inside : (o : Option Mapping) (pages word : ℕ) → ((m : Mapping) → o ≡ Some m → (m.page < pages) × IsTrue (are_page_perms m.perms)) → word ≡ word_of Super o → (word ≡ 0) ⊎ IsHostLeaf pages word
leaf_inside None pages word may is = inl is
leaf_inside (Some m) pages word may is = let leads = may m refl in inr (record { page = m.page; perms = m.perms; inside = leads.0; allowed = leads.1; is = is })

pub spaces_have_leaves : SpacesHaveLeaves
spaces_have_leaves tables x space guarded lead stand vpn slot is =
    leaf_inside (mapping_at space vpn) (64 * x.zones) (word_in x slot)
    (λ m found_m. found (λ (n : Mapping). (n.page < 64 * x.zones) × IsTrue (are_page_perms n.perms)) space vpn m lead found_m) (leaf_is_of tables x space vpn slot is stand)
