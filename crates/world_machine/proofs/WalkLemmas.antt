-- What the walk of an address asks for and learns: a translation that stands, or a walk that stands with one more word of the tables.
use Rattle.std.proofs.Common.{◌≡◌, ◌⊎◌, ℕ, ◌-◌, ◌<◌, Bool, true, false, cond, find, List, [], ◌∷◌, drop, length, Option, Some, None, refl, sym, subst, arith, inl, inr}
use Rattle.std.specs.Prelude.{Result, Ok, Err, nat_lt}
use Rattle.std.specs.List.{All}
use Rattle.std.proofs.lemmas.Bool.{and_parts, cases_Bool, eqb-true}
use Rattle.std.proofs.lemmas.List.Elements.{All-drop, All-push, All-tail}
use Rattle.pl_base.specs.Address.{vpn_of}
use Rattle.pl_base.specs.Perms.{grants}
use Rattle.pl_base.specs.declared.access.Kind.{Kind}
use Rattle.pl_base.specs.declared.address.Pa.{Pa}
use Rattle.pl_base.specs.declared.address.Ppn.{Ppn}
use Rattle.pl_base.specs.declared.address.Va.{Va}
use Rattle.pl_base.specs.declared.perms.Perms.{Perms}
use Rattle.rv_hart.specs.declared.seeking.Sought.{Sought}
use Rattle.rv_hart.specs.declared.seeking.Sought.TheVariants.{Table, At, PageFault}
use Rattle.rv_hart.specs.declared.walks.PageFault.{PageFault as NoPage}
use Rattle.rv_hart.specs.declared.walks.View.{View}
use Rattle.rv_hart.specs.declared.walks.Walk.{Walk}
use Rattle.rv_hart.specs.declared.walks.Walk.TheVariants.{Start, Level, Found}
use Rattle.rv_hart.specs.Learning.{learned, learned_by, step_of, tlb_after, tlb_by}
use Rattle.rv_hart.specs.Seeking.{address_in, sought, sought_at, sought_by, sought_table}
use Rattle.rv_hart.specs.Translation.{HasLearned, StandsAt}
use Rattle.rv_hart.specs.Walks.{level_of}
use Rattle.rv_hart.proofs.Translating.{asks_where_it_stands, learns_the_walk}
use Rattle.rv_sv39.specs.Canonical.{is_canonical}
use Rattle.rv_sv39.specs.Step.{FitsAccess}
use Rattle.rv_sv39.specs.Walk.{Answer, Walks, entry_address, table_at}
use Rattle.rv_sv39.specs.declared.walk.Walked.{Walked}
use Rattle.rv_sv39.specs.declared.walk.Walked.TheVariants as walked
use Rattle.rv_sv39.proofs.Walking.{steps_fit, steps_say, walks_once}
use Rattle.rv_tlb.specs.Tlb.{is_of, with_entry}
use Rattle.rv_tlb.specs.declared.tlb.TlbEntry.{TlbEntry}
use Rattle.mem_ctl.specs.Data.{CtlData}
use Rattle.mon_host.specs.Laws.{mirror_words}
use Rattle.world_machine.specs.Runs.{words_read}
use Rattle.world_machine.specs.TranslationsAgree.{WalkStands}

-- the translation of an address in a view
abbrev pub translation_of : View → Va → Ppn → Perms → TlbEntry
translation_of view va ppn perms = record { space = view.space; vpn = vpn_of va; ppn = ppn; perms = perms }

-- a first element that passes does so, and what holds of each holds of it
pub found : {A : Type 0} (P : A → Type 0) (test : A → Bool) (xs : List A) (x : A) → All P xs → find test xs ≡ Some x → P x × (test x ≡ true)
found P test [] x all is = cc
found P test (y ∷ ys) x all is = elim (cases_Bool (test y)) [
  | inl passes ↦ (
      let here : Some y ≡ Some x = rw passes at is in
      let e : y ≡ x = cc in
      subst (λ z. P z × (test z ≡ true)) e (all 0 y (omega arith), passes)
      )
  | inr fails ↦ found P test ys x (All-tail P y ys all) (rw fails at is)
]

-- ---- what is asked for

-- an access goes by a translation that stands and permits it
pub record Reaches (Fresh : TlbEntry → Type 0) (view : View) (va : Va) (kind : Kind) (pa : Pa) : Type 0 where
  pub canonical : is_canonical va.0 ≡ true
  pub ppn : Ppn
  pub perms : Perms
  pub fresh : Fresh (translation_of view va ppn perms)
  pub permits : grants perms kind ≡ true
  pub is : pa ≡ address_in ppn va

-- or the translation that stands doesn't permit it
pub record Forbids (Fresh : TlbEntry → Type 0) (view : View) (va : Va) (kind : Kind) : Type 0 where
  pub canonical : is_canonical va.0 ≡ true
  pub ppn : Ppn
  pub perms : Perms
  pub fresh : Fresh (translation_of view va ppn perms)
  pub forbids : grants perms kind ≡ false

module _ (ctl : CtlData) (Fresh : TlbEntry → Type 0) (view : View) (va : Va) (kind : Kind) (walk : Walk) (entries : List TlbEntry)
    (stands : WalkStands ctl Fresh view va walk) (all : All Fresh entries) where
  abbrev entry : Option TlbEntry
  entry = find (is_of view.space (vpn_of va)) entries

  -- the TLB's translation of the page
  entry_fresh : (e : TlbEntry) → entry ≡ Some e → Fresh (translation_of view va e.ppn e.perms)
  entry_fresh e is =
      let here = found Fresh (is_of view.space (vpn_of va)) entries e all is in
      let both = and_parts _ _ here.1 in
      let space_is : e.space.0 ≡ view.space.0 = eqb-true e.space.0 view.space.0 both.0 in
      let vpn_is : e.vpn.0 ≡ (vpn_of va).0 = eqb-true e.vpn.0 (vpn_of va).0 both.1 in
      let same : e ≡ translation_of view va e.ppn e.perms = λ i. record { space = record { 0 = space_is i }; vpn = record { 0 = vpn_is i }; ppn = e.ppn; perms = e.perms } in
      subst Fresh same here.0

  module _ (canonical : is_canonical va.0 ≡ true) where
    -- through a translation
    through_reaches : (ppn : Ppn) (perms : Perms) (pa : Pa) (g : Bool) → Fresh (translation_of view va ppn perms) → grants perms kind ≡ g
        → cond g (At (address_in ppn va)) PageFault ≡ At pa → Reaches Fresh view va kind pa
    through_reaches ppn perms pa true fresh may asks =
        record { canonical = canonical; ppn = ppn; perms = perms; fresh = fresh; permits = may; is = (let same : address_in ppn va ≡ pa = cc in sym same) }
    through_reaches ppn perms pa false fresh may asks = cc

    through_forbids : (ppn : Ppn) (perms : Perms) (g : Bool) → Fresh (translation_of view va ppn perms) → grants perms kind ≡ g
        → cond g (At (address_in ppn va)) PageFault ≡ PageFault → Forbids Fresh view va kind
    through_forbids ppn perms true fresh may asks = cc
    through_forbids ppn perms false fresh may asks = record { canonical = canonical; ppn = ppn; perms = perms; fresh = fresh; forbids = may }

    -- by the TLB
    entry_reaches : (o : Option TlbEntry) (level : ℕ) (table : Ppn) (pa : Pa) → entry ≡ o → sought_by o va kind (sought_table level table va) ≡ At pa → Reaches Fresh view va kind pa
    entry_reaches None level table pa is asks = cc
    entry_reaches (Some e) level table pa is asks = through_reaches e.ppn e.perms pa (grants e.perms kind) (entry_fresh e is) refl asks

    entry_forbids : (o : Option TlbEntry) (level : ℕ) (table : Ppn) → entry ≡ o → sought_by o va kind (sought_table level table va) ≡ PageFault → Forbids Fresh view va kind
    entry_forbids None level table is asks = cc
    entry_forbids (Some e) level table is asks = through_forbids e.ppn e.perms (grants e.perms kind) (entry_fresh e is) refl asks

    -- by where the walk stands
    walk_reaches : (at : Walk) (pa : Pa) → WalkStands ctl Fresh view va at → sought_at at entry va kind view ≡ At pa → Reaches Fresh view va kind pa
    walk_reaches Start pa fresh asks = entry_reaches entry 2 view.root pa refl asks
    walk_reaches (Level level table) pa fresh asks = entry_reaches entry level table pa refl asks
    walk_reaches (Found ppn perms) pa fresh asks = through_reaches ppn perms pa (grants perms kind) fresh refl asks

    walk_forbids : (at : Walk) → WalkStands ctl Fresh view va at → sought_at at entry va kind view ≡ PageFault → Forbids Fresh view va kind
    walk_forbids Start fresh asks = entry_forbids entry 2 view.root refl asks
    walk_forbids (Level level table) fresh asks = entry_forbids entry level table refl asks
    walk_forbids (Found ppn perms) fresh asks = through_forbids ppn perms (grants perms kind) fresh refl asks

  by_reaches : (c : Bool) (pa : Pa) → is_canonical va.0 ≡ c → cond c (sought_at walk entry va kind view) PageFault ≡ At pa → Reaches Fresh view va kind pa
  by_reaches true pa is asks = walk_reaches is walk pa stands asks
  by_reaches false pa is asks = cc

  -- the access is made through a translation that stands
  pub reached_by : (pa : Pa) → sought walk va kind entries view ≡ At pa → Reaches Fresh view va kind pa
  reached_by pa asks = by_reaches (is_canonical va.0) pa refl asks

  by_forbids : (c : Bool) → is_canonical va.0 ≡ c → cond c (sought_at walk entry va kind view) PageFault ≡ PageFault → (is_canonical va.0 ≡ false) ⊎ Forbids Fresh view va kind
  by_forbids true is asks = inr (walk_forbids is walk stands asks)
  by_forbids false is asks = inl is

  -- or the address isn't one that has a page, or the translation doesn't permit the access
  pub forbidden_by : sought walk va kind entries view ≡ PageFault → (is_canonical va.0 ≡ false) ⊎ Forbids Fresh view va kind
  forbidden_by asks = by_forbids (is_canonical va.0) refl asks

-- ---- a table is asked for

found_asks : (t g : Bool) (at pa : Pa) (level : ℕ) → cond t (cond g (At at) PageFault) PageFault ≡ Table pa level → ⊥
found_asks false g at pa level is = cc
found_asks true false at pa level is = cc
found_asks true true at pa level is = cc

module _ (view : View) (va : Va) (kind : Kind) (entries : List TlbEntry) (pa : Pa) (level : ℕ) where
  -- by a walk that isn't at its end
  pub asked_unfound : (ppn : Ppn) (perms : Perms) → sought (Found ppn perms) va kind entries view ≡ Table pa level → ⊥
  asked_unfound ppn perms asks = found_asks (is_canonical va.0) (grants perms kind) (address_in ppn va) pa level asks

  -- at a canonical address
  canonical_by : (t : Bool) (x : Sought) → is_canonical va.0 ≡ t → cond t x PageFault ≡ Table pa level → is_canonical va.0 ≡ true
  canonical_by true x is asks = is
  canonical_by false x is asks = cc

  pub asked_canonical : (walk : Walk) → sought walk va kind entries view ≡ Table pa level → is_canonical va.0 ≡ true
  asked_canonical walk asks = canonical_by (is_canonical va.0) (sought_at walk (find (is_of view.space (vpn_of va)) entries) va kind view) refl asks

  asked_stands : (ctl : CtlData) (Fresh : TlbEntry → Type 0) (walk : Walk) → WalkStands ctl Fresh view va walk → sought walk va kind entries view ≡ Table pa level
      → StandsAt (mirror_words ctl) view va kind walk
  asked_stands ctl Fresh Start stands asks = tt
  asked_stands ctl Fresh (Level at table) stands asks = stands.1
  asked_stands ctl Fresh (Found ppn perms) stands asks = absurd (asked_unfound ppn perms asks)

  -- it is the one at which the words let the walk stand
  pub asks_where : (ctl : CtlData) (Fresh : TlbEntry → Type 0) (walk : Walk) → WalkStands ctl Fresh view va walk → sought walk va kind entries view ≡ Table pa level
      → (table : ℕ) × (table_at (mirror_words ctl) view.root (vpn_of va) level ≡ Some table) × (pa.0 ≡ entry_address (vpn_of va) level table)
  asks_where ctl Fresh walk stands asks = asks_where_it_stands (mirror_words ctl) view va kind walk entries pa level (asked_stands ctl Fresh walk stands asks) asks

-- ---- what is learned

level_few : (ctl : CtlData) (Fresh : TlbEntry → Type 0) (view : View) (va : Va) (walk : Walk) → WalkStands ctl Fresh view va walk → level_of walk < 3
level_few ctl Fresh view va Start stands = omega arith
level_few ctl Fresh view va (Level level table) stands = (let low = stands.0 in omega (arith, low))
level_few ctl Fresh view va (Found ppn perms) stands = omega arith

-- more words are read
step_more : (level : ℕ) (kind : Kind) (x : Walked) (walk : Walk) → level < 3 → FitsAccess level kind x → learned_by level x ≡ Ok walk → 2 - level < words_read walk
step_more level kind (walked.Next ppn) walk few fits is =
    let same : Level (level - 1) ppn ≡ walk = cc in
    subst (λ w. 2 - level < words_read w) same (let above : 0 < level = fits in omega (arith, above, few))
step_more level kind (walked.Leaf ppn perms) walk few fits is =
    let same : Found ppn perms ≡ walk = cc in
    subst (λ w. 2 - level < words_read w) same (omega arith)
step_more level kind walked.PageFault walk few fits is = cc

-- a walk that learns has read more words of tables
pub reads_more : (ctl : CtlData) (Fresh : TlbEntry → Type 0) (view : View) (va : Va) (kind : Kind) (walk now : Walk) (entries : List TlbEntry) (pa : Pa) (level word : ℕ)
    → WalkStands ctl Fresh view va walk → sought walk va kind entries view ≡ Table pa level → learned walk word va kind view ≡ Ok now → words_read walk < words_read now
reads_more ctl Fresh view va kind Start now entries pa level word stands asks is =
    step_more 2 kind (step_of Start word va kind view) now (omega arith) (steps_fit 2 word (vpn_of va) kind view.mode) is
reads_more ctl Fresh view va kind (Level at table) now entries pa level word stands asks is =
    let low = stands.0 in
    step_more at kind (step_of (Level at table) word va kind view) now (omega (arith, low)) (steps_fit at word (vpn_of va) kind view.mode) is
reads_more ctl Fresh view va kind (Found ppn perms) now entries pa level word stands asks is = absurd (asked_unfound view va kind entries pa level ppn perms asks)

-- one more translation in a TLB
pub entry_joins : (Fresh : TlbEntry → Type 0) (entries : List TlbEntry) (entry : TlbEntry) → All Fresh entries → Fresh entry → All Fresh (with_entry entries entry)
entry_joins Fresh entries entry all fresh = All-push Fresh _ entry (by_room (nat_lt (length entries) 16)) fresh
  where
    by_room : (t : Bool) → All Fresh (cond t entries (drop 1 entries))
    by_room true = all
    by_room false = All-drop Fresh 1 entries all

module _ (ctl : CtlData) (Fresh : TlbEntry → Type 0) (view : View) (va : Va) (kind : Kind) (walk : Walk) (entries : List TlbEntry) (pa : Pa) (level : ℕ)
    (stands : WalkStands ctl Fresh view va walk) (asks : sought walk va kind entries view ≡ Table pa level) (answer : Answer)
    (walks : Walks (mirror_words ctl) view.root (vpn_of va) view.mode kind answer)
    (fresh : (ppn : Ppn) (perms : Perms) → answer ≡ Some (ppn, perms) → Fresh (translation_of view va ppn perms)) where
  abbrev words : ℕ → ℕ
  words = mirror_words ctl

  abbrev word : ℕ
  word = words pa.0

  abbrev now : Walked
  now = step_of walk word va kind view

  -- the walk stands again, or the tables have no page for the access
  abbrev pub LearnsSo : Result Walk NoPage → Type 0
  LearnsSo (Ok more) = WalkStands ctl Fresh view va more
  LearnsSo (Err none) = answer ≡ None

  has_learned : HasLearned words view va kind (learned walk word va kind view)
  has_learned =
      learns_the_walk (λ at root vpn mode access. steps_say at vpn mode access root) words view va kind walk entries pa level
      (asked_stands view va kind entries pa level ctl Fresh walk stands asks) asks

  -- a leaf is the answer of the page walk
  leaf_fresh : (ppn : Ppn) (perms : Perms) → Walks words view.root (vpn_of va) view.mode kind (Some (ppn, perms)) → Fresh (translation_of view va ppn perms)
  leaf_fresh ppn perms is = fresh ppn perms (walks_once words (vpn_of va) view.mode kind 2 view.root.0 answer (Some (ppn, perms)) walks is)

  by_step : (at : ℕ) (x : Walked) → at < 3 → FitsAccess at kind x → HasLearned words view va kind (learned_by at x) → LearnsSo (learned_by at x)
  by_step at (walked.Next ppn) few fits has = (let above : 0 < at = fits in omega (arith, above, few), has)
  by_step at (walked.Leaf ppn perms) few fits has = leaf_fresh ppn perms has
  by_step at walked.PageFault few fits has = walks_once words (vpn_of va) view.mode kind 2 view.root.0 answer None walks has

  pub learns_so : LearnsSo (learned walk word va kind view)
  learns_so = by_step (level_of walk) now (level_few ctl Fresh view va walk stands) (steps_fit (level_of walk) word (vpn_of va) kind view.mode) has_learned

  tlb_by_step : (at : ℕ) (x : Walked) (older : List TlbEntry) → HasLearned words view va kind (learned_by at x) → All Fresh older → All Fresh (tlb_by older va view x)
  tlb_by_step at (walked.Next ppn) older has all = all
  tlb_by_step at (walked.Leaf ppn perms) older has all = entry_joins Fresh older (translation_of view va ppn perms) all (leaf_fresh ppn perms has)
  tlb_by_step at walked.PageFault older has all = all

  -- all translations of the TLB stand
  pub tlb_stands : (older : List TlbEntry) → All Fresh older → All Fresh (tlb_after walk word va kind view older)
  tlb_stands older all = tlb_by_step (level_of walk) now older has_learned all
