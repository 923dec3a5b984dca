-- The host's mappings and those that it is removing stand at addresses of their own, which its tables have words for.
use Rattle.std.proofs.Common.{◌≡◌, ℕ, ◌+◌, ◌*◌, ◌%◌, ◌<◌, ◌≤◌, ◌==◌, Bool, true, false, not, is_some, cond, List, [], ◌∷◌, ◌++◌, length, length-append, map, filter, count_by, find, Option, Some, None, option_map, refl, sym, ap, ◌∙◌, subst, arith}
use Rattle.std.specs.Prelude.{nat_lt}
use Rattle.std.specs.List.{All}
use Rattle.std.proofs.lemmas.Bool.{and_parts, eqb-true, false≢true, ltb-true}
use Rattle.std.proofs.lemmas.Bool.Decides.{nat_tests}
use Rattle.std.proofs.lemmas.List.{length-map}
use Rattle.std.proofs.lemmas.List.Elements.{All-append, All-filter, All-map, All-nil, All-push, filter_passes}
use Rattle.std.proofs.lemmas.List.Sums.{count_by-le-length, sum_by-append, sum_by-cons}
use Rattle.pl_base.specs.Address.{vpn_of}
use Rattle.pl_base.specs.Refusals.{refuse}
use Rattle.pl_base.specs.declared.address.Va.{Va}
use Rattle.pl_base.specs.declared.perms.Perms.{Perms}
use Rattle.pl_base.specs.declared.refusal.No.{No}
use Rattle.pl_base.specs.declared.refusal.No.TheVariants as refused
use Rattle.mon_tables.specs.Space.{Mapping, mapping_at, without_vpn}
use Rattle.mon_tables.specs.Tables.{can_be_mapped}
use Rattle.pl_history.specs.declared.answer.Answer.{Answer}
use Rattle.pl_history.specs.declared.answer.Answer.TheVariants as answer_is
use Rattle.pl_history.specs.declared.answer.Entry.{Entry}
use Rattle.pl_history.specs.declared.line.Line.{Line}
use Rattle.pl_history.specs.declared.line.Line.TheVariants as line_is
use Rattle.pl_history.specs.declared.setup.SetupParts.{SetupParts}
use Rattle.pl_history.specs.Answering.{change_by}
use Rattle.pl_history.specs.Attacking.{Placed, written}
use Rattle.pl_history.specs.HostAccess.{mapping_used, store_to}
use Rattle.pl_history.specs.HostMappings.{LegalMappings, MappingsStand}
use Rattle.pl_history.specs.HostMaps.{map_refusal, removing_of}
use Rattle.pl_history.specs.Legal.{AllAllowed, AllowedAnswer, changes, state_after}
use Rattle.pl_history.specs.Monitor.{Monitor, Removal, is_host, opening, removed_at}
use Rattle.pl_history.proofs.HistoryLemmas.{holds_after, unchanged_holds}
use Rattle.pl_history.proofs.Elements.{each_counted, few_distinct, filter_counted, found, none_counted, unfound_counted, weaker}
use Rattle.pl_history.proofs.Refusals.{first_none, refuse_none}

not_some : {A : Type 0} (o : Option A) (cause : No) → refuse (is_some o) cause ≡ None → o ≡ None
not_some None cause is = refl
not_some (Some x) cause is = cc

unmapped : (o : Option Removal) → option_map (λ (r : Removal). r.mapping) o ≡ None → o ≡ None
unmapped None is = refl
unmapped (Some r) is = cc

-- an address that can be mapped has its word
vpn_inside : (setup : SetupParts) (va : Va) → can_be_mapped setup.tables va ≡ true → (vpn_of va).0 < 512 * setup.tables
vpn_inside setup va can =
    let below : va.0 < 4096 * 512 * setup.tables = ltb-true va.0 (4096 * 512 * setup.tables) (and_parts (va.0 % 4096 == 0) (nat_lt va.0 (4096 * 512 * setup.tables)) can).1 in
    omega arith

pub counts_one : (b : Bool) → b ≡ true → cond {A = ℕ} b 1 0 ≡ 1
counts_one true is = refl
counts_one false is = absurd (false≢true is)

pub counts_none : (b : Bool) → b ≡ false → cond {A = ℕ} b 1 0 ≡ 0
counts_none true is = cc
counts_none false is = refl

-- one more element, at the end, is counted
pub pushed : {A : Type 0} (test : A → Bool) (xs : List A) (x : A) → count_by test (xs ++ x ∷ []) ≡ count_by test xs + cond (test x) 1 0
pushed test xs x =
    let one : count_by test (x ∷ []) ≡ cond (test x) 1 0 + count_by test [] = sum_by-cons (λ y. cond (test y) 1 0) x [] in
    let all : count_by test (xs ++ x ∷ []) ≡ count_by test xs + count_by test (x ∷ []) = sum_by-append (λ y. cond (test y) 1 0) xs (x ∷ []) in
    let none : count_by test [] ≡ 0 = refl in
    omega arith

module _ (tables : ℕ) (space : List Mapping) (removals : List Removal) (k : MappingsStand tables space removals) where
  abbrev in_space : ℕ → ℕ
  in_space vpn = count_by (λ (m : Mapping). m.vpn == vpn) space

  abbrev in_removals : ℕ → ℕ
  in_removals vpn = count_by (λ (r : Removal). r.mapping.vpn == vpn) removals

  map_stands : (m : Mapping) → m.vpn < 512 * tables → in_space m.vpn ≡ 0 → in_removals m.vpn ≡ 0 → MappingsStand tables (space ++ m ∷ []) removals
  map_stands m inside free closed = record {
    once = λ vpn. at vpn (m.vpn == vpn) refl;
    mapped = All-push (λ (x : Mapping). x.vpn < 512 * tables) space m k.mapped inside;
    removed = k.removed;
  }
    where
      at : (vpn : ℕ) (b : Bool) → (m.vpn == vpn) ≡ b → count_by (λ (x : Mapping). x.vpn == vpn) (space ++ m ∷ []) + in_removals vpn ≤ 1
      at vpn true is =
          let same : m.vpn ≡ vpn = eqb-true m.vpn vpn is in
          let more : count_by (λ (x : Mapping). x.vpn == vpn) (space ++ m ∷ []) ≡ in_space vpn + cond (m.vpn == vpn) 1 0 = pushed (λ (x : Mapping). x.vpn == vpn) space m in
          let one = counts_one (m.vpn == vpn) is in
          let none : in_space vpn ≡ 0 = subst (λ v. in_space v ≡ 0) same free in
          let none_open : in_removals vpn ≡ 0 = subst (λ v. in_removals v ≡ 0) same closed in
          omega arith
      at vpn false is =
          let more : count_by (λ (x : Mapping). x.vpn == vpn) (space ++ m ∷ []) ≡ in_space vpn + cond (m.vpn == vpn) 1 0 = pushed (λ (x : Mapping). x.vpn == vpn) space m in
          let one = counts_none (m.vpn == vpn) is in
          let old : in_space vpn + in_removals vpn ≤ 1 = k.once vpn in
          omega arith

  removing_stands : (hart : ℕ) (m : Mapping) → 1 ≤ in_space m.vpn → m.vpn < 512 * tables → MappingsStand tables (without_vpn space m.vpn) (removals ++ record { hart = hart; mapping = m } ∷ [])
  removing_stands hart m there inside = record {
    once = λ vpn. at vpn (m.vpn == vpn) refl;
    mapped = All-filter (λ (x : Mapping). not (x.vpn == m.vpn)) (λ (x : Mapping). x.vpn < 512 * tables) space k.mapped;
    removed = All-push (λ (r : Removal). r.mapping.vpn < 512 * tables) removals (record { hart = hart; mapping = m }) k.removed inside;
  }
    where
      at : (vpn : ℕ) (b : Bool) → (m.vpn == vpn) ≡ b
          → count_by (λ (x : Mapping). x.vpn == vpn) (without_vpn space m.vpn) + count_by (λ (r : Removal). r.mapping.vpn == vpn) (removals ++ record { hart = hart; mapping = m } ∷ []) ≤ 1
      at vpn true is =
          let same : m.vpn ≡ vpn = eqb-true m.vpn vpn is in
          let gone : count_by (λ (x : Mapping). x.vpn == vpn) (without_vpn space m.vpn) ≡ 0 = subst (λ v. count_by (λ (x : Mapping). x.vpn == v) (without_vpn space m.vpn) ≡ 0) same (none_left space) in
          let more : count_by (λ (r : Removal). r.mapping.vpn == vpn) (removals ++ record { hart = hart; mapping = m } ∷ []) ≡ in_removals vpn + cond (m.vpn == vpn) 1 0
          = pushed (λ (r : Removal). r.mapping.vpn == vpn) removals (record { hart = hart; mapping = m }) in
          let one = counts_one (m.vpn == vpn) is in
          let some : 1 ≤ in_space vpn = subst (λ v. 1 ≤ in_space v) same there in
          let old : in_space vpn + in_removals vpn ≤ 1 = k.once vpn in
          omega arith
        where
          fails : (x v : ℕ) → not (x == v) ≡ true → (x == v) ≡ false
          fails x v is = grind (arith, nat_tests)

          none_left : (xs : List Mapping) → count_by (λ (x : Mapping). x.vpn == m.vpn) (without_vpn xs m.vpn) ≡ 0
          none_left xs = none_counted (λ (x : Mapping). x.vpn == m.vpn) (without_vpn xs m.vpn)
              (weaker (λ (x : Mapping). not (x.vpn == m.vpn) ≡ true) (λ (x : Mapping). (x.vpn == m.vpn) ≡ false) (without_vpn xs m.vpn) (λ x is. fails x.vpn m.vpn is)
              (filter_passes (λ (x : Mapping). not (x.vpn == m.vpn)) xs))
      at vpn false is =
          let fewer : count_by (λ (x : Mapping). x.vpn == vpn) (without_vpn space m.vpn) ≤ in_space vpn = filter_counted (λ (x : Mapping). x.vpn == vpn) (λ (x : Mapping). not (x.vpn == m.vpn)) space in
          let more : count_by (λ (r : Removal). r.mapping.vpn == vpn) (removals ++ record { hart = hart; mapping = m } ∷ []) ≡ in_removals vpn + cond (m.vpn == vpn) 1 0
          = pushed (λ (r : Removal). r.mapping.vpn == vpn) removals (record { hart = hart; mapping = m }) in
          let one = counts_none (m.vpn == vpn) is in
          let old : in_space vpn + in_removals vpn ≤ 1 = k.once vpn in
          omega arith

  removed_stands : (hart : ℕ) → MappingsStand tables space (filter (λ (r : Removal). not (r.hart == hart)) removals)
  removed_stands hart = record {
    once = λ vpn.
        let fewer : count_by (λ (r : Removal). r.mapping.vpn == vpn) (filter (λ (r : Removal). not (r.hart == hart)) removals) ≤ in_removals vpn = filter_counted (λ (r : Removal). r.mapping.vpn == vpn) (λ (r : Removal). not (r.hart == hart)) removals in
        let old : in_space vpn + in_removals vpn ≤ 1 = k.once vpn in
        omega arith;
    mapped = k.mapped;
    removed = All-filter (λ (r : Removal). not (r.hart == hart)) (λ (r : Removal). r.mapping.vpn < 512 * tables) removals k.removed;
  }

-- ---- each line

-- what of a state it is about
abbrev Stand : SetupParts → Monitor → Type 0
Stand setup s = MappingsStand setup.tables s.space s.removals

map_allowed : (setup : SetupParts) (s : Monitor) (va : Va) (page : ℕ) (perms : Perms) → Stand setup s → map_refusal setup s va page ≡ None
    → MappingsStand setup.tables (s.space ++ record { vpn = (vpn_of va).0; page = page; perms = perms } ∷ []) s.removals
map_allowed setup s va page perms k is =
    let fourth : Option No = refuse (not (is_host (s.owner page))) (refused.NotYours page) in
    let third : Option No = refuse (is_some (mapping_at s.space (vpn_of va).0)) refused.Mapped in
    let second : Option No = refuse (is_some (removed_at s.removals (vpn_of va).0)) refused.Busy in
    let one = first_none (refuse (not (can_be_mapped setup.tables va)) refused.BadAddress) (second ∷ third ∷ fourth ∷ []) is in
    let two = first_none second (third ∷ fourth ∷ []) one.1 in
    let three = first_none third (fourth ∷ []) two.1 in
    let free : count_by (λ (m : Mapping). m.vpn == (vpn_of va).0) s.space ≡ 0
    = unfound_counted (λ (m : Mapping). m.vpn == (vpn_of va).0) s.space (not_some (mapping_at s.space (vpn_of va).0) refused.Mapped three.0) in
    let closed : count_by (λ (r : Removal). r.mapping.vpn == (vpn_of va).0) s.removals ≡ 0
    = unfound_counted (λ (r : Removal). r.mapping.vpn == (vpn_of va).0) s.removals (unmapped (find (λ (r : Removal). r.mapping.vpn == (vpn_of va).0) s.removals) (not_some (removed_at s.removals (vpn_of va).0) refused.Busy two.0)) in
    map_stands setup.tables s.space s.removals k (record { vpn = (vpn_of va).0; page = page; perms = perms }) (vpn_inside setup va (refuse_none (can_be_mapped setup.tables va) refused.BadAddress one.0)) free closed

removing_allowed : (setup : SetupParts) (s : Monitor) (hart vpn : ℕ) (m : Option Mapping) → Stand setup s → mapping_at s.space vpn ≡ m → Stand setup (removing_of s hart m)
removing_allowed setup s hart vpn None k is = k
removing_allowed setup s hart vpn (Some m) k is =
    let counted : 1 ≤ count_by (λ (x : Mapping). x.vpn == m.vpn) s.space
    = found (λ (x : Mapping). 1 ≤ count_by (λ (y : Mapping). y.vpn == x.vpn) s.space) (λ (x : Mapping). x.vpn == vpn) s.space m (each_counted (λ (x : Mapping). x.vpn) s.space) is in
    removing_stands setup.tables s.space s.removals k hart m counted (found (λ (x : Mapping). x.vpn < 512 * setup.tables) (λ (x : Mapping). x.vpn == vpn) s.space m k.mapped is)

stored_stands : (setup : SetupParts) (s : Monitor) (va : Va) (word : ℕ) (m : Option Mapping) → Stand setup s → Stand setup (store_to s va word m)
stored_stands setup s va word None k = k
stored_stands setup s va word (Some m) k = k

line_stands : (setup : SetupParts) (s : Monitor) (hart : ℕ) (line : Line) (begun : Bool) (now : Answer) → Stand setup s → AllowedAnswer setup s line begun now → Stand setup (change_by (changes s hart line begun) now)
line_stands setup s hart (line_is.Load va) begun now k allowed = unchanged_holds (Stand setup) s now k
line_stands setup s hart (line_is.After actor count) begun now k allowed = unchanged_holds (Stand setup) s now k
line_stands setup s hart (line_is.Store va word) begun answer_is.Ok k allowed = stored_stands setup s va word (mapping_used (mapping_at s.space (vpn_of va).0) (removed_at s.removals (vpn_of va).0)) k
line_stands setup s hart (line_is.Map va page perms) true answer_is.Ok k allowed = absurd allowed
line_stands setup s hart (line_is.Map va page perms) false answer_is.Ok k allowed = map_allowed setup s va page perms k allowed.0
line_stands setup s hart (line_is.Unmap va) begun answer_is.Begun k allowed = removing_allowed setup s hart (vpn_of va).0 (mapping_at s.space (vpn_of va).0) k refl
line_stands setup s hart (line_is.Unmap va) begun answer_is.Ok k allowed = removed_stands setup.tables s.space s.removals k hart
line_stands setup s hart (line_is.Create e image pages) begun answer_is.Begun k allowed = k
line_stands setup s hart (line_is.Create e image pages) true (answer_is.No cause) k allowed = k
line_stands setup s hart (line_is.Shadow e image pages) begun answer_is.Begun k allowed = k
line_stands setup s hart (line_is.Shadow e image pages) true (answer_is.No cause) k allowed = k
line_stands setup s hart (line_is.Fork shadow e pages) begun answer_is.Begun k allowed = k
line_stands setup s hart (line_is.Fork shadow e pages) true (answer_is.No cause) k allowed = k
line_stands setup s hart (line_is.Grant e page) begun answer_is.Begun k allowed = k
line_stands setup s hart (line_is.Run e budget) begun answer_is.Begun k allowed = k
line_stands setup s hart (line_is.Resume e budget) begun answer_is.Begun k allowed = k
line_stands setup s hart (line_is.Send e word) begun answer_is.Begun k allowed = k
line_stands setup s hart (line_is.Take e) begun answer_is.Begun k allowed = k
line_stands setup s hart (line_is.Destroy e) begun answer_is.Begun k allowed = k
line_stands setup s hart (line_is.Drop e) begun answer_is.Begun k allowed = k
line_stands setup s hart line begun now k allowed = k

written_stands : (setup : SetupParts) (s : Monitor) (now : Placed) (changed : Bool) → Stand setup s → Stand setup (written s now changed)
written_stands setup s now true k = k
written_stands setup s now false k = k

-- ---- whole histories

opening_stands : (setup : SetupParts) → Stand setup (opening setup)
unfolding opening
opening_stands setup = record { once = λ vpn. (let none : count_by (λ (m : Mapping). m.vpn == vpn) [] + count_by (λ (r : Removal). r.mapping.vpn == vpn) [] ≡ 0 = refl in omega arith); mapped = All-nil (λ (m : Mapping). m.vpn < 512 * setup.tables); removed = All-nil (λ (r : Removal). r.mapping.vpn < 512 * setup.tables) }

legal_stand : (setup : SetupParts) (bytes : List ℕ) (entries : List Entry) → AllAllowed setup bytes (opening setup) [] entries → Stand setup (state_after setup bytes (opening setup) entries)
legal_stand setup bytes entries legal = holds_after setup bytes (Stand setup) (λ s actor now k. k) (written_stands setup) (line_stands setup) (opening setup) [] entries (opening_stands setup) legal

-- the addresses of both are distinct, and below the number of words
counted_by : {A : Type 0} (vpn_at : A → ℕ) (v : ℕ) (xs : List A) → count_by (λ x. x == v) (map vpn_at xs) ≡ count_by (λ x. vpn_at x == v) xs
counted_by vpn_at v [] = refl
counted_by vpn_at v (y ∷ ys) =
    let whole : count_by (λ x. x == v) (map vpn_at (y ∷ ys)) ≡ cond {A = ℕ} (vpn_at y == v) 1 0 + count_by (λ x. x == v) (map vpn_at ys) = sum_by-cons (λ x. cond (x == v) 1 0) (vpn_at y) (map vpn_at ys) in
    let other : count_by (λ x. vpn_at x == v) (y ∷ ys) ≡ cond {A = ℕ} (vpn_at y == v) 1 0 + count_by (λ x. vpn_at x == v) ys = sum_by-cons (λ x. cond (vpn_at x == v) 1 0) y ys in
    whole ∙ ap (λ n. cond {A = ℕ} (vpn_at y == v) 1 0 + n) (counted_by vpn_at v ys) ∙ sym other

few_mappings : (tables : ℕ) (space : List Mapping) (removals : List Removal) → MappingsStand tables space removals → length space + length removals ≤ 512 * tables
few_mappings tables space removals k =
    let of_space : List ℕ = map (λ (m : Mapping). m.vpn) space in
    let of_removals : List ℕ = map (λ (r : Removal). r.mapping.vpn) removals in
    let below : All (λ x. x < 512 * tables) (of_space ++ of_removals)
    = All-append (λ x. x < 512 * tables) of_space of_removals (All-map (λ x. x < 512 * tables) (λ (m : Mapping). m.vpn) space k.mapped) (All-map (λ x. x < 512 * tables) (λ (r : Removal). r.mapping.vpn) removals k.removed) in
    let once : (v : ℕ) → count_by (λ x. x == v) (of_space ++ of_removals) ≤ 1
    = λ v. (let all : count_by (λ x. x == v) (of_space ++ of_removals) ≡ count_by (λ x. x == v) of_space + count_by (λ x. x == v) of_removals = sum_by-append (λ x. cond (x == v) 1 0) of_space of_removals in
    let first = counted_by (λ (m : Mapping). m.vpn) v space in
    let second = counted_by (λ (r : Removal). r.mapping.vpn) v removals in
    let one : count_by (λ (m : Mapping). m.vpn == v) space + count_by (λ (r : Removal). r.mapping.vpn == v) removals ≤ 1 = k.once v in
    omega arith) in
    let few = few_distinct (512 * tables) (of_space ++ of_removals) below once in
    let long : length (of_space ++ of_removals) ≡ length of_space + length of_removals = length-append of_space of_removals in
    let mapped_long = length-map space (λ (m : Mapping). m.vpn) in
    let removed_long = length-map removals (λ (r : Removal). r.mapping.vpn) in
    omega arith

pub legal_mappings : LegalMappings
legal_mappings = record {
  stand = legal_stand;
  few = λ setup bytes entries legal page.
      let s : Monitor = state_after setup bytes (opening setup) entries in
      let all = few_mappings setup.tables s.space s.removals (legal_stand setup bytes entries legal) in
      let mapped : count_by (λ (m : Mapping). m.page == page) s.space ≤ length s.space = count_by-le-length (λ (m : Mapping). m.page == page) s.space in
      let removed : count_by (λ (r : Removal). r.mapping.page == page) s.removals ≤ length s.removals = count_by-le-length (λ (r : Removal). r.mapping.page == page) s.removals in
      omega arith;
}
