-- The attacker's lines of a setup: what the rules say of each, and of those before it.
use Rattle.std.proofs.Common.{◌≡◌, ℕ, ◌+◌, ◌*◌, ◌≤◌, ◌&&◌, Bool, true, false, if◌then◌else◌, List, [], ◌∷◌, ◌++◌, length, take, reverse, Option, Some, None, option_map, unwrap_or, slice_get, get_or, refl, sym, ap, ◌∙◌, subst, suc, zero, arith, append_assoc}
use Rattle.std.proofs.lemmas.Bool.Decides.{nat_tests}
use Rattle.std.proofs.Math.Seq.{take-suc}
use Rattle.std.proofs.lemmas.List.{append-nil, reverse-append}
use Rattle.std.proofs.lemmas.Option.{get_or_from_slice_get, slice_get_within}
use Rattle.std.specs.List.{list_all}
use Rattle.std.specs.Option.{option_map_or}
use Rattle.std.specs.Str.{bytes_eq}
use Rattle.pl_history.specs.declared.line.AttackLine.{AttackLine}
use Rattle.pl_history.specs.declared.line.AttackLine.TheVariants as attack
use Rattle.pl_history.specs.declared.setup.SetupParts.{SetupParts}
use Rattle.pl_history.specs.Rules.{IsSetup, is_within, is_place, is_attack_line, kept_length, attack_length, attack_known, attacks_known, counts_of}
use Rattle.pl_history.specs.Attacking.{Placed, latest_kept}
use Rattle.pl_history.specs.History.{HistoryData}
use Rattle.world_attack.specs.Laws.{SetupLinesAreInside, BacksHaveBytes}
use Rattle.world_attack.specs.Lines.{Range, range_of, lines_before, line_bytes, kept_range, KeepIsAnswered, IsInside}
use Rattle.world_attack.specs.Room.{attack_bytes, bytes_due}

-- ---- the lines before a position, one after the other

-- those before a position, from the latest back, and then others
abbrev before : ℕ → List AttackLine → List AttackLine → List AttackLine
before zero lines earlier = earlier
before (suc at) [] earlier = earlier
before (suc at) (now ∷ later) earlier = before at later (now ∷ earlier)

before-reverse : (at : ℕ) (lines earlier : List AttackLine) → before at lines earlier ≡ reverse (take at lines) ++ earlier
before-reverse zero lines earlier = refl
before-reverse (suc at) [] earlier = refl
before-reverse (suc at) (now ∷ later) earlier =
    before-reverse at later (now ∷ earlier)
    ∙ sym (append_assoc (reverse (take at later)) (now ∷ []) earlier)
    ∙ ap (λ (l : List AttackLine). l ++ earlier) (sym (reverse-append (now ∷ []) (take at later)))

before-all : (setup : SetupParts) (at : ℕ) → before at setup.attacker [] ≡ lines_before setup at
before-all setup at = before-reverse at setup.attacker [] ∙ append-nil (reverse (take at setup.attacker))

-- one more line is the latest
pub lines_before-next : (setup : SetupParts) (at : ℕ) (line : AttackLine) → slice_get setup.attacker at ≡ Some line → lines_before setup (at + 1) ≡ line ∷ lines_before setup at
lines_before-next setup at line here =
    let next : at + 1 ≡ suc at = omega arith in
    let read : get_or setup.attacker at line ≡ line = get_or_from_slice_get setup.attacker at line line here in
    ap (λ (n : ℕ). reverse (take n setup.attacker)) next
    ∙ ap reverse (take-suc setup.attacker at line (slice_get_within setup.attacker at line here))
    ∙ reverse-append (take at setup.attacker) (get_or setup.attacker at line ∷ [])
    ∙ ap (λ (l : AttackLine). l ∷ reverse (take at setup.attacker)) read

-- ---- what the rules say of one line

record IsLine (zones : ℕ) (counts : List ℕ) (me : ℕ) (earlier : List AttackLine) (line : AttackLine) : Type 0 where
  pub form : is_attack_line line ≡ true
  pub known : attack_known zones counts me earlier line ≡ true

both : (a b : Bool) → (a && b) ≡ true → (a ≡ true) × (b ≡ true)
both true true e = (refl, refl)
both true false e = cc
both false b e = cc

module _ (zones : ℕ) (counts : List ℕ) (me : ℕ) where
  line_known : (at : ℕ) (lines earlier : List AttackLine) (total : ℕ) (line : AttackLine) → attacks_known zones counts me earlier total lines ≡ true → list_all is_attack_line lines ≡ true
      → slice_get lines at ≡ Some line → IsLine zones counts me (before at lines earlier) line
  line_known at [] earlier total line known forms here = cc
  line_known zero (now ∷ later) earlier total line known forms here =
      let same : now ≡ line = cc in
      subst (IsLine zones counts me earlier) same (record {
        form = (both (is_attack_line now) (list_all is_attack_line later) forms).0;
        known = (both (attack_known zones counts me earlier now) _ known).0;
      })
  line_known (suc at) (now ∷ later) earlier total line known forms here =
      line_known at later (now ∷ earlier) (total + attack_length earlier now) line
      (both _ _ (both (attack_known zones counts me earlier now) _ known).1).1
      (both (is_attack_line now) (list_all is_attack_line later) forms).1 here

  inside_of : (pa len : ℕ) → is_place zones pa len ≡ true → is_within 1 4096 len ≡ true → IsInside zones (record { address = pa; count = len })
  inside_of pa len place few = record {
    from = grind (arith, nat_tests);
    to = grind (arith, nat_tests);
    some = grind (arith, nat_tests);
    few = grind (arith, nat_tests);
  }

  -- each line of a list that keeps bytes keeps some that are off chip
  abbrev AllKeepsInside : List AttackLine → Type 0
  AllKeepsInside [] = Unit {0}
  AllKeepsInside (attack.Keep name pa len ∷ earlier) = IsInside zones (record { address = pa; count = len }) × AllKeepsInside earlier
  AllKeepsInside (other ∷ earlier) = AllKeepsInside earlier

  one_more : (earlier : List AttackLine) (now : AttackLine) → IsLine zones counts me earlier now → AllKeepsInside earlier → AllKeepsInside (now ∷ earlier)
  one_more earlier (attack.Write pa bytes) it inside = inside
  one_more earlier (attack.Keep name pa len) it inside = (inside_of pa len it.known (both _ _ it.form).1, inside)
  one_more earlier (attack.Back name) it inside = inside
  one_more earlier (attack.After actor count) it inside = inside

  all_inside : (at : ℕ) (lines earlier : List AttackLine) (total : ℕ) → attacks_known zones counts me earlier total lines ≡ true → list_all is_attack_line lines ≡ true
      → AllKeepsInside earlier → AllKeepsInside (before at lines earlier)
  all_inside zero lines earlier total known forms inside = inside
  all_inside (suc at) [] earlier total known forms inside = inside
  all_inside (suc at) (now ∷ later) earlier total known forms inside =
      let parts = both (attack_known zones counts me earlier now) _ known in
      let rest = both (is_attack_line now) (list_all is_attack_line later) forms in
      all_inside at later (now ∷ earlier) (total + attack_length earlier now) (both _ _ parts.1).1 rest.1
      (one_more earlier now (record { form = rest.0; known = parts.0 }) inside)

  range_inside : (name : List ℕ) (earlier : List AttackLine) (range : Range) → AllKeepsInside earlier → kept_range name earlier ≡ Some range → IsInside zones range
  range_inside name [] range inside here = cc
  range_inside name (attack.Write pa bytes ∷ earlier) range inside here = range_inside name earlier range inside here
  range_inside name (attack.Keep other pa len ∷ earlier) range inside here = by_name (bytes_eq other name) (range_inside name earlier range inside.1) here
    where
      by_name : (test : Bool) → (kept_range name earlier ≡ Some range → IsInside zones range)
          → (if test then Some (record { address = pa; count = len }) else kept_range name earlier) ≡ Some range → IsInside zones range
      by_name true others same = let it : record { address = pa; count = len } ≡ range = cc in subst (IsInside zones) it inside.0
      by_name false others rest = others rest
  range_inside name (attack.Back other ∷ earlier) range inside here = range_inside name earlier range inside here
  range_inside name (attack.After actor count ∷ earlier) range inside here = range_inside name earlier range inside here

-- the length that was kept is that of the range
kept_length-range : (name : List ℕ) (earlier : List AttackLine) → kept_length name earlier ≡ option_map (λ (r : Range). r.count) (kept_range name earlier)
kept_length-range name [] = refl
kept_length-range name (attack.Write pa bytes ∷ earlier) = kept_length-range name earlier
kept_length-range name (attack.Keep other pa len ∷ earlier) = by_name (bytes_eq other name) (kept_length-range name earlier)
  where
    by_name : (test : Bool) → kept_length name earlier ≡ option_map (λ (r : Range). r.count) (kept_range name earlier)
        → (if test then Some len else kept_length name earlier)
        ≡ option_map (λ (r : Range). r.count) (if test then Some (record { address = pa; count = len }) else kept_range name earlier)
    by_name true others = refl
    by_name false others = others
kept_length-range name (attack.Back other ∷ earlier) = kept_length-range name earlier
kept_length-range name (attack.After actor count ∷ earlier) = kept_length-range name earlier

-- ---- how many bytes the lines have

module _ (zones : ℕ) (counts : List ℕ) (me : ℕ) where
  kept_few : (name : List ℕ) (earlier : List AttackLine) (o : Option Range) → kept_range name earlier ≡ o → AllKeepsInside zones counts me earlier → unwrap_or (kept_length name earlier) 0 ≤ 4096
  kept_few name earlier None is inside =
      let none : unwrap_or (kept_length name earlier) 0 ≡ 0 = ap (λ (len : Option ℕ). unwrap_or len 0) (kept_length-range name earlier ∙ ap (option_map (λ (r : Range). r.count)) is) in
      omega (arith, none)
  kept_few name earlier (Some range) is inside =
      let some : unwrap_or (kept_length name earlier) 0 ≡ range.count = ap (λ (len : Option ℕ). unwrap_or len 0) (kept_length-range name earlier ∙ ap (option_map (λ (r : Range). r.count)) is) in
      omega (arith, some, (range_inside zones counts me name earlier range inside is).few)

  at_most_a_page : (earlier : List AttackLine) (now : AttackLine) → IsLine zones counts me earlier now → AllKeepsInside zones counts me earlier → attack_length earlier now ≤ 4096
  at_most_a_page earlier (attack.Write pa bytes) it inside = (inside_of zones counts me pa (length bytes) it.known it.form).few
  at_most_a_page earlier (attack.Keep name pa len) it inside = (inside_of zones counts me pa len it.known (both _ _ it.form).1).few
  at_most_a_page earlier (attack.Back name) it inside = kept_few name earlier (kept_range name earlier) refl inside
  at_most_a_page earlier (attack.After actor count) it inside = omega arith

  pub bytes_by_line : (earlier : List AttackLine) (total : ℕ) (lines : List AttackLine) → attacks_known zones counts me earlier total lines ≡ true → list_all is_attack_line lines ≡ true
      → AllKeepsInside zones counts me earlier → attack_bytes earlier lines ≤ 4096 * length lines
  bytes_by_line earlier total [] known forms inside = omega arith
  bytes_by_line earlier total (now ∷ later) known forms inside =
      let parts = both (attack_known zones counts me earlier now) _ known in
      let rest = both (is_attack_line now) (list_all is_attack_line later) forms in
      let it : IsLine zones counts me earlier now = record { form = rest.0; known = parts.0 } in
      let more = bytes_by_line (now ∷ earlier) (total + attack_length earlier now) later (both _ _ parts.1).1 rest.1 (one_more zones counts me earlier now it inside) in
      omega (arith, more, at_most_a_page earlier now it inside)

-- ---- the lines of a setup

module _ (setup : SetupParts) (rules : IsSetup setup) where
  abbrev counts : List ℕ
  counts = counts_of setup.lines setup.attacker

  abbrev IsLineAt : ℕ → AttackLine → Type 0
  IsLineAt at line = IsLine setup.zones counts setup.harts (lines_before setup at) line

  attacker_forms : list_all is_attack_line setup.attacker ≡ true
  attacker_forms = (both _ (list_all is_attack_line setup.attacker) rules.forms).1

  line_at : (at : ℕ) (line : AttackLine) → slice_get setup.attacker at ≡ Some line → IsLineAt at line
  line_at at line here =
      subst (λ (earlier : List AttackLine). IsLine setup.zones counts setup.harts earlier line) (before-all setup at)
      (line_known setup.zones counts setup.harts at setup.attacker [] 0 line rules.attacks attacker_forms here)

  bytes_at_line : (at : ℕ) (line : AttackLine) → slice_get setup.attacker at ≡ Some line → line_bytes setup at ≡ attack_length (lines_before setup at) line
  bytes_at_line at line here = ap (λ (o : Option AttackLine). option_map_or (attack_length (lines_before setup at)) o 0) here

  keeps_inside : (at : ℕ) → AllKeepsInside setup.zones counts setup.harts (lines_before setup at)
  keeps_inside at =
      subst (AllKeepsInside setup.zones counts setup.harts) (before-all setup at)
      (all_inside setup.zones counts setup.harts at setup.attacker [] 0 rules.attacks attacker_forms tt)

  -- a name that was kept has a range
  has_range : (at : ℕ) (name : List ℕ) (o : Option Range) → kept_range name (lines_before setup at) ≡ o → option_map_or (λ (len : ℕ). true) (kept_length name (lines_before setup at)) false ≡ true
      → (range : Range) × (kept_range name (lines_before setup at) ≡ Some range) × (kept_length name (lines_before setup at) ≡ Some range.count)
  has_range at name None is known =
      let none : kept_length name (lines_before setup at) ≡ None = kept_length-range name (lines_before setup at) ∙ ap (option_map (λ (r : Range). r.count)) is in
      let never : false ≡ true = sym (ap (λ (o : Option ℕ). option_map_or (λ (len : ℕ). true) o false) none) ∙ known in cc
  has_range at name (Some range) is known =
      (range, is, kept_length-range name (lines_before setup at) ∙ ap (option_map (λ (r : Range). r.count)) is)

  back_inside : (at : ℕ) (name : List ℕ) → slice_get setup.attacker at ≡ Some (attack.Back name)
      → (range : Range) × (kept_range name (lines_before setup at) ≡ Some range) × IsInside setup.zones range × (line_bytes setup at ≡ range.count)
  back_inside at name here =
      let it = has_range at name (kept_range name (lines_before setup at)) refl (line_at at (attack.Back name) here).known in (
        it.0,
        it.1,
        range_inside setup.zones counts setup.harts name (lines_before setup at) it.0 (keeps_inside at) it.1,
        bytes_at_line at (attack.Back name) here ∙ ap (λ (o : Option ℕ). unwrap_or o 0) it.2,
      )

-- so many bytes do for each line
pub bytes_due-at_most : (setup : SetupParts) → IsSetup setup → bytes_due setup 0 ≤ 4096 * length setup.attacker
bytes_due-at_most setup rules = bytes_by_line setup.zones (counts setup rules) setup.harts [] 0 setup.attacker rules.attacks (attacker_forms setup rules) tt

pub lines_inside : SetupLinesAreInside
lines_inside setup rules = record {
  writes = λ at pa bytes here.
      let line = line_at setup rules at (attack.Write pa bytes) here in
      (inside_of setup.zones (counts setup rules) setup.harts pa (length bytes) line.known line.form, bytes_at_line setup rules at (attack.Write pa bytes) here);
  keeps = λ at pa len name here.
      let line = line_at setup rules at (attack.Keep name pa len) here in
      (inside_of setup.zones (counts setup rules) setup.harts pa len line.known (both _ _ line.form).1, bytes_at_line setup rules at (attack.Keep name pa len) here);
  backs = back_inside setup rules;
}

-- ---- what a `back` writes

module _ (setup : SetupParts) (h : HistoryData) (at : ℕ) (name : List ℕ) (rules : IsSetup setup) (here : slice_get setup.attacker at ≡ Some (attack.Back name)) where
  has_bytes : (o : Option Placed) → latest_kept setup h.bytes name h.entries ≡ o → KeepIsAnswered setup h at name
      → (what : Placed) × (latest_kept setup h.bytes name h.entries ≡ Some what) × IsInside setup.zones (range_of what) × (line_bytes setup at ≡ length what.bytes)
  has_bytes None is answered =
      let it = back_inside setup rules at name here in
      let none : Option Range = None in
      let never : none ≡ Some it.0 = sym (ap (option_map range_of) is) ∙ answered ∙ it.1 in cc
  has_bytes (Some what) is answered =
      let it = back_inside setup rules at name here in
      let found : Some (range_of what) ≡ Some it.0 = sym (ap (option_map range_of) is) ∙ answered ∙ it.1 in
      let same : it.0 ≡ range_of what = cc in (
        what,
        is,
        subst (IsInside setup.zones) same it.2,
        it.3 ∙ ap (λ (r : Range). r.count) same,
      )

pub backs_have_bytes : BacksHaveBytes
backs_have_bytes setup h at name rules here answered = has_bytes setup h at name rules here (latest_kept setup h.bytes name h.entries) refl answered
