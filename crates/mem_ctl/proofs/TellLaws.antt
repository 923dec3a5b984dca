-- What a sealed path that is told leaves and tells.
use Rattle.std.proofs.Common.{◌≡◌, ◌≢◌, ℕ, zero, suc, ◌*◌, ◌/◌, ◌%◌, ◌<◌, ◌≤◌, Bool, true, false, cond, not, ◌&&◌, Option, Some, None, find, List, [], ◌∷◌, get_or, ⊎_elim, refl, subst, sym, ap, ◌∙◌, arith}
use Rattle.std.specs.Prelude.{Contains}
use Rattle.std.specs.Str.{bytes_eq}
use Rattle.std.proofs.lemmas.Bool.{cases_lt, cond-false, cond-true, false≢true}
use Rattle.std.proofs.lemmas.Option.{same_Some}
use Rattle.byteorder.specs.Endian.{little_number}
use Rattle.pl_base.specs.Bytes.{bytes_at}
use Rattle.pl_base.specs.declared.place.Place.{Place}
use Rattle.mem_slots.specs.Slots.{is_mounted, root_of}
use Rattle.mem_tree.specs.Checks.{AreOneDigest, Checked, check, check_on, Holds as AllHold, Fault as BreaksAt, Collision as CollidesAt}
use Rattle.mem_tree.specs.Paths.{Path, breaks, first_break, path_of}
use Rattle.mem_tree.specs.Trees.{HasDigests}
use Rattle.mem_tree.proofs.Differences.{bytes_eq-same, differences_collide, same-bytes_eq}
use Rattle.mem_tree.proofs.WordPaths.{parts_answer_alike}
use Rattle.mem_geom.specs.PathPlaces.{word_places}
use Rattle.mem_ctl.specs.Access.{IsTampered, Leaves}
use Rattle.mem_ctl.specs.declared.told.Op.{Op}
use Rattle.mem_ctl.specs.Calls.{TakenWord, op_offset, path_in, slot_root, tell_of, tell_under, told}
use Rattle.mem_ctl.specs.Data.{CtlData, Going, Again, After, answer, going, if_holds}
use Rattle.mem_ctl.specs.Laws.{CallsTell, HasTold, TakenPathsTell, TellingsTell, is_fresh}
use Rattle.mem_ctl.specs.Mounting.{count_use, taken, used, written}
use Rattle.mem_ctl.specs.Tellings.{IsOpIn}
use Rattle.mem_ctl.specs.TreesHold.{IsKept}
use Rattle.mem_ctl.proofs.AccessLaws.{asks_tell, keeps_leaves, mountings_tell, page_reads_tell, page_writes_tell, reads_tell, writes_tell}
use Rattle.mem_ctl.proofs.AccessLemmas.{count_use-keeps, word_path-in, zone_why, zone_written}
use Rattle.mem_ctl.proofs.FirstOther.{FirstAt, StandsFirst, plain_first}
use Rattle.mem_ctl.proofs.PathLoop.{found-passes}
use Rattle.mem_ctl.proofs.Refusals.{OrBroken}
use Rattle.mem_ctl.proofs.MountLemmas.{Keeps, Keeps-refl}
use Rattle.mem_ctl.proofs.TellLemmas.{told-agree, told-kept, told-pages, told-reads, told-sizes, told_tells}

-- ---- what a check finds, whatever was written

module _ (d : List ℕ → List ℕ) (path : Path) (written_at : Place → List ℕ) where
  abbrev pub Finds : List Place → Checked → Type 0
  Finds ps AllHold = find (breaks d path) ps ≡ None
  Finds ps (BreaksAt p) = Contains ps p × (find (breaks d path) ps ≡ Some p)
  Finds ps (CollidesAt p held other) = AreOneDigest d (path_of path.root ps path.bytes) written_at p held other

  more : (p q : Place) (ps : List Place) → Contains ps q → Contains (p ∷ ps) q
  more p q ps (k, below, is) = (suc k, grind arith, is)

  goes_on : (p : Place) (ps : List Place) (rest : Checked) → breaks d path p ≡ false → Finds ps rest → Finds (p ∷ ps) rest
  goes_on p ps AllHold fine found = cond-false (breaks d path p) (Some p) (find (breaks d path) ps) fine ∙ found
  goes_on p ps (BreaksAt q) fine found = (more p q ps found.0, cond-false (breaks d path p) (Some p) (find (breaks d path) ps) fine ∙ found.1)
  goes_on p ps (CollidesAt q held other) fine found =
      record { among = more p q ps found.among; as_taken = found.as_taken; as_written = found.as_written; differ = found.differ; one = found.one }

  found_step : (p : Place) (ps : List Place) (rest : Checked) (broken same one : Bool) → breaks d path p ≡ broken → bytes_eq (path.bytes p) (written_at p) ≡ same → bytes_eq (d (path.bytes p)) (d (written_at p)) ≡ one
      → Finds ps rest → Finds (p ∷ ps) (cond broken (BreaksAt p) (cond (not broken && not same && one) (CollidesAt p (path.bytes p) (written_at p)) rest))
  found_step p ps rest true same one is is_same is_one found = ((zero, grind arith, refl), cond-true (breaks d path p) (Some p) (find (breaks d path) ps) is)
  found_step p ps rest false true one is is_same is_one found = goes_on p ps rest is found
  found_step p ps rest false false false is is_same is_one found = goes_on p ps rest is found
  found_step p ps rest false false true is is_same is_one found = record {
    among = (zero, grind arith, refl);
    as_taken = refl;
    as_written = refl;
    differ = λ equal. false≢true (sym is_same ∙ bytes_eq-same (path.bytes p) (written_at p) equal);
    one = same-bytes_eq (d (path.bytes p)) (d (written_at p)) is_one;
  }

  pub finds : (ps : List Place) → Finds ps (check_on d path written_at ps)
  finds [] = refl
  finds (p ∷ ps) =
      found_step p ps (check_on d path written_at ps) (breaks d path p) (bytes_eq (path.bytes p) (written_at p)) (bytes_eq (d (path.bytes p)) (d (written_at p))) refl refl refl (finds ps)

-- ---- the law

module _ (d : List ℕ → List ℕ) (law : HasDigests d) (t : TakenWord) (op : Op) (g : Going) (kept : IsKept d g.ctl) (there : t.page < 64 * g.ctl.zones) (below : t.block < 64) (fine : IsOpIn t.block op) where
  abbrev x : CtlData
  x = g.ctl

  abbrev TellsSo : After ℕ → Type 0
  TellsSo r = HasTold d t op x r.outcome r.after.ctl

  unchanged : Leaves d x x
  unchanged = keeps_leaves d x x kept (Keeps-refl d x kept.trees)

  abbrev is_found : Checked → Type 0
  is_found = Finds d (path_in t) (written x) (path_in t).places

  -- a path that breaks
  broken : (place : Place) → first_break d (path_in t) ≡ Some place → (c : Checked) → check d (path_in t) (written x) ≡ c → is_found c → TellsSo (if_holds c g (answer 0 g))
  broken place is AllHold checked found = absurd (some_none (sym is ∙ found))
    where
      some_none : {p : Place} → Some p ≡ None → ⊥
      some_none h = cc
  broken place is (BreaksAt p) checked found = record {
    leaves = unchanged;
    tells = (refl, record { breaks = found.1; checked = found.0; differs = λ stands. (told_tells d law x kept t there below stands (BreaksAt p) checked).1 });
  }
  broken place is (CollidesAt p held other) checked found = record { leaves = unchanged; tells = (refl, found) }

  -- a path that holds, under a root that stands
  obeyed : is_fresh t x ≡ true → AllHold ≡ check d (path_in t) (written x) → first_break d (path_in t) ≡ None
      → TellsSo (answer (little_number 8 (bytes_at t.parts.block (op_offset op % 64 / 8 * 8) 8)) (count_use (t.page / 64) (record g { ctl = told d t op x })))
  obeyed stands holds none =
      let y : CtlData = told d t op x in
      let after = told-kept d law x kept t there below stands holds op fine in
      let sizes = told-sizes d law x kept t there below stands holds op in
      let once : Keeps d y (used y (t.page / 64)) = count_use-keeps d law (t.page / 64) (going y []) after.trees in
      record {
        leaves = record {
          kept = (keeps_leaves d y (used y (t.page / 64)) after once).kept;
          same_zones = sizes.0;
          same_slots = sizes.1;
          still_written = told-agree d law x kept t there below stands holds op fine;
        };
        tells = record {
          fresh = stands;
          whole = none;
          as_written = told-reads d law x kept t there below stands holds op fine;
          pages = told-pages d law x kept t there below stands holds op fine;
        };
      }

  whole : first_break d (path_in t) ≡ None → is_fresh t x ≡ true → (c : Checked) → check d (path_in t) (written x) ≡ c → is_found c
      → TellsSo (if_holds c g (answer (little_number 8 (bytes_at t.parts.block (op_offset op % 64 / 8 * 8) 8)) (count_use (t.page / 64) (record g { ctl = told d t op x }))))
  whole none stands AllHold checked found = obeyed stands (sym checked) none
  whole none stands (BreaksAt p) checked found = absurd (none_some (sym none ∙ found.1))
    where
      none_some : {q : Place} → None ≡ Some q → ⊥
      none_some h = cc
  whole none stands (CollidesAt p held other) checked found = record { leaves = unchanged; tells = (refl, found) }

  under_root : first_break d (path_in t) ≡ None → (fresh : Bool) → is_fresh t x ≡ fresh
      → TellsSo (cond fresh
      (if_holds (check d (path_in t) (written x)) g (answer (little_number 8 (bytes_at t.parts.block (op_offset op % 64 / 8 * 8) 8)) (count_use (t.page / 64) (record g { ctl = told d t op x }))))
      (record { outcome = Again t.parts.root (root_of x.mounted (t.page / 64)); after = g }))
  under_root none true is = whole none is (check d (path_in t) (written x)) refl (finds d (path_in t) (written x) (path_in t).places)
  under_root none false is = record { leaves = unchanged; tells = (refl, record { whole = none; stale = is; taken_is = refl; root_is = refl }) }

  told_under : (o : Option Place) → first_break d (path_in t) ≡ o → TellsSo (tell_under d o t op g)
  told_under (Some place) is = broken place is (check d (path_in t) (written x)) refl (finds d (path_in t) (written x) (path_in t).places)
  told_under None is = under_root is (is_fresh t x) refl

  pub telling_tells : TellsSo (tell_of d t op g)
  unfolding tell_of
  telling_tells = told_under (first_break d (path_in t)) refl

pub tellings_tell : (d : List ℕ → List ℕ) → HasDigests d → TellingsTell d
tellings_tell d law t op g kept there below fine = telling_tells d law t op g kept there below fine

-- ---- a path that was taken and breaks

module _ (d : List ℕ → List ℕ) (law : HasDigests d) (x : CtlData) (page block : ℕ) (kept : IsKept d x) (there : page < 64 * x.zones) (below : block < 64) (mounted : is_mounted x.mounted (page / 64) ≡ true)
    (place : Place) (breaks_there : first_break d (path_of (slot_root x (page / 64)) (word_places page block) (taken x)) ≡ Some place)
    (index : ℕ) (is : get_or (word_places page block) index place ≡ place) (small : index < 5)
    (before : (j : ℕ) → j < index → taken x (get_or (word_places page block) j place) ≡ written x (get_or (word_places page block) j place)) where
  abbrev places : List Place
  places = word_places page block

  abbrev path : Path
  path = path_of (slot_root x (page / 64)) (word_places page block) (taken x)

  broken_there : breaks d path place ≡ true
  broken_there = found-passes (breaks d path) places place breaks_there

  none_collides : (q : Place) → StandsFirst d path (written x) places q → breaks d path q ≡ false → taken x q ≢ written x q → ⊥
  none_collides q at fine differs =
      ⊎_elim
      (λ (above : at.index < index). differs (subst (λ (p : Place). taken x p ≡ written x p) (at.is place) (before at.index above)))
      (λ (not_above : index ≤ at.index). ⊎_elim
      (λ (past : index < at.index). false≢true (sym (subst (λ (p : Place). breaks d path p ≡ false) is (at.fine index place past)) ∙ broken_there))
      (λ (not_past : at.index ≤ index).
      let same : at.index ≡ index = omega arith in
      let here : q ≡ place = sym (at.is place) ∙ ap (λ (k : ℕ). get_or places k place) same ∙ is in
      false≢true (sym (subst (λ (p : Place). breaks d path p ≡ false) here fine) ∙ broken_there))
      (cases_lt index at.index))
      (cases_lt at.index index)

  by_check : (c : Checked) → Finds d path (written x) places c → FirstAt d path (written x) places c → OrBroken d places x c → IsTampered x places place
  by_check AllHold found first why = absurd (none_some (sym found ∙ breaks_there))
    where
      none_some : {q : Place} → None ≡ Some q → ⊥
      none_some h = cc
  by_check (BreaksAt p) found first why = subst (IsTampered x places) (same_Some p place (sym found.1 ∙ breaks_there)) why
  by_check (CollidesAt q held other) found first why = absurd (none_collides q first.0 first.1 why.tampered.differs)

  taken_breaks : IsTampered x places place
  taken_breaks =
      let written_is = zone_written d law x page places (word_path-in d law page block below) kept.trees there mounted in
      by_check (check d path (written x)) (finds d path (written x) places)
      (subst (FirstAt d path (written x) places) (sym (differences_collide d path (written x) written_is)) (plain_first d path (written x) places))
      (zone_why d law x page places (word_path-in d law page block below) kept.trees there mounted)

taken_paths_tell : (d : List ℕ → List ℕ) → HasDigests d → TakenPathsTell d
taken_paths_tell d law x page block kept there below mounted place breaks_there index is small before =
    taken_breaks d law x page block kept there below mounted place (sym ((parts_answer_alike d (slot_root x (page / 64)) (taken x) page block below).breaks) ∙ breaks_there) index is small before

pub calls_tell : (d : List ℕ → List ℕ) → HasDigests d → CallsTell d
calls_tell d law = record {
  mountings = mountings_tell d law;
  reads = reads_tell d law;
  writes = writes_tell d law;
  page_reads = page_reads_tell d law;
  page_writes = page_writes_tell d law;
  asks = asks_tell d law;
  taken_paths = taken_paths_tell d law;
  tellings = tellings_tell d law;
}
