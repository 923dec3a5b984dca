-- What the check of a path tells, where the written bytes hold under its root.
use Rattle.std.proofs.Common.{◌≡◌, ◌≢◌, ℕ, zero, suc, Bool, true, false, cond, not, ◌&&◌, List, [], ◌∷◌, ◌++◌, Option, Some, None, ⊎_elim, refl, sym, ap, ◌∙◌, arith}
use Rattle.std.proofs.lemmas.Bool.{cases_Bool, cond-true, false≢true}
use Rattle.std.proofs.lemmas.List.Elements.{All-nil, All-cons, All-head, All-tail}
use Rattle.std.proofs.lemmas.Slice.Eq.{bytes_eq-Decides}
use Rattle.std.specs.List.{All, Contains, find}
use Rattle.std.specs.Option.{option_map_or}
use Rattle.std.specs.Str.{bytes_eq}
use Rattle.pl_base.specs.declared.place.Place.{Place}
use Rattle.mem_geom.specs.Tree.{parent, entry_number}
use Rattle.pl_digest.specs.Nodes.{entry}
use Rattle.mem_tree.specs.Paths.{Path, breaks, first_break, held, path_of, same_place}
use Rattle.mem_tree.specs.Checks.{Checked, Holds, Fault, Collision, ChecksTell, DifferencesCollide, IsTopDown, IsTopDownFrom, OwnBytesMatter, Tells, check_on, collides, has_place, plain_check_on, written_path}
use Rattle.mem_tree.proofs.PathPlaces.{is_same, same_place-refl, second_test}

-- ---- tests

pub bytes_eq-same : (xs ys : List ℕ) → xs ≡ ys → bytes_eq xs ys ≡ true
bytes_eq-same xs ys = (bytes_eq-Decides xs ys).1

pub same-bytes_eq : (xs ys : List ℕ) → bytes_eq xs ys ≡ true → xs ≡ ys
same-bytes_eq xs ys = (bytes_eq-Decides xs ys).0

not-false : (b : Bool) → not b ≡ false → b ≡ true
not-false true h = refl
not-false false h = sym h

not_both : (b : Bool) → not b ≡ true → b ≡ true → ⊥
not_both true h is = false≢true h
not_both false h is = false≢true is

three_parts : (a b c : Bool) → (a && b && c) ≡ true → (b ≡ true) × (c ≡ true)
three_parts true true true h = (refl, refl)
three_parts true true false h = absurd (false≢true h)
three_parts true false c h = absurd (false≢true h)
three_parts false b c h = absurd (false≢true h)

alike_then : (broken same one : Bool) → broken ≡ false → (not broken && not same && one) ≡ false → one ≡ true → same ≡ true
alike_then broken true one h none is = refl
alike_then true false one h none is = absurd (false≢true (sym h))
alike_then false false true h none is = absurd (false≢true (sym none))
alike_then false false false h none is = absurd (false≢true is)

-- two checks of one place, and of the rest
same_step : (broken collided same : Bool) (fault collision rest rest' : Checked) → (broken ≡ false → same ≡ true → collided ≡ false) → (broken ≡ false → same ≡ false → collided ≡ true)
    → (broken ≡ false → same ≡ true → rest ≡ rest')
    → cond broken fault (cond collided collision rest) ≡ cond broken fault (cond same rest' collision)
same_step true collided same fault collision rest rest' apart here past = refl
same_step false true true fault collision rest rest' apart here past = absurd (false≢true (sym (apart refl refl)))
same_step false true false fault collision rest rest' apart here past = refl
same_step false false true fault collision rest rest' apart here past = past refl refl
same_step false false false fault collision rest rest' apart here past = absurd (false≢true (here refl refl))

-- no place is found: the first isn't, and none of the rest
pub none_first : (b : Bool) (p : Place) (rest : Option Place) → cond b (Some p) rest ≡ None → (b ≡ false) × (rest ≡ None)
none_first true p rest h = cc
none_first false p rest h = (refl, h)

-- ---- places whose bytes agree

module _ (bytes others : Place → List ℕ) where
  -- each of these places has the same bytes in both
  abbrev pub Agree : List Place → Type 0
  Agree [] = Unit {0}
  Agree (p ∷ ps) = (bytes p ≡ others p) × Agree ps

  Agree-push : (ps : List Place) (p : Place) → Agree ps → bytes p ≡ others p → Agree (ps ++ p ∷ [])
  Agree-push [] p agree same = (same, tt)
  Agree-push (q ∷ qs) p agree same = (agree.0, Agree-push qs p agree.1 same)

  agreed : (ps : List Place) (q : Place) → Agree ps → has_place ps q ≡ true → bytes q ≡ others q
  agreed [] q agree found = absurd (false≢true found)
  agreed (p ∷ ps) q agree found =
      ⊎_elim
      (λ (here : same_place p q ≡ true). let is : p ≡ q = is_same p q here in ap bytes (sym is) ∙ agree.0 ∙ ap others is)
      (λ (past : same_place p q ≡ false). agreed ps q agree.1 (second_test (same_place p q) (has_place ps q) found past))
      (cases_Bool (same_place p q))

  parents_agree : (above : List Place) (k : ℕ) (o : Option Place) → Agree above → option_map_or (has_place above) o false ≡ true
      → option_map_or (λ (p : Place). entry k (bytes p)) o [] ≡ option_map_or (λ (p : Place). entry k (others p)) o []
  parents_agree above k None agree found = refl
  parents_agree above k (Some q) agree found = ap (entry k) (agreed above q agree found)

  -- the same digest is held for a place whose parent is among them
  pub held-agree : (root : List ℕ) (places above : List Place) (p : Place) → Agree above → option_map_or (has_place above) (parent p) false ≡ true
      → held (path_of root places bytes) p ≡ held (path_of root places others) p
  held-agree root places above p agree found = ap (cond _ root) (parents_agree above (entry_number p) (parent p) agree found)

  -- and for the topmost place
  pub held-first : (root : List ℕ) (p : Place) (ps : List Place) → held (path_of root (p ∷ ps) bytes) p ≡ held (path_of root (p ∷ ps) others) p
  held-first root p ps =
      cond-true (same_place p p) root _ (same_place-refl p) ∙ sym (cond-true (same_place p p) root _ (same_place-refl p))

-- ---- one place of a path and of the written path

module _ (d : List ℕ → List ℕ) (path : Path) (written : Place → List ℕ) where
  abbrev as_written : Path
  as_written = written_path path written

  module _ (p : Place) (same : held path p ≡ held as_written p) (wrote : breaks d as_written p ≡ false) where
    -- the written bytes have the digest that is held
    written_digest : d (written p) ≡ held path p
    written_digest = same-bytes_eq (d (written p)) (held as_written p) (not-false (bytes_eq (d (written p)) (held as_written p)) wrote) ∙ sym same

    one_digest : breaks d path p ≡ false → d (path.bytes p) ≡ d (written p)
    one_digest holds = same-bytes_eq (d (path.bytes p)) (held path p) (not-false (bytes_eq (d (path.bytes p)) (held path p)) holds) ∙ sym written_digest

    broken_differs : breaks d path p ≡ true → path.bytes p ≢ written p
    broken_differs broken = λ equal. not_both (bytes_eq (d (path.bytes p)) (held path p)) broken (bytes_eq-same (d (path.bytes p)) (held path p) (ap d equal ∙ written_digest))

    -- where the place neither breaks nor collides, it is as written
    unchanged : breaks d path p ≡ false → collides d path written p ≡ false → path.bytes p ≡ written p
    unchanged holds none =
        same-bytes_eq (path.bytes p) (written p)
        (alike_then (breaks d path p) (bytes_eq (path.bytes p) (written p)) (bytes_eq (d (path.bytes p)) (d (written p))) holds none (bytes_eq-same (d (path.bytes p)) (d (written p)) (one_digest holds)))

    plain_one : (ps : List Place) → (path.bytes p ≡ written p → check_on d path written ps ≡ plain_check_on d path written ps) → check_on d path written (p ∷ ps) ≡ plain_check_on d path written (p ∷ ps)
    plain_one ps rest =
        same_step (breaks d path p) (collides d path written p) (bytes_eq (path.bytes p) (written p)) (Fault p) (Collision p (path.bytes p) (written p)) (check_on d path written ps) (plain_check_on d path written ps)
        (λ holds equal. rw (holds, equal) refl)
        (λ holds other. rw (holds, other, bytes_eq-same (d (path.bytes p)) (d (written p)) (one_digest holds)) refl)
        (λ holds equal. rest (same-bytes_eq (path.bytes p) (written p) equal))

  -- ---- from the top down

  plain_rest : (above ps : List Place) → Agree path.bytes written above → IsTopDownFrom above ps → find (breaks d as_written) ps ≡ None → check_on d path written ps ≡ plain_check_on d path written ps
  plain_rest above [] agree down holds = refl
  plain_rest above (p ∷ ps) agree down holds =
      let wrote = none_first (breaks d as_written p) p (find (breaks d as_written) ps) holds in
      plain_one p (held-agree path.bytes written path.root path.places above p agree down.0.1) wrote.0 ps
      (λ same. plain_rest (above ++ p ∷ []) ps (Agree-push path.bytes written above p agree same) down.1 wrote.1)

  -- what a check on some of the places tells
  abbrev TellsOn : List Place → Checked → Type 0
  TellsOn ps checked = Tells d (path_of path.root ps path.bytes) written checked

  among-more : (p q : Place) (ps : List Place) → Contains ps q → Contains (p ∷ ps) q
  among-more p q ps (k, below, is) = (suc k, grind arith, is)

  tells_more : (p : Place) (ps : List Place) (rest : Checked) → path.bytes p ≡ written p → TellsOn ps rest → TellsOn (p ∷ ps) rest
  tells_more p ps Holds same tells = All-cons (λ (q : Place). path.bytes q ≡ written q) p ps same tells
  tells_more p ps (Fault q) same tells = (among-more p q ps tells.0, tells.1)
  tells_more p ps (Collision q held' other) same tells =
      record { among = among-more p q ps tells.among; as_taken = tells.as_taken; as_written = tells.as_written; differ = tells.differ; one = tells.one }

  tells_step : (broken collided : Bool) (p : Place) (ps : List Place) (rest : Checked) → (broken ≡ true → path.bytes p ≢ written p)
      → (collided ≡ true → (path.bytes p ≢ written p) × (d (path.bytes p) ≡ d (written p)))
      → (broken ≡ false → collided ≡ false → path.bytes p ≡ written p) → (path.bytes p ≡ written p → TellsOn ps rest)
      → TellsOn (p ∷ ps) (cond broken (Fault p) (cond collided (Collision p (path.bytes p) (written p)) rest))
  tells_step true collided p ps rest fault collision same tells = ((zero, grind arith, refl), fault refl)
  tells_step false true p ps rest fault collision same tells =
      record { among = (zero, grind arith, refl); as_taken = refl; as_written = refl; differ = (collision refl).0; one = (collision refl).1 }
  tells_step false false p ps rest fault collision same tells = tells_more p ps rest (same refl refl) (tells (same refl refl))

  tells_one : (p : Place) (ps : List Place) → held path p ≡ held as_written p → breaks d as_written p ≡ false → (path.bytes p ≡ written p → TellsOn ps (check_on d path written ps))
      → TellsOn (p ∷ ps) (check_on d path written (p ∷ ps))
  tells_one p ps same wrote rest =
      tells_step (breaks d path p) (collides d path written p) p ps (check_on d path written ps)
      (broken_differs p same wrote)
      (λ collided. let h = three_parts (not (breaks d path p)) (not (bytes_eq (path.bytes p) (written p))) (bytes_eq (d (path.bytes p)) (d (written p))) collided in
      ((λ equal. not_both (bytes_eq (path.bytes p) (written p)) h.0 (bytes_eq-same (path.bytes p) (written p) equal)), same-bytes_eq (d (path.bytes p)) (d (written p)) h.1))
      (unchanged p same wrote)
      rest

  tells_rest : (above ps : List Place) → Agree path.bytes written above → IsTopDownFrom above ps → find (breaks d as_written) ps ≡ None → TellsOn ps (check_on d path written ps)
  tells_rest above [] agree down holds = All-nil (λ (q : Place). path.bytes q ≡ written q)
  tells_rest above (p ∷ ps) agree down holds =
      let wrote = none_first (breaks d as_written p) p (find (breaks d as_written) ps) holds in
      tells_one p ps (held-agree path.bytes written path.root path.places above p agree down.0.1) wrote.0
      (λ same. tells_rest (above ++ p ∷ []) ps (Agree-push path.bytes written above p agree same) down.1 wrote.1)

module _ (d : List ℕ → List ℕ) (root : List ℕ) (bytes written : Place → List ℕ) where
  plain_all : (places : List Place) → IsTopDown places → first_break d (path_of root places written) ≡ None
      → check_on d (path_of root places bytes) written places ≡ plain_check_on d (path_of root places bytes) written places
  plain_all [] down holds = refl
  plain_all (p ∷ ps) down holds =
      let path : Path = path_of root (p ∷ ps) bytes in
      let wrote = none_first (breaks d (path_of root (p ∷ ps) written) p) p (find (breaks d (path_of root (p ∷ ps) written)) ps) holds in
      plain_one d path written p (held-first bytes written root p ps) wrote.0 ps (λ same. plain_rest d path written (p ∷ []) ps (same, tt) down wrote.1)

  tells_all : (places : List Place) → IsTopDown places → first_break d (path_of root places written) ≡ None
      → Tells d (path_of root places bytes) written (check_on d (path_of root places bytes) written places)
  tells_all [] down holds = All-nil (λ (q : Place). bytes q ≡ written q)
  tells_all (p ∷ ps) down holds =
      let path : Path = path_of root (p ∷ ps) bytes in
      let wrote = none_first (breaks d (path_of root (p ∷ ps) written) p) p (find (breaks d (path_of root (p ∷ ps) written)) ps) holds in
      tells_one d path written p ps (held-first bytes written root p ps) wrote.0 (λ same. tells_rest d path written (p ∷ []) ps (same, tt) down wrote.1)

pub differences_collide : (d : List ℕ → List ℕ) → DifferencesCollide d
differences_collide d path written is = plain_all d path.root path.bytes written path.places is.top_down is.holds

pub checks_tell : (d : List ℕ → List ℕ) → ChecksTell d
checks_tell d path written is = tells_all d path.root path.bytes written path.places is.top_down is.holds

-- ---- only the bytes of a path's own places matter

module _ (d : List ℕ → List ℕ) (root : List ℕ) (places : List Place) (bytes others : Place → List ℕ) where
  abbrev ours : Path
  ours = path_of root places bytes

  abbrev theirs : Path
  theirs = path_of root places others

  breaks-alike : (p : Place) → held ours p ≡ held theirs p → bytes p ≡ others p → breaks d ours p ≡ breaks d theirs p
  breaks-alike p same equal = ap (λ (h : List ℕ). not (bytes_eq (d (bytes p)) h)) same ∙ ap (λ (xs : List ℕ). not (bytes_eq (d xs) (held theirs p))) equal

  check-alike : (written : Place → List ℕ) (p : Place) (rest rest' : Checked) → breaks d ours p ≡ breaks d theirs p → bytes p ≡ others p → rest ≡ rest'
      → cond (breaks d ours p) (Fault p) (cond (collides d ours written p) (Collision p (bytes p) (written p)) rest)
      ≡ cond (breaks d theirs p) (Fault p) (cond (collides d theirs written p) (Collision p (others p) (written p)) rest')
  check-alike written p rest rest' same equal more =
      let one = λ (broken : Bool) (xs : List ℕ) (r : Checked). cond broken (Fault p) (cond (not broken && not (bytes_eq xs (written p)) && bytes_eq (d xs) (d (written p))) (Collision p xs (written p)) r) in
      ap (λ (b : Bool). one b (bytes p) rest) same ∙ ap (λ (xs : List ℕ). one (breaks d theirs p) xs rest) equal ∙ ap (one (breaks d theirs p) (others p)) more

  find-alike : (above ps : List Place) → Agree bytes others above → IsTopDownFrom above ps → All (λ (p : Place). bytes p ≡ others p) ps → find (breaks d ours) ps ≡ find (breaks d theirs) ps
  find-alike above [] agree down all = refl
  find-alike above (p ∷ ps) agree down all =
      let equal : bytes p ≡ others p = All-head (λ (q : Place). bytes q ≡ others q) p ps all in
      ap (λ (b : Bool). cond b (Some p) (find (breaks d ours) ps)) (breaks-alike p (held-agree bytes others root places above p agree down.0.1) equal)
      ∙ ap (cond (breaks d theirs p) (Some p)) (find-alike (above ++ p ∷ []) ps (Agree-push bytes others above p agree equal) down.1 (All-tail (λ (q : Place). bytes q ≡ others q) p ps all))

  checks-alike : (written : Place → List ℕ) (above ps : List Place) → Agree bytes others above → IsTopDownFrom above ps → All (λ (p : Place). bytes p ≡ others p) ps
      → check_on d ours written ps ≡ check_on d theirs written ps
  checks-alike written above [] agree down all = refl
  checks-alike written above (p ∷ ps) agree down all =
      let equal : bytes p ≡ others p = All-head (λ (q : Place). bytes q ≡ others q) p ps all in
      check-alike written p (check_on d ours written ps) (check_on d theirs written ps) (breaks-alike p (held-agree bytes others root places above p agree down.0.1) equal) equal
      (checks-alike written (above ++ p ∷ []) ps (Agree-push bytes others above p agree equal) down.1 (All-tail (λ (q : Place). bytes q ≡ others q) p ps all))

pub own_bytes_matter : (d : List ℕ → List ℕ) → OwnBytesMatter d
own_bytes_matter d root [] bytes others down all = record { breaks = refl; checks = λ written. refl }
own_bytes_matter d root (p ∷ ps) bytes others down all =
    let places : List Place = p ∷ ps in
    let equal : bytes p ≡ others p = All-head (λ (q : Place). bytes q ≡ others q) p ps all in
    let rest : All (λ (q : Place). bytes q ≡ others q) ps = All-tail (λ (q : Place). bytes q ≡ others q) p ps all in
    let same = breaks-alike d root places bytes others p (held-first bytes others root p ps) equal in
    record {
      breaks = ap (λ (b : Bool). cond b (Some p) (find (breaks d (path_of root places bytes)) ps)) same
          ∙ ap (cond (breaks d (path_of root places others) p) (Some p)) (find-alike d root places bytes others (p ∷ []) ps (equal, tt) down rest);
      checks = λ written. check-alike d root places bytes others written p (check_on d (path_of root places bytes) written ps) (check_on d (path_of root places others) written ps) same equal
          (checks-alike d root places bytes others written (p ∷ []) ps (equal, tt) down rest);
    }
