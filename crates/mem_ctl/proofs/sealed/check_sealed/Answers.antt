use Rattle.std.proofs.Common.{◌≡◌, ℕ, ◌<◌, ◌+◌, List, length, drop, find, get_or, rules, arith, ap, ◌∙◌, sym}
use Rattle.std.specs.Prelude.{Err}
use Rattle.pl_base.specs.declared.place.Place.{Place}
use Rattle.pl_base.specs.declared.place.Place.TheVariants.{Block}
use Rattle.mem_geom.specs.Layout.{place_bytes}
use Rattle.mem_geom.specs.PathPlaces.{word_places}
use Rattle.mem_tree.specs.Checks.{Holds, check_on}
use Rattle.mem_tree.specs.Paths.{Path, breaks}
use Rattle.mem_tree.specs.Words.{part_bytes, parts_of, taken_path}
use Rattle.mem_ctl.specs.Results.{checked_of, is_break, part_checked}
use Rattle.mem_ctl.proofs.PathLoop.{loop_stops, loop_goes, loop_ends, sealed_step, still_left}
use Rattle.mem_ctl.proofs.sealed.check_sealed.Goals as goal

pub returns-in-Err : goal.returns-in-Err
returns-in-Err g c =
    let d = g.D.Digester.digest_of in
    let s = c.args.sealed.now in
    let path : Path = taken_path s in
    let written : Place → List ℕ = place_bytes c.args.zones c.args.mirror.now in
    let v = c.verdict-verdict.result in
    let i : ℕ = c.loop-i.i in
    let e : Place = Block 0 0 in
    let q : Place = get_or c.word_places-places.result i e in
    let places : c.word_places-places.result ≡ path.places = c.word_places-places.ensures ∙ ap (λ t. word_places t.page t.block_no) c.taken-taken.ensures.taken in
    let bytes : c.part-bytes.result.now ≡ path.bytes q = c.part-bytes.ensures.bytes ∙ ap (λ t. part_bytes (parts_of t) q) c.taken-taken.ensures.taken in
    let there : i < length path.places = c.loop-i-test.true in
    let one : checked_of (Err c.in-Err.broken) ≡ part_checked d (is_break v q) q c.part-bytes.result.now (written q) = search rules in
    let left = c.loop-i.invariant.left ∙ ap (λ (ps : List Place). find (breaks d path) (drop i ps)) places in
    let so_far = c.loop-i.invariant.checked ∙ ap (λ (ps : List Place). check_on d path written (drop i ps)) places in
    loop_stops d path written i so_far e c.in-Err.broken there
    (one ∙ ap (λ (xs : List ℕ). part_checked d (is_break v q) q xs (written q)) bytes
    ∙ ap (λ (ps : List Place). part_checked d (is_break v (get_or ps i e)) (get_or ps i e) (path.bytes (get_or ps i e)) (written (get_or ps i e))) places
    ∙ sealed_step d path written v c.verdict-verdict.ensures i left there e)

pub loop-i-preserved : goal.loop-i-preserved
loop-i-preserved g c =
    let d = g.D.Digester.digest_of in
    let s = c.args.sealed.now in
    let path : Path = taken_path s in
    let written : Place → List ℕ = place_bytes c.args.zones c.args.mirror.now in
    let v = c.verdict-verdict.result in
    let i : ℕ = c.loop-i.i in
    let e : Place = Block 0 0 in
    let q : Place = get_or c.word_places-places.result i e in
    let places : c.word_places-places.result ≡ path.places = c.word_places-places.ensures ∙ ap (λ t. word_places t.page t.block_no) c.taken-taken.ensures.taken in
    let bytes : c.part-bytes.result.now ≡ path.bytes q = c.part-bytes.ensures.bytes ∙ ap (λ t. part_bytes (parts_of t) q) c.taken-taken.ensures.taken in
    let there : i < length path.places = c.loop-i-test.true in
    let one : Holds ≡ part_checked d (is_break v q) q c.part-bytes.result.now (written q) = search rules in
    let left = c.loop-i.invariant.left ∙ ap (λ (ps : List Place). find (breaks d path) (drop i ps)) places in
    let so_far = c.loop-i.invariant.checked ∙ ap (λ (ps : List Place). check_on d path written (drop i ps)) places in
    let holds = one ∙ ap (λ (xs : List ℕ). part_checked d (is_break v q) q xs (written q)) bytes
    ∙ ap (λ (ps : List Place). part_checked d (is_break v (get_or ps i e)) (get_or ps i e) (path.bytes (get_or ps i e)) (written (get_or ps i e))) places in
    record {
      checked = loop_goes d path written i so_far e (i + 1) there (omega arith) (holds ∙ sealed_step d path written v c.verdict-verdict.ensures i left there e)
          ∙ sym (ap (λ (ps : List Place). check_on d path written (drop (i + 1) ps)) places);
      left = still_left d path written v c.verdict-verdict.ensures i left there e (i + 1) (omega arith) holds
          ∙ sym (ap (λ (ps : List Place). find (breaks d path) (drop (i + 1) ps)) places);
    }

pub returns : goal.returns
returns g c =
    let d = g.D.Digester.digest_of in
    let path : Path = taken_path c.args.sealed.now in
    let written : Place → List ℕ = place_bytes c.args.zones c.args.mirror.now in
    let places : c.word_places-places.result ≡ path.places = c.word_places-places.ensures ∙ ap (λ t. word_places t.page t.block_no) c.taken-taken.ensures.taken in
    loop_ends d path written c.loop-i.i (c.loop-i.invariant.checked ∙ ap (λ (ps : List Place). check_on d path written (drop c.loop-i.i ps)) places) c.loop-i-test.false
