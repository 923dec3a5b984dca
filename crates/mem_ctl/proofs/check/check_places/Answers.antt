use Rattle.std.proofs.Common.{◌≡◌, ℕ, ◌+◌, List, get_or, rules, arith, ap, ◌∙◌}
use Rattle.std.specs.Prelude.{Err}
use Rattle.pl_base.specs.declared.place.Place.{Place}
use Rattle.pl_base.specs.declared.place.Place.TheVariants.{Block}
use Rattle.mem_geom.specs.Layout.{place_bytes}
use Rattle.mem_tree.specs.Checks.{Holds}
use Rattle.mem_tree.specs.Paths.{Path, path_of}
use Rattle.mem_ctl.specs.Results.{checked_of, place_checked}
use Rattle.mem_ctl.proofs.PathLoop.{loop_stops, loop_goes, loop_ends}
use Rattle.mem_ctl.proofs.check.check_places.Goals as goal

pub returns-in-Err : goal.returns-in-Err
returns-in-Err g c =
    let d = g.D.Digester.digest_of in
    let q : Place = get_or c.args.places.now c.loop-i.i (Block 0 0) in
    let path : Path = path_of c.args.root.now c.args.places.now (place_bytes c.args.zones c.args.off_chip.now) in
    let one : checked_of (Err c.in-Err.broken) ≡ place_checked d c.held_at-held.result q (place_bytes c.args.zones c.args.off_chip.now q) (place_bytes c.args.zones c.args.mirror.now q) = search rules in
    loop_stops d path (place_bytes c.args.zones c.args.mirror.now) c.loop-i.i c.loop-i.invariant (Block 0 0) c.in-Err.broken c.loop-i-test.true
    (one ∙ ap (λ (h : List ℕ). place_checked d h q (place_bytes c.args.zones c.args.off_chip.now q) (place_bytes c.args.zones c.args.mirror.now q)) c.held_at-held.ensures)

pub loop-i-preserved : goal.loop-i-preserved
loop-i-preserved g c =
    let d = g.D.Digester.digest_of in
    let q : Place = get_or c.args.places.now c.loop-i.i (Block 0 0) in
    let path : Path = path_of c.args.root.now c.args.places.now (place_bytes c.args.zones c.args.off_chip.now) in
    let one : Holds ≡ place_checked d c.held_at-held.result q (place_bytes c.args.zones c.args.off_chip.now q) (place_bytes c.args.zones c.args.mirror.now q) = search rules in
    loop_goes d path (place_bytes c.args.zones c.args.mirror.now) c.loop-i.i c.loop-i.invariant (Block 0 0) (c.loop-i.i + 1) c.loop-i-test.true (omega arith)
    (one ∙ ap (λ (h : List ℕ). place_checked d h q (place_bytes c.args.zones c.args.off_chip.now q) (place_bytes c.args.zones c.args.mirror.now q)) c.held_at-held.ensures)

pub returns : goal.returns
returns g c =
    loop_ends g.D.Digester.digest_of (path_of c.args.root.now c.args.places.now (place_bytes c.args.zones c.args.off_chip.now)) (place_bytes c.args.zones c.args.mirror.now) c.loop-i.i c.loop-i.invariant c.loop-i-test.false
