use Rattle.std.proofs.Common.{◌≡◌, drop}
use Rattle.mem_geom.specs.Layout.{place_bytes}
use Rattle.mem_tree.specs.Checks.{check, check_on}
use Rattle.mem_tree.specs.Paths.{path_of}
use Rattle.mem_ctl.proofs.check.check_places.Given as goal

-- the check of the path is that of the places that are left
abbrev pub invariant-loop-i : goal.invariant-loop-i
invariant-loop-i g l =
    check g.D.Digester.digest_of (path_of l.root l.places (place_bytes l.zones l.off_chip)) (place_bytes l.zones l.mirror)
    ≡ check_on g.D.Digester.digest_of (path_of l.root l.places (place_bytes l.zones l.off_chip)) (place_bytes l.zones l.mirror) (drop l.i l.places)
