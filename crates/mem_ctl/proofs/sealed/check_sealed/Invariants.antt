use Rattle.std.proofs.Common.{◌≡◌, drop, find}
use Rattle.mem_geom.specs.Layout.{place_bytes}
use Rattle.mem_tree.specs.Checks.{check, check_on}
use Rattle.mem_tree.specs.Paths.{breaks}
use Rattle.mem_tree.specs.Words.{taken_path}
use Rattle.mem_ctl.proofs.sealed.check_sealed.Given as goal

-- the check of the path is that of the places that are left, and its first break is among them
abbrev pub invariant-loop-i : goal.invariant-loop-i
invariant-loop-i g l = record {
  checked : check g.D.Digester.digest_of (taken_path l.sealed) (place_bytes l.zones l.mirror) ≡ check_on g.D.Digester.digest_of (taken_path l.sealed) (place_bytes l.zones l.mirror) (drop l.i l.places);
  left : find (breaks g.D.Digester.digest_of (taken_path l.sealed)) (taken_path l.sealed).places ≡ find (breaks g.D.Digester.digest_of (taken_path l.sealed)) (drop l.i l.places);
}
