-- The three lines of a run's report.
use Rattle.std.specs.Prelude.{ℕ, List, [], ◌++◌, map, codes, decimal, Option, Some, None}
use Rattle.std.specs.List.{flat_map}
use Rattle.pl_io.specs.Numbers.{bytes_text}
use Rattle.pl_history.specs.Text.{line_end, place_text}
use Rattle.world_machine.specs.declared.turned.Finished.{Finished}
use Rattle.world_machine.specs.declared.turned.Finished.TheVariants.{Done, Collision, Stuck}
use Rattle.world_machine.specs.Worlds.{CollisionData, WorldData}

-- the root on chip, two digits a byte
abbrev pub root_text : List ℕ → List ℕ
root_text root = codes "root " ++ (bytes_text root ++ line_end)

-- a space, and a zone
abbrev pub zone_text : ℕ → List ℕ
zone_text zone = codes " " ++ decimal zone

-- the mounted zones, in order of mounting
abbrev pub mounted_text : List ℕ → List ℕ
mounted_text zones = codes "mounted" ++ (flat_map zone_text zones ++ line_end)

-- the place, and its bytes as taken and as last written, two digits a byte
abbrev pub collision_text : CollisionData → List ℕ
collision_text c = place_text c.place ++ (codes " " ++ (bytes_text c.held ++ (codes " " ++ (bytes_text c.written ++ line_end))))

-- how the run ended; a run that ended by a collision has kept one
abbrev pub ending_text : Finished → Option CollisionData → List ℕ
ending_text Done _ = codes "end done" ++ line_end
ending_text Stuck _ = codes "end stuck" ++ line_end
ending_text Collision (Some c) = codes "end collision " ++ collision_text c
ending_text Collision None = []

-- the lines of a root, the zones that are mounted, the collision that is kept, and how the run ended
abbrev pub report_text : List ℕ → List ℕ → Option CollisionData → Finished → List ℕ
report_text root zones collision end = root_text root ++ (mounted_text zones ++ ending_text end collision)

-- the report of the world that a run ended with
abbrev pub world_report : WorldData → Finished → List ℕ
world_report w end = report_text w.ctl.root (map (λ s. s.zone) w.ctl.mounted) w.collision end
