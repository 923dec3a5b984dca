use Rattle.std.proofs.Common.{◌++◌, take}
use Rattle.std.specs.List.{flat_map}
use Rattle.sha2.specs.Hashers.{Holds256}
use Rattle.mon_image.specs.Measurement.{page_part, measured_head}
use Rattle.mon_image.proofs.image.Image.measurement.Given as goal

abbrev pub invariant-loop-page : goal.invariant-loop-page
invariant-loop-page l = Holds256 l.hasher (measured_head l.self ++ flat_map page_part (take l.page-index l.self.pages))
