-- What holds of every enclave number, in every world that is reached.
use Rattle.std.specs.Prelude.{◌≡◌, ℕ, List, length}
use Rattle.world_machine.specs.DyingNumbers.{DyingNumbersFenced}
use Rattle.world_machine.specs.NumberImages.{EachIsItsImage}
use Rattle.world_machine.specs.Reached.{Reached}
use Rattle.world_machine.specs.Worlds.{WorldData}

-- Of every world that is reached: each dying number has the fence of its space, each page that was broken, whose instruction hasn't started anew,
-- the fence of that page, and there is no fence but these and those of open removals.
abbrev pub DyingNumbersHaveFences : Type 0
DyingNumbersHaveFences = (digest_of : List ℕ → List ℕ) → ((m : List ℕ) → length (digest_of m) ≡ 32) → (w : WorldData) → Reached digest_of w → DyingNumbersFenced w

-- Of every world that is reached: a number that is free has nothing, one that is neither live nor given back has no translations, and one that
-- isn't free is the image of the newest line that made it alone.
abbrev pub NumbersAreTheirImages : Type 0
NumbersAreTheirImages = (digest_of : List ℕ → List ℕ) → ((m : List ℕ) → length (digest_of m) ≡ 32) → (w : WorldData) → Reached digest_of w → EachIsItsImage w
