-- What each enclave number is made of, by its state and its parent: a shadow stays as long as a number that was forked from it is there.
use Rattle.std.specs.Prelude.{◌≡◌, ◌≢◌, ◌≤◌, ◌⊎◌, ℕ, true, false, List, [], length, Option, Some, None, slice_get}
use Rattle.pl_base.specs.Pages.{first_twice, most_spares}
use Rattle.pl_base.specs.States.{is_free, is_wordless}
use Rattle.pl_base.specs.declared.state.State.TheVariants as state_is
use Rattle.mon_image.specs.declared.image.Image.{Image}
use Rattle.pl_history.specs.declared.answer.Entry.{Entry}
use Rattle.pl_history.specs.declared.setup.SetupParts.{SetupParts}
use Rattle.pl_history.specs.Legal.{Legal, legal_state}
use Rattle.pl_history.specs.Making.{image_page_count}
use Rattle.pl_history.specs.Monitor.{Number, pages_taken}
use Rattle.pl_history.specs.Rules.{IsSetup}

-- a number of this image with these pages of its own is a fork of a shadow: another number, which is sealed, wasn't forked itself and has
-- the same image
pub record IsFork (number : ℕ → Number) (e shadow image : ℕ) (pages : List ℕ) : Type 0 where
  pub sealed : (number shadow).state ≡ state_is.Sealed
  pub whole : (number shadow).parent ≡ None
  pub same : (number shadow).image ≡ image
  pub other : shadow ≢ e
  pub none : pages ≡ []

-- a number that wasn't forked has as many pages as its image
abbrev pub IsMadeOf : SetupParts → (ℕ → Number) → ℕ → ℕ → List ℕ → Option ℕ → Type 0
IsMadeOf setup number e image pages None = length pages ≡ image_page_count setup image
IsMadeOf setup number e image pages (Some shadow) = IsFork number e shadow image pages

-- A free number has nothing; any other is made of its image. A shadow wasn't forked and has no spares; one that is being made has none unless it is
-- a fork. A number is live where words go in and out, but for one that a fault stopped while it was made. No page stands in it twice.
pub record NumberStands (setup : SetupParts) (number : ℕ → Number) (e : ℕ) (n : Number) : Type 0 where
  pub free : is_free n.state ≡ true → (n.parent ≡ None) × (n.pages ≡ []) × (n.spares ≡ [])
  pub made : is_free n.state ≡ false → IsMadeOf setup number e n.image n.pages n.parent
  pub image : is_free n.state ≡ false → (i : Image) × (slice_get setup.images n.image ≡ Some i)
  pub sealed : n.state ≡ state_is.Sealed → (n.parent ≡ None) × (n.spares ≡ [])
  pub building : n.state ≡ state_is.Building → n.parent ≡ None → n.spares ≡ []
  pub still : is_wordless n.state ≡ true → n.live ≡ false
  pub live : is_wordless n.state ≡ false → (n.live ≡ true) ⊎ (n.state ≡ state_is.Faulted)
  pub once : first_twice (pages_taken n) ≡ None
  pub few : length n.spares ≤ most_spares

-- each number stands so, and those that no line names are free
pub record ShadowsStand (setup : SetupParts) (number : ℕ → Number) : Type 0 where
  pub numbers : (e : ℕ) → NumberStands setup number e (number e)
  pub beyond : (e : ℕ) → setup.enclaves ≤ e → (number e).state ≡ state_is.Free

-- so it is in the state that a legal history gives
abbrev pub LegalShadows : Type 0
LegalShadows =
    (setup : SetupParts) (bytes : List ℕ) (entries : List Entry) → IsSetup setup → Legal setup bytes entries
    → ShadowsStand setup (legal_state setup bytes entries).number
