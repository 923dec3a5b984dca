-- Laws of an image that is run alone.
use Rattle.std.specs.Prelude.{◌≡◌, ℕ, suc, false, ◌==◌, nat_eq, List, ◌++◌, map, slice_get, Some, IsSomeAnd, IsTrue}
use Rattle.std.specs.List.{All, IsDistinct, list_any}
use Rattle.pl_base.specs.declared.access.Kind.TheVariants.{Store}
use Rattle.pl_base.specs.Perms.{grants}
use Rattle.rv_alone.specs.Flat.{Image, Flat, Page}
use Rattle.rv_alone.specs.Alone.{alone, written_pages}

-- words that are sent later change nothing in a run so far
abbrev pub SentLater : Type 0
SentLater = (image : Image) (sent later : List ℕ) (n : ℕ) (a : Flat) → alone image sent n ≡ Some a → alone image (sent ++ later) n ≡ Some a

-- nor in the pages written so far, and in the page that the next instruction stores to
abbrev pub WrittenLater : Type 0
WrittenLater =
    (image : Image) (sent later : List ℕ) (n : ℕ) (a : Flat) → alone image sent n ≡ Some a
    → (written_pages image (sent ++ later) n ≡ written_pages image sent n) × (written_pages image (sent ++ later) (suc n) ≡ written_pages image sent (suc n))

-- pages keep their permissions, and those that no instruction stored to their bytes
abbrev pub PermissionsStay : Type 0
PermissionsStay = (image : Image) (sent : List ℕ) (n : ℕ) (a : Flat) → alone image sent n ≡ Some a → map (λ (page : Page). page.perms) a.pages ≡ map (λ (page : Page). page.perms) image.pages

abbrev pub UnwrittenStay : Type 0
UnwrittenStay = (image : Image) (sent : List ℕ) (n : ℕ) (a : Flat) (p : ℕ) → alone image sent n ≡ Some a → list_any (λ q. q == p) (written_pages image sent n) ≡ false → slice_get a.pages p ≡ slice_get image.pages p

-- each written page comes once
abbrev pub WrittenOnce : Type 0
WrittenOnce = (image : Image) (sent : List ℕ) (n : ℕ) → IsDistinct nat_eq (written_pages image sent n)

-- each is a page of the image that may be written
abbrev pub WrittenWritable : Type 0
WrittenWritable = (image : Image) (sent : List ℕ) (n : ℕ) → All (λ p. IsSomeAnd (slice_get image.pages p) (λ (page : Page). IsTrue (grants page.perms Store))) (written_pages image sent n)
