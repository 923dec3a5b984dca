-- The numbers in an image's pages are bytes.
use Rattle.std.specs.Prelude.{ℕ, ◌<◌, List}
use Rattle.std.specs.List.{All}
use Rattle.mon_image.specs.declared.image.Image.{Image}
use Rattle.mon_image.specs.declared.page.ImagePage.{ImagePage}

abbrev pub AreBytes : List ℕ → Type 0
AreBytes = All (λ byte. byte < 256)

abbrev pub ArePageBytes : List ImagePage → Type 0
ArePageBytes = All (λ (page : ImagePage). AreBytes page.bytes)

-- each page of each image
abbrev pub AreImageBytes : List Image → Type 0
AreImageBytes = All (λ (image : Image). ArePageBytes image.pages)
