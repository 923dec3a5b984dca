-- Which page a step of making a number puts, of the image's.
use Rattle.std.proofs.Common.{◌≡◌, ℕ, ◌<◌, List, length, get_or, sym}
use Rattle.std.proofs.lemmas.List.{get_or-map}
use Rattle.mon_enclave.specs.declared.enclave.PageKind.{PageKind}
use Rattle.mon_enclave.specs.declared.enclave.PageKind.TheVariants.{Own}
use Rattle.mon_enclave.specs.Records.{page_number_of}
use Rattle.mon_image.specs.declared.image.Image.{Image}
use Rattle.mon_life.specs.Pages.{image_put}
use Rattle.world_machine.specs.Pages.{numbers_of}

module _ (tables e : ℕ) (image : Image) (kinds : List PageKind) where
  pub image_page : (at : ℕ) → at < length kinds → (image_put image.pages kinds at).page ≡ get_or (numbers_of kinds) at 0
  image_page at within = sym (get_or-map page_number_of kinds at (Own 0) 0 within)
