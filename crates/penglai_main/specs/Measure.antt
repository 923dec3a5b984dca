-- The lines of measured images.
use Rattle.std.specs.Prelude.{ℕ, ◌+◌, List, [], ◌∷◌, ◌++◌, codes, decimal}
use Rattle.pl_io.specs.Numbers.{bytes_text}
use Rattle.mon_image.specs.declared.image.Image.{Image}
use Rattle.mon_image.specs.Measurement.{measurement_of}

-- the number of an image, and two digits of each byte of its measurement
abbrev pub image_text : ℕ → Image → List ℕ
image_text number image = codes "image " ++ (decimal number ++ (codes " " ++ (bytes_text (measurement_of image) ++ 10 ∷ [])))

-- one line an image, from a number on
abbrev pub measurements_from : ℕ → List Image → List ℕ
measurements_from number [] = []
measurements_from number (image ∷ images) = image_text number image ++ measurements_from (number + 1) images

abbrev pub measurements_text : List Image → List ℕ
measurements_text = measurements_from 0
