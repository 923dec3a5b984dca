-- The measurement of an enclave image.
use Rattle.std.specs.Prelude.{ℕ, List, ◌∷◌, ◌++◌, length, codes}
use Rattle.std.specs.List.{flat_map}
use Rattle.std.specs.Int.{w32, w64, to_le_bytes}
use Rattle.sha2.specs.Sha256.{sha256}
use Rattle.mon_image.specs.declared.page.ImagePage.{ImagePage}
use Rattle.mon_image.specs.declared.image.Image.{Image}

-- a page: one byte of permissions, and its bytes
abbrev pub page_part : ImagePage → List ℕ
page_part page = page.perms.0 ∷ page.bytes

-- `PLM1`, the entry as 8 bytes, and the number of pages as 4 bytes, both little-endian
abbrev pub measured_head : Image → List ℕ
measured_head image = codes "PLM1" ++ to_le_bytes w64 image.entry ++ to_le_bytes w32 (length image.pages)

-- that, and then each page
abbrev pub measured_bytes : Image → List ℕ
measured_bytes image = measured_head image ++ flat_map page_part image.pages

-- the measurement: SHA-256 of these bytes (FIPS 180-4)
abbrev pub measurement_of : Image → List ℕ
measurement_of image = sha256 (measured_bytes image)
