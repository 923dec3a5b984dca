-- The address space of an enclave number.
use Rattle.std.specs.Prelude.{ℕ, ◌+◌, if◌then◌else◌, List, [], ◌∷◌, Option, Some, None, slice_index}
use Rattle.std.specs.Option.{option_map_or}
use Rattle.pl_base.specs.declared.perms.Perms.{Perms}
use Rattle.rv_alone.specs.Alone.{place_in}
use Rattle.rv_alone.specs.Flat.{Image, Page}
use Rattle.pl_history.specs.declared.setup.SetupParts.{SetupParts}
use Rattle.pl_history.specs.Monitor.{Number, image_at}
use Rattle.mon_tables.specs.Space.{first_vpn, Mapping, without_write}

-- the pages of an image have virtual page numbers one after another
abbrev pub image_mapping : ℕ → ℕ → Perms → Mapping
image_mapping at page perms = record { vpn = first_vpn + at; page = page; perms = perms }

-- A page of the image that a forked number has broken, the k-th, is its k-th spare; any other is the shadow's, without W.
abbrev pub forked_mapping : List ℕ → List ℕ → Option ℕ → ℕ → Perms → Mapping
forked_mapping spares shared (Some k) at perms = image_mapping at (slice_index spares k) perms
forked_mapping spares shared None at perms = image_mapping at (slice_index shared at) (without_write perms)

-- where page i of the image stands: a number that isn't forked has pages of its own
abbrev pub mapping_of_page : (ℕ → Number) → Number → List ℕ → Option ℕ → ℕ → Perms → Mapping
mapping_of_page number n broken None at perms = image_mapping at (slice_index n.pages at) perms
mapping_of_page number n broken (Some parent) at perms = forked_mapping n.spares (number parent).pages (place_in at broken) at perms

abbrev pub mappings_from : (ℕ → Number) → Number → List ℕ → ℕ → List Page → List Mapping
mappings_from number n broken at [] = []
mappings_from number n broken at (page ∷ pages) =
    mapping_of_page number n broken n.parent at page.perms ∷ mappings_from number n broken (at + 1) pages

-- The space of a number, which has broken these pages of its image so far, in order. A number that isn't live has none: one that is
-- free, building, sealed or dying, or was stopped by a fault while it was made.
abbrev pub mappings_of_number : SetupParts → (ℕ → Number) → Number → List ℕ → List Mapping
mappings_of_number setup number n broken =
    if n.live then option_map_or (λ (image : Image). mappings_from number n broken 0 image.pages) (image_at setup n.image) [] else []
