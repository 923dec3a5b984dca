-- Which pages a record has, by what the abstract monitor gave the number, and which of a fork's pages are broken.
use Rattle.std.specs.Prelude.{◌≡◌, ℕ, suc, ◌+◌, ◌≤◌, Bool, true, false, List, [], ◌∷◌, length, map, drop, slice_index, Option, Some, None, option_map}
use Rattle.rv_alone.specs.Alone.{place_in, written_pages}
use Rattle.rv_alone.specs.Flat.{Image}
use Rattle.mon_enclave.specs.declared.enclave.Enclave.{Enclave}
use Rattle.mon_enclave.specs.declared.enclave.PageKind.{PageKind}
use Rattle.mon_enclave.specs.declared.enclave.PageKind.TheVariants.{Own, Shared}
use Rattle.pl_history.specs.declared.setup.SetupParts.{SetupParts}
use Rattle.pl_history.specs.Monitor.{Number, flat_image}
use Rattle.world_machine.specs.Making.{image_of}

-- Each page of a fork's image that was broken is a spare, in order, and each other one the shadow's; the spares left are those given last.

-- the k-th page that was broken is the k-th spare, and any other the shadow's
abbrev pub forked_kind : List ℕ → Option ℕ → ℕ → PageKind
forked_kind spares (Some k) shared = Own (slice_index spares k)
forked_kind spares None shared = Shared shared

-- of the image's pages from one on, whose pages of the shadow are these
abbrev pub forked_kinds : List ℕ → List ℕ → ℕ → List ℕ → List PageKind
forked_kinds spares broken at [] = []
forked_kinds spares broken at (page ∷ shared) = forked_kind spares (place_in at broken) page ∷ forked_kinds spares broken (at + 1) shared

-- the pages of a record: those that the number was made of, or where it shares a shadow's pages, those and its spares
abbrev pub kinds_of : List ℕ → List ℕ → List ℕ → Option (List ℕ) → List PageKind
kinds_of pages spares broken None = map Own pages
kinds_of pages spares broken (Some shared) = forked_kinds spares broken 0 shared

-- the pages of the shadow that a number was forked from
abbrev pub shared_by : (ℕ → Number) → Option ℕ → Option (List ℕ)
shared_by number_of = option_map (λ shadow. (number_of shadow).pages)

-- The pages that a forked number has broken are those that its instructions so far stored to, or also the one that the next instruction stores
-- to; a number that wasn't forked has broken none.
abbrev pub written_by : Bool → Image → List ℕ → ℕ → List ℕ
written_by false image sent retired = written_pages image sent retired
written_by true image sent retired = written_pages image sent (suc retired)

abbrev pub AreBroken : Option ℕ → Image → List ℕ → ℕ → Bool → List ℕ → Type 0
AreBroken None image sent retired ahead broken = broken ≡ []
AreBroken (Some shadow) image sent retired ahead broken = broken ≡ written_by ahead image sent retired

pub record PagesAre (setup : SetupParts) (number_of : ℕ → Number) (r : Enclave) (n : Number) : Type 0 where
  pub broken : List ℕ
  pub ahead : Bool
  pub so_far : AreBroken n.parent (flat_image (image_of setup r.image)) r.sent r.retired ahead broken
  pub kinds : r.pages ≡ kinds_of n.pages n.spares broken (shared_by number_of n.parent)
  pub spares : r.spares ≡ drop (length broken) n.spares
  pub few : length broken ≤ length n.spares

abbrev pub PagesAgree : SetupParts → (ℕ → Enclave) → (ℕ → Number) → Type 0
PagesAgree setup record_of number_of = (e : ℕ) → PagesAre setup number_of (record_of e) (number_of e)
