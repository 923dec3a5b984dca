-- The abstract monitor's state: owners, the host's memory and mappings, the enclave numbers, the attacks, and how far each actor is.
use Rattle.std.specs.Prelude.{ℕ, ◌+◌, ◌==◌, nat_lt, Bool, true, false, if◌then◌else◌, List, [], ◌++◌, length, map, find, count_by, replicate, Option, Some, None, option_map, slice_get, unwrap_or}
use Rattle.pl_base.specs.Pages.{is_among}
use Rattle.pl_base.specs.declared.state.State.{State}
use Rattle.pl_base.specs.declared.state.State.TheVariants.{Free}
use Rattle.mon_image.specs.declared.image.Image.{Image}
use Rattle.mon_image.specs.declared.page.ImagePage.{ImagePage}
use Rattle.rv_alone.specs.Flat as flat
use Rattle.pl_history.specs.declared.line.Line.{Line}
use Rattle.pl_history.specs.declared.setup.SetupParts.{SetupParts}
use Rattle.pl_history.specs.Rules.{guarded_of, pages_of}
use Rattle.mon_tables.specs.Space.{Mapping, count_of_page}

pub data Owner : Type 0 where
  guard : Owner
  host : Owner
  number : ℕ → Owner

-- a mapping of the host's space that a hart is taking away
pub record Removal : Type 0 where
  pub hart : ℕ
  pub mapping : Mapping

-- An enclave number: its state; whether it is live, from the answer that it is made until it begins to be given back, for a shadow
-- never; the hart that it is on, where it is on; its image; the pages that it was made of, none for a forked number; all pages ever
-- given to it as spares, in order; the number that it was forked from; the words sent to it, in order; how many words were taken of
-- those that it sent out; and how many of its instructions had retired when a run last left it.
pub record Number : Type 0 where
  pub state : State
  pub live : Bool
  pub hart : ℕ
  pub image : ℕ
  pub pages : List ℕ
  pub spares : List ℕ
  pub parent : Option ℕ
  pub sent : List ℕ
  pub taken : ℕ
  pub retired : ℕ

-- a range of bytes that an attack changed a byte of
pub record Attack : Type 0 where
  pub address : ℕ
  pub length : ℕ

-- how many lines of an actor are answered, and whether the next one has begun
pub record Progress : Type 0 where
  pub answered : ℕ
  pub begun : Bool

-- the owner of each page that there is; the host's space, the removals under way and the bytes of each of its pages (those of other
-- pages mean nothing); each enclave number; the attacks; each actor's progress
pub record Monitor : Type 0 where
  pub owner : ℕ → Option Owner
  pub space : List Mapping
  pub removals : List Removal
  pub bytes : ℕ → List ℕ
  pub number : ℕ → Number
  pub attacks : List Attack
  pub progress : ℕ → Progress

abbrev pub free_number : Number
free_number = record { state = Free; live = false; hart = 0; image = 0; pages = []; spares = []; parent = None; sent = []; taken = 0; retired = 0 }

-- a number that is free again keeps its image and hart, which mean nothing then
abbrev pub freed : Number → Number
freed n = record n { state = Free; live = false; pages = []; spares = []; parent = None; sent = []; taken = 0; retired = 0 }

-- all pages that a number took from the host
abbrev pub pages_taken : Number → List ℕ
pages_taken n = n.pages ++ n.spares

abbrev pub is_host : Option Owner → Bool
is_host (Some host) = true
is_host _ = false

-- the mapping of a virtual page number that a hart is taking away, where one does
abbrev pub removed_at : List Removal → ℕ → Option Mapping
removed_at removals vpn = option_map (λ (r : Removal). r.mapping) (find (λ (r : Removal). r.mapping.vpn == vpn) removals)

-- how often a page is mapped by the host: in its space and in the removals under way
abbrev pub maps_of : Monitor → ℕ → ℕ
maps_of s page = count_of_page s.space page + count_by (λ (r : Removal). r.mapping.page == page) s.removals

abbrev pub first_owner : SetupParts → ℕ → Option Owner
first_owner setup page =
    if nat_lt page (guarded_of setup.tables setup.enclaves) then Some guard
    else if nat_lt page (pages_of setup.zones) then Some host
    else None

-- guarded pages, and zeroed pages of the host; every number is free
unfoldable pub opening : SetupParts → Monitor
opening setup = record {
  owner = first_owner setup;
  space = [];
  removals = [];
  bytes = λ page. replicate 4096 0;
  number = λ e. free_number;
  attacks = [];
  progress = λ actor. record { answered = 0; begun = false };
}

-- the script of a hart
abbrev pub script_of : SetupParts → ℕ → List Line
script_of setup hart = unwrap_or (slice_get setup.lines hart) []

-- how many lines an actor has; the attacker is the actor after the last hart
abbrev pub line_count : SetupParts → ℕ → ℕ
line_count setup actor = if actor == setup.harts then length setup.attacker else length (script_of setup actor)

-- the image of the flat machine that an image of a setup is
abbrev pub flat_page : ImagePage → flat.Page
flat_page page = record { perms = page.perms; bytes = page.bytes }

abbrev pub flat_image : Image → flat.Image
flat_image image = record { entry = image.entry; pages = map flat_page image.pages }

-- an image by its number, and none of another number
abbrev pub image_at : SetupParts → ℕ → Option flat.Image
image_at setup image = option_map flat_image (slice_get setup.images image)

abbrev pub with_number : Monitor → ℕ → Number → Monitor
with_number s e now = record s { number = λ f. if f == e then now else s.number f }

-- these pages belong to one owner now
abbrev pub with_owner : Monitor → List ℕ → Owner → Monitor
with_owner s pages now = record s { owner = λ page. if is_among pages page then Some now else s.owner page }

abbrev pub with_progress : Monitor → ℕ → Progress → Monitor
with_progress s actor now = record s { progress = λ other. if other == actor then now else s.progress other }

-- an actor's next line has begun
abbrev pub begin : Monitor → ℕ → Monitor
begin s actor = with_progress s actor (record (s.progress actor) { begun = true })

-- an actor's next line is answered
abbrev pub answer : Monitor → ℕ → Monitor
answer s actor = with_progress s actor (record { answered = (s.progress actor).answered + 1; begun = false })
