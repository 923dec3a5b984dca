-- The record of an enclave number, and what each call makes of it.
use Rattle.std.specs.Prelude.{ℕ, ◌+◌, ◌≤◌, ◌==◌, nat_lt, Bool, true, false, List, [], ◌∷◌, ◌++◌, length, map, drop, filter_map, replicate, slice_get, slice_index, slice_set, unwrap_or, Option, Some, None}
use Rattle.std.specs.Option.{option_map_or}
use Rattle.pl_base.specs.declared.number.EncNo.{EncNo}
use Rattle.pl_base.specs.declared.refusal.No.{No}
use Rattle.pl_base.specs.declared.refusal.No.TheVariants.{NoEnclave, Full, Empty}
use Rattle.pl_base.specs.declared.state.State.TheVariants.{Free, Building}
use Rattle.pl_base.specs.Refusals.{refuse, first_refusal}
use Rattle.pl_base.specs.States.{is_wordless}
use Rattle.rv_alone.specs.declared.step.Context.{Context}
use Rattle.rv_alone.specs.Alone.{most_words}
use Rattle.rv_alone.specs.Flat.{start_registers}
use Rattle.mon_image.specs.declared.image.Image.{Image}
use Rattle.mon_enclave.specs.declared.enclave.PageKind.{PageKind}
use Rattle.mon_enclave.specs.declared.enclave.PageKind.TheVariants.{Own, Shared}
use Rattle.mon_enclave.specs.declared.enclave.Enclave.{Enclave}

-- the number of a page of either kind
abbrev pub page_number_of : PageKind → ℕ
page_number_of (Own page) = page
page_number_of (Shared page) = page

-- a page that is the number's own
abbrev pub page_if_own : PageKind → Option ℕ
page_if_own (Own page) = Some page
page_if_own (Shared page) = None

-- the record of a number that is free from the start
abbrev pub free_enclave : Enclave
free_enclave = record {
  image = 0;
  pages = [];
  spares = [];
  given = 0;
  context = record { regs = replicate 32 0; pc = 0 };
  sent = [];
  received = 0;
  out = [];
  shown = 0;
  taken = 0;
  retired = 0;
  state = Free;
  hart = record { 0 = 0 };
  parent = None;
}

-- the record of number e stands at place e
abbrev pub enclave_at : List Enclave → ℕ → Enclave
enclave_at all e = unwrap_or (slice_get all e) free_enclave

-- number e has this record now, and each other number its own
abbrev pub with_enclave : List Enclave → ℕ → Enclave → List Enclave
with_enclave all e now = slice_set all e now

-- what holds of each record: the counts don't pass what they count, and the lists don't pass their room
pub record IsEnclave (enclave : Enclave) : Type 0 where
  pub received_few : enclave.received ≤ length enclave.sent
  pub sent_few : length enclave.sent ≤ most_words
  pub taken_few : enclave.taken ≤ enclave.shown
  pub shown_few : enclave.shown ≤ length enclave.out
  pub out_few : length enclave.out ≤ most_words
  pub pages_few : length enclave.pages ≤ 256
  pub spares_few : length enclave.spares ≤ 256
  pub spares_given : length enclave.spares ≤ enclave.given
  pub given_few : enclave.given ≤ 256

-- why no word can be sent to it: there is no enclave, or as many as may be were sent
abbrev pub send_refusal : Enclave → Option No
send_refusal enclave = first_refusal (refuse (is_wordless enclave.state) NoEnclave ∷ refuse (length enclave.sent == most_words) Full ∷ [])

-- why no word can be taken from it: there is no enclave, or each word that is shown was taken
abbrev pub take_refusal : Enclave → Option No
take_refusal enclave = first_refusal (refuse (is_wordless enclave.state) NoEnclave ∷ refuse (enclave.taken == enclave.shown) Empty ∷ [])

-- the first word sent out that wasn't taken, where there is one
abbrev pub taken_word : Enclave → Option ℕ
taken_word enclave = slice_get enclave.out enclave.taken

-- the first sent word that wasn't received, where there is one
abbrev pub received_word : Enclave → Option ℕ
received_word enclave = slice_get enclave.sent enclave.received

-- it may send out one more word
abbrev pub has_room : Enclave → Bool
has_room enclave = nat_lt (length enclave.out) most_words

-- the registers and pc with which the flat machine starts the image
abbrev pub start_context : Image → Context
start_context image = record { regs = start_registers (length image.pages); pc = image.entry }

-- the record of a number that is being built from an image of this number in these pages, which are its own
abbrev pub built : ℕ → Image → List ℕ → Enclave → Enclave
built number image pages enclave = record {
  image = number;
  pages = map Own pages;
  spares = [];
  given = 0;
  context = start_context image;
  sent = [];
  received = 0;
  out = [];
  shown = 0;
  taken = 0;
  retired = 0;
  state = Building;
  hart = enclave.hart;
  parent = None;
}

-- the pages that a number took from the host: those that are its own, and then the spares that it hasn't used
abbrev pub pages_held : Enclave → List ℕ
pages_held enclave = filter_map page_if_own enclave.pages ++ enclave.spares

-- the record of a number that is free again: only its image, its registers and its hart stay, which mean nothing then
abbrev pub freed : Enclave → Enclave
freed enclave = record free_enclave { image = enclave.image; context = enclave.context; hart = enclave.hart }

-- ---- copy on write

-- a page that is a shadow's
abbrev pub is_shared : PageKind → Bool
is_shared (Own page) = false
is_shared (Shared page) = true

-- page `index` of the image is shared
abbrev pub is_shared_at : Enclave → ℕ → Bool
is_shared_at enclave index = option_map_or is_shared (slice_get enclave.pages index) false

-- the same page, shared
abbrev pub as_shared : PageKind → PageKind
as_shared kind = Shared (page_number_of kind)

-- the record of a number that is being built as a fork of a shadow, with these spares: it has the shadow's image and registers, and shares its pages
abbrev pub forked : EncNo → Enclave → List ℕ → Enclave → Enclave
forked shadow source spares enclave = record {
  image = source.image;
  pages = map as_shared source.pages;
  spares = spares;
  given = length spares;
  context = source.context;
  sent = [];
  received = 0;
  out = [];
  shown = 0;
  taken = 0;
  retired = 0;
  state = Building;
  hart = enclave.hart;
  parent = Some shadow;
}

-- a page is the last of the spares
abbrev pub with_spare : Enclave → ℕ → Enclave
with_spare enclave page = record enclave { spares = enclave.spares ++ page ∷ []; given = enclave.given + 1 }

-- the spare that is used next, where one is left
abbrev pub next_spare : Enclave → ℕ
next_spare enclave = slice_index enclave.spares 0

-- page `index` of the image is the number's own: its next spare, which leaves the spares
abbrev pub with_own_page : Enclave → ℕ → Enclave
with_own_page enclave index =
    record enclave { pages = slice_set enclave.pages index (Own (next_spare enclave)); spares = drop 1 enclave.spares }
