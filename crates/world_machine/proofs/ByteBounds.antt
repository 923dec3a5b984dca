-- The pages of an image run alone stay bytes.
use Rattle.std.proofs.Common.{◌≡◌, ℕ, zero, suc, ◌+◌, ◌/◌, ◌%◌, ◌^◌, ◌<◌, Bool, true, false, cond, eqb, ltb, leb, List, [], ◌∷◌, ◌++◌, length, take, drop, set, map, Option, Some, None, option_and_then, slice_get, refl, ap, sym, ◌∙◌, subst, arith, inl, inr}
use Rattle.std.specs.Option.{option_map}
use Rattle.std.specs.List.{All}
use Rattle.std.specs.Int.{byte_at, bytes_low_first}
use Rattle.std.proofs.Math.Nat.{mod-lt}
use Rattle.std.proofs.lemmas.Bool.{cases_Bool}
use Rattle.std.proofs.lemmas.List.Elements.{All-append, All-cons, All-drop, All-nil, All-take}
use Rattle.std.proofs.lemmas.Option.{slice_get-map, slice_get_within, get_or_from_slice_get}
use Rattle.byteorder.specs.Endian.{little_bytes}
use Rattle.byteorder.specs.Numbers.{little_from-lt}
use Rattle.pl_base.specs.declared.access.Kind.{Kind}
use Rattle.pl_base.specs.declared.access.Kind.TheVariants as kind
use Rattle.pl_base.specs.declared.page.TheConstants.{IMAGE_START}
use Rattle.pl_base.specs.Bytes.{bytes_at, with_bytes}
use Rattle.pl_base.specs.Perms.{grants}
use Rattle.mon_image.specs.declared.image.Image.{Image}
use Rattle.mon_image.specs.declared.page.ImagePage.{ImagePage}
use Rattle.rv_alone.specs.declared.step.Act.{Act}
use Rattle.rv_alone.specs.declared.step.Act.TheVariants.{Set, Load, Store, Call, Trap}
use Rattle.rv_alone.specs.Effect.{act_of, advanced}
use Rattle.rv_alone.specs.Flat.{Image as FlatImage, Flat, Page, Status, on, ended, fetched, number_in, page_at, page_number, page_with_number, permitted, read, start_of}
use Rattle.rv_alone.specs.Alone.{Outcome, trap, wait, full, next, next_of, context_of, with_context, acts, loads, stores, calls, receives, sends, exits, runs, advance_by, alone}
use Rattle.pl_history.specs.Monitor.{flat_image, flat_page}
use Rattle.world_machine.specs.ByteBounds.{AreBytes, AreImageBytes}
use Rattle.world_machine.specs.Pages.{flat_pages}
use Rattle.world_machine.proofs.FlatPages.{joined, located, located_at, page_joined}
use Rattle.world_machine.proofs.WordParts.{byte_below, bytes_within}

-- each page's numbers are bytes
abbrev pub PagesAreBytes : List Page → Type 0
PagesAreBytes pages = (i : ℕ) (page : Page) → slice_get pages i ≡ Some page → AreBytes page.bytes

-- ---- a store

low_bytes_small : (j n x : ℕ) → AreBytes (bytes_low_first j n x)
low_bytes_small j zero x = All-nil (λ byte. byte < 256)
low_bytes_small j (suc n) x = All-cons (λ byte. byte < 256) (byte_at j x) (bytes_low_first (suc j) n x) (byte_small j) (low_bytes_small (suc j) n x)
  where
    byte_small : (k : ℕ) → byte_at k x < 256
    byte_small zero = omega arith
    byte_small (suc k) = mod-lt (x / 256 ^ suc k) {m = 256} (omega arith)

written_small : (bytes : List ℕ) (at width value : ℕ) → AreBytes bytes → AreBytes (with_bytes bytes at (little_bytes width value))
written_small bytes at width value small =
    let byte = λ (b : ℕ). b < 256 in
    All-append byte (take at bytes) (little_bytes width value ++ drop (at + length (little_bytes width value)) bytes) (All-take byte at bytes small)
    (All-append byte (little_bytes width value) (drop (at + length (little_bytes width value)) bytes) (low_bytes_small 0 width value) (All-drop byte (at + length (little_bytes width value)) bytes small))

set_small : (pages : List Page) (at : ℕ) (now : Page) → PagesAreBytes pages → AreBytes now.bytes → PagesAreBytes (set pages at now)
set_small [] at now small fits i page here = cc
set_small (p ∷ pages) zero now small fits zero page here = let e : now ≡ page = cc in subst (λ (x : Page). AreBytes x.bytes) e fits
set_small (p ∷ pages) zero now small fits (suc i) page here = small (suc i) page here
set_small (p ∷ pages) (suc at) now small fits zero page here = small zero page here
set_small (p ∷ pages) (suc at) now small fits (suc i) page here = set_small pages at now (λ j. small (suc j)) fits i page here

-- a page that an access is let through to is one of the pages
permitted_small : (k : Kind) (pages : List Page) (address : ℕ) (page : Page) → PagesAreBytes pages → permitted k pages address ≡ Some page → AreBytes page.bytes
permitted_small k pages address page small is = through (page_at pages address) refl is
  where
    placed : (t : Bool) → cond t (slice_get pages (page_number address)) None ≡ Some page → AreBytes page.bytes
    placed true e = small (page_number address) page e
    placed false e = cc

    through : (o : Option Page) → page_at pages address ≡ o → option_and_then (λ (p : Page). cond (grants p.perms k) (Some p) None) o ≡ Some page → AreBytes page.bytes
    through None at e = cc
    through (Some p) at e = elim (cases_Bool (grants p.perms k)) [
      | inl may ↦ (let h : Some p ≡ Some page = rw may at e in placed (leb IMAGE_START address) (at ∙ h))
      | inr may_not ↦ (let h : None ≡ Some page = rw may_not at e in cc)
    ]

-- ---- an instruction

-- what follows has bytes, where something follows
abbrev KeepsBytes : Outcome → Type 0
KeepsBytes outcome = (b : Flat) → next_of outcome ≡ Some b → PagesAreBytes b.pages

either : (t : Bool) (x y : Outcome) → KeepsBytes x → KeepsBytes y → KeepsBytes (cond t x y)
either true x y p q = p
either false x y p q = q

module _ (a : Flat) (small : PagesAreBytes a.pages) where
  goes_on : (c : Flat) → c.pages ≡ a.pages → KeepsBytes (next c)
  goes_on c same b e = let h : c ≡ b = cc in subst (λ (x : Flat). PagesAreBytes x.pages) h (subst PagesAreBytes (sym same) small)

  none_follows : (o : Outcome) → next_of o ≡ None → KeepsBytes o
  none_follows o none b e = absurd (let h : None ≡ Some b = sym none ∙ e in cc)

  called : (sent : List ℕ) (number value : ℕ) → KeepsBytes (calls a sent number value)
  called sent number value =
      either (eqb number 1) (exits a value) _ (goes_on _ refl)
      (either (eqb number 2) (receives a sent) _ (either (ltb a.received (length sent)) _ wait (goes_on _ refl) (none_follows wait refl))
      (either (eqb number 3) (sends a value) (trap 8 number) (either (ltb (length a.out) 4096) _ full (goes_on _ refl) (none_follows full refl)) (none_follows (trap 8 number) refl)))

  loaded : (address width : ℕ) (is_signed : Bool) (rd : ℕ) (raw : Option ℕ) → KeepsBytes (loads a address width is_signed rd raw)
  loaded address width is_signed rd None = none_follows (trap 13 address) refl
  loaded address width is_signed rd (Some raw) = goes_on _ refl

  stored_at : (address width value : ℕ) (page : Option Page) → permitted kind.Store a.pages address ≡ page
      → KeepsBytes (stores a address (option_map (λ (p : Page). set a.pages (page_number address) (page_with_number width address value p)) page))
  stored_at address width value None is b e = cc
  stored_at address width value (Some page) is b e =
      let pages : List Page = set a.pages (page_number address) (page_with_number width address value page) in
      let h : record (with_context a (advanced (context_of a))) { pages = pages } ≡ b = cc in
      subst (λ (x : Flat). PagesAreBytes x.pages) h
      (set_small a.pages (page_number address) (page_with_number width address value page) small
      (written_small page.bytes (address % 4096) width value (permitted_small kind.Store a.pages address page small is)))

  acted : (sent : List ℕ) (act : Act) → KeepsBytes (acts a sent act)
  acted sent (Set context) = goes_on _ refl
  acted sent (Load address width is_signed rd) = loaded address width is_signed rd (read a.pages address width)
  acted sent (Store address width value) = stored_at address width value (permitted kind.Store a.pages address) refl
  acted sent (Call number value) = called sent number value
  acted sent (Trap cause value) = none_follows (trap cause value) refl

  ran : (sent : List ℕ) (word : Option ℕ) → KeepsBytes (runs a sent word)
  ran sent None = none_follows (trap 12 a.pc) refl
  ran sent (Some word) = acted sent (act_of (context_of a) word)

  stepped : (s : Status) (sent : List ℕ) (b : Flat) → advance_by s a sent ≡ Some b → PagesAreBytes b.pages
  stepped on sent b e = ran sent (fetched a.pages a.pc) b e
  stepped (ended code) sent b e = cc

-- ---- a run

pub alone_bytes : (image : FlatImage) (sent : List ℕ) (n : ℕ) (a : Flat) → PagesAreBytes image.pages → alone image sent n ≡ Some a → PagesAreBytes a.pages
unfolding alone
alone_bytes image sent zero a small e = let h : start_of image ≡ a = cc in subst (λ (x : Flat). PagesAreBytes x.pages) h small
alone_bytes image sent (suc n) a small e = from (alone image sent n) (λ b is. alone_bytes image sent n b small is) e
  where
    from : (before : Option Flat) → ((b : Flat) → before ≡ Some b → PagesAreBytes b.pages) → option_and_then (λ (b : Flat). advance_by b.status b sent) before ≡ Some a → PagesAreBytes a.pages
    from None so_far step = cc
    from (Some b) so_far step = stepped b (so_far b refl) b.status sent a step

-- ---- the images of a setup

pages_small : (pages : List ImagePage) → All (λ (page : ImagePage). AreBytes page.bytes) pages → PagesAreBytes (map flat_page pages)
pages_small pages small i page here = from (slice_get pages i) refl (sym (slice_get-map flat_page pages i) ∙ here)
  where
    from : (o : Option ImagePage) → slice_get pages i ≡ o → option_map flat_page o ≡ Some page → AreBytes page.bytes
    from None is e = cc
    from (Some p) is e =
        let same : flat_page p ≡ page = cc in
        let there : AreBytes p.bytes = subst (λ (x : ImagePage). AreBytes x.bytes) (get_or_from_slice_get pages i p p is) (small i p (slice_get_within pages i p is)) in
        subst (λ (x : Page). AreBytes x.bytes) same there

pub image_bytes : (images : List Image) (number : ℕ) (image : Image) → AreImageBytes images → slice_get images number ≡ Some image → PagesAreBytes (flat_image image).pages
image_bytes images number image small is =
    pages_small image.pages
    (subst (λ (x : Image). All (λ (page : ImagePage). AreBytes page.bytes) x.pages) (get_or_from_slice_get images number image image is) (small number image (slice_get_within images number image is)))

-- the page of an access has bytes
pub located_bytes : (bytes_of : ℕ → List ℕ) (image : List ImagePage) (numbers : List ℕ) (k : Kind) (address page : ℕ) → PagesAreBytes (flat_pages bytes_of image numbers)
    → located k image numbers address ≡ Some page → AreBytes (bytes_of page)
located_bytes bytes_of image numbers k address page small is =
    let at = located_at k (leb IMAGE_START address) (slice_get image (page_number address)) (slice_get numbers (page_number address)) page is in
    let p : ImagePage = at.1.0 in
    small (page_number address) (record { perms = p.perms; bytes = bytes_of page })
    (page_joined bytes_of image numbers (page_number address) ∙ ap (λ o. joined bytes_of o (slice_get numbers (page_number address))) at.1.1 ∙ ap (joined bytes_of (Some p)) at.0)

-- a fetched word has 32 bits
pub fetched_small : (pages : List Page) (pc word : ℕ) → PagesAreBytes pages → fetched pages pc ≡ Some word → word < 2 ^ 32
fetched_small pages pc word small is = from (permitted kind.Fetch pages pc) refl is
  where
    from : (o : Option Page) → permitted kind.Fetch pages pc ≡ o → option_map (number_in 4 pc) o ≡ Some word → word < 2 ^ 32
    from None there e = cc
    from (Some page) there e =
        let same : number_in 4 pc page ≡ word = cc in
        let bytes : AreBytes (bytes_at page.bytes (pc % 4096) 4) = bytes_within page.bytes (pc % 4096) 4 (permitted_small kind.Fetch pages pc page small there) in
        subst (λ n. n < 2 ^ 32) same (little_from-lt 0 4 (bytes_at page.bytes (pc % 4096) 4) (byte_below (bytes_at page.bytes (pc % 4096) 4) bytes))
