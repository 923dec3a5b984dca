-- The rows of `create` and `shadow` that put a page.
use Rattle.std.proofs.Common.{◌≡◌, ℕ, zero, suc, ◌+◌, ◌<◌, ◌≤◌, ◌⊎◌, Bool, true, false, List, [], ◌∷◌, length, map, take, get_or, slice_get, unwrap_or, Option, Some, None, refl, sym, ap, ◌∙◌, subst, arith, inl, inr}
use Rattle.std.specs.Prelude.{Contains}
use Rattle.std.specs.List.{All, AllByRecursion}
use Rattle.std.proofs.lemmas.List.{take_all}
use Rattle.std.proofs.lemmas.List.Elements.{All-from_recursion, All-get_or, recursion_from_All}
use Rattle.std.proofs.lemmas.Option.{get_or_from_slice_get, slice_get_within}
use Rattle.pl_base.specs.declared.number.EncNo.{EncNo}
use Rattle.pl_base.specs.States.{is_free}
use Rattle.mem_ctl.specs.Laws.{PageWritesTell}
use Rattle.mon_enclave.specs.declared.enclave.Enclave.{Enclave}
use Rattle.mon_enclave.specs.declared.enclave.PageKind.TheVariants.{Own}
use Rattle.mon_enclave.specs.Records.{enclave_at}
use Rattle.mon_image.specs.declared.image.Image.{Image}
use Rattle.mon_image.specs.declared.page.ImagePage.{ImagePage}
use Rattle.mon_life.specs.Pages.{page_put_at}
use Rattle.mon_life.specs.Putting.{steps_of}
use Rattle.mon_owner.specs.declared.owners.Owner.{Owner}
use Rattle.pl_history.specs.Monitor.{Monitor, flat_page}
use Rattle.world_attack.specs.Room.{RoomStays}
use Rattle.world_machine.specs.declared.under.Under.TheVariants.{Putting}
use Rattle.world_machine.specs.EnclavesAgree.{EnclaveStands, IsOwnOrShared, IsOwn}
use Rattle.world_machine.specs.LinesUnderWay.{IsBuilding, LineUnderWay}
use Rattle.world_machine.specs.Making.{image_of, put_next}
use Rattle.world_machine.specs.Pages.{flat_pages, numbers_of}
use Rattle.world_machine.specs.Standing.{Kept, state_of, written_page}
use Rattle.world_machine.specs.Worlds.{WorldData, answered_at, hart_line, under_at}
use Rattle.world_machine.proofs.MakeLines.{building_is, concerns, ended_gives, has_put, is_building, make_line, make_names, make_walks_none, makes_number, may_end, may_fault, put_has, refused_gives}
use Rattle.world_machine.proofs.PutRows.{Puts, put_kept}
use Rattle.world_machine.proofs.PutSteps.{own_put, own_size, put_image_bytes}
use Rattle.world_machine.proofs.UnderWay.{own_numbers}

-- one more element of a list is an earlier one, or the one at that place
take_more : (xs : List ℕ) (n x : ℕ) → Contains (take (suc n) xs) x → Contains (take n xs) x ⊎ (slice_get xs n ≡ Some x)
take_more [] n x (i, below, is) = absurd (omega arith)
take_more (y ∷ xs) zero x (zero, below, is) = inr (ap Some is)
take_more (y ∷ xs) zero x (suc i, below, is) = absurd (omega arith)
take_more (y ∷ xs) (suc n) x (zero, below, is) = inl (zero, omega arith, is)
take_more (y ∷ xs) (suc n) x (suc i, below, is) = further (take_more xs n x (i, omega arith, is))
  where
    further : Contains (take n xs) x ⊎ (slice_get xs n ≡ Some x) → Contains (y ∷ take n xs) x ⊎ (slice_get xs n ≡ Some x)
    further (inl (j, few, at)) = inl (suc j, omega arith, at)
    further (inr at) = inr at

-- pages that have an image's bytes are the image's
flat_is : (bytes : ℕ → List ℕ) (image : List ImagePage) (numbers : List ℕ) → length numbers ≡ length image
    → ((i : ℕ) (page : ImagePage) → slice_get image i ≡ Some page → bytes (get_or numbers i 0) ≡ page.bytes) → map flat_page image ≡ flat_pages bytes image numbers
flat_is bytes [] numbers size each = refl
flat_is bytes (page ∷ image) [] size each = absurd (let h : 0 ≡ suc (length image) = size in omega arith)
flat_is bytes (page ∷ image) (number ∷ numbers) size each =
    let first : page.bytes ≡ bytes number = sym (each 0 page refl) in
    let rest : map flat_page image ≡ flat_pages bytes image numbers
    = flat_is bytes image numbers (let h : suc (length numbers) ≡ suc (length image) = size in omega arith) (λ i p at. each (suc i) p at) in
    λ i. record { perms = page.perms; bytes = first i } ∷ rest i

-- where all pages of a record are its own, each is owned
pub own_held : (owners : List Owner) (e : ℕ) (parent : Option EncNo) (pages : List ℕ)
    → AllByRecursion (IsOwnOrShared owners e parent) (map Own pages) → AllByRecursion (IsOwn owners e) pages
own_held owners e parent [] all = tt
own_held owners e parent (page ∷ pages) all = (all.0, own_held owners e parent pages all.1)

-- a number has a step at least for each page of its image
steps_more : (shadow : Bool) (pages : ℕ) → pages ≤ steps_of shadow pages
steps_more true pages = omega arith
steps_more false pages = omega arith

module _ (digest_of : List ℕ → List ℕ) (tells : PageWritesTell digest_of) (room_stays : RoomStays) (w : WorldData) (k : Kept digest_of w) (none : w.collision ≡ None) (hart : ℕ)
    (below : hart < w.setup.harts) (positions : List ℕ) (shadow : Bool) (e : EncNo) (image : ℕ) (pages : List ℕ) (done : ℕ)
    (here : hart_line w hart ≡ Some (make_line shadow e image pages)) (so_far : under_at w.under hart ≡ Putting done) where
  abbrev s : Monitor
  s = state_of w

  abbrev r : Enclave
  r = enclave_at w.enclaves e.0

  abbrev im : Image
  im = image_of w.setup image

  building : IsBuilding w.setup (written_page w) r e.0 image shadow pages done
  building = is_building e image pages w.setup (written_page w) (enclave_at w.enclaves) s.number hart done shadow
      (subst (λ l. LineUnderWay w.setup (written_page w) (enclave_at w.enclaves) s.number hart l (Putting done)) here
      (subst (LineUnderWay w.setup (written_page w) (enclave_at w.enclaves) s.number hart (hart_line w hart)) so_far (k.stands.lines hart)))

  stands : EnclaveStands w.setup (written_page w) w.owners e.0 r (s.number e.0)
  stands = k.stands.enclaves e.0 (ap is_free building.putting.state)

  image_now : im ≡ stands.image
  image_now = ap (λ i. image_of w.setup i) (sym building.putting.image_is) ∙ ap (λ o. unwrap_or o (record { entry = 0; pages = [] })) stands.image_is

  as_many : length r.pages ≡ length im.pages
  as_many = stands.held.count ∙ ap (λ (i : Image). length i.pages) (sym image_now)

  numbers_are : numbers_of r.pages ≡ pages
  numbers_are = ap numbers_of building.pages_are ∙ own_numbers pages

  all : length pages ≡ length im.pages
  all = ap length (sym numbers_are) ∙ own_size w.setup.tables e.0 im r.pages as_many

  page_is : (at : ℕ) → at < length im.pages → (page_put_at w.setup.tables e.0 im r.pages at).page ≡ get_or pages at 0
  page_is at low = own_put w.setup.tables e.0 im r.pages as_many at low ∙ ap (λ ps. get_or ps at 0) numbers_are

  own_pages : All (IsOwn w.owners e.0) pages
  own_pages = All-from_recursion (IsOwn w.owners e.0) pages (own_held w.owners e.0 r.parent pages (recursion_from_All (IsOwnOrShared w.owners e.0 r.parent) (map Own pages)
      (subst (All (IsOwnOrShared w.owners e.0 r.parent)) building.pages_are stands.held.owned)))

  more_put : (own : ℕ) → Contains (take (done + 1) pages) own → Contains (take done pages) own ⊎ ((page_put_at w.setup.tables e.0 im r.pages done).page ≡ own)
  more_put own is = elim (take_more pages done own (subst (λ m. Contains (take m pages) own) (let next : done + 1 ≡ suc done = omega arith in next) is)) [
    | inl before ↦ inl before
    | inr at ↦ inr (let inside : done < length pages = slice_get_within pages done own at in
        page_is done (subst (λ n. done < n) all inside) ∙ get_or_from_slice_get pages done own 0 at)
  ]

  puts_now : Puts digest_of tells room_stays w k none hart below positions (make_line shadow e image pages) e image shadow 0 done here so_far
  puts_now = record {
    there = (make_names e image pages w.setup hart (answered_at w.answered hart) shadow k.sizes.rules here).there;
    puts = building.putting;
    from = omega arith;
    first_low = omega arith;
    owned = λ at from low. subst (IsOwn w.owners e.0) (sym (page_is at low)) (All-get_or (IsOwn w.owners e.0) pages at 0 (subst (λ n. at < n) (sym all) low) own_pages);
    under_way = makes_number e image pages shadow;
    no_walk = make_walks_none e image pages shadow w.setup.tables;
    goes_on = λ bytes_of at from putting. building_is e image pages w.setup bytes_of (enclave_at w.enclaves) s.number hart at shadow
        (record { pages_are = building.pages_are; putting = putting });
    more_put = λ own is. elim (more_put own (has_put e image pages shadow (done + 1) own is)) [
      | inl before ↦ inl (put_has e image pages shadow done own before)
      | inr at ↦ inr at
    ];
    all_put = λ last own is. inl (put_has e image pages shadow (done + 1) own
        (subst (λ ps. Contains ps own) (numbers_are ∙ sym (take_all (done + 1) pages (let more = steps_more shadow (length im.pages) in omega (arith, last, all)))) is));
    has_bytes = λ last bytes_of stay have. flat_is bytes_of im.pages (numbers_of r.pages) (own_size w.setup.tables e.0 im r.pages as_many)
        (λ i page at.
        let low : i < length im.pages = slice_get_within im.pages i page at in
        let more = steps_more shadow (length im.pages) in
        ap bytes_of (sym (own_put w.setup.tables e.0 im r.pages as_many i low)) ∙ have i (omega arith) (omega (arith, last))
        ∙ put_image_bytes w.setup.tables e.0 im r.pages i page at);
    concerns = concerns e image pages w.setup s shadow;
    may_end = may_end e image pages w.setup s shadow;
    ended = ended_gives e image pages s hart shadow;
    may_fault = may_fault e image pages w.setup s shadow;
    faulted = λ cause begun. refused_gives e image pages s hart shadow true cause begun;
  }

  -- an event that puts a page of a `create` or a `shadow` keeps what a world keeps
  pub put_next_kept : Kept digest_of (put_next digest_of w hart positions e.0 image shadow done).world
  put_next_kept = put_kept digest_of tells room_stays w k none hart below positions (make_line shadow e image pages) e image shadow 0 done here so_far puts_now
