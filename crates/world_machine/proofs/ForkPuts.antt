-- The rows of `fork` that put a table.
use Rattle.std.proofs.Common.{◌≡◌, ◌≢◌, ℕ, ◌+◌, ◌<◌, ltb, true, false, if◌then◌else◌, List, [], ◌∷◌, map, is_some, Option, Some, None, refl, sym, ap, ◌∙◌, subst, arith, inr}
use Rattle.std.specs.Prelude.{Contains}
use Rattle.std.specs.List.{AllByRecursion}
use Rattle.std.proofs.lemmas.Bool.{and_parts, false≢true, ltb-true}
use Rattle.std.proofs.lemmas.List.Elements.{All-from_recursion, All-weaker, recursion_from_All}
use Rattle.pl_base.specs.declared.number.EncNo.{EncNo}
use Rattle.rv_alone.specs.Alone.{place_in}
use Rattle.mem_ctl.specs.Laws.{PageWritesTell}
use Rattle.mon_enclave.specs.declared.enclave.Enclave.{Enclave}
use Rattle.mon_enclave.specs.Records.{enclave_at, is_shared}
use Rattle.pl_history.specs.declared.line.Line.TheVariants.{Fork}
use Rattle.pl_history.specs.Making.{made_faulted}
use Rattle.pl_history.specs.Monitor.{Monitor, Number, answer, flat_page}
use Rattle.pl_history.specs.ShadowPages.{IsFork}
use Rattle.pl_history.proofs.ShadowLemmas.{fork_of}
use Rattle.world_attack.specs.Room.{RoomStays}
use Rattle.world_machine.specs.declared.under.Under.TheVariants.{Putting}
use Rattle.world_machine.specs.EnclavesAgree.{IsOwn}
use Rattle.world_machine.specs.LinesUnderWay.{IsForking, LineUnderWay, first_table_step}
use Rattle.world_machine.specs.Making.{image_of, put_next}
use Rattle.world_machine.specs.Pages.{flat_pages, numbers_of}
use Rattle.world_machine.specs.PagesAgree.{PagesAre, forked_kind, forked_kinds}
use Rattle.world_machine.specs.RecordsAgree.{parent_of}
use Rattle.world_machine.specs.Standing.{Kept, state_of, written_page}
use Rattle.world_machine.specs.Worlds.{WorldData, answered_at, hart_line, under_at}
use Rattle.world_machine.proofs.BrokenPages.{fork_kinds}
use Rattle.world_machine.proofs.ForkedNumbers.{shadows_stand}
use Rattle.world_machine.proofs.Frames.{flat_pages-same}
use Rattle.world_machine.proofs.PutRows.{Puts, put_kept}
use Rattle.world_machine.proofs.ForkRows.{source_agrees, source_bytes, source_owned}
use Rattle.world_machine.proofs.SetupFacts.{line_names}

-- where none of a forked number's pages is its own, they are the shadow's
none_own : (spares broken : List ℕ) (at : ℕ) (shared : List ℕ) → AllByRecursion (λ kind. is_shared kind ≡ true) (forked_kinds spares broken at shared)
    → numbers_of (forked_kinds spares broken at shared) ≡ shared
none_own spares broken at [] all = refl
none_own spares broken at (page ∷ shared) all = from (place_in at broken) all.0 (none_own spares broken (at + 1) shared all.1)
  where
    from : (o : Option ℕ) → is_shared (forked_kind spares o page) ≡ true → numbers_of (forked_kinds spares broken (at + 1) shared) ≡ shared
        → numbers_of (forked_kind spares o page ∷ forked_kinds spares broken (at + 1) shared) ≡ page ∷ shared
    from None is rest = ap (λ numbers. page ∷ numbers) rest
    from (Some k) is rest = absurd (false≢true is)

some_of : {A : Type 0} (o : Option A) → is_some o ≡ true → (x : A) × (o ≡ Some x)
some_of None is = absurd (false≢true is)
some_of (Some x) is = (x, refl)

module _ (digest_of : List ℕ → List ℕ) (tells : PageWritesTell digest_of) (room_stays : RoomStays) (w : WorldData) (k : Kept digest_of w) (none : w.collision ≡ None) (hart : ℕ)
    (below : hart < w.setup.harts) (positions : List ℕ) (shadow e : EncNo) (pages : List ℕ) (done : ℕ) (here : hart_line w hart ≡ Some (Fork shadow e pages))
    (so_far : under_at w.under hart ≡ Putting done) where
  abbrev s : Monitor
  s = state_of w

  abbrev r : Enclave
  r = enclave_at w.enclaves e.0

  abbrev n : Number
  n = s.number e.0

  forking_now : IsForking w.setup (written_page w) r e.0 done
  forking_now =
      subst (λ l. LineUnderWay w.setup (written_page w) (enclave_at w.enclaves) s.number hart l (Putting done)) here
      (subst (LineUnderWay w.setup (written_page w) (enclave_at w.enclaves) s.number hart (hart_line w hart)) so_far (k.stands.lines hart))

  -- the shadow that it was forked from
  parent_is : (source : EncNo) × (r.parent ≡ Some source)
  parent_is = some_of r.parent forking_now.forked

  abbrev from_shadow : ℕ
  from_shadow = parent_is.0.0

  number_parent : n.parent ≡ Some from_shadow
  number_parent = (k.stands.records e.0).parent ∙ ap parent_of parent_is.1

  fork : IsFork s.number e.0 from_shadow n.image n.pages
  fork = fork_of w.setup s.number (shadows_stand digest_of w k) e.0 from_shadow number_parent

  -- has its pages and its image
  same_numbers : numbers_of r.pages ≡ (s.number from_shadow).pages
  same_numbers =
      let now : PagesAre w.setup s.number r n = k.stands.pages e.0 in
      let kinds = fork_kinds w.setup s.number r n now from_shadow number_parent in
      ap numbers_of kinds ∙ none_own n.spares now.broken 0 (s.number from_shadow).pages
      (subst (AllByRecursion (λ kind. is_shared kind ≡ true)) kinds (recursion_from_All (λ kind. is_shared kind ≡ true) r.pages forking_now.shared))

  same_image : (enclave_at w.enclaves from_shadow).image ≡ r.image
  same_image = sym (k.stands.records from_shadow).image ∙ fork.same ∙ (k.stands.records e.0).image

  has_bytes : (bytes_of : ℕ → List ℕ) → ((f page : ℕ) → f ≢ e.0 → IsOwn w.owners f page → bytes_of page ≡ written_page w page)
      → map flat_page (image_of w.setup r.image).pages ≡ flat_pages bytes_of (image_of w.setup r.image).pages (numbers_of r.pages)
  has_bytes bytes_of stay =
      let its_pages : List ℕ = (s.number from_shadow).pages in
      let bytes_stay : AllByRecursion (λ page. bytes_of page ≡ written_page w page) its_pages
      = recursion_from_All (λ page. bytes_of page ≡ written_page w page) its_pages (All-weaker (IsOwn w.owners from_shadow) (λ page. bytes_of page ≡ written_page w page)
      (λ page own. stay from_shadow page fork.other own) its_pages
      (All-from_recursion (IsOwn w.owners from_shadow) its_pages (source_owned digest_of w k from_shadow fork.sealed fork.whole))) in
      subst (λ i. map flat_page (image_of w.setup i).pages ≡ flat_pages (written_page w) (image_of w.setup i).pages its_pages) same_image
      (source_bytes digest_of w k from_shadow fork.sealed fork.whole)
      ∙ sym (flat_pages-same (written_page w) bytes_of (image_of w.setup r.image).pages its_pages bytes_stay)
      ∙ ap (flat_pages bytes_of (image_of w.setup r.image).pages) (sym same_numbers)

  puts_now : Puts digest_of tells room_stays w k none hart below positions (Fork shadow e pages) e r.image false (first_table_step w.setup r) done here so_far
  puts_now = record {
    there = (
        let names = line_names w.setup hart (answered_at w.answered hart) (Fork shadow e pages) k.sizes.rules here in
        ltb-true e.0 w.setup.enclaves (and_parts (ltb shadow.0 w.setup.enclaves) (ltb e.0 w.setup.enclaves) names).1);
    puts = forking_now.putting;
    from = forking_now.from;
    first_low = omega arith;
    owned = λ at from low. absurd (omega arith);
    under_way = λ at. refl;
    no_walk = λ rec at. refl;
    goes_on = λ bytes_of at from putting. record { forked = forking_now.forked; shared = forking_now.shared; from = from; putting = putting };
    more_put = λ own is. absurd is;
    all_put = λ last own is. inr (source_agrees digest_of w k from_shadow fork.sealed fork.whole own (subst (λ pages. Contains pages own) same_numbers is));
    has_bytes = λ last bytes_of stay have. has_bytes bytes_of stay;
    concerns = refl;
    may_end = refl;
    ended = refl;
    may_fault = λ place licensed. licensed;
    faulted = λ cause begun. ap (λ b. answer (if b then made_faulted s e.0 else s) hart) begun;
  }

  -- an event that puts a table of a `fork` keeps what a world keeps
  pub put_table_kept : Kept digest_of (put_next digest_of w hart positions e.0 r.image false done).world
  put_table_kept = put_kept digest_of tells room_stays w k none hart below positions (Fork shadow e pages) e r.image false (first_table_step w.setup r) done here so_far puts_now
