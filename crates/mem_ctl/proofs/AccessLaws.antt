-- What every call of the controller leaves and tells.
use Rattle.std.proofs.Common.{◌≡◌, ℕ, ◌+◌, ◌*◌, ◌/◌, ◌%◌, ◌<◌, ◌≤◌, List, [], length, get_or, refl, subst, sym, ap, ◌∙◌, arith}
use Rattle.std.proofs.lemmas.List.Elements.{All-nil}
use Rattle.std.specs.Prelude.{true}
use Rattle.byteorder.specs.Endian.{little_bytes}
use Rattle.pl_base.specs.Bytes.{with_bytes}
use Rattle.pl_base.specs.declared.place.Place.{Place}
use Rattle.pl_base.specs.declared.place.Place.TheVariants.{Block, Node, RootNode}
use Rattle.mem_geom.specs.Layout.{Exists, place_bytes}
use Rattle.mem_geom.specs.Parts.{page_bytes}
use Rattle.mem_geom.specs.PathPlaces.{page_places, replaced_places, word_places}
use Rattle.mem_slots.specs.Slots.{is_mounted}
use Rattle.mem_tree.specs.Changes.{IsOfZone}
use Rattle.mem_tree.specs.Trees.{HasDigests}
use Rattle.mem_ctl.specs.Access.{Accessed, AllAsWritten, BothChange, BothStay, Leaves}
use Rattle.mem_ctl.specs.Calls.{accessed, ask_of, get_page_of, put_page_of, read_word_of, with_page_at, with_part, word_taken, write_part_of}
use Rattle.mem_ctl.specs.Data.{CtlData, Going, Outcome, Value, Fault, Collision, Again, After, answer, go_on}
use Rattle.mem_ctl.specs.Laws.{AsksTell, IsMounted, MountingsTell, PageIsRead, PageReadsTell, PageWritesTell, PathIsTaken, ReadsTell, WordIsRead, WritesTell}
use Rattle.mem_ctl.specs.Mounting.{mounted_for, taken, written}
use Rattle.mem_ctl.specs.Results.{is_of_zone}
use Rattle.mem_ctl.specs.TreesHold.{IsKept}
use Rattle.mem_ctl.specs.Writes.{word_at}
use Rattle.mem_ctl.specs.WrittenPages.{ChangesPage}
use Rattle.mem_ctl.proofs.AccessLemmas.{Accesses, IsPathIn, Stands, accessed-says, mounted_for-says, page_path-in, replaced_path-in, word_path-in}
use Rattle.mem_ctl.proofs.Agreement.{StillAgree-then}
use Rattle.mem_ctl.proofs.MountLemmas.{Keeps}
use Rattle.mem_ctl.proofs.PageCalls.{with_page_at-agree, with_page_at-held, with_page_at-hold, with_page_at-pages, with_page_at-sizes}
use Rattle.mem_ctl.proofs.PageParts.{change_after, page_stays, zone_place-stays}
use Rattle.mem_ctl.proofs.PageReads.{page_of_path}
use Rattle.mem_ctl.proofs.ReadLemmas.{same_words, word_of_path}
use Rattle.mem_ctl.proofs.Refusals.{OrRefused}
use Rattle.mem_ctl.proofs.ZoneLemmas.{of_zone-exists}
use Rattle.mem_ctl.proofs.WordCalls.{part_fits, with_part-agree, with_part-held_part, with_part-hold, with_part-pages, with_part-sizes}

-- ---- what a mounting and a use keep

module _ (d : List ℕ → List ℕ) (x y : CtlData) where
  pub both_stay : Keeps d x y → BothStay x y
  both_stay k = record {
    off_chip_zones = k.off_chip_front;
    mirror_zones = k.mirror_front;
    off_chip_pages = λ page below. page_stays x.off_chip y.off_chip page (k.held_kept (page / 64) (omega arith));
    mirror_pages = λ page below. page_stays x.mirror y.mirror page (k.pages_kept (page / 64) (omega arith));
  }

  pub keeps_leaves : IsKept d x → Keeps d x y → Leaves d x y
  keeps_leaves kept k = record {
    kept = record { trees = k.trees; some = omega (arith, k.slots_kept, kept.some); few = omega (arith, k.slots_kept, kept.few) };
    same_zones = k.zones_kept;
    same_slots = k.slots_kept;
    still_written = k.agree;
  }

none_checked : (x : CtlData) → AllAsWritten x []
none_checked x = All-nil (λ (place : Place). taken x place ≡ written x place)

is_zone_place : (zone : ℕ) (place : Place) → IsOfZone zone place → is_of_zone place ≡ true
is_zone_place zone (Block page block) of = refl
is_zone_place zone (Node level own index) of = refl
is_zone_place zone (RootNode level index) of = absurd of

module _ (d : List ℕ → List ℕ) (law : HasDigests d) where
  mounted_tells : (zone : ℕ) (x : CtlData) → IsKept d x → (o : Outcome (Unit {0})) (y : CtlData) → Keeps d x y → OrRefused d [] y o (is_mounted y.mounted zone ≡ true) → Accessed d [] (λ _. IsMounted zone x y) x o y
  mounted_tells zone x kept (Value a) y k mounted = record { leaves = keeps_leaves d x y kept k; whole = none_checked x; tells = record { pages = both_stay d x y k; mounts = mounted } }
  mounted_tells zone x kept (Fault p) y k why = record { leaves = keeps_leaves d x y kept k; whole = tt; tells = (both_stay d x y k, why) }
  mounted_tells zone x kept (Collision p a b) y k why = record { leaves = keeps_leaves d x y kept k; whole = tt; tells = (both_stay d x y k, why) }
  mounted_tells zone x kept (Again t r) y k why = absurd why

  pub mountings_tell : MountingsTell d
  mountings_tell zone g kept there =
      let r : After (Unit {0}) = mounted_for d zone g in
      let m = mounted_for-says d law [] zone g kept.trees there kept.some in
      mounted_tells zone g.ctl kept r.outcome r.after.ctl m.keeps m.mounted

  -- ---- a path that is asked for

  asked_tells : (page offset : ℕ) (x : CtlData) → IsKept d x → (o : Outcome (Unit {0})) (h : Going) → Keeps d x h.ctl → OrRefused d [] h.ctl o (is_mounted h.ctl.mounted (page / 64) ≡ true)
      → let r = go_on o h (λ _ n. answer (word_taken n.ctl page (offset / 64)) n) in Accessed d [] (PathIsTaken page offset x r.after.ctl) x r.outcome r.after.ctl
  asked_tells page offset x kept (Value a) h k mounted =
      record { leaves = keeps_leaves d x h.ctl kept k; whole = none_checked x; tells = record { zone = record { pages = both_stay d x h.ctl k; mounts = mounted }; as_held = refl } }
  asked_tells page offset x kept (Fault p) h k why = record { leaves = keeps_leaves d x h.ctl kept k; whole = tt; tells = (both_stay d x h.ctl k, why) }
  asked_tells page offset x kept (Collision p a b) h k why = record { leaves = keeps_leaves d x h.ctl kept k; whole = tt; tells = (both_stay d x h.ctl k, why) }
  asked_tells page offset x kept (Again t r) h k why = absurd why

  pub asks_tell : AsksTell d
  unfolding ask_of
  asks_tell page offset g kept there =
      let r : After (Unit {0}) = mounted_for d (page / 64) g in
      let m = mounted_for-says d law [] (page / 64) g kept.trees (omega arith) kept.some in
      asked_tells page offset g.ctl kept r.outcome r.after m.keeps m.mounted

  -- ---- accesses

  -- a path that stands as it was written after the mounting stood so before it
  was_whole : (page : ℕ) (places : List Place) → IsPathIn d law page places → (x m : CtlData) → page < 64 * x.zones → Stands d law (page / 64) places x m → AllAsWritten x places
  was_whole page places path x m there stands i e h =
      let k : Keeps d x m = stands.keeps in
      let p : Place = get_or places i e in
      let of : IsOfZone (page / 64) p = path.of_zone i e h in
      let exists : Exists x.zones p = of_zone-exists x.zones (page / 64) (omega arith) p of in
      let zone : is_of_zone p ≡ true = is_zone_place (page / 64) p of in
      sym (zone_place-stays x.zones x.off_chip m.off_chip p k.off_chip_front exists zone) ∙ ap (λ (n : ℕ). place_bytes n m.off_chip p) (sym k.zones_kept) ∙ stands.same i e h
      ∙ ap (λ (n : ℕ). place_bytes n m.mirror p) k.zones_kept ∙ zone_place-stays x.zones x.mirror m.mirror p k.mirror_front exists zone

  -- an access, from what it does where its path holds
  module _ {A : Type 0} (page : ℕ) (places : List Place) (path : IsPathIn d law page places) (value : CtlData → A) (change : CtlData → CtlData) (x : CtlData) (kept : IsKept d x) (there : page < 64 * x.zones) (Done : CtlData → A → Type 0)
      (goes : (m : CtlData) → Stands d law (page / 64) places x m → Leaves d x (change m) × Done (change m) (value m)) where
    access_tells : (o : Outcome A) (y : CtlData) → Accesses d law (page / 64) places value change x o y → Accessed d places (Done y) x o y
    access_tells (Value a) y says =
        let gone = goes says.0 says.1 in
        record {
          leaves = subst (Leaves d x) (sym says.3) gone.0;
          whole = was_whole page places path x says.0 there says.1;
          tells = subst (λ (w : CtlData). Done w a) (sym says.3) (subst (Done (change says.0)) (sym says.2) gone.1);
        }
    access_tells (Fault p) y says = record { leaves = keeps_leaves d x y kept says.0; whole = tt; tells = (both_stay d x y says.0, says.1) }
    access_tells (Collision p a b) y says = record { leaves = keeps_leaves d x y kept says.0; whole = tt; tells = (both_stay d x y says.0, says.1) }
    access_tells (Again t r) y says = absurd says

  pub reads_tell : ReadsTell d
  unfolding read_word_of
  reads_tell page offset g kept there inside aligned =
      let places : List Place = word_places page (offset / 64) in
      let path : IsPathIn d law page places = word_path-in d law page (offset / 64) (omega arith) in
      let value = λ (x : CtlData). word_at x.off_chip page offset in
      let same = λ (x : CtlData). x in
      let r : After ℕ = accessed d page places value same g in
      access_tells page places path value same g.ctl kept there (WordIsRead page offset g.ctl)
      (λ m stands.
      let k : Keeps d g.ctl m = stands.keeps in (
        keeps_leaves d g.ctl m kept k,
        record {
          pages = both_stay d g.ctl m k;
          as_written = word_of_path m page offset aligned stands.same ∙ same_words g.ctl.mirror m.mirror page offset inside aligned (k.pages_kept (page / 64) (omega arith));
          as_held = same_words g.ctl.off_chip m.off_chip page offset inside aligned (k.held_kept (page / 64) (omega arith));
        },
      ))
      r.outcome r.after.ctl (accessed-says d law page places path value same g kept.trees there kept.some)

  pub page_reads_tell : PageReadsTell d
  unfolding get_page_of
  page_reads_tell page g kept there =
      let path : IsPathIn d law page (page_places page) = page_path-in d law page in
      let value = λ (x : CtlData). page_bytes x.off_chip page in
      let same = λ (x : CtlData). x in
      let r : After (List ℕ) = accessed d page (page_places page) value same g in
      access_tells page (page_places page) path value same g.ctl kept there (PageIsRead page g.ctl)
      (λ m stands.
      let k : Keeps d g.ctl m = stands.keeps in
      let stays = both_stay d g.ctl m k in
      (keeps_leaves d g.ctl m kept k, record { pages = stays; as_written = page_of_path m page stands.same ∙ stays.mirror_pages page there; as_held = stays.off_chip_pages page there }))
      r.outcome r.after.ctl (accessed-says d law page (page_places page) path value same g kept.trees there kept.some)

  pub writes_tell : WritesTell d
  unfolding write_part_of
  writes_tell page offset width word g kept there in_page wide aligned =
      let b : ℕ = offset / 64 in
      let at : ℕ = offset % 64 in
      let part : List ℕ = little_bytes width word in
      let places : List Place = word_places page b in
      let path : IsPathIn d law page places = word_path-in d law page b (omega arith) in
      let value = λ (x : CtlData). tt {0} in
      let change = λ (x : CtlData). with_part d (taken x) page b at part x in
      let put_in = λ (bytes : List ℕ). with_bytes bytes offset part in
      let fits : at + length part ≤ 64 = part_fits width offset word wide aligned in
      let sum : 64 * b + at ≡ offset = omega arith in
      let old : CtlData = g.ctl in
      let r : After (Unit {0}) = accessed d page places value change g in
      access_tells page places path value change old kept there (λ y _. BothChange page put_in old y)
      (λ m stands.
      let k : Keeps d old m = stands.keeps in
      let in_zones : page < 64 * m.zones = omega (arith, k.zones_kept) in
      let below : b < 64 = omega arith in
      let y : CtlData = change m in
      let sizes = with_part-sizes d m (taken m) page b at part in
      let stays = both_stay d old m k in
      let on = λ (before : List ℕ) (after : List ℕ) (n : ℕ). ChangesPage m.zones page (with_bytes (page_bytes before page) n part) before after in (
        record {
          kept = record {
            trees = with_part-hold d law m k.trees page b in_zones below stands.is_there (taken m) stands.same at part fits;
            some = omega (arith, sizes.1, k.slots_kept, kept.some);
            few = omega (arith, sizes.1, k.slots_kept, kept.few);
          };
          same_zones = sizes.0 ∙ k.zones_kept;
          same_slots = sizes.1 ∙ k.slots_kept;
          still_written = StillAgree-then old.off_chip old.mirror m.off_chip m.mirror y.off_chip y.mirror k.agree
              (with_part-agree d law m k.trees page b in_zones below stands.is_there (taken m) stands.same at part fits);
        },
        record {
          off_chip_pages = change_after old.zones m.zones page put_in old.off_chip m.off_chip y.off_chip k.zones_kept there stays.off_chip_pages
              (subst (on m.off_chip y.off_chip) sum (with_part-held_part d law m k.trees page b in_zones below stands.is_there (taken m) stands.same at part fits (stands.same 4 (Block page b) (omega arith))));
          mirror_pages = change_after old.zones m.zones page put_in old.mirror m.mirror y.mirror k.zones_kept there stays.mirror_pages
              (subst (on m.mirror y.mirror) sum (with_part-pages d law m k.trees page b in_zones below stands.is_there (taken m) stands.same at part fits));
        },
      ))
      r.outcome r.after.ctl (accessed-says d law page places path value change g kept.trees there kept.some)

  pub page_writes_tell : PageWritesTell d
  unfolding put_page_of
  page_writes_tell page bytes g kept there size =
      let places : List Place = replaced_places page in
      let path : IsPathIn d law page places = replaced_path-in d law page in
      let value = λ (x : CtlData). tt {0} in
      let change = with_page_at d page bytes in
      let put_in = λ (old : List ℕ). bytes in
      let old : CtlData = g.ctl in
      let r : After (Unit {0}) = accessed d page places value change g in
      access_tells page places path value change old kept there (λ y _. BothChange page put_in old y)
      (λ m stands.
      let k : Keeps d old m = stands.keeps in
      let in_zones : page < 64 * m.zones = omega (arith, k.zones_kept) in
      let y : CtlData = change m in
      let sizes = with_page_at-sizes d m page bytes in
      let stays = both_stay d old m k in
      let holds = sym stands.holds in (
        record {
          kept = record {
            trees = with_page_at-hold d law m k.trees page in_zones stands.is_there bytes size holds;
            some = omega (arith, sizes.1, k.slots_kept, kept.some);
            few = omega (arith, sizes.1, k.slots_kept, kept.few);
          };
          same_zones = sizes.0 ∙ k.zones_kept;
          same_slots = sizes.1 ∙ k.slots_kept;
          still_written = StillAgree-then old.off_chip old.mirror m.off_chip m.mirror y.off_chip y.mirror k.agree (with_page_at-agree d law m k.trees page in_zones stands.is_there bytes size holds);
        },
        record {
          off_chip_pages = change_after old.zones m.zones page put_in old.off_chip m.off_chip y.off_chip k.zones_kept there stays.off_chip_pages (with_page_at-held d law m k.trees page in_zones stands.is_there bytes size holds);
          mirror_pages = change_after old.zones m.zones page put_in old.mirror m.mirror y.mirror k.zones_kept there stays.mirror_pages (with_page_at-pages d law m k.trees page in_zones stands.is_there bytes size holds);
        },
      ))
      r.outcome r.after.ctl (accessed-says d law page places path value change g kept.trees there kept.some)
