-- A number's record is one that can be made: once all steps that make it stand, the pages of its tables have the words of its leaves.
use Rattle.std.proofs.Common.{◌≡◌, ℕ, ◌+◌, ◌-◌, ◌/◌, ◌%◌, ◌<◌, ◌≤◌, leb, false, List, length, sym, ap, ◌∙◌, subst, arith, inl, inr}
use Rattle.std.specs.Prelude.{IsTrue}
use Rattle.std.specs.List.{All}
use Rattle.std.proofs.lemmas.Bool.{and_parts, cases_lt, leb-true}
use Rattle.std.proofs.lemmas.List.Elements.{All-weaker}
use Rattle.pl_base.specs.Perms.{are_page_perms}
use Rattle.pl_base.specs.States.{is_free}
use Rattle.mem_ctl.specs.Data.{CtlData}
use Rattle.mem_geom.specs.Parts.{page_bytes}
use Rattle.mon_enclave.specs.declared.enclave.Enclave.{Enclave}
use Rattle.mon_enclave.specs.declared.enclave.PageKind.{PageKind}
use Rattle.mon_enclave.specs.declared.enclave.PageKind.TheVariants.{Own, Shared}
use Rattle.mon_enclave.specs.Records.{enclave_at, page_number_of}
use Rattle.mon_host.specs.Laws.{mirror_words}
use Rattle.mon_host.proofs.SpaceLemmas.{word_of_page}
use Rattle.mon_image.specs.declared.image.Image.{Image}
use Rattle.mon_image.specs.declared.page.ImagePage.{ImagePage}
use Rattle.mon_life.specs.Laws.{IsMaking, StepsStand}
use Rattle.mon_life.specs.Pages.{leaves_of}
use Rattle.mon_life.proofs.TableLemmas.{put_tables}
use Rattle.mon_tables.specs.SpaceWalks.{NumberTables, word_address}
use Rattle.mon_tables.specs.Tables.{table_number}
use Rattle.pl_history.specs.Rules.{guarded_of, pages_of}
use Rattle.world_machine.specs.EnclavesAgree.{EnclaveStands, IsOwnOrShared, IsOwn}
use Rattle.world_machine.specs.Making.{image_of}
use Rattle.world_machine.specs.Standing.{Kept, state_of, written_page}
use Rattle.world_machine.specs.Worlds.{WorldData}
use Rattle.world_machine.proofs.LiveEnclaves.{image_found}
use Rattle.world_machine.proofs.NumberRows.{own_guard, own_within}
use Rattle.world_machine.proofs.SetupFacts.{guarded_few, image_few, image_perms, used_there}
use Rattle.world_machine.proofs.TranslationFrames.{few_numbers, few_tables}

module _ (digest_of : List ℕ → List ℕ) (w : WorldData) (k : Kept digest_of w) where
  pub few_zones : w.setup.zones ≤ 64
  few_zones = leb-true w.setup.zones 64 (and_parts (leb 1 w.setup.zones) (leb w.setup.zones 64) k.sizes.rules.zones).1

  -- a number's own pages stand behind the guarded ones
  own_above : (e page : ℕ) → IsOwn w.owners e page → guarded_of w.setup.tables w.setup.enclaves ≤ page
  own_above e page own = elim (cases_lt page (guarded_of w.setup.tables w.setup.enclaves)) [
    | inl low ↦ absurd (own_guard digest_of w k e page own (k.sizes.guarded page low))
    | inr past ↦ past
  ]

  own_below : (e page : ℕ) → IsOwn w.owners e page → page < pages_of w.setup.zones
  own_below e page own =
      let zones : w.ctl.zones ≡ w.setup.zones = k.sizes.zones in
      let within = own_within digest_of w k e page own in
      omega arith

  module _ (e : ℕ) (used : is_free (enclave_at w.enclaves e).state ≡ false) where
    abbrev r : Enclave
    r = enclave_at w.enclaves e

    abbrev image : Image
    image = image_of w.setup r.image

    stands : EnclaveStands w.setup (written_page w) w.owners e r ((state_of w).number e)
    stands = k.stands.enclaves e used

    same_image : image ≡ stands.image
    same_image = image_found w.setup r.image stands.image stands.image_is

    -- what holds of all pages that numbers own holds of those of its record
    each_kind : (P : ℕ → Type 0) → ((f page : ℕ) → IsOwn w.owners f page → P page) → All (λ (kind : PageKind). P (page_number_of kind)) r.pages
    each_kind P holds = All-weaker (IsOwnOrShared w.owners e r.parent) (λ (kind : PageKind). P (page_number_of kind)) of_kind r.pages stands.held.owned
      where
        of_kind : (kind : PageKind) → IsOwnOrShared w.owners e r.parent kind → P (page_number_of kind)
        of_kind (Own page) own = holds e page own
        of_kind (Shared page) (shadow, is, own) = holds shadow.0 page own

    -- the steps that make it are those of a number that can be made
    pub number_making : IsMaking w.setup.tables w.setup.enclaves e (pages_of w.setup.zones) image r.pages
    number_making = record {
      few_tables = few_tables digest_of w k;
      few_numbers = few_numbers digest_of w k;
      number = subst (λ size. e < size) k.sizes.numbers (used_there w.enclaves e used);
      few_pages = (let few = few_zones in omega arith);
      few = subst (λ (i : Image). length i.pages ≤ 256) (sym same_image) (image_few w.setup r.image stands.image k.sizes.rules stands.image_is);
      count = stands.held.count ∙ ap (λ (i : Image). length i.pages) (sym same_image);
      perms = subst (λ (i : Image). All (λ (page : ImagePage). IsTrue (are_page_perms page.perms)) i.pages) (sym same_image)
          (image_perms w.setup r.image stands.image k.sizes.rules stands.image_is);
      guarded = (let few = guarded_few w.setup k.sizes.rules in omega arith);
      above = each_kind (λ page. guarded_of w.setup.tables w.setup.enclaves ≤ page) own_above;
      below = each_kind (λ page. page < pages_of w.setup.zones) own_below;
    }

    -- where the last three steps stand in memory, so do the number's tables
    pub made_tables : (c : CtlData) → StepsStand w.setup.tables e image r.pages (page_bytes c.mirror) (length image.pages) (length image.pages + 3)
        → NumberTables w.setup.tables e (mirror_words c) (leaves_of r.pages image.pages)
    made_tables c put level k low small =
        let page : ℕ = table_number w.setup.tables e level in
        word_of_page c.mirror (word_address page k / 4096 - 0x80000) (word_address page k % 4096) (omega arith)
        ∙ put_tables w.setup.tables w.setup.enclaves e (pages_of w.setup.zones) image r.pages number_making (page_bytes c.mirror) put level k low small
