-- In a kept world each enclave number that isn't free is the image of the newest line that made it, and of one that isn't in use nothing is left.
use Rattle.std.proofs.Common.{◌≡◌, ◌⊎◌, ℕ, ◌+◌, ◌||◌, Bool, true, false, List, [], length, map, drop, slice_get, unwrap_or, Option, Some, None, option_map, refl, sym, ap, ◌∙◌, subst, arith, inl, inr}
use Rattle.std.proofs.Math.Seq.{drop-nil}
use Rattle.std.proofs.lemmas.Bool.{false≢true}
use Rattle.std.proofs.lemmas.List.Elements.{All-contains}
use Rattle.pl_base.specs.declared.number.EncNo.{EncNo}
use Rattle.pl_base.specs.declared.number.Space.{Space}
use Rattle.pl_base.specs.declared.state.State.{State}
use Rattle.pl_base.specs.declared.state.State.TheVariants as state_is
use Rattle.pl_base.specs.States.{is_dying, is_sealed}
use Rattle.rv_alone.specs.Alone.{alone}
use Rattle.rv_tlb.specs.declared.tlb.TlbEntry.{TlbEntry}
use Rattle.mon_enclave.specs.declared.enclave.Enclave.{Enclave}
use Rattle.mon_enclave.specs.declared.enclave.PageKind.TheVariants.{Own}
use Rattle.mon_enclave.specs.Records.{enclave_at}
use Rattle.mon_host.specs.Leaves.{host_space}
use Rattle.pl_history.specs.declared.setup.SetupParts.{SetupParts}
use Rattle.pl_history.specs.Monitor.{Monitor, Number, flat_image}
use Rattle.world_machine.specs.Accesses.{IsHostWalk, IsNumberWalk}
use Rattle.world_machine.specs.EnclavesAgree.{EnclaveStands, is_made}
use Rattle.world_machine.specs.NumberImages.{EachIsItsImage, HasNothing, HasPagesOf, IsItsImage, IsUntranslated, since_of}
use Rattle.world_machine.specs.Making.{image_of}
use Rattle.world_machine.specs.PagesAgree.{AreBroken, PagesAre, kinds_of, shared_by}
use Rattle.world_machine.specs.RecordsAgree.{LiveAgrees, RecordAgrees, RetiredAgrees, parent_of}
use Rattle.world_machine.specs.SinceMade.{SinceMade}
use Rattle.world_machine.specs.Standing.{Kept, state_of, written_page}
use Rattle.world_machine.specs.TranslationsAgree.{IsFresh, MayUseNumber, Walking}
use Rattle.world_machine.specs.Worlds.{WorldData, hart_line, tlb_at, under_at}
use Rattle.world_machine.proofs.AccessPages.{accesses_keep_to_pages}
use Rattle.world_machine.proofs.BrokenPages.{whole_kinds}
use Rattle.world_machine.proofs.FreeNumbers.{IsFreed, legal_freed}
use Rattle.world_machine.proofs.Leaving.{owed_state}
use Rattle.world_machine.proofs.SinceMade.{of_number, since_agrees}

-- ---- spaces

not_host : (e : ℕ) (space : Space) → space ≡ host_space → space ≡ record { 0 = e + 1 } → ⊥
not_host e space of_host of_number = (let h : e + 1 ≡ 0 = ap (λ (x : Space). x.0) (sym of_number ∙ of_host) in omega (arith, h))

same_number : (d e : ℕ) (space : Space) → space ≡ record { 0 = d + 1 } → space ≡ record { 0 = e + 1 } → d ≡ e
same_number d e space one other = (let h : d + 1 ≡ e + 1 = ap (λ (x : Space). x.0) (sym one ∙ other) in omega (arith, h))

-- ---- a free record

no_parent : (o : Option EncNo) → None ≡ parent_of o → o ≡ None
no_parent None is = refl
no_parent (Some e) is = cc

free_retired : (state : State) (retired n : ℕ) → state ≡ state_is.Free → RetiredAgrees state retired n → retired ≡ n
free_retired state retired n is agrees = subst (λ x. RetiredAgrees x retired n) is agrees

has_nothing : (setup : SetupParts) (number_of : ℕ → Number) (r : Enclave) (n : Number) → PagesAre setup number_of r n → RecordAgrees r n → r.state ≡ state_is.Free → IsFreed n
    → HasNothing r
has_nothing setup number_of r n pages agrees free freed = record {
  pages = whole_kinds setup number_of r n pages freed.parent ∙ ap (map Own) freed.pages;
  spares = pages.spares ∙ ap (drop (length pages.broken)) freed.spares ∙ drop-nil (length pages.broken);
  given = sym agrees.given ∙ ap length freed.spares;
  parent = no_parent r.parent (sym freed.parent ∙ agrees.parent);
  sent = sym agrees.sent ∙ freed.sent;
  taken = sym agrees.taken ∙ freed.taken;
  retired = free_retired r.state r.retired n.retired free agrees.retired ∙ freed.retired;
}

module _ (digest_of : List ℕ → List ℕ) (w : WorldData) (k : Kept digest_of w) (e : ℕ) where
  abbrev s : Monitor
  s = state_of w

  abbrev r : Enclave
  r = enclave_at w.enclaves e

  abbrev n : Number
  n = s.number e

  agrees : RecordAgrees r n
  agrees = k.stands.records e

  -- ---- what the history says

  abbrev since : SinceMade
  since = since_of w e

  since_is : since ≡ of_number n
  since_is = since_agrees w.setup w.history.bytes w.history.entries e

  live_is : (live : Bool) → since.live ≡ live → n.live ≡ live
  live_is live is = sym (ap (λ (x : SinceMade). x.live) since_is) ∙ is

  -- ---- translations

  module _ (not_live : n.live ≡ false) (not_dying : is_dying r.state ≡ false) where
    -- a number that is live is another
    not_this : (d : ℕ) → (s.number d).live ≡ true → d ≡ e → ⊥
    not_this d live same = false≢true (sym not_live ∙ subst (λ x. (s.number x).live ≡ true) same live)

    by_entry : (hart : ℕ) (entry : TlbEntry) → entry.space ≡ record { 0 = e + 1 } → IsFresh w.setup (enclave_at w.enclaves) s w.fences hart entry → ⊥
    by_entry hart entry space (inl of_host) = not_host e entry.space (ap (λ (x : TlbEntry). x.space) of_host.is) space
    by_entry hart entry space (inr of_number) = by_use of_number.fresh
      where
        same : of_number.e ≡ e
        same = same_number of_number.e e entry.space (ap (λ (x : TlbEntry). x.space) of_number.is) space

        by_use : MayUseNumber w.setup (enclave_at w.enclaves) s w.fences hart of_number.e of_number.mapping → ⊥
        by_use (inl mapped) = not_this of_number.e mapped.0 same
        by_use (inr owed) = elim (owed_state w.setup (written_page w) (enclave_at w.enclaves) s.number w.fences (hart_line w) (under_at w.under) k.stands.lines
            k.stands.translations.giving hart of_number.e of_number.mapping.vpn owed) [
              | inl dying ↦ false≢true (sym not_dying ∙ ap is_dying (subst (λ x. (enclave_at w.enclaves x).state ≡ state_is.Dying) same dying))
              | inr runs ↦ not_this of_number.e (subst (λ state. LiveAgrees state (s.number of_number.e).live) runs (k.stands.records of_number.e).live) same
            ]

    by_walk : (hart : ℕ) (walking : Walking) → walking.view.space ≡ record { 0 = e + 1 } → IsHostWalk w walking ⊎ IsNumberWalk w walking → ⊥
    by_walk hart walking space (inl of_host) = not_host e walking.view.space (ap (λ (x : Walking). x.view.space) of_host) space
    by_walk hart walking space (inr of_number) =
        not_this of_number.e of_number.live (same_number of_number.e e walking.view.space (ap (λ (x : Walking). x.view.space) of_number.is) space)

    untranslated : IsUntranslated w e
    untranslated = record {
      entries = λ hart entry here space. by_entry hart entry space
          (All-contains (IsFresh w.setup (enclave_at w.enclaves) s w.fences hart) (tlb_at w.tlbs hart) entry (k.stands.translations.fresh.entries hart) here);
      walks = λ hart walking is space. by_walk hart walking space ((accesses_keep_to_pages digest_of w k).walks hart walking is);
    }

  free_has_nothing : r.state ≡ state_is.Free → HasNothing r × IsUntranslated w e
  free_has_nothing free =
      let freed : IsFreed n = legal_freed w.setup w.history.bytes e w.history.entries k.legal (agrees.state ∙ free) in
      (has_nothing w.setup s.number r n (k.stands.pages e) agrees free freed, untranslated freed.live (ap is_dying free))

  -- ---- the image

  -- the pages of the shadow, as the history says them
  shared_is : (parent : Option ℕ) → option_map (λ shadow. (since_of w shadow).pages) parent ≡ shared_by s.number parent
  shared_is None = refl
  shared_is (Some shadow) = ap (λ (y : SinceMade). Some y.pages) (since_agrees w.setup w.history.bytes w.history.entries shadow)

  -- its pages, where it is made: it is live or a sealed shadow
  made_is : since.live || is_sealed r.state ≡ true → is_made n ≡ true
  made_is made = ap (λ state. n.live || is_sealed state) agrees.state ∙ sym (ap (λ (y : SinceMade). y.live || is_sealed r.state) since_is) ∙ made

  pages_of_number : (x : EnclaveStands w.setup (written_page w) w.owners e r n) → is_made n ≡ true → HasPagesOf w x.image x.state.now r (of_number n)
  pages_of_number x made =
      let p : PagesAre w.setup s.number r n = k.stands.pages e in
      let image_is : image_of w.setup r.image ≡ x.image = ap (λ o. unwrap_or o (record { entry = 0; pages = [] })) x.image_is in
      record {
        broken = p.broken;
        ahead = p.ahead;
        so_far = subst (λ sent. AreBroken n.parent (flat_image x.image) sent r.retired p.ahead p.broken) (sym agrees.sent)
            (subst (λ i. AreBroken n.parent (flat_image i) r.sent r.retired p.ahead p.broken) image_is p.so_far);
        pages = p.kinds ∙ ap (kinds_of n.pages n.spares p.broken) (sym (shared_is n.parent));
        bytes = x.state.pages made;
      }

  image_of_record : EnclaveStands w.setup (written_page w) w.owners e r n → IsItsImage w r since
  image_of_record x = record {
    image = x.image;
    image_is = ap (λ (y : SinceMade). slice_get w.setup.images y.image) since_is ∙ ap (slice_get w.setup.images) agrees.image ∙ x.image_is;
    retired = subst (λ (y : SinceMade). RetiredAgrees r.state r.retired y.retired) (sym since_is) agrees.retired;
    now = x.state.now;
    alone_is = ap (λ (y : SinceMade). alone (flat_image x.image) y.sent r.retired) since_is
        ∙ ap (λ sent. alone (flat_image x.image) sent r.retired) agrees.sent ∙ x.state.alone_is;
    context = x.state.context;
    received = x.state.received;
    out = x.state.out;
    pages = λ made. subst (HasPagesOf w x.image x.state.now r) (sym since_is) (pages_of_number x (made_is made));
    start = λ live. x.state.start (live_is false live);
  }

pub each_is_its_image : (digest_of : List ℕ → List ℕ) (w : WorldData) → Kept digest_of w → EachIsItsImage w
each_is_its_image digest_of w k = record {
  free = free_has_nothing digest_of w k;
  untranslated = λ e live. untranslated digest_of w k e (live_is digest_of w k e false live);
  used = λ e used. image_of_record digest_of w k e (k.stands.enclaves e used);
}
