-- Whose the pages are that the host's mappings name, and that the enclave numbers took.
use Rattle.std.proofs.Common.{◌≡◌, ℕ, ◌+◌, ◌≤◌, ◌==◌, ◌⊎◌, Bool, true, false, not, if◌then◌else◌, List, [], ◌∷◌, ◌++◌, append_assoc, is_some, length, filter, count_by, Option, Some, None, option_map, refl, sym, ap, ◌∙◌, subst, inl, inr, arith}
use Rattle.std.specs.Prelude.{nat_lt}
use Rattle.std.specs.List.{All}
use Rattle.std.proofs.lemmas.Bool.{eqb-true, eqb-false, false≢true, ltb-false}
use Rattle.std.proofs.lemmas.List.Elements.{All-append, All-contains, All-filter, All-nil, All-push}
use Rattle.pl_base.specs.Address.{vpn_of}
use Rattle.pl_base.specs.Pages.{first_twice, is_among, most_spares}
use Rattle.pl_base.specs.Refusals.{first_refusal, refuse}
use Rattle.pl_base.specs.States.{idle_refusal, is_free, is_sealed}
use Rattle.pl_base.specs.declared.address.Va.{Va}
use Rattle.pl_base.specs.declared.refusal.No.{No}
use Rattle.pl_base.specs.declared.refusal.No.TheVariants as refused
use Rattle.rv_pmp.specs.Pmp.{page_allowed}
use Rattle.mon_tables.specs.Space.{Mapping, count_of_page, mapping_at}
use Rattle.mon_tables.specs.Tables.{can_be_mapped}
use Rattle.pl_history.specs.declared.answer.Answer.{Answer}
use Rattle.pl_history.specs.declared.answer.Answer.TheVariants as answer_is
use Rattle.pl_history.specs.declared.answer.Entry.{Entry}
use Rattle.pl_history.specs.declared.line.Line.{Line}
use Rattle.pl_history.specs.declared.line.Line.TheVariants as line_is
use Rattle.pl_history.specs.declared.setup.SetupParts.{SetupParts}
use Rattle.pl_history.specs.Answering.{change_by, progressed, unchanged}
use Rattle.pl_history.specs.Attacking.{Placed, written}
use Rattle.pl_history.specs.HostAccess.{mapping_used, store_to}
use Rattle.pl_history.specs.HostMaps.{map_refusal, removing_of}
use Rattle.pl_history.specs.Legal.{AllAllowed, AllowedAnswer, changes, state_after}
use Rattle.pl_history.specs.Making.{create_refusal, first_barred, first_mapped, first_not_host, fork_refusal, grant_refusal, image_page_count, page_refusals}
use Rattle.pl_history.specs.Monitor.{Monitor, Number, Owner, Progress, Removal, freed, host, is_host, maps_of, number, opening, pages_taken, removed_at, with_number, with_owner, with_progress}
use Rattle.pl_history.specs.Protection.{pmp_of}
use Rattle.pl_history.specs.OwnedPages.{LegalPages, PagesApart, PagesStand}
use Rattle.pl_history.proofs.HistoryLemmas.{holds_after, unchanged_holds}
use Rattle.pl_history.proofs.Elements.{among, both, each_among, each_counted, found, none_passes, weaker}
use Rattle.pl_history.proofs.Refusals.{first_none, named_none, refuse_none}

module _ (setup : SetupParts) where
  -- ---- pages that may be taken

  not_true : (b : Bool) → not b ≡ false → b ≡ true
  not_true true is = refl
  not_true false is = cc

  -- pages that may be taken are the host's, and it maps none of them
  pub record MayTake (s : Monitor) (pages : List ℕ) : Type 0 where
    pub hosts : All (λ page. is_host (s.owner page) ≡ true) pages
    pub unmapped : All (λ page. maps_of s page ≡ 0) pages
    pub unbarred : All (λ page. page_allowed (pmp_of setup) page ≡ true) pages

  pub may_take : (s : Monitor) (pages : List ℕ) (later : List (Option No)) → first_refusal (page_refusals setup s pages ++ later) ≡ None → MayTake s pages
  may_take s pages later is =
      let first = first_none (option_map refused.NotYours (first_not_host s pages)) (option_map refused.StillMapped (first_mapped s pages) ∷ option_map refused.Barred (first_barred setup pages) ∷ later) is in
      let second = first_none (option_map refused.StillMapped (first_mapped s pages)) (option_map refused.Barred (first_barred setup pages) ∷ later) first.1 in
      record {
        hosts = weaker (λ page. not (is_host (s.owner page)) ≡ false) (λ page. is_host (s.owner page) ≡ true) pages (λ page is. not_true (is_host (s.owner page)) is)
            (none_passes (λ page. not (is_host (s.owner page))) pages (named_none refused.NotYours (first_not_host s pages) first.0));
        unmapped = weaker (λ page. nat_lt 0 (maps_of s page) ≡ false) (λ page. maps_of s page ≡ 0) pages (λ page is. let few : maps_of s page ≤ 0 = ltb-false 0 (maps_of s page) is in omega arith)
            (none_passes (λ page. nat_lt 0 (maps_of s page)) pages (named_none refused.StillMapped (first_mapped s pages) second.0));
        unbarred = weaker (λ page. not (page_allowed (pmp_of setup) page) ≡ false) (λ page. page_allowed (pmp_of setup) page ≡ true) pages (λ page is. not_true (page_allowed (pmp_of setup) page) is)
            (none_passes (λ page. not (page_allowed (pmp_of setup) page)) pages (named_none refused.Barred (first_barred setup pages) (first_none (option_map refused.Barred (first_barred setup pages)) later second.1).0));
      }

  -- ---- states with the same pages

  same_pages : (s t : Monitor) → t.owner ≡ s.owner → t.space ≡ s.space → t.removals ≡ s.removals → ((e : ℕ) → pages_taken (t.number e) ≡ pages_taken (s.number e)) → PagesStand setup s → PagesStand setup t
  same_pages s t owner space removals taken stand = record {
    mapped = subst (λ xs. All (λ (m : Mapping). is_host (t.owner m.page) ≡ true) xs) (sym space) (subst (λ (own : ℕ → Option Owner). All (λ (m : Mapping). is_host (own m.page) ≡ true) s.space) (sym owner) stand.mapped);
    removed = subst (λ xs. All (λ (r : Removal). is_host (t.owner r.mapping.page) ≡ true) xs) (sym removals) (subst (λ (own : ℕ → Option Owner). All (λ (r : Removal). is_host (own r.mapping.page) ≡ true) s.removals) (sym owner) stand.removed);
    taken = λ e. subst (λ xs. All (λ page. t.owner page ≡ Some (number e)) xs) (sym (taken e)) (subst (λ (own : ℕ → Option Owner). All (λ page. own page ≡ Some (number e)) (pages_taken (s.number e))) (sym owner) (stand.taken e));
    allowed = λ e. subst (All (λ page. page_allowed (pmp_of setup) page ≡ true)) (sym (taken e)) (stand.allowed e);
  }

  module _ (s : Monitor) (stand : PagesStand setup s) where
    -- a number whose pages stay
    number_stands : (e : ℕ) (now : Number) → pages_taken now ≡ pages_taken (s.number e) → PagesStand setup (with_number s e now)
    number_stands e now same = same_pages s (with_number s e now) refl refl refl (λ f. at f (f == e) refl) stand
      where
        at : (f : ℕ) (b : Bool) → (f == e) ≡ b → pages_taken (if b then now else s.number f) ≡ pages_taken (s.number f)
        at f true is = same ∙ ap (λ g. pages_taken (s.number g)) (sym (eqb-true f e is))
        at f false is = refl

    is_mapped : (page : ℕ) → 1 ≤ count_of_page s.space page → maps_of s page ≡ 0 → ⊥
    is_mapped page some none = omega arith

    is_removed : (page : ℕ) → 1 ≤ count_by (λ (r : Removal). r.mapping.page == page) s.removals → maps_of s page ≡ 0 → ⊥
    is_removed page some none = omega arith

    -- a page that may be taken isn't mapped
    stays_host : (pages : List ℕ) (now : Owner) (page : ℕ) (b : Bool) → is_among pages page ≡ b → MayTake s pages → (maps_of s page ≡ 0 → ⊥) → is_host (s.owner page) ≡ true
        → is_host (if b then Some now else s.owner page) ≡ true
    stays_host pages now page true is may some hosts = absurd (some (among (λ p. maps_of s p ≡ 0) pages page may.unmapped is))
    stays_host pages now page false is may some hosts = hosts

    -- a page is the number's and open already, or one of these
    abbrev IsOneOf : ℕ → List ℕ → ℕ → Type 0
    IsOneOf e pages page = ((s.owner page ≡ Some (number e)) × (page_allowed (pmp_of setup) page ≡ true)) ⊎ (is_among pages page ≡ true)

    -- pages of the host that it doesn't map become a number's
    taken_stands : (e : ℕ) (now : Number) (pages : List ℕ) → MayTake s pages → All (IsOneOf e pages) (pages_taken now)
        → PagesStand setup (with_owner (with_number s e now) pages (number e))
    taken_stands e now pages may own = record {
      mapped = weaker (λ (m : Mapping). (is_host (s.owner m.page) ≡ true) × (1 ≤ count_of_page s.space m.page)) (λ (m : Mapping). is_host (if is_among pages m.page then Some (number e) else s.owner m.page) ≡ true) s.space
          (λ m is. stays_host pages (number e) m.page (is_among pages m.page) refl may (is_mapped m.page is.1) is.0)
          (both (λ (m : Mapping). is_host (s.owner m.page) ≡ true) (λ (m : Mapping). 1 ≤ count_of_page s.space m.page) s.space stand.mapped (each_counted (λ (m : Mapping). m.page) s.space));
      removed = weaker (λ (r : Removal). (is_host (s.owner r.mapping.page) ≡ true) × (1 ≤ count_by (λ (x : Removal). x.mapping.page == r.mapping.page) s.removals)) (λ (r : Removal). is_host (if is_among pages r.mapping.page then Some (number e) else s.owner r.mapping.page) ≡ true) s.removals
          (λ r is. stays_host pages (number e) r.mapping.page (is_among pages r.mapping.page) refl may (is_removed r.mapping.page is.1) is.0)
          (both (λ (r : Removal). is_host (s.owner r.mapping.page) ≡ true) (λ (r : Removal). 1 ≤ count_by (λ (x : Removal). x.mapping.page == r.mapping.page) s.removals) s.removals stand.removed (each_counted (λ (r : Removal). r.mapping.page) s.removals));
      taken = λ f. at f (f == e) refl;
      allowed = λ f. allowed_at f (f == e) refl;
    }
      where
        allowed_page : (page : ℕ) → IsOneOf e pages page → page_allowed (pmp_of setup) page ≡ true
        allowed_page page either = elim either [
          | inl before ↦ before.1
          | inr there ↦ among (λ p. page_allowed (pmp_of setup) p ≡ true) pages page may.unbarred there
        ]

        allowed_at : (f : ℕ) (b : Bool) → (f == e) ≡ b → All (λ page. page_allowed (pmp_of setup) page ≡ true) (pages_taken (if b then now else s.number f))
        allowed_at f true is = weaker (IsOneOf e pages) (λ page. page_allowed (pmp_of setup) page ≡ true) (pages_taken now) (λ page either. allowed_page page either) own
        allowed_at f false is = stand.allowed f

        own_page : (page : ℕ) (b : Bool) → is_among pages page ≡ b → IsOneOf e pages page → (if b then Some (number e) else s.owner page) ≡ Some (number e)
        own_page page true is either = refl
        own_page page false is either = elim either [
          | inl before ↦ before.0
          | inr there ↦ absurd (false≢true (sym is ∙ there))
        ]

        other_page : (f page : ℕ) (b : Bool) → is_among pages page ≡ b → s.owner page ≡ Some (number f) → (if b then Some (number e) else s.owner page) ≡ Some (number f)
        other_page f page true is before = absurd (false≢true (sym (ap is_host before) ∙ among (λ p. is_host (s.owner p) ≡ true) pages page may.hosts is))
        other_page f page false is before = before

        at : (f : ℕ) (b : Bool) → (f == e) ≡ b → All (λ page. (if is_among pages page then Some (number e) else s.owner page) ≡ Some (number f)) (pages_taken (if b then now else s.number f))
        at f true is =
            subst (λ g. All (λ page. (if is_among pages page then Some (number e) else s.owner page) ≡ Some (number g)) (pages_taken now)) (sym (eqb-true f e is))
            (weaker (IsOneOf e pages) (λ page. (if is_among pages page then Some (number e) else s.owner page) ≡ Some (number e)) (pages_taken now)
            (λ page either. own_page page (is_among pages page) refl either) own)
        at f false is =
            weaker (λ page. s.owner page ≡ Some (number f)) (λ page. (if is_among pages page then Some (number e) else s.owner page) ≡ Some (number f)) (pages_taken (s.number f))
            (λ page before. other_page f page (is_among pages page) refl before) (stand.taken f)

    number_inside : (e f : ℕ) → Some (number e) ≡ Some (number f) → e ≡ f
    number_inside e f same = cc

    -- all pages of a number become the host's, and it has none any more
    given_stands : (e : ℕ) (bytes : ℕ → List ℕ) → PagesStand setup (record (with_owner (with_number s e (freed (s.number e))) (pages_taken (s.number e)) host) { bytes = bytes })
    given_stands e bytes = record {
      mapped = weaker (λ (m : Mapping). is_host (s.owner m.page) ≡ true) (λ (m : Mapping). is_host (if is_among (pages_taken (s.number e)) m.page then Some host else s.owner m.page) ≡ true) s.space
          (λ m is. hosts (is_among (pages_taken (s.number e)) m.page) m.page is) stand.mapped;
      removed = weaker (λ (r : Removal). is_host (s.owner r.mapping.page) ≡ true) (λ (r : Removal). is_host (if is_among (pages_taken (s.number e)) r.mapping.page then Some host else s.owner r.mapping.page) ≡ true) s.removals
          (λ r is. hosts (is_among (pages_taken (s.number e)) r.mapping.page) r.mapping.page is) stand.removed;
      taken = λ f. at f (f == e) refl;
      allowed = λ f. allowed_at f (f == e) refl;
    }
      where
        allowed_at : (f : ℕ) (b : Bool) → (f == e) ≡ b → All (λ page. page_allowed (pmp_of setup) page ≡ true) (pages_taken (if b then freed (s.number e) else s.number f))
        allowed_at f true is = All-nil (λ page. page_allowed (pmp_of setup) page ≡ true)
        allowed_at f false is = stand.allowed f

        hosts : (b : Bool) (page : ℕ) → is_host (s.owner page) ≡ true → is_host (if b then Some host else s.owner page) ≡ true
        hosts true page is = refl
        hosts false page is = is

        other_page : (f page : ℕ) (b : Bool) → is_among (pages_taken (s.number e)) page ≡ b → (f == e) ≡ false → s.owner page ≡ Some (number f) → (if b then Some host else s.owner page) ≡ Some (number f)
        other_page f page true is apart before =
            let same : e ≡ f = number_inside e f (sym (among (λ p. s.owner p ≡ Some (number e)) (pages_taken (s.number e)) page (stand.taken e) is) ∙ before) in
            absurd (eqb-false f e apart (sym same))
        other_page f page false is apart before = before

        at : (f : ℕ) (b : Bool) → (f == e) ≡ b → All (λ page. (if is_among (pages_taken (s.number e)) page then Some host else s.owner page) ≡ Some (number f)) (pages_taken (if b then freed (s.number e) else s.number f))
        at f true is = All-nil (λ page. (if is_among (pages_taken (s.number e)) page then Some host else s.owner page) ≡ Some (number f))
        at f false is =
            weaker (λ page. s.owner page ≡ Some (number f)) (λ page. (if is_among (pages_taken (s.number e)) page then Some host else s.owner page) ≡ Some (number f)) (pages_taken (s.number f))
            (λ page before. other_page f page (is_among (pages_taken (s.number e)) page) refl is before) (stand.taken f)

    -- ---- the host's lines

    store_stands : (va : Va) (word : ℕ) (m : Option Mapping) → PagesStand setup (store_to s va word m)
    store_stands va word None = stand
    store_stands va word (Some m) = same_pages s (store_to s va word (Some m)) refl refl refl (λ e. refl) stand

    map_stands : (m : Mapping) → is_host (s.owner m.page) ≡ true → PagesStand setup (record s { space = s.space ++ m ∷ [] })
    map_stands m is = record {
      mapped = All-push (λ (x : Mapping). is_host (s.owner x.page) ≡ true) s.space m stand.mapped is;
      removed = stand.removed;
      taken = stand.taken;
      allowed = stand.allowed;
    }

    removing_stands : (hart : ℕ) (vpn : ℕ) (m : Option Mapping) → mapping_at s.space vpn ≡ m → PagesStand setup (removing_of s hart m)
    removing_stands hart vpn None is = stand
    removing_stands hart vpn (Some m) is = record {
      mapped = All-filter (λ (x : Mapping). not (x.vpn == m.vpn)) (λ (x : Mapping). is_host (s.owner x.page) ≡ true) s.space stand.mapped;
      removed = All-push (λ (r : Removal). is_host (s.owner r.mapping.page) ≡ true) s.removals (record { hart = hart; mapping = m }) stand.removed
          (found (λ (x : Mapping). is_host (s.owner x.page) ≡ true) (λ (x : Mapping). x.vpn == vpn) s.space m stand.mapped is);
      taken = stand.taken;
      allowed = stand.allowed;
    }

    removed_stands : (hart : ℕ) → PagesStand setup (record s { removals = filter (λ (r : Removal). not (r.hart == hart)) s.removals })
    removed_stands hart = record {
      mapped = stand.mapped;
      removed = All-filter (λ (r : Removal). not (r.hart == hart)) (λ (r : Removal). is_host (s.owner r.mapping.page) ≡ true) s.removals stand.removed;
      taken = stand.taken;
      allowed = stand.allowed;
    }

    -- ---- making numbers

    among_first : (e : ℕ) (pages : List ℕ) → All (IsOneOf e pages) pages
    among_first e pages = weaker (λ page. is_among pages page ≡ true) (IsOneOf e pages) pages (λ page is. inr is) (each_among pages)

    among_pages : (e : ℕ) (pages : List ℕ) → All (IsOneOf e pages) (pages ++ [])
    among_pages e pages =
        All-append (IsOneOf e pages) pages [] (among_first e pages) (All-nil (IsOneOf e pages))

    create_takes : (e image : ℕ) (pages : List ℕ) → create_refusal setup s e image pages ≡ None → MayTake s pages
    create_takes e image pages is =
        let first = first_none (refuse (not (is_free (s.number e).state)) refused.Exists) (refuse (not (length pages == image_page_count setup image)) refused.Count ∷ option_map refused.Twice (first_twice pages) ∷ page_refusals setup s pages) is in
        let second = first_none (refuse (not (length pages == image_page_count setup image)) refused.Count) (option_map refused.Twice (first_twice pages) ∷ page_refusals setup s pages) first.1 in
        let third = first_none (option_map refused.Twice (first_twice pages)) (page_refusals setup s pages) second.1 in
        may_take s pages [] third.1

    fork_takes : (shadow e : ℕ) (pages : List ℕ) → fork_refusal setup s shadow e pages ≡ None → MayTake s pages
    fork_takes shadow e pages is =
        let last : List (Option No) = refuse (nat_lt most_spares (length pages)) refused.TooMany ∷ [] in
        let first = first_none (refuse (not (is_sealed (s.number shadow).state)) refused.NoEnclave) (refuse (not (is_free (s.number e).state)) refused.Exists ∷ option_map refused.Twice (first_twice pages) ∷ (page_refusals setup s pages ++ last)) is in
        let second = first_none (refuse (not (is_free (s.number e).state)) refused.Exists) (option_map refused.Twice (first_twice pages) ∷ (page_refusals setup s pages ++ last)) first.1 in
        let third = first_none (option_map refused.Twice (first_twice pages)) (page_refusals setup s pages ++ last) second.1 in
        may_take s pages last third.1

    pub grant_takes : (e page : ℕ) → grant_refusal setup s e page ≡ None → MayTake s (page ∷ [])
    grant_takes e page is =
        let last : List (Option No) = refuse (nat_lt most_spares (length (s.number e).spares + 1)) refused.TooMany ∷ [] in
        let first = first_none (idle_refusal (s.number e).state) (page_refusals setup s (page ∷ []) ++ last) is in
        may_take s (page ∷ []) last first.1

    map_takes : (va : Va) (page : ℕ) → map_refusal setup s va page ≡ None → is_host (s.owner page) ≡ true
    map_takes va page is =
        let fourth : Option No = refuse (not (is_host (s.owner page))) (refused.NotYours page) in
        let third : Option No = refuse (is_some (mapping_at s.space (vpn_of va).0)) refused.Mapped in
        let second : Option No = refuse (is_some (removed_at s.removals (vpn_of va).0)) refused.Busy in
        let one = first_none (refuse (not (can_be_mapped setup.tables va)) refused.BadAddress) (second ∷ third ∷ fourth ∷ []) is in
        let two = first_none second (third ∷ fourth ∷ []) one.1 in
        let three = first_none third (fourth ∷ []) two.1 in
        let four = first_none fourth [] three.1 in
        refuse_none (is_host (s.owner page)) (refused.NotYours page) four.0

    granted_pages : (e page : ℕ) → All (IsOneOf e (page ∷ [])) ((s.number e).pages ++ ((s.number e).spares ++ page ∷ []))
    granted_pages e page =
        let old : All (IsOneOf e (page ∷ [])) (pages_taken (s.number e))
        = weaker (λ p. (s.owner p ≡ Some (number e)) × (page_allowed (pmp_of setup) p ≡ true)) (IsOneOf e (page ∷ [])) (pages_taken (s.number e)) (λ p is. inl is)
        (both (λ p. s.owner p ≡ Some (number e)) (λ p. page_allowed (pmp_of setup) p ≡ true) (pages_taken (s.number e)) (stand.taken e) (stand.allowed e)) in
        subst (All (IsOneOf e (page ∷ []))) (append_assoc (s.number e).pages (s.number e).spares (page ∷ []))
        (All-append (IsOneOf e (page ∷ [])) (pages_taken (s.number e)) (page ∷ []) old (among_first e (page ∷ [])))

  -- ---- each line

  pub only_ok : (refusal : Option No) (gives : Option Answer) (begun : Bool) → Rattle.pl_history.specs.Answering.AtOnce refusal gives begun answer_is.Ok → refusal ≡ None
  only_ok refusal gives true allowed = absurd allowed
  only_ok refusal gives false allowed = allowed.0

  -- what an answer to a hart's line changes leaves the pages standing
  pub line_stands : (s : Monitor) (hart : ℕ) (line : Line) (begun : Bool) (now : Answer) → PagesStand setup s → AllowedAnswer setup s line begun now → PagesStand setup (change_by (changes s hart line begun) now)
  line_stands s hart (line_is.Load va) begun now k allowed = unchanged_holds (PagesStand setup) s now k
  line_stands s hart (line_is.After actor count) begun now k allowed = unchanged_holds (PagesStand setup) s now k
  line_stands s hart (line_is.Store va word) begun answer_is.Ok k allowed = store_stands s k va word (mapping_used (mapping_at s.space (vpn_of va).0) (removed_at s.removals (vpn_of va).0))
  line_stands s hart (line_is.Map va page perms) true answer_is.Ok k allowed = absurd allowed
  line_stands s hart (line_is.Map va page perms) false answer_is.Ok k allowed = map_stands s k (record { vpn = (vpn_of va).0; page = page; perms = perms }) (map_takes s k va page allowed.0)
  line_stands s hart (line_is.Unmap va) begun answer_is.Begun k allowed = removing_stands s k hart (vpn_of va).0 (mapping_at s.space (vpn_of va).0) refl
  line_stands s hart (line_is.Unmap va) begun answer_is.Ok k allowed = removed_stands s k hart
  line_stands s hart (line_is.Create e image pages) true answer_is.Begun k allowed = cc
  line_stands s hart (line_is.Create e image pages) false answer_is.Begun k allowed =
      taken_stands s k e.0 _ pages (create_takes s k e.0 image pages allowed) (among_pages s k e.0 pages)
  line_stands s hart (line_is.Create e image pages) begun answer_is.Ok k allowed = number_stands s k e.0 _ refl
  line_stands s hart (line_is.Create e image pages) true (answer_is.No cause) k allowed = number_stands s k e.0 _ refl
  line_stands s hart (line_is.Shadow e image pages) true answer_is.Begun k allowed = cc
  line_stands s hart (line_is.Shadow e image pages) false answer_is.Begun k allowed =
      taken_stands s k e.0 _ pages (create_takes s k e.0 image pages allowed) (among_pages s k e.0 pages)
  line_stands s hart (line_is.Shadow e image pages) begun answer_is.Ok k allowed = number_stands s k e.0 _ refl
  line_stands s hart (line_is.Shadow e image pages) true (answer_is.No cause) k allowed = number_stands s k e.0 _ refl
  line_stands s hart (line_is.Fork shadow e pages) true answer_is.Begun k allowed = cc
  line_stands s hart (line_is.Fork shadow e pages) false answer_is.Begun k allowed = taken_stands s k e.0 _ pages (fork_takes s k shadow.0 e.0 pages allowed) (among_first s k e.0 pages)
  line_stands s hart (line_is.Fork shadow e pages) begun answer_is.Ok k allowed = number_stands s k e.0 _ refl
  line_stands s hart (line_is.Fork shadow e pages) true (answer_is.No cause) k allowed = number_stands s k e.0 _ refl
  line_stands s hart (line_is.Grant e page) begun answer_is.Ok k allowed = taken_stands s k e.0 _ (page ∷ []) (grant_takes s k e.0 page (only_ok (grant_refusal setup s e.0 page) (Some answer_is.Ok) begun allowed)) (granted_pages s k e.0 page)
  line_stands s hart (line_is.Run e budget) begun answer_is.Begun k allowed = number_stands s k e.0 _ refl
  line_stands s hart (line_is.Run e budget) begun (answer_is.Left count why) k allowed = number_stands s k e.0 _ refl
  line_stands s hart (line_is.Resume e budget) begun answer_is.Begun k allowed = number_stands s k e.0 _ refl
  line_stands s hart (line_is.Resume e budget) begun (answer_is.Left count why) k allowed = number_stands s k e.0 _ refl
  line_stands s hart (line_is.Send e word) begun answer_is.Ok k allowed = number_stands s k e.0 _ refl
  line_stands s hart (line_is.Take e) begun (answer_is.Word word) k allowed = number_stands s k e.0 _ refl
  line_stands s hart (line_is.Destroy e) begun answer_is.Begun k allowed = number_stands s k e.0 _ refl
  line_stands s hart (line_is.Destroy e) begun answer_is.Ok k allowed = given_stands s k e.0 _
  line_stands s hart (line_is.Drop e) begun answer_is.Ok k allowed = given_stands s k e.0 _
  line_stands s hart line begun now k allowed = k

  pub written_stands : (s : Monitor) (now : Placed) (changed : Bool) → PagesStand setup s → PagesStand setup (written s now changed)
  written_stands s now true k = same_pages s (written s now true) refl refl refl (λ e. refl) k
  written_stands s now false k = same_pages s (written s now false) refl refl refl (λ e. refl) k

  pub progress_stands : (s : Monitor) (actor : ℕ) (now : Progress) → PagesStand setup s → PagesStand setup (with_progress s actor now)
  progress_stands s actor now k = same_pages s (with_progress s actor now) refl refl refl (λ e. refl) k

  -- ---- whole histories

  pub opening_stands : PagesStand setup (opening setup)
  unfolding opening
  opening_stands = record { mapped = All-nil _; removed = All-nil _; taken = λ e. All-nil _; allowed = λ e. All-nil _ }

  legal_stand : (bytes : List ℕ) (entries : List Entry) → AllAllowed setup bytes (opening setup) [] entries → PagesStand setup (state_after setup bytes (opening setup) entries)
  legal_stand bytes entries legal = holds_after setup bytes (PagesStand setup) progress_stands written_stands line_stands (opening setup) [] entries opening_stands legal

  -- a page has one owner
  one_number : (o : Option Owner) (e f : ℕ) → o ≡ Some (number e) → o ≡ Some (number f) → e ≡ f
  one_number o e f here there = let same : Some (number e) ≡ Some (number f) = sym here ∙ there in cc

  pub not_both : (o : Option Owner) (e : ℕ) → is_host o ≡ true → o ≡ Some (number e) → ⊥
  not_both o e hosts own = false≢true (sym (ap is_host own) ∙ hosts)

  pub standing_apart : (s : Monitor) → PagesStand setup s → PagesApart s
  standing_apart s k = record {
    numbers = λ e f page here there. one_number (s.owner page) e f
        (All-contains (λ p. s.owner p ≡ Some (number e)) (pages_taken (s.number e)) page (k.taken e) here)
        (All-contains (λ p. s.owner p ≡ Some (number f)) (pages_taken (s.number f)) page (k.taken f) there);
    mapped = λ m e here there. not_both (s.owner m.page) e
        (All-contains (λ (x : Mapping). is_host (s.owner x.page) ≡ true) s.space m k.mapped here)
        (All-contains (λ p. s.owner p ≡ Some (number e)) (pages_taken (s.number e)) m.page (k.taken e) there);
    removed = λ r e here there. not_both (s.owner r.mapping.page) e
        (All-contains (λ (x : Removal). is_host (s.owner x.mapping.page) ≡ true) s.removals r k.removed here)
        (All-contains (λ p. s.owner p ≡ Some (number e)) (pages_taken (s.number e)) r.mapping.page (k.taken e) there);
  }

pub legal_pages : LegalPages
legal_pages = record {
  stand = legal_stand;
  apart = λ setup bytes entries legal. standing_apart setup (state_after setup bytes (opening setup) entries) (legal_stand setup bytes entries legal);
}
