-- When a number may be forked from a shadow, be given a spare, and a shadow be given back, and what that leaves.
use Rattle.std.specs.Prelude.{ℕ, ◌≡◌, ◌↔◌, ◌*◌, ◌<◌, ◌≤◌, true, false, List, length, map, All, slice_get, Some, None}
use Rattle.pl_base.specs.Pages.{first_twice, most_spares}
use Rattle.pl_base.specs.States.{is_absent, is_free, is_sealed, is_under_way}
use Rattle.pl_base.specs.declared.number.EncNo.{EncNo}
use Rattle.mem_ctl.specs.Data.{CtlData}
use Rattle.mem_ctl.specs.TreesHold.{IsKept}
use Rattle.rv_pmp.specs.declared.rule.Rule.{Rule}
use Rattle.rv_pmp.specs.Pmp.{page_allowed}
use Rattle.mon_owner.specs.declared.owners.Owner.{Owner}
use Rattle.mon_owner.specs.declared.owners.Owner.TheVariants as owner
use Rattle.mon_enclave.specs.declared.enclave.PageKind.{PageKind}
use Rattle.mon_enclave.specs.declared.enclave.Enclave.{Enclave}
use Rattle.mon_enclave.specs.Records.{enclave_at, forked, is_shared, page_number_of, pages_held}
use Rattle.mon_life.specs.Destroying.{held_by}
use Rattle.mon_life.specs.Laws.{IsGivenBack}
use Rattle.mon_shadow.specs.Dropping.{drop_refusal_of, is_child_of, shadow_dropped}
use Rattle.mon_shadow.specs.Forking.{fork_refusal_of}
use Rattle.mon_shadow.specs.Granting.{grant_refusal_of}

-- ---- refusals

-- number e may be forked from a shadow with these spares: the shadow is sealed, the number is free, no page is listed twice, each is the host's,
-- with no mappings, and open to every access, and there are few enough
pub record MayFork (owners : List Owner) (enclaves : List Enclave) (rules : List Rule) (shadow e : ℕ) (pages : List ℕ) : Type 0 where
  pub sealed : is_sealed (enclave_at enclaves shadow).state ≡ true
  pub free : is_free (enclave_at enclaves e).state ≡ true
  pub once : first_twice pages ≡ None
  pub host : All (λ page. slice_get owners page ≡ Some (owner.Host 0)) pages
  pub unbarred : All (λ page. page_allowed rules page ≡ true) pages
  pub few : length pages ≤ most_spares

-- nothing else is refused
abbrev pub ForksAreRefused : Type 0
ForksAreRefused = (owners : List Owner) (enclaves : List Enclave) (rules : List Rule) (shadow e : ℕ) (pages : List ℕ)
    → (fork_refusal_of owners enclaves rules shadow e pages ≡ None) ↔ MayFork owners enclaves rules shadow e pages

-- number e may be given a page as a spare: it is there, no line has it under way, the page is the host's, with no mappings, and open to every
-- access, and fewer than may be were given since the number was made
pub record MayGrant (owners : List Owner) (enclaves : List Enclave) (rules : List Rule) (e page : ℕ) : Type 0 where
  pub there : is_absent (enclave_at enclaves e).state ≡ false
  pub at_rest : is_under_way (enclave_at enclaves e).state ≡ false
  pub host : slice_get owners page ≡ Some (owner.Host 0)
  pub unbarred : page_allowed rules page ≡ true
  pub few : (enclave_at enclaves e).given < most_spares

-- nothing else is refused
abbrev pub GrantsAreRefused : Type 0
GrantsAreRefused = (owners : List Owner) (enclaves : List Enclave) (rules : List Rule) (e page : ℕ)
    → (grant_refusal_of owners enclaves rules e page ≡ None) ↔ MayGrant owners enclaves rules e page

-- a shadow may be given back: it is sealed, and no number was forked from it
pub record MayDrop (enclaves : List Enclave) (shadow : ℕ) : Type 0 where
  pub sealed : is_sealed (enclave_at enclaves shadow).state ≡ true
  pub childless : (child : ℕ) → child < length enclaves → is_child_of shadow (enclave_at enclaves child) ≡ false

-- nothing else is refused
abbrev pub DropsAreRefused : Type 0
DropsAreRefused = (enclaves : List Enclave) (shadow : ℕ) → (drop_refusal_of enclaves shadow ≡ None) ↔ MayDrop enclaves shadow

-- ---- what a fork shares

-- the forked number's pages are the shadow's, and each is shared
abbrev pub ForksShare : Type 0
ForksShare = (shadow : EncNo) (source : Enclave) (spares : List ℕ) (enclave : Enclave)
    → (map page_number_of (forked shadow source spares enclave).pages ≡ map page_number_of source.pages)
    × All (λ (kind : PageKind). is_shared kind ≡ true) (forked shadow source spares enclave).pages

-- it holds just its spares
abbrev pub ForkedHolds : Type 0
ForkedHolds = (shadow : EncNo) (source : Enclave) (spares : List ℕ) (enclave : Enclave) → pages_held (forked shadow source spares enclave) ≡ spares

-- whatever a record was, the one that is forked into it is the same, but for the hart that it was last on
abbrev pub ForkedAnew : Type 0
ForkedAnew = (shadow : EncNo) (source : Enclave) (spares : List ℕ) (one other : Enclave)
    → forked shadow source spares one ≡ record (forked shadow source spares other) { hart = one.hart }

-- ---- giving back

module _ (digest_of : List ℕ → List ℕ) where
  -- a drop that isn't refused gives the shadow's number back
  abbrev pub ShadowsAreGivenBack : Type 0
  ShadowsAreGivenBack = (ctl : CtlData) (owners : List Owner) (enclaves : List Enclave) (shadow : ℕ) → IsKept digest_of ctl
      → length owners ≡ 64 * ctl.zones → shadow < length enclaves → All (λ page. page < 64 * ctl.zones) (held_by enclaves shadow)
      → (shadow_dropped ctl owners enclaves shadow).refusal ≡ None
      → IsGivenBack digest_of ctl (shadow_dropped ctl owners enclaves shadow).ctl owners (shadow_dropped ctl owners enclaves shadow).owners
      enclaves (shadow_dropped ctl owners enclaves shadow).enclaves shadow
