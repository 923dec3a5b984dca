-- One record of a list shares the pages of another one, page by page.
use Rattle.std.proofs.Common.{◌≡◌, ◌≢◌, ℕ, zero, suc, ◌+◌, ◌<◌, List, [], ◌∷◌, ◌++◌, length, take, map, set, get_or, slice_get, Some, refl, sym, ap, ◌∙◌}
use Rattle.std.proofs.lemmas.List.{map_push, set-set, take_more}
use Rattle.std.proofs.lemmas.Option.{unwrap_or-slice_get}
use Rattle.std.specs.Prelude.{unwrap_or}
use Rattle.pl_base.specs.declared.number.EncNo.{EncNo}
use Rattle.rv_alone.specs.declared.step.Context.{Context}
use Rattle.mon_enclave.specs.declared.enclave.PageKind.{PageKind}
use Rattle.mon_enclave.specs.declared.enclave.PageKind.TheVariants.{Own}
use Rattle.mon_enclave.specs.declared.enclave.Enclave.{Enclave}
use Rattle.mon_enclave.specs.Records.{as_shared, enclave_at, forked, with_enclave}
use Rattle.mon_enclave.proofs.RecordLists.{other_record, record_there}

-- number e has these pages
abbrev pub with_pages : List Enclave → ℕ → List PageKind → List Enclave
with_pages all e pages = with_enclave all e (record (enclave_at all e) { pages = pages })

set_itself : (all : List Enclave) (e : ℕ) → set all e (enclave_at all e) ≡ all
set_itself [] e = refl
set_itself (x ∷ xs) zero = refl
set_itself (x ∷ xs) (suc e) = ap (λ ys. x ∷ ys) (set_itself xs e)

pub no_pages_yet : (all : List Enclave) (e : ℕ) → (enclave_at all e).pages ≡ [] → all ≡ with_pages all e []
no_pages_yet all e empty = sym (set_itself all e) ∙ ap (with_pages all e) empty

module _ (all now : List Enclave) (s e : ℕ) (pages : List PageKind) (is : now ≡ with_pages all e pages) where
  pub pages_there : e < length all → (enclave_at now e).pages ≡ pages
  pages_there there = ap (λ xs. (enclave_at xs e).pages) is ∙ ap (λ (r : Enclave). r.pages) (record_there all e _ there)

  pub pages_of_other : s ≢ e → (enclave_at now s).pages ≡ (enclave_at all s).pages
  pages_of_other other = ap (λ xs. (enclave_at xs s).pages) is ∙ ap (λ (r : Enclave). r.pages) (other_record all e s _ other)

  -- they are changed once more
  pub pages_again : (more : List PageKind) → e < length all → with_pages now e more ≡ with_pages all e more
  pages_again more there =
      let r = record (enclave_at all e) { pages = pages } in
      ap (λ xs. with_pages xs e more) is
      ∙ ap (λ (x : Enclave). with_enclave (with_enclave all e r) e (record x { pages = more })) (record_there all e r there)
      ∙ set-set all e r (record (enclave_at all e) { pages = more })

-- the first pages, and one more
shared_more : (kinds : List PageKind) (index : ℕ) (kind : PageKind) → index < length kinds → slice_get kinds index ≡ Some kind
    → map as_shared (take index kinds) ++ as_shared kind ∷ [] ≡ map as_shared (take (index + 1) kinds)
shared_more kinds index kind within is =
    let got : get_or kinds index (Own 0) ≡ kind = sym (unwrap_or-slice_get kinds index (Own 0)) ∙ ap (λ o. unwrap_or o (Own 0)) is in
    ap (λ k. map as_shared (take index kinds) ++ as_shared k ∷ []) (sym got)
    ∙ sym (ap (map as_shared) (take_more kinds index (Own 0) within) ∙ map_push as_shared (take index kinds) (get_or kinds index (Own 0)))

pub shares_more : (all now : List Enclave) (s e index : ℕ) (kind : PageKind) → now ≡ with_pages all e (map as_shared (take index (enclave_at all s).pages)) → s ≢ e → e < length all
    → index < length (enclave_at all s).pages → slice_get (enclave_at now s).pages index ≡ Some kind
    → with_pages now e ((enclave_at now e).pages ++ as_shared kind ∷ []) ≡ with_pages all e (map as_shared (take (index + 1) (enclave_at all s).pages))
shares_more all now s e index kind is other there within got =
    let pages = map as_shared (take index (enclave_at all s).pages) in
    let kind_is : slice_get (enclave_at all s).pages index ≡ Some kind = ap (λ ps. slice_get ps index) (sym (pages_of_other all now s e pages is other)) ∙ got in
    ap (λ ps. with_pages now e (ps ++ as_shared kind ∷ [])) (pages_there all now s e pages is there)
    ∙ ap (with_pages now e) (shared_more (enclave_at all s).pages index kind within kind_is)
    ∙ pages_again all now s e pages is (map as_shared (take (index + 1) (enclave_at all s).pages)) there

-- begun with no page, and then all are shared
pub is_forked : (all now : List Enclave) (s : EncNo) (e : ℕ) (image : ℕ) (context : Context) (spares : List ℕ) → s.0 ≢ e → e < length all
    → image ≡ (enclave_at all s.0).image → context ≡ (enclave_at all s.0).context
    → now ≡ with_enclave all e (forked s (record (enclave_at all e) { image = image; pages = []; context = context }) spares (enclave_at all e))
    → with_pages now e (map as_shared (enclave_at now s.0).pages) ≡ with_enclave all e (forked s (enclave_at all s.0) spares (enclave_at all e))
is_forked all now s e image context spares other there image_is context_is is =
    let begun : ℕ → Context → Enclave = λ i c. forked s (record (enclave_at all e) { image = i; pages = []; context = c }) spares (enclave_at all e) in
    let source = enclave_at all s.0 in
    let r : Enclave = begun source.image source.context in
    let now_is : now ≡ with_enclave all e r = is ∙ ap (λ i. with_enclave all e (begun i context)) image_is ∙ ap (λ c. with_enclave all e (begun source.image c)) context_is in
    ap (λ xs. with_pages xs e (map as_shared (enclave_at xs s.0).pages)) now_is
    ∙ ap (λ (x : Enclave). with_pages (with_enclave all e r) e (map as_shared x.pages)) (other_record all e s.0 r other)
    ∙ ap (λ (x : Enclave). with_enclave (with_enclave all e r) e (record x { pages = map as_shared source.pages })) (record_there all e r there)
    ∙ set-set all e r (forked s source spares (enclave_at all e))
