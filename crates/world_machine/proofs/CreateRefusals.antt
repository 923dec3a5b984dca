-- The machine's refusals of `create`, `shadow` and `fork` are the abstract monitor's.
use Rattle.std.proofs.Common.{◌≡◌, ℕ, eqb, ltb, Bool, true, false, not, if◌then◌else◌, List, [], ◌∷◌, ◌++◌, length, slice_get, unwrap_or, Option, Some, None, option_map, refl, sym, ap, ◌∙◌, inl, inr}
use Rattle.std.specs.Prelude.{nat_lt}
use Rattle.std.specs.List.{find}
use Rattle.std.specs.Option.{option_map_or}
use Rattle.std.proofs.lemmas.Bool.{cases_Bool, eqb-true}
use Rattle.pl_base.specs.declared.refusal.No.{No}
use Rattle.pl_base.specs.declared.refusal.No.TheVariants.{Exists, Count, Twice, NotYours, StillMapped, Barred, NoEnclave, TooMany}
use Rattle.pl_base.specs.Pages.{first_twice, most_spares}
use Rattle.pl_base.specs.Refusals.{first_refusal, refuse}
use Rattle.pl_base.specs.States.{is_free, is_sealed}
use Rattle.mon_enclave.specs.declared.enclave.Enclave.{Enclave}
use Rattle.mon_enclave.specs.Records.{enclave_at}
use Rattle.mon_image.specs.declared.image.Image.{Image}
use Rattle.mon_life.specs.Making as machine
use Rattle.mon_shadow.specs.Forking.{fork_refusal_of}
use Rattle.mon_owner.specs.declared.owners.Owner.{Owner as Kept}
use Rattle.mon_owner.specs.declared.owners.Owner.TheVariants as kept
use Rattle.mon_owner.specs.Owners.{is_mapped, owner_at}
use Rattle.pl_history.specs.declared.setup.SetupParts.{SetupParts}
use Rattle.pl_history.specs.Making as monitor
use Rattle.pl_history.specs.Monitor.{Monitor, is_host, maps_of}
use Rattle.pl_history.specs.Protection.{pmp_of}
use Rattle.pl_history.proofs.Refusals.{first_none, named_none, refuse_none}
use Rattle.world_machine.specs.Making.{image_of}
use Rattle.world_machine.specs.RecordsAgree.{OwnersAgree, owner_of}

pub find_same : (p q : ℕ → Bool) (xs : List ℕ) → ((x : ℕ) → p x ≡ q x) → find p xs ≡ find q xs
find_same p q [] same = refl
find_same p q (x ∷ xs) same = ap (λ b. if b then Some x else find p xs) (same x) ∙ ap (λ o. if q x then Some x else o) (find_same p q xs same)

-- two tests that agree where a third fails
find_where : (r p q : ℕ → Bool) (xs : List ℕ) → ((x : ℕ) → r x ≡ false → p x ≡ q x) → find r xs ≡ None → find p xs ≡ find q xs
find_where r p q [] same none = refl
find_where r p q (x ∷ xs) same none = elim (cases_Bool (r x)) [
  | inl here ↦ (let h : Some x ≡ None = sym (ap (λ b. if b then Some x else find r xs) here) ∙ none in cc)
  | inr out ↦
      let rest : find r xs ≡ None = sym (ap (λ b. if b then Some x else find r xs) out) ∙ none in
      ap (λ b. if b then Some x else find p xs) (same x out) ∙ ap (λ o. if q x then Some x else o) (find_where r p q xs same rest)
]

host_same : (o : Option Kept) → machine.is_host (unwrap_or o kept.Guard) ≡ is_host (option_map owner_of o)
host_same None = refl
host_same (Some kept.Guard) = refl
host_same (Some (kept.Host maps)) = refl
host_same (Some (kept.Enclave e)) = refl
host_same (Some (kept.Shadow e)) = refl

mapped_same : (o : Option Kept) (n : ℕ) → ((maps : ℕ) → o ≡ Some (kept.Host maps) → maps ≡ n) → not (machine.is_host (unwrap_or o kept.Guard)) ≡ false
    → is_mapped (unwrap_or o kept.Guard) ≡ ltb 0 n
mapped_same None n agrees is = cc
mapped_same (Some kept.Guard) n agrees is = cc
mapped_same (Some (kept.Host maps)) n agrees is = ap (ltb 0) (agrees maps refl)
mapped_same (Some (kept.Enclave e)) n agrees is = cc
mapped_same (Some (kept.Shadow e)) n agrees is = cc

pub count_same : (o : Option Image) → length (unwrap_or o (record { entry = 0; pages = [] })).pages ≡ option_map_or (λ (i : Image). length i.pages) o 0
count_same None = refl
count_same (Some image) = refl

-- causes behind the first
pub behind : (x : Option No) (later later' : List (Option No)) → first_refusal later ≡ first_refusal later' → first_refusal (x ∷ later) ≡ first_refusal (x ∷ later')
behind (Some cause) later later' same = refl
behind None later later' same = same

-- a cause that differs only where the one before it holds
behind_one : (x y y' : Option No) (later : List (Option No)) → (x ≡ None → y ≡ y') → first_refusal (x ∷ y ∷ later) ≡ first_refusal (x ∷ y' ∷ later)
behind_one (Some cause) y y' later same = refl
behind_one None y y' later same = ap (λ o. first_refusal (o ∷ later)) (same refl)

not_some : (o : Option ℕ) → option_map NotYours o ≡ None → o ≡ None
not_some None none = refl
not_some (Some x) none = cc

-- ---- pages that can't be taken

module _ (setup : SetupParts) (owners : List Kept) (s : Monitor) (agree : OwnersAgree owners s) (pages : List ℕ) where
  not_host_same : machine.first_not_host owners pages ≡ monitor.first_not_host s pages
  not_host_same = find_same _ _ pages (λ page. ap not (host_same (slice_get owners page) ∙ ap is_host (sym (agree.owner page))))

  first_mapped_same : machine.first_not_host owners pages ≡ None → machine.first_mapped owners pages ≡ monitor.first_mapped s pages
  first_mapped_same = find_where (λ page. not (machine.is_host (owner_at owners page))) (λ page. is_mapped (owner_at owners page)) (λ page. ltb 0 (maps_of s page)) pages
      (λ page host. mapped_same (slice_get owners page) (maps_of s page) (agree.maps page) host)

  pub page_refusals_same : (later : List (Option No))
      → first_refusal (machine.page_refusals owners (pmp_of setup) pages ++ later) ≡ first_refusal (monitor.page_refusals setup s pages ++ later)
  page_refusals_same later =
      let barred : Option No = option_map Barred (monitor.first_barred setup pages) in
      behind_one (option_map NotYours (machine.first_not_host owners pages)) (option_map StillMapped (machine.first_mapped owners pages))
      (option_map StillMapped (monitor.first_mapped s pages)) (barred ∷ later)
      (λ none. ap (option_map StillMapped) (first_mapped_same (not_some (machine.first_not_host owners pages) none)))
      ∙ ap (λ o. first_refusal (option_map NotYours o ∷ option_map StillMapped (monitor.first_mapped s pages) ∷ barred ∷ later)) not_host_same

  -- ---- `create` and `shadow`

  pub refusal_same : (enclaves : List Enclave) (e image : ℕ) → (s.number e).state ≡ (enclave_at enclaves e).state
      → machine.create_refusal_of owners enclaves (pmp_of setup) (length (image_of setup image).pages) e pages ≡ monitor.create_refusal setup s e image pages
  refusal_same enclaves e image state =
      let twice : Option No = option_map Twice (first_twice pages) in
      let free : Option No = refuse (not (is_free (enclave_at enclaves e).state)) Exists in
      let count : Option No = refuse (not (eqb (length pages) (length (image_of setup image).pages))) Count in
      behind free _ _ (behind count _ _ (behind twice (machine.page_refusals owners (pmp_of setup) pages) (monitor.page_refusals setup s pages) (page_refusals_same [])))
      ∙ ap (λ st. first_refusal (refuse (not (is_free st)) Exists ∷ count ∷ twice ∷ monitor.page_refusals setup s pages)) (sym state)
      ∙ ap (λ n. first_refusal (refuse (not (is_free (s.number e).state)) Exists ∷ refuse (not (eqb (length pages) n)) Count ∷ twice ∷ monitor.page_refusals setup s pages))
      (count_same (slice_get setup.images image))

  -- ---- `fork`

  pub fork_refusal_same : (enclaves : List Enclave) (shadow e : ℕ) → (s.number shadow).state ≡ (enclave_at enclaves shadow).state
      → (s.number e).state ≡ (enclave_at enclaves e).state
      → fork_refusal_of owners enclaves (pmp_of setup) shadow e pages ≡ monitor.fork_refusal setup s shadow e pages
  fork_refusal_same enclaves shadow e shadow_state state =
      let many : Option No = refuse (nat_lt most_spares (length pages)) TooMany in
      let twice : Option No = option_map Twice (first_twice pages) in
      let sealed : Option No = refuse (not (is_sealed (enclave_at enclaves shadow).state)) NoEnclave in
      let free : Option No = refuse (not (is_free (enclave_at enclaves e).state)) Exists in
      behind sealed _ _ (behind free _ _ (behind twice (machine.page_refusals owners (pmp_of setup) pages ++ many ∷ [])
      (monitor.page_refusals setup s pages ++ many ∷ []) (page_refusals_same (many ∷ []))))
      ∙ (λ i. first_refusal (refuse (not (is_sealed (sym shadow_state i))) NoEnclave ∷ refuse (not (is_free (sym state i))) Exists
      ∷ twice ∷ (monitor.page_refusals setup s pages ++ many ∷ [])))

-- ---- where nothing refuses it

pub record MayCreate (setup : SetupParts) (s : Monitor) (e image : ℕ) (pages : List ℕ) : Type 0 where
  pub free : is_free (s.number e).state ≡ true
  pub count : length pages ≡ monitor.image_page_count setup image
  pub apart : first_twice pages ≡ None

pub may_create : (setup : SetupParts) (s : Monitor) (e image : ℕ) (pages : List ℕ) → monitor.create_refusal setup s e image pages ≡ None → MayCreate setup s e image pages
may_create setup s e image pages none =
    let first = first_none (refuse (not (is_free (s.number e).state)) Exists) _ none in
    let second = first_none (refuse (not (eqb (length pages) (monitor.image_page_count setup image))) Count) _ first.1 in
    let third = first_none (option_map Twice (first_twice pages)) _ second.1 in
    record {
      free = refuse_none (is_free (s.number e).state) Exists first.0;
      count = eqb-true _ _ (refuse_none (eqb (length pages) (monitor.image_page_count setup image)) Count second.0);
      apart = named_none Twice (first_twice pages) third.0;
    }

pub record MayFork (s : Monitor) (shadow e : ℕ) (pages : List ℕ) : Type 0 where
  pub sealed : is_sealed (s.number shadow).state ≡ true
  pub free : is_free (s.number e).state ≡ true
  pub apart : first_twice pages ≡ None

pub may_fork : (setup : SetupParts) (s : Monitor) (shadow e : ℕ) (pages : List ℕ) → monitor.fork_refusal setup s shadow e pages ≡ None → MayFork s shadow e pages
may_fork setup s shadow e pages none =
    let first = first_none (refuse (not (is_sealed (s.number shadow).state)) NoEnclave) _ none in
    let second = first_none (refuse (not (is_free (s.number e).state)) Exists) _ first.1 in
    let third = first_none (option_map Twice (first_twice pages)) _ second.1 in
    record {
      sealed = refuse_none (is_sealed (s.number shadow).state) NoEnclave first.0;
      free = refuse_none (is_free (s.number e).state) Exists second.0;
      apart = named_none Twice (first_twice pages) third.0;
    }
