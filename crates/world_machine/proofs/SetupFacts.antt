-- What a setup's rules say of a line of a script, of an image, and of the tables of enclave numbers.
use Rattle.std.proofs.Common.{◌≡◌, ℕ, ◌<◌, ◌≤◌, ◌%◌, eqb, ltb, leb, true, false, ◌&&◌, List, [], length, get_or, slice_get, unwrap_or, Option, Some, None, refl, sym, ap, ◌∙◌, arith, inl, inr, ◌≢◌}
use Rattle.std.specs.List.{All, list_all}
use Rattle.std.specs.Prelude.{IsTrue}
use Rattle.std.proofs.lemmas.Bool.{and_parts, cases_Bool, eqb-true, leb-true, ltb-false, ltb-true}
use Rattle.std.proofs.lemmas.Option.{slice_get-get_or, slice_get_past}
use Rattle.pl_base.specs.Perms.{are_page_perms}
use Rattle.mon_enclave.specs.declared.enclave.Enclave.{Enclave}
use Rattle.mon_enclave.specs.Records.{enclave_at, free_enclave}
use Rattle.mon_image.specs.declared.image.Image.{Image}
use Rattle.mon_image.specs.declared.page.ImagePage.{ImagePage}
use Rattle.mon_tables.specs.Tables.{table_number}
use Rattle.pl_base.specs.States.{is_free}
use Rattle.pl_history.specs.declared.line.Line.{Line}
use Rattle.pl_history.specs.declared.setup.SetupParts.{SetupParts}
use Rattle.pl_history.specs.Monitor.{script_of}
use Rattle.pl_history.specs.Rules.{is_attack_line, is_line, IsSetup, guarded_of, is_entry, is_image, is_page, is_within, pages_of}
pub use Rattle.pl_history.proofs.ScriptLines.{each_holds, line_names}

-- ---- lines

-- a line has the form of one
form_of : (script : Option (List Line)) (at : ℕ) (line : Line) → ((lines : List Line) → script ≡ Some lines → list_all is_line lines ≡ true)
    → slice_get (unwrap_or script []) at ≡ Some line → is_line line ≡ true
form_of None at line all here = cc
form_of (Some lines) at line all here = each_holds is_line lines at line (all lines refl) here

pub line_forms : (setup : SetupParts) (hart at : ℕ) (line : Line) → IsSetup setup → slice_get (script_of setup hart) at ≡ Some line → is_line line ≡ true
line_forms setup hart at line rules here =
    form_of (slice_get setup.lines hart) at line
    (λ lines is. each_holds (list_all is_line) setup.lines hart lines (and_parts (list_all (list_all is_line) setup.lines) (list_all is_attack_line setup.attacker) rules.forms).0 is) here

-- a number that there is, and an image
pub record CreateNames (setup : SetupParts) (e number : ℕ) : Type 0 where
  pub there : e < setup.enclaves
  pub image : Image
  pub image_is : slice_get setup.images number ≡ Some image

-- ---- images

module _ (setup : SetupParts) (number : ℕ) (image : Image) (rules : IsSetup setup) (here : slice_get setup.images number ≡ Some image) where
  image_holds : is_image image ≡ true
  image_holds = each_holds is_image setup.images number image (and_parts (leb (length setup.images) 64) (list_all is_image setup.images) rules.images).1 here

  -- the first instruction stands at a multiple of 4
  pub entry_aligned : image.entry % 4 ≡ 0
  entry_aligned =
      let entry = (and_parts (is_entry (length image.pages) image.entry) (is_within 1 256 (length image.pages) && list_all is_page image.pages) image_holds).0 in
      eqb-true (image.entry % 4) 0 (and_parts (eqb (image.entry % 4) 0) _ entry).0

  -- it has pages, and not too many
  image_count : is_within 1 256 (length image.pages) ≡ true
  image_count =
      let rest = (and_parts (is_entry (length image.pages) image.entry) (is_within 1 256 (length image.pages) && list_all is_page image.pages) image_holds).1 in
      (and_parts (is_within 1 256 (length image.pages)) (list_all is_page image.pages) rest).0

  pub image_some : 1 ≤ length image.pages
  image_some = leb-true 1 (length image.pages) (and_parts (leb 1 (length image.pages)) (leb (length image.pages) 256) image_count).0

  pub image_few : length image.pages ≤ 256
  image_few = leb-true (length image.pages) 256 (and_parts (leb 1 (length image.pages)) (leb (length image.pages) 256) image_count).1

  -- a page has 4,096 bytes
  pub page_size : (at : ℕ) (page : ImagePage) → slice_get image.pages at ≡ Some page → length page.bytes ≡ 4096
  page_size at page stands =
      let rest = (and_parts (is_entry (length image.pages) image.entry) (is_within 1 256 (length image.pages) && list_all is_page image.pages) image_holds).1 in
      let all = (and_parts (is_within 1 256 (length image.pages)) (list_all is_page image.pages) rest).1 in
      eqb-true (length page.bytes) 4096 (and_parts (are_page_perms page.perms) (eqb (length page.bytes) 4096) (each_holds is_page image.pages at page all stands)).1

  -- and permissions that a page may have
  pub image_perms : All (λ (page : ImagePage). IsTrue (are_page_perms page.perms)) image.pages
  image_perms at none within =
      let rest = (and_parts (is_entry (length image.pages) image.entry) (is_within 1 256 (length image.pages) && list_all is_page image.pages) image_holds).1 in
      let all = (and_parts (is_within 1 256 (length image.pages)) (list_all is_page image.pages) rest).1 in
      let page : ImagePage = get_or image.pages at none in
      (and_parts (are_page_perms page.perms) (eqb (length page.bytes) 4096) (each_holds is_page image.pages at page all (slice_get-get_or image.pages at none within))).0

-- ---- numbers

-- the tables of a number stand in guarded pages
pub table_guarded : (setup : SetupParts) (e level : ℕ) → e < setup.enclaves → table_number setup.tables e level < guarded_of setup.tables setup.enclaves
table_guarded setup e level there = omega arith

pub guarded_few : (setup : SetupParts) → IsSetup setup → guarded_of setup.tables setup.enclaves < pages_of setup.zones
guarded_few setup rules = ltb-true (guarded_of setup.tables setup.enclaves) (pages_of setup.zones) rules.pool

-- tables of different numbers stand in different pages
pub tables_apart : (tables e f level other : ℕ) → f ≢ e → level < 3 → other < 3 → table_number tables f level ≢ table_number tables e other
tables_apart tables e f level other differ low lower same = absurd (differ (omega arith))

-- a number with a record that isn't free is one that there is
pub used_there : (enclaves : List Enclave) (f : ℕ) → is_free (enclave_at enclaves f).state ≡ false → f < length enclaves
used_there enclaves f used = elim (cases_Bool (ltb f (length enclaves))) [
  | inl within ↦ ltb-true f (length enclaves) within
  | inr past ↦ (let none : slice_get enclaves f ≡ None = slice_get_past enclaves f (ltb-false f (length enclaves) past) in
      let free : true ≡ false = ap (λ (o : Option Enclave). is_free (unwrap_or o free_enclave).state) (sym none) ∙ used in cc)
]
