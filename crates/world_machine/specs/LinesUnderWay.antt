-- What holds of each hart's line that has begun, and that no two harts have one number under way.
use Rattle.std.specs.Prelude.{◌≡◌, ℕ, ◌+◌, ◌%◌, ◌<◌, ◌≤◌, Bool, true, false, is_some, slice_get, List, length, map, Option, Some, None}
use Rattle.std.specs.List.{All}
use Rattle.pl_base.specs.declared.access.Kind.{Kind}
use Rattle.pl_base.specs.declared.access.Kind.TheVariants as kind
use Rattle.pl_base.specs.declared.state.State.TheVariants as state_is
use Rattle.rv_alone.specs.declared.step.Act.{Act}
use Rattle.rv_alone.specs.declared.step.Act.TheVariants as act_is
use Rattle.rv_alone.specs.Effect.{act_of}
use Rattle.rv_alone.specs.Flat.{fetched, page_number}
use Rattle.rv_hart.specs.declared.walks.Micro.{Micro}
use Rattle.rv_hart.specs.declared.walks.Micro.TheVariants.{Fetching, Reaching, Faulting}
use Rattle.rv_hart.specs.declared.walks.Walk.TheVariants.{Start}
use Rattle.mon_enclave.specs.declared.enclave.Enclave.{Enclave}
use Rattle.mon_enclave.specs.declared.enclave.PageKind.TheVariants.{Own}
use Rattle.mon_enclave.specs.Records.{is_shared}
use Rattle.mon_image.specs.declared.page.ImagePage.{ImagePage}
use Rattle.mon_life.specs.Pages.{PagePut, page_put_at}
use Rattle.mon_life.specs.Putting.{steps_of}
use Rattle.pl_history.specs.declared.line.Line.{Line}
use Rattle.pl_history.specs.declared.line.Line.TheVariants.{Load, Store, Unmap, Create, Shadow, Fork, Run, Resume, Destroy}
use Rattle.pl_history.specs.declared.setup.SetupParts.{SetupParts}
use Rattle.pl_history.specs.Monitor.{Number}
use Rattle.world_machine.specs.declared.under.Under.{Under}
use Rattle.world_machine.specs.declared.under.Under.TheVariants.{Idle, Seeking, Removing, Destroying, Putting, Running, Breaking}
use Rattle.world_machine.specs.Making.{image_of}
use Rattle.world_machine.specs.Pages.{flat_pages, numbers_of, reached}

-- the number that a begun line has under way
abbrev pub number_under_way : Option Line → Under → Option ℕ
number_under_way (Some (Create e image pages)) (Putting done) = Some e.0
number_under_way (Some (Shadow e image pages)) (Putting done) = Some e.0
number_under_way (Some (Fork shadow e pages)) (Putting done) = Some e.0
number_under_way (Some (Run e budget)) (Running micro count) = Some e.0
number_under_way (Some (Run e budget)) (Breaking count index) = Some e.0
number_under_way (Some (Resume e budget)) (Running micro count) = Some e.0
number_under_way (Some (Resume e budget)) (Breaking count index) = Some e.0
number_under_way (Some (Destroy e)) Destroying = Some e.0
number_under_way line under = None

-- no number is under way on two harts
abbrev pub NumbersApart : (ℕ → Option ℕ) → Type 0
NumbersApart under_way = (hart other e : ℕ) → under_way hart ≡ Some e → under_way other ≡ Some e → hart ≡ other

-- a page that was put has its bytes
abbrev pub HasBytes : (ℕ → List ℕ) → PagePut → Type 0
HasBytes bytes_of put = bytes_of put.page ≡ put.bytes

-- A number is being made of an image. Of the steps that put a page each, those from `first` on and below `done` are done: each page that they put has
-- its bytes, as last written.
pub record IsPutting (setup : SetupParts) (bytes_of : ℕ → List ℕ) (r : Enclave) (e image : ℕ) (shadow : Bool) (first done : ℕ) : Type 0 where
  pub state : r.state ≡ state_is.Building
  pub image_is : r.image ≡ image
  pub few : done < steps_of shadow (length (image_of setup image).pages)
  pub put : (at : ℕ) → first ≤ at → at < done → HasBytes bytes_of (page_put_at setup.tables e (image_of setup image) r.pages at)

-- it is made from the first step on, into these pages of its own
pub record IsBuilding (setup : SetupParts) (bytes_of : ℕ → List ℕ) (r : Enclave) (e image : ℕ) (shadow : Bool) (pages : List ℕ) (done : ℕ) : Type 0 where
  pub pages_are : r.pages ≡ map Own pages
  pub putting : IsPutting setup bytes_of r e image shadow 0 done

-- the number of the step that puts the first table: those below it put the image's pages
abbrev pub first_table_step : SetupParts → Enclave → ℕ
first_table_step setup r = length (image_of setup r.image).pages

-- a fork is made from that step on: all pages of the image are the shadow's
pub record IsForking (setup : SetupParts) (bytes_of : ℕ → List ℕ) (r : Enclave) (e : ℕ) (done : ℕ) : Type 0 where
  pub forked : is_some r.parent ≡ true
  pub shared : All (λ kind. is_shared kind ≡ true) r.pages
  pub from : first_table_step setup r ≤ done
  pub putting : IsPutting setup bytes_of r e r.image false (first_table_step setup r) done

-- the access to data of an instruction: of this kind, at this address
abbrev pub access_of : Act → Option (Kind × ℕ)
access_of (act_is.Load address width is_signed rd) = Some (kind.Load, address)
access_of (act_is.Store address width value) = Some (kind.Store, address)
access_of act = None

-- the word at pc makes this access
pub record MakesAccess (image : List ImagePage) (bytes_of : ℕ → List ℕ) (r : Enclave) (word : ℕ) (access : Kind × ℕ) : Type 0 where
  pub word_is : fetched (flat_pages bytes_of image (numbers_of r.pages)) r.context.pc ≡ Some word
  pub access_is : access_of (act_of r.context word) ≡ Some access

-- the next instruction makes an access of a kind at an address: its fetch, or one to data
abbrev pub IsAccessed : List ImagePage → (ℕ → List ℕ) → Enclave → ℕ → Kind → Type 0
IsAccessed image bytes_of r va kind.Fetch = va ≡ r.context.pc
IsAccessed image bytes_of r va access = (word : ℕ) × MakesAccess image bytes_of r word (access, va)

-- the next instruction: it isn't fetched; or it is the word at pc, and loads or stores; or no page serves an access that it makes
abbrev pub InstructionStands : List ImagePage → (ℕ → List ℕ) → Enclave → Micro → Type 0
InstructionStands image bytes_of r (Fetching walk) = Unit {0}
InstructionStands image bytes_of r (Reaching word walk) = (access : Kind × ℕ) × MakesAccess image bytes_of r word access
InstructionStands image bytes_of r (Faulting va access) = IsAccessed image bytes_of r va access × (reached access image r.pages va ≡ None)

-- an enclave that runs on this hart, with budget left; so many instructions retired since the line began
pub record IsRunning (setup : SetupParts) (bytes_of : ℕ → List ℕ) (r : Enclave) (n : Number) (hart budget count : ℕ) (micro : Micro) : Type 0 where
  pub state : r.state ≡ state_is.On
  pub hart_is : r.hart.0 ≡ hart
  pub within : count < budget
  pub retired : r.retired ≡ n.retired + count
  pub instruction : InstructionStands (image_of setup r.image).pages bytes_of r micro

-- An enclave that broke page `index` of its image, so that the page is its own: its next instruction, which starts anew, stores there.
pub record IsRestarting (setup : SetupParts) (bytes_of : ℕ → List ℕ) (r : Enclave) (n : Number) (hart budget count index : ℕ) : Type 0 where
  pub running : IsRunning setup bytes_of r n hart budget count (Fetching Start)
  pub va : ℕ
  pub stores : IsAccessed (image_of setup r.image).pages bytes_of r va kind.Store
  pub place : page_number va ≡ index
  pub page : ℕ
  pub own : slice_get r.pages index ≡ Some (Own page)

-- what holds of a hart's line that is so far; a line that can't be so far isn't
abbrev pub LineUnderWay : SetupParts → (ℕ → List ℕ) → (ℕ → Enclave) → (ℕ → Number) → ℕ → Option Line → Under → Type 0
LineUnderWay setup bytes_of record_of number hart line Idle = Unit {0}
LineUnderWay setup bytes_of record_of number hart (Some (Load va)) (Seeking walk) = va.0 % 8 ≡ 0
LineUnderWay setup bytes_of record_of number hart (Some (Store va word)) (Seeking walk) = va.0 % 8 ≡ 0
LineUnderWay setup bytes_of record_of number hart (Some (Unmap va)) (Removing page) = Unit {0}
LineUnderWay setup bytes_of record_of number hart (Some (Create e image pages)) (Putting done) = IsBuilding setup bytes_of (record_of e.0) e.0 image false pages done
LineUnderWay setup bytes_of record_of number hart (Some (Shadow e image pages)) (Putting done) = IsBuilding setup bytes_of (record_of e.0) e.0 image true pages done
LineUnderWay setup bytes_of record_of number hart (Some (Fork shadow e pages)) (Putting done) = IsForking setup bytes_of (record_of e.0) e.0 done
LineUnderWay setup bytes_of record_of number hart (Some (Run e budget)) (Running micro count) =
    IsRunning setup bytes_of (record_of e.0) (number e.0) hart budget count micro
LineUnderWay setup bytes_of record_of number hart (Some (Run e budget)) (Breaking count index) =
    IsRestarting setup bytes_of (record_of e.0) (number e.0) hart budget count index
LineUnderWay setup bytes_of record_of number hart (Some (Resume e budget)) (Running micro count) =
    IsRunning setup bytes_of (record_of e.0) (number e.0) hart budget count micro
LineUnderWay setup bytes_of record_of number hart (Some (Resume e budget)) (Breaking count index) =
    IsRestarting setup bytes_of (record_of e.0) (number e.0) hart budget count index
LineUnderWay setup bytes_of record_of number hart (Some (Destroy e)) Destroying = (record_of e.0).state ≡ state_is.Dying
LineUnderWay setup bytes_of record_of number hart line under = ⊥
