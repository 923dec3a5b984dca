-- What an event of an actor needs of the world.
use Rattle.std.specs.Prelude.{◌≡◌, ℕ, ◌+◌, ◌*◌, ◌<◌, ◌≤◌, ◌^◌, Bool, true, IsTrue, All, List, [], length, slice_get, Option, Some, None}
use Rattle.pl_base.specs.declared.access.Kind.TheVariants as kind
use Rattle.pl_base.specs.declared.address.Va.{Va}
use Rattle.pl_base.specs.declared.number.EncNo.{EncNo}
use Rattle.pl_base.specs.declared.perms.Perms.{Perms}
use Rattle.pl_base.specs.Perms.{are_page_perms}
use Rattle.pl_base.specs.declared.state.State.TheVariants.{Building, On}
use Rattle.pl_base.specs.States.{is_sealed}
use Rattle.rv_alone.specs.declared.step.Act.{Act}
use Rattle.rv_alone.specs.declared.step.Act.TheVariants as act_is
use Rattle.rv_alone.specs.Effect.{act_of}
use Rattle.rv_hart.specs.declared.walks.Micro.{Micro}
use Rattle.rv_hart.specs.declared.walks.Micro.TheVariants.{Fetching, Reaching, Faulting}
use Rattle.rv_hart.specs.declared.walks.Walk.{Walk}
use Rattle.mon_enclave.specs.declared.enclave.Enclave.{Enclave}
use Rattle.mon_enclave.specs.declared.enclave.PageKind.{PageKind}
use Rattle.mon_enclave.specs.Records.{enclave_at, is_shared_at, page_number_of, with_enclave}
use Rattle.mon_fence.specs.declared.fences.Fence.{Fence}
use Rattle.mon_fence.specs.Fences.{fence_of}
use Rattle.mon_host.specs.Unmapping.{HaveHostLeaves}
use Rattle.mon_image.specs.declared.page.ImagePage.{ImagePage}
use Rattle.mon_life.specs.Destroying.{held_by}
use Rattle.mon_life.specs.Making.{PagesTaken, create_begun}
use Rattle.mon_life.specs.Putting.{steps_of}
use Rattle.mon_shadow.specs.Forking.{fork_begun}
use Rattle.mon_shadow.specs.Granting.{grant_made}
use Rattle.mon_owner.specs.Owners.{is_host, is_mapped, may_be_mapped, owner_at}
use Rattle.pl_history.specs.declared.line.Line.{Line}
use Rattle.pl_history.specs.declared.line.Line.TheVariants.{Create, Fork, Shadow}
use Rattle.pl_history.specs.Protection.{pmp_of}
use Rattle.world_attack.specs.Lines.{KeepsAnsweredFor, is_attack, line_bytes}
use Rattle.world_events.specs.Translating.{CanSeek}
use Rattle.world_machine.specs.HostAccessing.{WordAccess, host_request}
use Rattle.world_machine.specs.Making.{image_of}
use Rattle.world_machine.specs.Running.{RunNow, perms_at, run_request}
use Rattle.world_machine.specs.Worlds.{WorldData, answered_at, hart_line}

-- the actor is there, has a line that isn't answered, and the history has room for an entry
pub record CanAnswer (w : WorldData) (actor : ℕ) : Type 0 where
  pub actors : actor < length w.answered
  pub few : answered_at w.answered actor < 65536
  pub room : 0 < w.history.entry_room

-- and the actor is a hart
pub record CanGo (w : WorldData) (hart : ℕ) : Type 0 where
  pub harts : hart < length w.under
  pub actors : CanAnswer w hart

-- the attacker's line writes or keeps bytes, for which there is room
pub record CanAttack (w : WorldData) : Type 0 where
  pub actors : CanAnswer w w.setup.harts
  pub line : is_attack (slice_get w.setup.attacker (answered_at w.answered w.setup.harts)) ≡ true
  pub zones : w.ctl.zones ≡ w.setup.zones
  pub kept : KeepsAnsweredFor w.setup w.history (answered_at w.answered w.setup.harts)
  pub bytes : line_bytes w.setup (answered_at w.answered w.setup.harts) ≤ w.history.byte_room

-- a number and an image that there are
pub record CanMake (w : WorldData) (hart e image : ℕ) : Type 0 where
  pub harts : CanGo w hart
  pub number : e < length w.enclaves
  pub image_there : image < length w.setup.images
  pub scripts : hart < length w.setup.lines

-- the pages that a line which makes a number names
abbrev pub pages_named : Option Line → List ℕ
pages_named (Some (Create e image pages)) = pages
pages_named (Some (Shadow e image pages)) = pages
pages_named (Some (Fork s e pages)) = pages
pages_named line = []

abbrev pub pages_due : WorldData → ℕ → List ℕ
pages_due w hart = pages_named (hart_line w hart)

-- how the hart's line that makes a number begins
abbrev pub create_due : WorldData → ℕ → ℕ → ℕ → Bool → PagesTaken
create_due w hart e image shadow = create_begun w.owners w.enclaves (pmp_of w.setup) e image (image_of w.setup image) (pages_due w hart) shadow

-- a number to fork, and one to fork it from, that there are
pub record CanFork (w : WorldData) (hart s e : ℕ) : Type 0 where
  pub harts : CanGo w hart
  pub shadow : s < length w.enclaves
  pub number : e < length w.enclaves
  pub scripts : hart < length w.setup.lines

-- how the hart's line that forks a number begins
abbrev pub fork_due : WorldData → ℕ → EncNo → ℕ → PagesTaken
fork_due w hart s e = fork_begun w.owners w.enclaves (pmp_of w.setup) s e (pages_due w hart)

-- how one that gives a number a spare is answered
abbrev pub grant_due : WorldData → ℕ → ℕ → PagesTaken
grant_due w e page = grant_made w.owners w.enclaves (pmp_of w.setup) e page

-- each page of a record is one of the controller's
abbrev pub AreInside : ℕ → List PageKind → Type 0
AreInside zones = All (λ kind. page_number_of kind < 64 * zones)

-- a number is being made, and so many steps are done, not all
pub record CanPut (w : WorldData) (hart e image : ℕ) (shadow : Bool) (at : ℕ) : Type 0 where
  pub make : CanMake w hart e image
  pub building : (enclave_at w.enclaves e).state ≡ Building
  pub count : length (enclave_at w.enclaves e).pages ≡ length (image_of w.setup image).pages
  pub few : at < steps_of shadow (length (image_of w.setup image).pages)
  pub small : at < 65536
  pub inside : AreInside w.ctl.zones (enclave_at w.enclaves e).pages
  pub guarded : 2 + w.setup.tables + 3 * length w.enclaves ≤ 64 * w.ctl.zones
  pub perms : All (λ (page : ImagePage). IsTrue (are_page_perms page.perms)) (image_of w.setup image).pages

-- a number has this record now
abbrev pub with_record : WorldData → ℕ → Enclave → WorldData
with_record w e r = record w { enclaves = with_enclave w.enclaves e r }

-- an enclave is on
pub record CanLeave (w : WorldData) (run : RunNow) : Type 0 where
  pub harts : CanGo w run.hart
  pub number : run.e < length w.enclaves
  pub on : (enclave_at w.enclaves run.e).state ≡ On

-- with budget left, and not too many instructions retired before the line began
pub record CanRun (w : WorldData) (run : RunNow) : Type 0 where
  pub leave : CanLeave w run
  pub within : run.count < run.budget
  pub retired : (enclave_at w.enclaves run.e).retired ≤ 2 ^ 48 + run.count

-- where no page serves an access of an enclave that is on: its image is there, the hart has no fence, and each page that the number has or was given
-- is one of the controller's
pub record CanBreak (w : WorldData) (run : RunNow) : Type 0 where
  pub leave : CanLeave w run
  pub tlbs : run.hart < length w.tlbs
  pub fences : run.hart < length w.fences
  pub none : fence_of w.fences run.hart ≡ None
  pub image_there : (enclave_at w.enclaves run.e).image < length w.setup.images
  pub inside : AreInside w.ctl.zones (enclave_at w.enclaves run.e).pages
  pub spares : All (λ page. page < 64 * w.ctl.zones) (enclave_at w.enclaves run.e).spares
  pub guarded : 2 + w.setup.tables + 3 * length w.enclaves ≤ 64 * w.ctl.zones
  pub perms : All (λ (page : ImagePage). IsTrue (are_page_perms page.perms)) (image_of w.setup (enclave_at w.enclaves run.e).image).pages

-- and a page of the number's image is to be broken, with permissions that a page may have
pub record CanBreakAt (w : WorldData) (run : RunNow) (index : ℕ) : Type 0 where
  pub breaks : CanBreak w run
  pub shared : is_shared_at (enclave_at w.enclaves run.e) index ≡ true
  pub allowed : IsTrue (are_page_perms (perms_at w.setup (enclave_at w.enclaves run.e) index))

-- a page was broken: the hart has posted a fence
pub record CanRestart (w : WorldData) (hart : ℕ) : Type 0 where
  pub harts : hart < length w.under
  pub fences : hart < length w.fences
  pub fence : Fence
  pub fence_is : fence_of w.fences hart ≡ Some fence

-- the data of an instruction may be sought, where it loads or stores
abbrev pub CanSeekData : WorldData → RunNow → Walk → Act → Type 0
CanSeekData w run walk (act_is.Load address width is_signed rd) = CanSeek w (run_request w run address kind.Load) walk
CanSeekData w run walk (act_is.Store address width value) = CanSeek w (run_request w run address kind.Store) walk
CanSeekData w run walk act = Unit {0}

-- and so what an instruction seeks that is so far
abbrev pub CanSeekNext : WorldData → RunNow → Micro → Type 0
CanSeekNext w run (Fetching walk) = CanSeek w (run_request w run (enclave_at w.enclaves run.e).context.pc kind.Fetch) walk
CanSeekNext w run (Reaching word walk) = CanSeekData w run walk (act_of (enclave_at w.enclaves run.e).context word)
CanSeekNext w run (Faulting va access) = Unit {0}

-- an enclave may go on with its next instruction
pub record CanReach (w : WorldData) (run : RunNow) (micro : Micro) : Type 0 where
  pub runs : CanRun w run
  pub breaks : CanBreak w run
  pub seeks : CanSeekNext w run micro

-- ---- the host's memory

-- an access may be made, whose walk is so far
pub record CanAccess (w : WorldData) (hart : ℕ) (va : Va) (access : WordAccess) (walk : Walk) : Type 0 where
  pub harts : CanGo w hart
  pub seeks : CanSeek w (host_request w hart va access) walk

-- a page may be mapped with permissions that a page may have
pub record CanMap (w : WorldData) (hart page : ℕ) (perms : Perms) : Type 0 where
  pub harts : CanGo w hart
  pub guarded : 2 + w.setup.tables ≤ 64 * w.ctl.zones
  pub allowed : IsTrue (are_page_perms perms)
  pub few : IsTrue (is_host (owner_at w.owners page)) → IsTrue (may_be_mapped (owner_at w.owners page))

-- a mapping may be taken away: the leaves are those of pages, and the hart has no fence
pub record CanUnmap (w : WorldData) (hart : ℕ) : Type 0 where
  pub harts : CanGo w hart
  pub tlbs : hart < length w.tlbs
  pub fences : hart < length w.fences
  pub guarded : 2 + w.setup.tables ≤ 64 * w.ctl.zones
  pub leaves : HaveHostLeaves w.setup.tables w.ctl
  pub none : fence_of w.fences hart ≡ None

-- and it is being taken away
pub record CanEndUnmap (w : WorldData) (hart page : ℕ) : Type 0 where
  pub harts : CanGo w hart
  pub fences : hart < length w.fences
  pub fence : Fence
  pub fence_is : fence_of w.fences hart ≡ Some fence
  pub mapped : IsTrue (is_mapped (owner_at w.owners page))

-- ---- giving back

-- a number may be given back: it is there, and the hart has no fence
pub record CanDestroy (w : WorldData) (hart e : ℕ) : Type 0 where
  pub harts : CanGo w hart
  pub number : e < length w.enclaves
  pub tlbs : hart < length w.tlbs
  pub fences : hart < length w.fences
  pub none : fence_of w.fences hart ≡ None

-- and it is being given back: each page that it holds is one of the controller's, and has an owner
pub record CanEndDestroy (w : WorldData) (hart e : ℕ) : Type 0 where
  pub harts : CanGo w hart
  pub number : e < length w.enclaves
  pub fences : hart < length w.fences
  pub fence : Fence
  pub fence_is : fence_of w.fences hart ≡ Some fence
  pub inside : All (λ page. page < 64 * w.ctl.zones) (held_by w.enclaves e)
  pub owned : All (λ page. page < length w.owners) (held_by w.enclaves e)

-- a number may be given back where it is sealed: each page that it holds is one of the controller's then, and has an owner
pub record CanDrop (w : WorldData) (hart s : ℕ) : Type 0 where
  pub harts : CanGo w hart
  pub number : s < length w.enclaves
  pub inside : IsTrue (is_sealed (enclave_at w.enclaves s).state) → All (λ page. page < 64 * w.ctl.zones) (held_by w.enclaves s)
  pub owned : IsTrue (is_sealed (enclave_at w.enclaves s).state) → All (λ page. page < length w.owners) (held_by w.enclaves s)

-- ---- acknowledgements

-- a hart may acknowledge
pub record CanAcknowledge (w : WorldData) (hart : ℕ) : Type 0 where
  pub actors : hart < length w.answered
  pub harts : hart < length w.under
  pub scripts : hart < length w.setup.lines
  pub tlbs : hart < length w.tlbs
  pub fences : hart < length w.fences
