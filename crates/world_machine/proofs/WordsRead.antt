-- A walk that asks for a word of a table has read one more once it has learned from it, and it reads three at most.
use Rattle.std.proofs.Common.{ℕ, ◌<◌, ◌≤◌, Bool, true, false, if◌then◌else◌, Option, Some, None, arith}
use Rattle.std.specs.Prelude.{find, Result, Ok, Err}
use Rattle.pl_base.specs.Address.{vpn_of}
use Rattle.pl_base.specs.Perms.{grants}
use Rattle.pl_base.specs.declared.access.Kind.{Kind}
use Rattle.pl_base.specs.declared.address.Pa.{Pa}
use Rattle.pl_base.specs.declared.address.Va.{Va}
use Rattle.pl_base.specs.declared.address.Ppn.{Ppn}
use Rattle.pl_base.specs.declared.perms.Perms.{Perms}
use Rattle.rv_hart.specs.declared.seeking.Sought.TheVariants.{At, PageFault}
use Rattle.rv_hart.specs.declared.walks.Micro.{Micro}
use Rattle.rv_hart.specs.declared.walks.Micro.TheVariants.{Fetching, Reaching, Faulting}
use Rattle.rv_hart.specs.declared.walks.PageFault.{PageFault as NoPage}
use Rattle.rv_hart.specs.declared.walks.View.{View}
use Rattle.rv_hart.specs.declared.walks.Walk.{Walk}
use Rattle.rv_hart.specs.declared.walks.Walk.TheVariants.{Start, Level, Found}
use Rattle.rv_hart.specs.Learning.{learned, learned_by, step_of}
use Rattle.rv_hart.specs.Seeking.{address_in, sought_at}
use Rattle.rv_hart.specs.Walks.{level_of}
use Rattle.rv_sv39.proofs.Walking.{steps_fit}
use Rattle.rv_sv39.specs.Canonical.{is_canonical}
use Rattle.rv_sv39.specs.Step.{FitsAccess}
use Rattle.rv_sv39.specs.declared.walk.Walked.{Walked}
use Rattle.rv_sv39.specs.declared.walk.Walked.TheVariants as walked
use Rattle.rv_tlb.specs.Tlb.{is_of}
use Rattle.rv_tlb.specs.declared.tlb.TlbEntry.{TlbEntry}
use Rattle.mem_ctl.specs.Data.{CtlData}
use Rattle.world_machine.specs.Runs.{events_made, words_read}
use Rattle.world_machine.specs.Translating.{Request, sought_in, translated}
use Rattle.world_machine.specs.TranslationsAgree.{WalkStands}
use Rattle.world_machine.specs.Worlds.{Event, WorldData, tlb_at}

pub at_most_three : (walk : Walk) → words_read walk ≤ 3
at_most_three Start = omega arith
at_most_three (Level level table) = omega arith
at_most_three (Found ppn perms) = omega arith

-- an instruction has one event left at least
pub at_most_seven : (micro : Micro) → events_made micro ≤ 7
at_most_seven (Fetching walk) = let few = at_most_three walk in omega arith
at_most_seven (Reaching word walk) = let few = at_most_three walk in omega arith
at_most_seven (Faulting va access) = omega arith

-- ---- what a walk asks for

-- one of two events, by a test
pub by_test : (P : Event → Type 0) (b : Bool) (x y : Event) → P x → P y → P (if b then x else y)
by_test P true x y p q = p
by_test P false x y p q = q

-- an event for what a walk asks for: a word of a table, where it hasn't read all of them, or the access itself
module _ (P : Event → Type 0) (w : WorldData) (request : Request) (reads : Pa → Event) (reaches : Option Pa → Event) where
  through : (ppn : Ppn) (perms : Perms) → ((o : Option Pa) → P (reaches o)) → (granted : Bool)
      → P (translated (if granted then At (address_in ppn request.va) else PageFault) reads reaches)
  through ppn perms reach true = reach (Some _)
  through ppn perms reach false = reach None

  where_it_stands : (walk : Walk) (entry : Option TlbEntry) → (words_read walk < 3 → (pa : Pa) → P (reads pa)) → ((o : Option Pa) → P (reaches o))
      → P (translated (sought_at walk entry request.va request.kind request.view) reads reaches)
  where_it_stands Start (Some entry) read reach = through entry.ppn entry.perms reach (grants entry.perms request.kind)
  where_it_stands Start None read reach = read (omega arith) _
  where_it_stands (Level level table) (Some entry) read reach = through entry.ppn entry.perms reach (grants entry.perms request.kind)
  where_it_stands (Level level table) None read reach = read (omega arith) _
  where_it_stands (Found ppn perms) entry read reach = through ppn perms reach (grants perms request.kind)

  either_way : (canonical : Bool) (walk : Walk) (entry : Option TlbEntry) → (words_read walk < 3 → (pa : Pa) → P (reads pa)) → ((o : Option Pa) → P (reaches o))
      → P (translated (if canonical then sought_at walk entry request.va request.kind request.view else PageFault) reads reaches)
  either_way true walk entry read reach = where_it_stands walk entry read reach
  either_way false walk entry read reach = reach None

  pub by_sought : (walk : Walk) → (words_read walk < 3 → (pa : Pa) → P (reads pa)) → ((o : Option Pa) → P (reaches o)) → P (translated (sought_in w request walk) reads reaches)
  by_sought walk = either_way (is_canonical request.va.0) walk (find (is_of request.view.space (vpn_of request.va)) (tlb_at w.tlbs request.hart))

-- ---- what it learns

-- below the root, the level of its table is 1 or 0
abbrev pub IsBelowRoot : Walk → Type 0
IsBelowRoot Start = Unit {0}
IsBelowRoot (Level level table) = level < 2
IsBelowRoot (Found ppn perms) = Unit {0}

pub stands_below : (ctl : CtlData) (Fresh : TlbEntry → Type 0) (view : View) (va : Va) (walk : Walk) → WalkStands ctl Fresh view va walk → IsBelowRoot walk
stands_below ctl Fresh view va Start stands = tt
stands_below ctl Fresh view va (Level level table) stands = stands.0
stands_below ctl Fresh view va (Found ppn perms) stands = tt

-- a word of a table leads on to a walk that has read more, or to no page
module _ (P : Result Walk NoPage → Type 0) (kind : Kind) where
  by_step : (walk : Walk) → IsBelowRoot walk → words_read walk < 3 → ((on : Walk) → words_read walk < words_read on → P (Ok on)) → ((none : NoPage) → P (Err none))
      → (step : Walked) → FitsAccess (level_of walk) kind step → P (learned_by (level_of walk) step)
  by_step Start below asks more none (walked.Next ppn) fits = more _ (omega arith)
  by_step Start below asks more none (walked.Leaf ppn perms) fits = more _ (omega arith)
  by_step Start below asks more none walked.PageFault fits = none _
  by_step (Level level table) below asks more none (walked.Next ppn) fits = more _ (omega arith)
  by_step (Level level table) below asks more none (walked.Leaf ppn perms) fits = more _ (omega arith)
  by_step (Level level table) below asks more none walked.PageFault fits = none _
  by_step (Found ppn perms) below asks more none step fits = absurd (omega arith)

  pub by_learned : (walk : Walk) → IsBelowRoot walk → words_read walk < 3 → ((on : Walk) → words_read walk < words_read on → P (Ok on)) → ((none : NoPage) → P (Err none))
      → (word : ℕ) (va : Va) (view : View) → P (learned walk word va kind view)
  by_learned walk below asks more none word va view = by_step walk below asks more none (step_of walk word va kind view) (steps_fit (level_of walk) word (vpn_of va) kind view.mode)
