-- The events of `load` and `store`: the words of the walk, and then the bytes themselves, which no tree guards.
use Rattle.std.specs.Prelude.{ℕ, ◌%◌, ◌==◌, if◌then◌else◌, List, Option, Some, None, Result, Ok, Err}
use Rattle.pl_base.specs.declared.access.Kind.{Kind}
use Rattle.pl_base.specs.declared.access.Kind.TheVariants as kind
use Rattle.pl_base.specs.declared.address.Pa.{Pa}
use Rattle.pl_base.specs.declared.address.Va.{Va}
use Rattle.pl_base.specs.declared.place.Place.{Place}
use Rattle.pl_base.specs.declared.refusal.No.TheVariants as refused
use Rattle.rv_hart.specs.declared.walks.PageFault.{PageFault as NoPage}
use Rattle.rv_hart.specs.declared.walks.Walk.{Walk}
use Rattle.rv_hart.specs.declared.walks.Walk.TheVariants.{Start}
use Rattle.rv_pmp.specs.Pmp.{permits}
use Rattle.mem_ctl.specs.Raw.{raw_written}
use Rattle.mem_ctl.specs.Writes.{word_at}
use Rattle.pl_history.specs.declared.answer.Answer.TheVariants as answer_is
use Rattle.pl_history.specs.Protection.{pmp_of}
use Rattle.world_machine.specs.declared.under.Under.TheVariants.{Seeking}
use Rattle.world_machine.specs.Answering.{answers, goes_on, quiet}
use Rattle.world_machine.specs.Translating.{Request, host_view, offset_at, page_at, reads_table, sought_in, translated}
use Rattle.world_machine.specs.Worlds.{Event, WorldData}

-- a load, or a store of a word
pub data WordAccess : Type 0 where
  loads : WordAccess
  stores : ℕ → WordAccess

abbrev pub kind_of : WordAccess → Kind
kind_of loads = kind.Load
kind_of (stores word) = kind.Store

abbrev pub host_request : WorldData → ℕ → Va → WordAccess → Request
host_request w hart va access = record { hart = hart; va = va; kind = kind_of access; view = host_view w.setup.tables }

-- the eight bytes are read as they stand off chip, or written there
abbrev pub made : WorldData → ℕ → Pa → WordAccess → WorldData
made w hart pa loads = answers w hart (answer_is.Value (word_at w.ctl.off_chip (page_at pa) (offset_at pa)))
made w hart pa (stores word) = answers (record w { ctl = raw_written w.ctl (page_at pa) (offset_at pa) word }) hart answer_is.Ok

-- at its address the access is made where the protection entries let it through; and it may have no page
abbrev pub reaches_host : WorldData → ℕ → WordAccess → Option Pa → Event
reaches_host w hart access None = quiet (answers w hart (answer_is.No refused.PageFault))
reaches_host w hart access (Some pa) =
    quiet (if permits (pmp_of w.setup) pa.0 8 (kind_of access) then made w hart pa access else answers w hart (answer_is.No refused.AccessFault))

-- a walk that has learned goes on, or is answered that there is no page
abbrev pub host_learns : ℕ → WorldData → Result Walk NoPage → WorldData
host_learns hart w (Ok walk) = goes_on w hart (Seeking walk)
host_learns hart w (Err none) = answers w hart (answer_is.No refused.PageFault)

abbrev pub host_faults : ℕ → WorldData → Place → WorldData
host_faults hart w place = answers w hart (answer_is.No (refused.Fault place))

module _ (digest_of : List ℕ → List ℕ) where
  -- the next event of an access whose walk is so far
  abbrev pub accesses_host : WorldData → ℕ → List ℕ → Va → WordAccess → Walk → Event
  accesses_host w hart positions va access walk =
      translated (sought_in w (host_request w hart va access) walk)
      (reads_table digest_of w (host_request w hart va access) positions walk (host_learns hart) (host_faults hart))
      (reaches_host w hart access)

  -- the first event: an address that isn't a multiple of 8 is refused
  abbrev pub begins_access : WorldData → ℕ → List ℕ → Va → WordAccess → Event
  begins_access w hart positions va access =
      if va.0 % 8 == 0 then accesses_host w hart positions va access Start else quiet (answers w hart (answer_is.No refused.Misaligned))
