-- The events of `destroy`, by which a number is dying and then, once every hart acknowledged that, given back; and that of `drop`.
use Rattle.std.specs.Prelude.{ℕ, Option, Some, None}
use Rattle.pl_base.specs.declared.number.EncNo.{EncNo}
use Rattle.pl_base.specs.declared.refusal.No.{No}
use Rattle.pl_base.specs.HartSet.{space_of_number}
use Rattle.mon_life.specs.Destroying.{DestroyBegun, DestroyEnded, destroy_begun, destroy_ended}
use Rattle.mon_shadow.specs.Dropping.{ShadowDropped, shadow_dropped}
use Rattle.pl_history.specs.declared.answer.Answer.TheVariants as answer_is
use Rattle.world_machine.specs.declared.under.Under.TheVariants.{Destroying}
use Rattle.world_machine.specs.Acknowledging.{without_covered}
use Rattle.world_machine.specs.Answering.{answers, begins, quiet}
use Rattle.world_machine.specs.Making.{answers_by}
use Rattle.world_machine.specs.Worlds.{Event, WorldData, tlb_at, with_tlb}

-- a line is refused where there is a cause, and else begins: the hart drops its own translations of the number's space at once
abbrev pub destroys_unless : Option No → WorldData → ℕ → EncNo → WorldData
destroys_unless (Some cause) w hart e = answers w hart (answer_is.No cause)
destroys_unless None w hart e = begins (with_tlb w hart (without_covered (tlb_at w.tlbs hart) (space_of_number e) None)) hart Destroying

abbrev pub begins_destroy : WorldData → ℕ → EncNo → Event
begins_destroy w hart e =
    let begun : DestroyBegun = destroy_begun w.enclaves w.fences hart e in
    quiet (destroys_unless begun.refusal (record w { enclaves = begun.enclaves; fences = begun.fences }) hart e)

-- nobody is lacking: all pages of the number are zeroed and given back, and the number is free, in one event
abbrev pub ends_destroy : WorldData → ℕ → EncNo → WorldData
ends_destroy w hart e =
    let ended : DestroyEnded = destroy_ended w.ctl w.owners w.enclaves w.fences hart e.0 in
    answers (record w { ctl = ended.ctl; owners = ended.owners; enclaves = ended.enclaves; fences = ended.fences }) hart answer_is.Ok

-- a shadow's pages are zeroed and given back, and the number is free, in one event
abbrev pub drops_shadow : WorldData → ℕ → ℕ → Event
drops_shadow w hart shadow =
    let dropped : ShadowDropped = shadow_dropped w.ctl w.owners w.enclaves shadow in
    quiet (answers_by dropped.refusal (record w { ctl = dropped.ctl; owners = dropped.owners; enclaves = dropped.enclaves }) hart)
