-- The events of `send` and `take`.
use Rattle.std.specs.Prelude.{ℕ, ◌+◌, [], ◌∷◌, ◌++◌, Option, Some, None, unwrap_or}
use Rattle.pl_base.specs.declared.refusal.No.{No}
use Rattle.mon_enclave.specs.declared.enclave.Enclave.{Enclave}
use Rattle.mon_enclave.specs.Records.{enclave_at, with_enclave, send_refusal, take_refusal, taken_word}
use Rattle.pl_history.specs.declared.answer.Answer.{Answer}
use Rattle.pl_history.specs.declared.answer.Answer.TheVariants as answer_is
use Rattle.world_machine.specs.Answering.{answers, quiet}
use Rattle.world_machine.specs.Worlds.{Event, WorldData}

-- a line is refused where there is a cause, and else changes a record
abbrev pub changes_unless : Option No → WorldData → ℕ → ℕ → Enclave → Answer → WorldData
changes_unless (Some cause) w hart e now answered = answers w hart (answer_is.No cause)
changes_unless None w hart e now answered = answers (record w { enclaves = with_enclave w.enclaves e now }) hart answered

-- the word is sent to the number
abbrev pub sends_word : WorldData → ℕ → ℕ → ℕ → Event
sends_word w hart e word =
    let r : Enclave = enclave_at w.enclaves e in
    quiet (changes_unless (send_refusal r) w hart e (record r { sent = r.sent ++ word ∷ [] }) answer_is.Ok)

-- the first shown word that isn't taken is taken
abbrev pub takes_word : WorldData → ℕ → ℕ → Event
takes_word w hart e =
    let r : Enclave = enclave_at w.enclaves e in
    quiet (changes_unless (take_refusal r) w hart e (record r { taken = r.taken + 1 }) (answer_is.Word (unwrap_or (taken_word r) 0)))
