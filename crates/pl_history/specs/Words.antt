-- Words in and out: `send` and `take`.
use Rattle.std.specs.Prelude.{ℕ, ◌+◌, ◌==◌, Bool, List, [], ◌∷◌, ◌++◌, length, slice_get, Option, Some, option_map, option_and_then}
use Rattle.std.specs.Option.{option_map_or}
use Rattle.pl_base.specs.declared.refusal.No.{No}
use Rattle.pl_base.specs.declared.refusal.No.TheVariants.{NoEnclave, Full, Empty}
use Rattle.pl_base.specs.Refusals.{refuse, first_refusal}
use Rattle.pl_base.specs.States.{is_wordless}
use Rattle.rv_alone.specs.Alone.{alone, most_words}
use Rattle.pl_history.specs.declared.answer.Answer.{Answer}
use Rattle.pl_history.specs.declared.answer.Answer.TheVariants as answer_is
use Rattle.pl_history.specs.declared.setup.SetupParts.{SetupParts}
use Rattle.pl_history.specs.Answering.{AtOnce}
use Rattle.pl_history.specs.Monitor.{Number, Monitor, image_at, with_number}

-- the words that the image run alone has sent out when the number last left
abbrev pub sent_out : SetupParts → Number → List ℕ
sent_out setup n = option_map_or (λ a. a.out) (option_and_then (λ image. alone image n.sent n.retired) (image_at setup n.image)) []

-- why no word can be sent to a number: no words go in or out, or it was sent as many as it may be
abbrev pub send_refusal : Number → Option No
send_refusal n = first_refusal (refuse (is_wordless n.state) NoEnclave ∷ refuse (length n.sent == most_words) Full ∷ [])

-- why no word can be taken: no words go in or out, or all that it sent out are taken
abbrev pub take_refusal : SetupParts → Number → Option No
take_refusal setup n = first_refusal (refuse (is_wordless n.state) NoEnclave ∷ refuse (n.taken == length (sent_out setup n)) Empty ∷ [])

abbrev pub AllowedSend : Number → Bool → Answer → Type 0
AllowedSend n = AtOnce (send_refusal n) (Some answer_is.Ok)

-- the next word that isn't taken
abbrev pub AllowedTake : SetupParts → Number → Bool → Answer → Type 0
AllowedTake setup n = AtOnce (take_refusal setup n) (option_map answer_is.Word (slice_get (sent_out setup n) n.taken))

abbrev pub sent : Monitor → ℕ → ℕ → Monitor
sent s e word = with_number s e (record (s.number e) { sent = (s.number e).sent ++ word ∷ [] })

abbrev pub took : Monitor → ℕ → Monitor
took s e = with_number s e (record (s.number e) { taken = (s.number e).taken + 1 })
