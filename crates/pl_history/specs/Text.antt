-- The printed text of a history. An answer's text goes on to the end of its line.
use Rattle.std.specs.Prelude.{ℕ, ◌+◌, ◌==◌, Bool, if◌then◌else◌, List, [], ◌∷◌, ◌++◌, codes, decimal}
use Rattle.std.specs.List.{flat_map, slice_range}
use Rattle.pl_base.specs.declared.place.Place.{Place}
use Rattle.pl_base.specs.declared.place.Place.TheVariants.{Block, Node, RootNode}
use Rattle.pl_base.specs.declared.refusal.No.{No}
use Rattle.pl_base.specs.declared.refusal.No.TheVariants.{Misaligned, PageFault, AccessFault, Fault, BadAddress, Busy, Mapped, NotYours, NotMapped, Exists, Count, Twice, StillMapped, Barred, NoEnclave, WrongState, Full, Empty, TooMany, InUse}
use Rattle.pl_base.specs.declared.state.State.{State}
use Rattle.pl_base.specs.declared.state.State.TheVariants as state_is
use Rattle.pl_base.specs.declared.state.Why.{Why}
use Rattle.pl_base.specs.declared.state.Why.TheVariants as why_is
use Rattle.pl_io.specs.Numbers.{hex_text, short_text, bytes_text}
use Rattle.pl_history.specs.declared.answer.Answer.{Answer}
use Rattle.pl_history.specs.declared.answer.Answer.TheVariants as answer_is
use Rattle.pl_history.specs.declared.answer.Entry.{Entry}
use Rattle.pl_history.specs.History.{HistoryData}

abbrev pub line_end : List ℕ
line_end = 10 ∷ []

-- a number in decimal, and the end of the line
abbrev pub last_decimal : ℕ → List ℕ
last_decimal n = decimal n ++ line_end

-- the hart with its number, or `x` for the attacker
abbrev pub actor_text : ℕ → ℕ → List ℕ
actor_text harts actor = if actor == harts then codes "x" else codes "h" ++ decimal actor

-- a place, without the end of a line
abbrev pub place_text : Place → List ℕ
place_text (Block page block) = codes "block " ++ (decimal page ++ (codes " " ++ decimal block))
place_text (Node level zone index) = codes "node " ++ (decimal level ++ (codes " " ++ (decimal zone ++ (codes " " ++ decimal index))))
place_text (RootNode level index) = codes "root-node " ++ (decimal level ++ (codes " " ++ decimal index))

abbrev pub state_text : State → List ℕ
state_text state_is.Free = codes "free"
state_text state_is.Building = codes "building"
state_text state_is.Fresh = codes "fresh"
state_text state_is.On = codes "on"
state_text state_is.Paused = codes "paused"
state_text state_is.Ended = codes "ended"
state_text state_is.Trapped = codes "trapped"
state_text state_is.Faulted = codes "faulted"
state_text state_is.Dying = codes "dying"
state_text state_is.Sealed = codes "sealed"

abbrev pub why_text : Why → List ℕ
why_text (why_is.Ended code) = codes "ended " ++ (hex_text code ++ line_end)
why_text why_is.Budget = codes "budget" ++ line_end
why_text why_is.Waiting = codes "waiting" ++ line_end
why_text why_is.OutFull = codes "out-full" ++ line_end
why_text why_is.NeedPage = codes "need-page" ++ line_end
why_text (why_is.Trapped cause value) = codes "trapped " ++ (decimal cause ++ (codes " " ++ (hex_text value ++ line_end)))
why_text (why_is.Fault place) = codes "fault " ++ (place_text place ++ line_end)

-- the number and the name of a refusal, and what it names
abbrev pub refusal_text : No → List ℕ
refusal_text Misaligned = codes "2 misaligned" ++ line_end
refusal_text PageFault = codes "3 page-fault" ++ line_end
refusal_text AccessFault = codes "4 access-fault" ++ line_end
refusal_text (Fault place) = codes "5 fault " ++ (place_text place ++ line_end)
refusal_text BadAddress = codes "6 bad-address" ++ line_end
refusal_text Busy = codes "7 busy" ++ line_end
refusal_text Mapped = codes "8 mapped" ++ line_end
refusal_text (NotYours page) = codes "9 not-yours " ++ last_decimal page
refusal_text NotMapped = codes "10 not-mapped" ++ line_end
refusal_text Exists = codes "11 exists" ++ line_end
refusal_text Count = codes "12 count" ++ line_end
refusal_text (Twice page) = codes "13 twice " ++ last_decimal page
refusal_text (StillMapped page) = codes "14 still-mapped " ++ last_decimal page
refusal_text (Barred page) = codes "15 barred " ++ last_decimal page
refusal_text NoEnclave = codes "16 no-enclave" ++ line_end
refusal_text (WrongState state) = codes "17 wrong-state " ++ (state_text state ++ line_end)
refusal_text Full = codes "18 full" ++ line_end
refusal_text Empty = codes "19 empty" ++ line_end
refusal_text TooMany = codes "20 too-many" ++ line_end
refusal_text (InUse e) = codes "21 in-use " ++ last_decimal e.0

abbrev pub no_text : No → List ℕ
no_text cause = codes "no " ++ refusal_text cause

-- how many instructions retired
abbrev pub left_text : ℕ → List ℕ
left_text count = codes "left " ++ (decimal count ++ codes " ")

-- the bytes at an address: hexadecimal without leading zeros, and two digits a byte
abbrev pub place_bytes_text : ℕ → List ℕ → List ℕ
place_bytes_text pa part = short_text pa ++ (codes " " ++ (bytes_text part ++ line_end))

-- whether a byte changed
abbrev pub wrote_head : Bool → List ℕ
wrote_head changed = if changed then codes "wrote 1 " else codes "wrote 0 "

-- an answer, of a history with these bytes
abbrev pub answer_text : List ℕ → Answer → List ℕ
answer_text bytes answer_is.Begun = codes "begun" ++ line_end
answer_text bytes answer_is.Ok = codes "ok" ++ line_end
answer_text bytes (answer_is.Value value) = codes "value " ++ (hex_text value ++ line_end)
answer_text bytes (answer_is.Word word) = codes "word " ++ (hex_text word ++ line_end)
answer_text bytes (answer_is.Left count why) = left_text count ++ why_text why
answer_text bytes (answer_is.No cause) = no_text cause
answer_text bytes (answer_is.Wrote changed pa from len) = wrote_head changed ++ place_bytes_text pa (slice_range bytes from (from + len))
answer_text bytes (answer_is.Kept pa from len) = codes "kept " ++ place_bytes_text pa (slice_range bytes from (from + len))

-- the actor, and the number of the line
abbrev pub head_text : ℕ → Entry → List ℕ
head_text harts entry = actor_text harts entry.actor ++ (codes " " ++ (decimal entry.line ++ codes " "))

abbrev pub entry_text : ℕ → List ℕ → Entry → List ℕ
entry_text harts bytes entry = head_text harts entry ++ answer_text bytes entry.answer

-- one line an entry
abbrev pub text_of : ℕ → HistoryData → List ℕ
text_of harts history = flat_map (entry_text harts history.bytes) history.entries
