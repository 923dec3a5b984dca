-- One instruction of the flat machine, and an image run alone (the ECALL numbers are this project's own).
use Rattle.std.specs.Prelude.{ℕ, zero, suc, ◌+◌, Bool, ◌==◌, nat_lt, if◌then◌else◌, List, [], ◌∷◌, ◌++◌, length, slice_index, Option, Some, None, option_and_then}
use Rattle.std.specs.Option.{option_map}
use Rattle.std.specs.List.{list_any}
use Rattle.pl_base.specs.declared.access.Kind.TheVariants as kind
use Rattle.rv_alone.specs.declared.step.Act.{Act}
use Rattle.rv_alone.specs.declared.step.Act.TheVariants.{Set, Load, Store, Call, Trap}
use Rattle.rv_alone.specs.declared.step.Context.{Context}
use Rattle.rv_alone.specs.Effect.{act_of, advanced, loaded, with_register}
use Rattle.rv_alone.specs.Flat.{Image, Flat, Page, on, ended, Status, start_of, fetched, read, stored, permitted, page_number}

-- what an instruction comes to: a trap with its cause and value, a wait for a word, no room for a word, or the next state
pub data Outcome : Type 0 where
  trap : ℕ → ℕ → Outcome
  wait : Outcome
  full : Outcome
  next : Flat → Outcome

abbrev pub context_of : Flat → Context
context_of a = record { regs = a.regs; pc = a.pc }

abbrev pub with_context : Flat → Context → Flat
with_context a context = record a { regs = context.regs; pc = context.pc }

-- how many words may be sent to an enclave, and sent out by it
abbrev pub most_words : ℕ
most_words = 4096

-- EXIT is call 1, RECV call 2, SEND call 3; pc stays at EXIT
abbrev pub exits : Flat → ℕ → Outcome
exits a code = next (record a { status = ended code })

-- the next word that was sent goes into a0
abbrev pub receives : Flat → List ℕ → Outcome
receives a sent =
    if nat_lt a.received (length sent) then next (record (with_context a (advanced (with_register (context_of a) 10 (slice_index sent a.received)))) { received = a.received + 1 })
    else wait

abbrev pub sends : Flat → ℕ → Outcome
sends a word = if nat_lt (length a.out) most_words then next (record (with_context a (advanced (context_of a))) { out = a.out ++ word ∷ [] }) else full

-- any other call traps with cause 8 and its number
abbrev pub calls : Flat → List ℕ → ℕ → ℕ → Outcome
calls a sent number value =
    if number == 1 then exits a value
    else if number == 2 then receives a sent
    else if number == 3 then sends a value
    else trap 8 number

-- a load from no page that may be read traps with cause 13, a store to no page that may be written with cause 15
abbrev pub loads : Flat → ℕ → ℕ → Bool → ℕ → Option ℕ → Outcome
loads a address width is_signed rd None = trap 13 address
loads a address width is_signed rd (Some raw) = next (with_context a (loaded (context_of a) rd width is_signed raw))

abbrev pub stores : Flat → ℕ → Option (List Page) → Outcome
stores a address None = trap 15 address
stores a address (Some pages) = next (record (with_context a (advanced (context_of a))) { pages = pages })

abbrev pub acts : Flat → List ℕ → Act → Outcome
acts a sent (Set context) = next (with_context a context)
acts a sent (Load address width is_signed rd) = loads a address width is_signed rd (read a.pages address width)
acts a sent (Store address width value) = stores a address (stored a.pages address width value)
acts a sent (Call number value) = calls a sent number value
acts a sent (Trap cause value) = trap cause value

-- a fetch from a page that isn't there or has no X traps with cause 12 and pc
abbrev pub runs : Flat → List ℕ → Option ℕ → Outcome
runs a sent None = trap 12 a.pc
runs a sent (Some word) = acts a sent (act_of (context_of a) word)

-- one instruction of a state that is on, with the words sent to it
abbrev pub one : Flat → List ℕ → Outcome
one a sent = runs a sent (fetched a.pages a.pc)

abbrev pub next_of : Outcome → Option Flat
next_of (next a) = Some a
next_of _ = None

-- a state that has ended runs no more
abbrev pub advance_by : Status → Flat → List ℕ → Option Flat
advance_by on a sent = next_of (one a sent)
advance_by (ended code) a sent = None

-- the image run alone for so many instructions with these words sent to it, where it comes so far
unfoldable pub alone : Image → List ℕ → ℕ → Option Flat
alone image sent zero = Some (start_of image)
alone image sent (suc n) = option_and_then (λ a. advance_by a.status a sent) (alone image sent n)

-- ---- the pages that a run stores to

-- the page that the next instruction of a state stores to, where it stores
abbrev pub page_of_act : Flat → Act → Option ℕ
page_of_act a (Store address width value) = option_map (λ (page : Page). page_number address) (permitted kind.Store a.pages address)
page_of_act a _ = None

abbrev pub page_written : Status → Flat → Option ℕ
page_written on a = option_and_then (λ word. page_of_act a (act_of (context_of a) word)) (fetched a.pages a.pc)
page_written (ended code) a = None

-- a page comes last where it isn't there yet
abbrev pub with_page : List ℕ → Option ℕ → List ℕ
with_page pages None = pages
with_page pages (Some page) = if list_any (λ p. p == page) pages then pages else pages ++ page ∷ []

-- the first place of a page of the image in a list
abbrev pub place_in : ℕ → List ℕ → Option ℕ
place_in at [] = None
place_in at (first ∷ later) = if first == at then Some 0 else option_map (λ place. place + 1) (place_in at later)

-- the pages that the first so many instructions store to, in order of the first store
unfoldable pub written_pages : Image → List ℕ → ℕ → List ℕ
written_pages image sent zero = []
written_pages image sent (suc n) = with_page (written_pages image sent n) (option_and_then (λ (a : Flat). page_written a.status a) (alone image sent n))
