-- Making enclaves and giving them back, tried on small states.
use Rattle.std.proofs.Common.{◌≡◌, ℕ, ◌+◌, ◌*◌, true, false, List, [], ◌∷◌, map, replicate, Contains, Option, Some, None, refl, lit<}
use Rattle.mem_geom.specs.PathPlaces as places
use Rattle.rv_pmp.specs.Pmp as pmp
use Rattle.mem_geom.specs.PathPlaces.{page_places}
use Rattle.pl_base.specs.Bytes.{zero_page}
use Rattle.pl_base.specs.declared.place.Place.TheVariants.{Block}
use Rattle.pl_base.specs.declared.refusal.No.{No}
use Rattle.pl_base.specs.declared.refusal.No.TheVariants as no_is
use Rattle.pl_base.specs.declared.state.State.TheVariants as state_is
use Rattle.pl_history.specs.declared.answer.Answer.TheVariants as answer_is
use Rattle.pl_history.specs.declared.line.Line.TheVariants.{Create, Grant, Destroy}
use Rattle.pl_base.specs.Pages.{first_twice}
use Rattle.pl_base.specs.States.{idle_refusal}
use Rattle.pl_history.specs.GivingBack.{drop_refusal, dying, given_back}
use Rattle.pl_history.specs.Legal.{AllowedAnswer, after_answer}
use Rattle.pl_history.specs.Making.{first_barred, create_refusal, fork_refusal, grant_refusal, building, forking, made, sealed, granted}
use Rattle.pl_history.specs.Monitor.{host, number, Number, Monitor, free_number, with_number}
use Rattle.pl_history.specs.NumberSpace.{mappings_of_number}
use Rattle.pl_history.proofs.CaseStates.{enc, quiet, map_to, state}

-- ---- refusals in order

-- the first page in the list that stands in it twice, whichever stands again first
twice : map first_twice ((21 ∷ 22 ∷ 22 ∷ 21 ∷ []) ∷ (20 ∷ 22 ∷ 22 ∷ []) ∷ (20 ∷ 22 ∷ []) ∷ []) ≡ (Some 21 ∷ Some 22 ∷ None ∷ [])
twice = refl

barred : map (first_barred quiet) ((20 ∷ 21 ∷ 3 ∷ []) ∷ (20 ∷ []) ∷ (3 ∷ []) ∷ []) ≡ (Some 21 ∷ None ∷ Some 3 ∷ [])
unfolding pmp.pieces_allowed
barred = refl

abbrev creates : ℕ → ℕ → List ℕ → Option No
creates e image pages = create_refusal quiet state e image pages

-- each of these has the causes after its own too
exists : creates 1 0 (21 ∷ 21 ∷ 3 ∷ 20 ∷ []) ≡ Some no_is.Exists
exists = refl

count : creates 0 0 (21 ∷ 21 ∷ 3 ∷ []) ≡ Some no_is.Count
count = refl

listed_twice : creates 0 1 (21 ∷ 21 ∷ 3 ∷ []) ≡ Some (no_is.Twice 21)
listed_twice = refl

not_yours : creates 0 1 (21 ∷ 20 ∷ 30 ∷ []) ≡ Some (no_is.NotYours 30)
not_yours = refl

still_mapped : creates 0 1 (23 ∷ 21 ∷ 20 ∷ []) ≡ Some (no_is.StillMapped 21)
still_mapped = refl

-- a page whose mapping is being removed is mapped still
being_removed : creates 0 0 (22 ∷ []) ≡ Some (no_is.StillMapped 22)
being_removed = refl

abbrev unmapped : Monitor
unmapped = record state { space = []; removals = [] }

is_barred : create_refusal quiet unmapped 0 1 (23 ∷ 21 ∷ 20 ∷ []) ≡ Some (no_is.Barred 21)
unfolding pmp.pieces_allowed
is_barred = refl

may_create : create_refusal quiet unmapped 0 1 (23 ∷ 22 ∷ 20 ∷ []) ≡ None
unfolding pmp.pieces_allowed
may_create = refl

-- `fork`: the shadow, then the number, then the list
forks : (fork_refusal quiet state 0 1 (21 ∷ 21 ∷ []) ∷ fork_refusal quiet state 1 2 (21 ∷ 21 ∷ []) ∷ fork_refusal quiet state 1 0 (21 ∷ 21 ∷ 3 ∷ [])
    ∷ fork_refusal quiet state 1 0 (20 ∷ 3 ∷ []) ∷ fork_refusal quiet state 1 0 (23 ∷ 20 ∷ []) ∷ fork_refusal quiet unmapped 1 0 (21 ∷ []) ∷ fork_refusal quiet state 1 0 [] ∷ [])
    ≡ (Some no_is.NoEnclave ∷ Some no_is.Exists ∷ Some (no_is.Twice 21) ∷ Some (no_is.NotYours 3) ∷ Some (no_is.StillMapped 20) ∷ Some (no_is.Barred 21) ∷ None ∷ [])
unfolding pmp.pieces_allowed
forks = refl

-- `grant`: absent, under way, the page, too many in all
abbrev spares_full : Monitor
spares_full = with_number unmapped 2 (record free_number { state = state_is.Faulted; spares = replicate 256 31 })

grants : (grant_refusal quiet state 1 3 ∷ grant_refusal quiet (with_number state 2 (record free_number { state = state_is.On })) 2 3 ∷ grant_refusal quiet state 2 3
    ∷ grant_refusal quiet state 2 20 ∷ grant_refusal quiet spares_full 2 21 ∷ grant_refusal quiet spares_full 2 23 ∷ grant_refusal quiet unmapped 2 23 ∷ [])
    ≡ (Some no_is.NoEnclave ∷ Some (no_is.WrongState state_is.On) ∷ Some (no_is.NotYours 3) ∷ Some (no_is.StillMapped 20) ∷ Some (no_is.Barred 21) ∷ Some no_is.TooMany ∷ None ∷ [])
unfolding pmp.pieces_allowed
grants = refl

-- ---- what they change

-- a number that is made again keeps its hart, and nothing else of what it was
abbrev used : Monitor
used = with_number unmapped 3 (record free_number { hart = 1; sent = 5 ∷ []; taken = 1; retired = 9 })

begun : (after_answer used 0 (Create (enc 3) 1 (23 ∷ 22 ∷ 20 ∷ [])) answer_is.Begun).number 3 ≡ record free_number { state = state_is.Building; hart = 1; image = 1; pages = 23 ∷ 22 ∷ 20 ∷ [] }
begun = refl

abbrev in_making : Monitor
in_making = building used 3 1 (23 ∷ 22 ∷ 20 ∷ [])

owners : map in_making.owner (22 ∷ 24 ∷ 30 ∷ []) ≡ (Some (number 3) ∷ Some host ∷ Some (number 1) ∷ [])
owners = refl

made_live : (made in_making 3).number 3 ≡ record free_number { state = state_is.Fresh; live = true; hart = 1; image = 1; pages = 23 ∷ 22 ∷ 20 ∷ [] }
made_live = refl

shadow_not_live : ((sealed in_making 3).number 3).live ≡ false
shadow_not_live = refl

forked : (forking unmapped 1 0 (23 ∷ [])).number 0 ≡ record free_number { state = state_is.Building; spares = 23 ∷ []; parent = Some 1 }
forked = refl

given : ((granted unmapped 2 23).number 2).spares ≡ (31 ∷ 23 ∷ [])
given = refl

-- a refusal at first changes nothing, and a fault later stops the making
refused : (after_answer unmapped 0 (Create (enc 0) 0 (3 ∷ [])) (answer_is.No (no_is.NotYours 3))).number 0 ≡ free_number
refused = refl

abbrev begun_there : Monitor
begun_there = record in_making { progress = λ actor. record { answered = 0; begun = true }; attacks = record { address = 0x80000000 + 4096 * 22; length = 1 } ∷ [] }

stopped : ((after_answer begun_there 0 (Create (enc 3) 1 (23 ∷ 22 ∷ 20 ∷ [])) (answer_is.No (no_is.Fault (Block 22 0)))).number 3).state ≡ state_is.Faulted
stopped = refl

-- ---- faults while a number is made

first_block : Contains (page_places 22) (Block 22 0)
unfolding places.level1_places places.block_places
first_block = (11, lit< tt, refl)

-- a page of the number, once the line has begun; `grant` has no fault
fault : AllowedAnswer quiet begun_there (Create (enc 3) 1 (23 ∷ 22 ∷ 20 ∷ [])) true (answer_is.No (no_is.Fault (Block 22 0)))
fault = record { exists = (lit< tt, lit< tt); attacked = refl; concerned = (22, (4, lit< tt, refl), first_block) }

another_page : AllowedAnswer quiet begun_there (Create (enc 2) 1 (23 ∷ 22 ∷ 20 ∷ [])) true (answer_is.No (no_is.Fault (Block 23 0))) → ⊥
another_page allowed = let never : false ≡ true = allowed.attacked in cc

before_begun : AllowedAnswer quiet begun_there (Create (enc 0) 0 (25 ∷ [])) false (answer_is.No (no_is.Fault (Block 22 0))) → ⊥
unfolding pmp.pieces_allowed
before_begun allowed = let never : None ≡ Some (no_is.Fault (Block 22 0)) = allowed in cc

never_of_grant : AllowedAnswer quiet begun_there (Grant (enc 2) 24) false (answer_is.No (no_is.Fault (Block 22 0))) → ⊥
unfolding pmp.pieces_allowed
never_of_grant allowed = let never : None ≡ Some (no_is.Fault (Block 22 0)) = allowed in cc

never_of_destroy : AllowedAnswer quiet begun_there (Destroy (enc 2)) true (answer_is.No (no_is.Fault (Block 22 0))) → ⊥
never_of_destroy allowed = cc

-- ---- `destroy` and `drop`

destroys : map idle_refusal (state_is.Free ∷ state_is.Building ∷ state_is.Fresh ∷ state_is.On ∷ state_is.Paused ∷ state_is.Ended ∷ state_is.Trapped ∷ state_is.Faulted ∷ state_is.Dying ∷ state_is.Sealed ∷ [])
    ≡ (Some no_is.NoEnclave ∷ Some (no_is.WrongState state_is.Building) ∷ None ∷ Some (no_is.WrongState state_is.On) ∷ None ∷ None ∷ None ∷ None ∷ Some (no_is.WrongState state_is.Dying) ∷ Some no_is.NoEnclave ∷ [])
destroys = refl

-- not sealed; in use by the lowest number; by none
drops : (drop_refusal quiet state 2 ∷ drop_refusal quiet (forking unmapped 1 3 []) 1 ∷ drop_refusal quiet (with_number state 2 free_number) 1 ∷ [])
    ≡ (Some no_is.NoEnclave ∷ Some (no_is.InUse (enc 2)) ∷ None ∷ [])
drops = refl

-- the spares go back, the shadow's pages stay
back : map (given_back (dying state 2) 2).owner (30 ∷ 31 ∷ 20 ∷ []) ≡ (Some (number 1) ∷ Some host ∷ Some host ∷ [])
back = refl

zeroed : map (given_back (dying state 2) 2).bytes (31 ∷ 20 ∷ []) ≡ (zero_page ∷ state.bytes 20 ∷ [])
zeroed = refl

free_again : (given_back (dying state 2) 2).number 2 ≡ free_number
free_again = refl

-- ---- spaces

-- page 0 of the image isn't broken and lacks W; then it is the first spare, with W
abbrev writable : Number
writable = record free_number { state = state_is.On; live = true; image = 1; spares = 31 ∷ 32 ∷ []; parent = Some 3 }

shared : mappings_of_number quiet in_making.number writable (1 ∷ []) ≡ (map_to 16 23 5 ∷ map_to 17 31 3 ∷ map_to 18 20 1 ∷ [])
shared = refl

lacks_write : mappings_of_number quiet in_making.number writable [] ≡ (map_to 16 23 5 ∷ map_to 17 22 1 ∷ map_to 18 20 1 ∷ [])
lacks_write = refl

own : mappings_of_number quiet in_making.number ((made in_making 3).number 3) [] ≡ (map_to 16 23 5 ∷ map_to 17 22 3 ∷ map_to 18 20 1 ∷ [])
own = refl

none : mappings_of_number quiet in_making.number (in_making.number 3) [] ≡ []
none = refl
