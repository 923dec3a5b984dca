-- Host accesses and mappings, tried on small states.
use Rattle.std.proofs.Common.{◌≡◌, ◌+◌, ◌-◌, ◌^◌, true, false, [], ◌∷◌, map, Some, None, Contains, refl, inl, inr, lit<}
use Rattle.mem_geom.specs.PathPlaces as places
use Rattle.mem_geom.specs.PathPlaces.{page_places}
use Rattle.pl_base.specs.declared.place.Place.TheVariants.{Block, RootNode}
use Rattle.pl_base.specs.declared.refusal.No.TheVariants as no_is
use Rattle.pl_history.specs.declared.answer.Answer.TheVariants as answer_is
use Rattle.pl_history.specs.declared.line.Line.TheVariants.{Load}
use Rattle.pl_history.specs.HostAccess.{address_refusal, load_by, store_by, AllowedLoad, AllowedStore, host_stored}
use Rattle.pl_history.specs.HostMaps.{map_refusal, unmap_refusal, AllowedMap, AllowedUnmap, mapped, removing, removed}
use Rattle.pl_history.specs.Licence.{Licensed}
use Rattle.pl_history.specs.Monitor.{Monitor}
use Rattle.pl_history.proofs.CaseStates.{va, quiet, map_to, state}

-- an address that isn't canonical may be misaligned too: that is tried first
addresses : map (λ a. address_refusal (va a)) (0x1001 ∷ (2 ^ 40 + 1) ∷ 2 ^ 40 ∷ 0x1008 ∷ (2 ^ 64 - 2 ^ 38) ∷ []) ≡ (Some no_is.Misaligned ∷ Some no_is.Misaligned ∷ Some no_is.PageFault ∷ None ∷ None ∷ [])
addresses = refl

-- read, without R, where only R is left, guarded
loads : map (load_by quiet state (va 0x1008)) (map_to 1 20 3 ∷ map_to 1 20 2 ∷ map_to 1 21 3 ∷ map_to 1 3 3 ∷ []) ≡ (answer_is.Value 7 ∷ answer_is.No no_is.PageFault ∷ answer_is.Value 7 ∷ answer_is.Value 7 ∷ [])
loads = refl

-- the permission is tried before the protection entries
stores : map (store_by quiet (va 0x1008)) (map_to 1 20 3 ∷ map_to 1 20 1 ∷ map_to 1 21 3 ∷ map_to 1 21 1 ∷ map_to 1 3 3 ∷ [])
    ≡ (answer_is.Ok ∷ answer_is.No no_is.PageFault ∷ answer_is.No no_is.AccessFault ∷ answer_is.No no_is.PageFault ∷ answer_is.No no_is.AccessFault ∷ [])
stores = refl

-- by a mapping; by one that is being removed, two answers; by none
by_mapping : AllowedLoad quiet state (va 0x1008) false (answer_is.Value 7)
by_mapping = refl

by_removal : AllowedLoad quiet state (va 0x3000) false (answer_is.Value 22)
by_removal = inl refl

removed_already : AllowedLoad quiet state (va 0x3000) false (answer_is.No no_is.PageFault)
removed_already = inr refl

by_none : AllowedLoad quiet state (va 0x5000) false (answer_is.No no_is.PageFault)
by_none = refl

never_begun : AllowedLoad quiet state (va 0x1008) true (answer_is.Value 7) → ⊥
never_begun allowed = allowed

store_changes : map (λ page. (host_stored state (va 0x1008) (2 ^ 56)).bytes page) (20 ∷ 21 ∷ [])
    ≡ ((20 ∷ 0 ∷ 0 ∷ 0 ∷ 0 ∷ 0 ∷ 0 ∷ 0 ∷ 0 ∷ 0 ∷ 0 ∷ 0 ∷ 0 ∷ 0 ∷ 0 ∷ 1 ∷ []) ∷ state.bytes 21 ∷ [])
store_changes = refl

-- ---- faults

-- an attack on the first byte of page 0, the host's root table
abbrev attacked : Monitor
attacked = record state { attacks = record { address = 0x80000000; length = 1 } ∷ [] }

-- a block of a table that the address goes by
first_block : Contains (page_places 0) (Block 0 0)
unfolding places.level1_places places.block_places
first_block = (11, lit< tt, refl)

licensed : AllowedLoad quiet attacked (va 0x1008) false (answer_is.No (no_is.Fault (Block 0 0)))
licensed = (refl, record { exists = (lit< tt, lit< tt); attacked = refl; concerned = (0, (0, lit< tt, refl), first_block) })

-- no attack was on the block beside it
unattacked : AllowedLoad quiet attacked (va 0x1008) false (answer_is.No (no_is.Fault (Block 0 1))) → ⊥
unattacked allowed = let never : false ≡ true = allowed.1.attacked in cc

-- an earlier cause holds
too_late : AllowedLoad quiet attacked (va 0x1001) false (answer_is.No (no_is.Fault (Block 0 0))) → ⊥
too_late allowed = let never : Some no_is.Misaligned ≡ None = allowed.0 in cc

-- a mapping without the permission is a later one
not_too_late : AllowedStore quiet attacked (va 0x2000) 1 false (answer_is.No (no_is.Fault (Block 0 0)))
not_too_late = (refl, record { exists = (lit< tt, lit< tt); attacked = refl; concerned = (0, (0, lit< tt, refl), first_block) })

-- any node of the root table concerns a line, where an attack was on it
abbrev table_attacked : Monitor
table_attacked = record state { attacks = record { address = 0x80000000 + 262144 + 149760; length = 256 } ∷ [] }

root_licensed : Licensed quiet table_attacked (Load (va 0x1008)) (RootNode 1 0)
root_licensed = record { exists = lit< tt; attacked = refl; concerned = tt }

-- ---- `map` and `unmap`

-- the address isn't a page's, or too high; a removal is under way; then it is mapped; then the page
maps : map (λ a. map_refusal quiet state (va a) 9) (0x3001 ∷ 0x200000 ∷ 0x3000 ∷ 0x1000 ∷ 0x5000 ∷ []) ≡ (Some no_is.BadAddress ∷ Some no_is.BadAddress ∷ Some no_is.Busy ∷ Some no_is.Mapped ∷ Some (no_is.NotYours 9) ∷ [])
maps = refl

pages_mapped : map (map_refusal quiet state (va 0x5000)) (64 ∷ 30 ∷ 15 ∷ 63 ∷ []) ≡ (Some (no_is.NotYours 64) ∷ Some (no_is.NotYours 30) ∷ None ∷ None ∷ [])
pages_mapped = refl

unmaps : map (λ a. unmap_refusal quiet state (va a)) (0x3008 ∷ 0x3000 ∷ 0x5000 ∷ 0x1000 ∷ []) ≡ (Some no_is.BadAddress ∷ Some no_is.Busy ∷ Some no_is.NotMapped ∷ None ∷ [])
unmaps = refl

-- a fault comes before 8, 9 and 10, in place of Begun, and not after 7 or after Begun
map_fault : AllowedMap quiet attacked (va 0x1000) 9 (record { 0 = 1 }) false (answer_is.No (no_is.Fault (Block 0 0)))
map_fault = (refl, record { exists = (lit< tt, lit< tt); attacked = refl; concerned = (0, (0, lit< tt, refl), first_block) })

unmap_fault : AllowedUnmap quiet attacked (va 0x5000) false (answer_is.No (no_is.Fault (Block 0 0)))
unmap_fault = (refl, record { exists = (lit< tt, lit< tt); attacked = refl; concerned = (0, (0, lit< tt, refl), first_block) })

busy_fault : AllowedUnmap quiet attacked (va 0x3000) false (answer_is.No (no_is.Fault (Block 0 0))) → ⊥
busy_fault allowed = let never : Some no_is.Busy ≡ None = allowed.0 in cc

begun_fault : AllowedUnmap quiet attacked (va 0x1000) true (answer_is.No (no_is.Fault (Block 0 0))) → ⊥
begun_fault allowed = cc

-- the mapping moves into the removals, and leaves them
unmapped : (removing state 0 (va 0x2000)).space ≡ (map_to 1 20 3 ∷ map_to 4 21 3 ∷ [])
unmapped = refl

under_way : (removing state 0 (va 0x2000)).removals ≡ (record { hart = 1; mapping = map_to 3 22 1 } ∷ record { hart = 0; mapping = map_to 2 20 1 } ∷ [])
under_way = refl

ended : (removed (removing state 0 (va 0x2000)) 1).removals ≡ (record { hart = 0; mapping = map_to 2 20 1 } ∷ [])
ended = refl

added : (mapped state (va 0x5000) 15 (record { 0 = 1 })).space ≡ (map_to 1 20 3 ∷ map_to 2 20 1 ∷ map_to 4 21 3 ∷ map_to 5 15 1 ∷ [])
added = refl
