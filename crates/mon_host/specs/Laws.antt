-- What the events of `map` and `unmap` answer, leave and come to, over plain data, for every digest function and any positions.
use Rattle.std.specs.Prelude.{ℕ, ◌≡◌, ◌↔◌, ◌+◌, ◌-◌, ◌*◌, ◌/◌, ◌%◌, ◌^◌, ◌<◌, ◌≤◌, true, not, IsTrue, List, [], ◌∷◌, ◌++◌, All, Any, Option, Some, None, is_some, Result, Ok, Err}
use Rattle.byteorder.specs.Endian.{little_bytes}
use Rattle.pl_base.specs.Address.{vpn_of}
use Rattle.pl_base.specs.Bytes.{with_bytes}
use Rattle.pl_base.specs.Perms.{are_page_perms}
use Rattle.pl_base.specs.Refusals.{refuse, first_refusal}
use Rattle.pl_base.specs.declared.access.Mode.TheVariants.{Super}
use Rattle.pl_base.specs.declared.address.Va.{Va}
use Rattle.pl_base.specs.declared.perms.Perms.{Perms}
use Rattle.pl_base.specs.declared.place.Place.{Place}
use Rattle.pl_base.specs.declared.refusal.No.{No}
use Rattle.pl_base.specs.declared.refusal.No.TheVariants as no
use Rattle.mem_geom.specs.PathPlaces.{word_places}
use Rattle.mem_ctl.specs.Access.{Accessed, BothChange, BothStay}
use Rattle.mem_ctl.specs.Data.{CtlData, Going, Outcome, Value, Fault, Collision, Again, answer}
use Rattle.mem_ctl.specs.Start.{HasWords}
use Rattle.mem_ctl.specs.TreesHold.{IsKept}
use Rattle.mem_ctl.specs.Writes.{word_at}
use Rattle.mon_fence.specs.declared.fences.Fence.{Fence}
use Rattle.mon_fence.specs.Fences.{covers}
use Rattle.mon_owner.specs.declared.owners.Owner.{Owner}
use Rattle.mon_owner.specs.Owners.{is_host, owner_at}
use Rattle.mon_tables.specs.Space.{Mapping, mapping_at, without_vpn}
use Rattle.mon_tables.specs.SpaceWalks.{HostTables, IsMappable, WalksTo}
use Rattle.mon_tables.specs.Tables.{can_be_mapped, root_of, start_words}
use Rattle.mon_tables.specs.Words.{leaf_word}
use Rattle.mon_host.specs.Leaves.{HostEvent, early_refusal, host_space, if_done, leaf_slot}
use Rattle.mon_host.specs.Mapping.{map_of, map_refusal}
use Rattle.mon_host.specs.Unmapping.{HaveHostLeaves, page_of_leaf, unmap_begun, unmap_refusal}

-- ---- refused at once

-- the event changes nothing at all
abbrev pub is_refused_at_once : {A : Type 0} → {S : Type 0} → No → Going → S → HostEvent A S
is_refused_at_once cause g before = record { step = answer (Err cause) g; rest = before }

-- some hart's fence is of the page of an address in the host's space, or of that whole space
abbrev pub IsCovered : List (Option Fence) → Va → Type 0
IsCovered fences va = Any (λ fence. covers host_space (vpn_of va) fence ≡ true) fences

-- ---- what the leaf's word says

-- the word at a page and an offset, as it was last written
abbrev pub word_in : CtlData → ℕ × ℕ → ℕ
word_in x slot = word_at x.mirror slot.0 slot.1

-- the places that its path checks
abbrev pub places_of : ℕ × ℕ → List Place
places_of slot = word_places slot.0 (slot.1 / 64)

-- that word alone is changed, in its page
abbrev pub WordChanges : ℕ × ℕ → ℕ → CtlData → CtlData → Type 0
WordChanges slot word = BothChange slot.0 (λ bytes. with_bytes bytes slot.1 (little_bytes 8 word))

-- an event is done where nothing refuses it by the word that stood there, and changes that word alone; where it is refused by that word,
-- all pages stay
abbrev pub WordTells : {A : Type 0} → ℕ × ℕ → (ℕ → Option No) → ℕ → (ℕ → A) → CtlData → CtlData → Result A No → Type 0
WordTells slot refusal word value old new (Ok a) = (refusal (word_in old slot) ≡ None) × (a ≡ value (word_in old slot)) × WordChanges slot word old new
WordTells slot refusal word value old new (Err cause) = (refusal (word_in old slot) ≡ Some cause) × BothStay old new

-- ---- the host's space

-- the words of checked memory by their addresses, as they were last written
abbrev pub mirror_words : CtlData → ℕ → ℕ
mirror_words x address = word_at x.mirror (address / 4096 - 0x80000) (address % 4096)

-- the mapping that is asked for
abbrev pub new_mapping : Va → ℕ → Perms → Mapping
new_mapping va page perms = record { vpn = (vpn_of va).0; page = page; perms = perms }

-- why a page isn't mapped in a space: the address is mapped, or the page isn't the host's
abbrev pub map_refusal_in : List Mapping → List Owner → Va → ℕ → Option No
map_refusal_in space owners va page =
    first_refusal (refuse (is_some (mapping_at space (vpn_of va).0)) no.Mapped ∷ refuse (not (is_host (owner_at owners page))) (no.NotYours page) ∷ [])

-- why nothing is removed from a space: the address isn't mapped
abbrev pub unmap_refusal_in : List Mapping → Va → Option No
unmap_refusal_in space va = refuse (not (is_some (mapping_at space (vpn_of va).0))) no.NotMapped

-- an outcome that tells of a refusal: this one, or that there is none
abbrev pub AnswersBy : {A : Type 0} → Option No → Outcome (Result A No) → Type 0
AnswersBy refusal (Value (Ok value)) = refusal ≡ None
AnswersBy refusal (Value (Err cause)) = refusal ≡ Some cause
AnswersBy refusal (Fault place) = Unit {0}
AnswersBy refusal (Collision place held written) = Unit {0}
AnswersBy refusal (Again taken root) = Unit {0}

-- an event in memory whose host tables stand for a space: it answers as the space says, and afterwards they stand for a space too, to which
-- the host's root then walks
pub record HappensIn {A : Type 0} (tables : ℕ) (refusal : Option No) (done before : List Mapping) (outcome : Outcome (Result A No)) (new : CtlData) : Type 0 where
  pub answers : AnswersBy refusal outcome
  pub stand : HostTables tables (mirror_words new) (if_done outcome done before)
  pub walks : All IsMappable (if_done outcome done before) → WalksTo (mirror_words new) (root_of tables 0) Super (if_done outcome done before)

-- each mapping of a space leads to one of so many pages, with permissions that a page may have
abbrev pub LeadInside : ℕ → List Mapping → Type 0
LeadInside pages space = All (λ (m : Mapping). (m.page < pages) × IsTrue (are_page_perms m.perms)) space

-- the leaves of host tables that stand for such a space lead there
abbrev pub SpacesHaveLeaves : Type 0
SpacesHaveLeaves = (tables : ℕ) (x : CtlData) (space : List Mapping) → 2 + tables ≤ 64 * x.zones → LeadInside (64 * x.zones) space
    → HostTables tables (mirror_words x) space → HaveHostLeaves tables x

-- memory that has the start words of the host's tables stands for the empty space
abbrev pub StartsInEmptySpace : Type 0
StartsInEmptySpace = (tables : ℕ) (x : CtlData) → tables ≤ 32 → 2 + tables ≤ 64 * x.zones → HasWords (64 * x.zones) (start_words tables) x.mirror
    → HostTables tables (mirror_words x) []

-- ---- what holds of the events

module _ (digest_of : List ℕ → List ℕ) where
  pub record MapsTell : Type 0 where
    -- an early refusal changes nothing at all
    pub at_once : (tables : ℕ) (fences : List (Option Fence)) (owners : List Owner) (va : Va) (page : ℕ) (perms : Perms) (g : Going) (cause : No)
        → early_refusal tables fences va ≡ Some cause → map_of digest_of tables fences owners va page perms g ≡ is_refused_at_once cause g owners
    -- it is busy exactly where the address can be mapped, and some fence is of it
    pub busy : (tables : ℕ) (fences : List (Option Fence)) (owners : List Owner) (va : Va) (page : ℕ) (perms : Perms) (g : Going)
        → ((map_of digest_of tables fences owners va page perms g).step.outcome ≡ Value (Err no.Busy)) ↔ ((can_be_mapped tables va ≡ true) × IsCovered fences va)
    -- what the access of the leaf leaves and tells
    pub leaf : (tables : ℕ) (fences : List (Option Fence)) (owners : List Owner) (va : Va) (page : ℕ) (perms : Perms) (g : Going) → IsKept digest_of g.ctl → 2 + tables ≤ 64 * g.ctl.zones
        → early_refusal tables fences va ≡ None
        → let r = (map_of digest_of tables fences owners va page perms g).step in
        Accessed digest_of (places_of (leaf_slot tables va)) (WordTells (leaf_slot tables va) (map_refusal owners page) (leaf_word page perms Super) (λ word. tt) g.ctl r.after.ctl) g.ctl r.outcome r.after.ctl
    -- a mapping that is answered is the last of the space
    pub space : (tables : ℕ) (fences : List (Option Fence)) (owners : List Owner) (va : Va) (page : ℕ) (perms : Perms) (g : Going) (space : List Mapping) → IsKept digest_of g.ctl
        → tables ≤ 32 → 2 + tables ≤ 64 * g.ctl.zones → page < 2 ^ 32 → IsTrue (are_page_perms perms) → early_refusal tables fences va ≡ None → HostTables tables (mirror_words g.ctl) space
        → let r = (map_of digest_of tables fences owners va page perms g).step in
        HappensIn tables (map_refusal_in space owners va page) (space ++ new_mapping va page perms ∷ []) space r.outcome r.after.ctl
    -- leaves stay those of pages, where a host page is one
    pub keeps : (tables : ℕ) (fences : List (Option Fence)) (owners : List Owner) (va : Va) (page : ℕ) (perms : Perms) (g : Going) → IsKept digest_of g.ctl → 2 + tables ≤ 64 * g.ctl.zones
        → page < 2 ^ 32 → (is_host (owner_at owners page) ≡ true → page < 64 * g.ctl.zones) → IsTrue (are_page_perms perms) → HaveHostLeaves tables g.ctl
        → HaveHostLeaves tables (map_of digest_of tables fences owners va page perms g).step.after.ctl

  pub record UnmapsTell : Type 0 where
    pub at_once : (tables : ℕ) (fences : List (Option Fence)) (h : ℕ) (va : Va) (g : Going) (cause : No) → early_refusal tables fences va ≡ Some cause
        → unmap_begun digest_of tables fences h va g ≡ is_refused_at_once cause g fences
    pub busy : (tables : ℕ) (fences : List (Option Fence)) (h : ℕ) (va : Va) (g : Going)
        → ((unmap_begun digest_of tables fences h va g).step.outcome ≡ Value (Err no.Busy)) ↔ ((can_be_mapped tables va ≡ true) × IsCovered fences va)
    pub leaf : (tables : ℕ) (fences : List (Option Fence)) (h : ℕ) (va : Va) (g : Going) → IsKept digest_of g.ctl → 2 + tables ≤ 64 * g.ctl.zones → early_refusal tables fences va ≡ None
        → let r = (unmap_begun digest_of tables fences h va g).step in
        Accessed digest_of (places_of (leaf_slot tables va)) (WordTells (leaf_slot tables va) unmap_refusal 0 page_of_leaf g.ctl r.after.ctl) g.ctl r.outcome r.after.ctl
    -- a removal that begins takes the address out of the space, and answers the page that was mapped there
    pub space : (tables : ℕ) (fences : List (Option Fence)) (h : ℕ) (va : Va) (g : Going) (space : List Mapping) → IsKept digest_of g.ctl
        → tables ≤ 32 → 2 + tables ≤ 64 * g.ctl.zones → early_refusal tables fences va ≡ None → HostTables tables (mirror_words g.ctl) space
        → let r = (unmap_begun digest_of tables fences h va g).step in HappensIn tables (unmap_refusal_in space va) (without_vpn space (vpn_of va).0) space r.outcome r.after.ctl
    pub page : (tables : ℕ) (fences : List (Option Fence)) (h : ℕ) (va : Va) (g : Going) (space : List Mapping) (page : ℕ) → IsKept digest_of g.ctl → 2 + tables ≤ 64 * g.ctl.zones
        → All IsMappable space → HostTables tables (mirror_words g.ctl) space → (unmap_begun digest_of tables fences h va g).step.outcome ≡ Value (Ok page)
        → (m : Mapping) × (mapping_at space (vpn_of va).0 ≡ Some m) × (m.page ≡ page)
    pub keeps : (tables : ℕ) (fences : List (Option Fence)) (h : ℕ) (va : Va) (g : Going) → IsKept digest_of g.ctl → 2 + tables ≤ 64 * g.ctl.zones → HaveHostLeaves tables g.ctl
        → HaveHostLeaves tables (unmap_begun digest_of tables fences h va g).step.after.ctl
