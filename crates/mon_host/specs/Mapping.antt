-- The event of `map`: why it is refused, or a leaf is set and its page has one mapping more.
use Rattle.std.specs.Prelude.{ℕ, ◌==◌, not, List, [], ◌∷◌, slice_set, Option}
use Rattle.pl_base.specs.Refusals.{refuse, first_refusal}
use Rattle.pl_base.specs.declared.access.Mode.TheVariants.{Super}
use Rattle.pl_base.specs.declared.address.Va.{Va}
use Rattle.pl_base.specs.declared.perms.Perms.{Perms}
use Rattle.pl_base.specs.declared.refusal.No.{No}
use Rattle.pl_base.specs.declared.refusal.No.TheVariants.{Mapped, NotYours}
use Rattle.mem_ctl.specs.Data.{Going}
use Rattle.mon_fence.specs.declared.fences.Fence.{Fence}
use Rattle.mon_owner.specs.declared.owners.Owner.{Owner}
use Rattle.mon_owner.specs.Owners.{is_host, mapped_once_more, owner_at}
use Rattle.mon_tables.specs.Words.{leaf_word}
use Rattle.mon_host.specs.Leaves.{HostEvent, early_refusal, event_by, leaf_slot, step_unless, word_replaced}

-- why a page isn't mapped where this word stands: the address is mapped, or the page isn't the host's
abbrev pub map_refusal : List Owner → ℕ → ℕ → Option No
map_refusal owners page word = first_refusal (refuse (not (word == 0)) Mapped ∷ refuse (not (is_host (owner_at owners page))) (NotYours page) ∷ [])

-- a page has one mapping more
abbrev pub with_map : List Owner → ℕ → List Owner
with_map owners page = slice_set owners page (mapped_once_more (owner_at owners page))

-- the owners are those after it
unfoldable pub map_of : (List ℕ → List ℕ) → ℕ → List (Option Fence) → List Owner → Va → ℕ → Perms → Going → HostEvent (Unit {0}) (List Owner)
map_of digest_of tables fences owners va page perms g = event_by (
    step_unless (early_refusal tables fences va)
    (word_replaced digest_of (leaf_slot tables va) (map_refusal owners page) (leaf_word page perms Super) (λ word. tt))
    g) (with_map owners page) owners
