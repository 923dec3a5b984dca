-- The events of `unmap`: a leaf is cleared and a fence is posted; and, once nobody is lacking, the page has one mapping less.
use Rattle.std.specs.Prelude.{ℕ, ◌≡◌, ◌-◌, ◌*◌, ◌<◌, ◌==◌, ◌⊎◌, IsTrue, List, slice_set, Option, Some, None}
use Rattle.pl_base.specs.Address.{vpn_of}
use Rattle.pl_base.specs.Perms.{are_page_perms}
use Rattle.pl_base.specs.Refusals.{refuse}
use Rattle.pl_base.specs.declared.access.Mode.TheVariants.{Super}
use Rattle.pl_base.specs.declared.address.Va.{Va}
use Rattle.pl_base.specs.declared.perms.Perms.{Perms}
use Rattle.pl_base.specs.declared.refusal.No.{No}
use Rattle.pl_base.specs.declared.refusal.No.TheVariants.{NotMapped}
use Rattle.rv_sv39.specs.Word.{ppn_of}
use Rattle.mem_ctl.specs.Data.{CtlData, Going}
use Rattle.mem_ctl.specs.Writes.{word_at}
use Rattle.mon_fence.specs.declared.fences.Fence.{Fence}
use Rattle.mon_fence.specs.Fences.{posted}
use Rattle.mon_owner.specs.declared.owners.Owner.{Owner}
use Rattle.mon_owner.specs.Owners.{mapped_once_less, owner_at}
use Rattle.mon_tables.specs.Tables.{host_slot}
use Rattle.mon_tables.specs.Words.{leaf_word, ppn_of_page}
use Rattle.mon_host.specs.Leaves.{HostEvent, early_refusal, event_by, host_space, leaf_slot, step_unless, word_replaced}

-- ---- the host's leaves

-- the word maps a page below this one, for the host's accesses
pub record IsHostLeaf (pages word : ℕ) : Type 0 where
  pub page : ℕ
  pub perms : Perms
  pub inside : page < pages
  pub allowed : IsTrue (are_page_perms perms)
  pub is : word ≡ leaf_word page perms Super

-- each word of the host's last-level tables is zero, or the leaf of one of the pages
abbrev pub HaveHostLeaves : ℕ → CtlData → Type 0
HaveHostLeaves tables ctl = (vpn : ℕ) (slot : ℕ × ℕ) → host_slot tables vpn ≡ Some slot → (word_at ctl.mirror slot.0 slot.1 ≡ 0) ⊎ IsHostLeaf (64 * ctl.zones) (word_at ctl.mirror slot.0 slot.1)

-- the page that a leaf word names
abbrev pub page_of_leaf : ℕ → ℕ
page_of_leaf word = ppn_of word - ppn_of_page 0

-- ---- it begins

-- why nothing is removed where this word stands: the address isn't mapped
abbrev pub unmap_refusal : ℕ → Option No
unmap_refusal word = refuse (word == 0) NotMapped

-- it answers the page that the leaf named; the fences are those after it
unfoldable pub unmap_begun : (List ℕ → List ℕ) → ℕ → List (Option Fence) → ℕ → Va → Going → HostEvent ℕ (List (Option Fence))
unmap_begun digest_of tables fences h va g = event_by (
    step_unless (early_refusal tables fences va) (word_replaced digest_of (leaf_slot tables va) unmap_refusal 0 page_of_leaf) g)
    (posted fences h host_space (Some (vpn_of va))) fences

-- ---- it ends

-- a page has one mapping less
abbrev pub without_map : List Owner → ℕ → List Owner
without_map owners page = slice_set owners page (mapped_once_less (owner_at owners page))

-- a hart has left its fence
abbrev pub without_fence : List (Option Fence) → ℕ → List (Option Fence)
without_fence fences h = slice_set fences h None

pub record UnmapEnded : Type 0 where
  pub owners : List Owner
  pub fences : List (Option Fence)

unfoldable pub unmap_ended : List Owner → List (Option Fence) → ℕ → ℕ → UnmapEnded
unmap_ended owners fences h page = record { owners = without_map owners page; fences = without_fence fences h }
