-- What the replacement of a word answers and leaves.
use Rattle.std.proofs.Common.{ℕ, ◌≡◌, ◌*◌, ◌%◌, ◌<◌, List, Option, Some, None, refl, ap, subst, sym, ◌∙◌, arith}
use Rattle.std.specs.Prelude.{Result, Ok}
use Rattle.byteorder.specs.Endian.{little_bytes}
use Rattle.pl_base.specs.Bytes.{with_bytes}
use Rattle.pl_base.specs.declared.refusal.No.{No}
use Rattle.mem_tree.specs.Trees.{HasDigests}
use Rattle.mem_ctl.specs.Access.{Accessed, BothChange, BothStay, Leaves}
use Rattle.mem_ctl.specs.Calls.{read_word_of, write_part_of}
use Rattle.mem_ctl.specs.Data.{CtlData, Going, Outcome, Value, Fault, Collision, Again, After, answer, go_on}
use Rattle.mem_ctl.specs.Laws.{WordIsRead}
use Rattle.mem_ctl.specs.TreesHold.{IsKept}
use Rattle.mem_ctl.specs.WrittenPages.{KeepsPages, KeepsZones}
use Rattle.mem_ctl.proofs.AccessLaws.{reads_tell, writes_tell}
use Rattle.mem_ctl.proofs.PageParts.{change_after}
use Rattle.mon_host.specs.Laws.{WordTells, places_of}
use Rattle.mon_host.specs.Leaves.{word_replaced, written_unless}

-- ---- one access after another

pub Leaves-then : (d : List ℕ → List ℕ) (x y z : CtlData) → Leaves d x y → Leaves d y z → Leaves d x z
Leaves-then d x y z first second = record {
  kept = second.kept;
  same_zones = second.same_zones ∙ first.same_zones;
  same_slots = second.same_slots ∙ first.same_slots;
  still_written = λ index as_written. second.still_written index (first.still_written index as_written);
}

pub BothStay-then : (x y z : CtlData) → y.zones ≡ x.zones → BothStay x y → BothStay y z → BothStay x z
BothStay-then x y z zones first second = record {
  off_chip_zones = subst (λ n. KeepsZones n y.off_chip z.off_chip) zones second.off_chip_zones ∙ first.off_chip_zones;
  mirror_zones = subst (λ n. KeepsZones n y.mirror z.mirror) zones second.mirror_zones ∙ first.mirror_zones;
  off_chip_pages = λ page below. subst (λ n. KeepsPages n y.off_chip z.off_chip) zones second.off_chip_pages page below ∙ first.off_chip_pages page below;
  mirror_pages = λ page below. subst (λ n. KeepsPages n y.mirror z.mirror) zones second.mirror_pages page below ∙ first.mirror_pages page below;
}

pub BothChange-after : (x y z : CtlData) (page : ℕ) (change : List ℕ → List ℕ) → y.zones ≡ x.zones → page < 64 * x.zones → BothStay x y → BothChange page change y z → BothChange page change x z
BothChange-after x y z page change zones there first second = record {
  off_chip_pages = change_after x.zones y.zones page change x.off_chip y.off_chip z.off_chip zones there first.off_chip_pages second.off_chip_pages;
  mirror_pages = change_after x.zones y.zones page change x.mirror y.mirror z.mirror zones there first.mirror_pages second.mirror_pages;
}

-- ---- the word

module _ (d : List ℕ → List ℕ) (law : HasDigests d) {A : Type 0} (slot : ℕ × ℕ) (refusal : ℕ → Option No) (word : ℕ) (value : ℕ → A) (g : Going) (kept : IsKept d g.ctl)
    (there : slot.0 < 64 * g.ctl.zones) (in_page : slot.1 < 4096) (aligned : slot.1 % 8 ≡ 0) where
  abbrev put_in : List ℕ → List ℕ
  put_in bytes = with_bytes bytes slot.1 (little_bytes 8 word)

  abbrev IsRead : Outcome ℕ → Going → Type 0
  IsRead o h = Accessed d (places_of slot) (WordIsRead slot.0 slot.1 g.ctl h.ctl) g.ctl o h.ctl

  abbrev Told : After (Result A No) → Type 0
  Told r = Accessed d (places_of slot) (WordTells slot refusal word value g.ctl r.after.ctl) g.ctl r.outcome r.after.ctl

  write_told : (h : Going) (old : ℕ) → IsRead (Value old) h → refusal old ≡ None → (o : Outcome (Unit {0})) (k : Going)
      → Accessed d (places_of slot) (λ _. BothChange slot.0 put_in h.ctl k.ctl) h.ctl o k.ctl → Told (go_on o k (λ _ m. answer (Ok (value old)) m))
  write_told h old read none (Value u) k write = record {
    leaves = Leaves-then d g.ctl h.ctl k.ctl read.leaves write.leaves;
    whole = read.whole;
    tells = (ap refusal (sym read.tells.as_written) ∙ none, ap value read.tells.as_written, BothChange-after g.ctl h.ctl k.ctl slot.0 put_in read.leaves.same_zones there read.tells.pages write.tells);
  }
  write_told h old read none (Fault place) k write = record {
    leaves = Leaves-then d g.ctl h.ctl k.ctl read.leaves write.leaves;
    whole = tt;
    tells = (BothStay-then g.ctl h.ctl k.ctl read.leaves.same_zones read.tells.pages write.tells.0, write.tells.1);
  }
  write_told h old read none (Collision place held other) k write = record {
    leaves = Leaves-then d g.ctl h.ctl k.ctl read.leaves write.leaves;
    whole = tt;
    tells = (BothStay-then g.ctl h.ctl k.ctl read.leaves.same_zones read.tells.pages write.tells.0, write.tells.1);
  }
  write_told h old read none (Again taken root) k write = absurd write.tells

  word_told : (h : Going) (old : ℕ) → IsRead (Value old) h → (cause : Option No) → refusal old ≡ cause → Told (written_unless d cause slot word (value old) h)
  word_told h old read (Some cause) is = record { leaves = read.leaves; whole = read.whole; tells = (ap refusal (sym read.tells.as_written) ∙ is, read.tells.pages) }
  word_told h old read None is =
      let write : After (Unit {0}) = write_part_of d slot.0 slot.1 8 word h in
      write_told h old read is write.outcome write.after (writes_tell d law slot.0 slot.1 8 word h read.leaves.kept (omega (arith, read.leaves.same_zones)) in_page refl aligned)

  read_told : (o : Outcome ℕ) (h : Going) → IsRead o h → Told (go_on o h (λ old k. written_unless d (refusal old) slot word (value old) k))
  read_told (Value old) h read = word_told h old read (refusal old) (λ i. refusal old)
  read_told (Fault place) h read = record { leaves = read.leaves; whole = tt; tells = read.tells }
  read_told (Collision place held other) h read = record { leaves = read.leaves; whole = tt; tells = read.tells }
  read_told (Again taken root) h read = absurd read.tells

  pub replaced_tells : Told (word_replaced d slot refusal word value g)
  unfolding word_replaced
  replaced_tells = let read : After ℕ = read_word_of d slot.0 slot.1 g in read_told read.outcome read.after (reads_tell d law slot.0 slot.1 g kept there in_page aligned)
