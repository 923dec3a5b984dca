-- Calls one after another: each takes its positions from the front of those that are left, and shows its lists after those that were shown.
use Rattle.std.specs.Prelude.{ℕ, ◌≡◌, ◌≤◌, List, ◌++◌, length, drop}
use Rattle.mem_slots.specs.declared.slot_use.SlotUse.{SlotUse}
use Rattle.mem_ctl.specs.declared.told.Op.{Op}
use Rattle.mem_ctl.specs.Calls.{TakenWord, ask_of, get_page_of, put_page_of, read_word_of, tell_of, write_part_of}
use Rattle.mem_ctl.specs.Data.{Going, After}
use Rattle.mem_ctl.specs.Mounting.{mounted_for}

-- more positions behind those that are left, and lists that were shown before
abbrev pub more : List ℕ → List (List SlotUse) → Going → Going
more rest before g = record { ctl = g.ctl; left = g.left ++ rest; shown = before ++ g.shown }

abbrev pub after_more : {A : Type 0} → List ℕ → List (List SlotUse) → After A → After A
after_more rest before r = record { outcome = r.outcome; after = more rest before r.after }

-- a call takes one position for each list that it shows; where there are as many, further ones and earlier lists make no difference
pub record Threads {A : Type 0} (call : Going → After A) : Type 0 where
  pub lists : Going → List (List SlotUse)
  pub shows : (g : Going) → (call g).after.shown ≡ g.shown ++ lists g
  pub takes : (g : Going) → (call g).after.left ≡ drop (length (lists g)) g.left
  pub stable : (g : Going) (rest : List ℕ) (before : List (List SlotUse)) → length (lists g) ≤ length g.left → call (more rest before g) ≡ after_more rest before (call g)

-- so do all calls; two that thread, one after another, thread (`Threads-then`, `calls_join` in proofs/ThreadLemmas)
pub record CallsThread (digest_of : List ℕ → List ℕ) : Type 0 where
  pub mountings : (zone : ℕ) → Threads (mounted_for digest_of zone)
  pub reads : (page offset : ℕ) → Threads (read_word_of digest_of page offset)
  pub writes : (page offset width word : ℕ) → Threads (write_part_of digest_of page offset width word)
  pub page_reads : (page : ℕ) → Threads (get_page_of digest_of page)
  pub page_writes : (page : ℕ) (bytes : List ℕ) → Threads (put_page_of digest_of page bytes)
  pub asks : (page offset : ℕ) → Threads (ask_of digest_of page offset)
  pub tellings : (t : TakenWord) (op : Op) → Threads (tell_of digest_of t op)
