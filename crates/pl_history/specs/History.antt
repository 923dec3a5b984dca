-- What contracts see of a history.
use Rattle.std.specs.Prelude.{ℕ, ◌+◌, ◌^◌, ◌<◌, ◌≤◌, List, [], length}
use Rattle.std.specs.List.{All}
use Rattle.pl_base.specs.Bytes.{bytes_at}
use Rattle.pl_history.specs.declared.answer.Answer.{Answer}
use Rattle.pl_history.specs.declared.answer.Answer.TheVariants.{Wrote, Kept}
use Rattle.pl_history.specs.declared.answer.Entry.{Entry}

-- the entries, the bytes that they name parts of, and how many more of each fit
pub record HistoryData : Type 0 where
  pub entries : List Entry
  pub bytes : List ℕ
  pub entry_room : ℕ
  pub byte_room : ℕ

-- where the part of the bytes that an answer names ends; 0 where it names none
abbrev pub part_end : Answer → ℕ
part_end (Wrote changed pa from len) = from + len
part_end (Kept pa from len) = from + len
part_end _ = 0

-- the part of the bytes that an answer names; nothing where it names none
abbrev pub named_part : List ℕ → Answer → List ℕ
named_part bytes (Wrote changed pa from len) = bytes_at bytes from len
named_part bytes (Kept pa from len) = bytes_at bytes from len
named_part bytes _ = []

-- the part that an entry names lies in the bytes
abbrev pub NamesPart : List ℕ → Entry → Type 0
NamesPart bytes entry = part_end entry.answer ≤ length bytes

-- each entry's part lies in the bytes, which are fewer than 2^32 with their room
pub record IsHistory (h : HistoryData) : Type 0 where
  pub parts : All (NamesPart h.bytes) h.entries
  pub limit : length h.bytes + h.byte_room < 2 ^ 32
