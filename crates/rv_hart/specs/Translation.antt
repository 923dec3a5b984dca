-- The translation of an address, by asking and learning again and again from the words of memory.
use Rattle.std.specs.Prelude.{◌≡◌, ℕ, zero, suc, true, List, Some, None, Result, Ok, Err, find}
use Rattle.pl_base.specs.Address.{vpn_of}
use Rattle.pl_base.specs.declared.access.Kind.{Kind}
use Rattle.pl_base.specs.declared.address.Pa.{Pa}
use Rattle.pl_base.specs.declared.address.Va.{Va}
use Rattle.rv_sv39.specs.Canonical.{is_canonical}
use Rattle.rv_sv39.specs.Walk.{Answer, Walks, table_at, entry_address}
use Rattle.rv_tlb.specs.Tlb.{is_of, with_entry}
use Rattle.rv_tlb.specs.declared.tlb.TlbEntry.{TlbEntry}
use Rattle.rv_hart.specs.declared.seeking.Sought.{Sought}
use Rattle.rv_hart.specs.declared.seeking.Sought.TheVariants as sought_is
use Rattle.rv_hart.specs.declared.walks.PageFault.{PageFault}
use Rattle.rv_hart.specs.declared.walks.View.{View}
use Rattle.rv_hart.specs.declared.walks.Walk.{Walk}
use Rattle.rv_hart.specs.declared.walks.Walk.TheVariants.{Start, Level, Found}
use Rattle.rv_hart.specs.Seeking.{address_in, sought, sought_through}
use Rattle.rv_hart.specs.Learning.{learned, tlb_after}

-- ---- where a walk stands, `words` being the words of memory by their addresses

-- a walk stands where the words lead from the root: at the table of its level, or at the page that the page walk gives
abbrev pub StandsAt : (ℕ → ℕ) → View → Va → Kind → Walk → Type 0
StandsAt words view va kind Start = Unit {0}
StandsAt words view va kind (Level level table) = table_at words view.root (vpn_of va) level ≡ Some table.0
StandsAt words view va kind (Found ppn perms) = Walks words view.root (vpn_of va) view.mode kind (Some (ppn, perms))

-- so does a walk that has learned; a page fault is what the page walk gives
abbrev pub HasLearned : (ℕ → ℕ) → View → Va → Kind → Result Walk PageFault → Type 0
HasLearned words view va kind (Ok walk) = StandsAt words view va kind walk
HasLearned words view va kind (Err fault) = Walks words view.root (vpn_of va) view.mode kind None

-- the table asked for is the one at which the walk stands
abbrev pub AsksWhereItStands : Type 0
AsksWhereItStands =
    (words : ℕ → ℕ) (view : View) (va : Va) (kind : Kind) (walk : Walk) (entries : List TlbEntry) (pa : Pa) (level : ℕ)
    → StandsAt words view va kind walk → sought walk va kind entries view ≡ sought_is.Table pa level
    → (table : ℕ) × (table_at words view.root (vpn_of va) level ≡ Some table) × (pa.0 ≡ entry_address (vpn_of va) level table)

-- and from its word the walk learns what the page walk is
abbrev pub LearnsTheWalk : Type 0
LearnsTheWalk =
    (words : ℕ → ℕ) (view : View) (va : Va) (kind : Kind) (walk : Walk) (entries : List TlbEntry) (pa : Pa) (level : ℕ)
    → StandsAt words view va kind walk → sought walk va kind entries view ≡ sought_is.Table pa level
    → HasLearned words view va kind (learned walk (words pa.0) va kind view)

-- ---- from the start to the end

-- what a translation comes to, and the TLB after it
pub record Translated : Type 0 where
  pub answer : Sought
  pub tlb : List TlbEntry

-- after a word: the translation goes on by a walk, and ends at a page fault
abbrev pub after_word : (Walk → List TlbEntry → Translated) → Result Walk PageFault → List TlbEntry → Translated
after_word on (Ok walk) entries = on walk entries
after_word on (Err fault) entries = record { answer = sought_is.PageFault; tlb = entries }

-- after a question: it goes on with the word at the address of a table, and ends with any other answer
abbrev pub after_question : (Pa → Translated) → Sought → List TlbEntry → Translated
after_question on (sought_is.Table pa level) entries = on pa
after_question on (sought_is.At pa) entries = record { answer = sought_is.At pa; tlb = entries }
after_question on sought_is.PageFault entries = record { answer = sought_is.PageFault; tlb = entries }

-- ask and learn for so many words at most, and then ask
abbrev pub repeated : (ℕ → ℕ) → View → Va → Kind → ℕ → Walk → List TlbEntry → Translated
repeated words view va kind zero walk entries = record { answer = sought walk va kind entries view; tlb = entries }
repeated words view va kind (suc n) walk entries =
    after_question
    (λ pa. after_word (repeated words view va kind n) (learned walk (words pa.0) va kind view) (tlb_after walk (words pa.0) va kind view entries))
    (sought walk va kind entries view) entries

-- the answer of a page walk as a translation: its page, which goes into the TLB last, or a page fault
abbrev pub translated_by : Answer → Va → View → List TlbEntry → Translated
translated_by None va view entries = record { answer = sought_is.PageFault; tlb = entries }
translated_by (Some (ppn, perms)) va view entries = record {
  answer = sought_is.At (address_in ppn va);
  tlb = with_entry entries (record { space = view.space; vpn = vpn_of va; ppn = ppn; perms = perms });
}

-- without an entry of the space and page, three words give the page walk
abbrev pub WalksWithoutEntry : Type 0
WalksWithoutEntry =
    (words : ℕ → ℕ) (view : View) (va : Va) (kind : Kind) (entries : List TlbEntry) (answer : Answer)
    → is_canonical va.0 ≡ true → find (is_of view.space (vpn_of va)) entries ≡ None → Walks words view.root (vpn_of va) view.mode kind answer
    → repeated words view va kind 3 Start entries ≡ translated_by answer va view entries

-- with one, the entry, or a page fault where it lacks the permission; nothing is learned
abbrev pub UsesTheEntry : Type 0
UsesTheEntry =
    (words : ℕ → ℕ) (view : View) (va : Va) (kind : Kind) (entries : List TlbEntry) (entry : TlbEntry)
    → is_canonical va.0 ≡ true → find (is_of view.space (vpn_of va)) entries ≡ Some entry
    → repeated words view va kind 3 Start entries ≡ record { answer = sought_through entry.ppn entry.perms va kind; tlb = entries }
