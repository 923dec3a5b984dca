-- Histories grow by an entry at a time, and their bytes by more bytes.
use Rattle.std.proofs.Common.{◌≡◌, ℕ, ◌+◌, ◌≤◌, Bool, List, [], ◌∷◌, ◌++◌, length, take, drop, Option, Some, None, slice_get, if◌then◌else◌, ◌==◌, ◌&&◌, refl, sym, ap, ◌∙◌, subst, arith}
use Rattle.std.specs.Option.{option_map_or, option_or}
use Rattle.std.specs.List.{AllByRecursion}
use Rattle.std.proofs.lemmas.List.{append-nil, append_assoc, take-append-le, drop-append-le, length-drop}
use Rattle.std.proofs.lemmas.List.Elements.{recursion_from_All}
use Rattle.pl_base.specs.Bytes.{bytes_at}
use Rattle.pl_history.specs.declared.line.AttackLine.{AttackLine}
use Rattle.pl_history.specs.declared.line.AttackLine.TheVariants as attack
use Rattle.pl_history.specs.declared.line.Line.{Line}
use Rattle.pl_history.specs.declared.answer.Answer.{Answer}
use Rattle.pl_history.specs.declared.answer.Answer.TheVariants as answer_is
use Rattle.pl_history.specs.declared.answer.Entry.{Entry}
use Rattle.pl_history.specs.declared.setup.SetupParts.{SetupParts}
use Rattle.pl_history.specs.Answering.{change_by, progressed, unchanged}
use Rattle.pl_history.specs.Attacking.{Placed, keeps_name, kept_part, latest_kept, written, AllowedWrote, AllowedKept}
use Rattle.pl_history.specs.History.{part_end, named_part, NamesPart}
use Rattle.pl_history.specs.Legal.{ActorLine, of_hart, of_attacker, line_at, AllowedAnswer, AllowedAttack, AllowedLine, Allowed, attack_changes, changes, after_line, after, state_after, AllAllowed}
use Rattle.pl_history.specs.Laws.{OneMoreIsLegal, OneMoreGives, MoreBytesLeaveLegal, MoreBytesLeaveState}
use Rattle.pl_history.specs.Monitor.{Monitor, Progress, opening, with_progress}

-- ---- one more entry

state_after-append : (setup : SetupParts) (bytes : List ℕ) (s : Monitor) (xs ys : List Entry) → state_after setup bytes s (xs ++ ys) ≡ state_after setup bytes (state_after setup bytes s xs) ys
state_after-append setup bytes s [] ys = refl
state_after-append setup bytes s (x ∷ xs) ys = state_after-append setup bytes (after setup bytes s x) xs ys

AllAllowed-append : (setup : SetupParts) (bytes : List ℕ) (s : Monitor) (before xs ys : List Entry)
    → AllAllowed setup bytes s before xs → AllAllowed setup bytes (state_after setup bytes s xs) (before ++ xs) ys → AllAllowed setup bytes s before (xs ++ ys)
AllAllowed-append setup bytes s before [] ys p q = subst (λ b. AllAllowed setup bytes s b ys) (append-nil before) q
AllAllowed-append setup bytes s before (x ∷ xs) ys p q = (
  p.0,
  AllAllowed-append setup bytes (after setup bytes s x) (before ++ x ∷ []) xs ys p.1
      (subst (λ b. AllAllowed setup bytes (state_after setup bytes s (x ∷ xs)) b ys) (sym (append_assoc before (x ∷ []) xs)) q),
)

-- where no answer changes a state, each leaves what holds of it
pub unchanged_holds : (Holds : Monitor → Type 0) (s : Monitor) (now : Answer) → Holds s → Holds (change_by (unchanged s) now)
unchanged_holds Holds s answer_is.Begun k = k
unchanged_holds Holds s answer_is.Ok k = k
unchanged_holds Holds s (answer_is.Value value) k = k
unchanged_holds Holds s (answer_is.Word word) k = k
unchanged_holds Holds s (answer_is.Left count why) k = k
unchanged_holds Holds s (answer_is.No cause) k = k
unchanged_holds Holds s (answer_is.Wrote changed at from len) k = k
unchanged_holds Holds s (answer_is.Kept at from len) k = k

-- What holds of states, however far their actors are, and whatever the attacker wrote: what each answer to a hart's line leaves of it
-- holds after all answers.
module _ (setup : SetupParts) (bytes : List ℕ) (Holds : Monitor → Type 0)
    (of_progress : (s : Monitor) (actor : ℕ) (now : Progress) → Holds s → Holds (with_progress s actor now))
    (of_written : (s : Monitor) (now : Placed) (changed : Bool) → Holds s → Holds (written s now changed))
    (of_line : (s : Monitor) (hart : ℕ) (line : Line) (begun : Bool) (now : Answer) → Holds s → AllowedAnswer setup s line begun now → Holds (change_by (changes s hart line begun) now)) where
  attack_holds : (s : Monitor) (part : List ℕ) (line : AttackLine) (now : Answer) → Holds s → Holds (change_by (attack_changes s part line) now)
  attack_holds s part (attack.Write pa new) (answer_is.Wrote changed at from len) k = of_written s (record { address = at; bytes = part }) changed k
  attack_holds s part (attack.Back name) (answer_is.Wrote changed at from len) k = of_written s (record { address = at; bytes = part }) changed k
  attack_holds s part (attack.Keep name pa len) now k = unchanged_holds Holds s now k
  attack_holds s part (attack.After actor count) now k = unchanged_holds Holds s now k
  attack_holds s part line now k = k

  progressed_holds : (s : Monitor) (actor : ℕ) (now : Answer) → Holds s → Holds (progressed s actor now)
  progressed_holds s actor answer_is.Begun k = of_progress s actor _ k
  progressed_holds s actor answer_is.Ok k = of_progress s actor _ k
  progressed_holds s actor (answer_is.Value value) k = of_progress s actor _ k
  progressed_holds s actor (answer_is.Word word) k = of_progress s actor _ k
  progressed_holds s actor (answer_is.Left count why) k = of_progress s actor _ k
  progressed_holds s actor (answer_is.No cause) k = of_progress s actor _ k
  progressed_holds s actor (answer_is.Wrote changed at from len) k = of_progress s actor _ k
  progressed_holds s actor (answer_is.Kept at from len) k = of_progress s actor _ k

  -- after one entry
  pub line_holds : (s : Monitor) (before : List Entry) (entry : Entry) (line : ActorLine) → Holds s
      → AllowedLine setup bytes s before line (s.progress entry.actor).begun entry.answer → Holds (after_line s entry.actor (named_part bytes entry.answer) entry.answer line)
  line_holds s before entry (of_hart line) k allowed =
      progressed_holds (change_by (changes s entry.actor line (s.progress entry.actor).begun) entry.answer) entry.actor entry.answer
      (of_line s entry.actor line (s.progress entry.actor).begun entry.answer k allowed)
  line_holds s before entry (of_attacker line) k allowed =
      progressed_holds (change_by (attack_changes s (named_part bytes entry.answer) line) entry.answer) entry.actor entry.answer (attack_holds s (named_part bytes entry.answer) line entry.answer k)

  pub holds_after : (s : Monitor) (before entries : List Entry) → Holds s → AllAllowed setup bytes s before entries → Holds (state_after setup bytes s entries)
  holds_after s before [] k allowed = k
  holds_after s before (entry ∷ entries) k allowed =
      holds_after (after setup bytes s entry) (before ++ entry ∷ []) entries
      (subst (λ (o : Option ActorLine). Holds (option_map_or (after_line s entry.actor (named_part bytes entry.answer) entry.answer) o s)) (sym allowed.0.1.1) (line_holds s before entry allowed.0.1.0 k allowed.0.1.2))
      allowed.1

pub one_more_is_legal : OneMoreIsLegal
one_more_is_legal setup bytes entries entry legal allowed = AllAllowed-append setup bytes (opening setup) [] entries (entry ∷ []) legal (allowed, tt)

pub one_more_gives : OneMoreGives
one_more_gives setup bytes entries entry = state_after-append setup bytes (opening setup) entries (entry ∷ [])

-- ---- more bytes

part-append : (bytes more : List ℕ) (from len : ℕ) → from + len ≤ length bytes → bytes_at (bytes ++ more) from len ≡ bytes_at bytes from len
part-append bytes more from len inside =
    ap (take len) (drop-append-le from bytes more (omega arith))
    ∙ take-append-le len (drop from bytes) more (let rest = length-drop from bytes in omega arith)

named-append : (bytes more : List ℕ) (now : Answer) → part_end now ≤ length bytes → named_part (bytes ++ more) now ≡ named_part bytes now
named-append bytes more answer_is.Begun inside = refl
named-append bytes more answer_is.Ok inside = refl
named-append bytes more (answer_is.Value value) inside = refl
named-append bytes more (answer_is.Word word) inside = refl
named-append bytes more (answer_is.Left count why) inside = refl
named-append bytes more (answer_is.No cause) inside = refl
named-append bytes more (answer_is.Wrote changed pa from len) inside = part-append bytes more from len inside
named-append bytes more (answer_is.Kept pa from len) inside = part-append bytes more from len inside

module _ (setup : SetupParts) (bytes more : List ℕ) where
  -- each entry names a part of the bytes before
  abbrev pub AllName : List Entry → Type 0
  AllName = AllByRecursion (NamesPart bytes)

  after-more : (s : Monitor) (entry : Entry) → NamesPart bytes entry → after setup (bytes ++ more) s entry ≡ after setup bytes s entry
  after-more s entry inside =
      ap (λ part. option_map_or (after_line s entry.actor part entry.answer) (line_at setup entry.actor entry.line) s) (named-append bytes more entry.answer inside)

  state-more : (entries : List Entry) (s : Monitor) → AllName entries → state_after setup (bytes ++ more) s entries ≡ state_after setup bytes s entries
  state-more [] s inside = refl
  state-more (entry ∷ entries) s inside =
      ap (λ t. state_after setup (bytes ++ more) t entries) (after-more s entry inside.0) ∙ state-more entries (after setup bytes s entry) inside.1

  pub kept-more : (name : List ℕ) (entries : List Entry) → AllName entries → latest_kept setup (bytes ++ more) name entries ≡ latest_kept setup bytes name entries
  kept-more name [] inside = refl
  kept-more name (entry ∷ entries) inside = λ i. option_or (kept-more name entries inside.1 i) (kept_by_part (named-append bytes more entry.answer inside.0 i))
    where
      kept_by_part : List ℕ → Option Placed
      kept_by_part part = if entry.actor == setup.harts && keeps_name name (slice_get setup.attacker entry.line) then kept_part entry.answer part else None

  attack-more : (s : Monitor) (before : List Entry) (line : AttackLine) (begun : Bool) (now : Answer) → AllName before → part_end now ≤ length bytes
      → AllowedAttack setup bytes s before (named_part bytes now) line begun now → AllowedAttack setup (bytes ++ more) s before (named_part (bytes ++ more) now) line begun now
  attack-more s before (attack.Write pa new) begun now names inside p = subst (λ part. AllowedWrote s (Some (record { address = pa; bytes = new })) part begun now) (sym (named-append bytes more now inside)) p
  attack-more s before (attack.Keep name pa len) begun now names inside p = subst (λ part. AllowedKept s pa len part begun now) (sym (named-append bytes more now inside)) p
  attack-more s before (attack.Back name) begun now names inside p =
      subst (λ part. AllowedWrote s (latest_kept setup (bytes ++ more) name before) part begun now) (sym (named-append bytes more now inside))
      (subst (λ what. AllowedWrote s what (named_part bytes now) begun now) (sym (kept-more name before names)) p)
  attack-more s before (attack.After actor count) begun now names inside p = p

  line-more : (s : Monitor) (before : List Entry) (line : ActorLine) (begun : Bool) (now : Answer) → AllName before → part_end now ≤ length bytes
      → AllowedLine setup bytes s before line begun now → AllowedLine setup (bytes ++ more) s before line begun now
  line-more s before (of_hart line) begun now names inside p = p
  line-more s before (of_attacker line) begun now names inside p = attack-more s before line begun now names inside p

  allowed-more : (s : Monitor) (before : List Entry) (entry : Entry) → AllName before → NamesPart bytes entry → Allowed setup bytes s before entry → Allowed setup (bytes ++ more) s before entry
  allowed-more s before entry names inside p =
      (p.0, (p.1.0, p.1.1, line-more s before p.1.0 (s.progress entry.actor).begun entry.answer names inside p.1.2))

  names-push : (before : List Entry) (entry : Entry) → AllName before → NamesPart bytes entry → AllName (before ++ entry ∷ [])
  names-push [] entry names inside = (inside, tt)
  names-push (x ∷ before) entry names inside = (names.0, names-push before entry names.1 inside)

  all-more : (s : Monitor) (before entries : List Entry) → AllName before → AllName entries → AllAllowed setup bytes s before entries → AllAllowed setup (bytes ++ more) s before entries
  all-more s before [] names inside p = tt
  all-more s before (entry ∷ entries) names inside p = (
    allowed-more s before entry names inside.0 p.0,
    subst (λ t. AllAllowed setup (bytes ++ more) t (before ++ entry ∷ []) entries) (sym (after-more s entry inside.0))
        (all-more (after setup bytes s entry) (before ++ entry ∷ []) entries (names-push before entry names inside.0) inside.1 p.1),
  )

pub more_bytes_leave_legal : MoreBytesLeaveLegal
more_bytes_leave_legal setup bytes more entries inside = all-more setup bytes more (opening setup) [] entries tt (recursion_from_All (NamesPart bytes) entries inside)

pub more_bytes_leave_state : MoreBytesLeaveState
more_bytes_leave_state setup bytes more entries inside = state-more setup bytes more entries (opening setup) (recursion_from_All (NamesPart bytes) entries inside)
