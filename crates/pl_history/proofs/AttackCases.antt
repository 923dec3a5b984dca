-- The attacker's lines, tried on small states.
use Rattle.std.proofs.Common.{◌≡◌, ℕ, ◌+◌, ◌*◌, true, false, List, [], ◌∷◌, map, take, Option, Some, None, ◌==◌, ap, refl, lit≤}
use Rattle.std.specs.Option.{option_map_or}
use Rattle.pl_history.specs.declared.answer.Answer.TheVariants as answer_is
use Rattle.pl_history.specs.declared.answer.Entry.{Entry}
use Rattle.pl_history.specs.declared.line.AttackLine.{AttackLine}
use Rattle.pl_history.specs.declared.line.AttackLine.TheVariants as attack
use Rattle.pl_history.specs.declared.setup.SetupParts.{SetupParts}
use Rattle.pl_history.specs.Attacking.{Placed, may_say_changed, overwritten_page, latest_kept, written}
use Rattle.pl_history.specs.Legal.{AllowedAttack}
use Rattle.pl_history.specs.Waiting.{AllowedAfter}
use Rattle.pl_history.proofs.CaseStates.{small, state}

abbrev bytes_at_page : ℕ → ℕ → List ℕ → Placed
bytes_at_page page offset bytes = record { address = 0x80000000 + 4096 * page + offset; bytes = bytes }

-- ---- whether a byte changed

-- a byte of the host's changes: only "changed"; none does: only "not changed"
changes : map (may_say_changed state (bytes_at_page 20 0 (20 ∷ 1 ∷ []))) (true ∷ false ∷ []) ≡ (true ∷ false ∷ [])
changes = refl

stays : map (may_say_changed state (bytes_at_page 20 0 (20 ∷ 0 ∷ []))) (true ∷ false ∷ []) ≡ (false ∷ true ∷ [])
stays = refl

-- a page that isn't the host's says neither
elsewhere : map (may_say_changed state (bytes_at_page 30 0 (1 ∷ []))) (true ∷ false ∷ []) ≡ (true ∷ true ∷ [])
elsewhere = refl

-- ---- what a write changes

-- up to the end of a page, and from its beginning
across : (overwritten_page 20 (1 ∷ 2 ∷ 3 ∷ []) (bytes_at_page 20 1 (8 ∷ 9 ∷ [])) ∷ overwritten_page 20 (1 ∷ 2 ∷ 3 ∷ []) (bytes_at_page 19 4095 (8 ∷ 9 ∷ [])) ∷ overwritten_page 20 (1 ∷ 2 ∷ 3 ∷ []) (bytes_at_page 19 0 (8 ∷ 9 ∷ []))
    ∷ overwritten_page 20 (1 ∷ 2 ∷ 3 ∷ []) (bytes_at_page 21 0 (8 ∷ 9 ∷ [])) ∷ [])
    ≡ ((1 ∷ 8 ∷ 9 ∷ []) ∷ (9 ∷ 2 ∷ 3 ∷ []) ∷ (1 ∷ 2 ∷ 3 ∷ []) ∷ (1 ∷ 2 ∷ 3 ∷ []) ∷ [])
across = refl

-- the host's page takes the bytes, and only a change is an attack
taken : (take 2 ((written state (bytes_at_page 20 0 (9 ∷ 9 ∷ [])) true).bytes 20) ∷ take 2 ((written state (bytes_at_page 30 0 (9 ∷ 9 ∷ [])) true).bytes 30) ∷ []) ≡ ((9 ∷ 9 ∷ []) ∷ (30 ∷ 0 ∷ []) ∷ [])
taken = refl

attacks : (written state (bytes_at_page 20 0 (9 ∷ 9 ∷ [])) true).attacks ≡ (record { address = 0x80014000; length = 2 } ∷ [])
attacks = refl

no_attack : (written state (bytes_at_page 20 0 (20 ∷ [])) false).attacks ≡ []
no_attack = refl

-- ---- `keep` and `back`

abbrev name_a : List ℕ
name_a = 97 ∷ []

abbrev script : List AttackLine
script = attack.Keep name_a 0x80014000 2 ∷ attack.Keep (98 ∷ []) 0x80015000 1 ∷ attack.Keep name_a 0x80016000 1 ∷ attack.Back name_a ∷ []

abbrev attacked : SetupParts
attacked = small ([] ∷ [] ∷ []) script

-- the bytes of a history: two of page 20, one of page 21, one of page 22, and one that is written back
abbrev kept_bytes : List ℕ
kept_bytes = 20 ∷ 0 ∷ 21 ∷ 22 ∷ 22 ∷ []

abbrev keeps : List Entry
keeps = record { actor = 2; line = 0; answer = answer_is.Kept 0x80014000 0 2 } ∷ record { actor = 2; line = 1; answer = answer_is.Kept 0x80015000 2 1 } ∷ record { actor = 2; line = 2; answer = answer_is.Kept 0x80016000 3 1 } ∷ []

-- the latest of two of this name; a hart's entry keeps nothing
latest : (latest_kept attacked kept_bytes name_a keeps ∷ latest_kept attacked kept_bytes (98 ∷ []) keeps ∷ latest_kept attacked kept_bytes (99 ∷ []) keeps ∷ latest_kept attacked kept_bytes name_a (take 2 keeps)
    ∷ latest_kept attacked kept_bytes name_a (record { actor = 0; line = 0; answer = answer_is.Ok } ∷ []) ∷ [])
    ≡ (Some (record { address = 0x80016000; bytes = 22 ∷ [] }) ∷ Some (record { address = 0x80015000; bytes = 21 ∷ [] }) ∷ None ∷ Some (record { address = 0x80014000; bytes = 20 ∷ 0 ∷ [] }) ∷ None ∷ [])
latest = refl

back : AllowedAttack attacked kept_bytes state keeps (22 ∷ []) (attack.Back name_a) false (answer_is.Wrote false 0x80016000 4 1)
back = (refl, refl, refl)

not_the_first : AllowedAttack attacked kept_bytes state keeps (20 ∷ 0 ∷ []) (attack.Back name_a) false (answer_is.Wrote false 0x80014000 0 2) → ⊥
not_the_first allowed = let differ : true ≡ false = ap (λ (o : Option Placed). option_map_or (λ (p : Placed). p.address == 0x80016000) o false) allowed.0 in cc

-- the bytes kept are the host's
kept : AllowedAttack attacked kept_bytes state [] (20 ∷ 0 ∷ []) (attack.Keep name_a 0x80014000 2) false (answer_is.Kept 0x80014000 0 2)
kept = (refl, refl, refl, refl)

kept_other : AllowedAttack attacked kept_bytes state [] (21 ∷ 0 ∷ []) (attack.Keep name_a 0x80014000 2) false (answer_is.Kept 0x80014000 0 2) → ⊥
kept_other allowed = let differ : true ≡ false = allowed.3 in cc

wrote : AllowedAttack attacked [] state [] (9 ∷ []) (attack.Write 0x80014000 (9 ∷ [])) false (answer_is.Wrote true 0x80014000 0 1)
wrote = (refl, refl, refl)

wrote_silently : AllowedAttack attacked [] state [] (9 ∷ []) (attack.Write 0x80014000 (9 ∷ [])) false (answer_is.Wrote false 0x80014000 0 1) → ⊥
wrote_silently allowed = let differ : false ≡ true = allowed.2 in cc

-- ---- `after`

waits : AllowedAfter (record state { progress = λ actor. record { answered = actor; begun = false } }) 2 2 false answer_is.Ok
waits = lit≤ tt
