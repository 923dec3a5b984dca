-- The attacker's lines, tried on a few bytes.
use Rattle.std.proofs.Common.{◌≡◌, ℕ, true, false, List, [], ◌∷◌, refl}
use Rattle.pl_history.specs.declared.answer.Answer.TheVariants.{Wrote, Kept}
use Rattle.pl_history.specs.declared.line.AttackLine.TheVariants.{Write, Keep, Back, After}
use Rattle.pl_history.specs.declared.setup.ChoiceName.TheVariants.{Oldest}
use Rattle.pl_history.specs.declared.setup.SetupParts.{SetupParts}
use Rattle.pl_history.specs.Monitor.{opening}
use Rattle.world_attack.specs.Attacks.{Exposed, attacked_line}
use Rattle.world_attack.specs.Lines.{line_bytes}
use Rattle.world_attack.specs.Room.{bytes_due, entries_due}

abbrev name_a : List ℕ
name_a = 97 ∷ []

-- keeps two bytes, writes three over them, writes the same again, and writes the two back
abbrev setup : SetupParts
setup = record {
  harts = 2;
  zones = 1;
  slots = 1;
  tables = 1;
  enclaves = 1;
  choice = Oldest;
  pmp = [];
  order = [];
  images = [];
  lines = [] ∷ [] ∷ [];
  attacker = Keep name_a 0x80000001 2 ∷ Write 0x80000001 (8 ∷ 9 ∷ 4 ∷ []) ∷ Write 0x80000002 (9 ∷ []) ∷ Back name_a ∷ After 0 0 ∷ [];
}

abbrev first : Exposed
first = record { history = record { entries = []; bytes = []; entry_room = 10; byte_room = 8 }; off_chip = 1 ∷ 2 ∷ 3 ∷ 4 ∷ 5 ∷ [] }

abbrev kept : Exposed
kept = attacked_line setup 0 first

abbrev wrote : Exposed
wrote = attacked_line setup 1 kept

abbrev wrote_again : Exposed
wrote_again = attacked_line setup 2 wrote

abbrev back : Exposed
back = attacked_line setup 3 wrote_again

off_chip : (kept.off_chip ∷ wrote.off_chip ∷ wrote_again.off_chip ∷ back.off_chip ∷ [])
    ≡ ((1 ∷ 2 ∷ 3 ∷ 4 ∷ 5 ∷ []) ∷ (1 ∷ 8 ∷ 9 ∷ 4 ∷ 5 ∷ []) ∷ (1 ∷ 8 ∷ 9 ∷ 4 ∷ 5 ∷ []) ∷ (1 ∷ 2 ∷ 3 ∷ 4 ∷ 5 ∷ []) ∷ [])
off_chip = refl

-- the bytes one after the other, the part of each, and whether one changed
answers : back.history ≡ record {
  entries = record { actor = 2; line = 0; answer = Kept 0x80000001 0 2 } ∷ record { actor = 2; line = 1; answer = Wrote true 0x80000001 2 3 }
      ∷ record { actor = 2; line = 2; answer = Wrote false 0x80000002 5 1 } ∷ record { actor = 2; line = 3; answer = Wrote true 0x80000001 6 2 } ∷ [];
  bytes = 2 ∷ 3 ∷ 8 ∷ 9 ∷ 4 ∷ 9 ∷ 2 ∷ 3 ∷ [];
  entry_room = 6;
  byte_room = 0;
}
answers = refl

bytes : (line_bytes setup 0 ∷ line_bytes setup 1 ∷ line_bytes setup 2 ∷ line_bytes setup 3 ∷ line_bytes setup 4 ∷ bytes_due setup 0 ∷ bytes_due setup 3 ∷ []) ≡ (2 ∷ 3 ∷ 1 ∷ 2 ∷ 0 ∷ 8 ∷ 2 ∷ [])
bytes = refl

entries : entries_due setup (opening setup) ≡ 10
unfolding opening
entries = refl
