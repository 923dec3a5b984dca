-- A walk over the items of the protection entries.
use Rattle.std.proofs.Common.{◌≡◌, ℕ, List, [], ◌∷◌, ◌++◌, Ok, Err, refl, ap, append_assoc}
use Rattle.rv_pmp.specs.declared.rule.Rule.{Rule}
use Rattle.world_setup.specs.Checked.{Checked}
use Rattle.world_setup.specs.Protection.{entry_then}

-- some entries before those that follow
abbrev pub entries_then : List (ℕ × Rule) → Checked (List (ℕ × Rule)) → Checked (List (ℕ × Rule))
entries_then before (Ok entries) = Ok (before ++ entries)
entries_then before (Err fault) = Err fault

pub one_more : (before : List (ℕ × Rule)) (entry : ℕ × Rule) (rest : Checked (List (ℕ × Rule))) → entries_then (before ++ entry ∷ []) rest ≡ entries_then before (entry_then entry rest)
one_more before entry (Ok entries) = ap Ok (append_assoc before (entry ∷ []) entries)
one_more before entry (Err fault) = refl

pub none_before : (rest : Checked (List (ℕ × Rule))) → entries_then [] rest ≡ rest
none_before (Ok entries) = refl
none_before (Err fault) = refl
