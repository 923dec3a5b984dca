-- What the entries kept under a name, entry by entry.
use Rattle.std.proofs.Common.{◌≡◌, ℕ, ◌+◌, ◌<◌, List, [], ◌∷◌, ◌++◌, length, take, drop, get_or, Option, Some, None, is_some, true, refl, sym, ap, ◌∙◌, subst, suc, arith}
use Rattle.std.proofs.Math.Seq.{drop-cons}
use Rattle.std.proofs.lemmas.List.{take-append-drop}
use Rattle.std.proofs.lemmas.List.Elements.{recursion_from_All}
use Rattle.std.specs.Option.{option_or}
use Rattle.pl_history.specs.declared.answer.Entry.{Entry}
use Rattle.pl_history.specs.declared.setup.SetupParts.{SetupParts}
use Rattle.pl_history.specs.Attacking.{Placed, kept_by, latest_kept}
use Rattle.pl_history.specs.History.{NamesPart}
use Rattle.pl_history.proofs.HistoryLemmas.{kept-more}
use Rattle.world_attack.specs.Laws.{MoreBytesLeaveKept}

or-none : (o : Option Placed) → option_or o None ≡ o
or-none None = refl
or-none (Some x) = refl

or-or : (o p q : Option Placed) → option_or (option_or o p) q ≡ option_or o (option_or p q)
or-or None p q = refl
or-or (Some x) p q = refl

module _ (setup : SetupParts) (bytes name : List ℕ) where
  -- of two lists of entries the later one decides, where it kept any
  pub latest_kept-append : (xs ys : List Entry) → latest_kept setup bytes name (xs ++ ys) ≡ option_or (latest_kept setup bytes name ys) (latest_kept setup bytes name xs)
  latest_kept-append [] ys = sym (or-none (latest_kept setup bytes name ys))
  latest_kept-append (x ∷ xs) ys =
      ap (λ o. option_or o (kept_by setup bytes name x)) (latest_kept-append xs ys)
      ∙ or-or (latest_kept setup bytes name ys) (latest_kept setup bytes name xs) (kept_by setup bytes name x)

  -- where none after a position kept any, the entry there decides
  pub latest_kept-drop : (entries : List Entry) (k : ℕ) (d : Entry) → k < length entries → latest_kept setup bytes name (drop (k + 1) entries) ≡ None
      → latest_kept setup bytes name (drop k entries) ≡ kept_by setup bytes name (get_or entries k d)
  latest_kept-drop entries k d inside none =
      ap (latest_kept setup bytes name) (drop-cons entries k d inside)
      ∙ ap (λ o. option_or o (kept_by setup bytes name (get_or entries k d))) (let next : k + 1 ≡ suc k = omega arith in subst (λ (n : ℕ). latest_kept setup bytes name (drop n entries) ≡ None) next none)

  -- what the entries from a position on kept is the latest of all
  pub latest_kept-found : (entries : List Entry) (k : ℕ) (what : Placed) → latest_kept setup bytes name (drop k entries) ≡ Some what → latest_kept setup bytes name entries ≡ Some what
  latest_kept-found entries k what found =
      ap (latest_kept setup bytes name) (sym (take-append-drop k entries))
      ∙ latest_kept-append (take k entries) (drop k entries)
      ∙ ap (λ o. option_or o (latest_kept setup bytes name (take k entries))) found

  -- what the entry at a position kept, where it did and none after it did, is the latest of all
  pub latest_kept-at : (entries : List Entry) (at k : ℕ) (d : Entry) (what : Option Placed) → at ≡ k + 1 → k < length entries → latest_kept setup bytes name (drop at entries) ≡ None
      → what ≡ kept_by setup bytes name (get_or entries k d) → is_some what ≡ true → what ≡ latest_kept setup bytes name entries
  latest_kept-at entries at k d None next inside none here some = cc
  latest_kept-at entries at k d (Some what) next inside none here some =
      sym (latest_kept-found entries k what
      (latest_kept-drop entries k d inside (subst (λ (n : ℕ). latest_kept setup bytes name (drop n entries) ≡ None) next none) ∙ sym here))

pub more_bytes_leave_kept : MoreBytesLeaveKept
more_bytes_leave_kept setup bytes more name entries inside = kept-more setup bytes more name entries (recursion_from_All (NamesPart bytes) entries inside)
