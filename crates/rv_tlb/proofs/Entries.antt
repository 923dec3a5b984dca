-- What a TLB holds stays so under its calls.
use Rattle.std.proofs.Common.{◌≡◌, ℕ, zero, suc, ◌<◌, ◌≤◌, Bool, false, Some, is_some, IsNone, List, [], ◌∷◌, ◌++◌, drop, find, filter, get_or, length, sym, ap, ◌∙◌, arith}
use Rattle.std.proofs.lemmas.Bool.{cond-true, cond-false, false≢true, false_from_ne_true}
use Rattle.std.proofs.lemmas.Bool.Decides.{nat_tests}
use Rattle.std.proofs.lemmas.List.{length_push, length-drop}
use Rattle.std.proofs.lemmas.List.Elements.{All-drop, All-filter, All-push}
use Rattle.std.proofs.lemmas.List.Kept.{AllPairs-filter}
use Rattle.std.proofs.lemmas.List.Quantifiers.{all_pairs_push, all_pairs_remove}
use Rattle.rv_tlb.specs.Tlb.{is_of, Differ, HasPpn, IsTlb}
use Rattle.rv_tlb.specs.declared.tlb.TlbEntry.{TlbEntry}

first_fails : {X : Type 0} (p : X → Bool) (x : X) (xs : List X) → IsNone (find p (x ∷ xs)) → p x ≡ false
first_fails p x xs none =
    false_from_ne_true (p x) (λ passes. false≢true (sym none ∙ ap is_some (cond-true (p x) (Some x) (find p xs) passes)))

rest_fails : {X : Type 0} (p : X → Bool) (x : X) (xs : List X) → IsNone (find p (x ∷ xs)) → IsNone (find p xs)
rest_fails p x xs none = sym (ap is_some (cond-false (p x) (Some x) (find p xs) (first_fails p x xs none))) ∙ none

-- where no element is found, each fails the test
pub fails_where_none : {X : Type 0} (p : X → Bool) (xs : List X) → IsNone (find p xs) → (k : ℕ) (d : X) → k < length xs → p (get_or xs k d) ≡ false
fails_where_none p [] none k d h = absurd (omega arith)
fails_where_none p (x ∷ xs) none zero d h = first_fails p x xs none
fails_where_none p (x ∷ xs) none (suc k) d h = fails_where_none p xs (rest_fails p x xs none) k d (omega arith)

pub IsTlb-filter : (p : TlbEntry → Bool) (entries : List TlbEntry) → IsTlb entries → length (filter p entries) ≤ 16 → IsTlb (filter p entries)
IsTlb-filter p entries tlb room = record {
  room = room;
  apart = AllPairs-filter Differ p entries tlb.apart;
  ppns = All-filter p HasPpn entries tlb.ppns;
}

pub IsTlb-drop : (entries : List TlbEntry) → IsTlb entries → 0 < length entries → IsTlb (drop 1 entries)
IsTlb-drop entries tlb some = record {
  room = omega (arith, length-drop 1 entries, tlb.room);
  apart = all_pairs_remove Differ entries 0 some tlb.apart;
  ppns = All-drop HasPpn 1 entries tlb.ppns;
}

differ_from : (a b : TlbEntry) → is_of b.space b.vpn a ≡ false → Differ a b
differ_from a b other = grind (arith, nat_tests)

pub IsTlb-push : (entries : List TlbEntry) (entry : TlbEntry) → IsTlb entries → length entries < 16 → HasPpn entry
    → IsNone (find (is_of entry.space entry.vpn) entries) → IsTlb (entries ++ entry ∷ [])
IsTlb-push entries entry tlb room ppn none = record {
  room = omega (arith, length_push entries entry);
  apart = all_pairs_push Differ entries entry tlb.apart (λ k d h. differ_from (get_or entries k d) entry (fails_where_none (is_of entry.space entry.vpn) entries none k d h));
  ppns = All-push HasPpn entries entry tlb.ppns ppn;
}

-- the oldest entry's going leaves no other entry in its place
pub IsNone-drop : {X : Type 0} (p : X → Bool) (xs : List X) → IsNone (find p xs) → IsNone (find p (drop 1 xs))
IsNone-drop p [] none = none
IsNone-drop p (x ∷ xs) none = rest_fails p x xs none
