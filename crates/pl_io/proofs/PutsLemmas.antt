-- Texts written one after the other.
use Rattle.std.proofs.Common.{◌≡◌, ℕ, ◌+◌, ◌<◌, ◌≤◌, true, false, is_err, List, [], ◌∷◌, ◌++◌, length, take, drop, get_or, append_assoc, Option, Result, Ok, Err, sym, ap, ◌∙◌, subst, arith, length-append}
use Rattle.std.proofs.lemmas.List.{take-append-le, take-append-drop, drop_more}
use Rattle.std.proofs.lemmas.List.Concat.{flat_map-append}
use Rattle.std.specs.List.{flat_map}
use Rattle.std.proofs.Math.Seq.{take-append-add}
use Rattle.std.specs.Io.KnownBytes.{Appends}
use Rattle.std.proofs.KnownBytes.{Appends-nil, Appends-trans}
use Rattle.pl_io.specs.Bytes.{AppendsPrefix}
use Rattle.pl_io.specs.Puts.{Puts}

-- the later text failed
pub prefix_after : (a b c : Option (List ℕ)) (t u : List ℕ) → Appends a b t → AppendsPrefix b c u → AppendsPrefix a c (t ++ u)
prefix_after a b c t u whole part =
    let both : Appends a c (t ++ take part.0 u) = Appends-trans a b c t (take part.0 u) whole part.2 in
    (length t + part.0, omega (arith, length-append t u, part.1), subst (Appends a c) (sym (take-append-add t u part.0)) both)

-- the earlier text failed
pub prefix_before : (a b : Option (List ℕ)) (t u : List ℕ) → AppendsPrefix a b t → AppendsPrefix a b (t ++ u)
prefix_before a b t u part = (part.0, omega (arith, length-append t u, part.1), subst (Appends a b) (sym (take-append-le part.0 t u part.1)) part.2)

module _ {T E : Type 0} where
  -- nothing was written yet
  pub puts_none : (a : Option (List ℕ)) (before now : ℕ) (x : T) → before ≤ now → Puts {T = T} {E = E} a a before now [] (Ok x)
  puts_none a before now x later = record { whole = Appends-nil a; part = tt; cause = record { later = later; failed = tt } }

  -- the text so far, and the next
  pub puts_ok : (a b c : Option (List ℕ)) (f g h : ℕ) (t u : List ℕ) (x y z : T) → Puts {E = E} a b f g t (Ok x) → Puts {E = E} b c g h u (Ok y) → Puts {E = E} a c f h (t ++ u) (Ok z)
  puts_ok a b c f g h t u x y z p q = record { whole = Appends-trans a b c t u p.whole q.whole; part = tt; cause = record { later = omega (arith, p.cause.later, q.cause.later); failed = tt } }

  pub puts_err : (a b c : Option (List ℕ)) (f g h : ℕ) (t u : List ℕ) (x : T) (e d : E) → Puts {E = E} a b f g t (Ok x) → Puts {T = T} b c g h u (Err e) → Puts {T = T} a c f h (t ++ u) (Err d)
  puts_err a b c f g h t u x e d p q = record {
    whole = tt;
    part = prefix_after a b c t u p.whole q.part;
    cause = record { later = omega (arith, p.cause.later, q.cause.later); failed = omega (arith, p.cause.later, q.cause.failed) };
  }

  -- a failure in the middle of a text
  pub puts_cut : (a b : Option (List ℕ)) (f g : ℕ) (t u : List ℕ) (e : E) → Puts {T = T} a b f g t (Err e) → Puts {T = T} a b f g (t ++ u) (Err e)
  puts_cut a b f g t u e p = record { whole = tt; part = prefix_before a b t u p.part; cause = p.cause }

module _ {T E : Type 0} where
  -- a text and then another, whichever way the other went
  pub puts_then : (a b c : Option (List ℕ)) (f g h : ℕ) (t u : List ℕ) (x : T) (r : Result T E) → Puts {E = E} a b f g t (Ok x) → Puts b c g h u r → Puts a c f h (t ++ u) r
  puts_then a b c f g h t u x (Ok y) p q = puts_ok a b c f g h t u x y y p q
  puts_then a b c f g h t u x (Err e) p q = puts_err a b c f g h t u x e e p q

  -- the first text didn't fail
  pub puts_second : (a b c : Option (List ℕ)) (f g h : ℕ) (t u : List ℕ) (first r : Result T E) → Puts a b f g t first → is_err first ≡ false → Puts b c g h u r → Puts a c f h (t ++ u) r
  puts_second a b c f g h t u (Ok x) r p passed q = puts_then a b c f g h t u x r p q
  puts_second a b c f g h t u (Err d) r p passed q = cc

  -- the first text failed
  pub puts_first_failed : (a b : Option (List ℕ)) (f g : ℕ) (t u : List ℕ) (e : E) (r : Result T E) → Puts a b f g t r → is_err r ≡ true → Puts {T = T} a b f g (t ++ u) (Err e)
  puts_first_failed a b f g t u e (Ok y) p failed = cc
  puts_first_failed a b f g t u e (Err d) p failed = record { whole = tt; part = prefix_before a b t u p.part; cause = record { later = p.cause.later; failed = p.cause.failed } }

module _ {X : Type 0} (text_of : X → List ℕ) where
  whole_text : (xs : List X) (i : ℕ) (d : X) → i < length xs → flat_map text_of xs ≡ (flat_map text_of (take i xs) ++ text_of (get_or xs i d)) ++ flat_map text_of (drop (i + 1) xs)
  whole_text xs i d below =
      ap (flat_map text_of) (sym (take-append-drop i xs) ∙ ap (λ ys. take i xs ++ ys) (drop_more xs i d below))
      ∙ flat_map-append text_of (take i xs) (get_or xs i d ∷ drop (i + 1) xs)
      ∙ sym (append_assoc (flat_map text_of (take i xs)) (text_of (get_or xs i d)) (flat_map text_of (drop (i + 1) xs)))

  -- a loop that writes a list's texts stops at the first that fails
  pub puts_stopped : {T E : Type 0} (a b c : Option (List ℕ)) (f g h : ℕ) (xs : List X) (i : ℕ) (d : X) (x : T) (e : E) (r : Result T E) → i < length xs → Puts {E = E} a b f g (flat_map text_of (take i xs)) (Ok x)
      → Puts b c g h (text_of (get_or xs i d)) r → is_err r ≡ true → Puts {T = T} a c f h (flat_map text_of xs) (Err e)
  puts_stopped a b c f g h xs i d x e (Ok y) below so_far this failed = cc
  puts_stopped {T = T} a b c f g h xs i d x e (Err y) below so_far this failed =
      rw (whole_text xs i d below) (puts_cut a c f h (flat_map text_of (take i xs) ++ text_of (get_or xs i d)) (flat_map text_of (drop (i + 1) xs)) e
      (puts_err a b c f g h (flat_map text_of (take i xs)) (text_of (get_or xs i d)) x y e so_far this))
