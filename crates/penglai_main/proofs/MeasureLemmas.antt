-- The lines of images one after the other.
use Rattle.std.proofs.Common.{◌≡◌, ℕ, ◌+◌, ◌<◌, true, false, is_err, List, [], ◌∷◌, ◌++◌, length, take, drop, get_or, append_assoc, append-nil, Option, Result, Ok, Err, sym, ap, ◌∙◌, subst, arith}
use Rattle.std.proofs.lemmas.List.{take-append-drop, take_more, drop_more, length-take-le}
use Rattle.pl_io.specs.Puts.{Puts}
use Rattle.pl_io.proofs.PutsLemmas.{puts_ok, puts_err, puts_cut}
use Rattle.mon_image.specs.declared.image.Image.{Image}
use Rattle.penglai_main.specs.Measure.{image_text, measurements_from, measurements_text}

from_append : (n : ℕ) (xs ys : List Image) → measurements_from n (xs ++ ys) ≡ measurements_from n xs ++ measurements_from (n + length xs) ys
from_append n [] ys = ap (λ m. measurements_from m ys) (omega arith)
from_append n (x ∷ xs) ys =
    let at : (n + 1) + length xs ≡ n + length (x ∷ xs) = omega arith in
    ap (λ rest. image_text n x ++ rest) (from_append (n + 1) xs ys ∙ ap (λ m. measurements_from (n + 1) xs ++ measurements_from m ys) at)
    ∙ sym (append_assoc (image_text n x) (measurements_from (n + 1) xs) (measurements_from (n + length (x ∷ xs)) ys))

-- the lines of the images before a place, and of those from it on
split_at : (xs : List Image) (i : ℕ) (ys : List Image) → i < length xs → measurements_text (take i xs ++ ys) ≡ measurements_text (take i xs) ++ measurements_from i ys
split_at xs i ys below =
    let at : 0 + length (take i xs) ≡ i = omega (arith, length-take-le i xs (omega arith)) in
    from_append 0 (take i xs) ys ∙ ap (λ m. measurements_text (take i xs) ++ measurements_from m ys) at

one_more : (xs : List Image) (i : ℕ) (image : Image) → i < length xs → image ≡ get_or xs i image → measurements_text (take (i + 1) xs) ≡ measurements_text (take i xs) ++ image_text i image
one_more xs i image below is =
    ap measurements_text (take_more xs i image below)
    ∙ ap (λ x. measurements_text (take i xs ++ x ∷ [])) (sym is)
    ∙ split_at xs i (image ∷ []) below
    ∙ ap (λ text. measurements_text (take i xs) ++ text) (append-nil (image_text i image))

-- the lines before an image, its own, and those after it
whole_text : (xs : List Image) (i : ℕ) (image : Image) → i < length xs → image ≡ get_or xs i image
    → measurements_text xs ≡ (measurements_text (take i xs) ++ image_text i image) ++ measurements_from (i + 1) (drop (i + 1) xs)
whole_text xs i image below is =
    ap measurements_text (sym (take-append-drop i xs) ∙ ap (λ ys. take i xs ++ ys) (drop_more xs i image below))
    ∙ ap (λ x. measurements_text (take i xs ++ x ∷ drop (i + 1) xs)) (sym is)
    ∙ split_at xs i (image ∷ drop (i + 1) xs) below
    ∙ sym (append_assoc (measurements_text (take i xs)) (image_text i image) (measurements_from (i + 1) (drop (i + 1) xs)))

module _ {T E : Type 0} where
  -- the line of the next image was written
  pub went_on : (a b c : Option (List ℕ)) (f g h : ℕ) (xs : List Image) (i : ℕ) (image : Image) (x : T) (r : Result T E) → i < length xs → image ≡ get_or xs i image
      → Puts {E = E} a b f g (measurements_text (take i xs)) (Ok x) → Puts b c g h (image_text i image) r → is_err r ≡ false → Puts {E = E} a c f h (measurements_text (take (i + 1) xs)) (Ok x)
  went_on a b c f g h xs i image x (Ok y) below is so_far this passed =
      let P : List ℕ → Type 0 = λ text. Puts {T = T} {E = E} a c f h text (Ok x) in
      subst P (sym (one_more xs i image below is)) (puts_ok a b c f g h (measurements_text (take i xs)) (image_text i image) x y x so_far this)
  went_on a b c f g h xs i image x (Err y) below is so_far this passed = cc

  -- the line of the next image failed
  pub stopped : (a b c : Option (List ℕ)) (f g h : ℕ) (xs : List Image) (i : ℕ) (image : Image) (x : T) (e : E) (r : Result T E) → i < length xs → image ≡ get_or xs i image
      → Puts {E = E} a b f g (measurements_text (take i xs)) (Ok x) → Puts b c g h (image_text i image) r → is_err r ≡ true → Puts {T = T} a c f h (measurements_text xs) (Err e)
  stopped a b c f g h xs i image x e (Ok y) below is so_far this failed = cc
  stopped a b c f g h xs i image x e (Err y) below is so_far this failed =
      let P : List ℕ → Type 0 = λ text. Puts {T = T} {E = E} a c f h text (Err e) in
      subst P (sym (whole_text xs i image below is))
      (puts_cut a c f h (measurements_text (take i xs) ++ image_text i image) (measurements_from (i + 1) (drop (i + 1) xs)) e
      (puts_err a b c f g h (measurements_text (take i xs)) (image_text i image) x y e so_far this))
