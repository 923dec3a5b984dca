-- A run of an image alone goes on by one instruction.
use Rattle.std.proofs.Common.{◌≡◌, ℕ, ◌+◌, List, Some, option_and_then, refl, ap, ◌∙◌, add-one}
use Rattle.rv_alone.specs.Flat.{Image, Flat, Status, start_of, on}
use Rattle.rv_alone.specs.Alone.{one, next, next_of, advance_by, alone}

pub alone_none : (image : Image) (sent : List ℕ) → alone image sent 0 ≡ Some (start_of image)
unfolding alone
alone_none image sent = refl

pub alone_more : (image : Image) (sent : List ℕ) (n : ℕ) (a b : Flat) → alone image sent n ≡ Some a → a.status ≡ on → one a sent ≡ next b → alone image sent (n + 1) ≡ Some b
unfolding alone
alone_more image sent n a b so_far is_on step =
    rw add-one
    (ap (option_and_then (λ (x : Flat). advance_by x.status x sent)) so_far ∙ ap (λ (s : Status). advance_by s a sent) is_on ∙ ap next_of step)
