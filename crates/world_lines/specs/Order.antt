-- The order of the first turns.
use Rattle.std.specs.Prelude.{ℕ, ◌+◌, ◌==◌, ◌&&◌, nat_lt, List, [], ◌∷◌, ◌++◌, length, Option, Some, None, option_map, if◌then◌else◌, Result, Ok, Err}
use Rattle.std.specs.Option.{option_map_or}
use Rattle.pl_base.specs.declared.number.HartNo.{HartNo}
use Rattle.pl_base.specs.declared.actor.Actor.{Actor}
use Rattle.pl_base.specs.declared.actor.Actor.TheVariants.{Hart, Ack, Attacker}
use Rattle.pl_io.specs.Numbers.{dec_value}
use Rattle.world_lines.specs.Words.{words_of}

abbrev pub hart_below : ℕ → Option ℕ → Option HartNo
hart_below harts None = None
hart_below harts (Some n) = if nat_lt n harts then Some (record { 0 = n }) else None

-- `hN`, `aN` or `x`: a hart, a hart that acknowledges, or the attacker
abbrev pub actor_of : ℕ → List ℕ → Option Actor
actor_of harts [] = None
actor_of harts (letter ∷ rest) =
    if letter == 104 then option_map (λ h. Hart h) (hart_below harts (dec_value rest))
    else if letter == 97 then option_map (λ h. Ack h) (hart_below harts (dec_value rest))
    else if letter == 120 && length rest == 0 then Some Attacker
    else None

-- some actors before others
abbrev pub actors_then : List Actor → Result (List Actor) ℕ → Result (List Actor) ℕ
actors_then actors (Ok others) = Ok (actors ++ others)
actors_then actors (Err at) = Err at

-- the actors of the words from position `at` on, or the position of the first bad word; the word at 100,000 is bad
abbrev pub actors_from : ℕ → ℕ → List (List ℕ) → Result (List Actor) ℕ
actors_from harts at [] = Ok []
actors_from harts at (word ∷ words) =
    if nat_lt at 100000 then option_map_or (λ actor. actors_then (actor ∷ []) (actors_from harts (at + 1) words)) (actor_of harts word) (Err at) else Err at

-- the empty text has no words
unfoldable pub order_of : ℕ → List ℕ → Result (List Actor) ℕ
order_of harts text = if length text == 0 then Ok [] else actors_from harts 0 (words_of text)
