-- The actors of an order are there, and at most 100,000.
use Rattle.std.proofs.Common.{◌≡◌, ℕ, ◌+◌, ◌==◌, ◌&&◌, ◌≤◌, nat_lt, nat_le, Bool, true, false, List, [], ◌∷◌, length, Option, Some, None, if◌then◌else◌, Result, Ok, Err, refl, subst, arith}
use Rattle.std.specs.List.{list_all}
use Rattle.std.specs.Option.{option_map_or}
use Rattle.std.proofs.lemmas.Bool.Decides.{nat_tests}
use Rattle.pl_base.specs.declared.number.HartNo.{HartNo}
use Rattle.pl_base.specs.declared.actor.Actor.{Actor}
use Rattle.pl_base.specs.declared.actor.Actor.TheVariants.{Hart, Ack, Attacker}
use Rattle.pl_io.specs.Numbers.{dec_value}
use Rattle.pl_history.specs.Rules.{is_actor}
use Rattle.world_lines.specs.Words.{words_of}
use Rattle.world_lines.specs.Order.{hart_below, actor_of, actors_then, actors_from, order_of}
use Rattle.world_lines.proofs.Passes.{Passes, none_passes, some_passes, if_passes, guarded_passes, map_passes}

hart_passes : (harts : ℕ) (o : Option ℕ) → Passes (λ (h : HartNo). nat_lt h.0 harts) (hart_below harts o)
hart_passes harts None = none_passes (λ (h : HartNo). nat_lt h.0 harts)
hart_passes harts (Some n) =
    guarded_passes (λ (h : HartNo). nat_lt h.0 harts) (nat_lt n harts) (Some (record { 0 = n })) (λ below. some_passes (λ (h : HartNo). nat_lt h.0 harts) (record { 0 = n }) below)

actor_passes : (harts : ℕ) (word : List ℕ) → Passes (is_actor harts) (actor_of harts word)
actor_passes harts [] = none_passes (is_actor harts)
actor_passes harts (letter ∷ rest) =
    if_passes (is_actor harts) (letter == 104) _ _ (map_passes (is_actor harts) (λ h. Hart h) (hart_below harts (dec_value rest)) (hart_passes harts (dec_value rest)))
    (if_passes (is_actor harts) (letter == 97) _ _ (map_passes (is_actor harts) (λ h. Ack h) (hart_below harts (dec_value rest)) (hart_passes harts (dec_value rest)))
    (if_passes (is_actor harts) (letter == 120 && length rest == 0) _ _ (some_passes (is_actor harts) Attacker refl) (none_passes (is_actor harts))))

-- the actors from a position on
record AreActors (harts at : ℕ) (actors : List Actor) : Type 0 where
  few : at + length actors ≤ 100000
  known : list_all (is_actor harts) actors ≡ true

same_actors : (x y : List Actor) (r : Result (List Actor) ℕ) → r ≡ Ok x → r ≡ Ok y → x ≡ y
same_actors x y r first second = cc

one_more : (harts at : ℕ) (actor : Actor) (later : Result (List Actor) ℕ) (actors : List Actor) → is_actor harts actor ≡ true → ((rest : List Actor) → later ≡ Ok rest → AreActors harts (at + 1) rest)
    → actors_then (actor ∷ []) later ≡ Ok actors → AreActors harts at actors
one_more harts at actor (Err place) actors known inside is = cc
one_more harts at actor (Ok rest) actors known inside is =
    let there = inside rest refl in
    subst (AreActors harts at) (same_actors (actor ∷ rest) actors (Ok (actor ∷ rest)) refl is) (record { few = omega (arith, there.few); known = rw (known, there.known) refl })

some_word : (harts at : ℕ) (found : Option Actor) (later : Result (List Actor) ℕ) (actors : List Actor) → Passes (is_actor harts) found
    → ((rest : List Actor) → later ≡ Ok rest → AreActors harts (at + 1) rest) → option_map_or (λ actor. actors_then (actor ∷ []) later) found (Err at) ≡ Ok actors → AreActors harts at actors
some_word harts at None later actors pass inside is = cc
some_word harts at (Some actor) later actors pass inside is = one_more harts at actor later actors (pass actor refl) inside is

below_end : (harts at : ℕ) (test : Bool) (this : Result (List Actor) ℕ) (actors : List Actor) → (test ≡ true → this ≡ Ok actors → AreActors harts at actors)
    → (if test then this else Err at) ≡ Ok actors → AreActors harts at actors
below_end harts at true this actors inside is = inside refl is
below_end harts at false this actors inside is = cc

still_few : (at : ℕ) → nat_lt at 100000 ≡ true → at + 1 ≤ 100000
still_few at test = grind (arith, nat_tests)

are_actors : (harts at : ℕ) (words : List (List ℕ)) (actors : List Actor) → at ≤ 100000 → actors_from harts at words ≡ Ok actors → AreActors harts at actors
are_actors harts at [] actors few is = subst (AreActors harts at) (same_actors [] actors (Ok []) refl is) (record { few = omega arith; known = refl })
are_actors harts at (word ∷ words) actors few is =
    below_end harts at (nat_lt at 100000) (option_map_or (λ actor. actors_then (actor ∷ []) (actors_from harts (at + 1) words)) (actor_of harts word) (Err at)) actors (λ below found.
    some_word harts at (actor_of harts word) (actors_from harts (at + 1) words) actors (actor_passes harts word)
    (λ rest later. are_actors harts (at + 1) words rest (still_few at below) later) found) is

as_test : (harts : ℕ) (actors : List Actor) → AreActors harts 0 actors → nat_le (length actors) 100000 && list_all (is_actor harts) actors ≡ true
as_test harts actors are = rw (few_test (length actors) are.few, are.known) refl
  where
    few_test : (n : ℕ) → 0 + n ≤ 100000 → nat_le n 100000 ≡ true
    few_test n few = grind (arith, nat_tests)

by_length : (harts : ℕ) (test : Bool) (words : List (List ℕ)) (actors : List Actor) → (if test then Ok [] else actors_from harts 0 words) ≡ Ok actors → AreActors harts 0 actors
by_length harts true words actors is = subst (AreActors harts 0) (same_actors [] actors (Ok []) refl is) (record { few = omega arith; known = refl })
by_length harts false words actors is = are_actors harts 0 words actors (omega arith) is

pub order_is_known : (harts : ℕ) (text : List ℕ) (actors : List Actor) → order_of harts text ≡ Ok actors → nat_le (length actors) 100000 && list_all (is_actor harts) actors ≡ true
unfolding order_of
order_is_known harts text actors is = as_test harts actors (by_length harts (length text == 0) (words_of text) actors is)
