-- What a number has sent out when a run last left it: its image comes so far alone, and a word that is sent to it later changes nothing.
use Rattle.std.proofs.Common.{◌≡◌, ℕ, zero, suc, ◌+◌, ◌-◌, ◌≤◌, List, [], ◌∷◌, ◌++◌, Option, Some, None, option_map, refl, sym, ap, ◌∙◌, arith, slice_get}
use Rattle.std.specs.Option.{option_map_or}
use Rattle.std.specs.Prelude.{option_and_then}
use Rattle.pl_base.specs.declared.state.State.{State}
use Rattle.pl_base.specs.declared.state.State.TheVariants as state_is
use Rattle.rv_alone.specs.Alone.{alone, advance_by}
use Rattle.rv_alone.specs.Flat.{Flat, Image as FlatImage}
use Rattle.rv_alone.proofs.Later.{sent_later}
use Rattle.mon_image.specs.declared.image.Image.{Image}
use Rattle.pl_history.specs.declared.setup.SetupParts.{SetupParts}
use Rattle.pl_history.specs.Monitor.{Number, flat_image}
use Rattle.pl_history.specs.Words.{sent_out}
use Rattle.world_machine.specs.RecordsAgree.{RetiredAgrees}

-- a run alone that comes so far came through every state before
pub record ComesTo (image : FlatImage) (sent : List ℕ) (n : ℕ) : Type 0 where
  pub state : Flat
  pub is : alone image sent n ≡ Some state

before : (image : FlatImage) (sent : List ℕ) (o : Option Flat) (a : Flat) → option_and_then (λ x. advance_by x.status x sent) o ≡ Some a → (b : Flat) × (o ≡ Some b)
before image sent None a is = absurd (let h : None ≡ Some a = is in cc)
before image sent (Some b) a is = (b, refl)

one_before : (image : FlatImage) (sent : List ℕ) (n : ℕ) (a : Flat) → alone image sent (suc n) ≡ Some a → ComesTo image sent n
unfolding alone
one_before image sent n a is = let b = before image sent (alone image sent n) a is in record { state = b.0; is = b.1 }

comes_before : (image : FlatImage) (sent : List ℕ) (n more : ℕ) (a : Flat) → alone image sent (more + n) ≡ Some a → ComesTo image sent n
comes_before image sent n zero a is = record { state = a; is = ap (alone image sent) (let h : n ≡ 0 + n = omega arith in h) ∙ is }
comes_before image sent n (suc more) a is =
    let b = one_before image sent (more + n) a (ap (alone image sent) (let h : suc (more + n) ≡ suc more + n = omega arith in h) ∙ is) in
    comes_before image sent n more b.state b.is

pub comes_earlier : (image : FlatImage) (sent : List ℕ) (n later : ℕ) (a : Flat) → n ≤ later → alone image sent later ≡ Some a → ComesTo image sent n
comes_earlier image sent n later a few is = comes_before image sent n (later - n) a (ap (alone image sent) (let h : (later - n) + n ≡ later = omega arith in h) ∙ is)

-- a number's count in the monitor isn't past that of its record
pub retired_few : (state : State) (retired n : ℕ) → RetiredAgrees state retired n → n ≤ retired
retired_few state_is.Free retired n is = let h : retired ≡ n = is in omega arith
retired_few state_is.Building retired n is = let h : retired ≡ n = is in omega arith
retired_few state_is.Fresh retired n is = let h : retired ≡ n = is in omega arith
retired_few state_is.On retired n is = is
retired_few state_is.Paused retired n is = let h : retired ≡ n = is in omega arith
retired_few state_is.Ended retired n is = let h : retired ≡ n = is in omega arith
retired_few state_is.Trapped retired n is = let h : retired ≡ n = is in omega arith
retired_few state_is.Faulted retired n is = let h : retired ≡ n = is in omega arith
retired_few state_is.Dying retired n is = let h : retired ≡ n = is in omega arith
retired_few state_is.Sealed retired n is = let h : retired ≡ n = is in omega arith

-- the words sent out by a number whose image is this one
pub sent_out_by : (setup : SetupParts) (n : Number) (image : Image) (a : Flat) → slice_get setup.images n.image ≡ Some image → alone (flat_image image) n.sent n.retired ≡ Some a
    → sent_out setup n ≡ a.out
sent_out_by setup n image a image_is is =
    ap (λ o. option_map_or (λ (x : Flat). x.out) (option_and_then (λ i. alone i n.sent n.retired) (option_map flat_image o)) []) image_is
    ∙ ap (λ o. option_map_or (λ (x : Flat). x.out) o []) is

-- a word that is sent to it changes none of them
pub sent_out_later : (setup : SetupParts) (n : Number) (image : Image) (word : ℕ) → slice_get setup.images n.image ≡ Some image → ComesTo (flat_image image) n.sent n.retired
    → sent_out setup (record n { sent = n.sent ++ word ∷ [] }) ≡ sent_out setup n
sent_out_later setup n image word image_is c =
    sent_out_by setup (record n { sent = n.sent ++ word ∷ [] }) image c.state image_is (sent_later (flat_image image) n.sent (word ∷ []) n.retired c.state c.is)
    ∙ sym (sent_out_by setup n image c.state image_is c.is)
