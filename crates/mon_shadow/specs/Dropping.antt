-- The event of `drop`: why it is refused, or the shadow's pages are zeroed pages of the host, and its number is free.
use Rattle.std.specs.Prelude.{ℕ, ◌==◌, Bool, false, not, List, [], ◌∷◌, length, find, Option, Some, None, option_map}
use Rattle.std.specs.List.{range_with_len}
use Rattle.std.specs.Option.{option_map_or}
use Rattle.pl_base.specs.declared.number.EncNo.{EncNo}
use Rattle.pl_base.specs.declared.refusal.No.{No}
use Rattle.pl_base.specs.declared.refusal.No.TheVariants.{InUse, NoEnclave}
use Rattle.pl_base.specs.Refusals.{refuse, first_refusal}
use Rattle.pl_base.specs.States.{is_sealed}
use Rattle.mem_ctl.specs.Data.{CtlData}
use Rattle.mon_owner.specs.declared.owners.Owner.{Owner}
use Rattle.mon_owner.specs.declared.owners.Owner.TheVariants.{Host}
use Rattle.mon_owner.specs.Owners.{given_to}
use Rattle.mon_enclave.specs.declared.enclave.Enclave.{Enclave}
use Rattle.mon_enclave.specs.Records.{enclave_at, freed, with_enclave}
use Rattle.mon_life.specs.Destroying.{all_zeroed, held_by}

-- a number was forked from a shadow
abbrev pub is_child_of : ℕ → Enclave → Bool
is_child_of shadow enclave = option_map_or (λ (parent : EncNo). parent.0 == shadow) enclave.parent false

-- the lowest number that was forked from a shadow
abbrev pub first_child_of : List Enclave → ℕ → Option ℕ
first_child_of enclaves shadow = find (λ child. is_child_of shadow (enclave_at enclaves child)) (range_with_len 0 (length enclaves))

-- why a shadow can't be given back: it isn't sealed, or a number that was forked from it isn't given back
abbrev pub drop_refusal_of : List Enclave → ℕ → Option No
drop_refusal_of enclaves shadow = first_refusal (
    refuse (not (is_sealed (enclave_at enclaves shadow).state)) NoEnclave
    ∷ option_map (λ child. InUse (record { 0 = child })) (first_child_of enclaves shadow)
    ∷ [])

-- the refusal, where there is one, and the controller, the owners and the records after it
pub record ShadowDropped : Type 0 where
  pub refusal : Option No
  pub ctl : CtlData
  pub owners : List Owner
  pub enclaves : List Enclave

-- the number is given back; a refused line changes nothing
abbrev pub dropped_unless : Option No → CtlData → List Owner → List Enclave → ℕ → ShadowDropped
dropped_unless (Some cause) ctl owners enclaves shadow = record { refusal = Some cause; ctl = ctl; owners = owners; enclaves = enclaves }
dropped_unless None ctl owners enclaves shadow = record {
  refusal = None;
  ctl = all_zeroed ctl (held_by enclaves shadow);
  owners = given_to owners (held_by enclaves shadow) (Host 0);
  enclaves = with_enclave enclaves shadow (freed (enclave_at enclaves shadow));
}

unfoldable pub shadow_dropped : CtlData → List Owner → List Enclave → ℕ → ShadowDropped
shadow_dropped ctl owners enclaves shadow = dropped_unless (drop_refusal_of enclaves shadow) ctl owners enclaves shadow
