-- The numbers that rules 4 to 10 let through.
use Rattle.std.proofs.Common.{◌≡◌, ℕ, pos, negsuc, ◌&&◌, nat_le, nat_lt, true, Option, Some, None, option_and_then, Ok, codes, IsTrue, subst}
use Rattle.toml.specs.Data.{Data, string, integer, float, boolean, datetime, array, table, Members, get_member}
use Rattle.pl_history.specs.Rules.{is_within, guarded_of, pages_of}
use Rattle.world_setup.specs.declared.numbers.Numbers.{Numbers}
use Rattle.world_setup.specs.TomlData.{number_in, text_at}
use Rattle.world_setup.specs.Numbers.{number_at, choice_of, numbers_of}
use Rattle.world_setup.proofs.Chains.{unless_held, some_held}
use Rattle.world_setup.proofs.Choices.{chosen, ok_same}
use Rattle.std.proofs.lemmas.Option.{same_Some}

pub record AreNumbers (n : Numbers) : Type 0 where
  pub harts : IsTrue (is_within 1 8 n.harts)
  pub zones : IsTrue (is_within 1 64 n.zones)
  pub slots : IsTrue (is_within 1 64 n.slots)
  pub tables : IsTrue (is_within 1 32 n.tables)
  pub enclaves : IsTrue (is_within 1 64 n.enclaves)
  pub pool : IsTrue (nat_lt (guarded_of n.tables n.enclaves) (pages_of n.zones))

number_lies : (low high : ℕ) (d : Option Data) (x : ℕ) → number_in low high d ≡ Some x → is_within low high x ≡ true
number_lies low high (Some (integer (pos n))) x e =
    let both = chosen (nat_le low n && nat_le n high) (Some n) x e in
    subst (λ y. is_within low high y ≡ true) (same_Some n x both.1) both.0
number_lies low high (Some (integer (negsuc n))) x e = cc
number_lies low high (Some (string s)) x e = cc
number_lies low high (Some (float f)) x e = cc
number_lies low high (Some (boolean b)) x e = cc
number_lies low high (Some (datetime t)) x e = cc
number_lies low high (Some (array ds)) x e = cc
number_lies low high (Some (table ms)) x e = cc
number_lies low high None x e = cc

pub numbers_valid : (t : Members) (n : Numbers) → numbers_of t ≡ Ok n → AreNumbers n
unfolding numbers_of
numbers_valid t n held =
    let r4 = some_held (number_at (codes "version") 1 1 t) 4 _ n held in
    let r5 = some_held (number_at (codes "harts") 1 8 t) 5 _ n r4.2 in
    let r6 = some_held (number_at (codes "zones") 1 64 t) 6 _ n r5.2 in
    let r7 = some_held (number_at (codes "slots") 1 64 t) 7 _ n r6.2 in
    let r8 = some_held (number_at (codes "tables") 1 32 t) 8 _ n r7.2 in
    let r9 = some_held (number_at (codes "enclaves") 1 64 t) 9 _ n r8.2 in
    let r10 = unless_held (nat_lt (guarded_of r8.0 r9.0) (pages_of r6.0)) 10 _ n r9.2 in
    let r11 = some_held (option_and_then choice_of (text_at (codes "choice") t)) 11 _ n r10.1 in
    let made : Numbers = record { harts = r5.0; zones = r6.0; slots = r7.0; tables = r8.0; enclaves = r9.0; choice = r11.0 } in
    subst AreNumbers (ok_same made n r11.2) (record {
      harts = number_lies 1 8 (get_member (codes "harts") t) r5.0 r5.1;
      zones = number_lies 1 64 (get_member (codes "zones") t) r6.0 r6.1;
      slots = number_lies 1 64 (get_member (codes "slots") t) r7.0 r7.1;
      tables = number_lies 1 32 (get_member (codes "tables") t) r8.0 r8.1;
      enclaves = number_lies 1 64 (get_member (codes "enclaves") t) r9.0 r9.1;
      pool = r10.0;
    })
