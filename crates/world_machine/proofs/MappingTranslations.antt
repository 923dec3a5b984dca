-- A mapping of a space and the translation that it gives an access.
use Rattle.std.proofs.Common.{◌≡◌, ℕ, eqb, Bool, true, false, cond, List, Option, Some, None, option_and_then, refl, sym, ap}
use Rattle.std.specs.Prelude.{if◌then◌else◌}
use Rattle.std.proofs.lemmas.Bool.{eqb-true}
use Rattle.pl_base.specs.Perms.{grants}
use Rattle.pl_base.specs.declared.access.Kind.{Kind}
use Rattle.pl_base.specs.declared.address.Ppn.{Ppn}
use Rattle.pl_base.specs.declared.perms.Perms.{Perms}
use Rattle.rv_sv39.specs.Walk.{Answer}
use Rattle.mon_tables.specs.Space.{Mapping, mapping_at}
use Rattle.mon_tables.specs.SpaceWalks.{let_through}
use Rattle.mon_tables.specs.Words.{ppn_of_page}
use Rattle.mon_tables.proofs.Mappings.{same_Some}
use Rattle.world_machine.proofs.WalkLemmas.{found}

-- a mapping that is found is of the page
pub mapping_vpn : (space : List Mapping) (vpn : ℕ) (m : Mapping) → mapping_at space vpn ≡ Some m → m.vpn ≡ vpn
mapping_vpn space vpn m is = eqb-true m.vpn vpn (found (λ _. Unit {0}) (λ (x : Mapping). eqb x.vpn vpn) space m (λ i d below. tt) is).1

-- what a mapping lets through is its translation
pub through : (kind : Kind) (o : Option Mapping) (ppn : Ppn) (perms : Perms) → option_and_then (let_through kind) o ≡ Some (ppn, perms)
    → (m : Mapping) × (o ≡ Some m) × (ppn.0 ≡ ppn_of_page m.page) × (perms ≡ m.perms)
through kind None ppn perms is = cc
through kind (Some m) ppn perms is = by_test (grants m.perms kind) is
  where
    by_test : (g : Bool) → cond {A = Answer} g (Some (record { 0 = ppn_of_page m.page }, m.perms)) None ≡ Some (ppn, perms) → (x : Mapping) × (Some m ≡ Some x) × (ppn.0 ≡ ppn_of_page x.page) × (perms ≡ x.perms)
    by_test true here =
        let now : Ppn × Perms = (record { 0 = ppn_of_page m.page }, m.perms) in
        let same : now ≡ (ppn, perms) = same_Some now (ppn, perms) here in
        (m, refl, ap (λ (p : Ppn × Perms). p.0.0) (sym same), ap (λ (p : Ppn × Perms). p.1) (sym same))
    by_test false here = cc

-- the page of a mapping, where this lets an access of a kind through
abbrev pub page_granted : Kind → Option Mapping → Option ℕ
page_granted kind None = None
page_granted kind (Some m) = if grants m.perms kind then Some m.page else None

-- nothing is let through
pub none_granted : (kind : Kind) (o : Option Mapping) → option_and_then (let_through kind) o ≡ None → page_granted kind o ≡ None
none_granted kind None is = refl
none_granted kind (Some m) is = by_test (grants m.perms kind) is
  where
    by_test : (g : Bool) → cond {A = Answer} g (Some (record { 0 = ppn_of_page m.page }, m.perms)) None ≡ None → cond g (Some m.page) None ≡ None
    by_test true is = cc
    by_test false is = refl
