use Rattle.std.proofs.Common.{◌≡◌, ◌<◌, ◌/◌, ◌-◌, ◌^◌, ⊎_elim, arith}
use Rattle.std.proofs.lemmas.Bool.{eqb-true, eq-eqb}
use Rattle.rv_sv39.proofs.CanonicalBits.{ExtendsBit38-from_zeros, ExtendsBit38-from_ones, top_from_ExtendsBit38}
use Rattle.rv_sv39.proofs.address.canonical.Goals as goal

pub returns-then-top-eq0-clause-bits : goal.returns-then-top-eq0-clause-bits
returns-then-top-eq0-clause-bits c =
    (λ zeros. ExtendsBit38-from_zeros c.args.va.0 c.if-top-eq0.true, λ same. eq-eqb (c.args.va.0 / 2 ^ 38) 0 c.if-top-eq0.true)

pub returns-else-top-eq0-clause-bits : goal.returns-else-top-eq0-clause-bits
returns-else-top-eq0-clause-bits c =
    let fits : c.args.va.0 < 2 ^ 64 = omega arith in (
      λ ones. ExtendsBit38-from_ones c.args.va.0 (eqb-true (c.args.va.0 / 2 ^ 38) (2 ^ 26 - 1) ones),
      λ same. ⊎_elim (λ (zeros : c.args.va.0 / 2 ^ 38 ≡ 0). absurd (c.if-top-eq0.false zeros))
          (λ (ones : c.args.va.0 / 2 ^ 38 ≡ 2 ^ 26 - 1). eq-eqb (c.args.va.0 / 2 ^ 38) (2 ^ 26 - 1) ones)
          (top_from_ExtendsBit38 c.args.va.0 fits same),
    )
