use Rattle.std.proofs.Common.{◌+◌, ◌&&◌, get_or, drop, sym, ap, ◌∙◌, arith}
use Rattle.std.proofs.lemmas.Bool.Decides.{nat_tests}
use Rattle.std.proofs.lemmas.Grind.{common_steps}
use Rattle.std.proofs.lemmas.List.{at_drop_more}
use Rattle.pl_base.specs.declared.access.Kind.TheVariants.{Load}
use Rattle.rv_pmp.proofs.Deciding.{barred_by}
use Rattle.rv_pmp.specs.Pmp.{permits_after}
use Rattle.rv_pmp.specs.Rule.{perms_of, grants_each}
use Rattle.pl_base.specs.Span.{span, overlaps, covers}
use Rattle.rv_pmp.specs.declared.rule.Rule.{Rule}
use Rattle.pl_base.specs.declared.span.Span.{Span}
use Rattle.rv_pmp.proofs.decision.open_until.Goals as goal

pub returns-then-overlaps-clause-barred : goal.returns-then-overlaps-clause-barred
returns-then-overlaps-clause-barred c = λ each.
    let rules = c.args.rules.now in
    let i = c.loop-rule.rule-index in
    let piece = span c.args.at (c.args.at + 8) in
    let none : Rule = record { cfg = 0; addr = 0 } in
    let rule : Rule = get_or rules i none in
    barred_by c.loop-rule.before rule (drop (i + 1) rules) piece
    (ap (λ (s : Span). overlaps s piece) (sym c.span-span.ensures) ∙ sym c.overlaps.ensures ∙ c.if-overlaps.true)
    (ap (λ (s : Span). covers s piece && grants_each (perms_of rule)) (sym c.span-span.ensures) ∙ sym c.opens.ensures ∙ c.if-opens.false)
    (λ kind. sym (at_drop_more (λ xs. permits_after c.loop-rule.before xs piece kind) rules i none c.loop-rule-test.true)
    ∙ c.loop-rule.invariant.decision piece kind (omega arith) (grind (arith, nat_tests)) ∙ each kind)

pub returns-clause-barred : goal.returns-clause-barred
returns-clause-barred c = λ each.
    let passes = each Load in
    let same = c.loop-rule.invariant.decision (span c.args.at (c.args.at + 8)) Load (omega arith) in
    grind (arith, common_steps)
