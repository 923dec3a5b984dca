use Rattle.std.proofs.Common.{◌≡◌, ap, sym, ◌∙◌, subst}
use Rattle.std.specs.Fn.{FnReturnsAt}
use Rattle.sha2.specs.Sha256.{sha256}
use Rattle.pl_history.specs.declared.setup.ChoiceName.TheVariants as choice_is
use Rattle.pl_history.specs.declared.setup.SetupParts.{SetupParts}
use Rattle.penglai_main.specs.declared.solo.Printed.TheVariants as printed_is
use Rattle.penglai_main.specs.Ends.{Ends, ends}
use Rattle.penglai_main.specs.Play.{RunEnds}
use Rattle.penglai_main.specs.Top.{choice_gives}
use Rattle.penglai_main.specs.Unread.{Obtains}
use Rattle.penglai_main.proofs.TopLemmas.{declined, explained}
use Rattle.penglai_main.proofs.top.solo.Goals as goal

pub returns-in-Err-clause-explains : goal.returns-in-Err-clause-explains
returns-in-Err-clause-explains g c =
    let source : Ends = ends g.S.Source.left g.S.Source.faults c.args.source.now c.setup_from.new.source in
    let sink : Ends = ends g.K.Sink.written g.K.Sink.faults c.args.sink.now c.decline.new.sink in
    declined (choice_gives (FnReturnsAt g.F.Fn c.args.oldest) (FnReturnsAt g.O.Fn c.args.least)) source sink c.in-Err.unread c.decline.result
    (subst (λ r. Obtains source r) c.in-Err.is c.setup_from.ensures.obtains) c.decline.ensures

pub returns-in-Oldest-clause-explains : goal.returns-in-Oldest-clause-explains
returns-in-Oldest-clause-explains g c =
    let source : Ends = ends g.S.Source.left g.S.Source.faults c.args.source.now c.setup_from.new.source in
    let sink : Ends = ends g.K.Sink.written g.K.Sink.faults c.args.sink.now c.solo_with.new.sink in
    let setup : SetupParts = c.in-Ok.setup in
    let named : setup.choice ≡ choice_is.Oldest = sym (ap (λ (p : SetupParts). p.choice) c.parts.ensures.parts) ∙ c.in-Oldest.is in
    explained (choice_gives (FnReturnsAt g.F.Fn c.args.oldest) (FnReturnsAt g.O.Fn c.args.least)) source sink setup c.solo_with.result
    (subst (λ r. Obtains source r) c.in-Ok.is c.setup_from.ensures.obtains)
    (subst (λ n. RunEnds sha256 (choice_gives (FnReturnsAt g.F.Fn c.args.oldest) (FnReturnsAt g.O.Fn c.args.least) n) setup printed_is.History sink c.solo_with.result) (sym named) c.solo_with.ensures.ends)

pub returns-in-Least-clause-explains : goal.returns-in-Least-clause-explains
returns-in-Least-clause-explains g c =
    let source : Ends = ends g.S.Source.left g.S.Source.faults c.args.source.now c.setup_from.new.source in
    let sink : Ends = ends g.K.Sink.written g.K.Sink.faults c.args.sink.now c.solo_with-in-Least.new.sink in
    let setup : SetupParts = c.in-Ok.setup in
    let named : setup.choice ≡ choice_is.Least = sym (ap (λ (p : SetupParts). p.choice) c.parts.ensures.parts) ∙ c.in-Least.is in
    explained (choice_gives (FnReturnsAt g.F.Fn c.args.oldest) (FnReturnsAt g.O.Fn c.args.least)) source sink setup c.solo_with-in-Least.result
    (subst (λ r. Obtains source r) c.in-Ok.is c.setup_from.ensures.obtains)
    (subst (λ n. RunEnds sha256 (choice_gives (FnReturnsAt g.F.Fn c.args.oldest) (FnReturnsAt g.O.Fn c.args.least) n) setup printed_is.History sink c.solo_with-in-Least.result) (sym named) c.solo_with-in-Least.ensures.ends)
