use Rattle.std.proofs.Common.{◌≡◌, ◌++◌, ◌∷◌, ℕ, List, [], length, length-append, ap, sym, ◌∙◌, arith}
use Rattle.mon_enclave.specs.Records.{page_if_own}
use Rattle.mon_enclave.specs.declared.enclave.PageKind.TheVariants.{Own}
use Rattle.mon_life.proofs.HeldLemmas.{one_more, no_more}
use Rattle.mon_life.proofs.destroying.own_pages.Goals.{in-Own, in-Shared}
use Rattle.mon_life.proofs.destroying.own_pages.Goals as goal

pub loop-kind-preserved : goal.loop-kind-preserved
loop-kind-preserved c =
    let before : List ℕ = c.loop-kind.pages.items in
    elim c.match-kind.branch [
      | in-Own w ↦
          let last : List ℕ = w.in-Own.page ∷ [] in
          let now : c.match-kind.pages.items ≡ before ++ last = ap (λ v. v.items) w.pages-is ∙ w.push.ensures.items in (
            now ∙ ap (λ l. l ++ last) c.loop-kind.invariant.0
                ∙ sym (one_more c.args.kinds.now c.loop-kind.kind-index (Own 0) c.loop-kind-test.true w.in-Own.page (ap page_if_own w.in-Own.is)),
            omega (arith, ap length now, length-append before last, c.loop-kind.invariant.1),
          )
      | in-Shared w ↦
          let now : c.match-kind.pages.items ≡ before = ap (λ v. v.items) w.pages-is in (
            now ∙ c.loop-kind.invariant.0 ∙ sym (no_more c.args.kinds.now c.loop-kind.kind-index (Own 0) c.loop-kind-test.true (ap page_if_own w.in-Shared.is)),
            omega (arith, ap length now, c.loop-kind.invariant.1),
          )
    ]
