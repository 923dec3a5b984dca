use Rattle.std.proofs.Common.{◌≡◌, ◌*◌, [], ap, subst, sym, ◌∙◌, arith}
use Rattle.std.proofs.lemmas.List.Elements.{All-nil}
use Rattle.mem_ctl.specs.Start.{HasWords}
use Rattle.mon_tables.specs.Tables.{start_words}
use Rattle.mon_tests.proofs.host_tests.start.Goals as goal

pub returns-clause-leaves : goal.returns-clause-leaves
returns-clause-leaves g c =
    let ctl = c.in_ok-ctl.ctl in
    let one : ctl.0.zones ≡ 1 = ap (λ x. x.0.zones) c.in_ok-ctl.ensures.start in
    let words : HasWords (64 * ctl.0.zones) (start_words 1) ctl.0.mirror =
    subst (λ n. HasWords (64 * n) (start_words 1) ctl.0.mirror) (sym one) (subst (λ ws. HasWords 64 ws ctl.0.mirror) (c.as_slice.ensures.value ∙ c.start_words-words.ensures.list) c.in_ok-ctl.ensures.words) in
    c.spaces_have_leaves.ensures 1 ctl.0 [] (omega arith) (All-nil _) (c.starts_in_empty_space.ensures 1 ctl.0 (omega arith) (omega arith) words)
