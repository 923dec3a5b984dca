use Rattle.std.proofs.Common.{◌≡◌, ℕ, ◌-◌, ◌*◌, ◌∙◌, List, length, arith, ap, subst, sym}
use Rattle.pl_base.specs.Bytes.{bytes_at}
use Rattle.mem_tree.proofs.Differences.{same-bytes_eq}
use Rattle.mem_ctl.specs.Known.{AreNodesOver}
use Rattle.mem_ctl.proofs.start.known_nodes.Goals as goal

pub returns-then-holds : goal.returns-then-holds
returns-then-holds g c =
    let memory : List ℕ = c.args.memory.now in
    let known : List ℕ = c.args.known.now.page in
    let size : length c.args.known.now.page ≡ 4096 = omega arith in
    let at : c.page_start.result - 0x80000000 ≡ 4096 * c.args.page = omega arith in
    let same : bytes_at c.args.memory.now (4096 * c.args.page) 4096 ≡ c.args.known.now.page =
    sym (ap (λ (n : ℕ). bytes_at memory n (length known)) at ∙ ap (bytes_at memory (4096 * c.args.page)) size)
    ∙ same-bytes_eq (bytes_at memory (c.page_start.result - 0x80000000) (length known)) known (sym c.holds.ensures ∙ c.if-holds.true) in
    subst (λ (page : List ℕ). AreNodesOver g.D.Digester.digest_of page c.args.known.now.nodes) (sym same) c.requires.known.nodes
