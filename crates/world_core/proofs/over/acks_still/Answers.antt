use Rattle.std.proofs.Common.{ℕ, ◌+◌, ◌-◌, ◌<◌, Bool, ◌&&◌, ap, sym, ◌∙◌, arith}
use Rattle.std.specs.List.{list_all, range_with_len}
use Rattle.world_core.specs.Over.{ack_still}
use Rattle.world_core.proofs.OverLemmas.{one_passed}
use Rattle.world_core.proofs.over.acks_still.Goals as goal

pub loop-hart-preserved : goal.loop-hart-preserved
loop-hart-preserved g c =
    let p : ℕ → Bool = ack_still g.D.Digester.digest_of c.args.machine.now.0 in
    let harts : ℕ = c.args.machine.now.0.setup.harts in
    let at : ℕ = c.loop-hart.hart in
    let below : at < harts = omega (arith, c.loop-hart-test.true, c.attacker-harts.ensures) in
    c.loop-hart.invariant ∙ one_passed p at harts below ∙ ap (λ (b : Bool). b && list_all p (range_with_len (at + 1) (harts - (at + 1)))) (sym (c.if-not-ack_still.ensures {u = tt}))
