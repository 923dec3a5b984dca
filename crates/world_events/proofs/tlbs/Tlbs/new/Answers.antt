use Rattle.std.proofs.Common.{List, [], ◌∷◌, ◌++◌, replicate, ap, ◌∙◌}
use Rattle.std.proofs.lemmas.List.{replicate-append-replicate}
use Rattle.rv_tlb.specs.declared.tlb.TlbEntry.{TlbEntry}
use Rattle.world_events.proofs.tlbs.Tlbs.new.Goals as goal

pub loop-preserved : goal.loop-preserved
loop-preserved c =
    (c.in_ok-push.ensures {u = tt}).items
    ∙ ap (λ (tlbs : List (List TlbEntry)). tlbs ++ (c.new.result ∷ [])) c.loop.invariant
    ∙ ap (λ (tlb : List TlbEntry). replicate c.loop.counter [] ++ (tlb ∷ [])) c.new.ensures
    ∙ replicate-append-replicate c.loop.counter 1 []
