use Rattle.std.proofs.Common.{◌≡◌, None, replicate, ap, ◌∙◌}
use Rattle.mem_ctl.specs.Start.{start_data}
use Rattle.mon_tables.specs.Tables.{start_words}
use Rattle.pl_history.specs.declared.setup.SetupParts.{SetupParts}
use Rattle.world_machine.specs.Reached.{opening_world}
use Rattle.world_events.proofs.machine.Machine.opening.Goals as goal

pub protection-pmp-requires : goal.protection-pmp-requires
protection-pmp-requires g c = rw c.parts-parts.ensures.parts c.parts-parts.ensures.rules

-- Each part is what its own constructor gives.
pub returns : goal.returns
unfolding opening_world
returns g c =
    let digest_of = g.D.Digester.digest_of in
    let p : SetupParts = c.parts-parts.result.now in
    let same : p ≡ c.args.setup = c.parts-parts.ensures.parts in
    let words : c.as_slice.result.now ≡ start_words p.tables = c.as_slice.ensures.value ∙ c.start_words-words.ensures.list in
    let of_words : c.in_ok-ctl.ctl ≡ (start_data digest_of p.zones p.slots (start_words p.tables), c.args.choice) =
    (c.in_ok-ctl.ensures {u = tt}).start ∙ ap (λ ws. (start_data digest_of p.zones p.slots ws, c.args.choice)) words in
    let ctl = of_words ∙ ap (λ s. (start_data digest_of s.zones s.slots (start_words s.tables), c.args.choice)) same in
    let fences : c.new-fences.result ≡ replicate c.args.setup.harts None = c.new-fences.ensures ∙ ap (λ s. replicate s.harts None) same in
    let rest = c.in_ok-rest.ensures {u = tt} in
    (λ i. (
      record {
        setup = c.args.setup;
        ctl = (ctl i).0;
        owners = (rest.records i).0;
        enclaves = (rest.records i).1;
        tlbs = (rest.idle i).0;
        fences = fences i;
        under = (rest.idle i).1;
        answered = (rest.idle i).2;
        history = rest.history i;
        collision = None;
        moves = 0;
      },
      (ctl i).1,
    ))
