use Rattle.std.proofs.Common.{map, sym, ap, ◌∙◌}
use Rattle.std.specs.List.{filter_map}
use Rattle.world_lines.specs.Forms.{line_of}
use Rattle.world_setup.proofs.Steps.{filter_map-map}
use Rattle.world_setup.proofs.scripts.hart_lines.Goals as goal

pub returns : goal.returns
returns c =
    c.in_ok-lines.ensures {u = tt} ∙ sym (filter_map-map line_of (λ t. t.now) c.as_slice.result.now) ∙ ap (λ texts. filter_map line_of (map (λ t. t.now) texts)) c.as_slice.ensures.value
    ∙ ap (filter_map line_of) (c.in_ok-texts.ensures {u = tt})
