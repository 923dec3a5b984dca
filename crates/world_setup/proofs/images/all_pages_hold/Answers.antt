use Rattle.std.proofs.Common.{length, sym, ap, ◌∙◌}
use Rattle.std.proofs.lemmas.List.{length-map}
use Rattle.toml.specs.View.{view, table_view}
use Rattle.world_setup.specs.Keys.{images_in}
use Rattle.world_setup.proofs.ImageRules.{pages_within}
use Rattle.world_setup.proofs.PageReads.{pages_read}
use Rattle.world_setup.proofs.images.all_pages_hold.Goals as goal

pub returns-then-images-items_at : goal.returns-then-images-items_at
returns-then-images-items_at c =
    pages_read (images_in (table_view c.args.table.now)) (sym c.requires.images ∙ c.if-images-items_at.true ∙ sym (length-map c.items_at.result.now view) ∙ ap length c.items_at.ensures)

pub pages_hold-requires : goal.pages_hold-requires
pages_hold-requires c =
    pages_within (table_view c.args.table.now) c.as_slice.result.now c.in_ok-pages.pages.items c.requires.rules c.as_slice.ensures.value (c.in_ok-pages.ensures {u = tt})
