use Rattle.toml.specs.View.{table_view}
use Rattle.world_setup.proofs.FirstRules.{setup_of-table, setup_of-refused, not_memory}
use Rattle.world_setup.proofs.reading.read_setup.Goals as goal

pub returns-in-Ok : goal.returns-in-Ok
returns-in-Ok c =
    rw (setup_of-table c.args.bytes.now (table_view c.in-Ok.table) c.if-bytes-gt-MOST_TEXT.false c.in-Ok.ensures.ok.0 c.in-Ok.ensures.ok.1) c.setup_of_table.ensures

pub returns-else-is_memory : goal.returns-else-is_memory
returns-else-is_memory c =
    setup_of-refused c.args.bytes.now c.if-bytes-gt-MOST_TEXT.false (c.in-Err.ensures.refused (not_memory _ _ c.if-is_memory.false c.is_memory.ensures))
