use Rattle.world_setup.proofs.KeyWalk.{keys_start, keys_fail, keys_pass, among}
use Rattle.world_setup.proofs.toml_data.has_only.Goals as goal

pub loop-key-init : goal.loop-key-init
loop-key-init c = keys_start _ c.args.table.now _ _ c.into_iter-key-iterator.ensures.into_iter_gives c.keys-key-items.ensures.rest

pub returns-then-not-is_among : goal.returns-then-not-is_among
returns-then-not-is_among c =
    keys_fail _ _ _ _ _ c.loop-key.invariant c.in-Some.ensures.steps (among c.in-Some.key.now _ _ _ c.args.names.now c.as_str.ensures.value c.is_among.ensures c.if-not-is_among.true)

pub loop-key-preserved : goal.loop-key-preserved
loop-key-preserved c =
    keys_pass _ _ _ _ _ c.loop-key.invariant c.in-Some.ensures.steps (among c.in-Some.key.now _ _ _ c.args.names.now c.as_str.ensures.value c.is_among.ensures c.if-not-is_among.false)
