use Rattle.std.proofs.Common.{rules}
use Rattle.pl_io.proofs.TwoReads.{read_too_long, read_no_memory}
use Rattle.pl_io.proofs.reading.read_all.Goals as goal

pub returns-then-limit-len-clause-read : goal.returns-then-limit-len-clause-read
returns-then-limit-len-clause-read g c =
    read_too_long _ (g.S.Source.left c.loop-count.source) _ c.loop-count.all.items c.read.new.into c.args.limit c.in-Ok.count
    c.loop-count.invariant.consumed c.in-Ok.ensures.bytes.0 (search rules) c.loop-count.invariant.fits (search rules)

pub returns-then-is_err-clause-read : goal.returns-then-is_err-clause-read
returns-then-is_err-clause-read g c =
    read_no_memory _ (g.S.Source.left c.loop-count.source) _ c.loop-count.all.items c.read.new.into c.args.limit c.in-Ok.count
    c.loop-count.invariant.consumed c.in-Ok.ensures.bytes.0 (search rules) c.loop-count.invariant.fits (search rules)
