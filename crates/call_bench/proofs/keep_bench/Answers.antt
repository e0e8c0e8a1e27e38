use Rattle.std.proofs.Common.{arith}
use Rattle.call_bench.proofs.Repeating.{reported-none, reported-more}
use Rattle.call_bench.proofs.keep_bench.Goals as goal

pub returns : goal.returns
returns c = reported-more _ _ 0 _ c.report.result c.loop.invariant (reported-none _ _) c.report.ensures (omega (arith, c.once.ensures.0, c.once.ensures.1))
