use Rattle.std.proofs.Common.{refl}
use Rattle.call_bench.proofs.Repeating.{reported-none, reported-more}
use Rattle.call_bench.proofs.report_bench.Goals as goal

pub loop-init : goal.loop-init
loop-init c = reported-none _ _

pub loop-preserved : goal.loop-preserved
loop-preserved c =
    reported-more _ _ c.loop.counter _ c.report.result c.windy-state.ensures c.loop.invariant c.report.ensures (rw c.once-accepted.ensures.0 refl)
