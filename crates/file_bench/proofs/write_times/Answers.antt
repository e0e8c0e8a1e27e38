use Rattle.file_bench.proofs.Again.{settled, again}
use Rattle.file_bench.proofs.write_times.Goals as goal

pub loop-init : goal.loop-init
loop-init c = settled _ c.write-answer.ensures

pub loop-preserved : goal.loop-preserved
loop-preserved c = again _ c.loop.invariant c.write-answer-in-loop.ensures

pub returns : goal.returns
returns c = again _ c.write-answer.ensures c.loop.invariant
