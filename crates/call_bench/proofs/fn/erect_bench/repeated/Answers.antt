use Rattle.call_bench.proofs.Repeating.{after_one}
use Rattle.call_bench.proofs.fn.erect_bench.repeated.Goals as goal

pub returns : goal.returns
returns c = after_one _ c.erect.ensures c.once.ensures.0
