use Rattle.call_bench.proofs.Repeating.{windy-known}
use Rattle.call_bench.proofs.windy.Goals as goal

pub returns : goal.returns
returns c = windy-known _ _ (rw c.fresh.ensures at c.erect.ensures) c.set_wind.ensures
