use Rattle.call_bench.proofs.Repeating.{after_two}
use Rattle.call_bench.proofs.hang_round.Goals as goal

pub returns : goal.returns
returns c = after_two _ _ (rw c.dish.ensures at c.hang.ensures) c.once.ensures.0 c.take_down.ensures c.once-2.ensures.0
