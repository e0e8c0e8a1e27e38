use Rattle.call_bench.proofs.Repeating.{after_two}
use Rattle.call_bench.proofs.first_round.Goals as goal

pub returns : goal.returns
returns c =
    after_two _ _ (rw c.first_of-first.ensures at c.take_down.ensures) c.once.ensures.0 (rw c.first_of-first.ensures at c.hang.ensures) c.once-2.ensures.0
