use Rattle.std.proofs.Common.{refl}
use Rattle.call_bench.proofs.Repeating.{no-round, round-more}
use Rattle.call_bench.proofs.repeated.Goals as goal

pub loop-i-init : goal.loop-i-init
loop-i-init g c = λ round k. no-round _ round c.windy-state.ensures

pub loop-i-preserved : goal.loop-i-preserved
loop-i-preserved g c =
    λ round k.
    round-more _ round c.loop-i.i (c.loop-i.invariant round k)
    (k _ _ c.loop-i.i _ c.loop-i-test.true (record { lent = _; shows = refl; left = _; met = c.round-accepted.ensures; leaves = refl }))
    refl
