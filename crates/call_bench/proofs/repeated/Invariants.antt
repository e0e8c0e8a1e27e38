use Rattle.std.proofs.Common.{ℕ, List}
use Rattle.model.specs.Machine.{State}
use Rattle.model.specs.Calls.{Call}
use Rattle.model.specs.Tower.{wind_of}
use Rattle.call_bench.specs.Repeated.{windy, rounds_to, After, MakesRounds}
use Rattle.call_bench.proofs.repeated.Given as goal

abbrev pub invariant-loop-i : goal.invariant-loop-i
invariant-loop-i g l =
    let m = windy l.file (wind_of l.wind) in
    (round : State → ℕ → List Call) → MakesRounds g.F.Fn l.round l.rounds round → After m (rounds_to round m l.i) l.state l.accepted
