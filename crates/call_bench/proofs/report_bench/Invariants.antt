use Rattle.slots.specs.Promises.{wind_asked}
use Rattle.call_bench.specs.Repeated.{windy, Reported}
use Rattle.call_bench.proofs.report_bench.Given as goal

abbrev pub invariant-loop : goal.invariant-loop
invariant-loop l = Reported (windy l.file (wind_asked l.direction l.ice l.factor l.pressures)) l.counter l.fn.out l.out l.accepted
