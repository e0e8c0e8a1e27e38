use Rattle.std.proofs.Common.{◌≡◌}
use Rattle.slots.specs.Held.{state_of}
use Rattle.slots.specs.Promises.{wind_asked}
use Rattle.call_bench.specs.Repeated.{windy}
use Rattle.call_bench.proofs.keep_bench.Given as goal

abbrev pub invariant-loop : goal.invariant-loop
invariant-loop l = state_of l.kept ≡ windy l.file (wind_asked l.direction l.ice l.factor l.pressures)
