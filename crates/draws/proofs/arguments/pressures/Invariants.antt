use Rattle.std.proofs.Common.{◌≡◌, ◌≤◌}
use Rattle.counted.specs.Elements.{element_count}
use Rattle.draws.proofs.arguments.pressures.Given as goal

abbrev pub invariant-loop-place : goal.invariant-loop-place
invariant-loop-place l = (element_count l.pressures ≡ l.place) × (l.pressures.count ≤ 40)
