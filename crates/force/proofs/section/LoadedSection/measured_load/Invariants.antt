use Rattle.exact.specs.Number.{Least}
use Rattle.force.specs.Loaded.{in_wind}
use Rattle.force.specs.Greatest.{greatest_to}
use Rattle.force.proofs.section.LoadedSection.measured_load.Given as goal

-- the greatest so far: at full pressure and in the lesser winds of the first i groups
abbrev pub invariant-loop-i : goal.invariant-loop-i
invariant-loop-i l = Least (greatest_to (in_wind l.self) l.i) l.force.0
