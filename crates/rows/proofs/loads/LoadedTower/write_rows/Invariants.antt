use Rattle.slots.specs.Held.{tower_in, wind_in}
use Rattle.rows.proofs.Steps.{Written}
use Rattle.rows.proofs.loads.LoadedTower.write_rows.Given as goal

abbrev pub invariant-loop-i : goal.invariant-loop-i
invariant-loop-i l = Written (tower_in l.self.state.now) (wind_in l.self.state.now) l.fn.out l.i l.out l.foot
