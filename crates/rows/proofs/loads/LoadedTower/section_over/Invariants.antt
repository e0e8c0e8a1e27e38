use Rattle.slots.specs.Held.{tower_in, wind_in}
use Rattle.rows.proofs.Steps.{Checked}
use Rattle.rows.proofs.loads.LoadedTower.section_over.Given as goal

abbrev pub invariant-loop-i : goal.invariant-loop-i
invariant-loop-i l = Checked (tower_in l.self.state.now) (wind_in l.self.state.now) l.i l.shear
