use Rattle.std.proofs.Common.{◌≡◌, length, arith}
use Rattle.slots.specs.Held.{tower_in, wind_in}
use Rattle.slots.proofs.Grounds.{section-count}
use Rattle.rows.proofs.Steps.{written_none, written_next}
use Rattle.rows.proofs.loads.LoadedTower.write_rows.Goals as goal

pub loop-i-init : goal.loop-i-init
loop-i-init c =
    written_none (tower_in c.args.self.now.state.now) (wind_in c.args.self.now.state.now) c.args.out.now {foot = c.default-foot.result} c.default-foot.ensures

pub loop-i-preserved : goal.loop-i-preserved
loop-i-preserved c = written_next c.loop-i.invariant c.load-own.ensures c.below-foot.ensures c.write_row.new.part c.write_row.ensures

pub returns : goal.returns
returns c =
    let n = section-count c.args.self.now.state.now in
    let e : c.loop-i.i ≡ length (tower_in c.args.self.now.state.now).sections = omega (arith, n) in
    rw (← n, ← e) c.loop-i.invariant.rows
