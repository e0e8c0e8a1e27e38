use Rattle.std.proofs.Common.{sym, ◌∙◌, arith}
use Rattle.slots.specs.Held.{tower_in, wind_in}
use Rattle.slots.proofs.Grounds.{section-count}
use Rattle.rows.proofs.Steps.{checked-none, exceeds-is, checked-next, over-found, none_found}
use Rattle.rows.proofs.loads.LoadedTower.section_over.Goals as goal

pub loop-i-init : goal.loop-i-init
loop-i-init c = checked-none (tower_in c.args.self.now.state.now) (wind_in c.args.self.now.state.now)

pub returns-then-exceeds : goal.returns-then-exceeds
returns-then-exceeds c =
    let v = c.loop-i.invariant in
    over-found v (omega (arith, section-count c.args.self.now.state.now))
    (sym (exceeds-is v c.load-section.ensures c.add-shear.ensures) ∙ sym c.exceeds.ensures ∙ c.if-exceeds.true)

pub loop-i-preserved : goal.loop-i-preserved
loop-i-preserved c =
    let v = c.loop-i.invariant in
    checked-next v c.load-section.ensures c.add-shear.ensures
    (sym (exceeds-is v c.load-section.ensures c.add-shear.ensures) ∙ sym c.exceeds.ensures ∙ c.if-exceeds.false)

pub returns : goal.returns
returns c = none_found c.loop-i.invariant (omega (arith, section-count c.args.self.now.state.now))
