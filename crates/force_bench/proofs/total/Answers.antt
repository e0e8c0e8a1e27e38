use Rattle.std.proofs.Common.{refl, ap}
use Rattle.model.specs.Tower.{section_of}
use Rattle.force_bench.proofs.Rounds.{total-none, total-more, force-known}
use Rattle.force_bench.proofs.total.Goals as goal

pub loop-i-init : goal.loop-i-init
loop-i-init c = total-none _ _

pub loop-i-preserved : goal.loop-i-preserved
loop-i-preserved c =
    let on = c.loaded-section.ensures in
    total-more _ _ _ _ _ _ c.loop-i.invariant
    (force-known _ _ c.loop-i.i _ c.loaded-section.result.section.stands on.legs (ap section_of on.section) on.direction on.ice on.factor on.pressure on.items
    c.load-sum.ensures) refl
