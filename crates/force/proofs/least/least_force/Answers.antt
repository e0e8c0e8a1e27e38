use Rattle.wide.specs.Value.{value256}
use Rattle.force.proofs.Quotient.{ceiling_asks, ceiling_gives}
use Rattle.force.proofs.least.least_force.Goals as goal

pub ceiling-requires : goal.ceiling-requires
unfolding value256
ceiling-requires c =
    ceiling_asks c.args.p c.args.w c.args.x c.requires.1 c.requires.0 _ c.numerator.ensures c.radicand.ensures c.widening_mul.ensures

pub returns : goal.returns
unfolding value256
returns c =
    ceiling_gives c.args.p c.args.w c.args.x c.requires.1 c.requires.0 _ c.numerator.ensures c.radicand.ensures c.widening_mul.ensures
    c.ceiling.result c.ceiling.ensures
