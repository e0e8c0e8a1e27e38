use Rattle.std.proofs.Common.{refl, ◌∙◌}
use Rattle.wide.specs.Value.{value256, value512}
use Rattle.force.proofs.Quotient.{radicand_is}
use Rattle.force.proofs.least.radicand.Goals as goal

pub returns : goal.returns
unfolding value256 value512
returns c =
    let s = c.args in
    c.widening_mul.ensures
    ∙ radicand_is s.factored s.incidence _ _ _ _ _ _ s.face.areas.supercritical.0 _ _ refl
    c.widening_mul-x.ensures c.widening_mul-y.ensures c.root_weight.ensures c.root-root.ensures
