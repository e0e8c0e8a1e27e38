use Rattle.std.proofs.Common.{◌+◌, ◌≤◌, arith}
use Rattle.model.specs.Areas.{largest_gross}
use Rattle.force.proofs.FaceSums.{terms}
use Rattle.force.proofs.coefficients.Quadratic.at.Goals as goal

pub overflow_add-result-2 : goal.overflow_add-result-2
overflow_add-result-2 c =
    let q = c.args.self in
    let h : c.solid-s.result + c.args.face.gap.0 ≤ largest_gross = omega (arith, c.solid-s.ensures, c.args.face.small) in
    omega (arith, terms q.a q.b q.c c.solid-s.result c.args.face.gap.0 q.small.0 q.small.1 q.small.2 h)
