use Rattle.std.proofs.Common.{◌*◌, ◌^◌, ◌<◌, ◌≤◌, arith}
use Rattle.model.specs.Areas.{largest_gross}
use Rattle.force.proofs.FaceSums.{areas-fit, two-fit, three-fit, in-millionths}
use Rattle.force.proofs.coefficients.Coefficients.sum.Goals as goal

pub overflow_add-result : goal.overflow_add-result
overflow_add-result c =
    omega (
      arith,
      two-fit c.at.result c.in_millionths-flat.result c.at-2.result c.in_millionths-subcritical.result
          (omega arith) (omega arith) (omega arith) (omega arith),
    )

pub overflow_add-result-2 : goal.overflow_add-result-2
overflow_add-result-2 c =
    let u = c.gross-u.result in
    let h : u ≤ largest_gross = omega (arith, c.gross-u.ensures, c.args.face.small) in
    let fits : u * u < 2 ^ 64 = omega (arith, areas-fit u u h h) in
    omega (
      arith,
      three-fit c.at.result c.in_millionths-flat.result c.at-2.result c.in_millionths-subcritical.result (u * u) c.in_millionths-supercritical.result
          (omega arith) (omega arith) (omega arith) (omega arith) fits (omega arith),
    )

pub returns : goal.returns
returns c =
    let k = c.args.self in
    let a = c.args.face.areas in
    rw (c.at.ensures, c.at-2.ensures, c.gross-u.ensures, c.in_millionths-flat.ensures.0, c.in_millionths-subcritical.ensures.0, c.in_millionths-supercritical.ensures.0)
    (in-millionths _ _ _ a.flat.0 a.subcritical.0 a.supercritical.0 k.flat_factor k.subcritical_factor k.supercritical)
