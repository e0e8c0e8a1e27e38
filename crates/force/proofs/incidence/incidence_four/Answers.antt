use Rattle.std.proofs.Common.{arith}
use Rattle.force.proofs.IncidenceFactor.{products}
use Rattle.force.proofs.incidence.incidence_four.Goals as goal

pub overflow_add-result-3 : goal.overflow_add-result-3
overflow_add-result-3 c =
    let s = c.args in
    let p = products s.f s.r s.e c.k2_num.result c.quarters.result (omega arith) (omega arith) (omega arith) in
    omega (arith, p)
