-- The numbers of a face that its coefficients make. s is A_S and e the open area A_u − A_S.
use Rattle.std.specs.Prelude.{ℕ, ◌+◌, ◌*◌}
use Rattle.model.specs.declared.Areas.{Areas}
use Rattle.model.specs.Areas.{solid}
use Rattle.force.specs.declared.coefficients.Quadratic.{Quadratic}
use Rattle.force.specs.declared.coefficients.Coefficients.{Coefficients}

abbrev pub quadratic_at : Quadratic → ℕ → ℕ → ℕ
quadratic_at q s e = q.a * (s * s) + q.b * (s * e) + q.c * (e * e)

abbrev pub root_by : Coefficients → ℕ → ℕ → ℕ
root_by c s e = c.root_factor * (e * (c.root_solid * s + c.root_open * e))

-- c_f A_f + c_c A_c + 1.9 A_p
abbrev pub sum_by : Coefficients → Areas → ℕ → ℕ
sum_by c a e =
    let s : ℕ = (solid a).0 in
    c.flat_factor * quadratic_at c.flat s e * a.flat.0
    + c.subcritical_factor * quadratic_at c.subcritical s e * a.subcritical.0
    + c.supercritical * ((s + e) * (s + e)) * a.supercritical.0
