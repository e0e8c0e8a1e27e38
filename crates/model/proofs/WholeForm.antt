-- The force on a face is the number (num − √radicand) / den of whole numbers.
use Prim.Native.Nat.{ℕ, ◌+◌, ◌*◌}
use mathlib.Core.Path.{◌≡◌, refl, ap}
use native.Mathlib.Omega.{arith}
use Rattle.units.specs.declared.Area.{Area}
use Rattle.exact.specs.Fraction.{Fraction, ◌//◌, whole, ◌⊕◌, ◌·◌}
use Rattle.exact.specs.Rooted.{◌⊞◌, ◌⊙◌, square, Same}
use Rattle.exact.specs.Surd.{number}
use Rattle.exact.proofs.Value.{Is, ·-is, ⊕-is, //-is, rescale, re-is, is_number}
use Rattle.model.specs.declared.Legs.{Legs}
use Rattle.model.specs.declared.Legs.TheVariants.{Three, Four}
use Rattle.model.specs.declared.Areas.{Areas}
use Rattle.model.specs.Areas.{solid}
use Rattle.model.specs.Force.{m², solidity, c_f, c_c, c_p, resistance, face_force}
use Rattle.model.specs.WholeForm.{gross_of, incidence_den, incidence_num, face_den, face_num, root_num, whole_form}
use Rattle.model.proofs.Coefficients.{flat-is, sub_is, super-is, root_is, incidence-is, open_num, root_den}

load_is : (q factor : ℕ) → Is (whole q · factor // 1000) (q * factor) 1000
unfolding whole ◌//◌ ◌·◌
load_is q factor = omega arith

m²-is : (a : Area) → Is (m² a) a.0 1_000_000
unfolding m²
m²-is a = //-is a.0 1_000_000

one-is : Is (whole 1) 1 1
unfolding whole
one-is = //-is 1 1

-- both sides of the root's fraction times the same number
root_scale : Legs → ℕ
root_scale Four = 200
root_scale Three = 50_000

root-num : (l : Legs) (S e : ℕ) → root_num l S e ≡ root_scale l * open_num l S e
unfolding root_num root_scale open_num
root-num Four S e = refl
root-num Three S e = refl

root-den : (l : Legs) (U : ℕ) → face_den l U * face_den l U ≡ root_scale l * (U * U) * root_den l U
unfolding face_den root_scale root_den
root-den Four U = omega arith
root-den Three U = omega arith

radicand-eq : (T H p U N c : ℕ)
    → T * H * p * (T * H * p) * N * (c * (U * U) * 1_000_000_000_000)
    ≡ T * H * 1_000_000 * p * U * (T * H * 1_000_000 * p * U) * (c * N)
radicand-eq T H p U N c = omega arith

den-eq : (h L U n c : ℕ) → L * L ≡ c * (U * U) * n
    → 1000 * h * 1_000_000 * (1000 * h * 1_000_000) * n * (c * (U * U) * 1_000_000_000_000)
    ≡ h * L * 1_000_000_000_000_000 * (h * L * 1_000_000_000_000_000)
den-eq h L U n c g = let k : _ = ap (λ (z : ℕ). z * (h * h)) g in omega arith

module _ (l : Legs) (k factor q : ℕ) (a : Areas) (e items : ℕ) where
  φ : Fraction
  φ = (solid a).0 // ((solid a).0 + e)

  face-is : Is (c_f l φ · m² a.flat ⊕ c_c l φ · m² a.subcritical ⊕ m² a.supercritical · (c_p l φ).rational)
      (face_num l a e) (face_den l ((solid a).0 + e) * 1_000_000)
  unfolding face_num φ
  face-is =
      ⊕-is
      (⊕-is (·-is (flat-is l (solid a).0 e) (m²-is a.flat)) (·-is (sub_is l (solid a).0 e) (m²-is a.subcritical)))
      (re-is (omega arith) (omega arith) (·-is (m²-is a.supercritical) (super-is l φ ((solid a).0 + e))))

  rational-is : Is (face_force l k factor q (gross_of a e) a items).rational (whole_form l k factor q a e items).num (whole_form l k factor q a e items).den
  unfolding face_force resistance solidity ◌⊞◌ ◌⊙◌ whole_form φ
  rational-is =
      let h : ℕ = incidence_den l (solid a).0 e * face_den l ((solid a).0 + e) in
      let d : ℕ = h * 1_000_000_000_000 in
      re-is {d = 1000 * d} (omega arith) (omega arith)
      (·-is (load_is q factor)
      (⊕-is {d = d}
      (re-is {d' = d} refl (omega arith) (rescale h (//-is items 1_000_000_000_000)))
      (re-is {d' = d} refl (omega arith) (rescale 1_000_000 (·-is (incidence-is l k e a) face-is)))))

  factor-is : Is (face_force l k factor q (gross_of a e) a items).factor
      (q * factor * incidence_num l k a e * a.supercritical.0) (1000 * incidence_den l (solid a).0 e * 1_000_000)
  unfolding face_force resistance solidity ◌⊞◌ ◌⊙◌ c_p φ
  factor-is =
      re-is (omega arith) (omega arith)
      (·-is (load_is q factor) (·-is (incidence-is l k e a) (·-is (m²-is a.supercritical) one-is)))

  square-is : Is (square (face_force l k factor q (gross_of a e) a items)) (whole_form l k factor q a e items).radicand
      ((whole_form l k factor q a e items).den * (whole_form l k factor q a e items).den)
  unfolding square face_force resistance solidity ◌⊞◌ ◌⊙◌ whole_form φ
  square-is =
      rw (root-num l (solid a).0 e)
      (re-is
      (radicand-eq (q * factor) (incidence_num l k a e) a.supercritical.0 ((solid a).0 + e) (open_num l (solid a).0 e) (root_scale l))
      (den-eq (incidence_den l (solid a).0 e) (face_den l ((solid a).0 + e)) ((solid a).0 + e) (root_den l ((solid a).0 + e))
      (root_scale l) (root-den l ((solid a).0 + e)))
      (rescale (root_scale l * (((solid a).0 + e) * ((solid a).0 + e)) * 1_000_000_000_000)
      (·-is (·-is factor-is factor-is) (root_is l (solid a).0 e))))

  -- the force on a face is that of the whole-number form
  pub face-whole : Same (face_force l k factor q (gross_of a e) a items) (number (whole_form l k factor q a e items))
  face-whole = is_number _ _ rational-is square-is
