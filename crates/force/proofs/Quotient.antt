-- The exact force as (n − √m) / d of wide numbers.
use mathlib.Core.Path.{◌≡◌, refl, ◌∙◌}
use Prim.Native.Nat.{ℕ, ◌+◌, ◌*◌, ◌^◌, ◌≤◌, ◌<◌}
use mathlib.Core.Bool.{true}
use native.Mathlib.Omega.{arith}
use native.Mathlib.Nat.{mul-le-mul, mul-le-mul_left, le_trans, lt_of_le_of_lt}
use borrow.Author.Tests.{leb-true}
use Rattle.exact.specs.Number.{only, Least}
use Rattle.exact.specs.Surd as exact
use Rattle.exact.specs.Surd.{number, reaches}
use Rattle.exact.proofs.Compare.{same-sym}
use Rattle.exact.proofs.Greatest.{least-same}
use Rattle.exact.proofs.Surds.{number-defined}
use Rattle.model.specs.declared.Legs.{Legs}
use Rattle.model.specs.declared.Legs.TheVariants.{Three, Four}
use Rattle.model.specs.declared.Areas.{Areas}
use Rattle.model.specs.Areas.{solid, largest_gross}
use Rattle.model.specs.Force.{largest_items, face_force, largest_force}
use Rattle.model.specs.WholeForm.{gross_of, incidence_den, incidence_num, face_den, face_num, root_num, whole_form}
use Rattle.model.proofs.WholeForm.{face-whole}
use Rattle.model.proofs.FaceForce.{den-positive, face-defined}
use Rattle.model.proofs.Bounds.{num-bound}
use Rattle.wide.specs.Value.{value256, value512}
use Rattle.force.specs.declared.prepared.PreparedFace.{PreparedFace}
use Rattle.force.specs.declared.prepared.Loading.{Loading}
use Rattle.force.specs.FaceForce.{force_on, LinearOf}
use Rattle.rounding.specs.declared.bounds.Linear.{Linear}
use Rattle.rounding.specs.Reaching.{surd_of}
use Rattle.rounding.specs.declared.ceiling.Surd.{Surd}
use Rattle.rounding.proofs.Reach.{whole-reaches}

-- the numerator and the radicand, from the products that code forms
pub num_sum : (factor slope g offset divisor x y : ℕ) → x ≡ g * (factor * slope) → y ≡ divisor * (factor * offset)
    → x + y ≡ factor * (slope * g + offset * divisor)
num_sum factor slope g offset divisor x y ex ey = rw (ex, ey) (omega arith)

pub radicand_is : (factored inc v o l r x y p u root : ℕ) → r ≡ factored * 1_000_000 * v → x ≡ r * (inc * o) → y ≡ r * (inc * l)
    → v ≡ p * u → o * l ≡ root → x * y ≡ factored * inc * 1_000_000 * p * u * (factored * inc * 1_000_000 * p * u) * root
radicand_is factored inc v o l r x y p u root er ex ey ev el = rw (ex, ey, er, ev, ← el) (omega arith)

-- no supercritical member: there is no root
pub no_radicand : (x p u root : ℕ) → p ≡ 0 → ◌≡◌ {A = ℕ} 0 (x * p * u * (x * p * u) * root)
no_radicand x p u root e = rw e (omega arith)

pub factored_small : (q factor : ℕ) → q ≤ 5000 → factor ≤ 2000 → q * factor ≤ 10_000_000
factored_small q factor hq hf = mul-le-mul {n₁ = q} {m₁ = factor} {n₂ = 5000} {m₂ = 2000} hq hf

-- bounds of the divisors
square-bound : (x y : ℕ) → x ≤ largest_gross → y ≤ largest_gross → x * y ≤ largest_gross * largest_gross
square-bound x y hx hy = mul-le-mul {n₂ = largest_gross} {m₂ = largest_gross} hx hy

incidence-den-bound : (l : Legs) (S e : ℕ) → S + e ≤ largest_gross → incidence_den l S e ≤ 2 ^ 63
unfolding incidence_den
incidence-den-bound Four S e h = omega (arith, square-bound S (S + e) (omega arith) h)
incidence-den-bound Three S e h = omega arith

face-den-bound : (l : Legs) (U : ℕ) → U ≤ largest_gross → face_den l U ≤ 2 ^ 67
unfolding face_den
face-den-bound Four U h = omega (arith, square-bound U U h h)
face-den-bound Three U h = omega (arith, square-bound U U h h)

module _ (l : Legs) (k factor q : ℕ) (a : Areas) (e items : ℕ) where
  abbrev pub form : exact.Surd
  form = whole_form l k factor q a e items

  pub num-is : (factored inc face h : ℕ) → factored ≡ q * factor → inc ≡ incidence_num l k a e → face ≡ face_num l a e * 1_000_000
      → h ≡ incidence_den l (solid a).0 e * face_den l ((solid a).0 + e)
      → factored * (inc * face + items * h) ≡ form.num
  unfolding whole_form
  num-is factored inc face h el ei ef eh = rw (el, ei, ef, eh) (omega arith)

  pub num-room : (solid a).0 + e ≤ largest_gross → q ≤ 5000 → factor ≤ 2000 → items ≤ largest_items → form.num < 2 ^ 256
  unfolding whole_form
  num-room hu hq hf hi =
      let h : incidence_den l (solid a).0 e * face_den l ((solid a).0 + e) ≤ 2 ^ 63 * 2 ^ 67 =
      mul-le-mul {n₂ = 2 ^ 63} {m₂ = 2 ^ 67} (incidence-den-bound l (solid a).0 e hu) (face-den-bound l ((solid a).0 + e) hu) in
      let d : incidence_den l (solid a).0 e * face_den l ((solid a).0 + e) * 1_000_000_000_000_000 ≤ 2 ^ 63 * 2 ^ 67 * 1_000_000_000_000_000 =
      mul-le-mul {n₂ = 2 ^ 63 * 2 ^ 67} {m₂ = 1_000_000_000_000_000} h (leb-true 1_000_000_000_000_000 1_000_000_000_000_000 refl) in
      lt_of_le_of_lt (le_trans (num-bound l k factor q a e items hu hq hf hi) (mul-le-mul_left largest_force d))
      (leb-true (largest_force * (2 ^ 63 * 2 ^ 67 * 1_000_000_000_000_000) + 1) (2 ^ 256) refl)

  pub radicand-of : (factored inc : ℕ) → factored ≡ q * factor → inc ≡ incidence_num l k a e
      → factored * inc * 1_000_000 * a.supercritical.0 * ((solid a).0 + e) * (factored * inc * 1_000_000 * a.supercritical.0 * ((solid a).0 + e)) * root_num l (solid a).0 e
      ≡ form.radicand
  unfolding whole_form
  radicand-of factored inc el ei = rw (el, ei)

  pub den-is : (h : ℕ) → h ≡ incidence_den l (solid a).0 e * face_den l ((solid a).0 + e)
      → h * 1_000_000_000_000_000 ≡ form.den
  unfolding whole_form
  den-is h eh = rw eh

  -- of a face with members
  module _ (hs : 0 < (solid a).0) where
    pub den-above : 0 < form.den
    den-above = den-positive l k factor q a e items hs

    pub whole-exact : (f : ℕ) → Least (only (number form)) f → Least (only (face_force l k factor q (gross_of a e) a items)) f
    whole-exact f h =
        least-same (number-defined _ den-above) (face-defined l k factor q (gross_of a e) a items (omega arith) hs)
        (same-sym (face-whole l k factor q a e items)) h

    -- wide numbers with these values
    module _ (v : Surd) (en : value256 v.num ≡ form.num) (em : value512 v.radicand ≡ form.radicand) (ed : value256 v.den ≡ form.den) where
      surd-is : surd_of v ≡ form
      unfolding surd_of
      surd-is = rw (en, em, ed)

      pub den-known : 0 < value256 v.den
      den-known = rw ed den-above

      pub most-reaches : (solid a).0 + e ≤ largest_gross → q ≤ 5000 → factor ≤ 2000 → items ≤ largest_items → reaches (surd_of v) largest_force ≡ true
      most-reaches hu hq hf hi = rw surd-is (whole-reaches form largest_force (num-bound l k factor q a e items hu hq hf hi))

      pub least-exact : (f : ℕ) → Least (only (number (surd_of v))) f → Least (only (face_force l k factor q (gross_of a e) a items)) f
      least-exact f h = whole-exact f (rw surd-is at h)

-- the linear function and the wide numbers that code forms of a prepared face
module _ (p : PreparedFace) (w : Loading) (x : Linear) (g : LinearOf p w x) where
  abbrev form-on : exact.Surd
  form-on = form p.face.legs w.direction w.factor w.pressure p.face.areas p.face.gap.0 w.items

  numerator-is : x.factor * (x.slope * p.sum + x.offset * x.divisor) ≡ form-on.num
  numerator-is = rw g.offset (num-is p.face.legs w.direction w.factor w.pressure p.face.areas p.face.gap.0 w.items _ _ _ _ g.factor g.slope p.sum_is (g.divisor ∙ p.divisor_is))

  pub num_fits : x.factor * (x.slope * p.sum + x.offset * x.divisor) < 2 ^ 256
  num_fits = rw numerator-is (num-room p.face.legs w.direction w.factor w.pressure p.face.areas p.face.gap.0 w.items p.face.small w.pressure_small w.factor_small w.items_small)

  module _ (hs : 0 < (solid p.face.areas).0) (v : Surd) (en : value256 v.num ≡ x.factor * (x.slope * p.sum + x.offset * x.divisor))
      (em : value512 v.radicand
      ≡ x.factor * x.slope * 1_000_000 * p.face.areas.supercritical.0 * ((solid p.face.areas).0 + p.face.gap.0)
      * (x.factor * x.slope * 1_000_000 * p.face.areas.supercritical.0 * ((solid p.face.areas).0 + p.face.gap.0)) * root_num p.face.legs (solid p.face.areas).0 p.face.gap.0)
      (ed : value256 v.den ≡ x.divisor * 1_000_000_000_000_000) where
    radicand-on : value512 v.radicand ≡ form-on.radicand
    radicand-on = em ∙ radicand-of p.face.legs w.direction w.factor w.pressure p.face.areas p.face.gap.0 w.items _ _ g.factor g.slope

    den-on : value256 v.den ≡ form-on.den
    den-on = ed ∙ den-is p.face.legs w.direction w.factor w.pressure p.face.areas p.face.gap.0 w.items _ (g.divisor ∙ p.divisor_is)

    -- what `ceiling` asks and answers
    pub ceiling_asks : (0 < value256 v.den) × (reaches (surd_of v) largest_force ≡ true)
    ceiling_asks = (
      den-known p.face.legs w.direction w.factor w.pressure p.face.areas p.face.gap.0 w.items hs v (en ∙ numerator-is) radicand-on den-on,
      most-reaches p.face.legs w.direction w.factor w.pressure p.face.areas p.face.gap.0 w.items hs v (en ∙ numerator-is) radicand-on den-on
          p.face.small w.pressure_small w.factor_small w.items_small,
    )

    pub ceiling_gives : (f : ℕ) → Least (only (number (surd_of v))) f → Least (only (force_on p w)) f
    ceiling_gives =
        least-exact p.face.legs w.direction w.factor w.pressure p.face.areas p.face.gap.0 w.items hs v (en ∙ numerator-is) radicand-on den-on
