-- The least whole number of newtons, from bounds of the face's sum less its root.
use mathlib.Core.Path.{◌≡◌, ap}
use mathlib.Core.Logic.{⊎_elim}
use Prim.Native.Nat.{ℕ, ◌+◌, ◌-◌, ◌*◌, ◌≤◌, ◌<◌}
use native.Mathlib.Omega.{arith}
use native.Mathlib.Nat.{mul-le-mul_left, eq-zero-or-pos}
use Rattle.exact.specs.Number.{only, Least}
use Rattle.exact.specs.Surd.{number}
use Rattle.model.specs.declared.Legs.{Legs}
use Rattle.model.specs.declared.Areas.{Areas}
use Rattle.model.specs.Areas.{solid}
use Rattle.model.specs.Force.{face_force}
use Rattle.model.specs.WholeForm.{gross_of, incidence_den, incidence_num, face_den, face_num, root_num, whole_form}
use Rattle.std.specs.Prelude.{Option, None, Some, IfSome, IsSomeAnd}
use Rattle.rounding.specs.Bounds.{Between, Decides}
use Rattle.rounding.specs.declared.bounds.Bounds.{Bounds}
use Rattle.rounding.specs.declared.bounds.Linear.{Linear}
use Rattle.rounding.proofs.Deciding.{decides, none-missing}
use Rattle.force.specs.declared.prepared.PreparedFace.{PreparedFace}
use Rattle.force.specs.declared.prepared.Loading.{Loading}
use Rattle.force.specs.Prepared.{root_square}
use Rattle.force.specs.FaceForce.{force_on, LinearOf}
use Rattle.force.proofs.Quotient.{form, num-is, radicand-of, den-is, den-above, whole-exact}

-- no supercritical member: there is no root
pub rootless : (l : Legs) (a : Areas) (e sum : ℕ) → a.supercritical.0 ≡ 0 → Between sum (root_square l a e) sum sum
unfolding root_square
rootless l a e sum h =
    let z : sum - sum ≡ 0 = omega arith in
    record { low_fits = omega arith; high_fits = omega arith; below = rw (z, h) (omega arith); above = rw (z, h) (omega arith) }

-- the product that code forms
pub square_is : (l : Legs) (a : Areas) (e v r : ℕ) → v ≡ a.supercritical.0 * ((solid a).0 + e) → r ≡ root_num l (solid a).0 e
    → v * v * (r * 1_000_000_000_000) ≡ root_square l a e
unfolding root_square
square_is l a e v r ev er = rw (ev, er)

with_root : (k i high less sum c d F : ℕ) → high + less ≡ sum → k * (i * high + c * d) ≤ F → k * (i * sum + c * d) ≤ F + k * i * less
with_root k i high less sum c d F e h = let g : k * i * (high + less) ≡ k * i * sum = ap (λ (n : ℕ). k * i * n) e in omega arith

without-root : (k i low more sum c d F : ℕ) → low + more ≡ sum → F < k * (i * low + c * d) → F + k * i * more < k * (i * sum + c * d)
without-root k i low more sum c d F e h = let g : k * i * (low + more) ≡ k * i * sum = ap (λ (n : ℕ). k * i * n) e in omega arith

low-square : (k i less p u R : ℕ) → k * i * (k * i) * (less * less) ≤ k * i * (k * i) * (p * u * (p * u) * (R * 1_000_000_000_000))
    → k * i * less * (k * i * less) ≤ k * i * 1_000_000 * p * u * (k * i * 1_000_000 * p * u) * R
low-square k i less p u R h = omega arith

high-square : (k i more p u R : ℕ) → k * i * (k * i) * (p * u * (p * u) * (R * 1_000_000_000_000)) ≤ k * i * (k * i) * (more * more)
    → k * i * 1_000_000 * p * u * (k * i * 1_000_000 * p * u) * R ≤ k * i * more * (k * i * more)
high-square k i more p u R h = omega arith

module _ (k i sum c d p u R low high f : ℕ) (b : Between sum (p * u * (p * u) * (R * 1_000_000_000_000)) low high)
    (t : Decides k i low high d c f) (z : 0 < d) where
  least-bounded : Least (only (number (record {
    num = k * (i * sum + c * d);
    radicand = k * i * 1_000_000 * p * u * (k * i * 1_000_000 * p * u) * R;
    den = d * 1_000_000_000_000_000;
  }))) f
  least-bounded =
      let less : ℕ = sum - high in
      let more : ℕ = sum - low in
      let eh : high + less ≡ sum = omega (arith, b.high_fits) in
      let el : low + more ≡ sum = omega (arith, b.low_fits) in
      decides _ (k * i * less) (k * i * more) f (omega arith) t.positive
      (low-square k i less p u R (mul-le-mul_left (k * i * (k * i)) b.below)) (high-square k i more p u R (mul-le-mul_left (k * i * (k * i)) b.above))
      (with_root k i high less sum c d _ eh t.enough) (without-root k i low more sum c d _ el (t.short z))

-- of a section's numbers
module _ (l : Legs) (k factor q : ℕ) (a : Areas) (e items : ℕ) (hs : 0 < (solid a).0) where
  -- the face's sum and the divisor that code works out
  module _ (sum d : ℕ) (es : sum ≡ face_num l a e * 1_000_000) (ed : d ≡ incidence_den l (solid a).0 e * face_den l ((solid a).0 + e)) where
    pub divisor-above : 0 < d
    unfolding whole_form
    divisor-above = pos-of-mul d 1_000_000_000_000_000 (rw (← ed) at (den-above l k factor q a e items hs))
      where
        pos-of-mul : (x y : ℕ) → 0 < x * y → 0 < x
        pos-of-mul x y h = ⊎_elim (λ (z : x ≡ 0). absurd (let w : x * y ≡ 0 * y = ap (λ (n : ℕ). n * y) z in omega arith)) (λ (g : 0 < x). g) (eq-zero-or-pos x)

    pub bounded-exact : (factored inc low high f : ℕ) → factored ≡ q * factor → inc ≡ incidence_num l k a e
        → Between sum (root_square l a e) low high → Decides factored inc low high d items f
        → Least (only (face_force l k factor q (gross_of a e) a items)) f
    unfolding root_square
    bounded-exact factored inc low high f el ei b t =
        let g : _ = least-bounded factored inc sum items d a.supercritical.0 ((solid a).0 + e) (root_num l (solid a).0 e) low high f b t divisor-above in
        let n : _ = num-is l k factor q a e items factored inc sum d el ei es ed in
        let m : _ = radicand-of l k factor q a e items factored inc el ei in
        let w : _ = den-is l k factor q a e items d ed in
        whole-exact l k factor q a e items hs f (rw (n, m, w) at g)

  -- no pressure, no force
  pub none-exact : q * factor ≡ 0 → Least (only (face_force l k factor q (gross_of a e) a items)) 0
  unfolding whole_form
  none-exact z = whole-exact l k factor q a e items hs 0 (none-missing (form l k factor q a e items) (den-above l k factor q a e items hs) (rw z (omega arith)))

-- of a prepared face
module _ (p : PreparedFace) (w : Loading) (hs : 0 < (solid p.face.areas).0) where
  pub prepared-above : 0 < p.divisor
  prepared-above = divisor-above p.face.legs w.direction w.factor w.pressure p.face.areas p.face.gap.0 w.items hs p.sum p.divisor p.sum_is p.divisor_is

  module _ (x : Linear) (g : LinearOf p w x) (f : ℕ) where
    exact-between : (low high : ℕ) → Between p.sum (root_square p.face.legs p.face.areas p.face.gap.0) low high
        → Decides x.factor x.slope low high x.divisor x.offset f → Least (only (force_on p w)) f
    exact-between low high b t =
        bounded-exact p.face.legs w.direction w.factor w.pressure p.face.areas p.face.gap.0 w.items hs p.sum p.divisor p.sum_is p.divisor_is
        x.factor x.slope low high f g.factor g.slope b (rw (g.divisor, g.offset) at t)

    -- by the bounds that are known
    pub by-bounds : IsSomeAnd p.less_root (λ b. Decides x.factor x.slope b.low b.high x.divisor x.offset f) → Least (only (force_on p w)) f
    by-bounds t = go p.less_root p.bounded t
      where
        go : (o : Option (Bounds ℕ)) → IfSome o (λ b. Between p.sum (root_square p.face.legs p.face.areas p.face.gap.0) b.low b.high)
            → IsSomeAnd o (λ b. Decides x.factor x.slope b.low b.high x.divisor x.offset f) → Least (only (force_on p w)) f
        go None b t = absurd t
        go (Some r) b t = exact-between r.low r.high b t

    -- at the sum, where there is no root
    pub by-sum : p.face.areas.supercritical.0 ≡ 0 → Decides x.factor x.slope p.sum p.sum x.divisor x.offset f → Least (only (force_on p w)) f
    by-sum z t = exact-between p.sum p.sum (rootless p.face.legs p.face.areas p.face.gap.0 p.sum z) t

  pub no-pressure : w.pressure * w.factor ≡ 0 → Least (only (force_on p w)) 0
  no-pressure = none-exact p.face.legs w.direction w.factor w.pressure p.face.areas p.face.gap.0 w.items hs
