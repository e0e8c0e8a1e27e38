-- Sums, differences, products and squares of fractions.
use Prim.Native.Nat.{ℕ, ◌+◌, ◌*◌, ◌≤◌, ◌<◌}
use mathlib.Core.Path.{◌≡◌, ap, sym, subst₂}
use mathlib.Core.Logic.{◌⊎◌, inl, inr, ⊎_elim}
use native.Mathlib.Omega.{arith}
use native.Mathlib.Nat.{le_dest, le_of_mul-le-mul_right, mul-le-mul, mul-le-mul_right, mul-le-mul_left, mul-lt-mul_of_pos_right, mul-pos}
use Rattle.exact.specs.Fraction.{Fraction, ◌//◌, whole, ◌⊕◌, ◌⊖◌, ◌·◌, ◌≼◌, ◌≺◌, ◌≈◌, Proper}
use Rattle.exact.proofs.Order.{le-or-lt, ≼-or-≺}

subst₂⁻ : (P : ℕ → ℕ → Type 0) {a b c d : ℕ} → a ≡ b → c ≡ d → P b d → P a c
subst₂⁻ P h g = subst₂ P (sym h) (sym g)

-- products and sums of proper fractions are proper
module _ (x y : Fraction) (c : Proper x) (d : Proper y) where
  pub ·-proper : Proper (x · y)
  unfolding ◌·◌
  ·-proper = record { positive = mul-pos c.positive d.positive }

  pub ⊕-proper : Proper (x ⊕ y)
  unfolding ◌⊕◌
  ⊕-proper = record { positive = mul-pos c.positive d.positive }

  pub ⊖-proper : Proper (x ⊖ y)
  unfolding ◌⊖◌
  ⊖-proper = record { positive = mul-pos c.positive d.positive }

-- equal fractions have equal differences
pub ⊖-left : (x y z : Fraction) → x ≈ y → x ⊖ z ≈ y ⊖ z
unfolding ◌⊖◌
⊖-left x y z h = let g : _ = ap (λ (k : ℕ). k * (z.den * z.den)) h.cross in omega arith

-- not negative
pub record NonNeg (x : Fraction) : Type 0 where
  pub less : x.neg ≤ x.pos

-- differences from one fraction
module _ {a x : Fraction} where
  pub nonneg-of-≼ : x ≼ a → NonNeg (a ⊖ x)
  unfolding ◌⊖◌
  nonneg-of-≼ h = omega arith

module _ (a : Fraction) {x y : Fraction} where
  pub ⊖-flip : x ≼ y → a ⊖ y ≼ a ⊖ x
  unfolding ◌⊖◌
  ⊖-flip h = omega (arith, mul-le-mul_right (a.den * a.den) h.cross)

  pub ⊖-unflip : Proper a → a ⊖ y ≼ a ⊖ x → x ≼ y
  unfolding ◌⊖◌
  ⊖-unflip d h = record { cross = le_of_mul-le-mul_right {k = a.den * a.den} (omega arith) (mul-pos d.positive d.positive) }

-- squares
pub sq-le : (a b : ℕ) → a ≤ b → a * a ≤ b * b
sq-le a b h = mul-le-mul h h

pub sq-inv : (a b : ℕ) → a * a ≤ b * b → a ≤ b
sq-inv a b h = go (le-or-lt a b)
  where
    go : (a ≤ b) ⊎ (b < a) → a ≤ b
    go (inl g) = g
    go (inr g) =
        let k : b * a ≤ a * a = mul-le-mul_right a (omega arith) in
        let l : b * b ≤ b * a = mul-le-mul_left b (omega arith) in
        let m : b * a < a * a = mul-lt-mul_of_pos_right g (omega arith) in
        absurd (omega arith)

-- (n + u − n)/d and (m + v − m)/e
sq-shift : (n u d m v e : ℕ) → u * e ≤ v * d
    → ((n + u) * (n + u) + n * n) * (e * e) + ((m + v) * m + m * (m + v)) * (d * d)
    ≤ ((m + v) * (m + v) + m * m) * (d * d) + ((n + u) * n + n * (n + u)) * (e * e)
sq-shift n u d m v e h = omega (arith, sq-le (u * e) (v * d) h)

sq-unshift : (n u d m v e : ℕ)
    → ((n + u) * (n + u) + n * n) * (e * e) + ((m + v) * m + m * (m + v)) * (d * d)
    ≤ ((m + v) * (m + v) + m * m) * (d * d) + ((n + u) * n + n * (n + u)) * (e * e)
    → u * e ≤ v * d
sq-unshift n u d m v e h = sq-inv (u * e) (v * d) (omega arith)

pub sq-≼ : {u v : Fraction} → Proper u → NonNeg u → u ≼ v → u · u ≼ v · v
unfolding ◌·◌
sq-≼ {u} {v} c a h =
    let (i, eu) = le_dest a.less in
    let g : v.neg * u.den ≤ v.pos * u.den = omega (arith, mul-le-mul_right v.den a.less) in
    let (j, ev) = le_dest (le_of_mul-le-mul_right g c.positive) in
    let k : i * v.den ≤ j * u.den =
    omega (arith, ap (λ (z : ℕ). z * v.den) eu, ap (λ (z : ℕ). z * u.den) ev) in
    record {
      cross =
          subst₂
          (λ (p q : ℕ). (p * p + u.neg * u.neg) * (v.den * v.den) + (q * v.neg + v.neg * q) * (u.den * u.den)
          ≤ (q * q + v.neg * v.neg) * (u.den * u.den) + (p * u.neg + u.neg * p) * (v.den * v.den))
          eu ev (sq-shift u.neg i u.den v.neg j v.den k);
    }

-- of a v that is not negative
pub sq-≼⁻¹ : {u v : Fraction} → Proper u → Proper v → NonNeg v → u · u ≼ v · v → u ≼ v
unfolding ◌·◌
sq-≼⁻¹ {u} {v} c d a h = ⊎_elim (λ k. k) bad (≼-or-≺ u v)
  where
    bad : v ≺ u → u ≼ v
    bad k =
        let (j, ev) = le_dest a.less in
        let g : u.neg * v.den ≤ u.pos * v.den = omega (arith, mul-le-mul_right u.den a.less) in
        let (i, eu) = le_dest (le_of_mul-le-mul_right g d.positive) in
        let l : i * v.den ≤ j * u.den =
        sq-unshift u.neg i u.den v.neg j v.den
        (subst₂⁻
        (λ (p q : ℕ). (p * p + u.neg * u.neg) * (v.den * v.den) + (q * v.neg + v.neg * q) * (u.den * u.den)
        ≤ (q * q + v.neg * v.neg) * (u.den * u.den) + (p * u.neg + u.neg * p) * (v.den * v.den))
        eu ev h.cross) in
        omega (arith, ap (λ (z : ℕ). z * v.den) eu, ap (λ (z : ℕ). z * u.den) ev)

-- equal fractions have equal squares
pub sq-cong : {x y : Fraction} → x ≈ y → x · x ≈ y · y
unfolding ◌·◌
sq-cong {x} {y} h =
    let A : ℕ = x.pos * y.den in
    let B : ℕ = x.neg * y.den in
    let C : ℕ = y.pos * x.den in
    let E : ℕ = y.neg * x.den in
    let h1 : (A + E) * A ≡ (C + B) * A = ap (λ (z : ℕ). z * A) h.cross in
    let h2 : (A + E) * B ≡ (C + B) * B = ap (λ (z : ℕ). z * B) h.cross in
    let h3 : (A + E) * C ≡ (C + B) * C = ap (λ (z : ℕ). z * C) h.cross in
    let h4 : (A + E) * E ≡ (C + B) * E = ap (λ (z : ℕ). z * E) h.cross in
    omega (arith, h1, h2, h3, h4)

pub //-proper : (n d : ℕ) → 0 < d → Proper (n // d)
unfolding ◌//◌
//-proper n d h = record { positive = h }

pub whole-proper : (n : ℕ) → Proper (whole n)
unfolding whole ◌//◌
whole-proper n = omega arith
