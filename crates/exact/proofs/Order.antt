-- The order of fractions.
use Prim.Native.Nat.{ℕ, ◌≤◌, ◌<◌}
use mathlib.Core.Logic.{◌⊎◌, inl, inr, ⊎_elim}
use native.Mathlib.Omega.{arith}
use native.Mathlib.Decide.{dec_le}
use native.Mathlib.Nat.{lt_of_not-le, le_of_mul-le-mul_right, mul-le-mul_right}
use Rattle.exact.specs.Fraction.{Fraction, ◌≼◌, ◌≺◌, ◌≈◌, Proper}

pub le-or-lt : (m n : ℕ) → (m ≤ n) ⊎ (n < m)
le-or-lt m n = go (dec_le m n)
  where
    go : Dec (m ≤ n) → (m ≤ n) ⊎ (n < m)
    go (yes h) = inl h
    go (no h) = inr (lt_of_not-le h)

module _ (x y : Fraction) where
  pub ≼-or-≺ : (x ≼ y) ⊎ (y ≺ x)
  ≼-or-≺ = ⊎_elim (λ h. inl (record { cross = h })) (λ h. inr (record { cross = h })) (le-or-lt _ _)

  pub ≈→≼ : x ≈ y → x ≼ y
  ≈→≼ h = omega arith

  pub ≈→≽ : x ≈ y → y ≼ x
  ≈→≽ h = omega arith

  pub ≈-sym : x ≈ y → y ≈ x
  ≈-sym h = omega arith

  pub ≺→≼ : x ≺ y → x ≼ y
  ≺→≼ h = omega arith

  pub ≺-not-≽ : x ≺ y → y ≼ x → ⊥
  ≺-not-≽ h g = omega arith

pub ≼_refl : (x : Fraction) → x ≼ x
≼_refl x = omega arith

module _ {x y z : Fraction} where
  pub ≼_trans : Proper y → x ≼ y → y ≼ z → x ≼ z
  ≼_trans d h g =
      record {
        cross =
            le_of_mul-le-mul_right {k = y.den}
            (omega (arith, mul-le-mul_right z.den h.cross, mul-le-mul_right x.den g.cross))
            d.positive;
      }
