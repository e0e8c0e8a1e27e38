-- The value of a fraction as n / d, carried through sums and products: so a formula of fractions becomes one fraction of whole numbers.
use Prim.Native.Nat.{ℕ, ◌+◌, ◌*◌}
use mathlib.Core.Path.{◌≡◌, ap, subst₂}
use native.Mathlib.Omega.{arith}
use Rattle.exact.specs.Fraction.{Fraction, ◌//◌, whole, ◌⊕◌, ◌·◌}
use Rattle.exact.specs.Rooted.{Rooted, square, Same}
use Rattle.exact.specs.Surd.{Surd, number}

-- the value of x is n / d
pub record Is (x : Fraction) (n d : ℕ) : Type 0 where
  pub cross : x.pos * d ≡ n * x.den + x.neg * d

module _ {x y : Fraction} {n d m e : ℕ} where
  pub ·-is : Is x n d → Is y m e → Is (x · y) (n * m) (d * e)
  unfolding ◌·◌
  ·-is h g =
      let h1 : _ = ap (λ (z : ℕ). z * (y.pos * e)) h.cross in
      let h2 : _ = ap (λ (z : ℕ). z * (y.neg * e)) h.cross in
      let g1 : _ = ap (λ (z : ℕ). z * (n * x.den)) g.cross in
      omega arith

module _ {x y : Fraction} {n d m : ℕ} where
  pub ⊕-is : Is x n d → Is y m d → Is (x ⊕ y) (n + m) d
  unfolding ◌⊕◌
  ⊕-is h g =
      let h1 : _ = ap (λ (z : ℕ). z * y.den) h.cross in
      let g1 : _ = ap (λ (z : ℕ). z * x.den) g.cross in
      omega arith

pub //-is : (n d : ℕ) → Is (n // d) n d
unfolding ◌//◌
//-is n d = omega arith

pub one-plus : {y : Fraction} {m d : ℕ} → Is y m d → Is (whole 1 ⊕ y) (d + m) d
unfolding whole ◌//◌ ◌⊕◌
one-plus h = omega arith

-- numerator and denominator times c
pub rescale : {x : Fraction} {n d : ℕ} (c : ℕ) → Is x n d → Is x (n * c) (d * c)
rescale c h = let h1 : _ = ap (λ (z : ℕ). z * c) h.cross in omega arith

pub re-is : {x : Fraction} {n d n' d' : ℕ} → n ≡ n' → d ≡ d' → Is x n d → Is x n' d'
re-is {x} h g i = subst₂ (λ (n d : ℕ). Is x n d) h g i

-- a number with a root is that of whole numbers
pub is_number : (x : Rooted) (w : Surd) → Is x.rational w.num w.den → Is (square x) w.radicand (w.den * w.den) → Same x (number w)
unfolding number square ◌//◌ ◌·◌
is_number x w h g = record { rational = omega arith; square = omega arith }
