-- Fractions with a sign, over the natural numbers. They are not reduced, and are meant where the denominator is not 0.
-- Their sum, difference, product and order have symbols of their own, so that + * ≤ < stay those of the natural numbers.
use Rattle.std.specs.Prelude.{ℕ, ◌+◌, ◌*◌, ◌≤◌, ◌<◌, ◌≡◌, Bool, leb}

infix 80 ◌//◌
infixl 70 ◌·◌
infixl 60 ◌⊕◌ ◌⊖◌
infix 40 ◌≼◌ ◌≺◌ ◌≈◌ ◌≼ᵇ◌
-- the rational number (pos − neg) / den
pub record Fraction : Type 0 where
  pub pos : ℕ
  pub neg : ℕ
  pub den : ℕ

-- n / d, and the whole number n
unfoldable pub ◌//◌ : ℕ → ℕ → Fraction
n // d = record { pos = n; neg = 0; den = d }

unfoldable pub whole : ℕ → Fraction
unfolding ◌//◌
whole n = n // 1

-- sum, difference, product
unfoldable pub ◌⊕◌ : Fraction → Fraction → Fraction
x ⊕ y =
    record {
      pos = x.pos * y.den + y.pos * x.den;
      neg = x.neg * y.den + y.neg * x.den;
      den = x.den * y.den;
    }

unfoldable pub ◌⊖◌ : Fraction → Fraction → Fraction
x ⊖ y =
    record {
      pos = x.pos * y.den + y.neg * x.den;
      neg = x.neg * y.den + y.pos * x.den;
      den = x.den * y.den;
    }

unfoldable pub ◌·◌ : Fraction → Fraction → Fraction
x · y =
    record {
      pos = x.pos * y.pos + x.neg * y.neg;
      neg = x.pos * y.neg + x.neg * y.pos;
      den = x.den * y.den;
    }

-- the denominator is not 0
pub record Proper (x : Fraction) : Type 0 where
  pub positive : 0 < x.den

-- at most, below, equal: both sides multiplied by the denominators, what is subtracted moved to the other side
pub record ◌≼◌ (x y : Fraction) : Type 0 where
  pub cross : x.pos * y.den + y.neg * x.den ≤ y.pos * x.den + x.neg * y.den

pub record ◌≺◌ (x y : Fraction) : Type 0 where
  pub cross : x.pos * y.den + y.neg * x.den < y.pos * x.den + x.neg * y.den

pub record ◌≈◌ (x y : Fraction) : Type 0 where
  pub cross : x.pos * y.den + y.neg * x.den ≡ y.pos * x.den + x.neg * y.den

-- at most, as a test
unfoldable pub ◌≼ᵇ◌ : Fraction → Fraction → Bool
x ≼ᵇ y = leb (x.pos * y.den + y.neg * x.den) (y.pos * x.den + x.neg * y.den)
