-- The comparison of a fraction with a number with a root. Callers use these laws, and not the squares behind them.
use mathlib.Core.Logic.{◌⊎◌, inl, inr, ⊎_elim}
use Rattle.exact.specs.Fraction.{Fraction, ◌⊖◌, ◌·◌, ◌≼◌, ◌≺◌, Proper}
use Rattle.exact.specs.Rooted.{Rooted, ◌⊞◌, ◌⊙◌, square, ◌≼√◌, ◌√≼◌, over, squared, Defined, Same}
use Rattle.exact.proofs.Order.{≼_trans, ≼-or-≺, ≺→≼, ≈→≼, ≈→≽, ≈-sym}
use Rattle.exact.proofs.Arithmetic.{·-proper, ⊕-proper, ⊖-proper, ⊖-left, nonneg-of-≼, ⊖-flip, ⊖-unflip, sq-≼, sq-≼⁻¹, sq-cong}

pub square-proper : {e : Rooted} → Defined e → Proper (square e)
unfolding square
square-proper s = ·-proper _ _ (·-proper _ _ s.factor s.factor) s.radicand

-- sums and products of numbers with no denominator 0
pub ⊞-defined : {x : Fraction} {e : Rooted} → Proper x → Defined e → Defined (x ⊞ e)
unfolding ◌⊞◌
⊞-defined d s = record { rational = ⊕-proper _ _ d s.rational; factor = s.factor; radicand = s.radicand }

pub ⊙-defined : {x : Fraction} {e : Rooted} → Proper x → Defined e → Defined (x ⊙ e)
unfolding ◌⊙◌
⊙-defined d s = record { rational = ·-proper _ _ d s.rational; factor = ·-proper _ _ d s.factor; radicand = s.radicand }

module _ {e : Rooted} (s : Defined e) where
  gap : {x : Fraction} → Proper x → Proper (e.rational ⊖ x)
  gap d = ⊖-proper _ _ s.rational d

  -- x ≤ e ≤ y gives x ≤ y
  pub √-ordered : {x y : Fraction} → Proper x → Proper y → x ≼√ e → e √≼ y → x ≼ y
  √-ordered {x} {y} c d l (over h) = ≼_trans s.rational l.under h
  √-ordered {x} {y} c d l (squared h) =
      ⊖-unflip e.rational s.rational
      (sq-≼⁻¹ (gap d) (gap c) (nonneg-of-≼ l.under) (≼_trans (square-proper s) h l.squared))

  -- every fraction is at most e or at least e
  pub √-comparable : (x : Fraction) → (x ≼√ e) ⊎ (e √≼ x)
  √-comparable x = ⊎_elim (λ h. inr (over h)) under (≼-or-≺ e.rational x)
    where
      under : x ≺ e.rational → (x ≼√ e) ⊎ (e √≼ x)
      under h =
          ⊎_elim (λ g. inl (record { under = ≺→≼ _ _ h; squared = g })) (λ g. inr (squared (≺→≼ _ _ g)))
          (≼-or-≺ (square e) ((e.rational ⊖ x) · (e.rational ⊖ x)))

  -- what is below a number that is at most e is at most e
  pub √-down : {x y : Fraction} → Proper x → Proper y → x ≼ y → y ≼√ e → x ≼√ e
  √-down c d h l =
      record {
        under = ≼_trans d h l.under;
        squared =
            ≼_trans (·-proper _ _ (gap d) (gap d)) l.squared
            (sq-≼ (gap d) (nonneg-of-≼ l.under) (⊖-flip e.rational h));
      }

  -- what is above a number that is at least e is at least e
  pub √-up : {x y : Fraction} → Proper x → Proper y → x ≼ y → e √≼ x → e √≼ y
  √-up c d h (over g) = over (≼_trans c g h)
  √-up {x} {y} c d h (squared g) = ⊎_elim over under (≼-or-≺ e.rational y)
    where
      under : y ≺ e.rational → e √≼ y
      under k =
          squared
          (≼_trans (·-proper _ _ (gap c) (gap c)) (sq-≼ (gap d) (nonneg-of-≼ (≺→≼ _ _ k)) (⊖-flip e.rational h)) g)

pub same-sym : {x y : Rooted} → Same x y → Same y x
same-sym e = record { rational = ≈-sym _ _ e.rational; square = ≈-sym _ _ e.square }

-- the same number compares alike
module _ {x y : Rooted} (sx : Defined x) (e : Same x y) (z : Fraction) (d : Proper z) where
  gaps : Proper ((x.rational ⊖ z) · (x.rational ⊖ z))
  gaps = ·-proper _ _ (⊖-proper _ _ sx.rational d) (⊖-proper _ _ sx.rational d)

  pub below-same : z ≼√ x → z ≼√ y
  below-same l =
      record {
        under = ≼_trans sx.rational l.under (≈→≼ _ _ e.rational);
        squared =
            ≼_trans (square-proper sx) (≈→≽ _ _ e.square)
            (≼_trans gaps l.squared (≈→≼ _ _ (sq-cong (⊖-left _ _ z e.rational))));
      }

  pub above_same : x √≼ z → y √≼ z
  above_same (over h) = over (≼_trans sx.rational (≈→≽ _ _ e.rational) h)
  above_same (squared h) =
      squared
      (≼_trans gaps (≈→≽ _ _ (sq-cong (⊖-left _ _ z e.rational))) (≼_trans (square-proper sx) h (≈→≼ _ _ e.square)))
