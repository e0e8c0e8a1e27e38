-- Whole multiples of a number with a root: where it is not negative, a greater multiple is no less.
use Prim.Native.Nat.{ℕ, ◌+◌, ◌*◌, ◌≤◌, ◌<◌}
use mathlib.Core.Path.{◌≡◌, ap, subst, ◌∙◌}
use mathlib.Core.Logic.{⊎_elim}
use native.Mathlib.Omega.{arith}
use native.Mathlib.Nat.{le_dest, mul-pos, mul-le-mul_left, mul-le-mul_right, le_of_mul-le-mul_left, le_of_mul-le-mul_right}
use Rattle.exact.specs.Fraction.{Fraction, ◌//◌, whole, ◌⊖◌, ◌·◌, ◌≼◌, ◌≺◌, Proper}
use Rattle.exact.specs.Rooted.{Rooted, ◌⊙◌, square, ◌≼√◌, ◌√≼◌, over, squared, Defined}
use Rattle.exact.specs.Number.{only, NotAbove}
use Rattle.exact.proofs.Order.{le-or-lt, ≼_trans, ≼-or-≺, ≺→≼, ≺-not-≽}
use Rattle.exact.proofs.Arithmetic.{NonNeg, ·-proper, ⊖-proper, ⊖-flip, nonneg-of-≼, sq-≼, whole-proper}
use Rattle.exact.proofs.Compare.{⊙-defined, √-ordered, √-down}
use Rattle.exact.proofs.Greatest.{at-most-only, only-at-most, at-least-only, only-at-least}

same : {a b c p q r : ℕ} → a ≡ p → b ≡ q → c ≡ r
    → ◌≡◌ {A = Fraction} (record { pos = a; neg = b; den = c }) (record { pos = p; neg = q; den = r })
same h g k = rw (h, g, k)

-- products of fractions, one after another
·-assoc : (x y z : Fraction) → x · y · z ≡ x · (y · z)
unfolding ◌·◌
·-assoc x y z = same (omega arith) (omega arith) (omega arith)

pub ⊙-assoc : (x y : Fraction) (v : Rooted) → x · y ⊙ v ≡ x ⊙ (y ⊙ v)
unfolding ◌⊙◌
⊙-assoc x y v = rw (·-assoc x y v.rational, ·-assoc x y v.factor)

-- multiples: of a multiple, of a difference, of both factors of a product, and of a number with a root under its square
module _ (m n : ℕ) (x : Fraction) where
  times-times : whole m · (whole n · x) ≡ whole n · (whole m · x)
  unfolding whole ◌//◌ ◌·◌
  times-times = same (omega arith) (omega arith) (omega arith)

module _ (n : ℕ) (x y : Fraction) where
  times-⊖ : whole n · (x ⊖ y) ≡ whole n · x ⊖ whole n · y
  unfolding whole ◌//◌ ◌·◌ ◌⊖◌
  times-⊖ = same (omega arith) (omega arith) (omega arith)

  times-product : (whole n · x) · (whole n · y) ≡ whole (n * n) · (x · y)
  unfolding whole ◌//◌ ◌·◌
  times-product = same (omega arith) (omega arith) (omega arith)

times-square : (n : ℕ) (v : Rooted) → square (whole n ⊙ v) ≡ whole (n * n) · square v
unfolding square ◌⊙◌
times-square n v = ap (λ (x : Fraction). x · v.radicand) (times-product n v.factor v.factor) ∙ ·-assoc _ _ _

-- multiples in order
module _ (n : ℕ) {x y : Fraction} where
  times-≼ : x ≼ y → whole n · x ≼ whole n · y
  unfolding whole ◌//◌ ◌·◌
  times-≼ h = omega (arith, mul-le-mul_left n h.cross)

  times-≼⁻¹ : 0 < n → whole n · x ≼ whole n · y → x ≼ y
  unfolding whole ◌//◌ ◌·◌
  times-≼⁻¹ p h = record { cross = le_of_mul-le-mul_left {k = n} (omega (arith, h.cross)) p }

crossed : (m n u w : ℕ) → m ≤ n → w ≤ u → m * u + n * w ≤ n * u + m * w
crossed m n u w h g =
    let (i, e) = le_dest h in
    let (j, f) = le_dest g in
    rw (← e, ← f) (omega arith)

more-≼ : {m n : ℕ} (x : Fraction) → m ≤ n → NonNeg x → whole m · x ≼ whole n · x
unfolding whole ◌//◌ ◌·◌
more-≼ {m} {n} x h z = omega (arith, mul-le-mul_right x.den (crossed m n x.pos x.neg h z.less))

-- 0 times a fraction
none-≼ : {x y : Fraction} → Proper y → x ≼ whole 0 · y → x ≼ whole 0
unfolding whole ◌//◌ ◌·◌
none-≼ {x} {y} d h =
    let k : x.pos ≤ x.neg = le_of_mul-le-mul_right {k = y.den} (omega (arith, h.cross)) d.positive in
    record { cross = omega arith }

nonneg-whole : {x : Fraction} → whole 0 ≼ x → NonNeg x
unfolding whole ◌//◌
nonneg-whole h = record { less = omega (arith, h.cross) }

times-nonneg : (n : ℕ) {x : Fraction} → NonNeg x → NonNeg (whole n · x)
unfolding whole ◌//◌ ◌·◌
times-nonneg n h = record { less = omega (arith, mul-le-mul_left n h.less) }

-- v times m and v times n, where every multiple of v is not negative
module _ {v : Rooted} (d : Defined v) (z : (n : ℕ) → whole 0 ≼√ whole n ⊙ v) {m n : ℕ} (h : m ≤ n) (p : 0 < n) {x : Fraction} (c : Proper x) where
  defined : (k : ℕ) → Defined (whole k ⊙ v)
  defined k = ⊙-defined (whole-proper k) d

  gap : ℕ → Fraction
  gap k = whole k · v.rational ⊖ x

  gap-proper : (k : ℕ) → Proper (gap k)
  unfolding gap
  gap-proper k = ⊖-proper _ _ (·-proper _ _ (whole-proper k) d.rational) c

  -- the rational part of v is not negative
  rational-nonneg : NonNeg v.rational
  unfolding whole ◌//◌ ◌·◌ ◌⊙◌
  rational-nonneg = record { less = omega (arith, (z 1).under.cross) }

  rational-more : whole m · v.rational ≼ whole n · v.rational
  rational-more = more-≼ v.rational h rational-nonneg

  gaps : NonNeg x → whole n · gap m ≼ whole m · gap n
  unfolding gap
  gaps s =
      rw (times-⊖ n (whole m · v.rational) x, times-⊖ m (whole n · v.rational) x, times-times n m v.rational)
      (⊖-flip (whole m · (whole n · v.rational)) (more-≼ x h s))

  gap-squares : NonNeg x → NonNeg (gap m) → whole (n * n) · (gap m · gap m) ≼ whole (m * m) · (gap n · gap n)
  gap-squares s t =
      rw (← times-product n (gap m) (gap m), ← times-product m (gap n) (gap n))
      (sq-≼ (·-proper _ _ (whole-proper n) (gap-proper m)) (times-nonneg n t) (gaps s))

  -- what is at least n times v is at least m times v
  less-at-least : whole n ⊙ v √≼ x → whole m ⊙ v √≼ x
  unfolding ◌⊙◌ gap
  less-at-least g = go g
    where
      s : NonNeg x
      s = nonneg-whole (√-ordered (defined n) (whole-proper 0) c (z n) g)

      under : (gap n · gap n ≼ square (whole n ⊙ v)) → x ≺ whole m · v.rational → whole m ⊙ v √≼ x
      under k l =
          squared
          (rw (times-square m v)
          (times-≼⁻¹ (n * n) (mul-pos p p)
          (≼_trans (·-proper _ _ (whole-proper _) (·-proper _ _ (gap-proper n) (gap-proper n))) (gap-squares s (nonneg-of-≼ (≺→≼ _ _ l)))
          (rw (times-times (n * n) (m * m) (square v)) (times-≼ (m * m) (rw (times-square n v) at k))))))

      go : whole n ⊙ v √≼ x → whole m ⊙ v √≼ x
      go (over k) = over (≼_trans (·-proper _ _ (whole-proper n) d.rational) rational-more k)
      go (squared k) = ⊎_elim over (under k) (≼-or-≺ (whole m · v.rational) x)

  -- what is at most m times v is at most n times v
  more-at-most : x ≼√ whole m ⊙ v → x ≼√ whole n ⊙ v
  unfolding ◌⊙◌ gap
  more-at-most g = ⊎_elim (λ l. √-down (defined n) c (whole-proper 0) l (z n)) over_none (≼-or-≺ x (whole 0))
    where
      positive : whole 0 ≺ x → 0 < m
      positive l = ⊎_elim (λ k. absurd (none k)) (λ k. k) (le-or-lt m 0)
        where
          none : m ≤ 0 → ⊥
          none k =
              let e : m ≡ 0 = omega arith in
              ≺-not-≽ _ _ l (none-≼ d.rational (subst (λ (i : ℕ). x ≼ whole i · v.rational) e g.under))

      over_none : whole 0 ≺ x → x ≼√ whole n ⊙ v
      over_none l =
          let q : 0 < m = positive l in
          record {
            under = ≼_trans (·-proper _ _ (whole-proper m) d.rational) g.under rational-more;
            squared =
                rw (times-square n v)
                (times-≼⁻¹ (m * m) (mul-pos q q)
                (≼_trans (·-proper _ _ (whole-proper _) (·-proper _ _ (gap-proper m) (gap-proper m)))
                (rw (times-times (m * m) (n * n) (square v)) (times-≼ (n * n) (rw (times-square m v) at g.squared)))
                (gap-squares (nonneg-whole (≺→≼ _ _ l)) (nonneg-of-≼ g.under))));
          }

-- a greater multiple of a number that is not negative is not below
pub multiple-grows : {v : Rooted} → Defined v → ((n : ℕ) → whole 0 ≼√ whole n ⊙ v) → {m n : ℕ} → m ≤ n → 0 < n
    → NotAbove (only (whole m ⊙ v)) (only (whole n ⊙ v))
multiple-grows d z h p =
    record {
      at-most = λ x c l. at-most-only (more-at-most d z h p c (only-at-most l));
      at_least = λ x c l. at-least-only (less-at-least d z h p c (only-at-least l));
    }
