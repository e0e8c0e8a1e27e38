-- Sums of exact numbers: from the band of each term to the band of the sum.
use Prim.Native.Nat.{ℕ, ◌+◌, ◌*◌, ◌<◌}
use mathlib.Core.List.{List, Forall₂}
use native.Mathlib.Omega.{arith}
use native.Mathlib.Nat.{lt_irrefl, mul-le-mul_right, mul-lt-mul_of_pos_right, mul-pos}
use lib.ListN.{length}
use Rattle.exact.specs.Fraction.{Fraction, ◌//◌, whole, ◌⊕◌, ◌·◌, ◌≼◌, ◌≺◌, Proper}
use Rattle.exact.specs.Number.{Sound, Within}
use Rattle.exact.specs.Sum.{Term, Low, High, total, weighted, arms, NeverBelow, LessAbove, ExcessBelow}
use Rattle.exact.proofs.Order.{≼_refl, ≺→≼}
use Rattle.exact.proofs.Arithmetic.{·-proper, ⊕-proper, whole-proper}
use Rattle.exact.proofs.Greatest.{ordered}

-- n stands for the term: it lies in the band, and the arm is not 0
pub record Reported (margin n : ℕ) (t : Term) : Type 0 where
  pub sound : Sound t.exact
  pub within : Within margin t.exact n
  pub arm : 0 < t.arm

-- one term more, from either side
module _ (x y : Fraction) (a n m : ℕ) where
  more-≼ : x ≼ whole n → y ≼ whole m → whole a · x ⊕ y ≼ whole (n * a + m)
  unfolding whole ◌//◌ ◌·◌ ◌⊕◌
  more-≼ h g =
      let h1 : _ = mul-le-mul_right (a * y.den) h.cross in
      let g1 : _ = mul-le-mul_right x.den g.cross in
      omega arith

  module _ (margin b : ℕ) where
    more-≽ : whole n ≼ x ⊕ whole margin → whole m ≼ y ⊕ whole (margin * b) → whole (n * a + m) ≼ whole a · x ⊕ y ⊕ whole (margin * (a + b))
    unfolding whole ◌//◌ ◌·◌ ◌⊕◌
    more-≽ h g =
        let h1 : _ = mul-le-mul_right (a * y.den) h.cross in
        let g1 : _ = mul-le-mul_right x.den g.cross in
        omega arith

    more-≻ : 0 < a → Proper y → whole n ≺ x ⊕ whole margin → whole m ≼ y ⊕ whole (margin * b)
        → whole (n * a + m) ≺ whole a · x ⊕ y ⊕ whole (margin * (a + b))
    unfolding whole ◌//◌ ◌·◌ ◌⊕◌
    more-≻ p d h g =
        let h1 : _ = mul-lt-mul_of_pos_right h.cross (mul-pos p d.positive) in
        let g1 : _ = mul-le-mul_right x.den g.cross in
        omega arith

total-≼ : {margin : ℕ} {ns : List ℕ} {xs : List Fraction} {ts : List Term} → Forall₂ (Reported margin) ns ts → Forall₂ Low xs ts
    → total xs ts ≼ whole (weighted ns ts)
unfolding total weighted
total-≼ Forall₂.nil Forall₂.nil = ≼_refl _
total-≼ (Forall₂.cons {a = n} r rs) (Forall₂.cons {a = x} {b = t} l ls) =
    more-≼ x _ t.arm n _ (ordered r.sound l.proper (whole-proper n) l.at_most r.within.enough) (total-≼ rs ls)

total-proper : {xs : List Fraction} {ts : List Term} → Forall₂ High xs ts → Proper (total xs ts)
unfolding total
total-proper Forall₂.nil = whole-proper 0
total-proper (Forall₂.cons h hs) = ⊕-proper _ _ (·-proper _ _ (whole-proper _) h.proper) (total-proper hs)

no-terms : (margin : ℕ) → whole 0 ≼ whole 0 ⊕ whole (margin * 0)
unfolding whole ◌//◌ ◌⊕◌
no-terms margin = omega arith

total-≽ : {margin : ℕ} {ns : List ℕ} {xs : List Fraction} {ts : List Term} → Forall₂ (Reported margin) ns ts → Forall₂ High xs ts
    → whole (weighted ns ts) ≼ total xs ts ⊕ whole (margin * arms ts)
unfolding total weighted arms
total-≽ {margin} Forall₂.nil Forall₂.nil = no-terms margin
total-≽ {margin} (Forall₂.cons {a = n} r rs) (Forall₂.cons {a = x} {b = t} h hs) =
    more-≽ x _ t.arm n _ margin _ (≺→≼ _ _ (r.within.close x h.proper h.at_least)) (total-≽ rs hs)

total-≻ : {margin : ℕ} {ns : List ℕ} {xs : List Fraction} {ts : List Term} → 0 < length ts → Forall₂ (Reported margin) ns ts → Forall₂ High xs ts
    → whole (weighted ns ts) ≺ total xs ts ⊕ whole (margin * arms ts)
unfolding total weighted arms
total-≻ q Forall₂.nil Forall₂.nil = absurd (lt_irrefl 0 q)
total-≻ {margin} q (Forall₂.cons {a = n} r rs) (Forall₂.cons {a = x} {b = t} h hs) =
    more-≻ x _ t.arm n _ margin _ r.arm (total-proper hs) (r.within.close x h.proper h.at_least) (total-≽ rs hs)

-- the weighted sum of the reported numbers is never below the sum of the terms
pub never_below : {margin : ℕ} {ns : List ℕ} {ts : List Term} → Forall₂ (Reported margin) ns ts → NeverBelow ts (weighted ns ts)
never_below rs = record { sums = λ xs ls. total-≼ rs ls }

-- and it is less than the margin times the sum of the arms above it
pub less_above : {margin : ℕ} {ns : List ℕ} {ts : List Term} → 0 < length ts → Forall₂ (Reported margin) ns ts
    → LessAbove ts (weighted ns ts) (margin * arms ts)
less_above q rs = record { sums = λ xs hs. total-≻ q rs hs }

pub excess-below : {margin : ℕ} {ns : List ℕ} {ts : List Term} → 0 < length ts → Forall₂ (Reported margin) ns ts
    → ExcessBelow ts (weighted ns ts) (margin * arms ts)
excess-below q rs = record { never_below = never_below rs; less_above = less_above q rs }
