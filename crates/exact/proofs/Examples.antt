-- What the bands, the sums and the order say of two exact numbers that are fractions, each the greatest of two: what they
-- say of these fractions. So a comparison or a sum that nothing meets, or that everything does, fails here.
use Prim.Native.Nat.{ℕ, ◌+◌, ◌≤◌, ◌<◌}
use mathlib.Core.List.{List, [], ◌∷◌, Forall₂}
use native.Mathlib.Omega.{arith}
use lib.Dec.{lit≤}
use Rattle.exact.specs.Fraction.{Fraction, ◌//◌, whole, ◌⊕◌, ◌⊖◌, ◌·◌, ◌≼◌, Proper}
use Rattle.exact.specs.Rooted.{Rooted, square, over, squared, Defined}
use Rattle.exact.specs.Number.{none, also, this, later, Exact, only, Sound, AtMost, AtLeast, NotAbove, Equal, Within}
use Rattle.exact.specs.Sum.{Term, Low, High, total, ExcessBelow}
use Rattle.exact.proofs.Arithmetic.{//-proper, whole-proper}
use Rattle.exact.proofs.Greatest.{ordered, at-most-down, sound-only, at-most-only, at-least-only}
use Rattle.exact.proofs.Growing.{not-above-by}

-- the greatest of 3 − √4 and 1/2, which is 1; and that of 1/3 and 5/2
abbrev root : Rooted
root = record { rational = whole 3; factor = whole 1; radicand = whole 4 }

abbrev fraction : Fraction → Rooted
fraction x = record { rational = x; factor = whole 0; radicand = whole 0 }

abbrev one : Exact
one = root ∷ fraction (1 // 2) ∷ []

abbrev other : Exact
other = fraction (1 // 3) ∷ fraction (5 // 2) ∷ []

fraction-defined : {x : Fraction} → Proper x → Defined (fraction x)
fraction-defined d = record { rational = d; factor = whole-proper 0; radicand = whole-proper 0 }

one-sound : Sound one
one-sound =
    record {
      each =
          also (record { rational = whole-proper 3; factor = whole-proper 1; radicand = whole-proper 4 })
          (also (fraction-defined (//-proper 1 2 (omega arith))) none);
    }

other-sound : Sound other
other-sound =
    record { each = also (fraction-defined (//-proper 1 3 (omega arith))) (also (fraction-defined (//-proper 5 2 (omega arith))) none) }

one-most : AtMost (whole 1) one
unfolding whole ◌//◌ ◌⊖◌ ◌·◌ square
one-most = record { some = this (record { under = record { cross = lit≤ tt }; squared = record { cross = lit≤ tt } }) }

one-least : AtLeast one (whole 1)
unfolding whole ◌//◌ ◌⊖◌ ◌·◌ square
one-least = record { each = also (squared (record { cross = lit≤ tt })) (also (over (record { cross = lit≤ tt })) none) }

other-most : AtMost (5 // 2) other
unfolding whole ◌//◌ ◌⊖◌ ◌·◌ square
other-most = record { some = later (this (record { under = record { cross = lit≤ tt }; squared = record { cross = lit≤ tt } })) }

other-least : AtLeast other (5 // 2)
unfolding ◌//◌
other-least = record { each = also (over (record { cross = lit≤ tt })) (also (over (record { cross = lit≤ tt })) none) }

pub within-example : (margin n : ℕ) → Within margin one n → (1 ≤ n) × (n < 1 + margin)
unfolding whole ◌//◌ ◌⊕◌
within-example margin n h =
    let low : whole 1 ≼ whole n = ordered one-sound (whole-proper 1) (whole-proper n) one-most h.enough in
    let high : _ = h.close (whole 1) (whole-proper 1) one-least in
    (omega (arith, low.cross), omega (arith, high.cross))

-- 1 with an arm of 3, and 5/2 with an arm of 2: the sum is 8
abbrev terms : List Term
terms = record { exact = one; arm = 3 } ∷ record { exact = other; arm = 2 } ∷ []

lows : Forall₂ Low (whole 1 ∷ 5 // 2 ∷ []) terms
lows =
    Forall₂.cons (record { proper = whole-proper 1; at_most = one-most })
    (Forall₂.cons (record { proper = //-proper 5 2 (omega arith); at_most = other-most }) Forall₂.nil)

highs : Forall₂ High (whole 1 ∷ 5 // 2 ∷ []) terms
highs =
    Forall₂.cons (record { proper = whole-proper 1; at_least = one-least })
    (Forall₂.cons (record { proper = //-proper 5 2 (omega arith); at_least = other-least }) Forall₂.nil)

pub excess-example : (reported excess : ℕ) → ExcessBelow terms reported excess → (8 ≤ reported) × (reported < 8 + excess)
unfolding whole ◌//◌ ◌⊕◌ ◌·◌ total
excess-example reported excess h =
    let low : _ = h.never_below.sums (whole 1 ∷ 5 // 2 ∷ []) lows in
    let high : _ = h.less_above.sums (whole 1 ∷ 5 // 2 ∷ []) highs in
    (omega (arith, low.cross), omega (arith, high.cross))

-- 1 is not above 5/2, and 5/2 is above 1; 1 is the same number however it is written
pub order-example : NotAbove one other × (NotAbove other one → ⊥)
unfolding ◌//◌ whole
order-example = (
  not-above-by one-sound other-sound (whole 1) (whole-proper 1) one-least
      (at-most-down other-sound (whole-proper 1) (//-proper 5 2 (omega arith)) (record { cross = lit≤ tt }) other-most),
  λ h. over-one (ordered one-sound (//-proper 5 2 (omega arith)) (whole-proper 1) (h.at-most (5 // 2) (//-proper 5 2 (omega arith)) other-most) one-least),
)
  where
    over-one : 5 // 2 ≼ whole 1 → ⊥
    over-one k = omega (arith, k.cross)

pub equal-example : Equal one (only (fraction (whole 1)))
unfolding whole ◌//◌ ◌⊖◌ ◌·◌ square
equal-example =
    record {
      not_above =
          not-above-by one-sound alone (whole 1) (whole-proper 1) one-least
          (at-most-only (record { under = record { cross = lit≤ tt }; squared = record { cross = lit≤ tt } }));
      not_below = not-above-by alone one-sound (whole 1) (whole-proper 1) (at-least-only (over (record { cross = lit≤ tt }))) one-most;
    }
  where
    alone : Sound (only (fraction (whole 1)))
    alone = sound-only (fraction-defined (whole-proper 1))
