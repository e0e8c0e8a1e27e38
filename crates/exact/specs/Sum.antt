-- Sums of exact numbers. A sum of several roots is never formed: it is bounded by lists of fractions, one for each of its terms.
use Rattle.std.specs.Prelude.{ℕ, ◌+◌, ◌*◌}
use mathlib.Core.List.{List, [], ◌∷◌, Forall₂}
use Rattle.exact.specs.Fraction.{Fraction, whole, ◌⊕◌, ◌·◌, ◌≼◌, ◌≺◌, Proper}
use Rattle.exact.specs.Number.{Exact, AtMost, AtLeast}

-- a term of a sum: an exact number times its arm; the arm is 1 in a plain sum
pub record Term : Type 0 where
  pub exact : Exact
  pub arm : ℕ

-- a fraction at most, or at least, the exact number of a term
pub record Low (x : Fraction) (t : Term) : Type 0 where
  pub proper : Proper x
  pub at_most : AtMost x t.exact

pub record High (x : Fraction) (t : Term) : Type 0 where
  pub proper : Proper x
  pub at_least : AtLeast t.exact x

-- the sum of fractions, each times its term's arm
unfoldable pub total : List Fraction → List Term → Fraction
total [] ts = whole 0
total (x ∷ xs) [] = whole 0
total (x ∷ xs) (t ∷ ts) = whole t.arm · x ⊕ total xs ts

-- the sum of whole numbers, each times its term's arm
unfoldable pub weighted : List ℕ → List Term → ℕ
weighted [] ts = 0
weighted (n ∷ ns) [] = 0
weighted (n ∷ ns) (t ∷ ts) = n * t.arm + weighted ns ts

-- the sum of the arms
unfoldable pub arms : List Term → ℕ
arms [] = 0
arms (t ∷ ts) = t.arm + arms ts

-- `reported` is never below the sum of the terms: all lists of fractions, each at most its term's number, sum to at most `reported`
pub record NeverBelow (ts : List Term) (reported : ℕ) : Type 0 where
  pub sums : (xs : List Fraction) → Forall₂ Low xs ts → total xs ts ≼ whole reported

-- `reported` is less than `excess` above the sum of the terms: all lists of fractions, each at least its term's number, sum to more than `reported` − `excess`
pub record LessAbove (ts : List Term) (reported excess : ℕ) : Type 0 where
  pub sums : (xs : List Fraction) → Forall₂ High xs ts → whole reported ≺ total xs ts ⊕ whole excess

-- the excess of `reported` over the sum of the terms is never negative and is below `excess`
pub record ExcessBelow (ts : List Term) (reported excess : ℕ) : Type 0 where
  pub never_below : NeverBelow ts reported
  pub less_above : LessAbove ts reported excess
