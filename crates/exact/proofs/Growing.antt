-- One exact number that is not above another: what follows for whole numbers, and how it is shown.
use Prim.Native.Nat.{ℕ, ◌+◌, ◌≤◌, ◌<◌}
use mathlib.Core.Path.{◌≡◌, subst}
use native.Mathlib.Omega.{arith}
use Rattle.exact.specs.Fraction.{Fraction, ◌//◌, whole, ◌⊕◌, Proper}
use Rattle.exact.specs.Rooted.{Rooted, ◌√≼◌}
use Rattle.exact.specs.Number.{Every, Some, Exact, only, Sound, AtMost, AtLeast, NotAbove, Within, Least}
use Rattle.exact.proofs.Arithmetic.{whole-proper}
use Rattle.exact.proofs.Greatest.{ordered, at-most-down, at-least-up, at-most-only, only-at-most, at-least-only, only-at-least}
use Rattle.exact.proofs.Lists.{every-then, some_then, some-only, both_some}

module _ {e f : Exact} (h : NotAbove e f) where
  -- the least whole number not below it is not greater either
  pub least-grows : {m n : ℕ} → Least e m → Least f n → m ≤ n
  least-grows {n = n} a b = a.least n (h.at_least (whole n) (whole-proper n) b.enough)

  -- of numbers in the band, the one is less than the margin above the other
  pub within-grows : {margin m n : ℕ} → Within margin e m → Within margin f n → m < n + margin
  unfolding whole ◌//◌ ◌⊕◌
  within-grows {n = n} a b = omega (arith, (a.close (whole n) (whole-proper n) (h.at_least (whole n) (whole-proper n) b.enough)).cross)

-- by a fraction between two exact numbers
pub not-above-by : {e f : Exact} → Sound e → Sound f → (y : Fraction) → Proper y → AtLeast e y → AtMost y f → NotAbove e f
not-above-by s t y d h l =
    record {
      at-most = λ x c g. at-most-down t c d (ordered s c d g h) l;
      at_least = λ x c g. at-least-up s d c (ordered t d c l g) h;
    }

-- by a third one
pub not-above-trans : {e f g : Exact} → NotAbove e f → NotAbove f g → NotAbove e g
not-above-trans a b =
    record {
      at-most = λ x c h. b.at-most x c (a.at-most x c h);
      at_least = λ x c h. a.at_least x c (b.at_least x c h);
    }

-- the greatest of several, by each of them
pub not-above-every : {e f : Exact} → Every (λ v. NotAbove (only v) f) e → NotAbove e f
not-above-every {f = f} hs =
    record {
      at-most = λ x c l. some-only (λ v g. g) (both_some {R = λ v. AtMost x f} (λ v h p. h.at-most x c (at-most-only p)) hs l.some);
      at_least = λ x c l. record { each = every-then (λ v h. only-at-least (h.at_least x c l)) hs };
    }

-- one of several
pub not-above-one : {v : Rooted} {e : Exact} → Some (λ u. u ≡ v) e → NotAbove (only v) e
not-above-one {v} {e} s =
    record {
      at-most = λ x c l. record { some = some_then (λ u h. rw h (only-at-most l)) s };
      at_least = λ x c l.
          at-least-only (some-only (λ u p. p) (both_some {R = λ u. v √≼ x} (λ u p h. subst (λ (i : Rooted). i √≼ x) h p) l.each s));
    }
