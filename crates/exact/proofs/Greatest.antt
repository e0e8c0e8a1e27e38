-- The comparison of a fraction with an exact number, the greatest of numbers with a root. Callers use these laws, and not what lies behind them.
use Prim.Native.Nat.{ℕ, ◌≤◌}
use mathlib.Core.Path.{◌≡◌, refl}
use mathlib.Core.Bool.{Bool, true, false, cond}
use mathlib.Core.List.{[], ◌∷◌, ◌++◌}
use mathlib.Core.Logic.{◌⊎◌, inl, inr, ⊎_elim}
use native.Mathlib.Omega.{arith}
use lib.Dec.{leb}
use borrow.Author.Tests.{leb-true, leb-false}
use Rattle.exact.specs.Fraction.{Fraction, ◌//◌, whole, ◌≼◌, Proper}
use Rattle.exact.specs.Rooted.{Rooted, ◌≼√◌, ◌√≼◌, Defined, Same}
use Rattle.exact.specs.Number.{Every, none, also, Some, this, later, Exact, only, Sound, AtMost, AtLeast, Least, greater}
use Rattle.exact.proofs.Arithmetic.{whole-proper}
use Rattle.exact.proofs.Compare.{√-ordered, √-comparable, √-down, √-up, same-sym, above_same}
use Rattle.exact.proofs.Lists.{every-join, every-left, every-right, every-or-some, both-every, both_some, some-only}

-- what is asked of one number, and of the greatest of two
pub sound-only : {v : Rooted} → Defined v → Sound (only v)
sound-only d = record { each = also d none }

pub sound-join : {e f : Exact} → Sound e → Sound f → Sound (e ++ f)
sound-join s t = record { each = every-join s.each t.each }

-- comparisons with one number, and with the greatest of two
pub at-most-only : {x : Fraction} {v : Rooted} → x ≼√ v → AtMost x (only v)
at-most-only h = record { some = this h }

pub only-at-most : {x : Fraction} {v : Rooted} → AtMost x (only v) → x ≼√ v
only-at-most {x} {v} h = go h.some
  where
    go : Some (λ u. x ≼√ u) (v ∷ []) → x ≼√ v
    go (this p) = p
    go (later p) = elim p [ ]

module _ {x : Fraction} where
  pub at-least-only : {v : Rooted} → v √≼ x → AtLeast (only v) x
  at-least-only h = record { each = also h none }

  pub only-at-least : {v : Rooted} → AtLeast (only v) x → v √≼ x
  only-at-least {v} h = go h.each
    where
      go : Every (λ u. u √≼ x) (v ∷ []) → v √≼ x
      go (also p none) = p

  pub at-least-join : {e f : Exact} → AtLeast e x → AtLeast f x → AtLeast (e ++ f) x
  at-least-join h g = record { each = every-join h.each g.each }

  pub at-least-left : (e f : Exact) → AtLeast (e ++ f) x → AtLeast e x
  at-least-left e f h = record { each = every-left e f h.each }

  pub at-least-right : (e f : Exact) → AtLeast (e ++ f) x → AtLeast f x
  at-least-right e f h = record { each = every-right e f h.each }

module _ {e : Exact} (s : Sound e) where
  -- x ≤ e ≤ y gives x ≤ y
  pub ordered : {x y : Fraction} → Proper x → Proper y → AtMost x e → AtLeast e y → x ≼ y
  ordered {x} {y} c d l h =
      some-only (λ v p. p)
      (both_some (λ v p q. √-ordered p.0 c d q p.1) (both-every {R = λ v. Defined v × (v √≼ y)} (λ v p q. (p, q)) s.each h.each) l.some)

  -- every fraction is at most e or at least e
  pub comparable : (x : Fraction) → AtMost x e ⊎ AtLeast e x
  comparable x =
      ⊎_elim (λ l. inl (record { some = l })) (λ h. inr (record { each = h })) (every-or-some (λ v p. √-comparable p x) s.each)

  -- what is below a number that is at most e is at most e
  pub at-most-down : {x y : Fraction} → Proper x → Proper y → x ≼ y → AtMost y e → AtMost x e
  at-most-down c d h l = record { some = both_some (λ v p q. √-down p c d h q) s.each l.some }

  -- what is above a number that is at least e is at least e
  pub at-least-up : {x y : Fraction} → Proper x → Proper y → x ≼ y → AtLeast e x → AtLeast e y
  at-least-up c d h l = record { each = both-every (λ v p q. √-up p c d h q) s.each l.each }

-- the same number has the same least whole number
pub least-same : {v w : Rooted} {n : ℕ} → Defined v → Defined w → Same v w → Least (only v) n → Least (only w) n
least-same {v} {w} {n} dv dw h l =
    record {
      enough = at-least-only (above_same dv h (whole n) (whole-proper n) (only-at-least l.enough));
      least = λ m g. l.least m (at-least-only (above_same dw (same-sym h) (whole m) (whole-proper m) (only-at-least g)));
    }

-- the greater of two whole numbers
pub whole-≼ : {m n : ℕ} → m ≤ n → whole m ≼ whole n
unfolding whole ◌//◌
whole-≼ h = record { cross = omega arith }

module _ (m n : ℕ) where
  pub greater-left : m ≤ greater m n
  unfolding greater
  greater-left = go (leb m n) refl
    where
      go : (b : Bool) → leb m n ≡ b → m ≤ cond b n m
      go true h = leb-true m n h
      go false h = omega arith

  pub greater-right : n ≤ greater m n
  unfolding greater
  greater-right = go (leb m n) refl
    where
      go : (b : Bool) → leb m n ≡ b → n ≤ cond b n m
      go true h = omega arith
      go false h = omega (arith, leb-false m n h)

  pub greater-most : (k : ℕ) → m ≤ k → n ≤ k → greater m n ≤ k
  unfolding greater
  greater-most k h g = go (leb m n)
    where
      go : (b : Bool) → cond b n m ≤ k
      go true = g
      go false = h

module _ {e f : Exact} where
  -- the greatest of two exact numbers rounded up: the greater of both rounded up
  pub least-join : {m n : ℕ} → Sound e → Sound f → Least e m → Least f n → Least (e ++ f) (greater m n)
  least-join {m} {n} s t a b =
      record {
        enough =
            at-least-join (at-least-up s (whole-proper m) (whole-proper _) (whole-≼ (greater-left m n)) a.enough)
            (at-least-up t (whole-proper n) (whole-proper _) (whole-≼ (greater-right m n)) b.enough);
        least = λ k h. greater-most m n k (a.least k (at-least-left e f h)) (b.least k (at-least-right e f h));
      }

  -- a number that is at most the others changes nothing
  pub least-covered : {n : ℕ} → ((m : ℕ) → AtLeast e (whole m) → AtLeast f (whole m)) → Least e n → Least (e ++ f) n
  least-covered {n} c a =
      record {
        enough = at-least-join a.enough (c n a.enough);
        least = λ k h. a.least k (at-least-left e f h);
      }
