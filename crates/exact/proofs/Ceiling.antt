-- Rounding up: the least whole number that is not below an exact number is unique, `ceiling` finds it, and it is less than 1 above.
use Prim.Native.Nat.{ℕ, zero, suc, ◌+◌, ◌-◌, ◌≤◌, ◌<◌}
use mathlib.Core.Path.{◌≡◌, refl, sym, subst}
use mathlib.Core.Bool.{Bool, true, false, cond, ◌||◌}
use mathlib.Core.List.{[], ◌∷◌}
use mathlib.Core.Logic.{◌⊎◌, inl, inr, ⊎_elim}
use native.Mathlib.Omega.{arith}
use native.Mathlib.Nat.{mul-le-mul_right, mul-lt-mul_of_pos_right}
use borrow.Author.Tests.{leb-true, le-leb}
use Rattle.exact.specs.Fraction.{Fraction, ◌//◌, whole, ◌⊕◌, ◌≼◌, ◌≺◌, ◌≼ᵇ◌, Proper}
use Rattle.exact.specs.Rooted.{Rooted, ◌√≼◌, over, squared, ◌√≼ᵇ◌, first, rounded_up, Defined}
use Rattle.exact.specs.Number.{Every, none, also, Exact, only, Sound, AtMost, AtLeast, Within, Least, at_leastᵇ, ceiling}
use Rattle.exact.proofs.Bools.{clash, and_split, and-join}
use Rattle.exact.proofs.Order.{le-or-lt, ≼-or-≺}
use Rattle.exact.proofs.Arithmetic.{whole-proper}
use Rattle.exact.proofs.Greatest.{sound-only, at-least-only, only-at-least, ordered, at-least-up, whole-≼, least-join}

-- the tests decide
pub ≼-test : {x y : Fraction} → x ≼ y → (x ≼ᵇ y) ≡ true
unfolding ◌≼ᵇ◌
≼-test h = le-leb _ _ h.cross

pub test-≼ : (x y : Fraction) → (x ≼ᵇ y) ≡ true → x ≼ y
unfolding ◌≼ᵇ◌
test-≼ x y h = record { cross = leb-true _ _ h }

pub √-test : {v : Rooted} {x : Fraction} → v √≼ x → (v √≼ᵇ x) ≡ true
unfolding ◌√≼ᵇ◌
√-test (over h) = rw (≼-test h)
√-test {v} {x} (squared h) = either (v.rational ≼ᵇ x) (≼-test h)
  where
    either : (a : Bool) {b : Bool} → b ≡ true → (a || b) ≡ true
    either true k = refl
    either false k = k

pub test-√ : (v : Rooted) (x : Fraction) → (v √≼ᵇ x) ≡ true → v √≼ x
unfolding ◌√≼ᵇ◌
test-√ v x t = go (v.rational ≼ᵇ x) refl
  where
    go : (a : Bool) → (v.rational ≼ᵇ x) ≡ a → v √≼ x
    go true h = over (test-≼ _ _ h)
    go false h = squared (test-≼ _ _ (rw h at t))

pub at-least-test : {e : Exact} {x : Fraction} → AtLeast e x → at_leastᵇ e x ≡ true
unfolding at_leastᵇ
at-least-test {e} {x} h = go h.each
  where
    go : {vs : Exact} → Every (λ v. v √≼ x) vs → at_leastᵇ vs x ≡ true
    go none = refl
    go (also p ps) = and-join (√-test p) (go ps)

pub test-at-least : (e : Exact) (x : Fraction) → at_leastᵇ e x ≡ true → AtLeast e x
unfolding at_leastᵇ
test-at-least e x t = record { each = go e t }
  where
    go : (vs : Exact) → at_leastᵇ vs x ≡ true → Every (λ v. v √≼ x) vs
    go [] h = none
    go (v ∷ vs) h = let g : _ = and_split (v √≼ᵇ x) (at_leastᵇ vs x) h in also (test-√ v x g.0) (go vs g.1)

pub least-unique : {e : Exact} {m n : ℕ} → Least e m → Least e n → m ≡ n
least-unique {e} {m} {n} a b =
    let h : m ≤ n = a.least n b.enough in
    let g : n ≤ m = b.least m a.enough in
    omega arith

ne-lt : (n m : ℕ) → n ≤ m → (n ≡ m → ⊥) → suc n ≤ m
ne-lt n m b d = omega arith

lt-or-le : (n m : ℕ) → (n < m) ⊎ (m ≤ n)
lt-or-le n m = ⊎_elim (λ h. inr h) (λ h. inl h) (le-or-lt m n)

not-le : (n m : ℕ) → 0 < m → m ≤ n → n ≤ n - m → ⊥
not-le n m p h g = omega arith

-- the search: what holds of its result, from what holds at n and of the search after n
module _ (v : Rooted) where
  found : (P : ℕ → Type 0) (n rest : ℕ) → (v √≼ whole n → P n) → ((v √≼ whole n → ⊥) → P rest) → P (cond (v √≼ᵇ whole n) n rest)
  found P n rest now later = go (v √≼ᵇ whole n) refl
    where
      go : (a : Bool) → v √≼ᵇ whole n ≡ a → P (cond a n rest)
      go true k = now (test-√ v (whole n) k)
      go false k = later (λ h. clash (√-test h) k)

  first-enough : (more n : ℕ) → v √≼ whole (n + more) → v √≼ whole (first v more n)
  unfolding first
  first-enough zero n h = let k : n + 0 ≡ n = omega arith in rw k at h
  first-enough (suc more) n h =
      let j : n + suc more ≡ suc n + more = omega arith in
      found (λ i. v √≼ whole i) n (first v more (suc n)) (λ k. k) (λ k. first-enough more (suc n) (rw j at h))

  first-least : (more n m : ℕ) → n ≤ m → v √≼ whole m → first v more n ≤ m
  unfolding first
  first-least zero n m b h = b
  first-least (suc more) n m b h =
      found (λ i. i ≤ m) n (first v more (suc n)) (λ k. b) (λ k. first-least more (suc n) m (after k) h)
    where
      after : (v √≼ whole n → ⊥) → suc n ≤ m
      after k =
          let d : n ≡ m → ⊥ = λ q. k (subst (λ i. v √≼ whole i) (sym q) h) in
          ne-lt n m b d

  numerator-enough : Proper v.rational → v √≼ whole (0 + v.rational.pos)
  unfolding whole ◌//◌
  numerator-enough d = over (record { cross = omega (arith, mul-le-mul_right v.rational.pos d.positive) })

  rounded-least : Defined v → Least (only v) (rounded_up v)
  unfolding rounded_up
  rounded-least d =
      record {
        enough = at-least-only (first-enough v.rational.pos 0 (numerator-enough d.rational));
        least = λ m h. first-least v.rational.pos 0 m (omega arith) (only-at-least h);
      }

pub ceiling-least : {e : Exact} → Sound e → Least e (ceiling e)
unfolding ceiling
ceiling-least s = go s.each
  where
    go : {vs : Exact} → Every Defined vs → Least vs (ceiling vs)
    go none = record { enough = record { each = none }; least = λ m h. omega arith }
    go (also d ds) = least-join (sound-only d) (record { each = ds }) (rounded-least _ d) (go ds)

-- steps of whole numbers
step-above : {x : Fraction} (margin n : ℕ) → whole n ≺ x → whole (n + margin) ≺ x ⊕ whole margin
unfolding whole ◌//◌ ◌⊕◌
step-above {x} margin n h = omega arith

below-margin : {x : Fraction} (margin n : ℕ) → n < margin → Proper x → whole 0 ≼ x → whole n ≺ x ⊕ whole margin
unfolding whole ◌//◌ ◌⊕◌
below-margin {x} margin n g d h = omega (arith, mul-lt-mul_of_pos_right g d.positive)

-- the band of a number n, by two comparisons of whole numbers: n is enough, and n − margin is not
pub within-large : {e : Exact} → Sound e → (margin n : ℕ) → AtLeast e (whole (n + margin)) → (AtLeast e (whole n) → ⊥) → Within margin e (n + margin)
within-large {e} s margin n h g =
    record {
      enough = h;
      close =
          λ x d k. ⊎_elim (λ b. absurd (g (at-least-up s d (whole-proper n) b k))) (step-above margin n) (≼-or-≺ x (whole n));
    }

module _ {e : Exact} (s : Sound e) (z : AtMost (whole 0) e) where
  -- a number below the margin is in the band if it is enough
  pub within-small : (margin n : ℕ) → n < margin → AtLeast e (whole n) → Within margin e n
  within-small margin n g h =
      record { enough = h; close = λ x d k. below-margin margin n g d (ordered s (whole-proper 0) d z k) }

  -- the least whole number is less than 1 above, and so within every wider band
  pub least-within : (margin n : ℕ) → 0 < margin → Least e n → Within margin e n
  least-within margin n p c = ⊎_elim (λ h. within-small margin n h c.enough) large (lt-or-le n margin)
    where
      large : margin ≤ n → Within margin e n
      large h =
          let j : n - margin + margin ≡ n = omega arith in
          rw (← j) (within-large s margin (n - margin) (rw j c.enough) (λ k. not-le n margin p h (c.least (n - margin) k)))

  pub ceiling-within : (margin : ℕ) → 0 < margin → Within margin e (ceiling e)
  ceiling-within margin p = least-within margin (ceiling e) p (ceiling-least s)

  -- rounding up stays below every whole number that is at least e
  pub ceiling-bound : (n : ℕ) → AtLeast e (whole n) → ceiling e ≤ n
  ceiling-bound n h = (ceiling-least s).least n h

-- the ceiling by two tests: n + 1 is enough, and n is not
pub ceiling-tested : {e : Exact} → Sound e → (n : ℕ) → at_leastᵇ e (whole (n + 1)) ≡ true → at_leastᵇ e (whole n) ≡ false → ceiling e ≡ n + 1
ceiling-tested {e} s n h g = least-unique (ceiling-least s) (record { enough = test-at-least e (whole (n + 1)) h; least = above })
  where
    above : (m : ℕ) → AtLeast e (whole m) → n + 1 ≤ m
    above m k =
        ⊎_elim (λ (q : m ≤ n). absurd (clash (at-least-test (at-least-up s (whole-proper m) (whole-proper n) (whole-≼ q) k)) g)) (λ (q : n < m). omega arith) (le-or-lt m n)
