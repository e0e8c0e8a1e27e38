-- Arms, shears and moments: how they grow from one foot to the next, their bounds, and their excess over the exact
-- ones.
use Prim.Native.Nat.{ℕ, zero, suc, ◌+◌, ◌*◌, ◌-◌, ◌/◌, ◌≤◌, ◌<◌}
use mathlib.Core.Path.{◌≡◌, refl, ap, sym, ◌∙◌, subst}
use mathlib.Core.List.{List, [], ◌∷◌, ◌++◌, Forall₂}
use native.Mathlib.Omega.{arith}
use native.Mathlib.Nat.{mul-le-mul}
use lib.ListN.{length}
use Rattle.units.specs.declared.Length.{Length}
use Rattle.units.specs.declared.Force.{Force}
use Rattle.exact.specs.Fraction.{whole}
use Rattle.exact.specs.Sum.{Term, Low, High, weighted, arms, ExcessBelow}
use Rattle.exact.proofs.Arithmetic.{whole-proper}
use Rattle.exact.proofs.Sums.{Reported, excess-below}
use Rattle.model.specs.Lists.{sum_to, list_to}
use Rattle.model.specs.Tower.{Tower, Wind}
use Rattle.model.specs.Force.{largest_force}
use Rattle.model.specs.Report.{height_at, exact_at, force_at, arm, shear, moment, shear_at, moment_at, shear_terms, moment_terms, arms_to}
use Rattle.model.specs.Valid.{ValidWind}
use Rattle.model.proofs.Lists.{sum_to-none, sum_to-more, sum_to-times-one, sum_to-bound, sum_to-ones, length-list_to, forall-list_to}
use Rattle.model.proofs.Forces.{height-at, sound-at, nonneg-at, force-least, force-within, force-bound}

-- arms
module _ (height : ℕ → Length) where
  pub arm-own : (n : ℕ) → (arm height n (n + 1)).0 ≡ (height n).0 / 2
  unfolding arm
  arm-own n =
      let e : n + 1 - suc n ≡ 0 = omega arith in
      rw e (omega (arith, sum_to-none (λ m. (height (suc n + m)).0)))

  pub arm_more : (j n : ℕ) → j < n → (arm height j (n + 1)).0 ≡ (arm height j n).0 + (height n).0
  unfolding arm
  arm_more j n q =
      let e : n + 1 - suc j ≡ n - suc j + 1 = omega arith in
      let d : suc j + (n - suc j) ≡ n = omega arith in
      rw e (omega (arith, sum_to-more (λ m. (height (suc j + m)).0) (n - suc j), ap (λ (i : ℕ). (height i).0) d))

  pub arm-positive : (j n : ℕ) → 2 ≤ (height j).0 → 0 < (arm height j n).0
  unfolding arm
  arm-positive j n h = omega arith

  -- an arm is at most the height down to the foot
  pub arm-bound : (b j n : ℕ) → j < n → ((i : ℕ) → i < n → (height i).0 ≤ b) → (arm height j n).0 ≤ n * b
  unfolding arm
  arm-bound b j n q h =
      let below : sum_to (λ m. (height (suc j + m)).0) (n - suc j) ≤ (n - suc j) * b =
      sum_to-bound (λ m. (height (suc j + m)).0) b (n - suc j) (λ m r. h (suc j + m) (omega arith)) in
      let own : (height j).0 ≤ b = h j q in
      let more : (n - suc j + 1) * b ≤ n * b = mul-le-mul {n₁ = n - suc j + 1} {m₁ = b} {n₂ = n} {m₂ = b} (omega arith) (omega arith) in
      omega arith

-- a sum of products with longer arms
stretch : (f a b : ℕ → ℕ) (x n : ℕ) → ((j : ℕ) → j < n → b j ≡ a j + x)
    → sum_to (λ j. f j * b j) n ≡ sum_to (λ j. f j * a j) n + sum_to f n * x
unfolding sum_to
stretch f a b x zero h = omega arith
stretch f a b x (suc n) h = omega (arith, stretch f a b x n (λ j q. h j (omega arith)), ap (λ y. f n * y) (h n (omega arith)))

-- from one foot to the next
module _ (force : ℕ → Force) where
  pub shear-none : (shear force 0).0 ≡ 0
  unfolding shear
  shear-none = sum_to-none (λ j. (force j).0)

  pub shear-more : (n : ℕ) → (shear force (n + 1)).0 ≡ (shear force n).0 + (force n).0
  unfolding shear
  shear-more n = sum_to-more (λ j. (force j).0) n

  module _ (height : ℕ → Length) where
    pub moment-none : (moment force height 0).0 ≡ 0
    unfolding moment
    moment-none = sum_to-none (λ j. (force j).0 * (arm height j 0).0)

    -- the shear times the height, and the force times half of it
    pub moment_more : (n : ℕ)
        → (moment force height (n + 1)).0 ≡ (moment force height n).0 + (shear force n).0 * (height n).0 + (force n).0 * ((height n).0 / 2)
    unfolding moment shear
    moment_more n =
        let f : ℕ → ℕ = λ j. (force j).0 in
        omega (
          arith,
          sum_to-more (λ j. f j * (arm height j (n + 1)).0) n,
          stretch f (λ j. (arm height j n).0) (λ j. (arm height j (n + 1)).0) (height n).0 n (λ j q. arm_more height j n q),
          ap (λ y. f n * y) (arm-own height n),
        )

-- sums over lists of terms are sums over indices
weighted-append : (ns : List ℕ) (ts : List Term) (n : ℕ) (x : Term) → length ns ≡ length ts
    → weighted (ns ++ (n ∷ [])) (ts ++ (x ∷ [])) ≡ weighted ns ts + n * x.arm
unfolding weighted
weighted-append [] [] n x e = omega arith
weighted-append [] (y ∷ ts) n x e = absurd (omega arith)
weighted-append (m ∷ ns) [] n x e = absurd (omega arith)
weighted-append (m ∷ ns) (y ∷ ts) n x e = omega (arith, weighted-append ns ts n x (omega arith))

arms-append : (ts : List Term) (x : Term) → arms (ts ++ (x ∷ [])) ≡ arms ts + x.arm
unfolding arms
arms-append [] x = omega arith
arms-append (y ∷ ts) x = omega (arith, arms-append ts x)

module _ (f : ℕ → ℕ) (x : ℕ → Term) where
  weighted-list_to : (n : ℕ) → weighted (list_to f n) (list_to x n) ≡ sum_to (λ j. f j * (x j).arm) n
  unfolding list_to sum_to weighted
  weighted-list_to zero = refl
  weighted-list_to (suc n) =
      omega (arith, weighted-append (list_to f n) (list_to x n) (f n) (x n) (length-list_to f n ∙ sym (length-list_to x n)), weighted-list_to n)

  arms-list_to : (n : ℕ) → arms (list_to x n) ≡ sum_to (λ j. (x j).arm) n
  unfolding list_to sum_to arms
  arms-list_to zero = refl
  arms-list_to (suc n) = omega (arith, arms-append (list_to x n) (x n), arms-list_to n)

  -- the excess of a weighted sum, from the band of each number
  sum-excess : (margin n : ℕ) → 0 < n → ((j : ℕ) → j < n → Reported margin (f j) (x j))
      → ExcessBelow (list_to x n) (sum_to (λ j. f j * (x j).arm) n) (margin * arms (list_to x n))
  sum-excess margin n p h =
      let e : 0 < length (list_to x n) = rw (length-list_to x n) p in
      rw (← weighted-list_to n) (excess-below e (forall-list_to f x n h))

-- the sum of the arms is that of the moment's terms
pub arms-are : (t : Tower) (w : Wind) (n : ℕ) → arms (moment_terms t w n) ≡ (arms_to t n).0
unfolding moment_terms arms_to
arms-are t w n = arms-list_to (λ j. 0) (λ j. record { exact = exact_at t w j; arm = (arm (height_at t) j n).0 }) n

module _ (t : Tower) (w : Wind) (v : ValidWind t w) (n : ℕ) (within : n ≤ length t.sections) where
  pub arm_at : (j : ℕ) → j < n → 0 < (arm (height_at t) j n).0
  arm_at j h = arm-positive (height_at t) j n (let k : _ = height-at t w v j (omega arith) in omega arith)

  reported-at : (margin : ℕ) → 0 < margin → (a : ℕ → ℕ) → ((j : ℕ) → j < n → 0 < a j)
      → (j : ℕ) → j < n → Reported margin (force_at t w j).0 (record { exact = exact_at t w j; arm = a j })
  reported-at margin p a ha j q =
      record { sound = sound-at t w v j (omega arith); within = force-within t w v j (omega arith) margin p; arm = ha j q }

  -- the excess of a shear is never negative and below the margin times the sections down to the foot
  pub shear-excess : (margin : ℕ) → 0 < margin → 0 < n → ExcessBelow (shear_terms t w n) (shear_at t w n).0 (margin * n)
  unfolding shear_terms shear
  shear-excess margin p q =
      let f : ℕ → ℕ = λ j. (force_at t w j).0 in
      rw (← sum_to-times-one f n)
      (subst (λ (k : ℕ). ExcessBelow (list_to (λ j. record { exact = exact_at t w j; arm = 1 }) n) (sum_to (λ j. f j * 1) n) (margin * k))
      (arms-list_to f (λ j. record { exact = exact_at t w j; arm = 1 }) n ∙ sum_to-ones n)
      (sum-excess f (λ j. record { exact = exact_at t w j; arm = 1 }) margin n q (reported-at margin p (λ _. 1) (λ j r. omega arith))))

  -- the excess of a moment is never negative and below the margin times the sum of its arms
  pub moment-excess : (margin : ℕ) → 0 < margin → 0 < n → ExcessBelow (moment_terms t w n) (moment_at t w n).0 (margin * (arms_to t n).0)
  unfolding moment_terms moment
  moment-excess margin p q =
      rw (← arms-are t w n)
      (sum-excess (λ j. (force_at t w j).0) (λ j. record { exact = exact_at t w j; arm = (arm (height_at t) j n).0 }) margin n q
      (reported-at margin p (λ j. (arm (height_at t) j n).0) arm_at))

  -- the statements are about something: each term has fractions on either side
  pub lows : (a : ℕ → ℕ) → Forall₂ Low (list_to (λ j. whole 0) n) (list_to (λ j. record { exact = exact_at t w j; arm = a j }) n)
  lows a = forall-list_to _ _ n (λ j q. record { proper = whole-proper 0; at_most = nonneg-at t w v j (omega arith) })

  pub highs : (a : ℕ → ℕ) → Forall₂ High (list_to (λ j. whole (force_at t w j).0) n) (list_to (λ j. record { exact = exact_at t w j; arm = a j }) n)
  highs a =
      forall-list_to _ _ n
      (λ j q. record { proper = whole-proper _; at_least = (force-least t w v j (omega arith)).enough })

  -- the largest sums
  pub shear-bound : (shear_at t w n).0 ≤ n * largest_force
  unfolding shear
  shear-bound = sum_to-bound (λ j. (force_at t w j).0) largest_force n (λ j q. force-bound t w v j (omega arith))

  pub moment-bound : (moment_at t w n).0 ≤ n * (largest_force * (n * 10_000))
  unfolding moment
  moment-bound =
      sum_to-bound _ _ n
      (λ j q.
      mul-le-mul {n₂ = largest_force} {m₂ = n * 10_000} (force-bound t w v j (omega arith))
      (arm-bound (height_at t) 10_000 j n q (λ i r. (height-at t w v i (omega arith)).high)))
