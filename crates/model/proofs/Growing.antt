-- Document 02, M-112, of towers: where no section's pressure is lower and all else is the same, the exact forces are
-- not below, and so the reported numbers.
use Prim.Native.Nat.{ℕ, zero, suc, ◌+◌, ◌*◌, ◌≤◌, ◌<◌}
use mathlib.Core.Path.{◌≡◌, ap, fun_ext}
use native.Mathlib.Omega.{arith}
use native.Mathlib.Nat.{mul-le-mul_right, mul-lt-mul_of_pos_right}
use lib.ListN.{length}
use Rattle.units.specs.declared.Force.{Force}
use Rattle.exact.specs.Number.{NotAbove, Equal, Within}
use Rattle.exact.proofs.Growing.{least-grows, within-grows}
use Rattle.model.specs.Lists.{sum_to}
use Rattle.model.specs.Tower.{Tower, Wind}
use Rattle.model.specs.Areas.{thickness}
use Rattle.model.specs.Report.{pressure_at, height_at, exact_at, force_at, arm, shear, moment, shear_at, moment_at, arms_to}
use Rattle.model.specs.MorePressure.{greatest_at, NoLower}
use Rattle.model.specs.Valid.{ValidWind}
use Rattle.model.proofs.Lists.{sum_to-times-one, sum_to-ones}
use Rattle.model.proofs.MorePressure.{exact-greatest, exact-grows}
use Rattle.model.proofs.Forces.{stands_at, force-least}
use Rattle.model.proofs.Moments.{arm_at}
use Rattle.model.proofs.Reorder.{item-sum-order}

-- sums of forces times their arms
module _ (f g arms : ℕ → ℕ) where
  sum-grows : (n : ℕ) → ((i : ℕ) → i < n → f i ≤ g i) → sum_to (λ i. f i * arms i) n ≤ sum_to (λ i. g i * arms i) n
  unfolding sum_to
  sum-grows zero h = omega arith
  sum-grows (suc n) h = omega (arith, sum-grows n (λ i b. h i (omega arith)), mul-le-mul_right (arms n) (h n (omega arith)))

  sum-under : (m n : ℕ) → ((i : ℕ) → i < n → f i < g i + m) → sum_to (λ i. f i * arms i) n ≤ sum_to (λ i. g i * arms i) n + m * sum_to arms n
  unfolding sum_to
  sum-under m zero h = omega arith
  sum-under m (suc n) h =
      let k : f n ≤ g n + m = omega (arith, h n (omega arith)) in
      omega (arith, sum-under m n (λ i b. h i (omega arith)), mul-le-mul_right (arms n) k)

  sum-above : (m n : ℕ) → 0 < n → ((i : ℕ) → i < n → f i < g i + m) → ((i : ℕ) → i < n → 0 < arms i)
      → sum_to (λ i. f i * arms i) n < sum_to (λ i. g i * arms i) n + m * sum_to arms n
  unfolding sum_to
  sum-above m zero p h a = absurd (omega arith)
  sum-above m (suc n) p h a =
      omega (arith, sum-under m n (λ i b. h i (omega arith)), mul-lt-mul_of_pos_right (h n (omega arith)) (a n (omega arith)))

-- of every section of an accepted tower under a wind that it takes
pub greatest-at : (t : Tower) (w : Wind) → ValidWind t w → (i : ℕ) → i < length t.sections → Equal (exact_at t w i) (greatest_at t w i)
unfolding exact_at greatest_at
greatest-at t w v i h = exact-greatest _ _ _ _ _ _ (stands_at t w v i h) (pressure_at w i)

module _ (t : Tower) (w : Wind) (t' : Tower) (w' : Wind) (v : ValidWind t w) (v' : ValidWind t' w') (g : NoLower t w t' w') where
  pub exact-grows-at : (i : ℕ) → i < length t.sections → NotAbove (exact_at t w i) (exact_at t' w' i)
  unfolding exact_at
  exact-grows-at i h =
      let e : _ = item-sum-order t w t.items t'.items g.items (thickness w.ice) i in
      rw (← g.legs, ← g.sections, ← g.direction, ← g.ice, ← g.factor, ← e)
      (exact-grows _ _ _ _ _ _ (stands_at t w v i h) (pressure_at w i) (pressure_at w' i) (omega (arith, g.pressure i h)))

  heights : height_at t ≡ height_at t'
  unfolding height_at
  heights = fun_ext (λ i. rw g.sections)

  -- any forces within so many newtons of the exact ones, and their shears and moments
  module _ (newtons : ℕ) (force force' : ℕ → Force)
      (near : (i : ℕ) → i < length t.sections → Within newtons (exact_at t w i) (force i).0)
      (near' : (i : ℕ) → i < length t.sections → Within newtons (exact_at t' w' i) (force' i).0) where
    pub band-force : (i : ℕ) → i < length t.sections → (force i).0 < (force' i).0 + newtons
    band-force i h = within-grows (exact-grows-at i h) (near i h) (near' i h)

    module _ (n : ℕ) (p : 0 < n) (b : n ≤ length t.sections) where
      pub band-shear : (shear force n).0 < (shear force' n).0 + newtons * n
      unfolding shear
      band-shear =
          let f : ℕ → ℕ = λ j. (force j).0 in
          let f' : ℕ → ℕ = λ j. (force' j).0 in
          let k : _ = sum-above f f' (λ j. 1) newtons n p (λ i h. band-force i (omega arith)) (λ i h. omega arith) in
          omega (arith, k, sum_to-times-one f n, sum_to-times-one f' n, ap (λ (m : ℕ). newtons * m) (sum_to-ones n))

      pub band-moment : (moment force (height_at t) n).0 < (moment force' (height_at t') n).0 + newtons * (arms_to t n).0
      unfolding moment arms_to
      band-moment =
          rw (← heights)
          (sum-above (λ j. (force j).0) (λ j. (force' j).0) (λ j. (arm (height_at t) j n).0) newtons n p (λ i h. band-force i (omega arith)) (arm_at t w v n b))

  -- the reported ones, each the least whole number not below its exact force: they do not fall at all
  pub force-grows : (i : ℕ) → i < length t.sections → (force_at t w i).0 ≤ (force_at t' w' i).0
  force-grows i h = least-grows (exact-grows-at i h) (force-least t w v i h) (force-least t' w' v' i (rw (← g.sections) h))

  module _ (n : ℕ) (b : n ≤ length t.sections) where
    pub shear-grows : (shear_at t w n).0 ≤ (shear_at t' w' n).0
    unfolding shear
    shear-grows =
        let f : ℕ → ℕ = λ j. (force_at t w j).0 in
        let f' : ℕ → ℕ = λ j. (force_at t' w' j).0 in
        omega (arith, sum_to-times-one f n, sum_to-times-one f' n, sum-grows f f' (λ j. 1) n (λ i h. force-grows i (omega arith)))

    pub moment-grows : (moment_at t w n).0 ≤ (moment_at t' w' n).0
    unfolding moment
    moment-grows =
        rw (← heights)
        (sum-grows (λ j. (force_at t w j).0) (λ j. (force_at t' w' j).0) (λ j. (arm (height_at t) j n).0) n (λ i h. force-grows i (omega arith)))
