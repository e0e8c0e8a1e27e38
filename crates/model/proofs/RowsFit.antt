-- Each number of a report fits 64 bits.
use Prim.Native.Nat.{ℕ, zero, suc, ◌+◌, ◌*◌, ◌^◌, ◌≤◌, ◌<◌}
use mathlib.Core.Path.{◌≡◌, refl}
use mathlib.Core.Bool.{Bool, true}
use native.Mathlib.Omega.{arith}
use native.Mathlib.Nat.{mul-le-mul, le_trans}
use lib.Dec.{ltb}
use lib.ListN.{length}
use borrow.Author.Tests.{lt-ltb}
use Rattle.model.specs.declared.Areas.{Areas}
use Rattle.model.specs.Lists.{all_of}
use Rattle.model.specs.Ranges.{section_count}
use Rattle.model.specs.Tower.{Tower, Wind}
use Rattle.model.specs.Areas.{solid, largest_gross}
use Rattle.model.specs.Force.{largest_force}
use Rattle.model.specs.Report.{section_at, areas_at, force_at, shear_at, moment_at, row, row_at, rows_to, rows_of}
use Rattle.model.specs.Valid.{ValidWind}
use Rattle.exact.proofs.Bools.{and-join}
use Rattle.model.proofs.Lists.{all_append}
use Rattle.model.proofs.Sections.{in-range, gross-bound}
use Rattle.model.proofs.Forces.{section-at, solid-at, force-bound}
use Rattle.model.proofs.Moments.{shear-bound, moment-bound}

abbrev pub fits64 : ℕ → Bool
fits64 n = ltb n (2 ^ 64)

fit : (n b : ℕ) → n ≤ b → b < 2 ^ 64 → fits64 n ≡ true
fit n b h g = lt-ltb n (2 ^ 64) (omega arith)

areas-fit : (a : Areas) → (solid a).0 ≤ largest_gross
    → (fits64 a.flat.0 ≡ true) × (fits64 a.subcritical.0 ≡ true) × (fits64 a.supercritical.0 ≡ true)
unfolding solid
areas-fit a h = (
  fit a.flat.0 largest_gross (omega arith) (omega arith),
  fit a.subcritical.0 largest_gross (omega arith) (omega arith),
  fit a.supercritical.0 largest_gross (omega arith) (omega arith),
)

module _ (t : Tower) (w : Wind) (v : ValidWind t w) where
  few : length t.sections ≤ 32
  few = (in-range section_count (length t.sections) v.tower.count).high

  module _ (i : ℕ) (h : i < length t.sections) where
    face : (solid (areas_at t w i)).0 ≤ largest_gross
    face = le_trans (solid-at t w v i h).1 (gross-bound (section_at t i) (section-at t w v i h))

    shear-fits : fits64 (shear_at t w (i + 1)).0 ≡ true
    shear-fits = let n : _ = few in fit (shear_at t w (i + 1)).0 (32 * largest_force) (omega (arith, shear-bound t w v (i + 1) (omega arith))) (omega arith)

    moment-fits : fits64 (moment_at t w (i + 1)).0 ≡ true
    moment-fits =
        let n : _ = few in
        let a : largest_force * ((i + 1) * 10_000) ≤ largest_force * 320_000 = omega arith in
        let b : (i + 1) * (largest_force * ((i + 1) * 10_000)) ≤ 32 * (largest_force * 320_000) =
        mul-le-mul {n₁ = i + 1} {n₂ = 32} {m₂ = largest_force * 320_000} (omega arith) a in
        fit _ (32 * (largest_force * 320_000)) (le_trans (moment-bound t w v (i + 1) (omega arith)) b) (omega arith)

    row_fits : all_of fits64 (row_at t w i) ≡ true
    unfolding row
    row_fits =
        let a : _ = areas-fit (areas_at t w i) face in
        and-join a.0
        (and-join a.1
        (and-join a.2
        (and-join (fit (force_at t w i).0 largest_force (force-bound t w v i h) (omega arith)) (and-join shear-fits (and-join moment-fits refl)))))

  rows-to-fit : (n : ℕ) → n ≤ length t.sections → all_of fits64 (rows_to t w n) ≡ true
  unfolding rows_to
  rows-to-fit zero h = refl
  rows-to-fit (suc n) h =
      all_append fits64 (rows_to t w n) (row_at t w n) (rows-to-fit n (omega arith)) (row_fits n (omega arith))

  pub rows_fit : all_of fits64 (rows_of t w) ≡ true
  rows_fit = rows-to-fit (length t.sections) (omega arith)
