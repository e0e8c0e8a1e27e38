-- The rows: six numbers a section, one row behind the other.
use Prim.Native.Nat.{ℕ, zero, suc, ◌+◌, ◌*◌, ◌≤◌, ◌<◌}
use mathlib.Core.Path.{◌≡◌, refl, ◌∙◌}
use mathlib.Core.Bool.{Bool, true, false}
use mathlib.Core.List.{List, ◌++◌}
use mathlib.Core.Option.{some}
use native.Mathlib.Numerals.{add-one}
use native.Mathlib.Omega.{arith}
use lib.Dec.{eqb}
use lib.ListN.{length, drop, get_or, length-append, get_or-append}
use lib.Seq.{get_or-append-add}
use borrow.Author.Tests.{le-ltb, eqb-true, eqb-false}
use Rattle.model.specs.Tower.{Tower, Wind}
use Rattle.model.specs.Report.{areas_at, force_at, shear_at, moment_at, row, row_at, rows_to, rows_of}
use Rattle.model.specs.Machine.{standing, filled}
use Rattle.model.specs.Calls.{report, lent_after}

module _ (t : Tower) (w : Wind) where
  pub length-row : (i : ℕ) → length (row_at t w i) ≡ 6
  unfolding row
  length-row i = refl

  -- which number is which
  pub record Columns (i : ℕ) : Type 0 where
    pub flat : get_or (row_at t w i) 0 0 ≡ (areas_at t w i).flat.0
    pub subcritical : get_or (row_at t w i) 1 0 ≡ (areas_at t w i).subcritical.0
    pub supercritical : get_or (row_at t w i) 2 0 ≡ (areas_at t w i).supercritical.0
    pub force : get_or (row_at t w i) 3 0 ≡ (force_at t w i).0
    pub shear-at-foot : get_or (row_at t w i) 4 0 ≡ (shear_at t w (i + 1)).0
    pub moment-at-foot : get_or (row_at t w i) 5 0 ≡ (moment_at t w (i + 1)).0

  pub columns : (i : ℕ) → Columns i
  unfolding row
  columns i =
      record {
        flat = refl;
        subcritical = refl;
        supercritical = refl;
        force = refl;
        shear-at-foot = refl;
        moment-at-foot = refl;
      }

  pub rows_more : (n : ℕ) → rows_to t w (n + 1) ≡ rows_to t w n ++ row_at t w n
  unfolding rows_to
  rows_more n = rw add-one

  pub length-rows : (n : ℕ) → length (rows_to t w n) ≡ 6 * n
  unfolding rows_to
  length-rows zero = refl
  length-rows (suc n) = omega (arith, length-append (rows_to t w n) (row_at t w n), length-rows n, length-row n)

  -- number k of row i stands at 6 i + k
  row_in : (n i k : ℕ) → i ≤ n → k < 6 → (i < n → get_or (rows_to t w n) (6 * i + k) 0 ≡ get_or (row_at t w i) k 0)
      → get_or (rows_to t w n ++ row_at t w n) (6 * i + k) 0 ≡ get_or (row_at t w i) k 0
  row_in n i k h g before = by-case (eqb i n) refl
    where
      by-case : (b : Bool) → eqb i n ≡ b → get_or (rows_to t w n ++ row_at t w n) (6 * i + k) 0 ≡ get_or (row_at t w i) k 0
      by-case true e =
          let same : i ≡ n = eqb-true i n e in
          let f : 6 * i + k ≡ length (rows_to t w n) + k = omega (arith, length-rows n) in
          rw (f, get_or-append-add (rows_to t w n) (row_at t w n) k 0, same)
      by-case false e =
          let other : i ≡ n → ⊥ = eqb-false i n e in
          let under : i < n = omega arith in
          get_or-append (rows_to t w n) (row_at t w n) 0 (6 * i + k) (omega (arith, length-rows n)) ∙ before under

  pub row-at : (n i k : ℕ) → i < n → k < 6 → get_or (rows_to t w n) (6 * i + k) 0 ≡ get_or (row_at t w i) k 0
  unfolding rows_to
  row-at zero i k h g = absurd (omega arith)
  row-at (suc n) i k h g = row_in n i k (omega arith) g (λ (b : i < n). row-at n i k b g)

  -- an accepted report: the rows, and then the rest of the lent slice as it was
  pub report-rows : (lent : List ℕ) → 6 * length t.sections ≤ length lent
      → lent_after (standing t (some w)) (report lent) ≡ rows_of t w ++ drop (6 * length t.sections) lent
  unfolding filled
  report-rows lent h = rw (le-ltb (length lent) (6 * length t.sections) h, length-rows (length t.sections))
