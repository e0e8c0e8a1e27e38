-- The report does not depend on the order of the items.
use Prim.Native.Nat.{ℕ, zero, suc}
use mathlib.Core.Path.{◌≡◌, refl, fun_ext}
use mathlib.Core.List.{List, Permᴰ}
use lib.ListN.{length}
use Rattle.units.specs.declared.Length.{Length}
use Rattle.model.specs.declared.Item.{Item}
use Rattle.model.specs.Tower.{Tower, Wind}
use Rattle.model.specs.Force.{item_sum}
use Rattle.model.specs.Report.{areas_at, height_at, exact_at, force_at, row_at, rows_to, rows_of}
use Rattle.model.specs.Machine.{with_items}
use Rattle.model.proofs.Lists.{sum_by-perm}

module _ (t : Tower) (w : Wind) (xs ys : List Item) (p : Permᴰ xs ys) where
  pub item-sum-order : (ice : Length) (i : ℕ) → item_sum ice i xs ≡ item_sum ice i ys
  unfolding item_sum
  item-sum-order ice i = sum_by-perm _ p

  pub exact-order : (i : ℕ) → exact_at (with_items t xs) w i ≡ exact_at (with_items t ys) w i
  unfolding exact_at
  exact-order i = rw item-sum-order

  pub force-order : (i : ℕ) → force_at (with_items t xs) w i ≡ force_at (with_items t ys) w i
  unfolding force_at
  force-order i = rw exact-order

  row-order : (i : ℕ) → row_at (with_items t xs) w i ≡ row_at (with_items t ys) w i
  unfolding areas_at height_at
  row-order i =
      let e : force_at (with_items t xs) w ≡ force_at (with_items t ys) w = fun_ext force-order in
      rw e

  rows-to-order : (n : ℕ) → rows_to (with_items t xs) w n ≡ rows_to (with_items t ys) w n
  unfolding rows_to
  rows-to-order zero = refl
  rows-to-order (suc n) = rw (rows-to-order n, row-order n)

  pub rows-order : rows_of (with_items t xs) w ≡ rows_of (with_items t ys) w
  rows-order = rows-to-order (length t.sections)
