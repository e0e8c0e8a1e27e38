-- Document 02, M-112: a section under every lower pressure, and two reports of which one has no lower pressure.
use Rattle.std.specs.Prelude.{ℕ, ◌+◌, ◌*◌, ◌≤◌, ◌<◌, ◌≡◌, length, get_or}
use mathlib.Core.List.{List, Permᴰ}
use Rattle.units.specs.declared.Length.{Length}
use Rattle.exact.specs.Number.{Exact}
use Rattle.model.specs.declared.Legs.{Legs}
use Rattle.model.specs.Lists.{list_to}
use Rattle.model.specs.Tower.{Section, Tower, Wind}
use Rattle.model.specs.Areas.{thickness}
use Rattle.model.specs.Force.{item_sum, formula}
use Rattle.model.specs.Report.{section_at, pressure_at, arms_to}

-- the greatest value of document 01's formula at any whole pressure from 0 to q
unfoldable pub greatest_formula : Legs → ℕ → Length → ℕ → Section → ℕ → ℕ → Exact
greatest_formula l k t factor section q items = list_to (formula l k t factor section items) (q + 1)

-- that of section i of a tower under a wind
unfoldable pub greatest_at : Tower → Wind → ℕ → Exact
greatest_at t w i =
    greatest_formula t.legs w.direction (thickness w.ice) w.factor (section_at t i) (pressure_at w i)
    (item_sum (thickness w.ice) i t.items)

-- no section's pressure is lower under the second wind, and all else is the same; the order of the items is free
pub record NoLower (t : Tower) (w : Wind) (t' : Tower) (w' : Wind) : Type 0 where
  pub legs : t.legs ≡ t'.legs
  pub sections : t.sections ≡ t'.sections
  pub items : Permᴰ t.items t'.items
  pub direction : w.direction ≡ w'.direction
  pub ice : w.ice ≡ w'.ice
  pub factor : w.factor ≡ w'.factor
  pub pressure : (i : ℕ) → i < length t.sections → pressure_at w i ≤ pressure_at w' i

-- a number of a second report is above that of a first one, less a bound: so many newtons for a force, times the
-- sections down to the foot for a shear, times the sum of the arms for a moment
pub record AboveLess (newtons : ℕ) (t : Tower) (first second : List ℕ) : Type 0 where
  pub force : (i : ℕ) → i < length t.sections → get_or first (6 * i + 3) 0 < get_or second (6 * i + 3) 0 + newtons
  pub shear : (i : ℕ) → i < length t.sections → get_or first (6 * i + 4) 0 < get_or second (6 * i + 4) 0 + newtons * (i + 1)
  pub moment : (i : ℕ) → i < length t.sections → get_or first (6 * i + 5) 0 < get_or second (6 * i + 5) 0 + newtons * (arms_to t (i + 1)).0

-- no force, shear or moment of the second report is less than that of the first
pub record NoLess (t : Tower) (first second : List ℕ) : Type 0 where
  pub force : (i : ℕ) → i < length t.sections → get_or first (6 * i + 3) 0 ≤ get_or second (6 * i + 3) 0
  pub shear : (i : ℕ) → i < length t.sections → get_or first (6 * i + 4) 0 ≤ get_or second (6 * i + 4) 0
  pub moment : (i : ℕ) → i < length t.sections → get_or first (6 * i + 5) 0 ≤ get_or second (6 * i + 5) 0
