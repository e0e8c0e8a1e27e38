-- The three sums of areas, group by group; the items' sums of all sections.
use Rattle.std.specs.Prelude.{ℕ, ◌+◌, ◌*◌, ◌≤◌, ◌<◌, ◌≡◌, List, get_or}
use Rattle.units.specs.declared.Length.{Length}
use Rattle.model.specs.declared.Areas.{Areas}
use Rattle.model.specs.declared.Flow.TheVariants as flow
use Rattle.model.specs.declared.Group.{Group}
use Rattle.model.specs.declared.Item.{Item}
use Rattle.model.specs.Areas.{area_in}
use Rattle.model.specs.Force.{item_sum, largest_items}

-- at most those of 8 groups, each 1 m wide with 50 mm of ice on both sides and 200 m long
pub record SmallAreas (a : Areas) : Type 0 where
  pub flat : a.flat.0 ≤ 8 * 220_000_000
  pub subcritical : a.subcritical.0 ≤ 8 * 220_000_000
  pub supercritical : a.supercritical.0 ≤ 8 * 220_000_000

-- a group more
pub record Added (t : Length) (q : ℕ) (g : Group) (a r : Areas) : Type 0 where
  pub flat : r.flat.0 ≡ a.flat.0 + (area_in flow.Flat t q g).0
  pub subcritical : r.subcritical.0 ≡ a.subcritical.0 + (area_in flow.Subcritical t q g).0
  pub supercritical : r.supercritical.0 ≡ a.supercritical.0 + (area_in flow.Supercritical t q g).0

-- of each of 32 sections, the sum over the items that hang on it, at most that of 64 of the largest
pub record ItemSums (t : Length) (items : List Item) (sums : List ℕ) : Type 0 where
  pub sum : (i : ℕ) → i < 32 → get_or sums i 0 ≡ item_sum t i items
  pub small : (i : ℕ) → i < 32 → get_or sums i 0 ≤ largest_items
