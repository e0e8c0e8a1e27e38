-- The exact and the reported force of each section of a valid tower under a valid wind.
use Prim.Native.Nat.{ℕ, ◌^◌, ◌≤◌, ◌<◌}
use mathlib.Core.Path.{◌≡◌, refl}
use mathlib.Core.Bool.{Bool, true, false, cond, not}
use native.Mathlib.Omega.{arith}
use native.Mathlib.Nat.{mul-le-mul_right, le_trans}
use lib.Dec.{ltb, eqb}
use lib.ListN.{length}
use borrow.Author.Tests.{ltb-false, eqb-true, not-false}
use Rattle.exact.specs.Fraction.{whole}
use Rattle.exact.specs.Number.{Sound, AtMost, AtLeast, Within, Least}
use Rattle.exact.proofs.Ceiling.{ceiling-least, ceiling-within, ceiling-bound}
use Rattle.model.specs.declared.Item.{Item}
use Rattle.model.specs.Lists.{all_of, any_of}
use Rattle.model.specs.Ranges.{within, section_height, item_count, ice_classes, structure_factor, pressures}
use Rattle.model.specs.Tower.{Tower, Wind}
use Rattle.model.specs.Areas.{thickness, gross, solid_of, solid}
use Rattle.model.specs.Force.{item_part, item_sum, largest_item, largest_items, largest_force}
use Rattle.model.specs.Report.{no_section, section_at, pressure_at, height_at, areas_at, exact_at, force_at}
use Rattle.model.specs.Machine.{refuse_if, direction_fits, is_too_solid, wind_rules}
use Rattle.model.specs.Valid.{section_fits, item_fits, ValidTower, ValidWind}
use Rattle.exact.proofs.Bools.{and_split}
use Rattle.model.proofs.Lists.{sum_by-bound, all-at, none-at}
use Rattle.model.proofs.Solid.{solid-of}
use Rattle.model.proofs.LesserWinds as winds
use Rattle.model.proofs.LesserWinds.{Stands, force-sound, force-nonneg}
use Rattle.model.proofs.Bounds.{cond-bound}
use Rattle.model.proofs.Sections.{InRange, in-range, SectionFacts, section-facts, gross-bound, solid-positive, item-bound}

-- a call that no rule turns down meets none of their conditions
pub refuse-none : (b : Bool) (n rest : ℕ) → (n ≡ 0 → ⊥) → refuse_if b n rest ≡ 0 → (b ≡ false) × (rest ≡ 0)
refuse-none true n rest h e = absurd (h e)
refuse-none false n rest h e = (refl, e)

pub record WindFacts (t : Tower) (w : Wind) (counted : Bool) (next : ℕ) : Type 0 where
  pub direction : direction_fits t.legs w.direction ≡ true
  pub ice : InRange ice_classes w.ice
  pub factor : InRange structure_factor w.factor
  pub count : counted ≡ true
  pub pressure : all_of (within pressures) w.pressures ≡ true
  pub solid : any_of (is_too_solid w.ice) t.sections ≡ false
  pub accepted : next ≡ 0

pub wind-facts : (t : Tower) (w : Wind) (counted : Bool) (next : ℕ) → wind_rules t w counted next ≡ 0 → WindFacts t w counted next
wind-facts t w counted next h =
    let a : _ = refuse-none (not (direction_fits t.legs w.direction)) 15 _ (omega arith) h in
    let b : _ = refuse-none (not (within ice_classes w.ice)) 16 _ (omega arith) a.1 in
    let c : _ = refuse-none (not (within structure_factor w.factor)) 17 _ (omega arith) b.1 in
    let d : _ = refuse-none (not counted) 18 _ (omega arith) c.1 in
    let e : _ = refuse-none (not (all_of (within pressures) w.pressures)) 19 _ (omega arith) d.1 in
    let f : _ = refuse-none (any_of (is_too_solid w.ice) t.sections) 20 _ (omega arith) e.1 in
    record {
      direction = not-false _ a.0;
      ice = in-range _ _ (not-false _ b.0);
      factor = in-range _ _ (not-false _ c.0);
      count = not-false _ d.0;
      pressure = not-false _ e.0;
      solid = f.0;
      accepted = f.1;
    }

-- the items' sum of a section
pub items-bound : (t : Tower) (w : Wind) (i : ℕ) → ValidTower t → w.ice ≤ 5 → item_sum (thickness w.ice) i t.items ≤ largest_items
unfolding item_sum
items-bound t w i v h =
    let b : ℕ = largest_item in
    let one : (it : Item) → item_fits (length t.sections) it ≡ true → cond (eqb it.section i) (item_part (thickness w.ice) it) 0 ≤ b =
    λ it k.
    cond-bound (eqb it.section i)
    (item-bound (thickness w.ice) it (omega arith)
    (and_split (ltb it.section (length t.sections)) _ (and_split (ltb it.number (2 ^ 16)) _ k).1).1)
    (omega arith) in
    let n : _ = in-range item_count (length t.items) v.held in
    let s : _ = sum_by-bound _ (item_fits (length t.sections)) b one t.items v.items in
    le_trans s (mul-le-mul_right b n.high)

module _ (t : Tower) (w : Wind) (v : ValidWind t w) (i : ℕ) (h : i < length t.sections) where
  facts : WindFacts t w (eqb (length w.pressures) (length t.sections)) 0
  facts = wind-facts t w _ 0 v.accepted

  pub fits-at : section_fits (section_at t i) ≡ true
  fits-at = all-at section_fits t.sections i no_section h v.tower.sections

  pub section-at : SectionFacts (section_at t i)
  section-at = section-facts (section_at t i) fits-at

  pub ice-at : (thickness w.ice).0 ≤ 50
  ice-at = omega (arith, facts.ice.high)

  pub solid-under : (solid_of (thickness w.ice) (section_at t i).groups).0 ≤ (gross (section_at t i)).0
  solid-under = ltb-false _ _ (none-at (is_too_solid w.ice) t.sections i no_section h facts.solid)

  pub height-at : InRange section_height (height_at t i).0
  unfolding height_at
  height-at = section-at.height

  pub pressure-at : pressure_at w i ≤ 5000
  pressure-at =
      let n : length w.pressures ≡ length t.sections = eqb-true _ _ facts.count in
      (in-range pressures (pressure_at w i) (all-at (within pressures) w.pressures i 0 (omega arith) facts.pressure)).high

  -- A_S > 0 and A_S ≤ A_u
  pub solid-at : (0 < (solid (areas_at t w i)).0) × ((solid (areas_at t w i)).0 ≤ (gross (section_at t i)).0)
  unfolding areas_at
  solid-at =
      rw (solid-of (thickness w.ice) (pressure_at w i) (section_at t i).groups) (
        solid-positive _ _ section-at.count.low section-at.groups,
        solid-under,
      )

  pub stands_at : Stands (thickness w.ice) (section_at t i)
  stands_at = record { solid = solid-positive _ _ section-at.count.low section-at.groups; under = solid-under }

  pub sound-at : Sound (exact_at t w i)
  unfolding exact_at
  sound-at = force-sound _ _ _ _ _ _ stands_at (pressure_at w i)

  pub nonneg-at : AtMost (whole 0) (exact_at t w i)
  unfolding exact_at
  nonneg-at = force-nonneg _ _ _ _ _ _ stands_at (pressure_at w i)

  pub bound_at : AtLeast (exact_at t w i) (whole largest_force)
  unfolding exact_at
  bound_at =
      winds.force-bound _ _ _ _ _ _ stands_at (gross-bound (section_at t i) section-at) facts.factor.high
      (items-bound t w i v.tower facts.ice.high) (pressure_at w i) pressure-at

  -- the reported force is the least whole number of newtons that is not below the exact force
  pub force-least : Least (exact_at t w i) (force_at t w i).0
  unfolding force_at
  force-least = ceiling-least sound-at

  -- it is less than 1 N above, and so in document 01's band of 2 N
  pub force-within : (margin : ℕ) → 0 < margin → Within margin (exact_at t w i) (force_at t w i).0
  unfolding force_at
  force-within margin p = ceiling-within sound-at nonneg-at margin p

  pub force-bound : (force_at t w i).0 ≤ largest_force
  unfolding force_at
  force-bound = ceiling-bound sound-at nonneg-at largest_force bound_at
