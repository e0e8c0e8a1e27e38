-- The load on one section, the foot below it, and its row.
use Rattle.std.specs.Prelude.{ℕ, ◌+◌, ◌*◌, ◌/◌, ◌≤◌, ◌≡◌, true, List, [], ◌∷◌}
use Rattle.units.specs.declared.Force.{Force}
use Rattle.units.specs.declared.Length.{Length}
use Rattle.model.specs.Tower.{Tower, Wind}
use Rattle.model.specs.Areas.{thickness}
use Rattle.model.specs.File.{legs_of}
use Rattle.model.specs.Force.{largest_force}
use Rattle.model.specs.Report.{section_at, height_at, areas_at, force_at}
use Rattle.force.specs.declared.Load.{Load}
use Rattle.slots.specs.Held.{Slots, cell, ground_of, is_windy}
use Rattle.rows.specs.declared.case.LoadCase.{LoadCase}
use Rattle.rows.specs.declared.feet.Foot.{Foot}
use Rattle.rows.specs.declared.loads.SectionLoad.{SectionLoad}

-- the numbers are those of the wind that stands in the slots
pub record CaseOf (l : Slots) (c : LoadCase) : Type 0 where
  pub windy : is_windy (ground_of l) ≡ true
  pub legs : c.legs ≡ legs_of (cell l 0 1)
  pub direction : c.direction ≡ cell l 0 5
  pub ice : c.ice.thickness ≡ thickness (cell l 0 6)
  pub factor : c.factor ≡ cell l 0 7

-- the areas and the reported force of section i, and what else the report and the check take from it
pub record LoadAt (t : Tower) (w : Wind) (i : ℕ) (r : SectionLoad) : Type 0 where
  pub areas : r.load.areas ≡ areas_at t w i
  pub force : r.load.force ≡ force_at t w i
  pub small : r.load.force.0 ≤ largest_force
  pub height : r.height ≡ height_at t i
  pub tall : r.height.0 ≤ 10_000
  pub allowance : r.allowance ≡ (section_at t i).allowance

-- the foot of a section of this height, under this force at its mid-height, below a foot
pub record NextFoot (above : Foot) (force : Force) (height : Length) (r : Foot) : Type 0 where
  pub shear : r.shear.0 ≡ above.shear.0 + force.0
  pub moment : r.moment.0 ≡ above.moment.0 + above.shear.0 * height.0 + force.0 * (height.0 / 2)
  pub small : r.moment.0 ≤ above.moment.0 + largest_force * 320_000

-- the six numbers
abbrev pub row_of : Load → Foot → List ℕ
row_of load foot =
    load.areas.flat.0
    ∷ load.areas.subcritical.0
    ∷ load.areas.supercritical.0
    ∷ load.force.0
    ∷ foot.shear.0
    ∷ foot.moment.0
    ∷ []
