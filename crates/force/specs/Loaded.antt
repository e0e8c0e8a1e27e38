-- What the load on a section is.
use Rattle.std.specs.Prelude.{◌≡◌, ℕ}
use Rattle.units.specs.declared.Length.{Length}
use Rattle.exact.specs.Rooted.{Rooted}
use Rattle.exact.specs.Number.{Exact, Least}
use Rattle.model.specs.declared.Legs.{Legs}
use Rattle.model.specs.declared.Section.{Section}
use Rattle.model.specs.declared.Areas.{Areas}
use Rattle.model.specs.Tower.{section_of}
use Rattle.model.specs.Areas.{areas_of}
use Rattle.model.specs.Force.{formula, exact_force}
use Rattle.force.specs.declared.Load.{Load}
use Rattle.force.specs.declared.section.LoadedSection.{LoadedSection}

-- what the load depends on, of any size: a section and its tower's legs, the wind's direction, the thickness of its ice,
-- its structure factor and pressure, and the items' sum
pub record SectionInWind : Type 0 where
  pub legs : Legs
  pub section : Section
  pub direction : ℕ
  pub ice : Length
  pub factor : ℕ
  pub pressure : ℕ
  pub items : ℕ

-- of code's section
abbrev pub in_wind : LoadedSection → SectionInWind
in_wind s =
    record {
      legs = s.legs;
      section = s.section.section.now;
      direction = s.loading.direction;
      ice = s.section.ice.thickness;
      factor = s.loading.factor;
      pressure = s.loading.pressure;
      items = s.loading.items;
    }

-- the section's areas in a wind of pressure q
abbrev pub areas_in : SectionInWind → ℕ → Areas
areas_in s q = areas_of s.ice q (section_of s.section).groups

-- what document 01's formula gives then
abbrev pub formula_in : SectionInWind → ℕ → Rooted
formula_in s q = formula s.legs s.direction s.ice s.factor (section_of s.section) s.items q

-- the exact force on it
abbrev pub exact_on : SectionInWind → Exact
exact_on s = exact_force s.legs s.direction s.ice s.factor (section_of s.section) s.pressure s.items

-- the areas at full pressure, and the least whole number of newtons that is not below the exact force
pub record Loaded (s : SectionInWind) (r : Load) : Type 0 where
  pub areas : r.areas ≡ areas_in s s.pressure
  pub force : Least (exact_on s) r.force.0
