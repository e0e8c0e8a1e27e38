-- Towers and winds of document 01, over lists; and what the values that programs hold are to it.
use Rattle.std.specs.Prelude.{ℕ, List, map}
use Rattle.counted.specs.Elements.{elements}
use Rattle.units.specs.declared.Length.{Length}
use Rattle.units.specs.declared.Force.{Force}
use Rattle.model.specs.declared.Legs.{Legs}
use Rattle.model.specs.declared.Group.{Group}
use Rattle.model.specs.declared.Item.{Item}
use Rattle.model.specs.declared.Section as stored-section
use Rattle.model.specs.declared.Tower as stored-tower
use Rattle.model.specs.declared.Wind as stored-wind

-- mean width b, height h, shear allowance, groups
pub record Section : Type 0 where
  pub width : Length
  pub height : Length
  pub allowance : Force
  pub groups : List Group

-- legs, sections from the top, items in hanging order: what a tower file holds
pub record Tower : Type 0 where
  pub legs : Legs
  pub sections : List Section
  pub items : List Item

-- direction k, ice class, structure factor in thousandths, a pressure for each section
pub record Wind : Type 0 where
  pub direction : ℕ
  pub ice : ℕ
  pub factor : ℕ
  pub pressures : List ℕ

-- the section, the tower and the wind that a program's value stands for: of its arrays the elements that count
abbrev pub section_of : stored-section.Section → Section
section_of s =
    record {
      width = s.width;
      height = s.height;
      allowance = s.allowance;
      groups = elements s.groups;
    }

abbrev pub tower_of : stored-tower.Tower → Tower
tower_of t =
    record {
      legs = t.legs;
      sections = map section_of (elements t.sections);
      items = elements t.items;
    }

abbrev pub wind_of : stored-wind.Wind → Wind
wind_of w =
    record {
      direction = w.direction;
      ice = w.ice;
      factor = w.factor;
      pressures = w.pressures.now;
    }
