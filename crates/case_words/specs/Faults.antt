-- What is wrong with a case: the first test that fails.
use Rattle.std.specs.Prelude.{ℕ, ◌+◌, ◌*◌, Bool, cond, ◌&&◌, leb, length, Option, Some, None}
use Rattle.counted.specs.Elements.{elements}
use Rattle.units.specs.declared.Length.{Length}
use Rattle.model.specs.declared.Section.{Section}
use Rattle.model.specs.Lists.{all_of}
use Rattle.model.specs.Ranges.{within, leg_count, ice_classes, structure_factor, pressures}
use Rattle.model.specs.Tower.{section_of}
use Rattle.model.specs.Areas.{thickness, gross, solid_of, bare_solid}
use Rattle.model.specs.File.{legs_of}
use Rattle.model.specs.Machine.{direction_fits}
use Rattle.model.specs.Valid.{group_fits}
use Rattle.areas.specs.Fits.{sizes_fit}
use Rattle.case_words.specs.declared.Case.{Case}
use Rattle.case_words.specs.declared.Fault.{Fault}
use Rattle.case_words.specs.declared.Fault.TheVariants as fault

-- the fault x where the test fails, else what the tests after it say
abbrev pub tested : Bool → Fault → Option Fault → Option Fault
tested met x rest = cond met rest (Some x)

-- the place after the groups
abbrev pub groups_end : Section → ℕ
groups_end s = 8 + 3 * length (elements s.groups)

-- A_S is at most A_u, bare and under ice of thickness t
abbrev pub solid_fits : Length → Section → Bool
solid_fits t s =
    leb (bare_solid (section_of s).groups).0 (gross (section_of s)).0
    && leb (solid_of t (section_of s).groups).0 (gross (section_of s)).0

-- the section, where there are n numbers
unfoldable pub section_fault : Length → ℕ → Section → Option Fault
section_fault t n s =
    tested (sizes_fit s) fault.Sizes
    (tested (leb (groups_end s) n) fault.Missing
    (tested (all_of group_fits (section_of s).groups) fault.Groups
    (tested (solid_fits t s) fault.Solidity None)))

-- a case of n numbers
unfoldable pub fault_of : Case → ℕ → Option Fault
fault_of c n =
    tested (leb 8 n) fault.Missing
    (tested (within leg_count c.legs) fault.Legs
    (tested (direction_fits (legs_of c.legs) c.direction) fault.Direction
    (tested (within ice_classes c.ice) fault.Ice
    (tested (within structure_factor c.factor) fault.Factor
    (tested (within pressures c.pressure) fault.Pressure
    (section_fault (thickness c.ice) n c.section))))))
