-- A section that may stand under ice.
use Rattle.std.specs.Prelude.{◌%◌, ◌^◌, Bool, ◌&&◌, leb, ltb, eqb}
use Rattle.units.specs.declared.Length.{Length}
use Rattle.model.specs.declared.Section.{Section}
use Rattle.model.specs.Ranges.{within, section_width, section_height, group_count}
use Rattle.model.specs.Tower.{section_of}
use Rattle.model.specs.Areas.{gross, solid_of}
use Rattle.model.specs.Valid.{section_fits}

-- the section is in its ranges, and its A_S under ice of thickness t is at most A_u
unfoldable pub fits_under : Length → Section → Bool
fits_under t s =
    leb t.0 50
    && (leb s.groups.count 8
    && (section_fits (section_of s)
    && leb (solid_of t (section_of s).groups).0 (gross (section_of s)).0))

-- what section_fits asks beside the groups and the bare A_S
unfoldable pub sizes_fit : Section → Bool
sizes_fit s =
    within section_width s.width.0
    && within section_height s.height.0
    && eqb (s.height.0 % 2) 0
    && ltb s.allowance.0 (2 ^ 32)
    && within group_count s.groups.count
