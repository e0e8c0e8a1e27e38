-- Where the sizes and the groups are in range, the areas alone decide.
use Rattle.std.proofs.Common.{◌≡◌, ◌≤◌, true}
use Rattle.counted.specs.Elements.{elements}
use Rattle.units.specs.declared.Length.{Length}
use Rattle.model.specs.declared.Section.{Section}
use Rattle.model.specs.Lists.{all_of}
use Rattle.model.specs.Valid.{group_fits}
use Rattle.areas.specs.Fits.{sizes_fit, fits_under}
use Rattle.areas.proofs.Fits.{under-order}
use Rattle.case_words.specs.Faults.{solid_fits}

pub solid_decides : (t : Length) (s : Section) → t.0 ≤ 50 → sizes_fit s ≡ true → all_of group_fits (elements s.groups) ≡ true
    → fits_under t s ≡ solid_fits t s
solid_decides t s thin h g = rw (under-order t s thin, h, g)
