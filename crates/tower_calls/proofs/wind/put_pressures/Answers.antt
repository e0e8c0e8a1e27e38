use Rattle.std.proofs.Common.{arith}
use Rattle.areas.proofs.Fits.{under-facts}
use Rattle.tower_calls.proofs.wind.put_pressures.Goals as goal

pub put_section-requires : goal.put_section-requires
put_section-requires c = (omega arith, (under-facts c.ice_on-ice.result.thickness c.section_at-section.result c.section_at-section.ensures.1).fits)
