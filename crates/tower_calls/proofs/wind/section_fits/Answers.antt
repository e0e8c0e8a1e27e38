use Rattle.std.proofs.Common.{ap, ◌∙◌}
use Rattle.slots.specs.Held.{stands_under}
use Rattle.areas.proofs.Fits.{under-facts}
use Rattle.slots.proofs.Codec.{fits-stands}
use Rattle.tower_calls.proofs.wind.section_fits.Goals as goal

pub returns : goal.returns
returns c =
    let t = c.args.ice.thickness in
    c.fits_under.ensures ∙ fits-stands t c.section_at.result c.args.ice.thin (under-facts _ _ c.section_at.ensures.1).count ∙ ap (stands_under t) c.section_at.ensures.0
