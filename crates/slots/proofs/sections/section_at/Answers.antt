use Rattle.std.proofs.Common.{sym, ◌∙◌}
use Rattle.slots.proofs.Codec.{section-good, section-bad}
use Rattle.slots.proofs.sections.section_at.Goals as goal

pub returns-then-fits_under : goal.returns-then-fits_under
returns-then-fits_under c =
    let x = c.section_as-section in
    section-good c.args.ice.thickness c.args.ice.thin _ _ x.result x.ensures.section (sym c.fits_under.ensures ∙ c.if-fits_under.true)

pub returns-else-fits_under : goal.returns-else-fits_under
returns-else-fits_under c =
    let x = c.section_as-section in
    section-bad c.args.ice.thickness c.args.ice.thin _ _ x.result x.ensures.section x.ensures.few c.least.result (sym c.fits_under.ensures ∙ c.if-fits_under.false) c.least.ensures
