use Rattle.std.proofs.Common.{ap, ◌∙◌}
use Rattle.model.specs.Lists.{all_of}
use Rattle.model.specs.Valid.{group_fits}
use Rattle.model.specs.Tower.{section_of}
use Rattle.model.proofs.Sections.{section-facts}
use Rattle.areas.proofs.Fits.{under-facts}
use Rattle.areas.proofs.iced.IcedSection.face.Goals as goal

pub invariant_of-result : goal.invariant_of-result
invariant_of-result c =
    let s = c.args.self.now in
    let f = section-facts (section_of s.section.now) (under-facts s.ice.thickness s.section.now s.stands).fits in
    record { few = c.deref.ensures.1; fit = ap (all_of group_fits) c.deref.ensures.0 ∙ f.groups }
