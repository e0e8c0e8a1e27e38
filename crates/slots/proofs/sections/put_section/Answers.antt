use Rattle.model.specs.Tower.{section_of}
use Rattle.model.proofs.Sections.{section-facts}
use Rattle.slots.proofs.Codec.{section-put}
use Rattle.slots.proofs.sections.put_section.Goals as goal

pub group_slot-requires-clause-fit : goal.group_slot-requires-clause-fit
group_slot-requires-clause-fit c = rw c.deref.ensures.0 (section-facts (section_of c.args.section.now) c.requires.1).groups

pub returns : goal.returns
returns c =
    rw (c.field_slot.ensures, c.group_slot.ensures, c.deref.ensures.0)
    (section-put c.args.s.now c.args.i _ c.args.q c.told-s c.requires.0 c.requires.1)
