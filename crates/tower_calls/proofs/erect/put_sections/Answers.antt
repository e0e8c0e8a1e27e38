use Rattle.std.proofs.Common.{sym, subst, arith}
use Rattle.model.specs.Tower.{Section}
use Rattle.slots.specs.Held.{PutSection}
use Rattle.tower_calls.proofs.Puts.{section-there, section-fit, sections-more}
use Rattle.tower_calls.proofs.erect.put_sections.Goals as goal

pub put_section-requires : goal.put_section-requires
put_section-requires c = (omega arith, section-fit _ c.loop-i.i _ c.loop-i-test.true c.index-sections-i.is c.requires.fit)

pub loop-i-preserved : goal.loop-i-preserved
loop-i-preserved c =
    let there = section-there _ c.loop-i.i _ c.loop-i-test.true c.index-sections-i.is in
    sections-more _ _ c.loop-i.i c.loop-i.invariant
    (subst (λ (x : Section). PutSection x 0 c.loop-i.i c.loop-i.s c.put_section.new.s) (sym there) c.put_section.ensures)
