use Rattle.std.proofs.Common.{arith, sym}
use Rattle.file_parts.proofs.Lengths.{no_sections, section_more}
use Rattle.file_parts.proofs.sections.sections_length.Goals as goal

pub loop-section-init : goal.loop-section-init
loop-section-init c = (sym no_sections, omega arith)

pub loop-section-preserved : goal.loop-section-preserved
loop-section-preserved c =
    let more = section_more c.args.sections.now c.loop-section.section-index c.section-item.result c.loop-section-test.true c.section-item.is in
    (omega (arith, more), omega arith)
