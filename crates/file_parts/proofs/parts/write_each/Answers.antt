use Rattle.file_fields.proofs.Writing.{puts_none, puts-next, puts-room}
use Rattle.file_parts.proofs.parts.write_each.Goals as goal

pub loop-part-init : goal.loop-part-init
loop-part-init g c = puts_none g.T.ToBytes.bytes_of c.args.out.now

pub write-at-requires : goal.write-at-requires
write-at-requires g c =
    let l = c.loop-part in
    (puts-room g.T.ToBytes.bytes_of c.args.parts.now l.part-index _ c.loop-part-test.true c.part-item.is c.requires l.invariant).rest

pub loop-part-preserved : goal.loop-part-preserved
loop-part-preserved g c =
    let l = c.loop-part in
    puts-next g.T.ToBytes.bytes_of c.args.parts.now l.part-index _ c.loop-part-test.true c.part-item.is l.invariant c.write-at.ensures
