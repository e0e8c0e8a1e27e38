use Rattle.file_cases.proofs.Mixing.{mixed_none, mixed_more}
use Rattle.file_cases.proofs.digest.mix_each.Goals as goal

pub loop-part-init : goal.loop-part-init
loop-part-init g c = mixed_none g.T.Values.values _

pub loop-part-preserved : goal.loop-part-preserved
loop-part-preserved g c =
    mixed_more g.T.Values.values _ _ _ c.args.parts.now c.loop-part.part-index _ c.loop-part-test.true c.part-item.is c.loop-part.invariant c.mix_into-d.ensures
