use Rattle.lines.specs.Digest.{start}
use Rattle.lines.proofs.Mixing.{digest_more}
use Rattle.lines.proofs.digest.digest_of.Goals as goal

pub loop-v-preserved : goal.loop-v-preserved
loop-v-preserved g c = λ number h.
    digest_more number start _ _ _ _ _ _ c.loop-v-test.true (c.loop-v.invariant number h) c.v-item.is (h _ _ c.into.ensures) c.mix-d.ensures
