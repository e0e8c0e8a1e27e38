use Rattle.force.proofs.Bounded.{prepared-above, by-sum}
use Rattle.force.proofs.prepared.PreparedFace.compared.Goals as goal

pub least_beside-requires : goal.least_beside-requires
least_beside-requires c = rw c.requires.1.divisor (prepared-above c.args.self c.args.w c.requires.0)

pub returns : goal.returns
returns c = by-sum c.args.self c.args.w c.requires.0 c.args.x c.requires.1 _ c.if-self-eq0.true c.in-Some-least_beside.ensures
