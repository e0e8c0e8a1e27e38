use Rattle.std.proofs.Common.{arith}
use Rattle.model.specs.Valid.{group_fits}
use Rattle.model.proofs.Lists.{all-at}
use Rattle.slots.proofs.Lists.{filled}
use Rattle.slots.proofs.sections.group_slot.Goals as goal

pub group_number-requires : goal.group_number-requires
group_number-requires c = all-at group_fits c.args.groups.now c.loop-j.j _ c.loop-j-test.true c.requires.fit

pub loop-j-preserved : goal.loop-j-preserved
loop-j-preserved c = rw c.loop-j.invariant (filled _ c.args.groups.now _ c.loop-j.j 12 _ c.group_number.ensures c.loop-j-test.true (omega arith))
