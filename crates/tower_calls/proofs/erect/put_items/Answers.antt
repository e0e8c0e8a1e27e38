use Rattle.std.proofs.Common.{arith}
use Rattle.tower_calls.proofs.Puts.{items-more}
use Rattle.tower_calls.proofs.erect.put_items.Goals as goal

pub loop-i-preserved : goal.loop-i-preserved
loop-i-preserved c =
    items-more c.args.items.now c.loop-i.i _ c.args.s.now c.loop-i.s c.item_slot.result c.told-s (omega arith) (omega arith) c.loop-i.invariant c.item_slot.ensures.1
