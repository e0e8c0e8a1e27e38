use Rattle.std.proofs.Common.{take}
use Rattle.tower_calls.specs.Placed.{PutItems}
use Rattle.tower_calls.proofs.erect.put_items.Given as goal

abbrev pub invariant-loop-i : goal.invariant-loop-i
invariant-loop-i l = PutItems (take l.i l.items) l.fn.s l.s
