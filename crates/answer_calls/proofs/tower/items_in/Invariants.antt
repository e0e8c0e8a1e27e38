use Rattle.std.proofs.Common.{◌≡◌, map, take}
use Rattle.counted.specs.Elements.{elements}
use Rattle.slots.specs.Held.{item_of}
use Rattle.answer_calls.proofs.tower.items_in.Given as goal

abbrev pub invariant-loop-slot : goal.invariant-loop-slot
invariant-loop-slot l = elements l.items ≡ map item_of (take l.slot-index l.slot-items)
