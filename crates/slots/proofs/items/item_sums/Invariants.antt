use Rattle.std.proofs.Common.{map}
use Rattle.areas.proofs.Sums.{SumsAfter}
use Rattle.slots.specs.Held.{item_of}
use Rattle.slots.proofs.items.item_sums.Given as goal

abbrev pub invariant-loop-slot : goal.invariant-loop-slot
invariant-loop-slot l = SumsAfter l.ice.thickness (map item_of l.slots) l.slot-index l.sums
