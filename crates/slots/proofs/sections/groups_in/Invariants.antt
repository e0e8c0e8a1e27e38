use Rattle.std.proofs.Common.{◌≡◌, ◌≤◌, map, take}
use Rattle.counted.specs.Elements.{elements}
use Rattle.slots.specs.Held.{group_in}
use Rattle.slots.proofs.sections.groups_in.Given as goal

abbrev pub invariant-loop-number : goal.invariant-loop-number
invariant-loop-number l = (elements l.groups ≡ map group_in (take l.number-index l.numbers)) × (l.groups.count ≤ 8)
