use Rattle.std.proofs.Common.{◌≡◌, ◌-◌, ◌++◌, map, take, replicate}
use Rattle.slots.specs.Held.{group_number}
use Rattle.slots.proofs.sections.group_slot.Given as goal

abbrev pub invariant-loop-j : goal.invariant-loop-j
invariant-loop-j l = l.slot ≡ map group_number (take l.j l.groups) ++ replicate (12 - l.j) 0
