use Rattle.std.proofs.Common.{◌≡◌, map}
use Rattle.counted.specs.Elements.{elements}
use Rattle.model.specs.Lists.{list_to}
use Rattle.model.specs.Tower.{section_of}
use Rattle.slots.specs.Held.{section_at, ground_of, ice_on}
use Rattle.answer_calls.proofs.tower.sections_in.Given as goal

abbrev pub invariant-loop-i : goal.invariant-loop-i
invariant-loop-i l = map section_of (elements l.sections) ≡ list_to (section_at l.s (ice_on (ground_of l.s))) l.i
