use Rattle.std.proofs.Common.{map}
use Rattle.model.specs.Tower.{section_of}
use Rattle.slots.specs.Held.{PutSections}
use Rattle.tower_calls.specs.Placed.{section_in}
use Rattle.tower_calls.proofs.erect.put_sections.Given as goal

abbrev pub invariant-loop-i : goal.invariant-loop-i
invariant-loop-i l = PutSections (section_in (map section_of l.sections)) (λ _. 0) l.i l.fn.s l.s
