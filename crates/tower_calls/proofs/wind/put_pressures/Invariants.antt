use Rattle.std.proofs.Common.{get_or}
use Rattle.slots.specs.Held.{section_at, PutSections}
use Rattle.tower_calls.proofs.wind.put_pressures.Given as goal

abbrev pub invariant-loop-i : goal.invariant-loop-i
invariant-loop-i l = PutSections (section_at l.fn.s l.ice.thickness) (λ k. get_or l.pressures k 0) l.i l.fn.s l.s
