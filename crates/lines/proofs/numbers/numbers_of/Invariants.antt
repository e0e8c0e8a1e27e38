use Rattle.std.proofs.Common.{length}
use Rattle.lines.proofs.Taking.{Taken}
use Rattle.lines.proofs.numbers.numbers_of.Given as goal

abbrev pub invariant-loop-b : goal.invariant-loop-b
invariant-loop-b l = Taken (length l.fn.out) l.line l.out l.b-index l.count l.number
