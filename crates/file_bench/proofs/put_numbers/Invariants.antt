use Rattle.std.proofs.Common.{◌≡◌, ◌++◌, map, take, drop}
use Rattle.file_bench.specs.Numbers.{number_at}
use Rattle.file_bench.proofs.put_numbers.Given as goal

abbrev pub invariant-loop-i : goal.invariant-loop-i
invariant-loop-i g l = l.out ≡ map (number_at l.width l.file) (take l.i l.places) ++ drop l.i l.fn.out
