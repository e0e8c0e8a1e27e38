use Rattle.std.proofs.Common.{◌≡◌}
use Rattle.force_bench.specs.Words.{total_of}
use Rattle.force_bench.proofs.total.Given as goal

abbrev pub invariant-loop-i : goal.invariant-loop-i
invariant-loop-i l = l.sum ≡ total_of l.sound.case.now l.items l.i
