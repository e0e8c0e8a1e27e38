use Rattle.tower_file.specs.Stored.{ReadsFile}
use Rattle.file_bench.proofs.read_times.Given as goal

abbrev pub invariant-loop : goal.invariant-loop
invariant-loop l = ReadsFile l.file l.got
