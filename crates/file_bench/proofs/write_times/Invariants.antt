use Rattle.model.specs.Tower.{tower_of}
use Rattle.tower_file.specs.Written.{WritesFile}
use Rattle.file_bench.proofs.write_times.Given as goal

-- written as once, over what the first writing left
abbrev pub invariant-loop : goal.invariant-loop
invariant-loop l = WritesFile (tower_of l.tower) l.initial.out l.out l.answer
