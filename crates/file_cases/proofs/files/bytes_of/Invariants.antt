use Rattle.std.proofs.Common.{◌≡◌, take}
use Rattle.file_cases.proofs.files.bytes_of.Given as goal

abbrev pub invariant-loop-n : goal.invariant-loop-n
invariant-loop-n l = l.file.items ≡ take l.n-index l.numbers
