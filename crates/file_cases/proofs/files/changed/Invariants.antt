use Rattle.std.proofs.Common.{◌≡◌, length}
use Rattle.file_cases.proofs.files.changed.Given as goal

abbrev pub invariant-loop-at : goal.invariant-loop-at
invariant-loop-at l = length l.file.items ≡ length l.base
