use Rattle.std.proofs.Common.{sym}
use Rattle.file_bench.proofs.Numbers.{no_number}
use Rattle.file_bench.proofs.number_at.Goals as goal

pub returns-then-file-at : goal.returns-then-file-at
returns-then-file-at g c = sym (no_number _ _ _ c.requires.0 c.if-file-at.true)
