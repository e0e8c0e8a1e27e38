use Rattle.std.proofs.Common.{take}
use Rattle.lines.specs.Text.{spaced}
use Rattle.lines.specs.Appends.{Appends}
use Rattle.replies.proofs.text.put_row.Given as goal

abbrev pub invariant-loop-n : goal.invariant-loop-n
invariant-loop-n l = Appends (spaced (take l.n-index l.front)) l.initial.text l.text
