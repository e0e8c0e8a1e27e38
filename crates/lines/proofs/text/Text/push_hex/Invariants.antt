use Rattle.std.proofs.Common.{take}
use Rattle.lines.specs.Hex.{hex_text}
use Rattle.lines.specs.Appends.{Appends}
use Rattle.lines.proofs.text.Text.push_hex.Given as goal

abbrev pub invariant-loop-b : goal.invariant-loop-b
invariant-loop-b l = Appends (hex_text (take l.b-index l.bytes)) l.initial.self l.self
