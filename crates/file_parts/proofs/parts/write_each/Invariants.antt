use Rattle.std.proofs.Common.{take}
use Rattle.model.specs.Lists.{joined}
use Rattle.file_fields.specs.Written.{Puts}
use Rattle.file_parts.proofs.parts.write_each.Given as goal

abbrev pub invariant-loop-part : goal.invariant-loop-part
invariant-loop-part g l = Puts (joined g.T.ToBytes.bytes_of (take l.part-index l.parts)) l.fn.out l.out l.at
