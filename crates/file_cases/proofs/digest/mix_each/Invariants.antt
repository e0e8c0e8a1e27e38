use Rattle.std.proofs.Common.{◌≡◌, take}
use Rattle.model.specs.Lists.{joined}
use Rattle.lines.specs.Digest.{digest}
use Rattle.file_cases.proofs.digest.mix_each.Given as goal

abbrev pub invariant-loop-part : goal.invariant-loop-part
invariant-loop-part g l = l.d ≡ digest l.initial.d (joined g.T.Values.values (take l.part-index l.parts))
