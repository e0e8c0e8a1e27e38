use Rattle.areas.proofs.Sums.{AreasAfter}
use Rattle.areas.proofs.face.Face.areas.Given as goal

abbrev pub invariant-loop-group : goal.invariant-loop-group
invariant-loop-group l = AreasAfter l.ice.thickness l.q l.self.groups.now l.group-index l.sum
