use Rattle.std.proofs.Common.{◌≡◌, ◌*◌, ◌≤◌, take}
use Rattle.model.specs.Areas.{solid_of}
use Rattle.areas.proofs.face.Face.solid.Given as goal

abbrev pub invariant-loop-group : goal.invariant-loop-group
invariant-loop-group l = record {
  value : l.sum ≡ solid_of l.ice.thickness (take l.group-index l.self.groups.now);
  small : l.sum.0 ≤ l.group-index * 220_000_000;
}
