use Rattle.std.proofs.Common.{◌≡◌, true, take}
use Rattle.model.specs.Lists.{all_of}
use Rattle.model.specs.Valid.{group_fits}
use Rattle.areas.proofs.Sums.{AreasAfter}
use Rattle.areas.proofs.ranges.measure_groups.Given as goal

abbrev pub invariant-loop-group : goal.invariant-loop-group
invariant-loop-group l = record {
  fit : all_of group_fits (take l.group-index l.groups) ≡ true;
  areas : AreasAfter l.ice.thickness l.q l.groups l.group-index l.areas;
}
