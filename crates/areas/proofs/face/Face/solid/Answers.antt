use Rattle.std.proofs.Common.{arith}
use Rattle.areas.proofs.Sums.{solid-none, solid-next}
use Rattle.areas.proofs.face.Face.solid.Goals as goal

pub loop-group-init : goal.loop-group-init
loop-group-init c = record { value = solid-none _ c.default-sum.ensures; small = omega (arith, c.default-sum.ensures) }

pub loop-group-preserved : goal.loop-group-preserved
loop-group-preserved c =
    let l = c.loop-group in
    record {
      value = solid-next c.args.ice.thickness c.args.self.now.groups.now l.group-index _ c.loop-group-test.true l.invariant.value c.group_area.ensures.value c.add-sum.ensures;
      small = omega (arith, l.invariant.small, c.group_area.ensures.small, c.add-sum.ensures);
    }
