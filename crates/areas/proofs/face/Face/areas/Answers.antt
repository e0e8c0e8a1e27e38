use Rattle.model.specs.Valid.{group_fits}
use Rattle.model.proofs.Lists.{all-at}
use Rattle.areas.proofs.Facts.{no_group}
use Rattle.areas.proofs.Sums.{after_none, after-more}
use Rattle.areas.proofs.face.Face.areas.Goals as goal

pub loop-group-init : goal.loop-group-init
loop-group-init c = after_none _ _ _ {a = c.default-sum.result} c.default-sum.ensures

pub loop-group-preserved : goal.loop-group-preserved
loop-group-preserved c =
    let f = c.args.self.now in
    let l = c.loop-group in
    let h = c.loop-group-test.true in
    after-more c.args.ice.thickness c.args.q f.groups.now l.group-index no_group c.args.ice.thin h
    (all-at group_fits f.groups.now l.group-index no_group h f.fit)
    l.invariant
    c.add_group-sum.ensures
