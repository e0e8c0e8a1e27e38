use Rattle.std.proofs.Common.{arith}
use Rattle.std.proofs.Math.Seq.{take-set-lt}
use Rattle.std.proofs.lemmas.List.{length-take}
use Rattle.counted.proofs.Counted.set.Goals as goal

pub returns-clause-items : goal.returns-clause-items
returns-clause-items g c =
    let v = c.args.self.now in
    take-set-lt v.count v.places c.args.index c.args.element (omega (arith, length-take v.count v.places, c.requires))
