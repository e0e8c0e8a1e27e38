use Rattle.areas.proofs.LesserPressures.{wind_of}
use Rattle.areas.proofs.face.Face.lesser_wind.Goals as goal

pub returns-clause-wind : goal.returns-clause-wind
returns-clause-wind c =
    let a = c.args in
    let k = c.in_ok-pressure.ensures in
    rw c.then_some.ensures
    (wind_of a.t a.q a.self.now.groups.now a.i c.in_ok-pressure.pressure c.requires k.lesser k.below c.is_needless.result c.is_needless.ensures.needless)
