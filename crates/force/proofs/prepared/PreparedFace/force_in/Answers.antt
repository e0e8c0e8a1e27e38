use Rattle.std.proofs.Common.{refl}
use Rattle.force.proofs.Bounded.{by-bounds, no-pressure}
use Rattle.force.proofs.prepared.PreparedFace.force_in.Goals as goal

pub returns-then-factored-eq0 : goal.returns-then-factored-eq0
returns-then-factored-eq0 c = no-pressure c.args.self c.args.w c.requires c.if-factored-eq0.true

pub returns-in-Ok : goal.returns-in-Ok
returns-in-Ok c =
    by-bounds c.args.self c.args.w c.requires
    _ (record { factor = refl; slope = c.incidence.ensures; offset = refl; divisor = refl }) c.in-Ok.f c.in-Ok.ensures
