use Rattle.std.proofs.Common.{sym, arith}
use Rattle.model.specs.Tower.{wind_of}
use Rattle.model.specs.Calls.{wind}
use Rattle.slots.proofs.Grounds.{count-few}
use Rattle.slots.proofs.WaysOut.{handed_on, turned_down}
use Rattle.tower_calls.proofs.WindPut.{wind-taken, wind-put}
use Rattle.tower_calls.proofs.wind.set_wind.Goals as goal

pub returns-in_err-validate : goal.returns-in_err-validate
returns-in_err-validate c =
    rw (handed_on _ _ c.from_residual.ensures.1) (turned_down (wind (wind_of c.args.wind)) c.args.s.now _ (sym c.in_err-validate.ensures))

pub put_pressures-requires : goal.put_pressures-requires
put_pressures-requires c =
    let l = c.args.s.now in
    omega (arith, (wind-taken l (wind_of c.args.wind) (sym c.in_ok-validate.ensures)).count, count-few l)

pub returns : goal.returns
returns c =
    wind-put c.args.s.now c.put_pressures.new.s c.put_wind.new.head (wind_of c.args.wind) c.told-s (sym c.in_ok-validate.ensures) c.put_pressures.ensures c.put_wind.ensures
