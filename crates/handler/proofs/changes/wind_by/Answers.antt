use Rattle.std.proofs.Common.{refl}
use Rattle.handler.proofs.Stepping.{asks, wrong_step, call_done, call_refused}
use Rattle.handler.proofs.changes.wind_by.Goals as goal

pub returns-in_err-wind : goal.returns-in_err-wind
returns-in_err-wind c = wrong_step c.from_residual.result c.from_residual.ensures.1 c.in_err-wind.ensures

pub returns-in_err-set_wind : goal.returns-in_err-set_wind
returns-in_err-set_wind c =
    asks c.in_ok-wind.ensures
    (call_refused _ _ c.from_residual-in_err-set_wind.result c.from_residual-in_err-set_wind.ensures.1 c.in_err-set_wind.ensures)

pub returns : goal.returns
returns c = asks c.in_ok-wind.ensures (call_done _ refl c.in_ok-set_wind.ensures)
