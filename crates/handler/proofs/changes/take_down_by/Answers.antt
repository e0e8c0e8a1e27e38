use Rattle.std.proofs.Common.{refl}
use Rattle.handler.proofs.Stepping.{asks, wrong_step, call_done, call_refused}
use Rattle.handler.proofs.changes.take_down_by.Goals as goal

pub returns-in_err-number : goal.returns-in_err-number
returns-in_err-number c = wrong_step c.from_residual.result c.from_residual.ensures.1 c.in_err-number.ensures

pub returns-in_err-take_down : goal.returns-in_err-take_down
returns-in_err-take_down c =
    asks c.in_ok-number.ensures
    (call_refused _ _ c.from_residual-in_err-take_down.result c.from_residual-in_err-take_down.ensures.1 c.in_err-take_down.ensures)

pub returns : goal.returns
returns c = asks c.in_ok-number.ensures (call_done _ refl c.in_ok-take_down.ensures)
