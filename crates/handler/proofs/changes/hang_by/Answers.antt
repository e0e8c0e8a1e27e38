use Rattle.std.proofs.Common.{refl}
use Rattle.handler.proofs.Stepping.{asks, wrong_step, call_done, call_refused}
use Rattle.handler.proofs.changes.hang_by.Goals as goal

pub returns-in_err-item : goal.returns-in_err-item
returns-in_err-item c = wrong_step c.from_residual.result c.from_residual.ensures.1 c.in_err-item.ensures

pub returns-in_err-hang : goal.returns-in_err-hang
returns-in_err-hang c =
    asks c.in_ok-item.ensures
    (call_refused _ _ c.from_residual-in_err-hang.result c.from_residual-in_err-hang.ensures.1 c.in_err-hang.ensures)

pub returns : goal.returns
returns c = asks c.in_ok-item.ensures (call_done _ refl c.in_ok-hang.ensures)
