use Rattle.std.proofs.Common.{refl, length}
use Rattle.handler.proofs.Stepping.{asks, wrong_step, call_done, call_refused}
use Rattle.handler.proofs.step.step_line.Goals as goal

pub returns-in_err-verb : goal.returns-in_err-verb
returns-in_err-verb c = wrong_step c.from_residual.result c.from_residual.ensures.1 (c.in_err-verb.ensures.asks _)

pub returns-in_err-erect-in-Erect : goal.returns-in_err-erect-in-Erect
returns-in_err-erect-in-Erect c =
    let so = rw (c.in_ok-verb.was, c.in-Erect.is) at (c.lent_request.ensures.asks (length c.args.rows.now)) in
    asks so
    (call_refused _ _ c.from_residual-in_err-erect-in-Erect.result c.from_residual-in_err-erect-in-Erect.ensures.1 c.in_err-erect-in-Erect.ensures)

pub returns-in_ok-erect-in-Erect : goal.returns-in_ok-erect-in-Erect
returns-in_ok-erect-in-Erect c =
    let so = rw (c.in_ok-verb.was, c.in-Erect.is) at (c.lent_request.ensures.asks (length c.args.rows.now)) in
    asks so (call_done _ refl c.in_ok-erect-in-Erect.ensures)
