use Rattle.model.specs.Calls.{check}
use Rattle.requests.specs.Asked.{called, check_asked}
use Rattle.handler.proofs.Stepping.{asks, wrong_step, call_refused}
use Rattle.handler.proofs.Answering.{check_step}
use Rattle.handler.proofs.answers.check_by.Goals as goal

pub returns-in_err-exactly : goal.returns-in_err-exactly
unfolding check_asked
returns-in_err-exactly c = wrong_step c.from_residual.result c.from_residual.ensures.1 (c.in_err-exactly.ensures.asks (called check))

pub returns-in_err-check : goal.returns-in_err-check
unfolding check_asked
returns-in_err-check c =
    asks (c.in_ok-exactly.ensures.asks (called check))
    (call_refused _ _ c.from_residual-in_err-check.result c.from_residual-in_err-check.ensures.1 c.in_err-check.ensures)

pub returns : goal.returns
unfolding check_asked
returns c = asks (c.in_ok-exactly.ensures.asks (called check)) (check_step _ c.in_ok-check.ensures)
