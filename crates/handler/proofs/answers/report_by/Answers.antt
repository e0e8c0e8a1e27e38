use Rattle.std.proofs.Common.{refl, length-take-le}
use Rattle.requests.specs.Asked.{reported, report_asked}
use Rattle.handler.proofs.Stepping.{asks, wrong_step, refused_step, number_is}
use Rattle.handler.proofs.Answering.{rows_there, rows_step}
use Rattle.handler.proofs.answers.report_by.Goals as goal

pub returns-in_err-room : goal.returns-in_err-room
unfolding report_asked
returns-in_err-room c = wrong_step c.from_residual.result c.from_residual.ensures.1 (c.in_err-room.ensures.asks reported)

pub returns-in_err-report : goal.returns-in_err-report
unfolding report_asked
returns-in_err-report c =
    let room = length-take-le _ _ c.in_ok-room.ensures.most in
    asks (c.in_ok-room.ensures.asks reported)
    (refused_step (reported _) _ c.from_residual-in_err-report.result c.from_residual-in_err-report.ensures.1 refl
    (rw room at (number_is c.in_err-report.ensures.reply)))

pub slice_bounds-result-end : goal.slice_bounds-result-end
slice_bounds-result-end c =
    rows_there _ _ _ _ (length-take-le _ _ c.in_ok-room.ensures.most) _ c.count_in.ensures.0 c.in_ok-report.ensures

pub returns : goal.returns
unfolding report_asked
returns c =
    asks (c.in_ok-room.ensures.asks reported)
    (rows_step _ _ _ _ (length-take-le _ _ c.in_ok-room.ensures.most) _ c.count_in.ensures.0 c.in_ok-report.ensures refl)
