use Rattle.std.proofs.Common.{arith}
use Rattle.slots.proofs.WaysOut.{handed_on}
use Rattle.answer_calls.proofs.WaysOut.{report-refused, report-short, report-done}
use Rattle.answer_calls.proofs.answers.report.Goals as goal

pub returns-in_err-tower : goal.returns-in_err-tower
returns-in_err-tower c =
    rw (handed_on _ _ c.from_residual.ensures.1) (report-refused c.args.s.now _ c.in_err-tower.ensures.refused c.args.out.now)

pub returns-then-out-count_in : goal.returns-then-out-count_in
returns-then-out-count_in c =
    report-short c.args.s.now c.in_ok-tower.ensures.loaded.1 c.args.out.now (omega (arith, c.if-out-count_in.true, c.count_in.ensures.0))

pub returns : goal.returns
returns c =
    let t = c.in_ok-tower.ensures.loaded in
    report-done c.args.s.now t.1 c.args.out.now (omega (arith, c.if-out-count_in.false, c.count_in.ensures.0)) (rw t.0 at c.write_rows.ensures)
