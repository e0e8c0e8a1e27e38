use Rattle.std.proofs.Common.{take_all}
use Rattle.lines.specs.Text.{spaced}
use Rattle.lines.proofs.Putting.{appends_none, appends_both}
use Rattle.replies.proofs.Rows.{spaced_more, row_none, row_of}
use Rattle.replies.proofs.text.put_row.Goals as goal
use Rattle.replies.proofs.text.put_row.Goals.{in-Some+else-loop-n-test, in_default}

pub loop-n-init : goal.loop-n-init
unfolding spaced
loop-n-init c = appends_none _

pub loop-n-preserved : goal.loop-n-preserved
loop-n-preserved c =
    rw (spaced_more _ _ c.loop-n-test.true) (appends_both c.loop-n.invariant (appends_both c.push_decimal.ensures c.push.ensures))

pub returns : goal.returns
returns c =
    elim c.match-split_last.branch [
      | in-Some+else-loop-n-test w ↦
          let front = rw (take_all _ _ w.loop-n-test.false) at w.loop-n.invariant in
          rw (w.in-Some.ensures.cases.0, row_of) (appends_both front (appends_both w.push_decimal-in-Some.ensures (rw w.text-is at c.push-2.ensures)))
      | in_default w ↦ rw (row_none _ w.in_default.ensures.cases) (rw w.text-is at c.push-2.ensures)
    ]
