use Rattle.std.proofs.Common.{◌∙◌, arith}
use Rattle.replies.proofs.Rows.{row_put, all_rows}
use Rattle.replies.proofs.text.put_rows.Goals as goal

pub loop-row-preserved : goal.loop-row-preserved
loop-row-preserved c =
    let s = c.in-Some.ensures.steps in
    record {
      put = row_put _ (rw s.1.0 at c.loop-row.invariant.put) (s.1.1 ∙ c.loop-row.invariant.six) c.put_row.ensures;
      six = s.0 ∙ c.loop-row.invariant.six;
    }

pub returns : goal.returns
returns c = all_rows c.loop-row.invariant.put (omega (arith, c.in-None.ensures.steps.1.0))
