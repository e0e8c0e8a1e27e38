use Rattle.std.proofs.Common.{◌≡◌}
use Rattle.replies.proofs.Rows.{RowsPut}
use Rattle.replies.proofs.text.put_rows.Given as goal

abbrev pub invariant-loop-row : goal.invariant-loop-row
invariant-loop-row l =
    record { put : RowsPut l.rows l.row-iterator.rest.now l.initial.text l.text; six : l.row-iterator.size ≡ 6 }
