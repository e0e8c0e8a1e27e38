use Rattle.std.proofs.Common.{refl, arith}
use Rattle.host.proofs.RowsOut.{rows_short, rows_room, rows_written, never_refused}
use Rattle.host.proofs.row_bytes.write_report.Goals as goal

pub returns-then-rows-count : goal.returns-then-rows-count
returns-then-rows-count c = λ t w stands. rows_short _ c.count_in-count.result c.count_in-count.ensures.0 t w stands (omega arith) refl

pub returns-in_err-report : goal.returns-in_err-report
returns-in_err-report c =
    λ t w stands. absurd (never_refused _ c.count_in-count.result c.count_in-count.ensures.0 t w stands refl c.in_err-report.was c.report.ensures)

pub write_each-requires : goal.write_each-requires
write_each-requires c = rows_room c.count_in-count.result _ c.report.new.out c.if-rows-count.false

pub returns : goal.returns
returns c =
    λ t w stands.
    rows_written _ c.count_in-count.result c.count_in-count.ensures.0 t w stands refl c.report.ensures c.if-rows-count.false c.write_each.ensures
