use Rattle.std.proofs.Common.{arith}
use Rattle.std.proofs.lemmas.Result.{err_from_is_err_and}
use Rattle.file_bench.proofs.Again.{accepted, barred}
use Rattle.file_bench.proofs.timed.Goals as goal

pub returns-in_err-read_times : goal.returns-in_err-read_times
returns-in_err-read_times c =
    let y = err_from_is_err_and c.from_residual.result c.from_residual.ensures.1 in
    rw y.1 (barred c.in_err-read_times.ensures)

pub returns : goal.returns
returns c = accepted (λ i. omega (arith, c.type_inv.file i)) c.in_ok-read_times.ensures c.write_times.ensures
