use Rattle.std.proofs.Common.{arith}
use Rattle.file_fields.proofs.Writing.{puts-more}
use Rattle.file_bench.specs.Numbers.{field_numbers}
use Rattle.file_bench.proofs.Numbers.{gives_all}
use Rattle.file_bench.proofs.fields_by.Goals as goal

pub returns : goal.returns
unfolding field_numbers
returns g c = gives_all (omega arith) (puts-more c.put_numbers-at.ensures c.put_numbers.ensures)
