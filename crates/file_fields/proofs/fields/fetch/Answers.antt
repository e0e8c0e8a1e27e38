use Rattle.std.proofs.Common.{arith}
use Rattle.file_fields.proofs.Fetched.{field_ends, fetched}
use Rattle.file_fields.proofs.fields.fetch.Goals as goal

pub returns-in_default : goal.returns-in_default
returns-in_default g c = field_ends g.row.N c.args.file.now c.args.at c.in_default.ensures.cases

pub returns : goal.returns
returns g c =
    fetched g.row.N c.args.file.now c.args.at c.in-Some.bytes.now c.copy_from_slice.new.self c.from_be_bytes.result c.requires.place c.requires.width (λ i. omega (arith, c.type_inv.file i))
    c.in-Some.ensures.cases
    c.copy_from_slice.ensures.after
    c.from_be_bytes.ensures
