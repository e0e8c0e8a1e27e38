use Rattle.std.proofs.Common.{refl, sym}
use Rattle.model.specs.Reading.{ranged}
use Rattle.file_fields.proofs.Fetched.{field_barred}
use Rattle.file_fields.proofs.fields.read_ranged.Goals as goal

pub returns-in_default : goal.returns-in_default
unfolding ranged
returns-in_default c = let e = field_barred _ c.args.file.now c.args.at c.in_default.ensures in record { says = rw e refl }

pub returns-then-not-contains : goal.returns-then-not-contains
unfolding ranged
returns-then-not-contains c = record { says = rw (c.in-Ok.ensures.0.says.0, sym c.if-not-contains.ensures) refl }

pub returns : goal.returns
unfolding ranged
returns c =
    let h = c.in-Ok.ensures.0.says in
    record { says = (rw (h.0, sym c.if-not-contains.ensures) refl, h.1) }
