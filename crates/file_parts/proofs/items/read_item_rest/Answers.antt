use Rattle.std.proofs.Common.{refl}
use borrow.Author.Tests.{lt-ltb, le-ltb}
use Rattle.model.specs.File.{read_item_fields}
use Rattle.file_parts.specs.Parts.{read_item_rest}
use Rattle.file_fields.proofs.Answered.{onward, onward-no, passed_on}
use Rattle.file_fields.proofs.Fetched.{field_barred}
use Rattle.file_parts.proofs.items.read_item_rest.Goals as goal

pub returns-in_default : goal.returns-in_default
unfolding read_item_rest
returns-in_default c = record { says = rw (field_barred 1 c.args.file.now 0 c.in_default.ensures) refl }

pub returns-then-sections-section : goal.returns-then-sections-section
unfolding read_item_rest
returns-then-sections-section c =
    record { says = rw (c.in-Ok.ensures.0.says.0, le-ltb c.in-Ok.section _ c.if-sections-section.true) refl }

pub returns-in_err-item : goal.returns-in_err-item
unfolding read_item_rest
returns-in_err-item c =
    let no = onward-no (read_item_fields c.args.number c.in-Ok.section) c.args.file.now c.in-Ok.at c.in_err-item.ensures in
    passed_on _ _ _ _ c.from_residual.ensures.1 (rw (c.in-Ok.ensures.0.says.0, lt-ltb _ _ c.if-sections-section.false, no) refl)

pub returns : goal.returns
unfolding read_item_rest
returns c =
    let section = c.in-Ok.ensures.0.says in
    let item = onward (read_item_fields c.args.number c.in-Ok.section) c.args.file.now c.in-Ok.at section.1 c.in_ok-item.ensures in
    record { says = (rw (section.0, lt-ltb _ _ c.if-sections-section.false) item.0, item.1) }
