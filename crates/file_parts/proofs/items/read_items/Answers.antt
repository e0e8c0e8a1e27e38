use Rattle.std.proofs.Common.{◌≡◌, ◌+◌, ◌∙◌, [], ◌∷◌, length-append, refl, sym, arith, drop}
use Rattle.counted.specs.Elements.{elements}
use Rattle.model.specs.Reading.{got}
use Rattle.model.specs.File.{read_item, read_items}
use Rattle.file_fields.proofs.Answered.{onward, onward-no, passed_on}
use Rattle.file_fields.proofs.Fetched.{field_barred}
use Rattle.file_parts.specs.Parts.{read_item_rest}
use Rattle.file_parts.proofs.Order.{number-first}
use Rattle.file_parts.proofs.SoFar.{one_more, no_more, all_read}
use Rattle.file_parts.proofs.items.read_items.Goals as goal

pub returns-in_default-clause-says : goal.returns-in_default-clause-says
unfolding read_items
returns-in_default-clause-says c =
    let l = c.loop in
    let no = number-first c.args.sections (elements l.earlier.items) (drop l.at c.args.file.now)
    ∙ rw (field_barred 2 c.args.file.now l.at c.in_default.ensures) refl in
    record { says = no_more _ _ _ _ l.invariant.1 c.loop-test.true no }

pub returns-then-contains-clause-says : goal.returns-then-contains-clause-says
unfolding read_items
returns-then-contains-clause-says c =
    let l = c.loop in
    let no = number-first c.args.sections (elements l.earlier.items) (drop l.at c.args.file.now)
    ∙ rw (c.in-Ok.ensures.0.says.0, sym c.if-contains.ensures) refl in
    record { says = no_more _ _ _ _ l.invariant.1 c.loop-test.true no }

pub returns-in_err-item-clause-says : goal.returns-in_err-item-clause-says
unfolding read_items
returns-in_err-item-clause-says c =
    let l = c.loop in
    let rest = read_item_rest c.args.sections c.in-Ok.number in
    let no = number-first c.args.sections (elements l.earlier.items) (drop l.at c.args.file.now)
    ∙ rw (c.in-Ok.ensures.0.says.0, sym c.if-contains.ensures) (onward-no rest c.args.file.now c.in-Ok.next c.in_err-item.ensures) in
    passed_on _ _ _ _ c.from_residual.ensures.1 (no_more _ _ _ _ l.invariant.1 c.loop-test.true no)

pub loop-preserved : goal.loop-preserved
loop-preserved c =
    let l = c.loop in
    let rest = read_item_rest c.args.sections c.in-Ok.number in
    let item = onward rest c.args.file.now c.in-Ok.next c.in-Ok.ensures.0.says.1 c.in_ok-item.ensures in
    let read : read_item c.args.sections (elements l.earlier.items) (drop l.at c.args.file.now)
    ≡ got c.in_ok-item.item (drop (c.in-Ok.next + c.in_ok-item.used) c.args.file.now) =
    number-first _ _ _ ∙ rw (c.in-Ok.ensures.0.says.0, sym c.if-contains.ensures) item.0 in
    let longer = length-append (elements l.earlier.items) (c.in_ok-item.item ∷ []) in
    rw c.push.ensures (omega (arith, longer, l.invariant.0), one_more _ _ _ _ l.invariant.1 c.loop-test.true (read, item.1))

pub returns-clause-says : goal.returns-clause-says
unfolding read_items
returns-clause-says c = record { says = all_read _ _ _ _ c.loop.invariant.1 c.loop-test.false }
