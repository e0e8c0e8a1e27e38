use Rattle.std.proofs.Common.{refl}
use Rattle.model.specs.Ranges.{item_count}
use Rattle.model.specs.File.{read_items}
use Rattle.file_fields.proofs.Answered.{onward, onward-no, passed_on, ranged-high}
use Rattle.file_parts.specs.Parts.{read_item_part}
use Rattle.file_parts.proofs.items.read_item_part.Goals as goal

pub returns-in_err-count-clause-says : goal.returns-in_err-count-clause-says
unfolding read_item_part
returns-in_err-count-clause-says c = passed_on _ _ _ _ c.from_residual.ensures.1 (rw c.in_err-count.ensures.says refl)

pub read_items-requires : goal.read_items-requires
read_items-requires c = ranged-high 1 item_count 9 _ c.in_ok-count.ensures.says.0

pub returns-in_err-items-clause-says : goal.returns-in_err-items-clause-says
unfolding read_item_part
returns-in_err-items-clause-says c =
    let no = onward-no (read_items c.args.sections c.in_ok-count.count) c.args.file.now c.in_ok-count.at c.in_err-items.ensures.says in
    passed_on _ _ _ _ c.from_residual-in_err-items.ensures.1 (rw (c.in_ok-count.ensures.says.0, no) refl)

pub returns-clause-says : goal.returns-clause-says
unfolding read_item_part
returns-clause-says c =
    let count = c.in_ok-count.ensures.says in
    let items = onward (read_items c.args.sections c.in_ok-count.count) c.args.file.now c.in_ok-count.at count.1 c.in_ok-items.ensures.says in
    record { says = (rw count.0 items.0, items.1) }
