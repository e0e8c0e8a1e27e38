use Rattle.std.proofs.Common.{arith}
use Rattle.model.specs.Bytes.{bytes}
use Rattle.file_fields.proofs.Writing.{puts-more, puts-as}
use Rattle.tower_file.proofs.WritingParts.{file-parts, parts_length}
use Rattle.tower_file.proofs.file.write_parts.Goals as goal

pub write_field-at-requires : goal.write_field-at-requires
unfolding bytes
write_field-at-requires c = omega (arith, parts_length c.args.tower.now)

pub write_field-requires : goal.write_field-requires
unfolding bytes
write_field-requires c = omega (arith, parts_length c.args.tower.now)

pub returns : goal.returns
returns c =
    let all = file-parts c.args.tower.now in
    puts-as (rw (c.from.ensures, c.len.ensures.value, c.deref.ensures.0, c.len-2.ensures.value, c.deref-2.ensures.0) all)
    (puts-more (puts-more (puts-more (puts-more c.write_field-at.ensures c.write_field.ensures) c.write_each.ensures)
    c.write_field-2.ensures) c.write_each-2.ensures)
