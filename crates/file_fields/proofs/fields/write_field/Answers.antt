use Rattle.file_fields.proofs.Writing.{puts-field}
use Rattle.file_fields.proofs.fields.write_field.Goals as goal

pub returns : goal.returns
returns c =
    let a = c.args in
    puts-field a.width a.value c.saturating_sub-zeros.result a.out.now _ _ _ c.requires c.ranges.value.fits c.saturating_sub-zeros.ensures (c.fill.ensures.after (λ y e. e))
    c.to_be_bytes.ensures
    c.copy_from_slice.ensures.after
