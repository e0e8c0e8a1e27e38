use Rattle.std.proofs.Common.{refl}
use borrow.Author.Tests.{eq-eqb, ne_eqb}
use Rattle.file_fields.proofs.Answered.{passed_on}
use Rattle.file_fields.proofs.Fetched.{field_barred}
use Rattle.file_parts.specs.Parts.{read_head}
use Rattle.file_parts.proofs.sections.read_head.Goals as goal

pub returns-in_err-width : goal.returns-in_err-width
unfolding read_head
returns-in_err-width c = passed_on _ _ _ _ c.from_residual.ensures.1 (rw c.in_err-width.ensures.says refl)

pub returns-in_err-height : goal.returns-in_err-height
unfolding read_head
returns-in_err-height c =
    passed_on _ _ _ _ c.from_residual-in_err-height.ensures.1 (rw (c.in_ok-width.ensures.says.0, c.in_err-height.ensures.says) refl)

pub returns-then-height-ne0 : goal.returns-then-height-ne0
unfolding read_head
returns-then-height-ne0 c =
    record { says = rw (c.in_ok-width.ensures.says.0, c.in_ok-height.ensures.says.0, ne_eqb _ _ c.if-height-ne0.true) refl }

pub returns-in_default : goal.returns-in_default
unfolding read_head
returns-in_default c =
    record {
      says = rw (
        c.in_ok-width.ensures.says.0,
        c.in_ok-height.ensures.says.0,
        eq-eqb _ _ c.if-height-ne0.false,
        field_barred 4 c.args.file.now c.in_ok-height.at c.in_default.ensures,
      )
          refl;
    }

pub returns-in_err-count : goal.returns-in_err-count
unfolding read_head
returns-in_err-count c =
    passed_on _ _ _ _ c.from_residual-in_err-count.ensures.1
    (rw (
      c.in_ok-width.ensures.says.0,
      c.in_ok-height.ensures.says.0,
      eq-eqb _ _ c.if-height-ne0.false,
      c.in-Ok.ensures.0.says.0,
      c.in_err-count.ensures.says,
    )
    refl)

pub returns : goal.returns
unfolding read_head
returns c =
    let count = c.in_ok-count.ensures.says in
    record {
      says = (
        rw (
          c.in_ok-width.ensures.says.0,
          c.in_ok-height.ensures.says.0,
          eq-eqb _ _ c.if-height-ne0.false,
          c.in-Ok.ensures.0.says.0,
          count.0,
          c.from.ensures,
        )
            refl,
        count.1,
      );
    }
