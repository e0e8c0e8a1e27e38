use Rattle.std.proofs.Common.{refl, arith}
use Rattle.model.specs.Ranges.{coefficients, position_factor}
use Rattle.model.specs.File.{read_item_fields}
use Rattle.file_fields.proofs.Answered.{passed_on, ranged-high}
use Rattle.file_parts.proofs.items.read_item_fields.Goals as goal

pub returns-in_err-width : goal.returns-in_err-width
unfolding read_item_fields
returns-in_err-width c = passed_on _ _ _ _ c.from_residual.ensures.1 (rw c.in_err-width.ensures.says refl)

pub returns-in_err-length : goal.returns-in_err-length
unfolding read_item_fields
returns-in_err-length c = passed_on _ _ _ _ c.from_residual-in_err-length.ensures.1 (rw (c.in_ok-width.ensures.says.0, c.in_err-length.ensures.says) refl)

pub returns-in_err-bare : goal.returns-in_err-bare
unfolding read_item_fields
returns-in_err-bare c =
    passed_on _ _ _ _ c.from_residual-in_err-bare.ensures.1
    (rw (c.in_ok-width.ensures.says.0, c.in_ok-length.ensures.says.0, c.in_err-bare.ensures.says) refl)

pub returns-in_err-iced : goal.returns-in_err-iced
unfolding read_item_fields
returns-in_err-iced c =
    passed_on _ _ _ _ c.from_residual-in_err-iced.ensures.1
    (rw (c.in_ok-width.ensures.says.0, c.in_ok-length.ensures.says.0, c.in_ok-bare.ensures.says.0, c.in_err-iced.ensures.says) refl)

pub returns-in_err-position : goal.returns-in_err-position
unfolding read_item_fields
returns-in_err-position c =
    passed_on _ _ _ _ c.from_residual-in_err-position.ensures.1
    (rw (c.in_ok-width.ensures.says.0, c.in_ok-length.ensures.says.0, c.in_ok-bare.ensures.says.0, c.in_ok-iced.ensures.says.0, c.in_err-position.ensures.says) refl)

pub overflow_cast-item : goal.overflow_cast-item
overflow_cast-item c = record { fits = omega (arith, ranged-high 2 coefficients 12 _ c.in_ok-bare.ensures.says.0) }

pub overflow_cast-item-2 : goal.overflow_cast-item-2
overflow_cast-item-2 c = record { fits = omega (arith, ranged-high 2 coefficients 12 _ c.in_ok-iced.ensures.says.0) }

pub overflow_cast-item-3 : goal.overflow_cast-item-3
overflow_cast-item-3 c = record { fits = omega (arith, ranged-high 2 position_factor 12 _ c.in_ok-position.ensures.says.0) }

pub returns : goal.returns
unfolding read_item_fields
returns c =
    let position = c.in_ok-position.ensures.says in
    record {
      says = (
        rw (c.in_ok-width.ensures.says.0, c.in_ok-length.ensures.says.0, c.in_ok-bare.ensures.says.0, c.in_ok-iced.ensures.says.0, position.0) refl,
        position.1,
      );
    }
