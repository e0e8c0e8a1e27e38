use Rattle.std.proofs.Common.{◌≡◌, ◌≤◌, true, Bool, false, refl, sym, ◌∙◌}
use Rattle.std.specs.Prelude.{is_some}
use Rattle.std.specs.Bool.{then_some}
use borrow.Author.Tests.{lt-leb}
use Rattle.model.proofs.Solid.{solid-of}
use Rattle.units.proofs.Order.{is_le-leb}
use Rattle.areas.specs.Fits.{fits_under}
use Rattle.areas.proofs.Fits.{size-facts, under-iced}
use Rattle.areas.proofs.ranges.measure.Goals as goal

pub returns-in_err-ice-clause-stands : goal.returns-in_err-ice-clause-stands
unfolding fits_under
returns-in_err-ice-clause-stands c = rw (c.from_residual.ensures, lt-leb _ _ c.in_err-ice.ensures)

pub returns-then-not-sizes_fit-clause-stands : goal.returns-then-not-sizes_fit-clause-stands
returns-then-not-sizes_fit-clause-stands c =
    let thin : c.args.t.0 ≤ 50 = rw (← c.in_ok-ice.ensures) c.in_ok-ice.ice.thin in
    rw (under-iced c.args.t c.args.section.now thin, sym c.sizes_fit.ensures ∙ c.if-not-sizes_fit.true)

pub returns-in_err-areas-clause-stands : goal.returns-in_err-areas-clause-stands
returns-in_err-areas-clause-stands c =
    let thin : c.args.t.0 ≤ 50 = rw (← c.in_ok-ice.ensures) c.in_ok-ice.ice.thin in
    let sizes = sym c.sizes_fit.ensures ∙ c.if-not-sizes_fit.false in
    let groups = rw c.deref.ensures.0 at (sym c.in_err-areas.ensures.fit) in
    rw (c.from_residual-in_err-areas.ensures, under-iced c.args.t c.args.section.now thin, sizes, groups)

pub gross_area-requires : goal.gross_area-requires
gross_area-requires c =
    let f = size-facts c.args.section.now (sym c.sizes_fit.ensures ∙ c.if-not-sizes_fit.false) in
    (f.width, f.height)

some_then : {A : Type 0} (b : Bool) (x : A) → is_some (then_some b x) ≡ b
some_then true x = refl
some_then false x = refl

-- where the sizes and the groups are in range, the areas decide
pub returns-clause-stands : goal.returns-clause-stands
returns-clause-stands c =
    let thin : c.args.t.0 ≤ 50 = rw (← c.in_ok-ice.ensures) c.in_ok-ice.ice.thin in
    let sizes = sym c.sizes_fit.ensures ∙ c.if-not-sizes_fit.false in
    let groups = rw c.deref.ensures.0 at (sym c.in_ok-areas.ensures.fit) in
    let decided : c.le.result ≡ fits_under c.args.t c.args.section.now =
    rw (
      under-iced c.args.t c.args.section.now thin,
      sizes,
      groups,
      c.le.ensures,
      is_le-leb,
      c.solid.ensures,
      c.in_ok-areas.ensures.areas.0,
      solid-of,
      c.gross_area.ensures.value,
      c.in_ok-ice.ensures,
      c.deref.ensures.0,
    ) refl in
    rw (c.then_some.ensures, some_then) decided
