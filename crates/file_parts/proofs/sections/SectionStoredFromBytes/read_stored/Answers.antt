use Rattle.std.proofs.Common.{◌<◌, ◌≤◌, refl, arith}
use Rattle.std.proofs.lemmas.Bool.Decides.{nat_tests}
use Rattle.model.proofs.Readings.{groups-fit}
use Rattle.file_fields.proofs.Answered.{passed_on}
use Rattle.file_parts.proofs.Order.{head_first, groups-behind, groups-barred, head-facts, too-solid, not-solid}
use Rattle.file_parts.proofs.sections.SectionStoredFromBytes.read_stored.Goals as goal

pub returns-in_err-head-clause-says : goal.returns-in_err-head-clause-says
returns-in_err-head-clause-says c = passed_on _ _ _ _ c.from_residual.ensures.1 (rw (head_first c.args.file.now, c.in_err-head.ensures.says) refl)

pub read_each_stored-requires : goal.read_each_stored-requires
read_each_stored-requires c = rw c.new-groups.ensures.items (omega (arith, (head-facts _ c.in_ok-head.ensures.says.0).count))

pub returns-in_err-used-clause-says : goal.returns-in_err-used-clause-says
returns-in_err-used-clause-says c =
    let head = c.in_ok-head in
    let no = groups-barred head.head.count c.args.file.now head.at c.new-groups.ensures.items c.in_err-used.ensures.says in
    passed_on _ _ _ _ c.from_residual-in_err-used.ensures.1 (rw (head_first c.args.file.now, head.ensures.says.0, no) refl)

pub invariant_of-solid : goal.invariant_of-solid
invariant_of-solid c =
    let head = c.in_ok-head in
    let groups = groups-behind head.head.count c.args.file.now head.at c.new-groups.ensures.items head.ensures.says.1 c.in_ok-used.ensures.says in
    let fit = groups-fit head.head.count _ groups.0 in
    record { few = c.as_slice-groups.ensures.fits; fit = rw c.as_slice-groups.ensures.value fit.0 }

pub gross_area-requires : goal.gross_area-requires
gross_area-requires c =
    let facts = head-facts _ c.in_ok-head.ensures.says.0 in
    (facts.width, facts.height)

pub returns-then-lt-clause-says : goal.returns-then-lt-clause-says
returns-then-lt-clause-says c =
    let head = c.in_ok-head in
    let groups = groups-behind head.head.count c.args.file.now head.at c.new-groups.ensures.items head.ensures.says.1 c.in_ok-used.ensures.says in
    let solid = rw (c.of_class.ensures, c.as_slice-groups.ensures.value) at c.solid-solid.ensures in
    let less : c.gross_area.result.0 < c.solid-solid.result.0 = grind (arith, nat_tests) in
    record { says = rw (head_first c.args.file.now, head.ensures.says.0, groups.0, too-solid c.gross_area.ensures.value solid less) refl }

pub returns-clause-says : goal.returns-clause-says
returns-clause-says c =
    let head = c.in_ok-head in
    let groups = groups-behind head.head.count c.args.file.now head.at c.new-groups.ensures.items head.ensures.says.1 c.in_ok-used.ensures.says in
    let solid = rw (c.of_class.ensures, c.as_slice-groups.ensures.value) at c.solid-solid.ensures in
    let most : c.solid-solid.result.0 ≤ c.gross_area.result.0 = grind (arith, nat_tests) in
    record {
      says = (
        rw (head_first c.args.file.now, head.ensures.says.0, groups.0, not-solid c.gross_area.ensures.value solid most) refl,
        groups.1,
      );
    }
