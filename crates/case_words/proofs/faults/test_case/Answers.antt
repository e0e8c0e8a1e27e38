use Rattle.std.proofs.Common.{sym, ◌∙◌}
use Rattle.model.specs.Ranges.{ice_classes, structure_factor, pressures}
use Rattle.model.proofs.Sections.{in-range}
use Rattle.case_words.proofs.faults.test_case.Goals as goal

pub invariant_of-result : goal.invariant_of-result
invariant_of-result c =
    record {
      ice = (in-range ice_classes _ (sym c.contains-2.ensures ∙ c.if-not-contains-2.false)).high;
      factor = (in-range structure_factor _ (sym c.contains-3.ensures ∙ c.if-not-contains-3.false)).high;
      pressure = (in-range pressures _ (rw c.from-2.ensures at (sym c.contains-4.ensures ∙ c.if-not-contains-4.false))).high;
      stands = rw (← c.of_class.ensures) c.in_ok-test_section.ensures.stands;
    }
