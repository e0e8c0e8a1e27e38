use Rattle.std.proofs.Common.{min, get_or, arith}
use Rattle.slots.specs.Held.{group_in}
use Rattle.slots.proofs.Lists.{list_to_map}
use Rattle.slots.proofs.sections.section_in.Goals as goal

pub returns-clause-section : goal.returns-clause-section
returns-clause-section c =
    rw (
      c.from.ensures,
      c.groups_in.ensures.items,
      c.min.ensures,
      ← list_to_map group_in c.args.numbers.now 0 (min (get_or c.args.fields.now 4 0) 8) (omega arith),
    )
