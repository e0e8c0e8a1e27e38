use Rattle.std.proofs.Common.{sym, ◌∙◌}
use Rattle.call_bench.proofs.First.{first-fallen, first-none, first-held}
use Rattle.call_bench.proofs.first_of.Goals as goal
use Rattle.call_bench.proofs.first_of.Goals.{in_default-via-in-Some+else-is_standing, in_default-via-in_default}

pub returns-in-Some : goal.returns-in-Some
returns-in-Some c =
    c.item_of.ensures.0 ∙ first-held _ _ c.item_slots.ensures.slots (sym c.is_standing.ensures ∙ c.if-is_standing.true) _ c.in-Some.ensures.value

pub returns-in_default : goal.returns-in_default
returns-in_default c =
    c.dish.ensures
    ∙ elim c.in_default.branch [
      | in_default-via-in-Some+else-is_standing w ↦ first-fallen _ (sym w.is_standing.ensures ∙ w.if-is_standing.false)
      | in_default-via-in_default w ↦ first-none _ _ c.item_slots.ensures.slots w.in_default.ensures.value
    ]
