use Rattle.slots.proofs.WaysOut.{handed_on}
use Rattle.answer_calls.proofs.WaysOut.{check-refused, check_done}
use Rattle.answer_calls.proofs.answers.check.Goals as goal

pub returns-in_err-loaded_tower : goal.returns-in_err-loaded_tower
returns-in_err-loaded_tower c =
    rw (handed_on _ _ c.from_residual.ensures.1) (check-refused c.args.s.now _ c.in_err-loaded_tower.ensures.refused)

pub returns : goal.returns
returns c =
    let t = c.in_ok-loaded_tower.ensures.loaded in
    check_done c.args.s.now t.1 c.section_over.result (rw t.0 at c.section_over.ensures)
