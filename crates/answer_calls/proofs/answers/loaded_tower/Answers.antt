use Rattle.slots.proofs.WaysOut.{handed_on}
use Rattle.answer_calls.proofs.WaysOut.{fallen-refused, calm-refused, loaded}
use Rattle.answer_calls.proofs.answers.loaded_tower.Goals as goal

pub returns-in_err-expect_tower-clause-refused : goal.returns-in_err-expect_tower-clause-refused
returns-in_err-expect_tower-clause-refused c =
    let p = c.in_err-expect_tower.ensures.fallen in
    rw (handed_on _ _ c.from_residual.ensures.1, p.0) (fallen-refused c.args.s.now p.1)

pub returns-clause-refused : goal.returns-clause-refused
returns-clause-refused c =
    rw c.ok_or.ensures.value (calm-refused c.args.s.now c.in_ok-expect_tower.ensures.stands c.new.result c.new.ensures.stands)

pub returns-clause-loaded : goal.returns-clause-loaded
returns-clause-loaded c =
    rw c.ok_or.ensures.value (loaded c.args.s.now c.in_ok-expect_tower.ensures.stands c.new.result c.new.ensures.stands c.new.ensures.state)
