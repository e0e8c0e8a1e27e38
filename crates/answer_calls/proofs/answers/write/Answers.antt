use Rattle.slots.proofs.WaysOut.{handed_on}
use Rattle.answer_calls.proofs.WaysOut.{write-fallen, write_done}
use Rattle.answer_calls.proofs.answers.write.Goals as goal

pub returns-in_err-expect_tower : goal.returns-in_err-expect_tower
returns-in_err-expect_tower c =
    let p = c.in_err-expect_tower.ensures.fallen in
    rw (handed_on _ _ c.from_residual.ensures.1, p.0) (write-fallen c.args.s.now p.1 c.args.out.now)

pub returns : goal.returns
returns c = write_done c.args.s.now c.in_ok-expect_tower.ensures.stands c.args.out.now c.tower_in.ensures c.write.ensures
