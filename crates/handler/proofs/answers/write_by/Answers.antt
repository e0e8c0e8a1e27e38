use Rattle.std.proofs.Common.{refl, length-take-le}
use Rattle.requests.specs.Asked.{written, write_asked}
use Rattle.handler.proofs.Stepping.{asks, wrong_step, refused_step, number_is}
use Rattle.handler.proofs.Answering.{file-step}
use Rattle.handler.proofs.answers.write_by.Goals as goal

pub returns-in_err-room : goal.returns-in_err-room
unfolding write_asked
returns-in_err-room c = wrong_step c.from_residual.result c.from_residual.ensures.1 (c.in_err-room.ensures.asks written)

pub returns-in_err-length : goal.returns-in_err-length
unfolding write_asked
returns-in_err-length c =
    let room = length-take-le _ _ c.in_ok-room.ensures.most in
    asks (c.in_ok-room.ensures.asks written)
    (refused_step (written _) _ c.from_residual-in_err-length.result c.from_residual-in_err-length.ensures.1 refl
    (rw room at (number_is c.in_err-length.ensures.reply)))

pub returns : goal.returns
unfolding write_asked
returns c =
    asks (c.in_ok-room.ensures.asks written)
    (file-step _ _ _ _ (length-take-le _ _ c.in_ok-room.ensures.most) c.in_ok-length.ensures refl)
