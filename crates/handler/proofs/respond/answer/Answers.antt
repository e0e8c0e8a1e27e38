use Rattle.std.proofs.Common.{◌∙◌, arith}
use Rattle.handler.proofs.respond.answer.Goals as goal

pub returns-clause-long : goal.returns-clause-long
returns-clause-long g c =
    let text = c.respond-length.ensures.responds.text in
    record { within = text.high; whole = λ room. (text.put (omega (arith, room))).0 ∙ omega arith }
