use Rattle.requests.specs.Asked.{helped, help_asked}
use Rattle.handler.proofs.Stepping.{asks, wrong_step, help_step}
use Rattle.handler.proofs.answers.help_by.Goals as goal

pub returns-in_err-exactly : goal.returns-in_err-exactly
unfolding help_asked
returns-in_err-exactly c = λ s. wrong_step c.from_residual.result c.from_residual.ensures.1 (c.in_err-exactly.ensures.asks helped)

pub returns : goal.returns
unfolding help_asked
returns c = λ s. asks (c.in_ok-exactly.ensures.asks helped) help_step
