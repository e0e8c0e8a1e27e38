use Rattle.requests.proofs.line.read_line.Goals as goal

pub returns-in-None-clause-within : goal.returns-in-None-clause-within
returns-in-None-clause-within c = c.read_word.ensures.within _ _
