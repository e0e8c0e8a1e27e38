use Rattle.std.proofs.Common.{rules, of_calls}
use Rattle.call_bench.specs.Repeated.{first_round}
use Rattle.call_bench.proofs.first_down_bench.Goals as goal

pub returns : goal.returns
returns c = c.repeated.ensures (λ x _. first_round x) (λ before after i n h k. search (rules, of_calls))
