use Rattle.std.proofs.Common.{rules, of_calls}
use Rattle.call_bench.specs.Repeated.{hang_round}
use Rattle.call_bench.proofs.hang_bench.Goals as goal

pub returns : goal.returns
returns c = c.repeated.ensures (λ _ i. hang_round i) (λ before after i n h k. search (rules, of_calls))
