use Rattle.std.proofs.Common.{rules, of_calls}
use Rattle.call_bench.specs.Repeated.{erect_round}
use Rattle.call_bench.proofs.erect_bench.Goals as goal

pub returns : goal.returns
returns c = c.repeated.ensures (λ _ _. erect_round c.args.file.now) (λ before after i n h k. search (rules, of_calls))
