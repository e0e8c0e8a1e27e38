use Rattle.std.proofs.Common.{ℕ, List, get_or, ap, ◌∙◌, arith}
use Rattle.std.proofs.Math.ListN.{set}
use Rattle.file_bench.specs.Numbers.{number_at}
use Rattle.file_bench.proofs.Numbers.{number_more}
use Rattle.file_bench.proofs.put_numbers.Goals as goal

pub loop-i-preserved : goal.loop-i-preserved
loop-i-preserved g c =
    let f = number_at c.args.width c.args.file.now in
    rw c.number_at.ensures
    (ap (λ (o : List ℕ). set o c.loop-i.i (f (get_or c.args.places.now c.loop-i.i 0))) c.loop-i.invariant
    ∙ number_more f c.args.places.now c.args.out.now c.loop-i.i (omega arith) (omega arith))
