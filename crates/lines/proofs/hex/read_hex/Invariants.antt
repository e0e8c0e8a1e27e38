use Rattle.std.proofs.Common.{◌≡◌, length}
use Rattle.lines.proofs.Pairs.{Paired}
use Rattle.lines.proofs.hex.read_hex.Given as goal

abbrev pub invariant-loop-i : goal.invariant-loop-i
invariant-loop-i l =
    record {
      paired : Paired (length l.fn.out) l.text l.out l.i-iterator.iter.rest.now l.i-iterator.count;
      two : l.i-iterator.iter.size ≡ 2;
    }
