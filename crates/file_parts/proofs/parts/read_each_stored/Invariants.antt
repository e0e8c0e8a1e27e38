use Rattle.std.proofs.Common.{◌≡◌, ◌+◌, ◌≤◌, true, length, map}
use Rattle.counted.specs.Elements.{elements}
use Rattle.model.specs.Lists.{all_of}
use Rattle.file_parts.proofs.SoFar.{SoFar}
use Rattle.file_parts.proofs.parts.read_each_stored.Given as goal

abbrev pub invariant-loop : goal.invariant-loop
invariant-loop g l =
    let part = g.T.StoredFromBytes in
    record {
      long : length (elements l.parts) ≡ length (elements l.fn.parts) + l.counter;
      read : SoFar (λ earlier. part.reading) l.count (map part.value_of (elements l.fn.parts)) l.file l.counter (map part.value_of (elements l.parts)) l.at;
      count : l.fn.parts.count ≤ g.row.N → l.parts.count ≤ g.row.N;
      stored : all_of part.stored (elements l.fn.parts) ≡ true → all_of part.stored (elements l.parts) ≡ true;
    }
