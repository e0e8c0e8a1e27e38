use Rattle.std.proofs.Common.{◌≡◌, ◌+◌, length, map}
use Rattle.file_parts.proofs.SoFar.{SoFar}
use Rattle.file_parts.proofs.parts.read_each.Given as goal

abbrev pub invariant-loop-index : goal.invariant-loop-index
invariant-loop-index g l =
    let part = g.T.FromBytes in
    (length l.parts.items ≡ length l.fn.parts.items + l._index)
    × SoFar (λ earlier. part.reading) l.count (map part.value_of l.fn.parts.items) l.file l._index (map part.value_of l.parts.items) l.at
