use Rattle.std.proofs.Common.{◌≡◌, [], length}
use Rattle.counted.specs.Elements.{elements}
use Rattle.model.specs.File.{read_item}
use Rattle.file_parts.proofs.SoFar.{SoFar}
use Rattle.file_parts.proofs.items.read_items.Given as goal

abbrev pub invariant-loop : goal.invariant-loop
invariant-loop l =
    (length (elements l.earlier.items) ≡ l.counter) × SoFar (read_item l.sections) l.count [] l.file l.counter (elements l.earlier.items) l.at
