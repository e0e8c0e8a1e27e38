use Rattle.std.proofs.Common.{◌*◌, ◌≤◌, ◌≡◌, length, take}
use Rattle.file_parts.proofs.Lengths.{sections_bytes}
use Rattle.file_parts.proofs.sections.sections_length.Given as goal

abbrev pub invariant-loop-section : goal.invariant-loop-section
invariant-loop-section l =
    (l.length ≡ length (sections_bytes (take l.section-index l.sections))) × (l.length ≤ l.section-index * 65)
