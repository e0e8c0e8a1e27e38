-- Counts beside arrays.
use Rattle.std.specs.Prelude.{Bool, leb}
use Rattle.model.specs.declared.Section.{Section}

-- no more groups than the array has
abbrev pub groups_stored : Section → Bool
groups_stored s = leb s.groups.count 8
