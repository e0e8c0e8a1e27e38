-- A file that was read, as the tower that a program holds.
use Rattle.std.specs.Prelude.{◌≡◌, Bool, true, ◌&&◌, List, [], ℕ, leb, Result, Ok, Err}
use Rattle.counted.specs.Elements.{elements}
use Rattle.model.specs.declared.Refusal.{Refusal}
use Rattle.model.specs.declared.Tower as stored
use Rattle.model.specs.Answers.{refusal_number}
use Rattle.model.specs.Tower.{Tower, tower_of}
use Rattle.model.specs.Reading.{Parsed, got, refused}
use Rattle.model.specs.File.{read_file}
use Rattle.model.specs.Lists.{all_of}
use Rattle.file_parts.specs.Stored.{groups_stored}

-- a whole file, or its refusal
abbrev pub filed_as : Result stored.Tower Refusal → Parsed Tower
filed_as (Ok t) = got (tower_of t) []
filed_as (Err e) = refused (refusal_number e)

-- no count is beyond its array
unfoldable pub counts_stored : stored.Tower → Bool
counts_stored t = leb t.sections.count 32 && (leb t.items.count 64 && all_of groups_stored (elements t.sections))

-- of a tower that was read
abbrev pub CountsStored : Result stored.Tower Refusal → Type 0
CountsStored (Ok t) = counts_stored t ≡ true
CountsStored (Err e) = Unit {0}

pub record ReadsFile (file : List ℕ) (r : Result stored.Tower Refusal) : Type 0 where
  pub tower : read_file file ≡ filed_as r
  pub counts : CountsStored r
