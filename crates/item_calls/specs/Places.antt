-- Which of the items' slots have a number.
use Rattle.std.specs.Prelude.{ℕ, ◌%◌, Bool, not, List, eqb, get_or}

-- an item's slot tells its number, whatever its other cells
abbrev pub has_number : ℕ → List ℕ → Bool
has_number n x = eqb (get_or x 0 0 % 65_536) n

abbrev pub has_another : ℕ → List ℕ → Bool
has_another n x = not (has_number n x)
