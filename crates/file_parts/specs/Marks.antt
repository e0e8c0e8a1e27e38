-- The marks of item numbers, each at a number's remainder modulo 1 024.
use Rattle.std.specs.Prelude.{ℕ, ◌%◌, ◌≡◌, Bool, false, List, get_or}
use Rattle.model.specs.declared.Item.{Item}
use Rattle.model.specs.File.{numbered}

-- where a number's mark is missing, no item has the number
abbrev pub Marked : List Bool → List Item → Type 0
Marked marks items = (n : ℕ) → get_or marks (n % 1024) false ≡ false → numbered n items ≡ false
