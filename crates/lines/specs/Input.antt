-- An input that is read whole or not at all.
use Rattle.std.specs.Prelude.{ℕ, List, Option, Some, None, cond, leb, length}

-- the bytes; none where they are more than so many
abbrev pub within : ℕ → List ℕ → Option (List ℕ)
within most bytes = cond (leb (length bytes) most) (Some bytes) None
