-- Text that is put in a slice.
use Rattle.std.specs.Prelude.{◌≡◌, ℕ, ◌+◌, ◌≤◌, List, [], ◌∷◌, ◌++◌, length, take, decimal}

-- text is put at the place `at` of a slice, and r is the next place: if there is room for all of it, it follows what
-- stood before
pub record Puts (text before : List ℕ) (at : ℕ) (after : List ℕ) (r : ℕ) : Type 0 where
  pub long : length after ≡ length before
  pub low : at ≤ r
  pub high : r ≤ length before
  pub put : at + length text ≤ length before → (r ≡ at + length text) × (take r after ≡ take at before ++ text)

-- numbers, with a space behind each
unfoldable pub spaced : List ℕ → List ℕ
spaced [] = []
spaced (n ∷ ns) = decimal n ++ (32 ∷ spaced ns)
