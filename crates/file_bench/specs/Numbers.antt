-- What the benchmark of the two readers answers, and what it leaves in the lent numbers: the same for both.
use Rattle.std.specs.Prelude.{ℕ, ◌+◌, ◌-◌, ◌^◌, ◌≡◌, Bool, cond, List, ◌++◌, map, leb, length, drop}
use Rattle.model.specs.Reading.{Parsed, got, refused, field}

-- what was read, else u64::MAX
abbrev pub number_in : Parsed ℕ → ℕ
number_in (got n rest) = n
number_in (refused e) = 2 ^ 64 - 1

-- of the field of w bytes at a place
abbrev pub number_at : ℕ → List ℕ → ℕ → ℕ
number_at w file at = number_in (field w (drop at file))

-- of the two-byte fields at the first places, then of the four-byte fields at the others
unfoldable pub field_numbers : List ℕ → List ℕ → List ℕ → List ℕ
field_numbers file twos fours = map (number_at 2 file) twos ++ map (number_at 4 file) fours

module _ (file twos fours : List ℕ) where
  -- there is room for all of them
  abbrev pub fit : List ℕ → Bool
  fit lent = leb (length twos + length fours) (length lent)

  -- the numbers and what lay behind them, and how many they are; else all as it was, and u64::MAX
  pub record GivesNumbers (before after : List ℕ) (r : ℕ) : Type 0 where
    pub answer : r ≡ cond (fit before) (length twos + length fours) (2 ^ 64 - 1)
    pub numbers : after ≡ cond (fit before) (field_numbers file twos fours ++ drop (length twos + length fours) before) before
