-- The numbers of a line, read from left to right.
use Rattle.std.specs.Prelude.{ℕ, zero, suc, ◌-◌, ◌+◌, ◌*◌, ◌^◌, Bool, ◌&&◌, if◌then◌else◌, List, [], ◌∷◌, ◌++◌, length, ◌==◌, nat_le, nat_lt, slice_index, Option, Some, None, Result, Ok, Err}
use Rattle.lines.specs.declared.numbers.NumbersError.{NumbersError}
use Rattle.lines.specs.declared.numbers.NumbersError.TheVariants.{Bad, Large, Many}

abbrev pub is_digit : ℕ → Bool
is_digit b = nat_le 48 b && nat_le b 57

abbrev pub digit_value : ℕ → Option ℕ
digit_value b = if is_digit b then Some (b - 48) else None

-- what has been read: numbers with a space after each; such numbers, and one more up to its last digit so far; or what
-- is wrong
pub data Reading : Type 0 where
  between : List ℕ → Reading
  inside : List ℕ → ℕ → Reading
  wrong : NumbersError → Reading

-- after a byte more, where there is room for so many numbers
abbrev pub read_byte : ℕ → Reading → ℕ → Reading
read_byte room (between vs) b =
    if is_digit b then (if nat_lt (length vs) room then inside vs (b - 48) else wrong Many) else wrong Bad
read_byte room (inside vs n) b =
    if is_digit b then (if nat_lt (n * 10 + (b - 48)) (10 ^ 19) then inside vs (n * 10 + (b - 48)) else wrong Large)
    else if b == 32 then between (vs ++ (n ∷ [])) else wrong Bad
read_byte room (wrong e) b = wrong e

-- after the first i bytes
unfoldable pub read_to : ℕ → List ℕ → ℕ → Reading
read_to room s zero = between []
read_to room s (suc i) = read_byte room (read_to room s i) (slice_index s i)

-- the numbers at a line's end: a line ends in a digit
abbrev pub numbers_of : Reading → Result (List ℕ) NumbersError
numbers_of (between vs) = Err Bad
numbers_of (inside vs n) = Ok (vs ++ (n ∷ []))
numbers_of (wrong e) = Err e

abbrev pub numbers_in : ℕ → List ℕ → Result (List ℕ) NumbersError
numbers_in room line = numbers_of (read_to room line (length line))
