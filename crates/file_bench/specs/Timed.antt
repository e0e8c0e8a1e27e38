-- What the benchmark's functions answer, and what they leave in the lent bytes.
use Rattle.std.specs.Prelude.{ℕ, ◌-◌, ◌^◌, ◌≡◌, Bool, true, false, cond, ◌&&◌, List, ◌++◌, leb, ltb, length, drop, Result, Ok, Err}
use Rattle.model.specs.declared.Refusal.{Refusal}
use Rattle.model.specs.Tower.{Tower}
use Rattle.model.specs.Reading.{Parsed, got, refused}
use Rattle.model.specs.File.{read_file}

-- write's length, else u64::MAX
abbrev pub length_in : Result ℕ Refusal → ℕ
length_in (Ok n) = n
length_in (Err e) = 2 ^ 64 - 1

abbrev pub is_accepted : Parsed Tower → Bool
is_accepted (got t rest) = true
is_accepted (refused n) = false

-- there are rounds, the file is accepted, and the lent bytes are enough
unfoldable pub is_timed : List ℕ → ℕ → ℕ → Bool
is_timed file rounds room = ltb 0 rounds && (is_accepted (read_file file) && leb (length file) room)

-- the file's length, else u64::MAX
unfoldable pub answer_of : List ℕ → ℕ → List ℕ → ℕ
answer_of file rounds lent = cond (is_timed file rounds (length lent)) (length file) (2 ^ 64 - 1)

-- the file itself and what lay behind it, else all as it was
unfoldable pub bytes_of : List ℕ → ℕ → List ℕ → List ℕ
bytes_of file rounds lent = cond (is_timed file rounds (length lent)) (file ++ drop (length file) lent) lent

pub record Timed (file : List ℕ) (rounds : ℕ) (before after : List ℕ) (r : ℕ) : Type 0 where
  pub answer : r ≡ answer_of file rounds before
  pub bytes : after ≡ bytes_of file rounds before
