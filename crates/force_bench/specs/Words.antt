-- What the benchmark's function answers.
use Rattle.std.specs.Prelude.{ℕ, ◌+◌, ◌-◌, ◌%◌, ◌^◌, is_none, Bool, cond, ◌&&◌, List, length, ◌==◌, nat_le}
use Rattle.exact.specs.Number.{ceiling}
use Rattle.model.specs.Lists.{sum_to}
use Rattle.model.specs.Tower.{section_of}
use Rattle.model.specs.Areas.{thickness}
use Rattle.model.specs.File.{legs_of}
use Rattle.model.specs.Force.{largest_items, exact_force}
use Rattle.case_words.specs.declared.Case.{Case}
use Rattle.case_words.specs.Words.{at, case_in}
use Rattle.case_words.specs.Faults.{fault_of, groups_end}

-- the least whole force of round i, at the case's pressure less i % 16, with the items' sum
unfoldable pub force_in : Case → ℕ → ℕ → ℕ
force_in c items i =
    ceiling
    (exact_force (legs_of c.legs) c.direction (thickness c.ice) c.factor (section_of c.section) (c.pressure - i % 16) items)

-- the sum over so many rounds
unfoldable pub total_of : Case → ℕ → ℕ → ℕ
total_of c items rounds = sum_to (force_in c items) rounds % 2 ^ 64

-- words that are timed: a case with no fault, at a pressure that may fall by 15, then the items' sum, and nothing
-- after it
abbrev pub is_timed : List ℕ → Case → Bool
is_timed ws c =
    is_none (fault_of c (length ws))
    && (length ws == groups_end c.section + 1
    && (nat_le 15 c.pressure
    && nat_le (at ws (groups_end c.section)) largest_items))

-- the total of words that are timed, else u64::MAX
unfoldable pub answer_of : List ℕ → Case → ℕ → ℕ
answer_of ws c rounds = cond (is_timed ws c) (total_of c (at ws (groups_end c.section)) rounds) (2 ^ 64 - 1)

abbrev pub bench_of : List ℕ → ℕ → ℕ
bench_of ws rounds = answer_of ws (case_in ws) rounds
