-- Lists of calls: an entry is one of the seven calls with its arguments as fixed values; and the machine's run over a
-- list.
use Rattle.std.specs.Prelude.{ℕ, ◌^◌, Bool, true, cond, ◌&&◌, List, [], ◌∷◌, ◌++◌, map, ltb, eqb, length}
use Rattle.model.specs.declared.Item.{Item}
use Rattle.model.specs.Lists.{all_of}
use Rattle.model.specs.Tower.{Tower, Wind}
use Rattle.model.specs.Answers.{Reply}
use Rattle.model.specs.File.{read_file}
use Rattle.model.specs.Bytes.{file_of}
use Rattle.model.specs.Machine.{
  State,
  unless_refused,
  filled,
  erect_refusal,
  erected,
  hang_refusal,
  hung,
  take_down_refusal,
  taken_down,
  wind_refusal,
  under_wind,
  report_refusal,
  rows_in,
  check_refusal,
  over_in,
  write_refusal,
  file_in,
  with_items,
}

-- report and write are given what the lent slice holds
pub data Call : Type 0 where
  erect : List ℕ → Call
  hang : Item → Call
  take_down : ℕ → Call
  wind : Wind → Call
  report : List ℕ → Call
  check : Call
  write : List ℕ → Call

-- the arguments are values of their types: 8 bits for a byte and an item's section, 16 for its number, its thousandths
-- and a pressure, 32 for lengths and the other numbers of a wind, 64 for a number of a report. That these are the types
-- of the service's parameters is the law `link-typed` of the crate `service`
abbrev pub bits : ℕ → ℕ → Bool
bits w n = ltb n (2 ^ w)

abbrev pub typed_item : Item → Bool
typed_item it =
    bits 16 it.number
    && bits 8 it.section
    && bits 32 it.width.0
    && bits 32 it.length.0
    && bits 16 it.bare
    && bits 16 it.iced
    && bits 16 it.position

abbrev pub typed_wind : Wind → Bool
typed_wind w = bits 32 w.direction && bits 32 w.ice && bits 32 w.factor && all_of (bits 16) w.pressures

abbrev pub typed : Call → Bool
typed (erect file) = all_of (bits 8) file
typed (hang it) = typed_item it
typed (take_down n) = bits 16 n
typed (wind w) = typed_wind w
typed (report lent) = all_of (bits 64) lent
typed check = true
typed (write lent) = all_of (bits 8) lent

-- what a call means in a state: the number of the first refusal whose condition is met, or 0; and where that is 0 the
-- next state, the values answered beside the number, and what is put at the front of the lent slice
pub record Meaning : Type 0 where
  pub refusal : ℕ
  pub next : State
  pub values : List ℕ
  pub given : List ℕ

-- a call that changes the state and no more
abbrev pub changes : ℕ → State → Meaning
changes refusal next = record { refusal = refusal; next = next; values = []; given = [] }

-- report, check and write leave the state as it is
abbrev pub meaning : State → Call → Meaning
meaning m (erect file) = changes (erect_refusal file) (erected m (read_file file))
meaning m (hang it) = changes (hang_refusal m it) (hung m it)
meaning m (take_down n) = changes (take_down_refusal m n) (taken_down m n)
meaning m (wind w) = changes (wind_refusal m w) (under_wind m w)
meaning m (report lent) = record { refusal = report_refusal m (length lent); next = m; values = []; given = rows_in m }
meaning m check = record { refusal = check_refusal m; next = m; values = over_in m; given = [] }
meaning m (write lent) =
    record { refusal = write_refusal m (length lent); next = m; values = length (file_in m) ∷ []; given = file_in m }

-- for every call: its refusal, the state after it, its answer
abbrev pub refusal_of : State → Call → ℕ
refusal_of m c = (meaning m c).refusal

abbrev pub step : State → Call → State
step m c = unless_refused (refusal_of m c) m (meaning m c).next

abbrev pub reply_of : State → Call → Reply
reply_of m c = record { number = refusal_of m c; values = cond (eqb (refusal_of m c) 0) (meaning m c).values [] }

-- what the slice that a call is lent holds before and after it; [] where none is lent
abbrev pub lent_before : Call → List ℕ
lent_before (erect file) = file
lent_before (hang it) = []
lent_before (take_down n) = []
lent_before (wind w) = w.pressures
lent_before (report lent) = lent
lent_before check = []
lent_before (write lent) = lent

abbrev pub lent_after : State → Call → List ℕ
lent_after m c = filled (refusal_of m c) (meaning m c).given (lent_before c)

-- the state after a list of calls, each given the state that the last one left
abbrev pub run : State → List Call → State
run m [] = m
run m (c ∷ cs) = run (step m c) cs

-- what the slice lent to the last call of a list holds after it; [] for no call
abbrev pub lent_last : State → List Call → List ℕ
lent_last m [] = []
lent_last m (c ∷ []) = lent_after m c
lent_last m (c ∷ (d ∷ cs)) = lent_last (step m c) (d ∷ cs)

-- the tower newly erected: from its file with no items, one hang for each item in this order, wind, then a report
abbrev pub newly_erected : Tower → List Item → Wind → List ℕ → List Call
newly_erected t items w lent = erect (file_of (with_items t [])) ∷ (map hang items ++ (wind w ∷ report lent ∷ []))

-- the number of the first call of a list that is turned down, or 0
abbrev pub first_refusal : State → List Call → ℕ
first_refusal m [] = 0
first_refusal m (c ∷ cs) = cond (eqb (refusal_of m c) 0) (first_refusal (step m c) cs) (refusal_of m c)
