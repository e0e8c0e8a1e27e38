-- What a line asks for: its first word says which request it is, and the arguments follow.
use Rattle.std.specs.Prelude.{ℕ, min, if◌then◌else◌, nat_lt, List, [], ◌∷◌, length, slice_index, drop, Option, Some, None, Result, Ok, Err}
use Rattle.model.specs.declared.Item.{Item}
use Rattle.model.specs.Tower.{Wind}
use Rattle.model.specs.Calls.{Call, erect, hang, take_down, wind, check, typed}
use Rattle.lines.specs.declared.numbers.NumbersError.{NumbersError}
use Rattle.lines.specs.declared.hex.HexError.{HexError}
use Rattle.lines.specs.Numbers.{numbers_in}
use Rattle.lines.specs.Hex.{bytes_in}
use Rattle.requests.specs.declared.faults.Fault.{Fault}
use Rattle.requests.specs.declared.faults.Fault.TheVariants as fault
use Rattle.requests.specs.declared.Verb.{Verb}
use Rattle.requests.specs.declared.Verb.TheVariants as verb
use Rattle.requests.specs.declared.Word.{Word}
use Rattle.requests.specs.declared.Word.TheVariants as word
use Rattle.requests.specs.Faults.{numbers_fault, hex_fault}
use Rattle.requests.specs.Words.{first_word, rest_of, word_of}

-- one of erect, hang, take down, wind and check; a report or a write into so many lent elements; help; or that
-- something is wrong
pub data Asked : Type 0 where
  called : Call → Asked
  reported : ℕ → Asked
  written : ℕ → Asked
  helped : Asked
  wrong : Fault → Asked

-- so many elements are there for a line's numbers, a report's numbers and a file
pub record Room : Type 0 where
  pub numbers : ℕ
  pub rows : ℕ
  pub file : ℕ

-- a call with arguments that fit their types
abbrev pub typed_call : Call → Asked
typed_call c = if typed c then called c else wrong fault.TooLarge

-- from `low` to `high` arguments
abbrev pub counted : ℕ → ℕ → List ℕ → Asked → Asked
counted low high args a =
    if nat_lt (length args) low then wrong fault.FewWords
    else if nat_lt high (length args) then wrong fault.ManyWords
    else a

abbrev pub item_at : List ℕ → Item
item_at args =
    record {
      number = slice_index args 0;
      section = slice_index args 1;
      width = record { 0 = slice_index args 2 };
      length = record { 0 = slice_index args 3 };
      bare = slice_index args 4;
      iced = slice_index args 5;
      position = slice_index args 6;
    }

abbrev pub wind_at : List ℕ → Wind
wind_at args = record { direction = slice_index args 0; ice = slice_index args 1; factor = slice_index args 2; pressures = drop 3 args }

-- how many elements are lent: what is asked for, or all that there is room for
abbrev pub room_at : ℕ → List ℕ → ℕ
room_at most [] = most
room_at most (n ∷ args) = min n most

-- the arguments of each request. A line has at most 3000 numbers behind the three of a wind.
unfoldable pub hang_asked : List ℕ → Asked
hang_asked args = counted 7 7 args (typed_call (hang (item_at args)))

unfoldable pub take_down_asked : List ℕ → Asked
take_down_asked args = counted 1 1 args (typed_call (take_down (slice_index args 0)))

unfoldable pub wind_asked : List ℕ → Asked
wind_asked args = counted 3 3003 args (typed_call (wind (wind_at args)))

unfoldable pub report_asked : ℕ → List ℕ → Asked
report_asked most args = counted 0 1 args (reported (room_at most args))

unfoldable pub check_asked : List ℕ → Asked
check_asked args = counted 0 0 args (called check)

unfoldable pub write_asked : ℕ → List ℕ → Asked
write_asked most args = counted 0 1 args (written (room_at most args))

unfoldable pub help_asked : List ℕ → Asked
help_asked args = counted 0 0 args helped

-- the file of an erect, in hexadecimal
abbrev pub erect_read : Result (List ℕ) HexError → Asked
erect_read (Ok bytes) = called (erect bytes)
erect_read (Err e) = wrong (hex_fault e)

unfoldable pub erect_text : Room → List ℕ → Asked
erect_text room text = erect_read (bytes_in room.file text)

-- a request with numbers
unfoldable pub asked_by : Room → Verb → List ℕ → Asked
asked_by room verb.Hang args = hang_asked args
asked_by room verb.TakeDown args = take_down_asked args
asked_by room verb.Wind args = wind_asked args
asked_by room verb.Report args = report_asked room.rows args
asked_by room verb.Check args = check_asked args
asked_by room verb.Write args = write_asked room.file args
asked_by room verb.Help args = help_asked args

abbrev pub numbers_read : Room → Verb → Result (List ℕ) NumbersError → Asked
numbers_read room v (Ok args) = asked_by room v args
numbers_read room v (Err e) = wrong (numbers_fault e)

unfoldable pub numbers_text : Room → Verb → List ℕ → Asked
numbers_text room v text = numbers_read room v (numbers_in room.numbers text)

-- a first word alone, and one with what follows it
unfoldable pub asked_alone : Room → Word → Asked
asked_alone room (word.Numbered v) = asked_by room v []
asked_alone room word.Erect = called (erect [])

unfoldable pub asked_text : Room → Word → List ℕ → Asked
asked_text room (word.Numbered v) text = numbers_text room v text
asked_text room word.Erect text = erect_text room text

abbrev pub asked_with : Room → Option Word → Option (List ℕ) → Asked
asked_with room None rest = wrong fault.NoRequest
asked_with room (Some w) None = asked_alone room w
asked_with room (Some w) (Some text) = asked_text room w text

-- the longest line is an erect with 3000 bytes
unfoldable pub asked_in : Room → List ℕ → Asked
asked_in room line =
    if nat_lt 6006 (length line) then wrong fault.LongLine else asked_with room (word_of (first_word line)) (rest_of line)
