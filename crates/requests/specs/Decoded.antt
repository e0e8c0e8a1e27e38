-- A request that was read from a line: what it asks for.
use Rattle.std.specs.Prelude.{ℕ, ◌≡◌, ◌≤◌, List, length, take, Result, Ok, Err}
use Rattle.std.specs.Borrow.{Bor}
use Rattle.model.specs.Calls.{erect}
use Rattle.requests.specs.declared.Request.{Request}
use Rattle.requests.specs.declared.Request.TheVariants.{Numbered, Erect}
use Rattle.requests.specs.declared.faults.Fault.{Fault}
use Rattle.requests.specs.Asked.{Asked, called, wrong, Room, asked_by}

-- slices of these lengths, and so many elements for a report's numbers
abbrev pub room_of : ℕ → ℕ → ℕ → Room
room_of most rows bytes = record { numbers = most; rows = rows; file = bytes }

-- with the slices of its numbers or bytes
abbrev pub LentRequest : Type 0
LentRequest = Request (Bor (List ℕ)) (Bor (List ℕ))

abbrev pub asked_of : Room → Result LentRequest Fault → Asked
asked_of room (Ok (Numbered v args)) = asked_by room v args.now
asked_of room (Ok (Erect file)) = called (erect file.now)
asked_of room (Err f) = wrong f

-- r asks for a, where so many numbers and bytes fit
abbrev pub Decoded : (Room → Asked) → ℕ → ℕ → Result LentRequest Fault → Type 0
Decoded a most bytes r = (rows : ℕ) → asked_of (room_of most rows bytes) r ≡ a (room_of most rows bytes)

-- at most so many numbers, or so many bytes
abbrev pub Within : ℕ → ℕ → LentRequest → Type 0
Within most bytes (Numbered v args) = length args.now ≤ most
Within most bytes (Erect file) = length file.now ≤ bytes

-- with how many they are: they stand at the start of `numbers` or of `file`
abbrev pub asked_from : List ℕ → List ℕ → Room → Result (Request ℕ ℕ) Fault → Asked
asked_from numbers file room (Ok (Numbered v n)) = asked_by room v (take n numbers)
asked_from numbers file room (Ok (Erect n)) = called (erect (take n file))
asked_from numbers file room (Err f) = wrong f

abbrev pub Filled : (Room → Asked) → ℕ → ℕ → List ℕ → List ℕ → Result (Request ℕ ℕ) Fault → Type 0
Filled a most bytes numbers file r =
    (rows : ℕ) → asked_from numbers file (room_of most rows bytes) r ≡ a (room_of most rows bytes)

abbrev pub CountWithin : ℕ → ℕ → Request ℕ ℕ → Type 0
CountWithin most bytes (Numbered v n) = n ≤ most
CountWithin most bytes (Erect n) = n ≤ bytes
