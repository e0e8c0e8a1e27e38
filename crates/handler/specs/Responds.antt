-- What a line does: the state after it, and the text that is printed.
use Rattle.std.specs.Prelude.{ℕ, ◌≡◌, ◌≤◌, List, length}
use Rattle.lines.specs.Text.{Puts}
use Rattle.slots.specs.Held.{Slots, state_of}
use Rattle.requests.specs.Asked.{Asked, Room}
use Rattle.handler.specs.declared.Buffers.{Buffers}
use Rattle.handler.specs.AnswerText.{answer_text}
use Rattle.handler.specs.RequestSteps.{after, Leaves}

-- the room that is lent
abbrev pub room_in : Buffers → Room
room_in b = record { numbers = length b.numbers.now; rows = length b.rows.now; file = length b.file.now }

-- the text has n bytes and stands at the start of out, where there is room for it
pub record Responds (a : Asked) (old new : Slots) (before out : List ℕ) (n : ℕ) : Type 0 where
  pub state : state_of new ≡ after (state_of old) a
  pub text : Puts (answer_text (state_of old) a) before 0 out n
  pub untouched : Leaves (state_of old) a → new ≡ old

-- n is the length of the text, where there is room for it
pub record AnswerLength (a : Asked) (old : Slots) (room n : ℕ) : Type 0 where
  pub within : n ≤ room
  pub whole : length (answer_text (state_of old) a) ≤ room → n ≡ length (answer_text (state_of old) a)

-- each slice is still the one that was lent, and as long
pub record SameSlices (old new : Buffers) : Type 0 where
  pub numbers : new.numbers.ghost_name ≡ old.numbers.ghost_name
  pub rows : new.rows.ghost_name ≡ old.rows.ghost_name
  pub file : new.file.ghost_name ≡ old.file.ghost_name
  pub out : new.out.ghost_name ≡ old.out.ghost_name
  pub room : room_in new ≡ room_in old
  pub text : length new.out.now ≡ length old.out.now
