-- Slots that a call can leave.
use Rattle.std.specs.Prelude.{ℕ, ◌≡◌, Bool, true, ◌&&◌, List, eqb, length}
use Rattle.model.specs.Lists.{all_of}
use Rattle.model.specs.Answers.{Reply}
use Rattle.model.specs.Calls.{Call, bits}
use Rattle.slots.specs.Held.{Slots}
use Rattle.slots.specs.Promises.{Meets}

-- values of their type: 129 slots of 12 cells of 32 bits
abbrev pub typed_slot : List ℕ → Bool
typed_slot x = eqb (length x) 12 && all_of (bits 32) x

pub record TypedSlots (l : Slots) : Type 0 where
  pub long : length l ≡ 129
  pub each : all_of typed_slot l ≡ true

-- slots that meet a call's promise
pub record Next (c : Call) (l : Slots) (r : Reply) (slice : List ℕ) : Type 0 where
  pub after : Slots
  pub meets : Meets c l after r slice
  pub typed : TypedSlots after
