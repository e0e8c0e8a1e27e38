-- What every call promises, for every value of the lent slots and all arguments.
use Rattle.std.specs.Prelude.{ℕ, ◌≡◌, Bool, true, false, not, ◌&&◌, List, eqb, leb, ltb}
use Rattle.model.specs.Tower.{Wind}
use Rattle.model.specs.Answers.{Reply}
use Rattle.model.specs.Calls.{Call, erect, hang, take_down, wind, report, check, write, refusal_of, step, reply_of, lent_after}
use Rattle.slots.specs.Held.{Slots, cell, state_of}

abbrev pub wind_asked : ℕ → ℕ → ℕ → List ℕ → Wind
wind_asked k ice factor ps = record { direction = k; ice = ice; factor = factor; pressures = ps }

-- cell j of slot i is beside the items: it is in none of their slots, and is not their number
abbrev pub beside_items : ℕ → ℕ → Bool
beside_items i j = ltb i 65 && not (eqb i 0 && eqb j 3)

-- the cells that a call leaves as they are, also where it is accepted: hang and take down those beside the items, wind
-- the items
unfoldable pub leaves : Call → ℕ → ℕ → Bool
leaves (erect file) i j = false
leaves (hang it) i j = beside_items i j
leaves (take_down n) i j = beside_items i j
leaves (wind w) i j = leb 65 i
leaves (report lent) i j = true
leaves check i j = true
leaves (write lent) i j = true

-- the state, the reply and every element of the lent slice are the machine's; a call that is turned down leaves every
-- cell
pub record Meets (c : Call) (before after : Slots) (r : Reply) (slice : List ℕ) : Type 0 where
  pub state : state_of after ≡ step (state_of before) c
  pub reply : r ≡ reply_of (state_of before) c
  pub lent : slice ≡ lent_after (state_of before) c
  pub untouched : (refusal_of (state_of before) c ≡ 0 → ⊥) → after ≡ before
  pub left : (i j : ℕ) → leaves c i j ≡ true → cell after i j ≡ cell before i j
