use Rattle.std.proofs.Common.{◌≡◌, ℕ, ◌≤◌, take, filter}
use Rattle.slots.specs.Held.{slot}
use Rattle.item_calls.specs.Places.{has_another}
use Rattle.item_calls.proofs.take_down.close_up.Given as goal

-- the slots ahead are as they were
abbrev pub invariant-loop-i : goal.invariant-loop-i
invariant-loop-i l =
    record {
      few : l.n ≤ l.i;
      left : take l.n l.items ≡ filter (has_another l.number) (take l.i l.fn.items);
      ahead : (k : ℕ) → l.i ≤ k → slot l.items k ≡ slot l.fn.items k;
    }
