-- Slots of their type with other cells, and slots that hold a tower since a call is accepted.
use Prim.Native.Nat.{ℕ, ◌^◌, ◌<◌}
use mathlib.Core.Path.{◌≡◌, refl, ◌∙◌}
use mathlib.Core.Bool.{Bool, true, false}
use mathlib.Core.List.{List, []}
use native.Mathlib.Omega.{arith}
use lib.Dec.{eqb}
use lib.ListN.{length, set, length-set}
use lib.Seq.{get_or-set_same, get_or-set_other}
use borrow.Author.Tests.{eqb-true, eq-eqb, lt-ltb}
use Rattle.model.specs.Machine.{no_tower}
use Rattle.model.specs.Calls.{Call, bits, refusal_of}
use Rattle.model.proofs.Lists.{all-at, all_set}
use Rattle.exact.proofs.Bools.{and_split, and-join}
use Rattle.slots.specs.Held.{Slots, slot, is_standing, state_of, NextCell}
use Rattle.slots.specs.Nexts.{typed_slot, TypedSlots}
use Rattle.slots.proofs.WaysOut.{refusal-of}
use Rattle.slots.proofs.Grounds.{fallen}

-- one cell of a slot
module _ (x : List ℕ) (typed : typed_slot x ≡ true) (j n : ℕ) where
  twelve : length x ≡ 12
  twelve = eqb-true (length x) 12 (and_split (eqb (length x) 12) _ typed).0

  pub next-cell : j < 12 → NextCell x j n (set x j n)
  next-cell h = record { it = get_or-set_same x j n 0 (omega (arith, twelve)); others = λ k d. get_or-set_other x j k n 0 d }

  pub typed-cell : n < 2 ^ 32 → typed_slot (set x j n) ≡ true
  typed-cell h =
      and-join (eq-eqb (length (set x j n)) 12 (length-set x j n ∙ twelve))
      (all_set (bits 32) x j n (and_split (eqb (length x) 12) _ typed).1 (lt-ltb n (2 ^ 32) h))

-- one slot
module _ (l : Slots) (t : TypedSlots l) (i : ℕ) where
  pub slot-typed : i < 129 → typed_slot (slot l i) ≡ true
  slot-typed h = all-at typed_slot l i [] (omega (arith, t.long)) t.each

  pub typed-set : (x : List ℕ) → typed_slot x ≡ true → TypedSlots (set l i x)
  typed-set x h = record { long = length-set l i x ∙ t.long; each = all_set typed_slot l i x t.each h }

-- where a call that asks for a tower is accepted one stands
pub stands-if : (c : Call) → refusal_of no_tower c ≡ 1 → (l : Slots) → refusal_of (state_of l) c ≡ 0 → is_standing l ≡ true
stands-if c asks l z = by-case (is_standing l) refl
  where
    by-case : (b : Bool) → is_standing l ≡ b → b ≡ true
    by-case true e = refl
    by-case false e = absurd (omega (arith, refusal-of c (fallen l e) asks))
