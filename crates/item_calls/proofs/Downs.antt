-- The ways out of take down, over plain values.
use Prim.Native.Nat.{ℕ, ◌+◌, ◌-◌, ◌≤◌}
use Rattle.std.proofs.Common.{Option, Some, None, filter, position}
use borrow.Rule.Slice.PartMut.{mid_of, put_mid}
use mathlib.Core.Path.{◌≡◌, refl, ap, sym, subst, ◌∙◌}
use mathlib.Core.Bool.{true, false, not}
use mathlib.Core.List.{List, [], map}
use native.Mathlib.Omega.{arith}
use lib.ListN.{length, take, drop, set}
use lib.Seq.{get_or-take}
use Rattle.model.specs.Answers.{accepts}
use Rattle.model.specs.File.{numbered}
use Rattle.model.specs.Machine.{standing, without}
use Rattle.model.specs.Calls.{take_down, refusal_of}
use Rattle.model.proofs.Refused.{same-lent}
use Rattle.slots.specs.Held.{Slots, slot, is_standing, held_in, item_of, items_in, tower_in, state_of, NextCell}
use Rattle.slots.specs.Promises.{leaves, Meets}
use Rattle.slots.proofs.WaysOut.{accepted, refusal-of, met, unmet}
use Rattle.slots.proofs.Grounds.{standing-as, held-few}
use Rattle.item_calls.specs.Places.{has_number, has_another}
use Rattle.item_calls.proofs.ClosingUp.{ClosedUp, closed-up}
use Rattle.item_calls.proofs.Numbers.{slots-without, numbered-placed}
use Rattle.item_calls.proofs.Recounted.{wind_held, recounted-state, recounted-left}
use Rattle.item_calls.proofs.WaysOut.{stepped}

module _ (l : Slots) (long : length l ≡ 129) (s : is_standing l ≡ true) (number : ℕ) where
  pub down-none : numbered number (items_in l) ≡ false → refusal_of (state_of l) (take_down number) ≡ 14
  down-none e = refusal-of (take_down number) (standing-as l s) (met 14 _ (ap not e))

  module _ (there : numbered number (items_in l) ≡ true) (after : Slots) (n : ℕ) (q : ClosedUp number (held_in l) l after n) (head : List ℕ) where
    before-items : (j : ℕ) → j ≤ 64 → slot after j ≡ slot l j
    before-items j h =
        sym (get_or-take 65 after j [] (omega arith)) ∙ ap (λ (m : Slots). slot m j) q.beside ∙ get_or-take 65 l j [] (omega arith)

    few : n ≤ 64
    few = omega (arith, q.few, held-few l)

    items_left : map item_of (take n (drop 65 after)) ≡ without number (items_in l)
    items_left = ap (map item_of) q.items ∙ slots-without number (take (held_in l) (drop 65 l))

    free : refusal_of (standing (tower_in l) (wind_held l)) (take_down number) ≡ 0
    free = unmet 14 (ap not there) refl

    pub down-done : NextCell (slot after 0) 3 n head → Meets (take_down number) l (set after 0 head) (accepts []) []
    unfolding leaves
    down-done next =
        accepted (take_down number) l (set after 0 head) (refusal-of (take_down number) (standing-as l s) free)
        (recounted-state l after long (q.long ∙ long) before-items n few head next s items_left
        ∙ sym (stepped (take_down number) (standing-as l s) free))
        (sym (same-lent (state_of l) (take_down number) refl))
        (recounted-left l after long (q.long ∙ long) before-items n few head next)

  -- by what the code has found: the place of the first with the number, and the slots from there on
  module _ {seen : Slots} (read : seen ≡ take (held_in l) (drop 65 l)) {r : Option ℕ} (asked : r ≡ position (has_number number) seen) where
    pub down-absent : r ≡ None → refusal_of (state_of l) (take_down number) ≡ 14
    down-absent e = down-none (numbered-placed number _ ∙ rw (← read, ← asked, e))

    pub down-closed : {held place rest : ℕ} (new : Slots) {head : List ℕ} → held ≡ held_in l → r ≡ Some place
        → length new ≡ length (mid_of (65 + place) (65 + held - (65 + place)) l)
        → take rest new ≡ filter (has_another number) (mid_of (65 + place) (65 + held - (65 + place)) l)
        → rest ≤ length (mid_of (65 + place) (65 + held - (65 + place)) l)
        → NextCell (slot (put_mid (65 + place) (65 + held - (65 + place)) l new) 0) 3 (place + rest) head
        → Meets (take_down number) l (set (put_mid (65 + place) (65 + held - (65 + place)) l new) 0 head) (accepts []) []
    down-closed {held} {place} {rest} new {head} counted e h k m next =
        let found : position (has_number number) (take (held_in l) (drop 65 l)) ≡ Some place = rw (← read, ← asked, e) in
        let q = closed-up number place held rest l new long (omega (arith, held-few l)) (rw counted found) h k m in
        let after : Slots = put_mid (65 + place) (65 + held - (65 + place)) l new in
        down-done (numbered-placed number _ ∙ rw found) after (place + rest) (subst (λ (n : ℕ). ClosedUp number n l after (place + rest)) counted q) head next
