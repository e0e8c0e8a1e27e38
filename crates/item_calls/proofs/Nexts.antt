-- Where hang or take down is accepted there are slots that meet its promise.
use Prim.Native.Nat.{ℕ, ◌+◌, ◌≤◌}
use mathlib.Core.Path.{◌≡◌, refl, ap, sym, ◌∙◌}
use mathlib.Core.Bool.{Bool, true, false, not}
use mathlib.Core.List.{List, [], ◌++◌}
use native.Mathlib.Omega.{arith}
use lib.ListN.{length, take, drop, set, length-append, length-drop, take-append-drop}
use lib.Seq.{length-take-le, take_at, drop_at}
use borrow.Author.Tests.{not-false}
use Rattle.model.specs.declared.Item.{Item}
use Rattle.model.specs.Answers.{accepts}
use Rattle.std.proofs.Common.{filter}
use Rattle.model.specs.Lists.{all_of}
use Rattle.model.specs.File.{numbered}
use Rattle.model.specs.Machine.{State}
use Rattle.model.specs.Calls.{hang, take_down, typed_item, refusal_of}
use Rattle.model.proofs.Lists.{all_append, all-parts, all_take, all-kept, length-kept}
use Rattle.model.proofs.Typed.{item-bounds}
use Rattle.model.proofs.Forces.{refuse-none}
use Rattle.slots.specs.Held.{Slots, slot, is_standing, held_in, items_in, slot_of, state_of}
use Rattle.slots.specs.Nexts.{typed_slot, TypedSlots, Next}
use Rattle.slots.proofs.Codec.{item_back}
use Rattle.slots.proofs.Grounds.{standing-as, held-few}
use Rattle.slots.proofs.TypedSlots.{item-typed}
use Rattle.slots.proofs.Nexts.{next-cell, typed-cell, slot-typed, typed-set, stands-if}
use Rattle.item_calls.specs.Places.{has_another}
use Rattle.item_calls.proofs.ClosingUp.{ClosedUp}
use Rattle.item_calls.proofs.WaysOut.{room, in-range, hang-done}
use Rattle.item_calls.proofs.Downs.{down-done}

-- slot 0 tells another number of items
abbrev recount : Slots → ℕ → List ℕ
recount l n = set (slot l 0) 3 n

recount-typed : (l : Slots) → TypedSlots l → (n : ℕ) → n ≤ 64 → TypedSlots (set l 0 (recount l n))
recount-typed l t n h = typed-set l t 0 (recount l n) (typed-cell (slot l 0) (slot-typed l t 0 (omega arith)) 3 n (omega arith))

-- hang
pub hang-next : (l : Slots) → TypedSlots l → (it : Item) → typed_item it ≡ true → refusal_of (state_of l) (hang it) ≡ 0
    → Next (hang it) l (accepts []) []
hang-next l t it typed z =
    let b : _ = item-bounds it typed in
    let more : held_in l + 1 ≤ 64 = omega (arith, room l t.long it z) in
    let stored : Slots = set l (65 + held_in l) (slot_of it) in
    let u : TypedSlots stored = typed-set l t (65 + held_in l) (slot_of it) (item-typed it typed) in
    record {
      after = set stored 0 (recount stored (held_in l + 1));
      meets =
          hang-done l t.long it z (item_back it b.number b.section b.bare b.iced b.position (in-range l t.long it z)) (recount stored (held_in l + 1))
          (next-cell (slot stored 0) (slot-typed stored u 0 (omega arith)) 3 (held_in l + 1) (omega arith));
      typed = recount-typed stored u (held_in l + 1) more;
    }

-- take down: the items with another number, and then the slots that stood after as many
all_drop : {A : Type 0} (p : A → Bool) (n : ℕ) (l : List A) → all_of p l ≡ true → all_of p (drop n l) ≡ true
all_drop p n l h = (all-parts p (take n l) (drop n l) (ap (all_of p) (take-append-drop n l) ∙ h)).1

module _ (l : Slots) (t : TypedSlots l) (number : ℕ) where
  abbrev others : Slots
  others = filter (has_another number) (take (held_in l) (drop 65 l))

  abbrev closed : Slots
  closed = take 65 l ++ (others ++ drop (65 + length others) l)

  before-long : length (take 65 l) ≡ 65
  before-long = length-take-le 65 l (omega (arith, t.long))

  few : length others ≤ held_in l
  few =
      omega (
        arith,
        length-kept (has_another number) (take (held_in l) (drop 65 l)),
        length-take-le (held_in l) (drop 65 l) (omega (arith, length-drop 65 l, t.long, held-few l)),
      )

  closed-long : length closed ≡ 129
  closed-long =
      omega (
        arith,
        length-append (take 65 l) (others ++ drop (65 + length others) l),
        before-long,
        length-append others (drop (65 + length others) l),
        length-drop (65 + length others) l,
        t.long,
        few,
        held-few l,
      )

  closed-up : ClosedUp number (held_in l) l closed (length others)
  closed-up =
      record {
        items =
            ap (take (length others)) (drop_at (take 65 l) (others ++ drop (65 + length others) l) 65 before-long)
            ∙ take_at others (drop (65 + length others) l) (length others) refl;
        beside = take_at (take 65 l) (others ++ drop (65 + length others) l) 65 before-long;
        long = closed-long ∙ sym t.long;
        few = few;
      }

  closed-typed : TypedSlots closed
  closed-typed =
      record {
        long = closed-long;
        each =
            all_append typed_slot (take 65 l) (others ++ drop (65 + length others) l) (all_take typed_slot 65 l t.each)
            (all_append typed_slot others (drop (65 + length others) l)
            (all-kept (has_another number) typed_slot (take (held_in l) (drop 65 l))
            (all_take typed_slot (held_in l) (drop 65 l) (all_drop typed_slot 65 l t.each)))
            (all_drop typed_slot (65 + length others) l t.each));
      }

  pub down-next : refusal_of (state_of l) (take_down number) ≡ 0 → Next (take_down number) l (accepts []) []
  down-next z =
      let s : is_standing l ≡ true = stands-if (take_down number) refl l z in
      let there : not (numbered number (items_in l)) ≡ false =
      (refuse-none (not (numbered number (items_in l))) 14 0 (omega arith) (ap (λ (m : State). refusal_of m (take_down number)) (sym (standing-as l s)) ∙ z)).0 in
      record {
        after = set closed 0 (recount closed (length others));
        meets =
            down-done l t.long s number (not-false _ there) closed (length others) closed-up (recount closed (length others))
            (next-cell (slot closed 0) (slot-typed closed closed-typed 0 (omega arith)) 3 (length others) (omega arith));
        typed = recount-typed closed closed-typed (length others) (omega (arith, few, held-few l));
      }
