-- The rules of hang over the slots, and what it leaves where none turns it down.
use Rattle.std.proofs.Common.{◌≡◌, ℕ, ◌+◌, ◌≤◌, ◌<◌, true, false, not, leb, is_some, List, [], ◌∷◌, ◌++◌, length, take, drop, set, position, refl, ap, sym, ◌∙◌, arith}
use Rattle.std.proofs.lemmas.Bool.Decides.{nat_tests}
use Rattle.std.proofs.lemmas.List.{length-set, get_or-set_other}
use Rattle.model.specs.declared.Item.{Item}
use Rattle.model.specs.Answers.{accepts}
use Rattle.model.specs.File.{fields_in_range}
use Rattle.model.specs.Machine.{State, standing, hang_refusal, refuse_if}
use Rattle.model.specs.Calls.{Call, hang, meaning, refusal_of, step}
use Rattle.model.proofs.Reached.{HangFacts, hang-facts}
use Rattle.model.proofs.Refused.{same-lent}
use Rattle.slots.specs.Held.{Slots, slot, is_standing, count_in, held_in, item_of, items_to, items_in, slot_of, tower_in, state_of, NextCell}
use Rattle.slots.specs.Promises.{leaves, Meets}
use Rattle.slots.proofs.WaysOut.{accepted}
use Rattle.slots.proofs.Grounds.{fallen, standing-as, section-count, item_count, items-next}
use Rattle.slots.proofs.Nexts.{stands-if}
use Rattle.item_calls.specs.Places.{has_number}
use Rattle.item_calls.proofs.Numbers.{numbered-placed}
use Rattle.item_calls.proofs.Recounted.{wind_held, recounted-state, recounted-left}

-- the machine's next state, in a state that is known by another name
pub stepped : (c : Call) {m m' : State} → m ≡ m' → refusal_of m' c ≡ 0 → step m c ≡ (meaning m' c).next
stepped c e z = ap (λ (x : State). step x c) e ∙ rw z

-- the rules over what the slots tell
pub refusal_fallen : (l : Slots) (it : Item) → is_standing l ≡ false → hang_refusal (state_of l) it ≡ 1
refusal_fallen l it s = rw (fallen l s) refl

pub refusal_told : (l : Slots) (it : Item) → length l ≡ 129 → is_standing l ≡ true
    → hang_refusal (state_of l) it
    ≡ refuse_if (leb 64 (held_in l)) 9
    (refuse_if (is_some (position (has_number it.number) (take (held_in l) (drop 65 l)))) 10
    (refuse_if (leb (count_in l) it.section) 11
    (refuse_if (not (fields_in_range it)) 12 0)))
refusal_told l it long s =
    rw (standing-as l s, item_count l long, numbered-placed it.number (take (held_in l) (drop 65 l)), section-count l) refl

pub ruleset hang_rules = (refusal_fallen, refusal_told, nat_tests)

-- where none turns it down
module _ (l : Slots) (long : length l ≡ 129) (it : Item) (z : refusal_of (state_of l) (hang it) ≡ 0) where
  stands : is_standing l ≡ true
  stands = stands-if (hang it) refl l z

  free : refusal_of (standing (tower_in l) (wind_held l)) (hang it) ≡ 0
  free = ap (λ (m : State). refusal_of m (hang it)) (sym (standing-as l stands)) ∙ z

  facts : HangFacts (tower_in l) it
  facts = hang-facts (tower_in l) (wind_held l) it free

  pub room : held_in l < 64
  room = omega (arith, facts.room, item_count l long)

  pub in-range : fields_in_range it ≡ true
  in-range = facts.fields

  -- the item's slot is stored, and then the number of items
  module _ (back : item_of (slot_of it) ≡ it) (head : List ℕ) where
    abbrev stored : Slots
    stored = set l (65 + held_in l) (slot_of it)

    stored-long : length stored ≡ 129
    stored-long = length-set l (65 + held_in l) (slot_of it) ∙ long

    before-items : (j : ℕ) → j ≤ 64 → slot stored j ≡ slot l j
    before-items j g = get_or-set_other l (65 + held_in l) j (slot_of it) [] (λ e. omega arith)

    items-grow : items_to stored (held_in l + 1) ≡ items_in l ++ (it ∷ [])
    items-grow = items-next l (held_in l) (slot_of it) long room ∙ ap (λ (x : Item). items_in l ++ (x ∷ [])) back

    pub hang-done : NextCell (slot stored 0) 3 (held_in l + 1) head → Meets (hang it) l (set stored 0 head) (accepts []) []
    unfolding leaves
    hang-done next =
        let more : held_in l + 1 ≤ 64 = omega (arith, room) in
        accepted (hang it) l (set stored 0 head) z
        (recounted-state l stored long stored-long before-items (held_in l + 1) more head next stands items-grow
        ∙ sym (stepped (hang it) (standing-as l stands) free))
        (sym (same-lent (state_of l) (hang it) refl))
        (recounted-left l stored long stored-long before-items (held_in l + 1) more head next)

  -- the same where the number of items and the slot are known by another name
  pub hang-stored : item_of (slot_of it) ≡ it → {n : ℕ} {r head : List ℕ} → n ≡ held_in l → r ≡ slot_of it
      → NextCell (slot (set l (65 + n) r) 0) 3 (n + 1) head → Meets (hang it) l (set (set l (65 + n) r) 0 head) (accepts []) []
  hang-stored back {n} {r} {head} a b = rw (a, b) (hang-done back head)
