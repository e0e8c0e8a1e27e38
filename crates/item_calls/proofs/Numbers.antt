-- The numbers of the items in slots.
use Rattle.std.proofs.Common.{◌≡◌, ℕ, ◌+◌, ◌%◌, Bool, true, false, not, cond, ◌||◌, Option, Some, None, is_some, take, drop, List, [], ◌∷◌, map, length, filter, position, get_or, refl, ap, sym, ◌∙◌, nat_lt, arith}
use Rattle.std.proofs.lemmas.Bool.Decides.{nat_tests}
use Rattle.std.specs.List.{position_or_len}
use Rattle.model.specs.declared.Item.{Item}
use Rattle.model.specs.File.{numbered, fields_in_range}
use Rattle.model.specs.Machine.{without}
use Rattle.slots.specs.Held.{Slots, held_in, item_in, no_force, item_of, items_in}
use Rattle.item_calls.specs.Places.{has_number, has_another}

number-kept : (b : Bool) (r : List ℕ) → (cond b (item_in r) (no_force (item_in r))).number ≡ get_or r 0 0 % 65_536
number-kept true r = refl
number-kept false r = refl

some-if : (b : Bool) (n : ℕ) → is_some (cond b (Some n) None) ≡ b
some-if true n = refl
some-if false n = refl

-- an item has the number exactly if there is a place of one
placed : {A : Type 0} (p : A → Bool) (x : A) (xs : List A) → is_some (position p (x ∷ xs)) ≡ (p x || is_some (position p xs))
placed p x xs = some-if _ _ ∙ by-case (p x) ∙ ap (λ b. p x || b) (sym (some-if _ _))
  where
    by-case : (b : Bool)
        → nat_lt (cond (not b) (1 + position_or_len p xs) 0) (length (x ∷ xs)) ≡ (b || nat_lt (position_or_len p xs) (length xs))
    by-case true = grind (arith, nat_tests)
    by-case false = grind (arith, nat_tests)

pub numbered-placed : (n : ℕ) (l : Slots) → numbered n (map item_of l) ≡ is_some (position (has_number n) l)
unfolding item_of
numbered-placed n [] = refl
numbered-placed n (r ∷ l) = rw (number-kept (fields_in_range (item_in r)) r, numbered-placed n l, placed (has_number n) r l)

pub slots-without : (n : ℕ) (l : Slots) → map item_of (filter (has_another n) l) ≡ without n (map item_of l)
unfolding item_of
slots-without n [] = refl
slots-without n (r ∷ l) = rw (number-kept (fields_in_range (item_in r)) r) (by-case (has_another n r) (slots-without n l))
  where
    by-case : (b : Bool) → map item_of (filter (has_another n) l) ≡ without n (map item_of l)
        → map item_of (cond b (r ∷ filter (has_another n) l) (filter (has_another n) l))
        ≡ cond b (item_of r ∷ without n (map item_of l)) (without n (map item_of l))
    by-case true k = ap (λ (m : List Item). item_of r ∷ m) k
    by-case false k = k

-- whether an item has a number, by the place of the first that has it
pub told : (l : Slots) (number : ℕ) {seen : Slots} {r : Option ℕ} {x y : Bool} → seen ≡ take (held_in l) (drop 65 l) → r ≡ position (has_number number) seen
    → x ≡ is_some r → x ≡ y → numbered number (items_in l) ≡ y
told l number e f g h = numbered-placed number _ ∙ rw (← e, ← f, ← g, h)
