-- Slots whose items have changed, and then in slot 0 their number: all beside the items is as it was.
use Prim.Native.Nat.{ℕ, zero, suc, ◌≤◌}
use mathlib.Core.Path.{◌≡◌, ap, ◌∙◌}
use mathlib.Core.Logic.{◌≢◌}
use mathlib.Core.Bool.{true, not, cond}
use mathlib.Core.List.{List, [], map}
use mathlib.Core.Option.{Option, none, some}
use native.Mathlib.Omega.{arith}
use lib.Dec.{eqb, ltb}
use lib.ListN.{length, take, drop, get_or, set, length-set}
use lib.Seq.{drop-set-lt, get_or-set_same, get_or-set_other}
use borrow.Author.Tests.{ltb-true, eq-eqb}
use Rattle.model.specs.declared.Item.{Item}
use Rattle.model.specs.Tower.{Wind}
use Rattle.model.specs.Machine.{standing}
use Rattle.exact.proofs.Bools.{clash, and_split}
use Rattle.slots.specs.Held.{Slots, slot, cell, is_standing, held_in, item_of, items_in, ground_of, is_windy, tower_on, wind_in, state_of, NextCell}
use Rattle.slots.specs.Promises.{beside_items}
use Rattle.slots.proofs.Grounds.{standing-as, ground-cells}

abbrev pub wind_held : Slots → Option Wind
wind_held l = cond (is_windy (ground_of l)) (some (wind_in l)) none

module _ (l after : Slots) (long : length l ≡ 129) (as_long : length after ≡ 129) (same : (j : ℕ) → j ≤ 64 → slot after j ≡ slot l j)
    (n : ℕ) (few : n ≤ 64) (head : List ℕ) (next : NextCell (slot after 0) 3 n head) where
  abbrev put : Slots
  put = set after 0 head

  top : slot put 0 ≡ head
  top = get_or-set_same after 0 head [] (omega arith)

  top-cell : (j : ℕ) → j ≢ 3 → cell put 0 j ≡ cell l 0 j
  top-cell j d =
      ap (λ (r : List ℕ). get_or r j 0) top ∙ next.others j d ∙ ap (λ (r : List ℕ). get_or r j 0) (same 0 (omega arith))

  lower : (j : ℕ) → 1 ≤ j → j ≤ 64 → slot put j ≡ slot l j
  lower j h g = get_or-set_other after 0 j head [] (λ z. omega arith) ∙ same j g

  pub recounted-left : (i j : ℕ) → beside_items i j ≡ true → cell put i j ≡ cell l i j
  recounted-left zero j h = top-cell j (λ (z : j ≡ 3). clash h (ap not (eq-eqb j 3 z)))
  recounted-left (suc i) j h =
      ap (λ (r : List ℕ). get_or r j 0) (lower (suc i) (omega arith) (omega (arith, ltb-true (suc i) 65 (and_split (ltb (suc i) 65) _ h).0)))

  held : held_in put ≡ n
  unfolding held_in
  held = omega (arith, ap (λ (r : List ℕ). get_or r 3 0) top, next.it)

  still : is_standing l ≡ true → is_standing put ≡ true
  unfolding is_standing
  still s = ap (λ (x : ℕ). eqb x 1) (top-cell 0 (λ z. omega arith)) ∙ s

  ground-stays : ground_of put ≡ ground_of l
  ground-stays = ground-cells put l (length-set after 0 head ∙ as_long) long lower (λ j h g d. top-cell j d)

  items-are : items_in put ≡ map item_of (take n (drop 65 after))
  items-are =
      ap (λ (m : ℕ). map item_of (take m (drop 65 put))) held
      ∙ ap (λ (r : Slots). map item_of (take n r)) (drop-set-lt 65 after 0 head (omega arith))

  pub recounted-state : is_standing l ≡ true → {items : List Item} → map item_of (take n (drop 65 after)) ≡ items
      → state_of put ≡ standing (tower_on (ground_of l) items) (wind_held l)
  recounted-state s e = standing-as put (still s) ∙ rw (ground-stays, items-are, e)
