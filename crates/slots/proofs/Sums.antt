-- The items' sums over the items' slots, item by item.
use Rattle.std.proofs.Common.{◌≡◌, ℕ, ◌+◌, ◌≤◌, ◌<◌, List, [], map, length, get_or, set, arith, ap, sym, subst, ◌∙◌}
use Rattle.std.proofs.lemmas.List.{length-map, get_or-map, take_all}
use Rattle.units.specs.declared.Length.{Length}
use Rattle.model.specs.declared.Item.{Item}
use Rattle.model.specs.Force.{item_part, item_sum, largest_item}
use Rattle.areas.specs.Sums.{ItemSums}
use Rattle.areas.proofs.Sums.{SumsAfter, sums_on, sums-off}
use Rattle.slots.specs.Held.{Slots, slot, item_of}

-- the item of slot n more
module _ (s : Slots) (t : Length) (n : ℕ) (h : n < length s) {sums : List ℕ} (before : SumsAfter t (map item_of s) n sums)
    {x : Item} (is : x ≡ item_of (slot s n)) {section : ℕ} (on : section ≡ x.section) where
  below : n < length (map item_of s)
  below = omega (arith, length-map s item_of)

  same : get_or (map item_of s) n (item_of []) ≡ x
  same = get_or-map item_of s n [] (item_of []) h ∙ sym is

  hung : (get_or (map item_of s) n (item_of [])).section ≡ section
  hung = ap (λ (y : Item). y.section) same ∙ sym on

  pub item_on : {part : ℕ} → part ≡ item_part t x → part ≤ largest_item → section < 32
      → SumsAfter t (map item_of s) (n + 1) (set sums section (get_or sums section 0 + part))
  item_on {part} e b =
      subst (λ (k : ℕ). k < 32 → SumsAfter t (map item_of s) (n + 1) (set sums k (get_or sums k 0 + part))) hung
      (sums_on t (map item_of s) n (item_of []) below before (e ∙ ap (item_part t) (sym same)) b)

  pub item-off : 32 ≤ section → SumsAfter t (map item_of s) (n + 1) sums
  item-off k = sums-off t (map item_of s) n (item_of []) below before (omega (arith, hung))

-- after all of them
pub items-sum : (s : Slots) (t : Length) → length s ≤ 64 → {sums : List ℕ} → SumsAfter t (map item_of s) (length s) sums → ItemSums t (map item_of s) sums
items-sum s t h a =
    record {
      sum = λ i q. a.sum i q ∙ ap (item_sum t i) (take_all (length s) (map item_of s) (omega (arith, length-map s item_of)));
      small = λ i q. omega (arith, a.small i q);
    }
