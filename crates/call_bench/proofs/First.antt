-- The item that was hung first.
use Rattle.std.proofs.Common.{◌≡◌, ℕ, Bool, true, false, Some, None, List, [], ◌∷◌, map, slice_index_or, take, drop, refl, ap, sym, ◌∙◌}
use Rattle.std.specs.List.{slice_get}
use Rattle.slots.specs.Held.{Slots, is_standing, held_in, item_of, state_of}
use Rattle.slots.proofs.Grounds.{standing-as, fallen}
use Rattle.call_bench.specs.Repeated.{dish, first_in}

-- where no tower stands
pub first-fallen : (l : Slots) → is_standing l ≡ false → dish 0 ≡ first_in (state_of l)
first-fallen l h = sym (ap first_in (fallen l h))

-- by the slots of the items
module _ (l : Slots) (items : List (List ℕ)) (are : items ≡ take (held_in l) (drop 65 l)) where
  first-standing : is_standing l ≡ true → first_in (state_of l) ≡ slice_index_or (map item_of items) 0 (dish 0)
  first-standing stands = ap first_in (standing-as l stands) ∙ rw are

  pub first-held : is_standing l ≡ true → (x : List ℕ) → Some x ≡ slice_get items 0 → item_of x ≡ first_in (state_of l)
  first-held stands x e = by-case items e ∙ sym (first-standing stands)
    where
      by-case : (xs : List (List ℕ)) → Some x ≡ slice_get xs 0 → item_of x ≡ slice_index_or (map item_of xs) 0 (dish 0)
      by-case [] h = cc
      by-case (y ∷ ys) h = cc

  pub first-none : None ≡ slice_get items 0 → dish 0 ≡ first_in (state_of l)
  first-none e = by-case (is_standing l) refl
    where
      none : (xs : List (List ℕ)) → None ≡ slice_get xs 0 → slice_index_or (map item_of xs) 0 (dish 0) ≡ dish 0
      none [] h = refl
      none (y ∷ ys) h = cc

      by-case : (b : Bool) → is_standing l ≡ b → dish 0 ≡ first_in (state_of l)
      by-case true stands = sym (first-standing stands ∙ none items e)
      by-case false h = first-fallen l h
