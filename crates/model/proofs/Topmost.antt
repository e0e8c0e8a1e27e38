-- The topmost section over its allowance, as a function and as a relation: each says what the other does.
use Prim.Native.Nat.{ℕ, zero, suc, ◌<◌}
use mathlib.Core.Path.{◌≡◌, refl, subst, ap}
use mathlib.Core.Bool.{Bool, true, false, cond}
use mathlib.Core.List.{List, [], ◌∷◌, ◌++◌}
use native.Mathlib.Omega.{arith}
use lib.Dec.{ltb}
use lib.ListN.{length, take}
use borrow.Author.Count.{below_more}
use borrow.Author.Tests.{ltb-true, ltb-false}
use Rattle.model.specs.Lists.{kept, list_to}
use Rattle.model.specs.Tower.{Tower, Wind}
use Rattle.model.specs.Report.{is_over, IsOver, TopmostOver, over_sections, topmost_over}
use Rattle.exact.proofs.Bools.{clash}
use Rattle.model.proofs.Lists.{kept_append}

-- one section is the topmost over
pub topmost-same : {t : Tower} {w : Wind} {i j : ℕ} → TopmostOver t w i → TopmostOver t w j → i ≡ j
topmost-same {i = i} {j = j} a b = by-case (ltb i j) (ltb j i) refl refl
  where
    by-case : (x y : Bool) → ltb i j ≡ x → ltb j i ≡ y → i ≡ j
    by-case true y e f = absurd (b.none_above i (ltb-true i j e) a.is-over)
    by-case false true e f = absurd (a.none_above j (ltb-true j i f) b.is-over)
    by-case false false e f = omega (arith, ltb-false i j e, ltb-false j i f)

-- the first of the numbers below n of which a test holds, or none
module _ (p : ℕ → Bool) where
  data Search (n : ℕ) : List ℕ → Type 0 where
    found : {i : ℕ} → i < n → p i ≡ true → ((j : ℕ) → j < i → p j ≡ true → ⊥) → Search n (i ∷ [])
    none : ((i : ℕ) → i < n → p i ≡ true → ⊥) → Search n []

  one_more : (n : ℕ) (l : List ℕ) → Search n (take 1 l) → (b : Bool) → p n ≡ b → Search (suc n) (take 1 (l ++ cond b (n ∷ []) []))
  one_more n (i ∷ l) (found k h g) b e = found {i = i} (omega arith) h g
  one_more n [] (none h) true e = found {i = n} (omega arith) e h
  one_more n [] (none h) false e = none (λ i k. below_more (λ (j : ℕ). p j ≡ true → ⊥) n h (λ q. clash q e) i (omega arith))

  search-to : (n : ℕ) → Search n (take 1 (kept p (list_to (λ i. i) n)))
  unfolding list_to
  search-to zero = none (λ i k q. omega arith)
  search-to (suc n) = rw kept_append (one_more n (kept p (list_to (λ i. i) n)) (search-to n) (p n) refl)

-- what the function gives
data Found (t : Tower) (w : Wind) : List ℕ → Type 0 where
  topmost : {i : ℕ} → TopmostOver t w i → Found t w (i ∷ [])
  none_over : ((i : ℕ) → IsOver t w i → ⊥) → Found t w []

searched : {t : Tower} {w : Wind} {l : List ℕ} → Search (is_over t w) (length t.sections) l → Found t w l
searched (found k h g) = topmost (record { is-over = record { section = k; over = h }; none_above = λ j q o. g j q o.over })
searched (none h) = none_over (λ i o. h i o.section o.over)

found-over : (t : Tower) (w : Wind) → Found t w (topmost_over t w)
unfolding topmost_over over_sections
found-over t w = searched (search-to (is_over t w) (length t.sections))

module _ {t : Tower} {w : Wind} where
  pub topmost-is : {i : ℕ} → TopmostOver t w i → topmost_over t w ≡ i ∷ []
  topmost-is {i} h = from (found-over t w)
    where
      from : {l : List ℕ} → Found t w l → l ≡ i ∷ []
      from (topmost g) = ap (λ (j : ℕ). j ∷ []) (topmost-same g h)
      from (none_over g) = absurd (g i h.is-over)

  pub topmost-none : ((i : ℕ) → IsOver t w i → ⊥) → topmost_over t w ≡ []
  topmost-none h = from (found-over t w)
    where
      from : {l : List ℕ} → Found t w l → l ≡ []
      from (topmost {i = i} g) = absurd (h i g.is-over)
      from (none_over g) = refl

  pub is-topmost : {i : ℕ} → topmost_over t w ≡ i ∷ [] → TopmostOver t w i
  is-topmost {i} e = from (subst (Found t w) e (found-over t w))
    where
      from : Found t w (i ∷ []) → TopmostOver t w i
      from (topmost h) = h

  pub none-topmost : topmost_over t w ≡ [] → (i : ℕ) → IsOver t w i → ⊥
  none-topmost e = from (subst (Found t w) e (found-over t w))
    where
      from : Found t w [] → (i : ℕ) → IsOver t w i → ⊥
      from (none_over h) = h
