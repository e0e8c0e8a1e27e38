-- The starred sample towers, by computing: tests, one law from the tests to the statement, and the table's tests in one
-- run.
use Prim.Native.Nat.{ℕ, ◌+◌, ◌-◌}
use mathlib.Core.Path.{◌≡◌, refl, sym}
use mathlib.Core.Bool.{Bool, true, false, not, ◌&&◌, ◌||◌, true≢false}
use mathlib.Core.List.{List, [], ◌∷◌}
use lib.Dec.{ltb}
use native.Mathlib.Omega.{arith}
use borrow.Author.Tests.{ltb-true, not-true}
use Rattle.exact.specs.Fraction.{Fraction, ◌//◌, whole, ◌⊕◌, ◌⊖◌, ◌·◌, ◌≼◌, ◌≼ᵇ◌}
use Rattle.exact.specs.Rooted.{Rooted, ◌⊞◌, ◌⊙◌, square, ◌≼√◌, ◌√≼ᵇ◌, Defined}
use Rattle.exact.specs.Number.{Every, none, also, Some, this, later, Exact, Sound, AtMost, AtLeast, at_leastᵇ}
use Rattle.exact.proofs.Order.{≺-not-≽}
use Rattle.exact.proofs.Arithmetic.{whole-proper}
use Rattle.exact.proofs.Ceiling.{test-≼, at-least-test, test-at-least, within-large}
use Rattle.exact.proofs.Bools.{clash, and_split}
use Rattle.model.specs.Lists.{sum_by, all_of, any_of, joined}
use Rattle.model.specs.Areas.{group_area, item_area, gross, flow_of, area_in, areas_of, solid, lesser_of, lesser_winds}
use Rattle.model.specs.Force.{m², solidity, C1, C2, c_f, c_c, c_p, K1, K2, quarters, halves, s, Kθ, coefficient, item_part, item_sum, resistance, face_force, formula, exact_force}
use Rattle.model.specs.Report.{exact_at}
use Rattle.model.specs.Samples.{tower_for, wind_for, exact_of, formula_of, flat, round, dish, tube_force, Entry, equals, table, Holds, OnlyThese, StarredSamples}

-- the tests
belowᵇ : Fraction → Rooted → Bool
belowᵇ x v = (x ≼ᵇ v.rational) && (square v ≼ᵇ (v.rational ⊖ x) · (v.rational ⊖ x))

definedᵇ : Rooted → Bool
definedᵇ v = ltb 0 v.rational.den && (ltb 0 v.factor.den && ltb 0 v.radicand.den)

at_mostᵇ : Fraction → Exact → Bool
at_mostᵇ x e = any_of (belowᵇ x) e

holds : Entry → Bool
holds x = at_mostᵇ x.low (exact_of x.sample) && at_leastᵇ (exact_of x.sample) x.high

all_hold : List Entry → Bool
all_hold [] = true
all_hold (x ∷ xs) = holds x && all_hold xs

-- n + 2 and n + 3 are at least the exact force, n and n + 1 are not; and no denominator is 0
only : Exact → ℕ → Bool
only e n =
    at_leastᵇ e (whole (n + 2)) && at_leastᵇ e (whole (n + 3)) && not (at_leastᵇ e (whole n)) && not (at_leastᵇ e (whole (n + 1)))
    && all_of definedᵇ e

-- from the tests to the statement
every_of : {A : Type 0} {P : A → Type 0} (p : A → Bool) → ((a : A) → p a ≡ true → P a) → (l : List A) → all_of p l ≡ true → Every P l
every_of p f [] h = none
every_of p f (a ∷ l) h = let g : _ = and_split (p a) (all_of p l) h in also (f a g.0) (every_of p f l g.1)

either : {C : Type 0} (b : Bool) {c : Bool} → (b || c) ≡ true → (b ≡ true → C) → (c ≡ true → C) → C
either true h f g = f refl
either false h f g = g h

some_of : {A : Type 0} {P : A → Type 0} (p : A → Bool) → ((a : A) → p a ≡ true → P a) → (l : List A) → any_of p l ≡ true → Some P l
some_of p f [] h = absurd (true≢false (sym h))
some_of p f (a ∷ l) h = either (p a) h (λ e. this (f a e)) (λ e. later (some_of p f l e))

below : (x : Fraction) (v : Rooted) → belowᵇ x v ≡ true → x ≼√ v
unfolding belowᵇ
below x v h =
    let g : _ = and_split (x ≼ᵇ v.rational) _ h in
    record { under = test-≼ _ _ g.0; squared = test-≼ _ _ g.1 }

defined : (v : Rooted) → definedᵇ v ≡ true → Defined v
unfolding definedᵇ
defined v h =
    let g : _ = and_split (ltb 0 v.rational.den) _ h in
    let k : _ = and_split (ltb 0 v.factor.den) _ g.1 in
    record {
      rational = record { positive = ltb-true _ _ g.0 };
      factor = record { positive = ltb-true _ _ k.0 };
      radicand = record { positive = ltb-true _ _ k.1 };
    }

at-most : (x : Fraction) (e : Exact) → at_mostᵇ x e ≡ true → AtMost x e
unfolding at_mostᵇ
at-most x e h = record { some = some_of (belowᵇ x) (below x) e h }

all_held : (xs : List Entry) → all_hold xs ≡ true → Every Holds xs
unfolding all_hold holds
all_held [] h = none
all_held (x ∷ xs) h =
    let g : _ = and_split (holds x) (all_hold xs) h in
    let k : _ = and_split (at_mostᵇ x.low (exact_of x.sample)) _ g.0 in
    also (record { low = at-most _ _ k.0; high = test-at-least _ _ k.1 }) (all_held xs g.1)

margin-above : (n : ℕ) → whole (n + 2) ⊕ whole 2 ≼ whole (n + 2 + 2)
unfolding whole ◌//◌ ◌⊕◌
margin-above n = omega arith

only-these : (e : Exact) (n : ℕ) → only e n ≡ true → OnlyThese e (n + 2)
unfolding only
only-these e n h =
    let g : _ = and_split _ (all_of definedᵇ e) h in
    let i : _ = and_split _ (not (at_leastᵇ e (whole (n + 1)))) g.0 in
    let j : _ = and_split _ (not (at_leastᵇ e (whole n))) i.0 in
    let k : _ = and_split (at_leastᵇ e (whole (n + 2))) _ j.0 in
    let sound : Sound e = record { each = every_of definedᵇ defined e g.1 } in
    let two : AtLeast e (whole (n + 2)) = test-at-least _ _ k.0 in
    let three : AtLeast e (whole (n + 3)) = test-at-least _ _ k.1 in
    let not-zero : AtLeast e (whole n) → ⊥ = λ w. clash (at-least-test w) (not-true _ j.1) in
    let not-one : AtLeast e (whole (n + 1)) → ⊥ = λ w. clash (at-least-test w) (not-true _ i.1) in
    let a : n + 1 + 2 ≡ n + 3 = omega arith in
    let b : n + 2 + 1 ≡ n + 1 + 2 = omega arith in
    let c : n + 2 - 1 ≡ n + 1 = omega arith in
    record {
      first = within-large sound 2 n two not-zero;
      second = rw b (within-large sound 2 (n + 1) (rw a three) not-one);
      none_below = λ w. not-one (rw c at w.enough);
      none_above = λ w. ≺-not-≽ _ _ (w.close (whole (n + 2)) (whole-proper (n + 2)) two) (margin-above n);
    }

pub starred-samples : StarredSamples
unfolding ◌//◌ whole ◌⊕◌ ◌⊖◌ ◌·◌ ◌≼ᵇ◌ ◌⊞◌ ◌⊙◌ square ◌√≼ᵇ◌ sum_by joined lesser_of lesser_winds belowᵇ definedᵇ at_leastᵇ group_area item_area gross flow_of area_in areas_of solid m² solidity C1 C2 c_f c_c c_p K1 K2 quarters halves s Kθ coefficient item_part item_sum resistance face_force formula exact_force exact_at tower_for wind_for exact_of formula_of flat round dish tube_force equals table at_mostᵇ holds all_hold only
starred-samples =
    record {
      forces = all_held table refl;
      root_0817 = record { cross = refl };
      root_06672 = record { rational = record { cross = refl }; square = record { cross = refl } };
      reported_7033 = only-these _ 7031 refl;
      reported_4080 = only-these _ 4078 refl;
      reported_2600 = only-these _ 2598 refl;
      reported_690 = only-these _ 688 refl;
      subcritical_at_1000 = refl;
      supercritical_at_1001 = refl;
    }
