-- Items' slots from which those with a number are left out, where they stood.
use Rattle.std.proofs.Common.{◌≡◌, ℕ, ◌+◌, ◌-◌, ◌≤◌, ◌<◌, Bool, true, false, Some, None, List, [], ◌∷◌, ◌++◌, length, take, drop, filter, position, refl, ap, sym, ◌∙◌, cond, arith, one-add}
use Rattle.std.specs.List.{prefix_len}
use Rattle.std.proofs.Math.Seq.{take-append-add}
use Rattle.std.proofs.lemmas.List.{take-append-le, drop-append-le, drop-take, drop-drop, take-take}
use Rattle.std.proofs.lemmas.Slice.{take-put_mid_below}
use Rattle.std.proofs.lemmas.Grind.{common_steps}
use borrow.Rule.Slice.PartMut.{mid_of, put_mid}
use Rattle.slots.specs.Held.{Slots}
use Rattle.item_calls.specs.Places.{has_number, has_another}

-- the slots of the first items that have another number stand at the front, n of them; the slots before the items are
-- as they were
pub record ClosedUp (number held : ℕ) (before after : Slots) (n : ℕ) : Type 0 where
  pub items : take n (drop 65 after) ≡ filter (has_another number) (take held (drop 65 before))
  pub beside : take 65 after ≡ take 65 before
  pub long : length after ≡ length before
  pub few : n ≤ held

-- up to the first that a test fails all stay
kept-front : {A : Type 0} (p : A → Bool) (xs : List A) → filter p xs ≡ take (prefix_len p xs) xs ++ filter p (drop (prefix_len p xs) xs)
kept-front p [] = refl
kept-front p (x ∷ xs) = by-case (p x) refl (kept-front p xs)
  where
    by-case : (b : Bool) → p x ≡ b → filter p xs ≡ take (prefix_len p xs) xs ++ filter p (drop (prefix_len p xs) xs)
        → cond b (x ∷ filter p xs) (filter p xs)
        ≡ take (cond b (1 + prefix_len p xs) 0) (x ∷ xs) ++ filter p (drop (cond b (1 + prefix_len p xs) 0) (x ∷ xs))
    by-case true f e = rw one-add (ap (λ m. x ∷ m) e)
    by-case false f e = rw f

joined : (at place rest : ℕ) (l new tail : Slots) → at + place ≤ length l → rest ≤ length new
    → take (place + rest) (drop at (take (at + place) l ++ (new ++ tail))) ≡ take place (drop at l) ++ take rest new
joined at place rest l new tail h k =
    let long : length (take place (drop at l)) ≡ place = grind (arith, common_steps) in
    let shift : take (place + rest) (take place (drop at l) ++ (new ++ tail)) ≡ take place (drop at l) ++ take rest (new ++ tail) =
    rw long at (take-append-add (take place (drop at l)) (new ++ tail) rest) in
    ap (take (place + rest)) (drop-append-le at (take (at + place) l) (new ++ tail) (grind (arith, common_steps)))
    ∙ ap (λ m. take (place + rest) (m ++ (new ++ tail))) (drop-take at place l)
    ∙ shift ∙ ap (λ m. take place (drop at l) ++ m) (take-append-le rest new tail k)

parts : (at place held : ℕ) (l : Slots) → place ≤ held
    → (take place (take held (drop at l)) ≡ take place (drop at l)) × (drop place (take held (drop at l)) ≡ take (at + held - (at + place)) (drop (at + place) l))
parts at place held l h =
    let k : ℕ = at + held - (at + place) in
    let whole : held ≡ place + k = omega arith in
    (take-take place held (drop at l) h, ap (λ (n : ℕ). drop place (take n (drop at l))) whole ∙ drop-take place k (drop at l) ∙ ap (take k) (drop-drop place at l))

is-place : (b : Bool) {n place : ℕ} → cond b (Some n) None ≡ Some place → n ≡ place
is-place true e = cc
is-place false e = cc

module _ (number place held rest : ℕ) (l new : Slots) (wide : length l ≡ 129) (few : held ≤ 64)
    (found : position (has_number number) (take held (drop 65 l)) ≡ Some place)
    (long : length new ≡ length (mid_of (65 + place) (65 + held - (65 + place)) l))
    (left : take rest new ≡ filter (has_another number) (mid_of (65 + place) (65 + held - (65 + place)) l))
    (fewer : rest ≤ length (mid_of (65 + place) (65 + held - (65 + place)) l)) where
  abbrev closed : Slots
  closed = put_mid (65 + place) (65 + held - (65 + place)) l new

  on : place < held
  on = grind (arith, common_steps)

  front : prefix_len (has_another number) (take held (drop 65 l)) ≡ place
  front = is-place _ found

  pub closed-up : ClosedUp number held l closed (place + rest)
  closed-up =
      let q = parts 65 place held l (omega (arith, on)) in
      record {
        items = joined 65 place rest l new _ (omega (arith, on)) (omega (arith, long)) ∙ ap (λ m. take place (drop 65 l) ++ m) left ∙ sym (rw (front, q.0, q.1) at (kept-front {A = List ℕ} (has_another number) (take held (drop 65 l))));
        beside = take-put_mid_below (65 + place) (65 + held - (65 + place)) l new 65 (omega arith) (omega (arith, on));
        long = grind (arith, common_steps, on);
        few = grind (arith, common_steps, on);
      }
