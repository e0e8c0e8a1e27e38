-- Lists of items in which no number comes twice.
use Prim.Native.Nat.{ℕ}
use mathlib.Core.Path.{◌≡◌, refl, ap, ap₂, sym, ◌∙◌}
use mathlib.Core.Bool.{Bool, true, false, not, ◌&&◌, ◌||◌}
use mathlib.Core.List.{List, [], ◌∷◌, ◌++◌, append_assoc, Permᴰ}
use lib.Dec.{eqb}
use borrow.Author.Tests.{eqb-true, eqb-false, eq-eqb, ne_eqb, not-true}
use Rattle.model.specs.declared.Item.{Item}
use Rattle.model.specs.Lists.{any_of, kept}
use Rattle.model.specs.File.{numbered}
use Rattle.model.specs.Valid.{distinct}
use Rattle.exact.proofs.Bools.{and_split, and-join, or_split}
use Rattle.model.proofs.Lists.{any_append, any-perm, any-kept, either_way}

eqb-sym : (a b : ℕ) → eqb a b ≡ eqb b a
eqb-sym a b = by-case (eqb a b) refl
  where
    by-case : (t : Bool) → eqb a b ≡ t → t ≡ eqb b a
    by-case true e = sym (eq-eqb b a (sym (eqb-true a b e)))
    by-case false e = sym (ne_eqb b a (λ f. eqb-false a b e (sym f)))

-- one item more at the end
pub distinct_more : (l : List Item) (x : Item) → distinct (l ++ (x ∷ [])) ≡ (distinct l && not (numbered x.number l))
distinct_more [] x = refl
distinct_more (y ∷ l) x =
    rw (any_append (λ (it : Item). eqb it.number y.number) l (x ∷ []), distinct_more l x, eqb-sym x.number y.number)
    (moved (numbered y.number l) (eqb y.number x.number) (numbered x.number l) (distinct l))
  where
    moved : (a b c d : Bool) → (not (a || (b || false)) && (d && not c)) ≡ ((not a && d) && not (b || c))
    moved true b c d = refl
    moved false true c true = refl
    moved false true c false = refl
    moved false false c true = refl
    moved false false c false = refl

-- the first items of such a list
pub distinct-front : (l m : List Item) → distinct (l ++ m) ≡ true → distinct l ≡ true
distinct-front [] m h = refl
distinct-front (x ∷ l) m h =
    let same : Item → Bool = λ it. eqb it.number x.number in
    let k : _ = and_split (not (any_of same (l ++ m))) (distinct (l ++ m)) h in
    let n : _ = or_split (any_of same l) (any_of same m) (sym (any_append same l m) ∙ not-true _ k.0) in
    rw (n.0, distinct-front l m k.1)

-- an item whose number none before it has
pub new-number : (l : List Item) (it : Item) (m : List Item) → distinct (l ++ (it ∷ m)) ≡ true → not (numbered it.number l) ≡ true
new-number l it m h =
    let k : distinct ((l ++ (it ∷ [])) ++ m) ≡ true = rw append_assoc h in
    (and_split (distinct l) _ (sym (distinct_more l it) ∙ distinct-front (l ++ (it ∷ [])) m k)).1

-- the order does not matter
pub distinct-perm : {xs ys : List Item} → Permᴰ xs ys → distinct xs ≡ distinct ys
distinct-perm Permᴰ.nil = refl
distinct-perm (Permᴰ.cons {b = b} e d) = rw (e, any-perm (λ (it : Item). eqb it.number b.number) d, distinct-perm d)
distinct-perm (Permᴰ.swap {a = a} {b = b} {l = l} e f) = turned ∙ ap₂ (λ (x y : Item). distinct (x ∷ y ∷ l)) f e
  where
    swapped : (same in-a in_b d : Bool) → (not (same || in-a) && (not in_b && d)) ≡ (not (same || in_b) && (not in-a && d))
    swapped true in-a in_b d = refl
    swapped false true true d = refl
    swapped false true false d = refl
    swapped false false true d = refl
    swapped false false false d = refl

    turned : distinct (a ∷ b ∷ l) ≡ distinct (b ∷ a ∷ l)
    turned =
        rw (eqb-sym b.number a.number)
        (swapped (eqb a.number b.number) (numbered a.number l) (numbered b.number l) (distinct l))
distinct-perm (Permᴰ.trans c d) = distinct-perm c ∙ distinct-perm d

-- the items that a test keeps
pub distinct-kept : (p : Item → Bool) (l : List Item) → distinct l ≡ true → distinct (kept p l) ≡ true
distinct-kept p [] h = refl
distinct-kept p (x ∷ l) h =
    let same : Item → Bool = λ it. eqb it.number x.number in
    let k : _ = and_split (not (any_of same l)) (distinct l) h in
    let new : any_of same (kept p l) ≡ false = any-kept p same l (not-true _ k.0) in
    either_way (λ (m : List Item). distinct m ≡ true) (p x) (and-join (ap not new) (distinct-kept p l k.1)) (distinct-kept p l k.1)
