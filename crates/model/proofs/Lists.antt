-- Sums over lists and over indices; tests over lists; nothing of it depends on the order.
use Prim.Native.Nat.{ℕ, zero, suc, ◌+◌, ◌*◌, ◌≤◌, ◌<◌}
use mathlib.Core.Path.{◌≡◌, refl, ap, sym, ◌∙◌}
use mathlib.Core.Bool.{Bool, true, false, cond, ◌&&◌, ◌||◌, and_assoc, and_comm, or_assoc, or_comm}
use mathlib.Core.List.{List, [], ◌∷◌, ◌++◌, map, Permᴰ, Forall₂}
use mathlib.Core.Logic.{⊎_elim}
use native.Mathlib.Numerals.{add-one}
use native.Mathlib.Omega.{arith}
use lib.ListN.{length, get_or, set, take, drop, length-append, take-append-drop}
use lib.Seq.{take-suc, get_or-take, length-take-le}
pub use Rattle.std.proofs.lemmas.List.Folds.{list_all-append as all-of-append, list_any-append as any_append, list_all_more as all_more, list_any_more as any-more}
use Rattle.std.proofs.lemmas.List.Folds.{list_any_at, list_all_at}
pub use Rattle.std.proofs.lemmas.List.Elements.{filter-append as kept_append}
use Rattle.model.specs.Lists.{any_of, all_of, kept, joined, sum_by, sum_to, list_to}
use Rattle.exact.specs.Number.{Every, none, also, Some, this}
use Rattle.exact.proofs.Bools.{and_split, and-join, or_split, or-join}
use Rattle.exact.proofs.Order.{le-or-lt}
use Rattle.exact.proofs.Lists.{every-join, some_left, some_right}

module _ {A : Type 0} (f : A → ℕ) where
  pub sum_by-none : sum_by f [] ≡ 0
  unfolding sum_by
  sum_by-none = refl

  pub sum_by-append : (xs ys : List A) → sum_by f (xs ++ ys) ≡ sum_by f xs + sum_by f ys
  unfolding sum_by
  sum_by-append [] ys = omega arith
  sum_by-append (x ∷ xs) ys = omega (arith, sum_by-append xs ys)

  sum_by-one : (x : A) → sum_by f (x ∷ []) ≡ f x
  unfolding sum_by
  sum_by-one x = omega arith

  -- one turn of a loop over an array
  pub sum_by-more : (l : List A) (i : ℕ) (d : A) → i < length l → sum_by f (take (i + 1) l) ≡ sum_by f (take i l) + f (get_or l i d)
  sum_by-more l i d h = rw (add-one, take-suc l i d h, sum_by-append, sum_by-one)

  -- n terms of at most b each
  pub sum_by-bound : (p : A → Bool) (b : ℕ) → ((x : A) → p x ≡ true → f x ≤ b) → (l : List A) → all_of p l ≡ true → sum_by f l ≤ length l * b
  unfolding sum_by
  sum_by-bound p b h [] t = omega arith
  sum_by-bound p b h (x ∷ xs) t =
      let g : _ = and_split (p x) (all_of p xs) t in
      omega (arith, h x g.0, sum_by-bound p b h xs g.1)

  -- the order of the list does not matter
  pub sum_by-perm : {xs ys : List A} → Permᴰ xs ys → sum_by f xs ≡ sum_by f ys
  unfolding sum_by
  sum_by-perm Permᴰ.nil = refl
  sum_by-perm (Permᴰ.cons e p) = omega (arith, ap f e, sum_by-perm p)
  sum_by-perm (Permᴰ.swap e g) = omega (arith, ap f e, ap f g)
  sum_by-perm (Permᴰ.trans p q) = sum_by-perm p ∙ sum_by-perm q

pub length-perm : {A : Type 0} {xs ys : List A} → Permᴰ xs ys → length xs ≡ length ys
length-perm Permᴰ.nil = refl
length-perm (Permᴰ.cons e p) = omega (arith, length-perm p)
length-perm (Permᴰ.swap e g) = refl
length-perm (Permᴰ.trans p q) = length-perm p ∙ length-perm q

-- sums over indices
pub sum_to-none : (f : ℕ → ℕ) → sum_to f 0 ≡ 0
unfolding sum_to
sum_to-none f = refl

pub sum_to-more : (f : ℕ → ℕ) (n : ℕ) → sum_to f (n + 1) ≡ sum_to f n + f n
unfolding sum_to
sum_to-more f n = rw add-one

pub sum_to-bound : (f : ℕ → ℕ) (b n : ℕ) → ((i : ℕ) → i < n → f i ≤ b) → sum_to f n ≤ n * b
unfolding sum_to
sum_to-bound f b zero h = omega arith
sum_to-bound f b (suc n) h = omega (arith, sum_to-bound f b n (λ i q. h i (omega arith)), h n (omega arith))

pub sum_to-same : (f g : ℕ → ℕ) (n : ℕ) → ((i : ℕ) → i < n → f i ≡ g i) → sum_to f n ≡ sum_to g n
unfolding sum_to
sum_to-same f g zero h = refl
sum_to-same f g (suc n) h = omega (arith, sum_to-same f g n (λ i q. h i (omega arith)), h n (omega arith))

pub sum_to-times-one : (f : ℕ → ℕ) (n : ℕ) → sum_to (λ i. f i * 1) n ≡ sum_to f n
sum_to-times-one f n = sum_to-same _ _ n (λ i h. omega arith)

pub sum_to-ones : (n : ℕ) → sum_to (λ _. 1) n ≡ n
unfolding sum_to
sum_to-ones zero = refl
sum_to-ones (suc n) = omega (arith, sum_to-ones n)

-- lists over indices
pub length-list_to : {A : Type 0} (f : ℕ → A) (n : ℕ) → length (list_to f n) ≡ n
unfolding list_to
length-list_to f zero = refl
length-list_to f (suc n) = omega (arith, length-append (list_to f n) (f n ∷ []), length-list_to f n)

forall_append : {A B : Type 0} {R : A → B → Type 0} {xs : List A} {ys : List B} {a : A} {b : B}
    → Forall₂ R xs ys → R a b → Forall₂ R (xs ++ (a ∷ [])) (ys ++ (b ∷ []))
forall_append Forall₂.nil r = Forall₂.cons r Forall₂.nil
forall_append (Forall₂.cons h hs) r = Forall₂.cons h (forall_append hs r)

pub forall-list_to : {A B : Type 0} {R : A → B → Type 0} (f : ℕ → A) (g : ℕ → B) (n : ℕ)
    → ((i : ℕ) → i < n → R (f i) (g i)) → Forall₂ R (list_to f n) (list_to g n)
unfolding list_to
forall-list_to f g zero h = Forall₂.nil
forall-list_to f g (suc n) h = forall_append (forall-list_to f g n (λ i q. h i (omega arith))) (h n (omega arith))

pub every-list_to : {A : Type 0} {Q : A → Type 0} (f : ℕ → A) (n : ℕ) → ((p : ℕ) → p < n → Q (f p)) → Every Q (list_to f n)
unfolding list_to
every-list_to f zero h = none
every-list_to f (suc n) h = every-join (every-list_to f n (λ p g. h p (omega arith))) (also (h n (omega arith)) none)

pub some-list_to : {A : Type 0} (f : ℕ → A) (n p : ℕ) → p < n → Some (λ r. r ≡ f p) (list_to f n)
unfolding list_to
some-list_to f zero p h = absurd (omega arith)
some-list_to f (suc n) p h =
    ⊎_elim (λ g. let e : n ≡ p = omega arith in some_right (list_to f n) (this (ap f e))) (λ g. some_left (f n ∷ []) (some-list_to f n p g)) (le-or-lt n p)

-- each part's own part first, or that of all parts
pub joined-map : {A B C : Type 0} (f : B → List C) (g : A → B) (l : List A) → joined (λ x. f (g x)) l ≡ joined f (map g l)
unfolding joined
joined-map f g [] = refl
joined-map f g (x ∷ l) = ap (λ m. f (g x) ++ m) (joined-map f g l)

-- what holds of all, and of the default, holds of each that is read
pub get_or-all : {A : Type 0} (p : A → Bool) (l : List A) (i : ℕ) (d : A) → all_of p l ≡ true → p d ≡ true → p (get_or l i d) ≡ true
get_or-all p [] i d h g = g
get_or-all p (x ∷ xs) zero d h g = (and_split (p x) (all_of p xs) h).0
get_or-all p (x ∷ xs) (suc i) d h g = get_or-all p xs i d (and_split (p x) (all_of p xs) h).1 g

-- a test that holds of all holds of each; one that holds of none fails of each
pub all-at : {A : Type 0} (p : A → Bool) (l : List A) (i : ℕ) (d : A) → i < length l → all_of p l ≡ true → p (get_or l i d) ≡ true
all-at p [] i d h t = absurd (omega arith)
all-at p (x ∷ xs) zero d h t = (and_split (p x) (all_of p xs) t).0
all-at p (x ∷ xs) (suc i) d h t = all-at p xs i d (omega arith) (and_split (p x) (all_of p xs) t).1

pub none-at : {A : Type 0} (p : A → Bool) (l : List A) (i : ℕ) (d : A) → i < length l → any_of p l ≡ false → p (get_or l i d) ≡ false
none-at p [] i d h t = absurd (omega arith)
none-at p (x ∷ xs) zero d h t = (or_split (p x) (any_of p xs) t).0
none-at p (x ∷ xs) (suc i) d h t = none-at p xs i d (omega arith) (or_split (p x) (any_of p xs) t).1

pub all_append : {A : Type 0} (p : A → Bool) (xs ys : List A) → all_of p xs ≡ true → all_of p ys ≡ true → all_of p (xs ++ ys) ≡ true
all_append p [] ys h g = g
all_append p (x ∷ xs) ys h g =
    let k : _ = and_split (p x) (all_of p xs) h in
    and-join k.0 (all_append p xs ys k.1 g)

pub all-grow : {A : Type 0} (p : A → Bool) (l : List A) (a : A) → all_of p l ≡ true → p a ≡ true → all_of p (l ++ (a ∷ [])) ≡ true
all-grow p l a h t = all_append p l (a ∷ []) h (and-join t refl)

module _ {A : Type 0} (p : A → Bool) where
  pub all-parts : (xs ys : List A) → all_of p (xs ++ ys) ≡ true → (all_of p xs ≡ true) × (all_of p ys ≡ true)
  all-parts xs ys h = and_split (all_of p xs) (all_of p ys) (sym (all-of-append p xs ys) ∙ h)

  pub all_in : (l : List A) (a : A) (m : List A) → all_of p (l ++ (a ∷ m)) ≡ true → p a ≡ true
  all_in l a m h = (and_split (p a) (all_of p m) (all-parts l (a ∷ m) h).1).0

  pub all_take : (n : ℕ) (l : List A) → all_of p l ≡ true → all_of p (take n l) ≡ true
  all_take n l h = (all-parts (take n l) (drop n l) (ap (all_of p) (take-append-drop n l) ∙ h)).0

  pub all_set : (l : List A) (i : ℕ) (a : A) → all_of p l ≡ true → p a ≡ true → all_of p (set l i a) ≡ true
  all_set [] i a h q = refl
  all_set (x ∷ xs) zero a h q = and-join q (and_split (p x) (all_of p xs) h).1
  all_set (x ∷ xs) (suc i) a h q =
      let k : _ = and_split (p x) (all_of p xs) h in
      and-join k.0 (all_set xs i a k.1 q)

  -- one that holds of one of the first n holds of some of them; one that fails of one fails of them together
  pub any-holds : (l : List A) (n i : ℕ) (d : A) → i < n → n ≤ length l → p (get_or l i d) ≡ true → any_of p (take n l) ≡ true
  any-holds l n i d h g f = list_any_at p (take n l) i d (omega (arith, length-take-le n l g)) (rw get_or-take f)

  pub all-fails : (l : List A) (n i : ℕ) (d : A) → i < n → n ≤ length l → p (get_or l i d) ≡ false → all_of p (take n l) ≡ false
  all-fails l n i d h g f = list_all_at p (take n l) i d (omega (arith, length-take-le n l g)) (rw get_or-take f)

-- a test that holds of all, from one that says more
pub all_weaker : {A : Type 0} (p q : A → Bool) → ((x : A) → p x ≡ true → q x ≡ true) → (l : List A) → all_of p l ≡ true → all_of q l ≡ true
all_weaker p q h [] t = refl
all_weaker p q h (x ∷ xs) t =
    let k : _ = and_split (p x) (all_of p xs) t in
    and-join (h x k.0) (all_weaker p q h xs k.1)

-- tests do not depend on the order
and-swap : (a b c : Bool) → (a && (b && c)) ≡ (b && (a && c))
and-swap a b c = rw (← and_assoc a b c, and_comm a b, and_assoc b a c)

or_swap : (a b c : Bool) → (a || (b || c)) ≡ (b || (a || c))
or_swap a b c = rw (← or_assoc a b c, or_comm a b, or_assoc b a c)

module _ {A : Type 0} (p : A → Bool) where
  pub all-perm : {xs ys : List A} → Permᴰ xs ys → all_of p xs ≡ all_of p ys
  all-perm Permᴰ.nil = refl
  all-perm (Permᴰ.cons e d) = rw (e, all-perm d)
  all-perm (Permᴰ.swap {a = a} {b = b} {l = l} e g) = rw (← e, ← g) (and-swap (p a) (p b) (all_of p l))
  all-perm (Permᴰ.trans c d) = all-perm c ∙ all-perm d

  pub any-perm : {xs ys : List A} → Permᴰ xs ys → any_of p xs ≡ any_of p ys
  any-perm Permᴰ.nil = refl
  any-perm (Permᴰ.cons e d) = rw (e, any-perm d)
  any-perm (Permᴰ.swap {a = a} {b = b} {l = l} e g) = rw (← e, ← g) (or_swap (p a) (p b) (any_of p l))
  any-perm (Permᴰ.trans c d) = any-perm c ∙ any-perm d

-- what holds either way
pub either_way : {A : Type 0} (P : A → Type 0) (b : Bool) {x y : A} → P x → P y → P (cond b x y)
either_way P true h g = h
either_way P false h g = g

-- the elements that a test keeps
module _ {A : Type 0} (p : A → Bool) where
  pub length-kept : (l : List A) → length (kept p l) ≤ length l
  length-kept [] = omega arith
  length-kept (x ∷ xs) = either_way (λ (m : List A). length m ≤ length (x ∷ xs)) (p x) (omega (arith, length-kept xs)) (omega (arith, length-kept xs))

  pub all-kept : (q : A → Bool) (l : List A) → all_of q l ≡ true → all_of q (kept p l) ≡ true
  all-kept q [] h = refl
  all-kept q (x ∷ xs) h =
      let k : _ = and_split (q x) (all_of q xs) h in
      either_way (λ (m : List A). all_of q m ≡ true) (p x) (and-join k.0 (all-kept q xs k.1)) (all-kept q xs k.1)

  pub any-kept : (q : A → Bool) (l : List A) → any_of q l ≡ false → any_of q (kept p l) ≡ false
  any-kept q [] h = refl
  any-kept q (x ∷ xs) h =
      let k : _ = or_split (q x) (any_of q xs) h in
      either_way (λ (m : List A). any_of q m ≡ false) (p x) (or-join k.0 (any-kept q xs k.1)) (any-kept q xs k.1)
