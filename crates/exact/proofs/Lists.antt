-- What holds of every element of a list, or of some.
use mathlib.Core.Path.{◌≡◌, ap, subst}
use mathlib.Core.List.{List, [], ◌∷◌, ◌++◌, map}
use mathlib.Core.Logic.{◌⊎◌, inl, inr, ⊎_elim}
use Rattle.exact.specs.Number.{Every, none, also, Some, this, later}

module _ {A : Type 0} {P : A → Type 0} where
  pub every-join : {l m : List A} → Every P l → Every P m → Every P (l ++ m)
  every-join none qs = qs
  every-join (also p ps) qs = also p (every-join ps qs)

  pub every-left : (l m : List A) → Every P (l ++ m) → Every P l
  every-left [] m ps = none
  every-left (a ∷ l) m (also p ps) = also p (every-left l m ps)

  pub every-right : (l m : List A) → Every P (l ++ m) → Every P m
  every-right [] m ps = ps
  every-right (a ∷ l) m (also p ps) = every-right l m ps

  pub every-all : ((a : A) → P a) → (l : List A) → Every P l
  every-all f [] = none
  every-all f (a ∷ l) = also (f a) (every-all f l)

  pub some_left : {l : List A} (m : List A) → Some P l → Some P (l ++ m)
  some_left m (this p) = this p
  some_left m (later p) = later (some_left m p)

  pub some_right : (l : List A) {m : List A} → Some P m → Some P (l ++ m)
  some_right [] p = p
  some_right (a ∷ l) p = later (some_right l p)

  -- every element or some, by what holds of each
  pub every-or-some : {Q R : A → Type 0} → ((a : A) → P a → Q a ⊎ R a) → {l : List A} → Every P l → Some Q l ⊎ Every R l
  every-or-some f none = inr none
  every-or-some f (also p ps) =
      ⊎_elim (λ q. inl (this q)) (λ r. ⊎_elim (λ qs. inl (later qs)) (λ rs. inr (also r rs)) (every-or-some f ps)) (f _ p)

module _ {A : Type 0} {P Q R : A → Type 0} (f : (a : A) → P a → Q a → R a) where
  -- two things that hold of every element, and one that holds of every and one of some
  pub both-every : {l : List A} → Every P l → Every Q l → Every R l
  both-every none none = none
  both-every (also p ps) (also q qs) = also (f _ p q) (both-every ps qs)

  pub both_some : {l : List A} → Every P l → Some Q l → Some R l
  both_some (also p ps) (this q) = this (f _ p q)
  both_some (also p ps) (later q) = later (both_some ps q)
  both_some none q = elim q [ ]

-- what follows of every element, and of some
module _ {A : Type 0} {P Q : A → Type 0} (f : (a : A) → P a → Q a) where
  pub every-then : {l : List A} → Every P l → Every Q l
  every-then none = none
  every-then (also p ps) = also (f _ p) (every-then ps)

  pub some_then : {l : List A} → Some P l → Some Q l
  some_then (this p) = this (f _ p)
  some_then (later p) = later (some_then p)

-- what holds of some element, where it holds of none but for C
pub some-only : {A : Type 0} {P : A → Type 0} {C : Type 0} → ((a : A) → P a → C) → {l : List A} → Some P l → C
some-only f (this p) = f _ p
some-only f (later p) = some-only f p

pub every-mapped : {A B : Type 0} {P : A → Type 0} {Q : B → Type 0} (f : A → B) → ((a : A) → P a → Q (f a)) → {l : List A} → Every P l → Every Q (map f l)
every-mapped f h none = none
every-mapped f h (also p ps) = also (h _ p) (every-mapped f h ps)

-- the element of a mapped list that is f a
pub every-at : {A B : Type 0} {Q : B → Type 0} (f : A → B) {a : A} {l : List A} → Some (λ r. r ≡ a) l → Every Q (map f l) → Q (f a)
every-at {Q = Q} f (this e) (also h hs) = subst (λ r. Q (f r)) e h
every-at f (later s) (also h hs) = every-at f s hs

pub some_mapped : {A B : Type 0} (f : A → B) {a : A} {l : List A} → Some (λ r. r ≡ a) l → Some (λ r. r ≡ f a) (map f l)
some_mapped f (this e) = this (ap f e)
some_mapped f (later s) = later (some_mapped f s)
