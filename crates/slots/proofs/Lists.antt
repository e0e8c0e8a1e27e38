-- Lists that are given by their elements.
use Prim.Native.Nat.{ℕ, zero, suc, ◌+◌, ◌-◌, ◌≤◌, ◌<◌}
use mathlib.Core.Path.{◌≡◌, refl, ap, sym, ◌∙◌}
use mathlib.Core.Bool.{Bool, true, false, ◌&&◌}
use mathlib.Core.List.{List, [], ◌∷◌, ◌++◌, map, map-append}
use mathlib.Core.Logic.{⊎_elim}
use native.Mathlib.Nat.{eq-or-lt_of_le}
use native.Mathlib.Numerals.{add-one}
use native.Mathlib.Omega.{arith}
use lib.ListN.{length, take, set, replicate, get_or, get_or-append}
use lib.Seq.{take-suc, get_or_at}
use Rattle.std.proofs.Common.{append_assoc}
use Rattle.std.proofs.lemmas.List.{set_at, map_more}
use Rattle.std.proofs.lemmas.Grind.{common_steps}
use Rattle.model.specs.Lists.{list_to, all_of, any_of}
use Rattle.model.proofs.Lists.{length-list_to, all-of-append, all-at, none-at}
use Rattle.exact.proofs.Bools.{clash}

module _ {A : Type 0} where
  pub list-more : (f : ℕ → A) (n : ℕ) → list_to f (n + 1) ≡ list_to f n ++ (f n ∷ [])
  unfolding list_to
  list-more f n = rw add-one refl

  pub get_or-list_to : (f : ℕ → A) (d : A) (n j : ℕ) → j < n → get_or (list_to f n) j d ≡ f j
  unfolding list_to
  get_or-list_to f d zero j h = absurd (omega arith)
  get_or-list_to f d (suc n) j h =
      ⊎_elim (λ (e : j ≡ n). rw e (get_or_at (list_to f n) (f n) [] d n (length-list_to f n)))
      (λ (g : j < n). get_or-append (list_to f n) (f n ∷ []) d j (omega (arith, length-list_to f n)) ∙ get_or-list_to f d n j g)
      (eq-or-lt_of_le {n = j} {m = n} (omega arith))

  pub list-take : (f : ℕ → A) (l : List A) (d : A) (n : ℕ) → n ≤ length l → ((j : ℕ) → j < n → f j ≡ get_or l j d) → list_to f n ≡ take n l
  unfolding list_to
  list-take f l d zero h e = refl
  list-take f l d (suc n) h e = rw (list-take f l d n (omega arith) (λ j g. e j (omega arith)), e n (omega arith)) (sym (take-suc l n d h))

  pub list_same : (f g : ℕ → A) (n : ℕ) → ((j : ℕ) → j < n → f j ≡ g j) → list_to f n ≡ list_to g n
  unfolding list_to
  list_same f g zero e = refl
  list_same f g (suc n) e = rw (list_same f g n (λ j h. e j (omega arith)), e n (omega arith))

  pub list_to_map : {B : Type 0} (g : A → B) (l : List A) (d : A) (n : ℕ) → n ≤ length l → list_to (λ j. g (get_or l j d)) n ≡ map g (take n l)
  unfolding list_to
  list_to_map g l d zero h = refl
  list_to_map g l d (suc n) h = rw (list_to_map g l d n (omega arith), take-suc l n d h, map-append) refl

-- one number more in front of the zeros
pub filled : {A : Type 0} (f : A → ℕ) (l : List A) (d : A) (j n x : ℕ) → x ≡ f (get_or l j d) → j < length l → j < n
    → set (map f (take j l) ++ replicate (n - j) 0) j x ≡ map f (take (j + 1) l) ++ replicate (n - (j + 1)) 0
filled f l d j n x e h k =
    let more : n - j ≡ suc (n - (j + 1)) = omega arith in
    let long : length (map f (take j l)) ≡ j = grind (arith, common_steps) in
    rw (more, e, map_more f l j d h)
    (set_at (map f (take j l)) 0 (replicate (n - (j + 1)) 0) (f (get_or l j d)) j long
    ∙ sym (append_assoc (map f (take j l)) (f (get_or l j d) ∷ []) (replicate (n - (j + 1)) 0)))

-- tests over such lists
and-only : (a b : Bool) → (a && (b && true)) ≡ (a && b)
and-only a true = refl
and-only a false = refl

module _ {A : Type 0} (p : A → Bool) (f : ℕ → A) where
  pub all-next : (n : ℕ) → all_of p (list_to f (n + 1)) ≡ (all_of p (list_to f n) && p (f n))
  all-next n = ap (all_of p) (list-more f n) ∙ all-of-append p (list_to f n) (f n ∷ []) ∙ and-only (all_of p (list_to f n)) (p (f n))

  module _ (n i : ℕ) (h : i < n) where
    pub all_there : all_of p (list_to f n) ≡ true → p (f i) ≡ true
    all_there e = ap p (sym (get_or-list_to f (f i) n i h)) ∙ all-at p (list_to f n) i (f i) (omega (arith, length-list_to f n)) e

    pub none-there : any_of p (list_to f n) ≡ false → p (f i) ≡ false
    none-there e = ap p (sym (get_or-list_to f (f i) n i h)) ∙ none-at p (list_to f n) i (f i) (omega (arith, length-list_to f n)) e

    pub all-not : p (f i) ≡ false → all_of p (list_to f n) ≡ false
    all-not e = by-case (all_of p (list_to f n)) refl
      where
        by-case : (b : Bool) → all_of p (list_to f n) ≡ b → b ≡ false
        by-case true g = absurd (clash (all_there g) e)
        by-case false g = refl
