-- What a reading that succeeded went through: one reading after another, rules, fields, and runs of parts.
use Prim.Native.Nat.{ℕ, zero, suc, ◌+◌, ◌-◌, ◌≤◌, ◌<◌}
use mathlib.Core.Path.{◌≡◌, refl, subst₂}
use mathlib.Core.Bool.{Bool, true, false}
use mathlib.Core.List.{List, [], ◌∷◌, ◌++◌}
use native.Mathlib.Omega.{arith}
use lib.ListN.{length, length-append}
use Rattle.units.specs.declared.Length.{Length}
use Rattle.model.specs.declared.Group.{Group}
use Rattle.model.specs.Lists.{all_of}
use Rattle.model.specs.declared.Range.{Range}
use Rattle.model.specs.Ranges.{within, member_kind, member_size, member_length}
use Rattle.model.specs.Areas.{size_of}
use Rattle.model.specs.Reading.{Parsed, got, refused, then, require, field, ranged, many}
use Rattle.model.specs.File.{member_of, read_group, read_groups}
use Rattle.model.specs.Valid.{group_fits}
use Rattle.exact.proofs.Bools.{and-join}
use Rattle.model.proofs.Lists.{all-grow}

-- if it was read, then Q holds of the value and of the bytes that remain
pub data Gives {A : Type 0} (Q : A → List ℕ → Type 0) : Parsed A → Type 0 where
  given : {a : A} {s : List ℕ} → Q a s → Gives Q (got a s)
  nothing : {n : ℕ} → Gives Q (refused n)

module _ {A : Type 0} {Q : A → List ℕ → Type 0} where
  pub when-got : {p : Parsed A} {a : A} {s : List ℕ} → Gives Q p → p ≡ got a s → Q a s
  when-got {a = a} {s = s} (given {a = b} {s = t} q) e =
      let f : b ≡ a = cc in
      let g : t ≡ s = cc in
      subst₂ Q f g q
  when-got nothing e = let z : ◌≡◌ {A = ℕ} 0 1 = cc in absurd (omega arith)

  -- from what is known of a reading that succeeded
  pub gives : (p : Parsed A) → ((a : A) (s : List ℕ) → p ≡ got a s → Q a s) → Gives Q p
  gives (got a s) h = given (h a s refl)
  gives (refused n) h = nothing

  pub weaker : {P : A → List ℕ → Type 0} {p : Parsed A} → Gives P p → ((a : A) (s : List ℕ) → P a s → Q a s) → Gives Q p
  weaker (given {a = a} {s = s} q) h = given (h a s q)
  weaker nothing h = nothing

  -- one reading after another; a rule
  pub then-gives : {B : Type 0} {P : B → List ℕ → Type 0} {p : Parsed B} {f : B → List ℕ → Parsed A}
      → Gives P p → ((b : B) (s : List ℕ) → P b s → Gives Q (f b s)) → Gives Q (then p f)
  then-gives (given {a = b} {s = s} q) h = h b s q
  then-gives nothing h = nothing

  pub require-gives : (b : Bool) (n : ℕ) {p : Parsed A} → (b ≡ true → Gives Q p) → Gives Q (require b n p)
  require-gives true n h = h refl
  require-gives false n h = nothing

pub anything : {A : Type 0} (p : Parsed A) → Gives (λ a s. Unit {0}) p
anything p = gives p (λ a s e. tt)

-- a field in its range
ranged-gives : (w : ℕ) (r : Range) (n : ℕ) (s : List ℕ) → Gives (λ v rest. (field w s ≡ got v rest) × (within r v ≡ true)) (ranged w r n s)
unfolding ranged
ranged-gives w r n s =
    then-gives (gives (field w s) (λ v s₁ e. e)) λ v s₁ e.
    require-gives (within r v) n λ h.
    given (e, h)

pub ranged-got : (w : ℕ) (r : Range) (n : ℕ) (s : List ℕ) {v : ℕ} {rest : List ℕ}
    → ranged w r n s ≡ got v rest → (field w s ≡ got v rest) × (within r v ≡ true)
ranged-got w r n s e = when-got (ranged-gives w r n s) e

-- a run of parts: what holds of l and still holds after each part holds of what was read; and n parts came behind those
-- of l
module _ {A : Type 0} (p : List A → List ℕ → Parsed A) where
  pub many-gives : (I : List A → List ℕ → Type 0) → ((l : List A) (s : List ℕ) → I l s → Gives (λ a rest. I (l ++ (a ∷ [])) rest) (p l s))
      → (n : ℕ) (l : List A) (s : List ℕ) → I l s → Gives (λ l' rest. I l' rest × (length l' ≡ length l + n)) (many p n l s)
  unfolding many
  many-gives I step zero l s i = given (i, omega arith)
  many-gives I step (suc n) l s i =
      then-gives (step l s i) λ a s₁ j.
      weaker (many-gives I step n (l ++ (a ∷ [])) s₁ j) λ l' rest k.
      (k.0, omega (arith, k.1, length-append l (a ∷ [])))

  pub many-length : (n : ℕ) (l : List A) (s : List ℕ) {l' : List A} {s' : List ℕ} → many p n l s ≡ got l' s' → length l' ≡ length l + n
  many-length n l s e = (when-got (many-gives (λ l s. Unit {0}) (λ l s i. anything (p l s)) n l s tt) e).1

  pub many-all : (test : A → Bool) → ((l : List A) (s : List ℕ) (a : A) (rest : List ℕ) → p l s ≡ got a rest → test a ≡ true)
      → (n : ℕ) (s : List ℕ) {l' : List A} {s' : List ℕ} → many p n [] s ≡ got l' s' → all_of test l' ≡ true
  many-all test each n s e =
      (when-got (many-gives (λ l s. all_of test l ≡ true)
      (λ l s h. gives (p l s) (λ a rest f. all-grow test l a h (each l s a rest f))) n [] s refl) e).0

  -- a loop that has read i of n parts
  pub many-done : (n i : ℕ) (l : List A) (s : List ℕ) → n ≤ i → many p (n - i) l s ≡ got l s
  unfolding many
  many-done n i l s h = let z : n - i ≡ 0 = omega arith in rw z

  pub many-step : (n i : ℕ) {l : List A} {s : List ℕ} {a : A} {s₁ : List ℕ} → i < n → p l s ≡ got a s₁
      → many p (n - i) l s ≡ many p (n - (i + 1)) (l ++ (a ∷ [])) s₁
  unfolding many
  many-step n i h e = let z : n - i ≡ suc (n - (i + 1)) = omega arith in rw (z, e)

  pub many-refused : (n i : ℕ) {l : List A} {s : List ℕ} {m : ℕ} → i < n → p l s ≡ refused m → many p (n - i) l s ≡ refused m
  unfolding many
  many-refused n i h e = let z : n - i ≡ suc (n - (i + 1)) = omega arith in rw (z, e)

-- a group that was read is within its ranges, whatever the list held
pub size-member : (kind : ℕ) (d : Length) → size_of (member_of kind d) ≡ d
size-member zero d = refl
size-member (suc kind) d = refl

group-gives : (s : List ℕ) → Gives (λ g rest. group_fits g ≡ true) (read_group s)
unfolding read_group
group-gives s =
    then-gives (anything (ranged 1 member_kind 7 s)) λ kind s₁ _.
    then-gives (ranged-gives 2 member_size 7 s₁) λ size s₂ e.
    then-gives (ranged-gives 4 member_length 7 s₂) λ long s₃ f.
    given (rw size-member (and-join e.1 f.1))

pub group-fits : (s : List ℕ) {g : Group} {rest : List ℕ} → read_group s ≡ got g rest → group_fits g ≡ true
group-fits s e = when-got (group-gives s) e

pub groups-fit : (n : ℕ) (s : List ℕ) {l : List Group} {rest : List ℕ} → read_groups n s ≡ got l rest → (all_of group_fits l ≡ true) × (length l ≡ n)
unfolding read_groups
groups-fit n s {l} e =
    let p : List Group → List ℕ → Parsed Group = λ l. read_group in
    (many-all p group_fits (λ l s g rest f. group-fits s f) n s e, omega (arith, many-length p n [] s e))
