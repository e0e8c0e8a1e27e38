-- A loop that reads so many parts: reading the rest after those so far gives the whole list.
use Prim.Native.Nat.{ℕ, ◌+◌, ◌-◌, ◌≤◌, ◌<◌}
use mathlib.Core.Path.{◌≡◌, ◌∙◌}
use mathlib.Core.List.{List, [], ◌∷◌, ◌++◌}
use lib.ListN.{length, drop}
use Rattle.model.specs.Reading.{Parsed, got, refused, many}
use Rattle.model.proofs.Readings.{many-done, many-step, many-refused}

module _ {A : Type 0} (p : List A → List ℕ → Parsed A) (n : ℕ) (before : List A) (s : List ℕ) where
  -- i parts were read up to a place: they and those before are l
  pub record SoFar (i : ℕ) (l : List A) (at : ℕ) : Type 0 where
    pub within : at ≤ length s
    pub same : many p n before s ≡ many p (n - i) l (drop at s)

  module _ {i : ℕ} {l : List A} {at : ℕ} (so : SoFar i l at) where
    pub one_more : {a : A} {next : ℕ} → i < n → (p l (drop at s) ≡ got a (drop next s)) × (next ≤ length s) → SoFar (i + 1) (l ++ (a ∷ [])) next
    one_more h e = record { within = e.1; same = so.same ∙ many-step p n i h e.0 }

    pub no_more : {m : ℕ} → i < n → p l (drop at s) ≡ refused m → many p n before s ≡ refused m
    no_more h e = so.same ∙ many-refused p n i h e

    pub all_read : n ≤ i → (many p n before s ≡ got l (drop at s)) × (at ≤ length s)
    all_read h = (so.same ∙ many-done p n i l (drop at s) h, so.within)
