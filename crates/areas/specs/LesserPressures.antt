-- The lesser winds of a section's groups in code, and which of them are worked out.
use Rattle.std.specs.Prelude.{ℕ, ◌*◌, ◌≤◌, ◌<◌, ◌≡◌, ◌+◌, Bool, true, false, not, ◌&&◌, Option, Some, None, List, [], ◌∷◌, eqb, get_or, take}
use Rattle.units.specs.declared.Length.{Length}
use Rattle.model.specs.declared.Member.{Member}
use Rattle.model.specs.declared.Member.TheVariants.{Flat, Round}
use Rattle.model.specs.declared.Group.{Group}
use Rattle.model.specs.Lists.{any_of}
use Rattle.model.specs.Areas.{is_supercritical, lesser_of, lesser_winds}

-- a round that is subcritical under p and supercritical above it
unfoldable pub turns_above : Length → ℕ → Member → Bool
turns_above t p (Flat w) = false
turns_above t p (Round d) = not (is_supercritical t p d) && is_supercritical t (p + 1) d

-- group i need not be worked out in its lesser wind p: that is at most a quarter of q, or came before
pub data Needless (t : Length) (q : ℕ) (gs : List Group) (i p : ℕ) : Type 0 where
  weak : 4 * p ≤ q → Needless t q gs i p
  seen : any_of (eqb p) (lesser_winds t q (take i gs)) ≡ true → Needless t q gs i p

-- group i has no lesser wind, or need not be worked out in it
pub data Covered (t : Length) (q : ℕ) (gs : List Group) (i : ℕ) : Type 0 where
  none : ((d : Group) → lesser_of t q (get_or gs i d).member ≡ []) → Covered t q gs i
  needless : {p : ℕ} → ((d : Group) → lesser_of t q (get_or gs i d).member ≡ p ∷ []) → Needless t q gs i p → Covered t q gs i

-- group i is to be worked out in its lesser wind p, which is not 0 and below q
pub record WorkedOut (t : Length) (q : ℕ) (gs : List Group) (i p : ℕ) : Type 0 where
  pub lesser : (d : Group) → lesser_of t q (get_or gs i d).member ≡ p ∷ []
  pub positive : 0 < p
  pub small : p < q

-- the wind that group i is to be worked out in, or none where it is covered
abbrev pub WindOf : Length → ℕ → List Group → ℕ → Option ℕ → Type 0
WindOf t q gs i None = Covered t q gs i
WindOf t q gs i (Some p) = WorkedOut t q gs i p
