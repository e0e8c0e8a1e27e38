-- Pressures of 2 bytes each, high byte first.
use Prim.Native.Nat.{ℕ, zero, suc, ◌+◌, ◌*◌}
use mathlib.Core.Path.{◌≡◌, refl, ap, subst}
use mathlib.Core.List.{List, [], ◌∷◌, map}
use native.Mathlib.Omega.{arith}
use lib.ListN.{length, get_or}
use borrow.Author.Tests.{eq-eqb, ne_eqb}
use Rattle.std.proofs.Common.{◌/◌}
use Rattle.std.specs.Simd.{first_chunks}
use Rattle.model.specs.Answers.{Reply}
use Rattle.model.specs.Calls.{wind}
use Rattle.model.specs.Host.{pressures_of}
use Rattle.slots.specs.Held.{Slots}
use Rattle.slots.specs.Promises.{Meets, wind_asked}
use Rattle.host.specs.Promises.{pressures_asked}

-- the pressure of a pair
abbrev pub pressure : List ℕ → ℕ
pressure pair = get_or pair 0 0 * 256 + get_or pair 1 0

-- a byte alone is none
pub by_pairs : (n : ℕ) (bytes : List ℕ) → n ≡ length bytes / 2 → map pressure (first_chunks 2 n bytes) ≡ pressures_of bytes
unfolding pressures_of
by_pairs zero [] e = refl
by_pairs zero (a ∷ []) e = refl
by_pairs zero (a ∷ (b ∷ rest)) e = absurd (omega arith)
by_pairs (suc n) [] e = absurd (omega arith)
by_pairs (suc n) (a ∷ []) e = absurd (omega arith)
by_pairs (suc n) (a ∷ (b ∷ rest)) e = ap (λ (l : List ℕ). (a * 256 + b) ∷ l) (by_pairs n rest (omega arith))

-- wind with the pressures that it is given
module _ (k ice factor : ℕ) (l after : Slots) (r : Reply) (n : ℕ) (ps : List ℕ) where
  abbrev Given : List ℕ → Type 0
  Given qs = Meets (wind (wind_asked k ice factor qs)) l after r qs

  pub asked-none : (length ps ≡ 2 * n → ⊥) → Given [] → Given (pressures_asked n ps)
  asked-none h t = rw (ne_eqb (length ps) (2 * n) h) t

  pub asked-all : {qs : List ℕ} → length ps ≡ 2 * n → qs ≡ pressures_of ps → Given qs → Given (pressures_asked n ps)
  asked-all h e t = rw (eq-eqb (length ps) (2 * n) h) (subst Given e t)
