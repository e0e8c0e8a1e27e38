-- What a line is, by its length and its first two bytes.
use Prim.Native.Nat.{ℕ, ◌<◌, ◌≤◌}
use mathlib.Core.Path.{◌≡◌, refl}
use mathlib.Core.List.{List, [], ◌∷◌}
use native.Mathlib.Omega.{arith}
use lib.ListN.{length, get_or}
use borrow.Author.Tests.{eq-eqb, ne_eqb}
use Rattle.std.specs.Prelude.{None}
use Rattle.file_cases.specs.Cases.{kind_byte, kind_in}

pub nothing : (s : List ℕ) → length s < 1 → None ≡ kind_in s
unfolding kind_in
nothing [] h = refl
nothing (b ∷ s) h = absurd (omega arith)

pub alone : (s : List ℕ) → length s ≡ 1 → kind_byte (get_or s 0 0) ≡ kind_in s
unfolding kind_in
alone [] h = absurd (omega arith)
alone (b ∷ []) h = refl
alone (b ∷ space ∷ s) h = absurd (omega arith)

pub spaced : (s : List ℕ) → 2 ≤ length s → get_or s 1 0 ≡ 32 → kind_byte (get_or s 0 0) ≡ kind_in s
unfolding kind_in
spaced [] h e = absurd (omega arith)
spaced (b ∷ []) h e = absurd (omega arith)
spaced (b ∷ space ∷ s) h e = rw (eq-eqb space 32 e)

pub joined-on : (s : List ℕ) → 2 ≤ length s → (get_or s 1 0 ≡ 32 → ⊥) → None ≡ kind_in s
unfolding kind_in
joined-on [] h e = absurd (omega arith)
joined-on (b ∷ []) h e = absurd (omega arith)
joined-on (b ∷ space ∷ s) h e = rw (ne_eqb space 32 e)

pub ruleset letters = (nothing, alone, spaced, joined-on)
