-- Tests joined by && and ||, taken apart and put together.
use mathlib.Core.Path.{◌≡◌, refl, sym, ◌∙◌}
use mathlib.Core.Bool.{Bool, true, false, not, ◌&&◌, ◌||◌, true≢false}
use borrow.Author.Tests.{not-true, not-false}

pub clash : {b : Bool} → b ≡ true → b ≡ false → ⊥
clash p q = true≢false (sym p ∙ q)

pub and_split : (a b : Bool) → (a && b) ≡ true → (a ≡ true) × (b ≡ true)
and_split true b h = (refl, h)
and_split false b h = absurd (true≢false (sym h))

pub and-rest : (a b : Bool) → a ≡ true → (a && b) ≡ false → b ≡ false
and-rest true b h g = g
and-rest false b h g = absurd (true≢false (sym h))

pub and-join : {a b : Bool} → a ≡ true → b ≡ true → (a && b) ≡ true
and-join h g = rw (h, g)

pub or_split : (a b : Bool) → (a || b) ≡ false → (a ≡ false) × (b ≡ false)
or_split true b h = absurd (true≢false h)
or_split false b h = (refl, h)

pub or-join : {a b : Bool} → a ≡ false → b ≡ false → (a || b) ≡ false
or-join h g = rw (h, g)

-- what a test of a function's answer tells
pub passed : {r x : Bool} → r ≡ x → not r ≡ false → x ≡ true
passed {r} e h = sym e ∙ not-false r h

pub failed : {r x : Bool} → r ≡ x → not r ≡ true → x ≡ false
failed {r} e h = sym e ∙ not-true r h
