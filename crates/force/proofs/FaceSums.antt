-- The coefficients of a face as code works them out.
use mathlib.Core.Path.{◌≡◌, refl}
use Prim.Native.Nat.{ℕ, ◌+◌, ◌*◌, ◌^◌, ◌≤◌, ◌<◌}
use native.Mathlib.Omega.{arith}
use native.Mathlib.Nat.{mul-le-mul, mul-le-mul_right, add-le-add, lt_of_le_of_lt}
use borrow.Author.Tests.{leb-true}
use Rattle.model.specs.declared.Legs.TheVariants.{Three}
use Rattle.model.specs.Areas.{largest_gross}
use Rattle.model.specs.WholeForm.{incidence_den, face_den}

-- the terms of a quadratic, with A_u at most 15 m by 10 m
pub record Terms (a b c s e : ℕ) : Type 0 where
  pub squares : s * s + s * e + e * e ≤ 22_500_000_000_000_000
  pub first : a * (s * s) ≤ 403 * (s * s)
  pub second : b * (s * e) ≤ 403 * (s * e)
  pub third : c * (e * e) ≤ 403 * (e * e)

pub terms : (a b c s e : ℕ) → a ≤ 403 → b ≤ 403 → c ≤ 403 → s + e ≤ largest_gross → Terms a b c s e
terms a b c s e ha hb hc h =
    let u : (s + e) * (s + e) ≤ largest_gross * largest_gross = mul-le-mul {n₁ = s + e} {m₁ = s + e} {n₂ = largest_gross} {m₂ = largest_gross} h h in
    record {
      squares = omega arith;
      first = mul-le-mul_right (s * s) ha;
      second = mul-le-mul_right (s * e) hb;
      third = mul-le-mul_right (e * e) hc;
    }

-- a product of words
pub words_fit : (x y : ℕ) → x < 2 ^ 64 → y < 2 ^ 64 → x * y < 2 ^ 128
words_fit x y hx hy = omega (arith, mul-le-mul {n₁ = x} {m₁ = y} {n₂ = 18_446_744_073_709_551_615} {m₂ = 18_446_744_073_709_551_615} (omega arith) (omega arith))

-- of areas of a face
pub areas-fit : (x y : ℕ) → x ≤ largest_gross → y ≤ largest_gross → x * y ≤ largest_gross * largest_gross
areas-fit x y hx hy = mul-le-mul {n₁ = x} {m₁ = y} {n₂ = largest_gross} {m₂ = largest_gross} hx hy

-- a product of a word and of 62 bits
pub word-62 : (x y : ℕ) → x < 2 ^ 64 → y < 2 ^ 62 → x * y ≤ 2 ^ 126
word-62 x y hx hy = mul-le-mul {n₁ = x} {m₁ = y} {n₂ = 2 ^ 64} {m₂ = 2 ^ 62} (omega arith) (omega arith)

pub two-fit : (x x1 y y1 : ℕ) → x < 2 ^ 64 → x1 < 2 ^ 62 → y < 2 ^ 64 → y1 < 2 ^ 62 → x * x1 + y * y1 < 2 ^ 128
two-fit x x1 y y1 hx hx1 hy hy1 = lt_of_le_of_lt (add-le-add (word-62 x x1 hx hx1) (word-62 y y1 hy hy1)) (leb-true (2 ^ 127 + 1) (2 ^ 128) refl)

pub three-fit : (x x1 y y1 z z1 : ℕ) → x < 2 ^ 64 → x1 < 2 ^ 62 → y < 2 ^ 64 → y1 < 2 ^ 62 → z < 2 ^ 64 → z1 < 2 ^ 62 → x * x1 + y * y1 + z * z1 < 2 ^ 128
three-fit x x1 y y1 z z1 hx hx1 hy hy1 hz hz1 =
    lt_of_le_of_lt (add-le-add (add-le-add (word-62 x x1 hx hx1) (word-62 y y1 hy hy1)) (word-62 z z1 hz hz1)) (leb-true (2 ^ 127 + 2 ^ 126 + 1) (2 ^ 128) refl)

-- a face's sum in millionths, from the products that code forms
pub in-millionths : (x y u f c p i j k : ℕ) → x * (i * 1_000_000 * f) + y * (j * 1_000_000 * c) + u * (k * 1_000_000 * p) ≡ (i * x * f + j * y * c + k * u * p) * 1_000_000
in-millionths x y u f c p i j k = omega arith

-- the divisor
pub divisor_fits : (s u : ℕ) → s ≤ largest_gross → u ≤ largest_gross → 400 * s * u * (200 * (u * u)) < 2 ^ 128
divisor_fits s u hs hu = words_fit (400 * s * u) (200 * (u * u)) (omega (arith, areas-fit s u hs hu)) (omega (arith, areas-fit u u hu hu))

pub divisor_three : (s e : ℕ) → 20 * s * (s + e) * (5000 * (s + e)) ≡ incidence_den Three s e * face_den Three (s + e)
unfolding incidence_den face_den
divisor_three s e = regroup (s + e)
  where
    regroup : (u : ℕ) → 20 * s * u * (5000 * u) ≡ 20 * s * (5000 * (u * u))
    regroup u = omega arith
