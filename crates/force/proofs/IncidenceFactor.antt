-- The wind incidence factor as code works it out.
use mathlib.Core.Path.{◌≡◌, refl}
use Prim.Native.Nat.{ℕ, ◌+◌, ◌*◌, ◌-◌, ◌≤◌}
use native.Mathlib.Omega.{arith}
use native.Mathlib.Nat.{mul-le-mul, add_assoc}
use Rattle.model.specs.Force.{quarters, halves}
use Rattle.model.specs.declared.Legs.TheVariants.{Three, Four}
use Rattle.model.specs.declared.Areas.{Areas}
use Rattle.model.specs.Areas.{solid, largest_gross}
use Rattle.model.specs.WholeForm.{k2_num, rounds, incidence_num}

-- the products of Kθ on four legs fit a word
pub record Products (f r s u x j : ℕ) : Type 0 where
  pub face : s * u ≤ largest_gross * largest_gross
  pub turned : (11 * f + 16 * r) * x ≤ 2_400_000_000 * 750_000_000
  pub times : (11 * f + 16 * r) * x * j ≤ 2_400_000_000 * 750_000_000 * 4

pub products : (f r e x j : ℕ) → f + r + e ≤ largest_gross → x ≤ 750_000_000 → j ≤ 4 → Products f r (f + r) (f + r + e) x j
products f r e x j h hx hj =
    let a : (11 * f + 16 * r) * x ≤ 2_400_000_000 * 750_000_000 =
    mul-le-mul {n₁ = 11 * f + 16 * r} {m₁ = x} {n₂ = 2_400_000_000} {m₂ = 750_000_000} (omega arith) hx in
    record {
      face = mul-le-mul {n₁ = f + r} {m₁ = f + r + e} {n₂ = largest_gross} {m₂ = largest_gross} (omega arith) h;
      turned = a;
      times = mul-le-mul {n₁ = (11 * f + 16 * r) * x} {m₁ = j} {n₂ = 2_400_000_000 * 750_000_000} {m₂ = 4} a hj;
    }

-- Kθ by the legs
pub incidence_is_four : (k : ℕ) (a : Areas) (e : ℕ)
    → 400 * (a.flat.0 + rounds a) * (a.flat.0 + rounds a + e) + (11 * a.flat.0 + 16 * rounds a) * k2_num (a.flat.0 + rounds a) e * quarters k
    ≡ incidence_num Four k a e
unfolding incidence_num solid
incidence_is_four k a e = rw (add_assoc a.flat.0 a.subcritical.0 a.supercritical.0)

pub incidence_is_three : (k : ℕ) (a : Areas) (e : ℕ) → 20 * rounds a + a.flat.0 * (20 - halves k) ≡ incidence_num Three k a e
unfolding incidence_num
incidence_is_three k a e = refl
