-- The examples of the topmost section over: forces and shears by computing, and the rest from them.
use Prim.Native.Nat.{ℕ, ◌+◌}
use mathlib.Core.Path.{◌≡◌, refl, ap}
use mathlib.Core.Bool.{Bool}
use native.Mathlib.Omega.{arith}
use lib.Dec.{lit<}
use Rattle.exact.specs.Fraction.{◌//◌, whole, ◌⊕◌, ◌⊖◌, ◌·◌, ◌≼ᵇ◌}
use Rattle.exact.specs.Rooted.{◌⊞◌, ◌⊙◌, square, ◌√≼ᵇ◌}
use Rattle.exact.specs.Number.{Sound, at_leastᵇ}
use Rattle.exact.proofs.Greatest.{sound-only}
use Rattle.exact.proofs.Ceiling.{ceiling-tested}
use Rattle.units.specs.declared.Force.{Force}
use Rattle.model.specs.Lists.{sum_by, joined}
use Rattle.model.specs.Areas.{group_area, item_area, gross, flow_of, area_in, areas_of, solid, lesser_of, lesser_winds}
use Rattle.model.specs.Force.{m², solidity, C1, C2, c_f, c_c, c_p, K1, K2, quarters, halves, s, Kθ, coefficient, item_part, item_sum, resistance, face_force, formula, exact_force}
use Rattle.model.specs.Report.{section_at, exact_at, force_at, shear, exceeds, TopmostOver}
use Rattle.model.specs.Examples.{plain_tower, three_allowing, three_pressed}
use Rattle.model.proofs.Moments.{shear-none, shear-more}
use Rattle.model.proofs.Says.{none_more}

-- the force on each section, whatever the allowances: 7 032.96 N, and so 7 033
module _ (a b c : ℕ) where
  abbrev force : ℕ → Force
  force = force_at (three_allowing a b c) three_pressed

  forces : ((force 0).0 ≡ 7033) × ((force 1).0 ≡ 7033) × ((force 2).0 ≡ 7033)
  unfolding ◌//◌ whole ◌⊕◌ ◌⊖◌ ◌·◌ ◌≼ᵇ◌ ◌⊞◌ ◌⊙◌ square ◌√≼ᵇ◌ at_leastᵇ sum_by joined group_area item_area gross flow_of area_in areas_of solid lesser_of lesser_winds m² solidity C1 C2 c_f c_c c_p K1 K2 quarters halves s Kθ coefficient item_part item_sum resistance face_force formula exact_force exact_at plain_tower three_allowing three_pressed force_at
  forces =
      let sound : Sound (exact_at (three_allowing a b c) three_pressed 0) =
      sound-only
      (record { rational = record { positive = lit< tt }; factor = record { positive = lit< tt }; radicand = record { positive = lit< tt } }) in
      (ceiling-tested sound 7032 refl refl, ceiling-tested sound 7032 refl refl, ceiling-tested sound 7032 refl refl)

  shears : ((shear force 1).0 ≡ 7033) × ((shear force 2).0 ≡ 14_066) × ((shear force 3).0 ≡ 21_099)
  shears =
      let one : (shear force 1).0 ≡ 7033 = omega (arith, shear-none force, shear-more force 0, forces.0) in
      let two : (shear force 2).0 ≡ 14_066 = omega (arith, one, shear-more force 1, forces.1) in
      (one, two, omega (arith, two, shear-more force 2, forces.2))

  -- whether section i exceeds its allowance
  exceeding : ℕ → Bool
  exceeding i = exceeds (shear force (i + 1)) (section_at (three_allowing a b c) i).allowance

  are : (exceeding 0 ≡ exceeds (record { 0 = 7033 }) (record { 0 = a }))
      × (exceeding 1 ≡ exceeds (record { 0 = 14_066 }) (record { 0 = b })) × (exceeding 2 ≡ exceeds (record { 0 = 21_099 }) (record { 0 = c }))
  unfolding exceeding three_allowing
  are = (
    ap (λ (n : ℕ). exceeds (record { 0 = n }) (record { 0 = a })) shears.0,
    ap (λ (n : ℕ). exceeds (record { 0 = n }) (record { 0 = b })) shears.1,
    ap (λ (n : ℕ). exceeds (record { 0 = n }) (record { 0 = c })) shears.2,
  )

pub of_three : TopmostOver (three_allowing 7032 14_065 21_098) three_pressed 0
unfolding exceeds exceeding three_allowing
of_three = record { is-over = record { section = lit< tt; over = (are 7032 14_065 21_098).0 }; none_above = λ j k. absurd (omega arith) }

pub stated : TopmostOver (three_allowing 0 14_065 21_098) three_pressed 1
unfolding exceeds exceeding three_allowing
stated =
    let e : _ = are 0 14_065 21_098 in
    record {
      is-over = record { section = lit< tt; over = e.1 };
      none_above = λ j k. none_more 0 (λ n h. absurd (omega arith)) e.0 j (omega (arith, k));
    }

pub exceeded : TopmostOver (three_allowing 7033 14_066 21_098) three_pressed 2
unfolding exceeds exceeding three_allowing
exceeded =
    let e : _ = are 7033 14_066 21_098 in
    record {
      is-over = record { section = lit< tt; over = e.2 };
      none_above = λ j k. none_more 1 (none_more 0 (λ n h. absurd (omega arith)) e.0) e.1 j (omega (arith, k));
    }
