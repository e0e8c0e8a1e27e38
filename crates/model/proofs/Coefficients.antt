-- The coefficients of the exact force over whole numbers, with S = A_S, e the open area and U = S + e.
use Prim.Native.Nat.{ℕ, ◌+◌, ◌*◌, ◌-◌, ◌%◌, ◌≤◌}
use mathlib.Core.Path.{◌≡◌, refl, ap}
use mathlib.Core.List.{[], ◌∷◌}
use mathlib.Core.Logic.{⊎_elim}
use native.Mathlib.Omega.{arith}
use lib.Dec.{leb}
use borrow.Author.Tests.{leb-true, le-leb, lt-leb}
use Rattle.exact.specs.Fraction.{Fraction, ◌//◌, whole, ◌⊕◌, ◌⊖◌, ◌·◌, ◌≼ᵇ◌}
use Rattle.exact.proofs.Order.{le-or-lt}
use Rattle.exact.proofs.Value.{Is, ·-is, //-is, one-plus, re-is}
use Rattle.model.specs.declared.Legs.{Legs}
use Rattle.model.specs.declared.Legs.TheVariants.{Three, Four}
use Rattle.model.specs.declared.Areas.{Areas}
use Rattle.model.specs.Areas.{solid}
use Rattle.model.specs.Force.{C1, C2, c_f, c_c, c_p, K1, K2, quarters, halves, s, Kθ}
use Rattle.model.specs.WholeForm.{k2_num, rounds, incidence_den, incidence_num, face_den, flat_num, subcritical_num, supercritical_num}
use Rattle.model.proofs.Lists.{get_or-all}

-- the leaves: t is what the whole-number form has
module _ (S U t : ℕ) where
  flat-four : t + 1188 * (U * S) ≡ 792 * (U * U) + 792 * (S * S) → Is (c_f Four (S // U)) t (200 * (U * U))
  unfolding c_f C1 C2 whole ◌//◌ ◌·◌ ◌⊕◌ ◌⊖◌
  flat-four h = let g : _ = ap (λ (z : ℕ). z * (U * U * U)) h in omega arith

  flat-three : t + 23_408 * (U * S) ≡ 16_720 * (U * U) + 16_720 * (S * S) → Is (c_f Three (S // U)) t (5000 * (U * U))
  unfolding c_f C1 C2 whole ◌//◌ ◌·◌ ◌⊕◌ ◌⊖◌
  flat-three h = let g : _ = ap (λ (z : ℕ). z * (U * U * U)) h in omega arith

  sub-four : t + 675 * (U * S) ≡ 450 * (U * U) + 625 * (S * S) → Is (c_c Four (S // U)) t (200 * (U * U))
  unfolding c_c C1 C2 whole ◌//◌ ◌·◌ ◌⊕◌ ◌⊖◌
  sub-four h = let g : _ = ap (λ (z : ℕ). z * (U * U * U)) h in omega arith

  sub-three : t + 13_300 * (U * S) ≡ 9500 * (U * U) + 13_875 * (S * S) → Is (c_c Three (S // U)) t (5000 * (U * U))
  unfolding c_c C1 C2 whole ◌//◌ ◌·◌ ◌⊕◌ ◌⊖◌
  sub-three h = let g : _ = ap (λ (z : ℕ). z * (U * U * U)) h in omega arith

  root-four : t + 200 * (S * S) ≡ 47 * (U * U) + 153 * (U * S) → Is (c_p Four (S // U)).radicand t (200 * (U * U))
  unfolding c_p C1 C2 whole ◌//◌ ◌·◌ ◌⊕◌ ◌⊖◌
  root-four h = let g : _ = ap (λ (z : ℕ). z * (U * U)) h in omega arith

  root-three : t + 500 * (S * S) ≡ 317 * (U * U) + 183 * (U * S) → Is (c_p Three (S // U)).radicand t (500 * (U * U))
  unfolding c_p C1 C2 whole ◌//◌ ◌·◌ ◌⊕◌ ◌⊖◌
  root-three h = let g : _ = ap (λ (z : ℕ). z * (U * U)) h in omega arith

pub flat-is : (l : Legs) (S e : ℕ) → Is (c_f l (S // (S + e))) (flat_num l S e) (face_den l (S + e))
unfolding flat_num face_den
flat-is Four S e = flat-four S (S + e) _ (omega arith)
flat-is Three S e = flat-three S (S + e) _ (omega arith)

pub sub_is : (l : Legs) (S e : ℕ) → Is (c_c l (S // (S + e))) (subcritical_num l S e) (face_den l (S + e))
unfolding subcritical_num face_den
sub_is Four S e = sub-four S (S + e) _ (omega arith)
sub_is Three S e = sub-three S (S + e) _ (omega arith)

pub super-is : (l : Legs) (φ : Fraction) (U : ℕ) → Is (c_p l φ).rational (supercritical_num l U) (face_den l U)
unfolding c_p ◌//◌ supercritical_num face_den
super-is Four φ U = omega arith
super-is Three φ U = omega arith

-- what stands under the root, as (open_num / root_den)
unfoldable pub open_num : Legs → ℕ → ℕ → ℕ
open_num Four S e = e * (247 * S + 47 * e)
open_num Three S e = e * (817 * S + 317 * e)

unfoldable pub root_den : Legs → ℕ → ℕ
root_den Four U = 200 * (U * U)
root_den Three U = 500 * (U * U)

pub root_is : (l : Legs) (S e : ℕ) → Is (c_p l (S // (S + e))).radicand (open_num l S e) (root_den l (S + e))
unfolding open_num root_den
root_is Four S e = root-four S (S + e) _ (omega arith)
root_is Three S e = root-three S (S + e) _ (omega arith)

-- Kθ
K1-is : (a : Areas) → Is (K1 a) (11 * a.flat.0 + 16 * rounds a) (20 * (solid a).0)
unfolding K1 solid whole ◌//◌ ◌·◌ ◌⊕◌
K1-is a = omega arith

K2-is : (S e : ℕ) → Is (K2 (S // (S + e))) (k2_num S e) (5 * (S + e))
unfolding K2 k2_num ◌≼ᵇ◌ ◌//◌ whole ◌⊖◌
K2-is S e =
    ⊎_elim
    (λ h. simp (le-leb (4 * S) e h, le-leb (S * 10 + 0 * (S + e)) (2 * (S + e) + 0 * 10) (omega arith)) (omega arith))
    (λ h.
    let t1 : _ = lt-leb (4 * S) e h in
    let t2 : _ = lt-leb (S * 10 + 0 * (S + e)) (2 * (S + e) + 0 * 10) (omega arith) in
    ⊎_elim
    (λ g. simp (t1, t2, le-leb (4 * e) S g, le-leb (8 * (S + e) + 0 * 10) (S * 10 + 0 * (S + e)) (omega arith)) (omega arith))
    (λ g.
    let t3 : _ = lt-leb (4 * e) S g in
    let t4 : _ = lt-leb (8 * (S + e) + 0 * 10) (S * 10 + 0 * (S + e)) (omega arith) in
    ⊎_elim
    (λ f. simp (t1, t2, t3, t4, le-leb S e f, le-leb (S * 10 + 0 * (S + e)) (5 * (S + e) + 0 * 10) (omega arith)) (omega arith))
    (λ f. simp (t1, t2, t3, t4, lt-leb S e f, lt-leb (S * 10 + 0 * (S + e)) (5 * (S + e) + 0 * 10) (omega arith)) (omega arith))
    (le-or-lt S e))
    (le-or-lt (4 * e) S))
    (le-or-lt (4 * S) e)

-- the tables' entries
pub quarters-bound : (k : ℕ) → quarters k ≤ 4
unfolding quarters
quarters-bound k = leb-true _ _ (get_or-all (λ n. leb n 4) (0 ∷ 1 ∷ 3 ∷ 4 ∷ 3 ∷ 1 ∷ []) (k % 6) 0 refl refl)

pub halves-bound : (k : ℕ) → halves k ≤ 2
unfolding halves
halves-bound k = leb-true _ _ (get_or-all (λ n. leb n 2) (0 ∷ 0 ∷ 1 ∷ 0 ∷ 2 ∷ 0 ∷ 1 ∷ 0 ∷ []) (k % 8) 0 refl refl)

incidence-by : (f r S j i : ℕ) → j + i ≡ 20 → Is (r // S ⊕ f // S · (whole 1 ⊖ 1 // 10 · (j // 2))) (20 * r + f * i) (20 * S)
unfolding whole ◌//◌ ◌⊕◌ ◌·◌ ◌⊖◌
incidence-by f r S j i h = let g : _ = ap (λ (z : ℕ). z * (f * S * S)) h in omega arith

incidence-three : (f r S j : ℕ) → j ≤ 2 → Is (r // S ⊕ f // S · (whole 1 ⊖ 1 // 10 · (j // 2))) (20 * r + f * (20 - j)) (20 * S)
incidence-three f r S j h = incidence-by f r S j (20 - j) (omega arith)

pub incidence-is : (l : Legs) (k e : ℕ) (a : Areas)
    → Is (Kθ l k ((solid a).0 // ((solid a).0 + e)) a) (incidence_num l k a e) (incidence_den l (solid a).0 e)
unfolding Kθ s incidence_num incidence_den
incidence-is Four k e a =
    re-is (omega arith) (omega arith) (one-plus (·-is (·-is (K1-is a) (K2-is (solid a).0 e)) (//-is (quarters k) 4)))
incidence-is Three k e a = incidence-three a.flat.0 (rounds a) (solid a).0 (halves k) (halves-bound k)
