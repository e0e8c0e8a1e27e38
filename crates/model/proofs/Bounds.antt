-- The largest numbers: of an item's part, of a section's areas, of an exact force, of a shear and of a moment.
use Prim.Native.Nat.{ℕ, ◌+◌, ◌*◌, ◌-◌, ◌≤◌, ◌<◌}
use mathlib.Core.Path.{◌≡◌, refl}
use mathlib.Core.Bool.{Bool, true, false, cond}
use native.Mathlib.Omega.{arith}
use native.Mathlib.Nat.{mul-le-mul, mul-le-mul_left, mul-le-mul_right}
use lib.Dec.{leb}
use Rattle.exact.specs.Fraction.{whole}
use Rattle.exact.specs.Rooted.{◌√≼◌}
use Rattle.exact.proofs.Arithmetic.{whole-proper}
use Rattle.exact.proofs.Compare.{same-sym, above_same}
use Rattle.exact.proofs.Surds.{number-defined, from-over}
use Rattle.model.specs.declared.Legs.{Legs}
use Rattle.model.specs.declared.Legs.TheVariants.{Three, Four}
use Rattle.model.specs.declared.Areas.{Areas}
use Rattle.model.specs.Areas.{solid, largest_gross}
use Rattle.model.specs.Force.{halves, largest_items, face_force, largest_force}
use Rattle.model.specs.WholeForm.{gross_of, k2_num, rounds, incidence_den, incidence_num, face_den, flat_num, subcritical_num, supercritical_num, face_num, whole_form}
use Rattle.model.proofs.Coefficients.{quarters-bound}
use Rattle.model.proofs.WholeForm.{face-whole}
use Rattle.model.proofs.FaceForce.{den-positive}

pub cond-bound : (b : Bool) {x y n : ℕ} → x ≤ n → y ≤ n → cond b x y ≤ n
cond-bound true h g = h
cond-bound false h g = g

-- K2 ≤ 1, Kθ ≤ 2
k2-bound : (S e : ℕ) → k2_num S e ≤ 5 * (S + e)
unfolding k2_num
k2-bound S e =
    cond-bound (leb (4 * S) e) (omega arith) (cond-bound (leb (4 * e) S) (omega arith) (cond-bound (leb S e) (omega arith) (omega arith)))

incidence-four : (f r S U x j : ℕ) → f + r ≡ S → x ≤ 5 * U → j ≤ 4 → 400 * S * U + (11 * f + 16 * r) * x * j ≤ 2 * (400 * S * U)
incidence-four f r S U x j e hx hj =
    let a : 11 * f + 16 * r ≤ 16 * S = omega arith in
    let b : (11 * f + 16 * r) * x ≤ 16 * S * (5 * U) = mul-le-mul a hx in
    let c : (11 * f + 16 * r) * x * j ≤ 16 * S * (5 * U) * 4 = mul-le-mul b hj in
    omega arith

pub incidence-bound : (l : Legs) (k : ℕ) (a : Areas) (e : ℕ) → incidence_num l k a e ≤ 2 * incidence_den l (solid a).0 e
unfolding incidence_num incidence_den solid
incidence-bound Four k a e = incidence-four a.flat.0 (rounds a) _ _ _ _ (omega arith) (k2-bound _ e) (quarters-bound k)
incidence-bound Three k a e =
    let h : a.flat.0 * (20 - halves k) ≤ a.flat.0 * 20 = mul-le-mul_left a.flat.0 (omega arith) in
    omega arith

-- c_f, c_c and 1.9 are at most 4
flat-bound : (l : Legs) (S e : ℕ) → flat_num l S e ≤ 4 * face_den l (S + e)
unfolding flat_num face_den
flat-bound Four S e = omega arith
flat-bound Three S e = omega arith

sub-bound : (l : Legs) (S e : ℕ) → subcritical_num l S e ≤ 4 * face_den l (S + e)
unfolding subcritical_num face_den
sub-bound Four S e = omega arith
sub-bound Three S e = omega arith

super-bound : (l : Legs) (U : ℕ) → supercritical_num l U ≤ 4 * face_den l U
unfolding supercritical_num face_den
super-bound Four U = omega arith
super-bound Three U = omega arith

solid-is : (a : Areas) → a.flat.0 + a.subcritical.0 + a.supercritical.0 ≡ (solid a).0
unfolding solid
solid-is a = refl

shares : (x y z b f c p S : ℕ) → x ≤ b → y ≤ b → z ≤ b → f + c + p ≡ S → x * f + y * c + z * p ≤ b * S
shares x y z b f c p S hx hy hz h =
    let i : x * f ≤ b * f = mul-le-mul_right f hx in
    let j : y * c ≤ b * c = mul-le-mul_right c hy in
    let k : z * p ≤ b * p = mul-le-mul_right p hz in
    rw (← h) (omega arith)

pub face-bound : (l : Legs) (a : Areas) (e : ℕ) → face_num l a e ≤ 4 * face_den l ((solid a).0 + e) * (solid a).0
unfolding face_num
face-bound l a e =
    shares (flat_num l (solid a).0 e) (subcritical_num l (solid a).0 e) (supercritical_num l ((solid a).0 + e)) _ _ _ _ (solid a).0
    (flat-bound l (solid a).0 e) (sub-bound l (solid a).0 e) (super-bound l ((solid a).0 + e)) (solid-is a)

largest : (t turn f face S h items load : ℕ) → turn ≤ 2 * t → face ≤ 4 * f * S → h ≡ t * f → S ≤ largest_gross → items ≤ largest_items → load ≤ 10_000_000
    → load * (turn * face * 1_000_000 + items * h) ≤ largest_force * (h * 1_000_000_000_000_000)
largest t turn f face S h items load ht hf eh hS hi hl =
    let a : turn * face ≤ 2 * t * (4 * f * S) = mul-le-mul ht hf in
    let b : 2 * t * (4 * f * S) ≡ 8 * (t * f * S) = omega arith in
    let c : t * f * S ≤ t * f * largest_gross = mul-le-mul_left (t * f) hS in
    let d : items * (t * f) ≤ largest_items * (t * f) = mul-le-mul_right (t * f) hi in
    let x : turn * face * 1_000_000 + items * (t * f) ≤ (8_000_000 * largest_gross + largest_items) * (t * f) = omega arith in
    let y : load * (turn * face * 1_000_000 + items * (t * f)) ≤ 10_000_000 * ((8_000_000 * largest_gross + largest_items) * (t * f)) = mul-le-mul hl x in
    rw eh (omega arith)

module _ (l : Legs) (k factor q : ℕ) (a : Areas) (e items : ℕ) where
  pub num-bound : (solid a).0 + e ≤ largest_gross → q ≤ 5000 → factor ≤ 2000 → items ≤ largest_items
      → (whole_form l k factor q a e items).num ≤ largest_force * (whole_form l k factor q a e items).den
  unfolding whole_form
  num-bound hu hq hf hi =
      let load : q * factor ≤ 5000 * 2000 = mul-le-mul {n₂ = 5000} {m₂ = 2000} hq hf in
      largest (incidence_den l (solid a).0 e) (incidence_num l k a e) (face_den l ((solid a).0 + e)) (face_num l a e) (solid a).0 _ items (q * factor)
      (incidence-bound l k a e) (face-bound l a e) refl (omega arith) hi load

  -- the force on a face is at most `largest_force`
  pub face-force-bound : 0 < (solid a).0 → (solid a).0 + e ≤ largest_gross → q ≤ 5000 → factor ≤ 2000 → items ≤ largest_items
      → face_force l k factor q (gross_of a e) a items √≼ whole largest_force
  face-force-bound hs hu hq hf hi =
      let d : _ = den-positive l k factor q a e items hs in
      above_same (number-defined _ d) (same-sym (face-whole l k factor q a e items)) (whole largest_force) (whole-proper _)
      (from-over _ d largest_force (num-bound hu hq hf hi))
