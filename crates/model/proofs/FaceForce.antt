-- The force on a face with 0 < A_S ≤ A_u is a number and is not negative.
use Prim.Native.Nat.{ℕ, suc, ◌+◌, ◌*◌, ◌≤◌, ◌<◌}
use mathlib.Core.Path.{◌≡◌, refl}
use mathlib.Core.Bool.{Bool, true, false, cond}
use native.Mathlib.Omega.{arith}
use native.Mathlib.Nat.{mul-pos, mul-le-mul, mul-le-mul_left, le_trans, le_of_eq}
use Rattle.units.specs.declared.Area.{Area}
use Rattle.exact.specs.Fraction.{Fraction, ◌//◌, whole, ◌≼ᵇ◌, Proper}
use Rattle.exact.specs.Rooted.{◌≼√◌, Defined}
use Rattle.exact.proofs.Arithmetic.{·-proper, ⊕-proper, ⊖-proper, //-proper, whole-proper}
use Rattle.exact.proofs.Compare.{⊞-defined, ⊙-defined, same-sym, below-same}
use Rattle.exact.proofs.Surds.{number-defined, number-nonneg}
use Rattle.model.specs.declared.Legs.{Legs}
use Rattle.model.specs.declared.Legs.TheVariants.{Three, Four}
use Rattle.model.specs.declared.Areas.{Areas}
use Rattle.model.specs.Areas.{solid}
use Rattle.model.specs.Force.{m², solidity, C1, C2, c_f, c_c, c_p, K1, K2, s, Kθ, resistance, face_force}
use Rattle.model.specs.WholeForm.{gross_of, incidence_den, incidence_num, face_den, supercritical_num, face_num, root_num, whole_form}
use Rattle.model.proofs.WholeForm.{face-whole}

-- no denominator is 0
lit : (n d : ℕ) → Proper (n // suc d)
lit n d = //-proper n (suc d) (omega arith)

C1-proper : (l : Legs) → Proper (C1 l)
unfolding C1
C1-proper Four = lit 225 99
C1-proper Three = lit 19 9

C2-proper : (l : Legs) → Proper (C2 l)
unfolding C2
C2-proper Four = lit 15 9
C2-proper Three = lit 14 9

cond-proper : (b : Bool) {x y : Fraction} → Proper x → Proper y → Proper (cond b x y)
cond-proper true c d = c
cond-proper false c d = d

K2-proper : (φ : Fraction) → Proper φ → Proper (K2 φ)
unfolding K2
K2-proper φ c =
    cond-proper (φ ≼ᵇ 2 // 10) (lit 2 9)
    (cond-proper (8 // 10 ≼ᵇ φ) (lit 2 9) (cond-proper (φ ≼ᵇ 5 // 10) c (⊖-proper _ _ (whole-proper 1) c)))

K1-proper : (a : Areas) → 0 < (solid a).0 → Proper (K1 a)
unfolding K1
K1-proper a d =
    ·-proper _ _ (⊕-proper _ _ (·-proper _ _ (lit 55 99) (whole-proper _)) (·-proper _ _ (lit 8 9) (whole-proper _)))
    (//-proper 1 _ d)

incidence-proper : (l : Legs) (k : ℕ) (a : Areas) (φ : Fraction) → Proper φ → 0 < (solid a).0 → Proper (Kθ l k φ a)
unfolding Kθ s
incidence-proper Four k a φ c d =
    ⊕-proper _ _ (whole-proper 1) (·-proper _ _ (·-proper _ _ (K1-proper a d) (K2-proper φ c)) (lit _ 3))
incidence-proper Three k a φ c d =
    ⊕-proper _ _ (//-proper _ _ d)
    (·-proper _ _ (//-proper _ _ d) (⊖-proper _ _ (whole-proper 1) (·-proper _ _ (lit 1 9) (lit _ 1))))

module _ (l : Legs) (φ : Fraction) (c : Proper φ) where
  c-f-proper : Proper (c_f l φ)
  unfolding c_f
  c-f-proper =
      ·-proper _ _ (·-proper _ _ (lit 176 99) (C1-proper l))
      (⊕-proper _ _ (⊖-proper _ _ (whole-proper 1) (·-proper _ _ (C2-proper l) c)) (·-proper _ _ c c))

  c-c-proper : Proper (c_c l φ)
  unfolding c_c
  c-c-proper =
      ⊕-proper _ _ (·-proper _ _ (C1-proper l) (⊖-proper _ _ (whole-proper 1) (·-proper _ _ (C2-proper l) c)))
      (·-proper _ _ (⊕-proper _ _ (C1-proper l) (lit 875 999)) (·-proper _ _ c c))

  c-p-defined : Defined (c_p l φ)
  unfolding c_p
  c-p-defined =
      record {
        rational = lit 19 9;
        factor = whole-proper 1;
        radicand =
            ·-proper _ _ (⊖-proper _ _ (whole-proper 1) c)
            (⊕-proper _ _ (⊖-proper _ _ (lit 28 9) (·-proper _ _ (lit 114 99) (C1-proper l))) c);
      }

m²-proper : (a : Area) → Proper (m² a)
unfolding m²
m²-proper a = lit _ 999_999

pub resistance-defined : (l : Legs) (k : ℕ) (u : Area) (a : Areas) (items : ℕ) → 0 < u.0 → 0 < (solid a).0 → Defined (resistance l k u a items)
unfolding resistance solidity
resistance-defined l k u a items hu hs =
    let c : Proper ((solid a).0 // u.0) = //-proper _ _ hu in
    ⊞-defined (lit _ 999_999_999_999)
    (⊙-defined (incidence-proper l k a _ c hs)
    (⊞-defined
    (⊕-proper _ _ (·-proper _ _ (c-f-proper l _ c) (m²-proper a.flat)) (·-proper _ _ (c-c-proper l _ c) (m²-proper a.subcritical)))
    (⊙-defined (m²-proper a.supercritical) (c-p-defined l _ c))))

pub face-defined : (l : Legs) (k factor q : ℕ) (u : Area) (a : Areas) (items : ℕ) → 0 < u.0 → 0 < (solid a).0 → Defined (face_force l k factor q u a items)
unfolding face_force
face-defined l k factor q u a items hu hs = ⊙-defined (·-proper _ _ (whole-proper q) (lit _ 999)) (resistance-defined l k u a items hu hs)

-- not negative: the root takes away at most 1.9 A_p
pub nonneg-law : (A p U N c top : ℕ) → N ≤ c * c * (U * U) → A * (c * (U * U) * p) ≤ top → A * p * U * (A * p * U) * N ≤ top * top
nonneg-law A p U N c top h g =
    let k : _ = mul-le-mul_left (A * p * U * (A * p * U)) h in
    let m : _ = mul-le-mul g g in
    le_trans k (le_trans (le_of_eq (omega arith)) m)

super_scale : Legs → ℕ
super_scale Four = 380
super_scale Three = 9500

super-scale : (l : Legs) (U : ℕ) → supercritical_num l U ≡ super_scale l * (U * U)
unfolding supercritical_num super_scale
super-scale Four U = refl
super-scale Three U = refl

root-small : (l : Legs) (S e : ℕ) → root_num l S e ≤ super_scale l * super_scale l * ((S + e) * (S + e))
unfolding root_num super_scale
root-small Four S e = omega arith
root-small Three S e = omega arith

incidence-positive : (l : Legs) (S e : ℕ) → 0 < S → 0 < incidence_den l S e
unfolding incidence_den
incidence-positive Four S e h = mul-pos (omega arith) (omega arith)
incidence-positive Three S e h = omega arith

face-positive : (l : Legs) (U : ℕ) → 0 < U → 0 < face_den l U
unfolding face_den
face-positive Four U h = omega (arith, mul-pos h h)
face-positive Three U h = omega (arith, mul-pos h h)

large : (T H x y z w : ℕ) → T * H * 1_000_000 * z ≤ T * (H * (x + y + z) * 1_000_000 + w)
large T H x y z w = omega arith

module _ (l : Legs) (k factor q : ℕ) (a : Areas) (e items : ℕ) where
  num-large : q * factor * incidence_num l k a e * 1_000_000 * (super_scale l * (((solid a).0 + e) * ((solid a).0 + e)) * a.supercritical.0)
      ≤ (whole_form l k factor q a e items).num
  unfolding whole_form face_num
  num-large = rw (← super-scale l ((solid a).0 + e)) (large (q * factor) (incidence_num l k a e) _ _ _ _)

  radicand-small : (whole_form l k factor q a e items).radicand ≤ (whole_form l k factor q a e items).num * (whole_form l k factor q a e items).num
  unfolding whole_form
  radicand-small =
      nonneg-law (q * factor * incidence_num l k a e * 1_000_000) a.supercritical.0 ((solid a).0 + e) (root_num l (solid a).0 e)
      (super_scale l) _ (root-small l (solid a).0 e) num-large

  pub den-positive : 0 < (solid a).0 → 0 < (whole_form l k factor q a e items).den
  unfolding whole_form
  den-positive h =
      mul-pos (mul-pos (incidence-positive l (solid a).0 e h) (face-positive l ((solid a).0 + e) (omega arith))) (omega arith)

  pub face-nonneg : 0 < (solid a).0 → whole 0 ≼√ face_force l k factor q (gross_of a e) a items
  face-nonneg h =
      let d : _ = den-positive h in
      below-same (number-defined _ d) (same-sym (face-whole l k factor q a e items)) (whole 0) (whole-proper 0)
      (number-nonneg _ d radicand-small)
