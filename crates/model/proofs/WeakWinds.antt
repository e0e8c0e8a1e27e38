-- A whole number of newtons that is not below the formula's value at q is not below that at a quarter of q or less:
-- every coefficient is at least 1 and at most 4, and Kθ and the items' sum are the same at both pressures.
use Prim.Native.Nat.{ℕ, ◌+◌, ◌*◌, ◌-◌, ◌≤◌, ◌<◌}
use mathlib.Core.Path.{◌≡◌, refl, sym, ap, subst}
use mathlib.Core.Bool.{Bool, true, false, cond}
use mathlib.Core.List.{List, [], ◌∷◌}
use mathlib.Core.Logic.{⊎_elim}
use native.Mathlib.Omega.{arith}
use native.Mathlib.Nat.{mul-le-mul, mul-le-mul_left, mul-le-mul_right, le_trans}
use borrow.Author.Tests.{leb-true}
use Rattle.units.specs.declared.Length.{Length}
use Rattle.units.specs.declared.Area.{Area}
use Rattle.exact.specs.Fraction.{whole}
use Rattle.exact.specs.Rooted.{◌√≼◌}
use Rattle.exact.specs.Surd.{Surd, number, reaches}
use Rattle.exact.proofs.Order.{le-or-lt}
use Rattle.exact.proofs.Arithmetic.{whole-proper}
use Rattle.exact.proofs.Compare.{same-sym, above_same}
use Rattle.exact.proofs.Surds.{number-defined, from-over, at-least-reaches}
use Rattle.model.specs.declared.Legs.{Legs}
use Rattle.model.specs.declared.Legs.TheVariants.{Three, Four}
use Rattle.model.specs.declared.Areas.{Areas}
use Rattle.model.specs.declared.Member.{Member}
use Rattle.model.specs.declared.Member.TheVariants.{Flat, Round}
use Rattle.model.specs.declared.Flow.TheVariants as flow
use Rattle.model.specs.declared.Group.{Group}
use Rattle.model.specs.Lists.{sum_by}
use Rattle.model.specs.Tower.{Section}
use Rattle.model.specs.Areas.{gross, area_in, same_flow, flow_of, is_supercritical, areas_of, solid}
use Rattle.model.specs.Force.{face_force, formula}
use Rattle.model.specs.WholeForm.{gross_of, rounds, incidence_den, incidence_num, face_den, flat_num, subcritical_num, supercritical_num, face_num, root_num, whole_form}
use Rattle.model.proofs.Solid.{solid-of}
use Rattle.model.proofs.WholeForm.{face-whole}
use Rattle.model.proofs.FaceForce.{nonneg-law, face-defined, den-positive}
use Rattle.model.proofs.Bounds.{face-bound}
use Rattle.model.proofs.LesserWinds.{Stands, opened, solid-in}

-- 2 x y ≤ x² + y²
twice : (x y : ℕ) → 2 * (x * y) ≤ x * x + y * y
twice x y = ⊎_elim (λ h. apart x (y - x) y (omega arith)) (λ h. turned (apart y (x - y) x (omega arith))) (le-or-lt x y)
  where
    apart : (a d b : ℕ) → a + d ≡ b → 2 * (a * b) ≤ a * a + b * b
    apart a d b e = rw (← e) (omega arith)

    turned : 2 * (y * x) ≤ y * y + x * x → 2 * (x * y) ≤ x * x + y * y
    turned h = omega arith

-- c_f and c_c are at least 1, and so is 1.9 less the root
flat-above : (l : Legs) (S e : ℕ) → face_den l (S + e) ≤ flat_num l S e
unfolding flat_num face_den
flat-above Four S e = omega (arith, twice S e)
flat-above Three S e = omega (arith, twice S e)

sub-above : (l : Legs) (S e : ℕ) → face_den l (S + e) ≤ subcritical_num l S e
unfolding subcritical_num face_den
sub-above Four S e = omega (arith, twice S e)
sub-above Three S e = omega (arith, twice S e)

-- 0.9 in the scale of face_den
rest : Legs → ℕ
rest Four = 180
rest Three = 4500

super-above : (l : Legs) (U : ℕ) → face_den l U + rest l * (U * U) ≤ supercritical_num l U
unfolding supercritical_num face_den rest
super-above Four U = omega arith
super-above Three U = omega arith

root-under : (l : Legs) (S e : ℕ) → root_num l S e ≤ rest l * rest l * ((S + e) * (S + e))
unfolding root_num rest
root-under Four S e = omega (arith, twice S e)
root-under Three S e = omega (arith, twice S e)

shares : (d r x y z f c p S : ℕ) → d ≤ x → d ≤ y → d + r ≤ z → f + c + p ≡ S → d * S + r * p ≤ x * f + y * c + z * p
shares d r x y z f c p S hx hy hz h =
    let i : d * f ≤ x * f = mul-le-mul_right f hx in
    let j : d * c ≤ y * c = mul-le-mul_right c hy in
    let k : (d + r) * p ≤ z * p = mul-le-mul_right p hz in
    rw (← h) (omega arith)

-- the face's sum is at least A_S, by what the root takes away at most
face-above : (l : Legs) (a : Areas) (e : ℕ)
    → face_den l ((solid a).0 + e) * (solid a).0 + rest l * (((solid a).0 + e) * ((solid a).0 + e)) * a.supercritical.0 ≤ face_num l a e
unfolding face_num solid
face-above l a e =
    shares _ _ _ _ _ a.flat.0 a.subcritical.0 a.supercritical.0 _ (flat-above l _ e) (sub-above l _ e) (super-above l _) refl

spread : (T H x y z w : ℕ) → x + y ≤ z → T * (H * x * 1_000_000 + w) + T * H * 1_000_000 * y ≤ T * (H * z * 1_000_000 + w)
spread T H x y z w h = omega (arith, mul-le-mul_left (T * H * 1_000_000) h)

under-square : (x y z : ℕ) → y ≤ x → (x - z) * (x - z) ≤ (x - y) * (x - y) → y ≤ z
under-square x y z b h = ⊎_elim (λ c. c) (λ c. absurd (apart c)) (le-or-lt y z)
  where
    apart : z < y → ⊥
    apart c =
        let s : x - y + 1 ≤ x - z = omega arith in
        omega (arith, mul-le-mul s s)

-- the force on a face is at least what coefficients of 1 give; numbers are over the same denominator
module _ (l : Legs) (k factor q : ℕ) (a : Areas) (e items : ℕ) where
  low : ℕ
  low =
      q * factor
      * (incidence_num l k a e * (face_den l ((solid a).0 + e) * (solid a).0) * 1_000_000
      + items * (incidence_den l (solid a).0 e * face_den l ((solid a).0 + e)))

  low-under : low + q * factor * incidence_num l k a e * 1_000_000 * (rest l * (((solid a).0 + e) * ((solid a).0 + e)) * a.supercritical.0)
      ≤ (whole_form l k factor q a e items).num
  unfolding low whole_form
  low-under = spread (q * factor) (incidence_num l k a e) _ _ _ _ (face-above l a e)

  low-root : (whole_form l k factor q a e items).radicand
      ≤ ((whole_form l k factor q a e items).num - low) * ((whole_form l k factor q a e items).num - low)
  unfolding whole_form
  low-root =
      nonneg-law (q * factor * incidence_num l k a e * 1_000_000) a.supercritical.0 ((solid a).0 + e) (root_num l (solid a).0 e)
      (rest l) _ (root-under l (solid a).0 e) (omega (arith, low-under))

  low-reached : 0 < (solid a).0 → (n : ℕ) → number (whole_form l k factor q a e items) √≼ whole n
      → low ≤ n * (whole_form l k factor q a e items).den
  unfolding reaches
  low-reached h n g =
      let w : Surd = whole_form l k factor q a e items in
      let r : _ = leb-true _ _ (at-least-reaches w (den-positive l k factor q a e items h) n g) in
      under-square w.num low (n * w.den) (omega (arith, low-under)) (le_trans r low-root)

quarter-sum : (p q f H D S F items h : ℕ) → 4 * p ≤ q → F ≤ 4 * D * S
    → p * f * (H * F * 1_000_000 + items * h) ≤ q * f * (H * (D * S) * 1_000_000 + items * h)
quarter-sum p q f H D S F items h le b =
    let x : H * F ≤ H * (4 * D * S) = mul-le-mul_left H b in
    let y : p * f * (H * F * 1_000_000 + items * h) ≤ p * f * (4 * (H * (D * S) * 1_000_000 + items * h)) = mul-le-mul_left (p * f) (omega arith) in
    let z : 4 * p * (f * (H * (D * S) * 1_000_000 + items * h)) ≤ q * (f * (H * (D * S) * 1_000_000 + items * h)) = mul-le-mul_right _ le in
    omega arith

-- two faces with the same A_f and the same A_S: at a quarter of the pressure the one has at most the force of the other
module _ (l : Legs) (k factor : ℕ) (p q : ℕ) (a b : Areas) (e items : ℕ) (le : 4 * p ≤ q) (ef : a.flat.0 ≡ b.flat.0) (es : (solid a).0 ≡ (solid b).0) where
  same-rounds : rounds a ≡ rounds b
  unfolding solid
  same-rounds = omega arith

  same-incidence : incidence_num l k a e ≡ incidence_num l k b e
  unfolding incidence_num
  same-incidence = go l
    where
      go : (l : Legs) → incidence_num l k a e ≡ incidence_num l k b e
      go Four = rw (es, ef, same-rounds)
      go Three = rw (ef, same-rounds)

  same-den : (whole_form l k factor p a e items).den ≡ (whole_form l k factor q b e items).den
  unfolding whole_form
  same-den = rw es

  num-under : (whole_form l k factor p a e items).num ≤ low l k factor q b e items
  unfolding whole_form low
  num-under = rw (← same-incidence, ← es) (quarter-sum p q factor (incidence_num l k a e) _ _ _ items _ le (face-bound l a e))

  face-quarter : 0 < (solid a).0 → (n : ℕ) → face_force l k factor q (gross_of b e) b items √≼ whole n
      → face_force l k factor p (gross_of a e) a items √≼ whole n
  face-quarter h n g =
      let hb : 0 < (solid b).0 = omega arith in
      let u : Surd = whole_form l k factor p a e items in
      let w : Surd = whole_form l k factor q b e items in
      let r : low l k factor q b e items ≤ n * w.den =
      low-reached l k factor q b e items hb n
      (above_same (face-defined l k factor q (gross_of b e) b items (omega arith) hb) (face-whole l k factor q b e items) (whole n) (whole-proper n) g) in
      let d : n * u.den ≡ n * w.den = ap (λ (z : ℕ). n * z) same-den in
      above_same (number-defined u (den-positive l k factor p a e items h)) (same-sym (face-whole l k factor p a e items)) (whole n) (whole-proper n)
      (from-over u (den-positive l k factor p a e items h) n (omega (arith, num-under)))

-- A_f does not depend on the pressure
is_flat : Member → Bool
is_flat (Flat w) = true
is_flat (Round d) = false

flat-flow : (t : Length) (p q : ℕ) (g : Group) → (area_in flow.Flat t p g).0 ≡ (area_in flow.Flat t q g).0
unfolding area_in flow_of is_flat
flat-flow t p q g = rw (class p g.member, class q g.member)
  where
    class : (r : ℕ) (m : Member) → same_flow flow.Flat (flow_of t r m) ≡ is_flat m
    class r (Flat w) = refl
    class r (Round d) = go (is_supercritical t r d)
      where
        go : (c : Bool) → same_flow flow.Flat (cond c flow.Supercritical flow.Subcritical) ≡ false
        go true = refl
        go false = refl

flat-same : (t : Length) (p q : ℕ) (gs : List Group) → (areas_of t p gs).flat.0 ≡ (areas_of t q gs).flat.0
unfolding areas_of sum_by
flat-same t p q gs = sums gs
  where
    sums : (l : List Group) → sum_by (λ g. (area_in flow.Flat t p g).0) l ≡ sum_by (λ g. (area_in flow.Flat t q g).0) l
    sums [] = refl
    sums (g ∷ l) = rw (flat-flow t p q g, sums l)

-- a wind of at most a quarter of the pressure
pub quarter : (l : Legs) (k : ℕ) (t : Length) (factor : ℕ) (s : Section) (items : ℕ) → Stands t s → (p q : ℕ) → 4 * p ≤ q
    → (n : ℕ) → formula l k t factor s items q √≼ whole n → formula l k t factor s items p √≼ whole n
unfolding formula
quarter l k t factor s items f p q le n g =
    let a : Areas = areas_of t p s.groups in
    let b : Areas = areas_of t q s.groups in
    let u : Area = gross s in
    let in_p : _ = solid-in l k t factor s items f p in
    let in-q : _ = solid-in l k t factor s items f q in
    let es : (solid a).0 ≡ (solid b).0 = rw (solid-of t p s.groups, solid-of t q s.groups) refl in
    let e : ℕ = u.0 - (solid a).0 in
    let eu : gross_of b e ≡ u = rw es (opened b u in-q.1) in
    subst (λ (x : Area). face_force l k factor p x a items √≼ whole n) (opened a u in_p.1)
    (face-quarter l k factor p q a b e items le (flat-same t p q s.groups) es in_p.0 n
    (subst (λ (x : Area). face_force l k factor q x b items √≼ whole n) (sym eu) g))
