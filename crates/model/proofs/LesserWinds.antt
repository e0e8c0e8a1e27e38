-- The lesser winds of a section, and the exact force on a section with 0 < A_S ≤ A_u: it is a number, not negative, and
-- bounded.
use Prim.Native.Nat.{ℕ, zero, suc, ◌+◌, ◌*◌, ◌-◌, ◌/◌, ◌≤◌, ◌<◌}
use mathlib.Core.Path.{◌≡◌, refl, ap, subst}
use mathlib.Core.Bool.{Bool, true, false, cond}
use mathlib.Core.List.{List, [], ◌∷◌}
use mathlib.Core.Logic.{⊎_elim}
use native.Mathlib.Omega.{arith}
use native.Mathlib.Nat.{mul-pos, mul-div-le, mul-le-mul_right, le-div_iff_mul-le}
use lib.Dec.{eqb}
use borrow.Author.Tests.{ltb-true, ltb-false, lt-ltb, eqb-true}
use Rattle.units.specs.declared.Length.{Length}
use Rattle.units.specs.declared.Area.{Area}
use Rattle.exact.specs.Fraction.{whole}
use Rattle.exact.specs.Rooted.{◌≼√◌, ◌√≼◌, Defined}
use Rattle.exact.specs.Number.{Every, none, also, this, Sound, AtMost, AtLeast}
use Rattle.exact.proofs.Bools.{and_split, and-rest, and-join}
use Rattle.exact.proofs.Order.{le-or-lt}
use Rattle.exact.proofs.Lists.{every-join, every-mapped}
use Rattle.model.specs.declared.Legs.{Legs}
use Rattle.model.specs.declared.Areas.{Areas}
use Rattle.model.specs.declared.Member.{Member}
use Rattle.model.specs.declared.Member.TheVariants.{Flat, Round}
use Rattle.model.specs.declared.Group.{Group}
use Rattle.model.specs.Lists.{joined}
use Rattle.model.specs.Tower.{Section}
use Rattle.model.specs.Areas.{gross, areas_of, solid, solid_of, largest_gross, flow_limit, is_supercritical, lesser_of, lesser_winds}
use Rattle.model.specs.Force.{largest_items, face_force, formula, exact_force, largest_force}
use Rattle.model.specs.WholeForm.{gross_of}
use Rattle.model.proofs.Solid.{solid-of}
use Rattle.model.proofs.FaceForce.{face-defined, face-nonneg}
use Rattle.model.proofs.Bounds.{face-force-bound}

-- p is the greatest whole pressure with 2 p d² ≤ limit
pub record GreatestUnder (limit d p : ℕ) : Type 0 where
  pub under : 2 * p * (d * d) ≤ limit
  pub none_above : (r : ℕ) → 2 * r * (d * d) ≤ limit → r ≤ p

pub greatest-under : (limit d : ℕ) → 0 < d → GreatestUnder limit d (limit / (2 * (d * d)))
greatest-under limit d h =
    let k : 0 < 2 * (d * d) = omega (arith, mul-pos h h) in
    record {
      under = omega (arith, mul-div-le limit (2 * (d * d)));
      none_above = λ r g. (le-div_iff_mul-le k).1 (omega arith);
    }

-- a diameter that is supercritical is not 0, and its lesser wind is less than the pressure
pub positive : (limit q d : ℕ) → limit < 2 * q * (d * d) → 0 < d
positive limit q zero h = absurd (omega arith)
positive limit q (suc d) h = omega arith

pub less : {limit d p : ℕ} (q : ℕ) → GreatestUnder limit d p → limit < 2 * q * (d * d) → p < q
less {limit} {d} {p} q g h = ⊎_elim (λ k. absurd (turned k)) (λ k. k) (le-or-lt q p)
  where
    turned : q ≤ p → ⊥
    turned k = omega (arith, mul-le-mul_right (d * d) k, g.under)

-- the limit that a supercritical diameter is above; without ice another one is not
pub limit-above : (t : Length) (q : ℕ) (d : Length) → is_supercritical t q d ≡ true → flow_limit < 2 * q * (d.0 * d.0)
limit-above t q d h = ltb-true _ _ (and_split (eqb t.0 0) _ h).1

pub limit-over : (t : Length) (q : ℕ) (d : Length) → eqb t.0 0 ≡ true → is_supercritical t q d ≡ false → 2 * q * (d.0 * d.0) ≤ flow_limit
limit-over t q d z h = ltb-false _ _ (and-rest (eqb t.0 0) _ z h)

-- what is supercritical stays so under more pressure
pub stays : (t : Length) (p q : ℕ) (d : Length) → p ≤ q → is_supercritical t p d ≡ true → is_supercritical t q d ≡ true
stays t p q d h e =
    and-join (and_split (eqb t.0 0) _ e).0 (lt-ltb _ _ (higher p q (d.0 * d.0) flow_limit h (limit-above t p d e)))
  where
    higher : (x y s limit : ℕ) → x ≤ y → limit < 2 * x * s → limit < 2 * y * s
    higher x y s limit l g = omega (arith, mul-le-mul_right s l)

-- a round that turns supercritical between p and p + 1 has the lesser wind p
pub turns_at : (t : Length) (p : ℕ) (d : Length) → is_supercritical t p d ≡ false → is_supercritical t (p + 1) d ≡ true → flow_limit / (2 * (d.0 * d.0)) ≡ p
turns_at t p d e f =
    let above : flow_limit < 2 * (p + 1) * (d.0 * d.0) = limit-above t (p + 1) d f in
    let g : GreatestUnder flow_limit d.0 _ = greatest-under flow_limit d.0 (positive flow_limit (p + 1) d.0 above) in
    omega (arith, less (p + 1) g above, g.none_above p (limit-over t p d (and_split (eqb t.0 0) _ f).0 e))

-- the lesser wind of a round is the greatest at which it is not supercritical, and less than the pressure
pub record Lesser (q d p : ℕ) : Type 0 where
  pub greatest : GreatestUnder flow_limit d p
  pub less : p < q

pub lesser-greatest : (t : Length) (q : ℕ) (d : Length) → Every (Lesser q d.0) (lesser_of t q (Round d))
unfolding lesser_of
lesser-greatest t q d = go (is_supercritical t q d) refl
  where
    go : (b : Bool) → is_supercritical t q d ≡ b → Every (Lesser q d.0) (cond b (flow_limit / (2 * (d.0 * d.0)) ∷ []) [])
    go true e =
        let above : flow_limit < 2 * q * (d.0 * d.0) = limit-above t q d e in
        let g : GreatestUnder flow_limit d.0 _ = greatest-under flow_limit d.0 (positive flow_limit q d.0 above) in
        also (record { greatest = g; less = less q g above }) none
    go false e = none

lesser-less : (t : Length) (q : ℕ) (m : Member) → Every (λ p. p ≤ q) (lesser_of t q m)
unfolding lesser_of
lesser-less t q (Flat w) = none
lesser-less t q (Round d) = each (lesser-greatest t q d)
  where
    each : {ps : List ℕ} → Every (Lesser q d.0) ps → Every (λ p. p ≤ q) ps
    each none = none
    each (also {a = p} h hs) = also {a = p} (omega (arith, h.less)) (each hs)

every-joined : {A B : Type 0} {P : B → Type 0} (f : A → List B) → ((a : A) → Every P (f a)) → (l : List A) → Every P (joined f l)
unfolding joined
every-joined f h [] = none
every-joined f h (a ∷ l) = every-join (h a) (every-joined f h l)

-- all pressures that a section is worked out for are at most the full one
pub winds-under : (t : Length) (q : ℕ) (gs : List Group) → Every (λ p. p ≤ q) (q ∷ lesser_winds t q gs)
unfolding lesser_winds
winds-under t q gs = also {a = q} (omega arith) (every-joined _ (λ g. lesser-less t q g.member) gs)

-- under ice there are none
iced-member : (t : Length) (q : ℕ) → 0 < t.0 → (m : Member) → lesser_of t q m ≡ []
unfolding lesser_of
iced-member t q h (Flat w) = refl
iced-member t q h (Round d) = go (is_supercritical t q d) refl
  where
    go : (b : Bool) → is_supercritical t q d ≡ b → cond b (flow_limit / (2 * (d.0 * d.0)) ∷ []) [] ≡ []
    go true e = let z : t.0 ≡ 0 = eqb-true _ _ (and_split (eqb t.0 0) _ e).0 in absurd (omega arith)
    go false e = refl

pub iced-none : (t : Length) (q : ℕ) → 0 < t.0 → (gs : List Group) → lesser_winds t q gs ≡ []
unfolding lesser_winds joined
iced-none t q h [] = refl
iced-none t q h (g ∷ gs) = rw (iced-member t q h g.member, iced-none t q h gs)

-- the open area of a face
pub opened : (a : Areas) (u : Area) → (solid a).0 ≤ u.0 → gross_of a (u.0 - (solid a).0) ≡ u
opened a u h = let e : (solid a).0 + (u.0 - (solid a).0) ≡ u.0 = omega arith in ap (λ (n : ℕ). record { 0 = n }) e

-- 0 < A_S ≤ A_u under ice of thickness t
pub record Stands (t : Length) (s : Section) : Type 0 where
  pub solid : 0 < (solid_of t s.groups).0
  pub under : (solid_of t s.groups).0 ≤ (gross s).0

module _ (l : Legs) (k : ℕ) (t : Length) (factor : ℕ) (s : Section) (items : ℕ) (f : Stands t s) where
  pub solid-in : (p : ℕ) → (0 < (solid (areas_of t p s.groups)).0) × ((solid (areas_of t p s.groups)).0 ≤ (gross s).0)
  solid-in p = rw (solid-of t p s.groups) (f.solid, f.under)

  pub formula-defined : (p : ℕ) → Defined (formula l k t factor s items p)
  unfolding formula
  formula-defined p = face-defined l k factor p _ _ items (omega (arith, solid-in p)) (solid-in p).0

  -- with the groups classed at p, under any pressure q
  pub classed-nonneg : (p q : ℕ) → whole 0 ≼√ face_force l k factor q (gross s) (areas_of t p s.groups) items
  classed-nonneg p q =
      let a : Areas = areas_of t p s.groups in
      let u : Area = gross s in
      subst (λ (x : Area). whole 0 ≼√ face_force l k factor q x a items) (opened a u (solid-in p).1)
      (face-nonneg l k factor q a (u.0 - (solid a).0) items (solid-in p).0)

  formula-bound : (gross s).0 ≤ largest_gross → factor ≤ 2000 → items ≤ largest_items → (p : ℕ) → p ≤ 5000
      → formula l k t factor s items p √≼ whole largest_force
  unfolding formula
  formula-bound g hf hi p hp =
      let a : Areas = areas_of t p s.groups in
      let u : Area = gross s in
      subst (λ (x : Area). face_force l k factor p x a items √≼ whole largest_force) (opened a u (solid-in p).1)
      (face-force-bound l k factor p a (u.0 - (solid a).0) items (solid-in p).0 (omega (arith, (solid-in p).1)) hp hf hi)

  -- the exact force is a number, it is not negative, and it is at most `largest_force`
  pub force-sound : (q : ℕ) → Sound (exact_force l k t factor s q items)
  unfolding exact_force
  force-sound q =
      record { each = every-mapped (formula l k t factor s items) (λ p h. formula-defined p) (winds-under t q _) }

  pub force-nonneg : (q : ℕ) → AtMost (whole 0) (exact_force l k t factor s q items)
  unfolding exact_force formula
  force-nonneg q = record { some = this (classed-nonneg q q) }

  pub force-bound : (gross s).0 ≤ largest_gross → factor ≤ 2000 → items ≤ largest_items → (q : ℕ) → q ≤ 5000
      → AtLeast (exact_force l k t factor s q items) (whole largest_force)
  unfolding exact_force
  force-bound g hf hi q hq =
      record {
        each =
            every-mapped {P = λ p. p ≤ q} (formula l k t factor s items) (λ p h. formula-bound g hf hi p (omega arith))
            (winds-under t q _);
      }
