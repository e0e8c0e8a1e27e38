-- Areas and flow: A_f, A_c and A_p share out the groups' areas, whatever the pressure.
use Prim.Native.Nat.{ℕ, ◌+◌, ◌*◌, ◌<◌}
use mathlib.Core.Path.{◌≡◌, refl, ap, sym, ◌∙◌}
use mathlib.Core.Bool.{Bool, true, false, cond}
use mathlib.Core.List.{List, [], ◌∷◌}
use mathlib.Core.Logic.{◌⊎◌, inl, inr}
use native.Mathlib.Omega.{arith}
use lib.Dec.{eqb, ltb}
use borrow.Author.Tests.{eqb-true, ltb-true, ltb-false, eq-eqb}
use Rattle.units.specs.declared.Length.{Length}
use Rattle.units.specs.declared.Area.{Area}
use Rattle.model.specs.declared.Flow.{Flow}
use Rattle.model.specs.declared.Flow.TheVariants as flow
use Rattle.model.specs.declared.Member.TheVariants.{Round}
use Rattle.model.specs.declared.Group.{Group}
use Rattle.model.specs.Lists.{sum_by}
use Rattle.model.specs.Areas.{same_flow, group_area, area_in, areas_of, is_supercritical, flow_of, solid, solid_of}
use Rattle.exact.proofs.Bools.{and_split, and-rest}

shared : (class : Flow) (a : Area)
    → (cond (same_flow flow.Flat class) a (record { 0 = 0 })).0
    + (cond (same_flow flow.Subcritical class) a (record { 0 = 0 })).0
    + (cond (same_flow flow.Supercritical class) a (record { 0 = 0 })).0
    ≡ a.0
shared flow.Flat a = omega arith
shared flow.Subcritical a = omega arith
shared flow.Supercritical a = omega arith

-- a group's area goes to one class
pub one_class : (t : Length) (q : ℕ) (g : Group)
    → (area_in flow.Flat t q g).0 + (area_in flow.Subcritical t q g).0 + (area_in flow.Supercritical t q g).0 ≡ (group_area t g).0
unfolding area_in
one_class t q g = shared (flow_of t q g.member) (group_area t g)

shares : (t : Length) (q : ℕ) (gs : List Group)
    → sum_by (λ g. (area_in flow.Flat t q g).0) gs
    + sum_by (λ g. (area_in flow.Subcritical t q g).0) gs
    + sum_by (λ g. (area_in flow.Supercritical t q g).0) gs
    ≡ sum_by (λ g. (group_area t g).0) gs
unfolding sum_by
shares t q [] = refl
shares t q (g ∷ gs) = omega (arith, one_class t q g, shares t q gs)

-- A_f + A_c + A_p is the sum of the groups' areas
pub solid-of : (t : Length) (q : ℕ) (gs : List Group) → solid (areas_of t q gs) ≡ solid_of t gs
unfolding solid solid_of areas_of
solid-of t q gs = ap (λ (n : ℕ). record { 0 = n }) (shares t q gs)

apart : flow.Subcritical ≡ flow.Supercritical → ⊥
apart h = let z : ◌≡◌ {A = ℕ} 0 1 = cc in omega arith

below : (limit : ℕ) {x : ℕ} → limit < x → ltb limit x ≡ false → ⊥
below limit h e = omega (arith, ltb-false limit _ e)

-- a round group is supercritical exactly if t = 0 and 2 q d² > 45 000 000, and otherwise subcritical
module _ (t : Length) (q : ℕ) (d : Length) where
  pub supercritical-if : t.0 ≡ 0 → 45_000_000 < 2 * q * (d.0 * d.0) → flow_of t q (Round d) ≡ flow.Supercritical
  unfolding flow_of
  supercritical-if h g = go (is_supercritical t q d) refl
    where
      go : (b : Bool) → is_supercritical t q d ≡ b → cond b flow.Supercritical flow.Subcritical ≡ flow.Supercritical
      go true e = refl
      go false e =
          absurd (below _ g (and-rest (eqb t.0 0) _ (eq-eqb t.0 0 h) e))

  pub supercritical-only : flow_of t q (Round d) ≡ flow.Supercritical → (t.0 ≡ 0) × (45_000_000 < 2 * q * (d.0 * d.0))
  unfolding flow_of
  supercritical-only h = go (is_supercritical t q d) refl
    where
      go : (b : Bool) → is_supercritical t q d ≡ b → (t.0 ≡ 0) × (45_000_000 < 2 * q * (d.0 * d.0))
      go true e =
          let k : _ = and_split (eqb t.0 0) (ltb 45_000_000 (2 * q * (d.0 * d.0))) e in
          (eqb-true _ _ k.0, ltb-true _ _ k.1)
      go false e = absurd (apart (ap (λ (b : Bool). cond b flow.Supercritical flow.Subcritical) (sym e) ∙ h))

  pub round-class : (flow_of t q (Round d) ≡ flow.Supercritical) ⊎ (flow_of t q (Round d) ≡ flow.Subcritical)
  unfolding flow_of
  round-class = go (is_supercritical t q d)
    where
      go : (b : Bool) → (cond b flow.Supercritical flow.Subcritical ≡ flow.Supercritical) ⊎ (cond b flow.Supercritical flow.Subcritical ≡ flow.Subcritical)
      go true = inl refl
      go false = inr refl
