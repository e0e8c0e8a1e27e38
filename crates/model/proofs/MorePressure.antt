-- Document 02, M-112, of one section: its exact force is the greatest value of the formula at any whole pressure up to
-- the full one. From one pressure to the next every group keeps its class, and then the force grows with the pressure;
-- or the lower one is a lesser wind.
use Prim.Native.Nat.{ℕ, zero, suc, ◌+◌, ◌-◌, ◌≤◌, ◌<◌}
use mathlib.Core.Path.{◌≡◌, refl}
use mathlib.Core.Bool.{Bool, true, false, cond}
use mathlib.Core.List.{List, [], ◌∷◌}
use mathlib.Core.Logic.{◌⊎◌, inl, inr, ⊎_elim}
use native.Mathlib.Omega.{arith}
use Rattle.units.specs.declared.Length.{Length}
use Rattle.exact.specs.Fraction.{◌//◌, whole}
use Rattle.exact.specs.Rooted.{Rooted, ◌⊙◌, ◌≼√◌, Defined}
use Rattle.exact.specs.Number.{Every, none, also, Some, this, later, only, NotAbove, Equal}
use Rattle.exact.proofs.Bools.{clash}
use Rattle.exact.proofs.Lists.{every-mapped, some_left, some_right, some_mapped}
use Rattle.exact.proofs.Arithmetic.{//-proper}
use Rattle.exact.proofs.Compare.{⊙-defined}
use Rattle.exact.proofs.Multiples.{⊙-assoc, multiple-grows}
use Rattle.exact.proofs.Growing.{not-above-trans, not-above-every, not-above-one}
use Rattle.model.specs.declared.Legs.{Legs}
use Rattle.model.specs.declared.Flow.{Flow}
use Rattle.model.specs.declared.Flow.TheVariants as flow
use Rattle.model.specs.declared.Member.{Member}
use Rattle.model.specs.declared.Member.TheVariants.{Flat, Round}
use Rattle.model.specs.declared.Group.{Group}
use Rattle.model.specs.Lists.{sum_by, joined}
use Rattle.model.specs.Tower.{Section}
use Rattle.model.specs.Areas.{gross, area_in, areas_of, flow_of, is_supercritical, lesser_of, lesser_winds}
use Rattle.model.specs.Force.{resistance, face_force, formula, exact_force}
use Rattle.model.specs.MorePressure.{greatest_formula}
use Rattle.model.proofs.Lists.{every-list_to, some-list_to}
use Rattle.model.proofs.FaceForce.{resistance-defined}
use Rattle.model.proofs.LesserWinds.{stays, turns_at, winds-under, Stands, solid-in, classed-nonneg}

-- from p to p + 1 a member keeps its class, or p is its lesser wind under every higher pressure
member-step : (t : Length) (p q : ℕ) (m : Member) → p < q → (flow_of t p m ≡ flow_of t (p + 1) m) ⊎ Some (λ r. r ≡ p) (lesser_of t q m)
unfolding flow_of lesser_of
member-step t p q (Flat w) h = inl refl
member-step t p q (Round d) h = go (is_supercritical t p d) (is_supercritical t (p + 1) d) refl refl
  where
    go : (a b : Bool) → is_supercritical t p d ≡ a → is_supercritical t (p + 1) d ≡ b
        → (cond (is_supercritical t p d) flow.Supercritical flow.Subcritical ≡ cond (is_supercritical t (p + 1) d) flow.Supercritical flow.Subcritical)
        ⊎ Some (λ r. r ≡ p) (lesser_of t q (Round d))
    go true true e f = inl (rw (e, f))
    go true false e f = absurd (clash (stays t p (p + 1) d (omega arith) e) f)
    go false true e f = inr (rw (stays t (p + 1) q d (omega arith) f) (this (turns_at t p d e f)))
    go false false e f = inl (rw (e, f))

-- of groups: all keep their classes, or p is one of the lesser winds
abbrev Keeps : Length → ℕ → List Group → Type 0
Keeps t p gs = Every (λ g. flow_of t p g.member ≡ flow_of t (p + 1) g.member) gs

groups-step : (t : Length) (p q : ℕ) (gs : List Group) → p < q → Keeps t p gs ⊎ Some (λ r. r ≡ p) (lesser_winds t q gs)
unfolding lesser_winds joined
groups-step t p q [] h = inl none
groups-step t p q (g ∷ gs) h =
    ⊎_elim (λ e. ⊎_elim (λ es. inl (also e es)) (λ s. inr (some_right (lesser_of t q g.member) s)) (groups-step t p q gs h))
    (λ s. inr (some_left _ s)) (member-step t p q g.member h)

-- with the same classes the areas are the same
class-kept : (class : Flow) (t : Length) (p : ℕ) {gs : List Group} → Keeps t p gs
    → sum_by (λ g. (area_in class t p g).0) gs ≡ sum_by (λ g. (area_in class t (p + 1) g).0) gs
unfolding sum_by area_in
class-kept class t p none = refl
class-kept class t p (also e es) = rw (e, class-kept class t p es)

areas-kept : (t : Length) (p : ℕ) {gs : List Group} → Keeps t p gs → areas_of t p gs ≡ areas_of t (p + 1) gs
unfolding areas_of
areas-kept t p es = rw (class-kept flow.Flat t p es, class-kept flow.Subcritical t p es, class-kept flow.Supercritical t p es)

module _ (l : Legs) (k : ℕ) (t : Length) (factor : ℕ) (s : Section) (items : ℕ) (f : Stands t s) where
  abbrev value : ℕ → Rooted
  value = formula l k t factor s items

  -- the force of a wind of 1 N/m² on the section with its groups classed at p
  unit : ℕ → Rooted
  unit p = factor // 1000 ⊙ resistance l k (gross s) (areas_of t p s.groups) items

  unit-defined : (p : ℕ) → Defined (unit p)
  unfolding unit
  unit-defined p =
      let in_p : _ = solid-in l k t factor s items f p in
      ⊙-defined (//-proper factor 1000 (omega arith)) (resistance-defined l k _ _ items (omega arith) in_p.0)

  -- the formula's value is its multiple
  classed-is : (p q : ℕ) → face_force l k factor q (gross s) (areas_of t p s.groups) items ≡ whole q ⊙ unit p
  unfolding face_force unit
  classed-is p q = ⊙-assoc (whole q) (factor // 1000) _

  multiple-nonneg : (p q : ℕ) → whole 0 ≼√ whole q ⊙ unit p
  multiple-nonneg p q = rw (← classed-is p q) (classed-nonneg l k t factor s items f p q)

  -- where all classes stay, the value grows
  value_grows : (p : ℕ) → Keeps t p s.groups → NotAbove (only (value p)) (only (value (p + 1)))
  unfolding formula
  value_grows p es =
      rw (← areas-kept t p es, classed-is p p, classed-is p (p + 1))
      (multiple-grows (unit-defined p) (multiple-nonneg p) (omega arith) (omega arith))

  -- the values at q and in every lesser wind are among those of the exact force
  value-among : (q p : ℕ) → Some (λ r. r ≡ p) (q ∷ lesser_winds t q s.groups) → NotAbove (only (value p)) (exact_force l k t factor s q items)
  unfolding exact_force
  value-among q p h = not-above-one (some_mapped value h)

  -- so the value at any pressure up to q is not above the exact force at q
  value-under : (q n p : ℕ) → p + n ≡ q → NotAbove (only (value p)) (exact_force l k t factor s q items)
  value-under q zero p e = value-among q p (this (omega arith))
  value-under q (suc n) p e =
      ⊎_elim (λ es. not-above-trans (value_grows p es) (value-under q n (p + 1) (omega arith))) (λ r. value-among q p (later r))
      (groups-step t p q s.groups (omega arith))

  -- the exact force at q is the greatest value of the formula at any whole pressure from 0 to q
  pub exact-greatest : (q : ℕ) → Equal (exact_force l k t factor s q items) (greatest_formula l k t factor s q items)
  unfolding exact_force greatest_formula
  exact-greatest q =
      record {
        not_above =
            not-above-every
            (every-mapped {P = λ p. p ≤ q} value (λ p h. not-above-one (some-list_to value _ p (omega arith))) (winds-under t q _));
        not_below = not-above-every (every-list_to value _ (λ p h. value-under q (q - p) p (omega arith)));
      }

  -- under more pressure it is not below
  pub exact-grows : (p q : ℕ) → p ≤ q → NotAbove (exact_force l k t factor s p items) (exact_force l k t factor s q items)
  unfolding exact_force
  exact-grows p q h =
      not-above-every
      (every-mapped {P = λ r. r ≤ p} value (λ r g. value-under q (q - r) r (omega arith)) (winds-under t p _))
