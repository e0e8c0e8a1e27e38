-- What is known of a section, of an item and of a wind that are within document 01's ranges.
use Prim.Native.Nat.{ℕ, zero, suc, ◌+◌, ◌*◌, ◌%◌, ◌^◌, ◌≤◌, ◌<◌}
use mathlib.Core.Path.{◌≡◌, refl}
use mathlib.Core.Bool.{Bool, true, false, cond}
use mathlib.Core.List.{List, [], ◌∷◌}
use native.Mathlib.Omega.{arith}
use native.Mathlib.Nat.{mul-pos, mul-le-mul}
use lib.Dec.{leb, ltb, eqb}
use lib.ListN.{length, get_or}
use borrow.Author.Tests.{leb-true, ltb-true, eqb-true, le-leb}
use Rattle.units.specs.declared.Length.{Length}
use Rattle.model.specs.declared.Member.{Member}
use Rattle.model.specs.declared.Member.TheVariants.{Flat, Round}
use Rattle.model.specs.declared.Flow.TheVariants as flow
use Rattle.model.specs.declared.Group.{Group}
use Rattle.model.specs.declared.Item.{Item}
use Rattle.model.specs.Lists.{sum_by, all_of}
use Rattle.model.specs.declared.Range.{Range}
use Rattle.model.specs.Ranges.{within, section_width, section_height, group_count, member_size, member_length, item_width, item_length, coefficients, position_factor}
use Rattle.model.specs.Tower.{Section}
use Rattle.model.specs.Areas.{size_of, group_area, item_area, gross, is_supercritical, flow_of, lesser_of, same_flow, area_in, areas_of, solid_of, bare_solid, largest_gross}
use Rattle.model.specs.Force.{coefficient, item_part, largest_item}
use Rattle.model.specs.File.{fields_in_range}
use Rattle.model.specs.Valid.{group_fits, section_fits}
use Rattle.exact.proofs.Bools.{and_split, and-join}
use Rattle.model.proofs.Bounds.{cond-bound}

-- a number in its range
pub record InRange (r : Range) (x : ℕ) : Type 0 where
  pub low : r.low ≤ x
  pub high : x ≤ r.high

pub in-range : (r : Range) (x : ℕ) → within r x ≡ true → InRange r x
in-range r x h =
    let g : _ = and_split (leb r.low x) (leb x r.high) h in
    record { low = leb-true _ _ g.0; high = leb-true _ _ g.1 }

pub within-range : {r : Range} {x : ℕ} → InRange r x → within r x ≡ true
within-range h = and-join (le-leb _ _ h.low) (le-leb _ _ h.high)

-- a group has an area, however thick the ice
group-positive : (t : Length) (g : Group) → group_fits g ≡ true → 0 < (group_area t g).0
unfolding group_area
group-positive t g h =
    let k : _ = and_split (within member_size (size_of g.member).0) _ h in
    let w : _ = in-range member_size (size_of g.member).0 k.0 in
    let l : _ = in-range member_length g.length.0 k.1 in
    mul-pos {m = (size_of g.member).0 + 2 * t.0} (omega arith) (omega arith)

pub solid-positive : (t : Length) (gs : List Group) → 0 < length gs → all_of group_fits gs ≡ true → 0 < (solid_of t gs).0
unfolding solid_of sum_by
solid-positive t [] h a = absurd (omega arith)
solid-positive t (g ∷ gs) h a =
    let k : _ = and_split (group_fits g) (all_of group_fits gs) a in
    omega (arith, group-positive t g k.0)

-- groups that have areas, of which none is supercritical, have no lesser wind
no-lesser : (t : Length) (q : ℕ) (g : Group) → group_fits g ≡ true → (area_in flow.Supercritical t q g).0 ≡ 0 → lesser_of t q g.member ≡ []
unfolding area_in flow_of lesser_of
no-lesser t q g h = go g.member
  where
    area : 0 < (group_area t g).0
    area = group-positive t g h

    round : (b : Bool) (p : ℕ) → (cond (same_flow flow.Supercritical (cond b flow.Supercritical flow.Subcritical)) (group_area t g) (record { 0 = 0 })).0 ≡ 0
        → cond b (p ∷ []) [] ≡ []
    round true p e = absurd (omega (arith, area))
    round false p e = refl

    go : (m : Member) → (cond (same_flow flow.Supercritical (flow_of t q m)) (group_area t g) (record { 0 = 0 })).0 ≡ 0 → lesser_of t q m ≡ []
    go (Flat w) e = refl
    go (Round d) e = round (is_supercritical t q d) _ e

pub none-lesser : (t : Length) (q : ℕ) (gs : List Group) → all_of group_fits gs ≡ true → (areas_of t q gs).supercritical.0 ≡ 0
    → (i : ℕ) (d : Group) → i < length gs → lesser_of t q (get_or gs i d).member ≡ []
unfolding areas_of sum_by
none-lesser t q [] h e i d b = absurd (omega arith)
none-lesser t q (g ∷ gs) h e zero d b = no-lesser t q g (and_split (group_fits g) (all_of group_fits gs) h).0 (omega arith)
none-lesser t q (g ∷ gs) h e (suc i) d b =
    none-lesser t q gs (and_split (group_fits g) (all_of group_fits gs) h).1 (omega arith) i d (omega arith)

-- a section
pub record SectionFacts (s : Section) : Type 0 where
  pub width : InRange section_width s.width.0
  pub height : InRange section_height s.height.0
  pub even : s.height.0 % 2 ≡ 0
  pub allowance : s.allowance.0 < 2 ^ 32
  pub count : InRange group_count (length s.groups)
  pub groups : all_of group_fits s.groups ≡ true
  pub bare : (bare_solid s.groups).0 ≤ (gross s).0

pub section-facts : (s : Section) → section_fits s ≡ true → SectionFacts s
section-facts s h =
    let a : _ = and_split (within section_width s.width.0) _ h in
    let b : _ = and_split (within section_height s.height.0) _ a.1 in
    let c : _ = and_split (eqb (s.height.0 % 2) 0) _ b.1 in
    let d : _ = and_split (ltb s.allowance.0 (2 ^ 32)) _ c.1 in
    let e : _ = and_split (within group_count (length s.groups)) _ d.1 in
    let f : _ = and_split (all_of group_fits s.groups) _ e.1 in
    record {
      width = in-range _ _ a.0;
      height = in-range _ _ b.0;
      even = eqb-true _ _ c.0;
      allowance = ltb-true _ _ d.0;
      count = in-range _ _ e.0;
      groups = f.0;
      bare = leb-true _ _ f.1;
    }

pub gross-bound : (s : Section) → SectionFacts s → (gross s).0 ≤ largest_gross
unfolding gross
gross-bound s h = mul-le-mul {n₂ = 15_000} {m₂ = 10_000} h.width.high h.height.high

coefficient-bound : (t : Length) (it : Item) (n : ℕ) → it.bare ≤ n → it.iced ≤ n → coefficient t it ≤ n
unfolding coefficient
coefficient-bound t it n h g = cond-bound (eqb t.0 0) (omega arith) (omega arith)

-- an item
pub record ItemFacts (it : Item) : Type 0 where
  pub width : InRange item_width it.width.0
  pub length : InRange item_length it.length.0
  pub bare : InRange coefficients it.bare
  pub iced : InRange coefficients it.iced
  pub position : InRange position_factor it.position

pub item-facts : (it : Item) → fields_in_range it ≡ true → ItemFacts it
item-facts it h =
    let a : _ = and_split _ (within position_factor it.position) h in
    let b : _ = and_split _ (within coefficients it.iced) a.0 in
    let c : _ = and_split _ (within coefficients it.bare) b.0 in
    let d : _ = and_split (within item_width it.width.0) (within item_length it.length.0) c.0 in
    record {
      width = in-range _ _ d.0;
      length = in-range _ _ d.1;
      bare = in-range _ _ c.1;
      iced = in-range _ _ b.1;
      position = in-range _ _ a.1;
    }

-- an item's part is at most that of the largest
pub item-bound : (t : Length) (it : Item) → t.0 ≤ 50 → fields_in_range it ≡ true → item_part t it ≤ largest_item
unfolding item_part item_area
item-bound t it ht h =
    let k : ItemFacts it = item-facts it h in
    let x : coefficient t it ≤ 3000 = coefficient-bound t it 3000 k.bare.high k.iced.high in
    let y : (it.width.0 + 2 * t.0) * it.length.0 ≤ 3100 * 10_000 =
    mul-le-mul {n₁ = it.width.0 + 2 * t.0} {m₁ = it.length.0} {n₂ = 3100} {m₂ = 10_000} (omega arith) (omega arith) in
    mul-le-mul {n₂ = 3000 * 1000} {m₂ = 3100 * 10_000} (mul-le-mul {n₂ = 3000} {m₂ = 1000} x k.position.high) y
