-- The tests of a section that may stand under ice, and what is known of it.
use Prim.Native.Nat.{ℕ, ◌+◌, ◌*◌, ◌%◌, ◌^◌, ◌≤◌}
use mathlib.Core.Path.{◌≡◌, refl, ap, ◌∙◌}
use mathlib.Core.Bool.{Bool, true, false, ◌&&◌, and_assoc, and-false}
use mathlib.Core.List.{List, [], ◌∷◌}
use native.Mathlib.Nat.{mul-le-mul}
use native.Mathlib.Omega.{arith}
use lib.Dec.{leb, ltb, eqb}
use lib.ListN.{length, take}
use lib.Seq.{length-take-le}
use borrow.Author.Tests.{leb-true, le-leb}
use Rattle.units.specs.declared.Length.{Length}
use Rattle.model.specs.declared.Group.{Group}
use Rattle.model.specs.declared.Section.{Section}
use Rattle.model.specs.Lists.{all_of, sum_by}
use Rattle.model.specs.Ranges.{within, section_width, section_height, group_count}
use Rattle.model.specs.Tower.{section_of}
use Rattle.model.specs.Areas.{size_of, group_area, gross, solid_of, bare_solid}
use Rattle.model.specs.Valid.{group_fits, section_fits}
use Rattle.exact.proofs.Bools.{and_split}
use Rattle.model.proofs.Sections.{in-range, section-facts}
use Rattle.areas.specs.Fits.{fits_under, sizes_fit}

pub record UnderFacts (t : Length) (s : Section) : Type 0 where
  pub ice : t.0 ≤ 50
  pub count : s.groups.count ≤ 8
  pub fits : section_fits (section_of s) ≡ true
  pub solid : (solid_of t (section_of s).groups).0 ≤ (gross (section_of s)).0

pub under-facts : (t : Length) (s : Section) → fits_under t s ≡ true → UnderFacts t s
unfolding fits_under
under-facts t s h =
    let a : _ = and_split (leb t.0 50) _ h in
    let b : _ = and_split (leb s.groups.count 8) _ a.1 in
    let c : _ = and_split (section_fits (section_of s)) _ b.1 in
    record { ice = leb-true _ _ a.0; count = leb-true _ _ b.0; fits = c.0; solid = leb-true _ _ c.1 }

-- the sizes that pass
pub record SizeFacts (s : Section) : Type 0 where
  pub width : s.width.0 ≤ 15_000
  pub height : s.height.0 ≤ 10_000
  pub count : s.groups.count ≤ 8

pub size-facts : (s : Section) → sizes_fit s ≡ true → SizeFacts s
unfolding sizes_fit
size-facts s h =
    let a : _ = and_split _ (within group_count s.groups.count) h in
    let b : _ = and_split _ (ltb s.allowance.0 (2 ^ 32)) a.0 in
    let c : _ = and_split _ (eqb (s.height.0 % 2) 0) b.0 in
    let d : _ = and_split (within section_width s.width.0) (within section_height s.height.0) c.0 in
    record {
      width = (in-range section_width _ d.0).high;
      height = (in-range section_height _ d.1).high;
      count = (in-range group_count _ a.1).high;
    }

-- a larger number below a third says that a smaller one is
both_below : (a b c : ℕ) → a ≤ b → (leb a c && leb b c) ≡ leb b c
both_below a b c h = by-case (leb b c) refl
  where
    by-case : (x : Bool) → leb b c ≡ x → (leb a c && x) ≡ x
    by-case true e = rw (le-leb a c (let k : b ≤ c = leb-true b c e in omega arith))
    by-case false e = and-false (leb a c)

-- ice adds to the area of each group
group-more : (t : Length) (g : Group) → (group_area (record { 0 = 0 }) g).0 ≤ (group_area t g).0
unfolding group_area
group-more t g = mul-le-mul {n₁ = (size_of g.member).0 + 2 * 0} {m₁ = g.length.0} {n₂ = (size_of g.member).0 + 2 * t.0} {m₂ = g.length.0} (omega arith) (omega arith)

solid-more : (t : Length) (gs : List Group) → (bare_solid gs).0 ≤ (solid_of t gs).0
unfolding solid_of sum_by
solid-more t [] = omega arith
solid-more t (g ∷ gs) = omega (arith, group-more t g, solid-more t gs)

-- the tests in the order in which they are made
module _ (t : Length) (s : Section) where
  abbrev pub rest : Bool
  rest =
      all_of group_fits (section_of s).groups
      && (leb (bare_solid (section_of s).groups).0 (gross (section_of s)).0
      && leb (solid_of t (section_of s).groups).0 (gross (section_of s)).0)

  counted : (b : Bool) → leb s.groups.count 8 ≡ b
      → (b && (section_fits (section_of s) && leb (solid_of t (section_of s).groups).0 (gross (section_of s)).0)) ≡ (sizes_fit s && rest)
  unfolding sizes_fit
  counted true e =
      let m : s.groups.count ≤ 8 = leb-true s.groups.count 8 e in
      let n : length (take s.groups.count s.groups.places) ≡ s.groups.count = length-take-le _ _ (omega (arith, m, s.groups.whole)) in
      simp (n, and_assoc)
  counted false e = simp (e, and-false)

  pub under-order : t.0 ≤ 50 → fits_under t s ≡ (sizes_fit s && rest)
  unfolding fits_under
  under-order h = rw (le-leb _ _ h) (counted (leb s.groups.count 8) refl)

  -- ice adds to A_S, so that the test under ice is enough
  pub under-iced : t.0 ≤ 50
      → fits_under t s ≡ (sizes_fit s && (all_of group_fits (section_of s).groups && leb (solid_of t (section_of s).groups).0 (gross (section_of s)).0))
  under-iced h =
      under-order h
      ∙ ap (λ (b : Bool). sizes_fit s && (all_of group_fits (section_of s).groups && b))
      (both_below _ _ _ (solid-more t (section_of s).groups))

-- what is known of the sizes and the groups of a section that stands
pub under-sizes : (t : Length) (s : Section) → fits_under t s ≡ true → SizeFacts s
under-sizes t s h =
    let f = section-facts (section_of s) (under-facts t s h).fits in
    record { width = f.width.high; height = f.height.high; count = (under-facts t s h).count }
