-- What stands in the slots, over plain values.
use Prim.Native.Nat.{ℕ, ◌+◌, ◌*◌, ◌≤◌, ◌<◌}
use mathlib.Core.Path.{◌≡◌, refl, ap, sym, ◌∙◌}
use mathlib.Core.Logic.{◌≢◌}
use mathlib.Core.Bool.{Bool, true, false, cond}
use mathlib.Core.List.{List, [], ◌∷◌, ◌++◌, map, map-append}
use mathlib.Core.Option.{none, some}
use native.Mathlib.Numerals.{add-one}
use native.Mathlib.Omega.{arith}
use lib.Dec.{eqb, leb}
use lib.ListN.{length, take, drop, set, length-map, length-drop}
use lib.Seq.{take-suc-set, drop-set-add, get_or-take, get_or-drop, length-take-le, ext_get_or}
use Rattle.units.specs.declared.Length.{Length}
use Rattle.model.specs.Lists.{list_to}
use Rattle.model.specs.Ranges.{within, ice_classes, structure_factor, pressures}
use Rattle.model.specs.Areas.{thickness, gross, solid_of}
use Rattle.model.specs.File.{legs_of}
use Rattle.model.specs.Valid.{section_fits}
use Rattle.model.specs.Machine.{no_tower, standing, direction_fits}
use Rattle.model.proofs.Lists.{length-list_to}
use Rattle.model.proofs.Sections.{in-range}
use Rattle.exact.proofs.Bools.{and_split}
use Rattle.slots.specs.Held.{Slots, slot, cell, is_standing, count_in, held_in, item_of, items_to, items_in, section_in, stands_under, section_of, least_section, section_at, pressure_of, pressure_at, ground_of, is_windy, ice_on, section_on, pressure_on, tower_in, wind_in, state_of}
use Rattle.slots.proofs.Lists.{list_same}
use Rattle.slots.proofs.Codec.{least-stands}

-- the state
pub standing-as : (l : Slots) → is_standing l ≡ true
    → state_of l ≡ standing (tower_in l) (cond (is_windy (ground_of l)) (some (wind_in l)) none)
unfolding state_of
standing-as l h = rw h

pub fallen : (l : Slots) → is_standing l ≡ false → state_of l ≡ no_tower
unfolding state_of
fallen l h = rw h

-- the counts
pub count-few : (l : Slots) → count_in l ≤ 32
unfolding count_in
count-few l = omega arith

pub held-few : (l : Slots) → held_in l ≤ 64
unfolding held_in
held-few l = omega arith

pub section-count : (l : Slots) → length (tower_in l).sections ≡ count_in l
unfolding ground_of
section-count l = length-list_to (section_on (ground_of l)) (count_in l)

pub item_count : (l : Slots) → length l ≡ 129 → length (items_in l) ≡ held_in l
item_count l long =
    length-map (take (held_in l) (drop 65 l)) item_of
    ∙ length-take-le (held_in l) (drop 65 l) (omega (arith, held-few l, length-drop 65 l))

-- one item more, in the slot after the others
pub items-next : (l : Slots) (i : ℕ) (r : List ℕ) → length l ≡ 129 → i < 64 → items_to (set l (65 + i) r) (i + 1) ≡ items_to l i ++ (item_of r ∷ [])
items-next l i r long h =
    ap (λ (m : Slots). map item_of (take (i + 1) m)) (drop-set-add 65 l i r)
    ∙ rw (add-one, take-suc-set (drop 65 l) i r (omega (arith, length-drop 65 l)), map-append) refl

-- what is known where a wind stands
pub record WindyFacts (l : Slots) : Type 0 where
  pub direction : direction_fits (legs_of (cell l 0 1)) (cell l 0 5) ≡ true
  pub ice : cell l 0 6 ≤ 5
  pub factor : cell l 0 7 ≤ 2000

module _ (l : Slots) where
  pub windy-facts : is_windy (ground_of l) ≡ true → WindyFacts l
  unfolding ground_of
  windy-facts h =
      let a : _ = and_split (eqb (cell l 0 4) 1) _ h in
      let b : _ = and_split (direction_fits (legs_of (cell l 0 1)) (cell l 0 5)) _ a.1 in
      let c : _ = and_split (within ice_classes (cell l 0 6)) _ b.1 in
      record { direction = b.0; ice = (in-range ice_classes _ c.0).high; factor = (in-range structure_factor _ c.1).high }

  -- the ice that the sections stand under
  pub ice-windy : is_windy (ground_of l) ≡ true → ice_on (ground_of l) ≡ thickness (cell l 0 6)
  unfolding ice_on ground_of
  ice-windy h = rw h

  pub ice-calm : is_windy (ground_of l) ≡ false → ice_on (ground_of l) ≡ record { 0 = 0 }
  unfolding ice_on ground_of
  ice-calm h = rw h

  pub ice-thin : (ice_on (ground_of l)).0 ≤ 50
  ice-thin = by-case (is_windy (ground_of l)) refl
    where
      by-case : (b : Bool) → is_windy (ground_of l) ≡ b → (ice_on (ground_of l)).0 ≤ 50
      by-case true e = rw (ice-windy e) (omega (arith, (windy-facts e).ice))
      by-case false e = rw (ice-calm e) (omega arith)

-- every section stands under the ice that it is read for, and no pressure is above the range
module _ (t : Length) (thin : t.0 ≤ 50) (a b : List ℕ) where
  stands : stands_under t (section_of t a b) ≡ true
  unfolding section_of
  stands = by-case (stands_under t (section_in a b)) refl
    where
      by-case : (c : Bool) → stands_under t (section_in a b) ≡ c → stands_under t (cond c (section_in a b) least_section) ≡ true
      by-case true e = e
      by-case false e = least-stands t thin

module _ (l : Slots) (t : Length) (thin : t.0 ≤ 50) (i : ℕ) where
  pub section-fits : section_fits (section_at l t i) ≡ true
  section-fits = (and_split (section_fits (section_at l t i)) _ (stands t thin _ _)).0

  pub section-solid : leb (solid_of t (section_at l t i).groups).0 (gross (section_at l t i)).0 ≡ true
  section-solid = (and_split (section_fits (section_at l t i)) _ (stands t thin _ _)).1

pub pressure-small : (l : Slots) (i : ℕ) → pressure_at l i ≤ 5000
unfolding pressure_of
pressure-small l i = by-case (within pressures (cell l (1 + 2 * i) 3)) refl
  where
    by-case : (b : Bool) → within pressures (cell l (1 + 2 * i) 3) ≡ b → cond b (cell l (1 + 2 * i) 3) 0 ≤ 5000
    by-case true e = (in-range pressures (cell l (1 + 2 * i) 3) e).high
    by-case false e = omega arith

-- the sections and pressures of the ground are those of the slots
section-slot : (l : Slots) (j : ℕ) → j < 64 → slot (take 64 (drop 1 l)) j ≡ slot l (1 + j)
section-slot l j h = get_or-take 64 (drop 1 l) j [] h ∙ get_or-drop 1 l j []

module _ (l : Slots) where
  first_slot : (i : ℕ) → i < 32 → slot (take 64 (drop 1 l)) (2 * i) ≡ slot l (1 + 2 * i)
  first_slot i h = section-slot l (2 * i) (omega arith)

  next-slot : (i : ℕ) → i < 32 → slot (take 64 (drop 1 l)) (2 * i + 1) ≡ slot l (1 + 2 * i + 1)
  next-slot i h = section-slot l (2 * i + 1) (omega arith) ∙ ap (slot l) {x = 1 + (2 * i + 1)} {y = 1 + 2 * i + 1} (omega arith)

  pub section-on : (i : ℕ) → i < 32 → section_on (ground_of l) i ≡ section_at l (ice_on (ground_of l)) i
  unfolding ground_of
  section-on i h = rw (first_slot i h, next-slot i h)

  pub pressure-on : (i : ℕ) → i < 32 → pressure_on (ground_of l) i ≡ pressure_at l i
  unfolding ground_of
  pressure-on i h = rw (first_slot i h)

  pub sections-are : (tower_in l).sections ≡ list_to (section_at l (ice_on (ground_of l))) (count_in l)
  unfolding ground_of
  sections-are = list_same (section_on (ground_of l)) _ (count_in l) (λ i h. section-on i (omega (arith, count-few l)))

  pub pressures-are : (wind_in l).pressures ≡ list_to (pressure_at l) (count_in l)
  unfolding ground_of
  pressures-are = list_same (pressure_on (ground_of l)) _ (count_in l) (λ i h. pressure-on i (omega (arith, count-few l)))

-- slots that agree in the sections, and in the cells of slot 0 beside the first and the number of items, are one ground
module _ (l m : Slots) (long : length l ≡ 129) (as_long : length m ≡ 129) where
  sections-long : (k : Slots) → length k ≡ 129 → length (take 64 (drop 1 k)) ≡ 64
  sections-long k e = length-take-le 64 (drop 1 k) (omega (arith, length-drop 1 k))

  same-sections : ((j : ℕ) → 1 ≤ j → j ≤ 64 → slot l j ≡ slot m j) → take 64 (drop 1 l) ≡ take 64 (drop 1 m)
  same-sections same =
      ext_get_or [] (take 64 (drop 1 l)) (take 64 (drop 1 m)) (sections-long l long ∙ sym (sections-long m as_long))
      (λ i h.
      let k : i < 64 = omega (arith, sections-long l long) in
      section-slot l i k ∙ same (1 + i) (omega arith) (omega arith) ∙ sym (section-slot m i k))

  pub ground-cells : ((j : ℕ) → 1 ≤ j → j ≤ 64 → slot l j ≡ slot m j)
      → ((j : ℕ) → 1 ≤ j → j ≤ 7 → j ≢ 3 → cell l 0 j ≡ cell m 0 j) → ground_of l ≡ ground_of m
  unfolding ground_of count_in
  ground-cells same head =
      rw (
        head 1 (omega arith) (omega arith) (λ z. omega arith),
        head 2 (omega arith) (omega arith) (λ z. omega arith),
        head 4 (omega arith) (omega arith) (λ z. omega arith),
        head 5 (omega arith) (omega arith) (λ z. omega arith),
        head 6 (omega arith) (omega arith) (λ z. omega arith),
        head 7 (omega arith) (omega arith) (λ z. omega arith),
        same-sections same,
      )
