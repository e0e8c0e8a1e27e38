-- A wind that was put into the slots is what they stand for.
use Prim.Native.Nat.{ℕ, ◌+◌, ◌-◌, ◌*◌, ◌≤◌, ◌<◌, min}
use mathlib.Core.Path.{◌≡◌, refl, ap, sym, ◌∙◌}
use mathlib.Core.Bool.{true, false, not}
use mathlib.Core.List.{List, []}
use native.Mathlib.Omega.{arith}
use lib.ListN.{length, drop, get_or, set, length-set, length-drop}
use lib.Seq.{get_or-set_same, get_or-set_other, get_or-drop, ext_get_or, take_all}
use lib.Dec.{eqb}
use borrow.Author.Tests.{leb-true, eqb-true}
use Rattle.model.specs.Answers.{accepts}
use Rattle.model.specs.Lists.{all_of, any_of, list_to}
use Rattle.model.specs.Ranges.{within, ice_classes, structure_factor, pressures}
use Rattle.model.specs.Areas.{thickness, gross, solid_of}
use Rattle.model.specs.File.{legs_of}
use Rattle.model.specs.Tower.{Wind}
use Rattle.model.specs.Machine.{State, direction_fits, is_too_solid}
use Rattle.model.specs.Calls.{wind, refusal_of}
use Rattle.model.proofs.Lists.{all-at}
use Rattle.model.proofs.Forces.{WindFacts, wind-facts}
use Rattle.model.proofs.Refused.{same-lent}
use Rattle.model.proofs.Sections.{within-range}
use Rattle.exact.proofs.Bools.{and-join}
use Rattle.slots.specs.Held.{
  Slots,
  slot,
  cell,
  is_standing,
  count_in,
  held_in,
  stands_under,
  section_as,
  section_at,
  pressure_of,
  pressure_at,
  ground_of,
  is_windy,
  ice_on,
  tower_in,
  wind_in,
  state_of,
  PutSections,
}
use Rattle.slots.specs.Promises.{leaves, Meets}
use Rattle.slots.proofs.Lists.{list-take, none-there}
use Rattle.slots.proofs.Grounds.{standing-as, count-few, section-count, sections-are, ice-windy, ice-thin, section-fits}
use Rattle.slots.proofs.Nexts.{stands-if}
use Rattle.slots.proofs.WaysOut.{accepted}
use Rattle.tower_calls.specs.Placed.{WindHead}
use Rattle.tower_calls.proofs.Towers.{tower-is, wind-is, sections-stand}
use Rattle.tower_calls.proofs.Winds.{leb-ltb}

-- a pressure in its range is what its cell stands for
pressure-back : (q : ℕ) → within pressures q ≡ true → pressure_of q ≡ q
unfolding pressure_of
pressure-back q h = rw h

-- what a wind is asked for where no rule turns it down
pub record Taken (l : Slots) (w : Wind) : Type 0 where
  pub upright : is_standing l ≡ true
  pub direction : direction_fits (legs_of (cell l 0 1)) w.direction ≡ true
  pub class : within ice_classes w.ice ≡ true
  pub times : within structure_factor w.factor ≡ true
  pub count : length w.pressures ≡ count_in l
  pub pressed : all_of (within pressures) w.pressures ≡ true
  pub solid : any_of (is_too_solid w.ice) (list_to (section_at l (ice_on (ground_of l))) (count_in l)) ≡ false

pub wind-taken : (l : Slots) (w : Wind) → refusal_of (state_of l) (wind w) ≡ 0 → Taken l w
unfolding ground_of
wind-taken l w z =
    let s : is_standing l ≡ true = stands-if (wind w) refl l z in
    let f : WindFacts (tower_in l) w (eqb (length w.pressures) (length (tower_in l).sections)) 0 =
    wind-facts (tower_in l) w (eqb (length w.pressures) (length (tower_in l).sections)) 0
    (ap (λ (m : State). refusal_of m (wind w)) (sym (standing-as l s)) ∙ z) in
    record {
      upright = s;
      direction = f.direction;
      class = within-range f.ice;
      times = within-range f.factor;
      count = eqb-true _ _ f.count ∙ section-count l;
      pressed = f.pressure;
      solid = ap (any_of (is_too_solid w.ice)) (sym (sections-are l)) ∙ f.solid;
    }

module _ (l mid : Slots) (head : List ℕ) (w : Wind) (long : length l ≡ 129) (z : refusal_of (state_of l) (wind w) ≡ 0)
    (p : PutSections (section_at l (ice_on (ground_of l))) (λ i. get_or w.pressures i 0) (length w.pressures) l mid)
    (blown : WindHead (slot mid 0) w.direction w.ice w.factor head) where
  g : Taken l w
  g = wind-taken l w z

  abbrev after : Slots
  after = set mid 0 head

  after-long : length after ≡ 129
  after-long = length-set mid 0 head ∙ p.long ∙ long

  few : length w.pressures ≤ 32
  few = omega (arith, g.count, count-few l)

  first : slot after 0 ≡ head
  first = get_or-set_same mid 0 head [] (omega (arith, p.long))

  others : (j : ℕ) → 0 < j → slot after j ≡ slot mid j
  others j h = get_or-set_other mid 0 j head [] (λ z. omega arith)

  first-cells : (j : ℕ) → j < 4 → cell after 0 j ≡ cell l 0 j
  first-cells j h = ap (λ (r : List ℕ). get_or r j 0) first ∙ blown.counts j h ∙ ap (λ (r : List ℕ). get_or r j 0) p.above

  -- the sections' slots are as they were put, and the items' as they were
  section-as : (i : ℕ) → i < count_in l → section_as after i ≡ section_at l (ice_on (ground_of l)) i
  section-as i h = rw (others (1 + 2 * i) (omega arith), others (1 + 2 * i + 1) (omega arith)) (p.each i (omega (arith, g.count)))

  beyond : (j : ℕ) → 65 ≤ j → slot after j ≡ slot l j
  beyond j h = others j (omega arith) ∙ p.below j (omega (arith, few))

  same_count : count_in after ≡ count_in l
  unfolding count_in
  same_count = ap (λ (x : ℕ). min x 32) (first-cells 2 (omega arith))

  same-held : held_in after ≡ held_in l
  unfolding held_in
  same-held = ap (λ (x : ℕ). min x 64) (first-cells 3 (omega arith))

  same-items : drop 65 after ≡ drop 65 l
  same-items =
      ext_get_or [] (drop 65 after) (drop 65 l) (length-drop 65 after ∙ ap (λ (x : ℕ). x - 65) (after-long ∙ sym long) ∙ sym (length-drop 65 l))
      (λ j h. get_or-drop 65 after j [] ∙ beyond (65 + j) (omega arith) ∙ sym (get_or-drop 65 l j []))

  new-pressures : list_to (pressure_at after) (count_in l) ≡ w.pressures
  new-pressures =
      list-take (pressure_at after) w.pressures 0 (count_in l) (omega (arith, g.count))
      (λ j h.
      let b : j < length w.pressures = omega (arith, g.count) in
      ap pressure_of (ap (λ (r : List ℕ). get_or r 3 0) (others (1 + 2 * j) (omega arith)) ∙ p.pressed j b)
      ∙ pressure-back (get_or w.pressures j 0) (all-at (within pressures) w.pressures j 0 b g.pressed))
      ∙ take_all (count_in l) w.pressures (omega (arith, g.count))

  upright : is_standing after ≡ true
  unfolding is_standing
  upright = rw (first-cells 0 (omega arith)) g.upright

  blows : is_windy (ground_of after) ≡ true
  unfolding ground_of
  blows = rw (first-cells 1 (omega arith), first, blown.windy, blown.direction, blown.class, blown.times, g.direction, g.class, g.times)

  new-ice : ice_on (ground_of after) ≡ thickness w.ice
  new-ice = ice-windy after blows ∙ rw (first, blown.class)

  -- as the sections stood, they stand under the new ice
  stand : (i : ℕ) → i < count_in l → stands_under (thickness w.ice) (section_at l (ice_on (ground_of l)) i) ≡ true
  stand i h =
      let x = section_at l (ice_on (ground_of l)) i in
      and-join (section-fits l (ice_on (ground_of l)) (ice-thin l) i)
      (leb-ltb (solid_of (thickness w.ice) x.groups).0 (gross x).0
      ∙ ap not (none-there (is_too_solid w.ice) (section_at l (ice_on (ground_of l))) (count_in l) i h g.solid))

  same-sections : list_to (section_at after (thickness w.ice)) (count_in l) ≡ list_to (section_at l (ice_on (ground_of l))) (count_in l)
  same-sections = sections-stand after (thickness w.ice) (section_at l (ice_on (ground_of l))) (count_in l) section-as stand

  same-tower : tower_in after ≡ tower_in l
  same-tower = tower-is after ∙ rw (first-cells 1 (omega arith), new-ice, same_count, same-sections, same-held, same-items) (sym (tower-is l))

  new-wind : wind_in after ≡ w
  new-wind = wind-is after ∙ rw (first, blown.direction, blown.class, blown.times, same_count, new-pressures)

  pub wind-put : Meets (wind w) l after (accepts []) w.pressures
  unfolding leaves
  wind-put =
      accepted (wind w) l after z
      (standing-as after upright ∙ rw (blows, same-tower, new-wind, z, standing-as l g.upright))
      (sym (same-lent (state_of l) (wind w) refl))
      (λ i j h. ap (λ (r : List ℕ). get_or r j 0) (beyond i (leb-true 65 i h)))
