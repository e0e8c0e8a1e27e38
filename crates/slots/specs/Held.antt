-- What a lent state is to document 01's machine. It is 129 slots of 12 cells, and EVERY value of them stands for a
-- state of the machine: a count beyond its slots counts as their number, an item whose fields are out of range as one
-- of no force, a wind whose direction, ice class or structure factor is out of range as none, a pressure that is out of
-- range as none, and a section that is out of range, or too solid under the wind's ice, as the least one. No call makes
-- such values, and no call has to look for them beyond what it uses.
-- Slot 0: 1 where a tower stands, legs, number of sections, number of items, 1 where a wind stands, direction, ice
-- class, structure factor. Slots 1 to 64: two for each section. Slots 65 to 128: the items in hanging order.
use Rattle.std.specs.Prelude.{ℕ, ◌%◌, ◌/◌, ◌+◌, ◌-◌, ◌*◌, ◌≤◌, ◌<◌, ◌≡◌, ◌≢◌, Bool, cond, ◌&&◌, List, [], ◌∷◌, ◌++◌, map, eqb, leb, length, take, drop, get_or, replicate, min}
use Rattle.std.proofs.Math.Option.{none, some}
use Rattle.units.specs.declared.Length.{Length}
use Rattle.model.specs.declared.Item.{Item}
use Rattle.model.specs.declared.Group.{Group}
use Rattle.model.specs.declared.Member.TheVariants.{Flat}
use Rattle.model.specs.Lists.{list_to}
use Rattle.model.specs.Ranges.{within, ice_classes, structure_factor, pressures}
use Rattle.model.specs.Areas.{size_of, thickness, gross, solid_of}
use Rattle.model.specs.Tower.{Section, Tower, Wind}
use Rattle.model.specs.Bytes.{kind_of}
use Rattle.model.specs.File.{fields_in_range, legs_of, member_of}
use Rattle.model.specs.Valid.{group_fits, section_fits}
use Rattle.model.specs.Machine.{State, no_tower, standing, direction_fits}

abbrev pub Slots : Type 0
Slots = List (List ℕ)

abbrev pub slot : Slots → ℕ → List ℕ
slot l i = get_or l i []

abbrev pub cell : Slots → ℕ → ℕ → ℕ
cell l i j = get_or (slot l i) j 0

unfoldable pub is_standing : Slots → Bool
is_standing l = eqb (cell l 0 0) 1

-- a count, and no more than the slots
unfoldable pub count_in : Slots → ℕ
count_in l = min (cell l 0 2) 32

unfoldable pub held_in : Slots → ℕ
held_in l = min (cell l 0 3) 64

-- an item's number, which its slot tells whatever its other cells
abbrev pub number_in : List ℕ → ℕ
number_in r = get_or r 0 0 % 65_536

-- an item, and the slot that it is kept in
abbrev pub item_in : List ℕ → Item
item_in r =
    record {
      number = get_or r 0 0 % 65_536;
      section = get_or r 1 0 % 256;
      width = record { 0 = get_or r 2 0 };
      length = record { 0 = get_or r 3 0 };
      bare = get_or r 4 0 % 65_536;
      iced = get_or r 5 0 % 65_536;
      position = get_or r 6 0 % 65_536;
    }

abbrev pub no_force : Item → Item
no_force it =
    record {
      number = it.number;
      section = it.section;
      width = record { 0 = 1 };
      length = record { 0 = 1 };
      bare = 0;
      iced = 0;
      position = 0;
    }

unfoldable pub item_of : List ℕ → Item
item_of r = cond (fields_in_range (item_in r)) (item_in r) (no_force (item_in r))

abbrev pub slot_of : Item → List ℕ
slot_of it =
    it.number ∷ it.section ∷ it.width.0 ∷ it.length.0 ∷ it.bare ∷ it.iced ∷ it.position ∷ 0 ∷ 0 ∷ 0 ∷ 0 ∷ 0 ∷ []

-- the first n items
abbrev pub items_to : Slots → ℕ → List Item
items_to l n = map item_of (take n (drop 65 l))

abbrev pub items_in : Slots → List Item
items_in l = items_to l (held_in l)

-- a group is one number: 1 where it is round, twice its width below 2 048, and its length from there
abbrev pub group_in : ℕ → Group
group_in x = record { member = member_of (x % 2) (record { 0 = x / 2 % 1024 }); length = record { 0 = x / 2048 } }

abbrev pub packed : Group → ℕ
packed g = kind_of g.member + 2 * (size_of g.member).0 + 2048 * g.length.0

unfoldable pub group_number : Group → ℕ
group_number g = cond (group_fits g) (packed g) 0

-- a section: width, height, allowance, pressure and number of groups in one slot, and its groups in the next
abbrev pub section_in : List ℕ → List ℕ → Section
section_in a b =
    record {
      width = record { 0 = get_or a 0 0 };
      height = record { 0 = get_or a 1 0 };
      allowance = record { 0 = get_or a 2 0 };
      groups = list_to (λ (j : ℕ). group_in (get_or b j 0)) (min (get_or a 4 0) 8);
    }

abbrev pub least_section : Section
least_section =
    record {
      width = record { 0 = 100 };
      height = record { 0 = 100 };
      allowance = record { 0 = 0 };
      groups = record { member = Flat (record { 0 = 1 }); length = record { 0 = 1 } } ∷ [];
    }

-- the section is in its ranges, and its A_S under ice of thickness t is at most A_u
abbrev pub stands_under : Length → Section → Bool
stands_under t s = section_fits s && leb (solid_of t s.groups).0 (gross s).0

unfoldable pub section_of : Length → List ℕ → List ℕ → Section
section_of t a b = cond (stands_under t (section_in a b)) (section_in a b) least_section

-- a section's two slots
abbrev pub field_slot : Section → ℕ → List ℕ
field_slot s q = s.width.0 ∷ s.height.0 ∷ s.allowance.0 ∷ q ∷ length s.groups ∷ replicate 7 0

abbrev pub group_slot : List Group → List ℕ
group_slot gs = map group_number gs ++ replicate (12 - length gs) 0

-- the slots of section i, as they are, and what they stand for under ice of thickness t
abbrev pub section_as : Slots → ℕ → Section
section_as l i = section_in (slot l (1 + 2 * i)) (slot l (1 + 2 * i + 1))

abbrev pub section_at : Slots → Length → ℕ → Section
section_at l t i = section_of t (slot l (1 + 2 * i)) (slot l (1 + 2 * i + 1))

-- a pressure
unfoldable pub pressure_of : ℕ → ℕ
pressure_of q = cond (within pressures q) q 0

abbrev pub pressure_at : Slots → ℕ → ℕ
pressure_at l i = pressure_of (cell l (1 + 2 * i) 3)

-- all of a state but its items: the cells of slot 0 beside the number of items, and the sections' slots
pub record Ground : Type 0 where
  pub legs : ℕ
  pub count : ℕ
  pub windy : ℕ
  pub direction : ℕ
  pub ice : ℕ
  pub factor : ℕ
  pub slots : Slots

unfoldable pub ground_of : Slots → Ground
ground_of l =
    record {
      legs = cell l 0 1;
      count = count_in l;
      windy = cell l 0 4;
      direction = cell l 0 5;
      ice = cell l 0 6;
      factor = cell l 0 7;
      slots = take 64 (drop 1 l);
    }

-- whether a wind stands: its numbers are ones that wind takes
abbrev pub is_windy : Ground → Bool
is_windy g =
    eqb g.windy 1
    && (direction_fits (legs_of g.legs) g.direction && (within ice_classes g.ice && within structure_factor g.factor))

-- the ice that the sections stand under
unfoldable pub ice_on : Ground → Length
ice_on g = thickness (cond (is_windy g) g.ice 0)

abbrev pub section_on : Ground → ℕ → Section
section_on g i = section_of (ice_on g) (slot g.slots (2 * i)) (slot g.slots (2 * i + 1))

abbrev pub pressure_on : Ground → ℕ → ℕ
pressure_on g i = pressure_of (cell g.slots (2 * i) 3)

abbrev pub tower_on : Ground → List Item → Tower
tower_on g items = record { legs = legs_of g.legs; sections = list_to (section_on g) g.count; items = items }

abbrev pub wind_on : Ground → Wind
wind_on g =
    record {
      direction = g.direction;
      ice = g.ice;
      factor = g.factor;
      pressures = list_to (pressure_on g) g.count;
    }

-- the tower and the wind that stand in the slots
abbrev pub tower_in : Slots → Tower
tower_in l = tower_on (ground_of l) (items_in l)

abbrev pub wind_in : Slots → Wind
wind_in l = wind_on (ground_of l)

unfoldable pub state_of : Slots → State
state_of l =
    cond (is_standing l) (standing (tower_in l) (cond (is_windy (ground_of l)) (some (wind_in l)) none)) no_tower

-- every cell is 0
abbrev pub empty_slots : Slots
empty_slots = replicate 129 (replicate 12 0)

-- a slot with another number in cell j
pub record NextCell (before : List ℕ) (j x : ℕ) (after : List ℕ) : Type 0 where
  pub it : get_or after j 0 ≡ x
  pub others : (k : ℕ) → k ≢ j → get_or after k 0 ≡ get_or before k 0

-- the slots of section i stand for this one, under this pressure; all others are as they were
pub record PutSection (section : Section) (pressure i : ℕ) (before after : Slots) : Type 0 where
  pub long : length after ≡ length before
  pub it : section_as after i ≡ section
  pub pressed : cell after (1 + 2 * i) 3 ≡ pressure
  pub others : (j : ℕ) → j ≢ 1 + 2 * i → j ≢ 1 + 2 * i + 1 → slot after j ≡ slot before j

-- the same of the first n sections
pub record PutSections (sections : ℕ → Section) (pressure : ℕ → ℕ) (n : ℕ) (before after : Slots) : Type 0 where
  pub long : length after ≡ length before
  pub each : (k : ℕ) → k < n → section_as after k ≡ sections k
  pub pressed : (k : ℕ) → k < n → cell after (1 + 2 * k) 3 ≡ pressure k
  pub above : slot after 0 ≡ slot before 0
  pub below : (j : ℕ) → 1 + 2 * n ≤ j → slot after j ≡ slot before j
