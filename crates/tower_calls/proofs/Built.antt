-- There are slots for each tower that erect lets in; and where wind is accepted there are slots that meet its promise.
use Rattle.std.proofs.Common.{◌≡◌, ℕ, zero, suc, ◌+◌, ◌*◌, ◌^◌, ◌≤◌, ◌<◌, true, ◌&&◌, List, [], take, length, get_or, set, refl, subst, add-one, arith}
use Rattle.std.proofs.Math.Option.{none}
use Rattle.std.proofs.lemmas.List.{take_all}
use borrow.Author.Tests.{ltb-true, lt-ltb}
use Rattle.model.specs.declared.Item.{Item}
use Rattle.model.specs.declared.Legs.{Legs}
use Rattle.model.specs.declared.Legs.TheVariants.{Three, Four}
use Rattle.model.specs.Answers.{accepts}
use Rattle.model.specs.Ranges.{section_count, item_count}
use Rattle.model.specs.Tower.{Section, Tower, Wind}
use Rattle.model.specs.Machine.{standing}
use Rattle.model.specs.Calls.{bits, typed_item, typed, wind, refusal_of}
use Rattle.model.specs.Valid.{section_fits, item_fits, ValidTower}
use Rattle.model.proofs.Lists.{all-at}
use Rattle.model.proofs.Sections.{in-range, section-facts}
use Rattle.model.proofs.Reached.{fit_parts, valid-item-typed}
use Rattle.model.proofs.Typed.{item-bounds}
use Rattle.areas.proofs.Facts.{no_item}
use Rattle.exact.proofs.Bools.{and_split}
use Rattle.slots.specs.Held.{Slots, slot, item_of, slot_of, field_slot, group_slot, least_section, section_at, ground_of, ice_on, state_of, empty_slots, PutSections}
use Rattle.slots.specs.Nexts.{typed_slot, TypedSlots, Next}
use Rattle.slots.proofs.Codec.{section-put, item_back}
use Rattle.slots.proofs.TypedSlots.{item-typed, fields-typed, groups-typed}
use Rattle.slots.proofs.Grounds.{count-few, ice-thin, section-fits}
use Rattle.slots.proofs.Nexts.{next-cell, typed-cell, slot-typed, typed-set}
use Rattle.tower_calls.specs.Placed.{section_in, head_of, PutItems, WindHead}
use Rattle.tower_calls.proofs.Puts.{sections-none, sections-more, items-none, items-more}
use Rattle.tower_calls.proofs.Towers.{tower-put}
use Rattle.tower_calls.proofs.Winds.{wind-head}
use Rattle.tower_calls.proofs.WindPut.{Taken, wind-taken, wind-put}

record Built (P : Slots → Type 0) : Type 0 where
  slots : Slots
  has : P slots
  typed : TypedSlots slots

-- sections that are in their ranges, with their pressures
module _ (f : ℕ → Section) (p : ℕ → ℕ) (l : Slots) (t : TypedSlots l) (n : ℕ) (few : n ≤ 32) (fits : (k : ℕ) → k < n → section_fits (f k) ≡ true)
    (small : (k : ℕ) → k < n → p k < 2 ^ 32) where
  build-sections : (i : ℕ) → i ≤ n → Built (PutSections f p i l)
  build-sections zero h = record { slots = l; has = sections-none f p l; typed = t }
  build-sections (suc i) h =
      let b = build-sections i (omega arith) in
      let fit : section_fits (f i) ≡ true = fits i (omega arith) in
      let fields : List ℕ = field_slot (f i) (p i) in
      let groups : List ℕ = group_slot (f i).groups in
      let first : TypedSlots (set b.slots (1 + 2 * i) fields) =
      typed-set b.slots b.typed (1 + 2 * i) fields (fields-typed (f i) (p i) fit (small i (omega arith))) in
      let after : Slots = set (set b.slots (1 + 2 * i) fields) (1 + 2 * i + 1) groups in
      record {
        slots = after;
        has =
            subst (λ (m : ℕ). PutSections f p m l after) (add-one i)
            (sections-more f p i b.has (section-put b.slots i (f i) (p i) b.typed.long (omega arith) fit));
        typed = typed-set _ first (1 + 2 * i + 1) groups (groups-typed (f i).groups (section-facts (f i) fit).count.high);
      }

-- items that are of their type and in their ranges
module _ (items : List Item) (l : Slots) (t : TypedSlots l) (few : length items ≤ 64)
    (backs : (k : ℕ) → k < length items → (typed_item (get_or items k no_item) ≡ true) × (item_of (slot_of (get_or items k no_item)) ≡ get_or items k no_item)) where
  build-items : (i : ℕ) → i ≤ length items → Built (PutItems (take i items) l)
  build-items zero h = record { slots = l; has = items-none l; typed = t }
  build-items (suc i) h =
      let b = build-items i (omega arith) in
      let it = get_or items i no_item in
      let back = backs i (omega arith) in
      record {
        slots = set b.slots (65 + i) (slot_of it);
        has =
            subst (λ (m : ℕ). PutItems (take m items) l (set b.slots (65 + i) (slot_of it))) (add-one i)
            (items-more items i no_item l b.slots (slot_of it) t.long (omega arith) (omega arith) b.has back.1);
        typed = typed-set b.slots b.typed (65 + i) (slot_of it) (item-typed it back.0);
      }

head-typed : (t : Tower) → length t.sections ≤ 32 → length t.items ≤ 64 → typed_slot (head_of t) ≡ true
head-typed t h g = by-legs t.legs
  where
    by-legs : (legs : Legs) → typed_slot (head_of (record { legs = legs; sections = t.sections; items = t.items })) ≡ true
    by-legs Three = rw (lt-ltb (length t.sections) (2 ^ 32) (omega arith), lt-ltb (length t.items) (2 ^ 32) (omega arith))
    by-legs Four = rw (lt-ltb (length t.sections) (2 ^ 32) (omega arith), lt-ltb (length t.items) (2 ^ 32) (omega arith))

-- slots of a tower under no wind
pub record Erected (t : Tower) : Type 0 where
  pub after : Slots
  pub stands : state_of after ≡ standing t none
  pub typed : TypedSlots after

module _ (t : Tower) (v : ValidTower t) where
  few-sections : length t.sections ≤ 32
  few-sections = (in-range section_count (length t.sections) v.count).high

  few-items : length t.items ≤ 64
  few-items = (in-range item_count (length t.items) v.held).high

  item-kept : (k : ℕ) → k < length t.items
      → (typed_item (get_or t.items k no_item) ≡ true) × (item_of (slot_of (get_or t.items k no_item)) ≡ get_or t.items k no_item)
  item-kept k h =
      let it = get_or t.items k no_item in
      let g : item_fits (length t.sections) it ≡ true = all-at (item_fits (length t.sections)) t.items k no_item h v.items in
      let typed : typed_item it ≡ true = valid-item-typed (length t.sections) it few-sections g in
      let b = item-bounds it typed in
      (typed, item_back it b.number b.section b.bare b.iced b.position (fit_parts (length t.sections) it g).2)

  pub erect-next : Erected t
  erect-next =
      let s =
      build-sections (section_in t.sections) (λ (k : ℕ). 0) empty_slots (record { long = refl; each = refl }) (length t.sections) few-sections
      (λ k h. all-at section_fits t.sections k least_section h v.sections) (λ k h. omega arith) (length t.sections) (omega arith) in
      let i = build-items t.items s.slots s.typed few-items item-kept (length t.items) (omega arith) in
      let all : take (length t.items) t.items ≡ t.items = take_all (length t.items) t.items (omega arith) in
      record {
        after = set i.slots 0 (head_of t);
        stands =
            tower-put t v empty_slots s.slots i.slots refl s.has (subst (λ (items : List Item). PutItems items s.slots i.slots) all i.has);
        typed = typed-set i.slots i.typed 0 (head_of t) (head-typed t few-sections few-items);
      }

-- slot 0 under a wind
abbrev wind_slot : List ℕ → ℕ → ℕ → ℕ → List ℕ
wind_slot h k ice factor = set (set (set (set h 4 1) 5 k) 6 ice) 7 factor

module _ (h : List ℕ) (t : typed_slot h ≡ true) (k ice factor : ℕ) (hk : k < 2 ^ 32) (hi : ice < 2 ^ 32) (hf : factor < 2 ^ 32) where
  blows : typed_slot (set h 4 1) ≡ true
  blows = typed-cell h t 4 1 (omega arith)

  faces : typed_slot (set (set h 4 1) 5 k) ≡ true
  faces = typed-cell (set h 4 1) blows 5 k hk

  ices : typed_slot (set (set (set h 4 1) 5 k) 6 ice) ≡ true
  ices = typed-cell (set (set h 4 1) 5 k) faces 6 ice hi

  wind-typed : typed_slot (wind_slot h k ice factor) ≡ true
  wind-typed = typed-cell (set (set (set h 4 1) 5 k) 6 ice) ices 7 factor hf

  wind-has : WindHead h k ice factor (wind_slot h k ice factor)
  wind-has =
      wind-head (next-cell h t 4 1 (omega arith)) (next-cell (set h 4 1) blows 5 k (omega arith))
      (next-cell (set (set h 4 1) 5 k) faces 6 ice (omega arith)) (next-cell (set (set (set h 4 1) 5 k) 6 ice) ices 7 factor (omega arith))

pub wind-next : (l : Slots) → TypedSlots l → (w : Wind) → typed (wind w) ≡ true → refusal_of (state_of l) (wind w) ≡ 0
    → Next (wind w) l (accepts []) w.pressures
wind-next l t w h z =
    let g : Taken l w = wind-taken l w z in
    let ps : _ = and_split (bits 32 w.direction && bits 32 w.ice && bits 32 w.factor) _ h in
    let factor : _ = and_split (bits 32 w.direction && bits 32 w.ice) _ ps.0 in
    let k : _ = and_split (bits 32 w.direction) _ factor.0 in
    let few : length w.pressures ≤ 32 = omega (arith, g.count, count-few l) in
    let b =
    build-sections (section_at l (ice_on (ground_of l))) (λ (i : ℕ). get_or w.pressures i 0) l t (length w.pressures) few
    (λ i q. section-fits l (ice_on (ground_of l)) (ice-thin l) i)
    (λ i q. omega (arith, ltb-true (get_or w.pressures i 0) (2 ^ 16) (all-at (bits 16) w.pressures i 0 q ps.1))) (length w.pressures) (omega arith) in
    let first = slot-typed b.slots b.typed 0 (omega arith) in
    let hk = ltb-true _ _ k.0 in
    let hi = ltb-true _ _ k.1 in
    let hf = ltb-true _ _ factor.1 in
    let head = wind_slot (slot b.slots 0) w.direction w.ice w.factor in
    record {
      after = set b.slots 0 head;
      meets =
          wind-put l b.slots head w t.long z b.has
          (wind-has (slot b.slots 0) first w.direction w.ice w.factor hk hi hf);
      typed = typed-set b.slots b.typed 0 head (wind-typed (slot b.slots 0) first w.direction w.ice w.factor hk hi hf);
    }
