-- Every state that a list of calls comes to from a valid one is valid; and what a valid state holds is of its type, so
-- that calls can be given it again.
use Prim.Native.Nat.{ℕ, ◌^◌, ◌≤◌, ◌<◌}
use mathlib.Core.Path.{◌≡◌, refl}
use mathlib.Core.Bool.{Bool, true, false, cond, not}
use mathlib.Core.List.{List, [], ◌∷◌, ◌++◌}
use mathlib.Core.Option.{Option}
use native.Mathlib.Omega.{arith}
use lib.Dec.{leb, ltb, eqb, lit<}
use lib.ListN.{length, length-append}
use borrow.Author.Tests.{leb-false, ltb-true, lt-leb, lt-ltb, eqb-true, not-false}
use Rattle.model.specs.declared.Legs.{Legs}
use Rattle.model.specs.declared.Legs.TheVariants.{Three, Four}
use Rattle.model.specs.declared.Item.{Item}
use Rattle.model.specs.declared.Range.{Range}
use Rattle.model.specs.Lists.{all_of}
use Rattle.model.specs.Ranges.{within, item_count, item_width, item_length, coefficients, position_factor, directions, ice_classes, structure_factor, pressures}
use Rattle.model.specs.Tower.{Tower, Wind}
use Rattle.model.specs.Reading.{Parsed, got, refused}
use Rattle.model.specs.File.{read_file, numbered, fields_in_range}
use Rattle.model.specs.Machine.{State, no_tower, standing, unless_refused, erected, with_items, hang_refusal, hung, without, taken_down, direction_fits, wind_refusal, under_wind}
use Rattle.model.specs.Calls.{bits, typed_item, typed_wind, Call, erect, hang, take_down, wind, report, check, write, typed, meaning, refusal_of, step, run}
use Rattle.model.specs.Valid.{item_fits, distinct, ValidTower, ValidWind, ValidState, calm, windy}
use Rattle.exact.proofs.Bools.{and_split, and-join}
use Rattle.model.proofs.Lists.{all-grow, all_weaker, all-kept, length-kept}
use Rattle.model.proofs.Distinct.{distinct_more, distinct-kept}
use Rattle.model.proofs.Typed.{item-bounds, bounds-typed}
use Rattle.model.proofs.Sections.{InRange, in-range, within-range, item-facts}
use Rattle.model.proofs.Forces.{refuse-none, wind-facts}
use Rattle.model.proofs.Accepted.{accepted-valid}

-- a call changes the state only where it is accepted
unless-case : (P : State → Type 0) (n : ℕ) (old new : State) → P old → (n ≡ 0 → P new) → P (unless_refused n old new)
unless-case P n old new h g = by-case (eqb n 0) refl
  where
    by-case : (b : Bool) → eqb n 0 ≡ b → P (cond b new old)
    by-case true e = g (eqb-true n 0 e)
    by-case false e = h

-- the same tower with other items
pub valid-items : {t : Tower} → ValidTower t → (items : List Item) → length items ≤ 64 → all_of (item_fits (length t.sections)) items ≡ true
    → distinct items ≡ true → ValidTower (with_items t items)
valid-items v items few fit new =
    record { count = v.count; sections = v.sections; held = within-range (record { low = omega arith; high = few }); items = fit; numbers = new }

pub tower-in : {t : Tower} {w : Option Wind} → ValidState (standing t w) → ValidTower t
tower-in (calm v) = v
tower-in (windy v) = v.tower

other_items : {t : Tower} {w : Option Wind} {items : List Item} → ValidState (standing t w) → ValidTower (with_items t items)
    → ValidState (standing (with_items t items) w)
other_items (calm v) n = calm n
other_items (windy v) n = windy (record { tower = n; accepted = v.accepted })

-- the parts of the test of an item
pub fit_parts : (n : ℕ) (it : Item) → item_fits n it ≡ true → (it.number < 2 ^ 16) × (it.section < n) × (fields_in_range it ≡ true)
fit_parts n it h =
    let a : _ = and_split (ltb it.number (2 ^ 16)) _ h in
    let b : _ = and_split (ltb it.section n) _ a.1 in
    (ltb-true _ _ a.0, ltb-true _ _ b.0, b.1)

-- what hang asks
pub record HangFacts (t : Tower) (it : Item) : Type 0 where
  pub room : length t.items < 64
  pub new : numbered it.number t.items ≡ false
  pub there : it.section < length t.sections
  pub fields : fields_in_range it ≡ true

module _ (t : Tower) (w : Option Wind) (it : Item) where
  pub hang-facts : hang_refusal (standing t w) it ≡ 0 → HangFacts t it
  hang-facts h =
      let a : _ = refuse-none (leb item_count.high (length t.items)) 9 _ (omega arith) h in
      let b : _ = refuse-none (numbered it.number t.items) 10 _ (omega arith) a.1 in
      let c : _ = refuse-none (leb (length t.sections) it.section) 11 _ (omega arith) b.1 in
      let d : _ = refuse-none (not (fields_in_range it)) 12 _ (omega arith) c.1 in
      record { room = leb-false _ _ a.0; new = b.0; there = leb-false _ _ c.0; fields = not-false _ d.0 }

  pub hang-accepted : HangFacts t it → hang_refusal (standing t w) it ≡ 0
  hang-accepted h = rw (lt-leb _ _ h.room, h.new, lt-leb _ _ h.there, h.fields)

-- call by call
erect-valid : (m : State) (p : Parsed Tower) → ((t : Tower) (rest : List ℕ) → p ≡ got t rest → ValidTower t) → ValidState m → ValidState (erected m p)
erect-valid m (got t rest) h v = calm (h t rest refl)
erect-valid m (refused n) h v = v

hang-valid : (m : State) (it : Item) → bits 16 it.number ≡ true → hang_refusal m it ≡ 0 → ValidState m → ValidState (hung m it)
hang-valid no_tower it b e v = v
hang-valid (standing t w) it b e v =
    let h : HangFacts t it = hang-facts t w it e in
    let u : ValidTower t = tower-in v in
    other_items v
    (valid-items u (t.items ++ (it ∷ [])) (omega (arith, length-append t.items (it ∷ []), h.room))
    (all-grow (item_fits (length t.sections)) t.items it u.items (and-join b (and-join (lt-ltb _ _ h.there) h.fields)))
    (rw (distinct_more, h.new) (and-join u.numbers refl)))

down-valid : (m : State) (n : ℕ) → ValidState m → ValidState (taken_down m n)
down-valid no_tower n v = v
down-valid (standing t w) n v =
    let u : ValidTower t = tower-in v in
    let other : Item → Bool = λ it. not (eqb it.number n) in
    other_items v
    (valid-items u (without n t.items) (omega (arith, length-kept other t.items, (in-range item_count (length t.items) u.held).high))
    (all-kept other (item_fits (length t.sections)) t.items u.items) (distinct-kept other t.items u.numbers))

wind-valid : (m : State) (w : Wind) → wind_refusal m w ≡ 0 → ValidState m → ValidState (under_wind m w)
wind-valid no_tower w e v = v
wind-valid (standing t old) w e v = windy (record { tower = tower-in v; accepted = e })

next-valid : (m : State) (c : Call) → typed c ≡ true → ValidState m → refusal_of m c ≡ 0 → ValidState (meaning m c).next
next-valid m (erect file) h v e = erect-valid m (read_file file) (λ t rest q. accepted-valid file h q) v
next-valid m (hang it) h v e = hang-valid m it (lt-ltb _ _ (item-bounds it h).number) e v
next-valid m (take_down n) h v e = down-valid m n v
next-valid m (wind w) h v e = wind-valid m w e v
next-valid m (report lent) h v e = v
next-valid m check h v e = v
next-valid m (write lent) h v e = v

pub step-valid : (m : State) (c : Call) → typed c ≡ true → ValidState m → ValidState (step m c)
step-valid m c h v = unless-case ValidState (refusal_of m c) m (meaning m c).next v (next-valid m c h v)

pub run-valid : (m : State) (cs : List Call) → all_of typed cs ≡ true → ValidState m → ValidState (run m cs)
run-valid m [] h v = v
run-valid m (c ∷ cs) h v =
    let k : _ = and_split (typed c) (all_of typed cs) h in
    run-valid (step m c) cs k.1 (step-valid m c k.0 v)

-- a number in a range that ends below 2 to the w
range-below : (w : ℕ) (r : Range) {x : ℕ} → r.high < 2 ^ w → InRange r x → x < 2 ^ w
range-below w r b h = omega (arith, h.high)

range-typed : (w : ℕ) (r : Range) (x : ℕ) → r.high < 2 ^ w → InRange r x → bits w x ≡ true
range-typed w r x b h = lt-ltb x (2 ^ w) (range-below w r b h)

-- an item on a tower of n sections, and a wind
pub valid-item-typed : (n : ℕ) (it : Item) → n ≤ 32 → item_fits n it ≡ true → typed_item it ≡ true
valid-item-typed n it few h =
    let parts : _ = fit_parts n it h in
    let k : _ = item-facts it parts.2 in
    bounds-typed it
    (record {
      number = parts.0;
      section = omega arith;
      width = range-below 32 item_width (lit< tt) k.width;
      length = range-below 32 item_length (lit< tt) k.length;
      bare = range-below 16 coefficients (lit< tt) k.bare;
      iced = range-below 16 coefficients (lit< tt) k.iced;
      position = range-below 16 position_factor (lit< tt) k.position;
    })

direction-range : (l : Legs) (k : ℕ) → direction_fits l k ≡ true → within directions k ≡ true
direction-range Three k h = (and_split (within directions k) _ h).0
direction-range Four k h = h

pub valid-wind-typed : {t : Tower} {w : Wind} → ValidWind t w → typed_wind w ≡ true
valid-wind-typed {t} {w} v =
    let k : _ = wind-facts t w (eqb (length w.pressures) (length t.sections)) 0 v.accepted in
    let d : InRange directions w.direction = in-range directions w.direction (direction-range t.legs w.direction k.direction) in
    let p : all_of (bits 16) w.pressures ≡ true =
    all_weaker (within pressures) (bits 16) (λ x h. range-typed 16 pressures x (lit< tt) (in-range pressures x h)) w.pressures k.pressure in
    rw (
      range-typed 32 directions w.direction (lit< tt) d,
      range-typed 32 ice_classes w.ice (lit< tt) k.ice,
      range-typed 32 structure_factor w.factor (lit< tt) k.factor,
      p,
    )
