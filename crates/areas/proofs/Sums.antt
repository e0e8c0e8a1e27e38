-- A_f, A_c and A_p, group by group; the items' sums of all sections, item by item.
use Prim.Native.Nat.{ℕ, ◌+◌, ◌*◌, ◌≤◌, ◌<◌}
use mathlib.Core.Path.{◌≡◌, refl, ap, sym, ◌∙◌}
use mathlib.Core.Bool.{Bool, true, false, cond}
use mathlib.Core.List.{List, []}
use native.Mathlib.Omega.{arith}
use lib.Dec.{eqb}
use lib.ListN.{length, get_or, set, take, replicate, length-set, get_or-replicate}
use lib.Seq.{get_or-set_same, get_or-set_other}
use borrow.Author.Tests.{eqb-true, eqb-false, ne_eqb}
use Rattle.units.specs.declared.Length.{Length}
use Rattle.units.specs.declared.Area.{Area}
use Rattle.model.specs.declared.Areas.{Areas}
use Rattle.model.specs.declared.Flow.{Flow}
use Rattle.model.specs.declared.Flow.TheVariants as flow
use Rattle.model.specs.declared.Group.{Group}
use Rattle.model.specs.declared.Item.{Item}
use Rattle.model.specs.Lists.{sum_by}
use Rattle.model.specs.Areas.{same_flow, flow_of, group_area, area_in, areas_of, solid_of}
use Rattle.model.specs.Force.{item_part, item_sum, largest_item}
use Rattle.model.proofs.Lists.{sum_by-none, sum_by-more}
use Rattle.model.specs.Valid.{group_fits}
use Rattle.areas.specs.Sums.{Added, SmallAreas}
use Rattle.areas.proofs.Facts.{GroupFacts, group-facts, group-bound}

abbrev areas : ℕ → ℕ → ℕ → Areas
areas x y z = record { flat = record { 0 = x }; subcritical = record { 0 = y }; supercritical = record { 0 = z } }

pub areas-eq : (a b : Areas) → a.flat.0 ≡ b.flat.0 → a.subcritical.0 ≡ b.subcritical.0 → a.supercritical.0 ≡ b.supercritical.0 → a ≡ b
areas-eq a b p q r =
    let h : areas a.flat.0 a.subcritical.0 a.supercritical.0 ≡ areas b.flat.0 b.subcritical.0 b.supercritical.0 = cc in
    h

share-bound : (b : Bool) (a : Area) (n : ℕ) → a.0 ≤ n → (cond b a (record { 0 = 0 })).0 ≤ n
share-bound true a n h = h
share-bound false a n h = omega arith

pub area-in-bound : (class : Flow) (t : Length) (q : ℕ) (g : Group) → t.0 ≤ 50 → GroupFacts g → (area_in class t q g).0 ≤ 220_000_000
unfolding area_in
area-in-bound class t q g h f = share-bound (same_flow class (flow_of t q g.member)) (group_area t g) _ (group-bound t g h f)

pub areas-none : (t : Length) (q : ℕ) → areas 0 0 0 ≡ areas_of t q []
unfolding areas_of sum_by
areas-none t q = refl

-- one turn of the loop over the groups
pub areas-more : (t : Length) (q : ℕ) (l : List Group) (i : ℕ) (d : Group) → i < length l → (a r : Areas)
    → a ≡ areas_of t q (take i l) → Added t q (get_or l i d) a r → r ≡ areas_of t q (take (i + 1) l)
unfolding areas_of
areas-more t q l i d h a r e s =
    let f : _ = sum_by-more (λ g. (area_in flow.Flat t q g).0) l i d h in
    let c : _ = sum_by-more (λ g. (area_in flow.Subcritical t q g).0) l i d h in
    let p : _ = sum_by-more (λ g. (area_in flow.Supercritical t q g).0) l i d h in
    areas-eq r _
    (omega (arith, ap (λ (x : Areas). x.flat.0) e))
    (omega (arith, ap (λ (x : Areas). x.subcritical.0) e))
    (omega (arith, ap (λ (x : Areas). x.supercritical.0) e))

-- after i groups: the sums over them, each at most that of i of the largest groups
pub record AreasAfter (t : Length) (q : ℕ) (l : List Group) (i : ℕ) (a : Areas) : Type 0 where
  pub sums : a ≡ areas_of t q (take i l)
  pub flat : a.flat.0 ≤ i * 220_000_000
  pub subcritical : a.subcritical.0 ≤ i * 220_000_000
  pub supercritical : a.supercritical.0 ≤ i * 220_000_000

pub after_none : (t : Length) (q : ℕ) (l : List Group) {a : Areas} → (a.flat.0 ≡ 0) × ((a.subcritical.0 ≡ 0) × (a.supercritical.0 ≡ 0))
    → AreasAfter t q l 0 a
after_none t q l {a} z =
    record {
      sums = areas-eq a (areas 0 0 0) z.0 z.1.0 z.1.1 ∙ areas-none t q;
      flat = omega (arith, z.0);
      subcritical = omega (arith, z.1.0);
      supercritical = omega (arith, z.1.1);
    }

pub after-more : (t : Length) (q : ℕ) (l : List Group) (i : ℕ) (d : Group) → t.0 ≤ 50 → i < length l → group_fits (get_or l i d) ≡ true
    → {a r : Areas} → AreasAfter t q l i a → Added t q (get_or l i d) a r → AreasAfter t q l (i + 1) r
after-more t q l i d thin h fits {a} {r} s e =
    let k = group-facts (get_or l i d) fits in
    let f = area-in-bound flow.Flat t q (get_or l i d) thin k in
    let b = area-in-bound flow.Subcritical t q (get_or l i d) thin k in
    let p = area-in-bound flow.Supercritical t q (get_or l i d) thin k in
    record { sums = areas-more t q l i d h a r s.sums e; flat = omega arith; subcritical = omega arith; supercritical = omega arith }

pub after-small : {t : Length} {q : ℕ} {l : List Group} {i : ℕ} {a : Areas} → i ≤ 8 → AreasAfter t q l i a → SmallAreas a
after-small few s = record { flat = omega arith; subcritical = omega arith; supercritical = omega arith }

-- the same for A_S
area-eq : {a b : Area} → a.0 ≡ b.0 → a ≡ b
area-eq e = ap (λ (n : ℕ). let x : Area = record { 0 = n } in x) e

pub solid-none : (t : Length) {a : Area} → a.0 ≡ 0 → a ≡ solid_of t []
unfolding solid_of sum_by
solid-none t e = area-eq e

pub solid-next : (t : Length) (l : List Group) (i : ℕ) (d : Group) → i < length l → {sum a r : Area}
    → sum ≡ solid_of t (take i l) → a ≡ group_area t (get_or l i d) → r.0 ≡ sum.0 + a.0 → r ≡ solid_of t (take (i + 1) l)
unfolding solid_of
solid-next t l i d h e f g = area-eq (g ∙ rw (e, f, sum_by-more (λ g. (group_area t g).0) l i d h))

items-none : (t : Length) (section : ℕ) → item_sum t section [] ≡ 0
unfolding item_sum
items-none t section = sum_by-none _

items_more : (t : Length) (section : ℕ) (l : List Item) (i : ℕ) (d : Item) → i < length l
    → item_sum t section (take (i + 1) l) ≡ item_sum t section (take i l) + cond (eqb (get_or l i d).section section) (item_part t (get_or l i d)) 0
unfolding item_sum
items_more t section l i d h = sum_by-more (λ it. cond (eqb it.section section) (item_part t it) 0) l i d h

-- after n items: each section's sum over them, at most that of n of the largest
pub record SumsAfter (t : Length) (items : List Item) (n : ℕ) (sums : List ℕ) : Type 0 where
  pub long : length sums ≡ 32
  pub sum : (i : ℕ) → i < 32 → get_or sums i 0 ≡ item_sum t i (take n items)
  pub small : (i : ℕ) → i < 32 → get_or sums i 0 ≤ n * largest_item

pub sums_none : (t : Length) (items : List Item) → SumsAfter t items 0 (replicate 32 0)
sums_none t items =
    record {
      long = refl;
      sum = λ i h. get_or-replicate {A = ℕ} 32 i 0 0 h ∙ sym (items-none t i);
      small = λ i h. omega (arith, get_or-replicate {A = ℕ} 32 i 0 0 h);
    }

share-small : (b : Bool) (n : ℕ) → cond b n 0 ≤ n
share-small true n = omega arith
share-small false n = omega arith

-- a part goes to the sum of its section alone
part-added : (sums : List ℕ) (section part i : ℕ) → section < length sums
    → get_or (set sums section (get_or sums section 0 + part)) i 0 ≡ get_or sums i 0 + cond (eqb section i) part 0
part-added sums section part i h = by-case (eqb section i) refl
  where
    by-case : (b : Bool) → eqb section i ≡ b → get_or (set sums section (get_or sums section 0 + part)) i 0 ≡ get_or sums i 0 + cond b part 0
    by-case true e = rw (← eqb-true section i e) (get_or-set_same sums section _ 0 h)
    by-case false e = omega (arith, get_or-set_other sums section i (get_or sums section 0 + part) 0 (λ z. eqb-false section i e (sym z)))

-- one item more
module _ (t : Length) (items : List Item) (n : ℕ) (d : Item) (h : n < length items) {sums : List ℕ} (s : SumsAfter t items n sums) where
  abbrev section : ℕ
  section = (get_or items n d).section

  -- on one of the 32 sections
  pub sums_on : {part : ℕ} → part ≡ item_part t (get_or items n d) → part ≤ largest_item → section < 32
      → SumsAfter t items (n + 1) (set sums section (get_or sums section 0 + part))
  sums_on {part} e b k =
      let g : section < length sums = omega (arith, s.long) in
      record {
        long = length-set sums section _ ∙ s.long;
        sum = λ i q. part-added sums section part i g ∙ rw (s.sum i q, e, items_more t i items n d h);
        small = λ i q. omega (arith, part-added sums section part i g, s.small i q, share-small (eqb section i) part);
      }

  -- on none of them
  pub sums-off : 32 ≤ section → SumsAfter t items (n + 1) sums
  sums-off k =
      record {
        long = s.long;
        sum = λ i q.
            let o : eqb section i ≡ false = ne_eqb section i (λ z. omega (arith, k, q)) in
            let m = rw o at (items_more t i items n d h) in
            omega (arith, s.sum i q);
        small = λ i q. omega (arith, s.small i q);
      }
