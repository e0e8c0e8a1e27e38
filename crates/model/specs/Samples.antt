-- Document 01's starred sample towers, as one table, and document 02's of M-103. Structure factor 1 000, one section, b
-- = 2 000.
use Rattle.std.specs.Prelude.{ℕ, ◌+◌, ◌-◌, ◌≡◌, List, [], ◌∷◌}
use Rattle.exact.specs.Fraction.{Fraction, ◌//◌, whole, ◌·◌, ◌≈◌}
use Rattle.exact.specs.Rooted.{Rooted, ◌⊙◌, Same}
use Rattle.exact.specs.Number.{Every, Exact, AtMost, AtLeast, Within}
use Rattle.model.specs.declared.Legs.{Legs}
use Rattle.model.specs.declared.Legs.TheVariants.{Three, Four}
use Rattle.model.specs.declared.Member.{Member}
use Rattle.model.specs.declared.Member.TheVariants.{Flat, Round}
use Rattle.model.specs.declared.Flow.TheVariants.{Subcritical, Supercritical}
use Rattle.model.specs.declared.Item.{Item}
use Rattle.model.specs.Tower.{Tower, Wind}
use Rattle.model.specs.Areas.{thickness, flow_of}
use Rattle.model.specs.Force.{item_sum, formula}
use Rattle.model.specs.Report.{section_at, exact_at}

-- legs, direction k, pressure q, ice class, height h, the one group's member and length, and the items
pub record Sample : Type 0 where
  pub legs : Legs
  pub k : ℕ
  pub q : ℕ
  pub ice : ℕ
  pub height : ℕ
  pub member : Member
  pub length : ℕ
  pub items : List Item

unfoldable pub tower_for : Sample → Tower
tower_for x =
    record {
      legs = x.legs;
      sections =
          record {
            width = record { 0 = 2000 };
            height = record { 0 = x.height };
            allowance = record { 0 = 0 };
            groups = record { member = x.member; length = record { 0 = x.length } } ∷ [];
          }
          ∷ [];
      items = x.items;
    }

unfoldable pub wind_for : Sample → Wind
wind_for x = record { direction = x.k; ice = x.ice; factor = 1000; pressures = x.q ∷ [] }

unfoldable pub exact_of : Sample → Exact
exact_of x = exact_at (tower_for x) (wind_for x) 0

-- the formula's value at full pressure
unfoldable pub formula_of : Sample → Rooted
formula_of x =
    formula x.legs x.k (thickness x.ice) 1000 (section_at (tower_for x) 0) (item_sum (thickness x.ice) 0 x.items) x.q

-- the rows of the table
unfoldable pub flat : Legs → ℕ → ℕ → List Item → Sample
flat l k ice items =
    record { legs = l; k = k; q = 1000; ice = ice; height = 6000; member = Flat (record { 0 = 100 }); length = 24_000; items = items }

unfoldable pub round : Legs → ℕ → ℕ → ℕ → ℕ → Sample
round l height diameter length q =
    record { legs = l; k = 0; q = q; ice = 0; height = height; member = Round (record { 0 = diameter }); length = length; items = [] }

-- 300 by 2 000, coefficient 1 200, K 800
unfoldable pub dish : Item
dish =
    record {
      number = 1;
      section = 0;
      width = record { 0 = 300 };
      length = record { 0 = 2000 };
      bare = 1200;
      iced = 0;
      position = 800;
    }

-- a sample with its exact force, from below and from above
pub record Entry : Type 0 where
  pub sample : Sample
  pub low : Fraction
  pub high : Fraction

unfoldable pub equals : Sample → Fraction → Entry
equals x value = record { sample = x; low = value; high = value }

unfoldable pub table : List Entry
table =
    equals (flat Four 0 0 []) (703_296 // 100)
    ∷ equals (flat Four 1 0 []) (72_263_664 // 10_000)
    ∷ equals (flat Four 3 0 []) (78_065_856 // 10_000)
    ∷ equals (flat Four 0 2 []) (876_040_704 // 100_000)
    ∷ equals (flat Three 0 0 []) (6_099_456 // 1000)
    ∷ equals (flat Three 2 0 []) (57_944_832 // 10_000)
    ∷ equals (flat Three 4 0 []) (54_895_104 // 10_000)
    ∷ equals (round Four 6000 100 24_000 1000) (whole 4080)
    ∷ equals (round Three 5000 300 6100 1000) (198_189 // 100)
    ∷ record { sample = round Three 6000 300 8000 1000; low = 259_962 // 100; high = 259_963 // 100 }
    ∷ equals (flat Four 0 0 (dish ∷ [])) ((703_296 + 57_600) // 100)
    ∷ []

-- low ≤ exact ≤ high
pub record Holds (x : Entry) : Type 0 where
  pub low : AtMost x.low (exact_of x.sample)
  pub high : AtLeast (exact_of x.sample) x.high

-- n and n + 1 may be reported, their neighbours may not
pub record OnlyThese (e : Exact) (n : ℕ) : Type 0 where
  pub first : Within 2 e n
  pub second : Within 2 e (n + 1)
  pub none_below : Within 2 e (n - 1) → ⊥
  pub none_above : Within 2 e (n + 2) → ⊥

-- 2.4 m² at 1 000 N/m²: 2 400 (1.9 − √0.6672) newtons
unfoldable pub tube_force : Rooted
tube_force = whole 2400 ⊙ record { rational = 19 // 10; factor = whole 1; radicand = 6672 // 10_000 }

-- the table's statement
pub record StarredSamples : Type 0 where
  pub forces : Every Holds table
  -- the root 0.817, and 1.9 − √0.6672
  pub root_0817 : (formula_of (round Three 5000 300 6100 1000)).radicand ≈ 817 // 1000 · 817 // 1000
  pub root_06672 : Same (formula_of (round Three 6000 300 8000 1000)) tube_force
  pub reported_7033 : OnlyThese (exact_of (flat Four 0 0 [])) 7033
  pub reported_4080 : OnlyThese (exact_of (round Four 6000 100 24_000 1000)) 4080
  pub reported_2600 : OnlyThese (exact_of (round Three 6000 300 8000 1000)) 2600
  -- document 02, M-103: at q = 251 the lesser wind of 250 loads more
  pub reported_690 : OnlyThese (exact_of (round Three 5000 300 6100 251)) 690
  pub subcritical_at_1000 : flow_of (thickness 0) 1000 (Round (record { 0 = 150 })) ≡ Subcritical
  pub supercritical_at_1001 : flow_of (thickness 0) 1001 (Round (record { 0 = 150 })) ≡ Supercritical
