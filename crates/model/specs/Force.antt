-- Document 01, "The exact force", with document 02, M-103: the formulas of annex NA.B as printed, with fractions.
-- Fractions are written n // d.
use Rattle.std.specs.Prelude.{ℕ, ◌+◌, ◌*◌, ◌%◌, ◌^◌, cond, List, [], ◌∷◌, map, eqb, get_or}
use Rattle.units.specs.declared.Length.{Length}
use Rattle.units.specs.declared.Area.{Area}
use Rattle.exact.specs.Fraction.{Fraction, ◌//◌, whole, ◌⊕◌, ◌⊖◌, ◌·◌, ◌≼ᵇ◌}
use Rattle.exact.specs.Rooted.{Rooted, ◌⊞◌, ◌⊙◌}
use Rattle.exact.specs.Number.{Exact}
use Rattle.model.specs.declared.Legs.{Legs}
use Rattle.model.specs.declared.Legs.TheVariants.{Three, Four}
use Rattle.model.specs.declared.Areas.{Areas}
use Rattle.model.specs.declared.Item.{Item}
use Rattle.model.specs.Lists.{sum_by}
use Rattle.model.specs.Tower.{Section}
use Rattle.model.specs.Areas.{item_area, gross, areas_of, solid, lesser_winds}

-- areas in m²
unfoldable pub m² : Area → Fraction
m² a = a.0 // 1_000_000

-- φ = A_S / A_u: the areas of the groups, never those of the items
unfoldable pub solidity : Areas → Area → Fraction
solidity a u = (solid a).0 // u.0

-- C1, C2 = 2.25, 1.5 for four legs; 1.9, 1.4 for three
unfoldable pub C1 : Legs → Fraction
C1 Four = 225 // 100
C1 Three = 19 // 10

unfoldable pub C2 : Legs → Fraction
C2 Four = 15 // 10
C2 Three = 14 // 10

-- c_f = 1.76 C1 (1 − C2 φ + φ²), NA.B.5a
unfoldable pub c_f : Legs → Fraction → Fraction
c_f l φ = 176 // 100 · C1 l · (whole 1 ⊖ C2 l · φ ⊕ φ · φ)

-- c_c = C1 (1 − C2 φ) + (C1 + 0.875) φ², NA.B.5b
unfoldable pub c_c : Legs → Fraction → Fraction
c_c l φ = C1 l · (whole 1 ⊖ C2 l · φ) ⊕ (C1 l ⊕ 875 // 1000) · (φ · φ)

-- c_p = 1.9 − √((1 − φ)(2.8 − 1.14 C1 + φ)), NA.B.5c
unfoldable pub c_p : Legs → Fraction → Rooted
c_p l φ =
    record {
      rational = 19 // 10;
      factor = whole 1;
      radicand = (whole 1 ⊖ φ) · (28 // 10 ⊖ 114 // 100 · C1 l ⊕ φ);
    }

-- K1 = (0.55 A_f + 0.8 (A_c + A_p)) / A_S, NA.B.3c
unfoldable pub K1 : Areas → Fraction
K1 a =
    (55 // 100 · whole a.flat.0 ⊕ 8 // 10 · whole (a.subcritical.0 + a.supercritical.0)) · 1 // (solid a).0

-- K2 = 0.2 for φ ≤ 0.2 and φ ≥ 0.8, φ for 0.2 < φ ≤ 0.5, 1 − φ between 0.5 and 0.8, NA.B.3d to f
unfoldable pub K2 : Fraction → Fraction
K2 φ =
    cond (φ ≼ᵇ 2 // 10) (2 // 10)
    (cond (8 // 10 ≼ᵇ φ) (2 // 10)
    (cond (φ ≼ᵇ 5 // 10) φ (whole 1 ⊖ φ)))

-- s = sin²(2θ) on four legs, θ = 15° k, in quarters: 0, 1/4, 3/4, 1, 3/4, 1/4 for k mod 6 = 0 to 5
unfoldable pub quarters : ℕ → ℕ
quarters k = get_or (0 ∷ 1 ∷ 3 ∷ 4 ∷ 3 ∷ 1 ∷ []) (k % 6) 0

-- s = sin²(1.5θ) on three legs, in halves: 0, 1/2, 1, 1/2 for k mod 8 = 0, 2, 4, 6; an odd k is turned down
unfoldable pub halves : ℕ → ℕ
halves k = get_or (0 ∷ 0 ∷ 1 ∷ 0 ∷ 2 ∷ 0 ∷ 1 ∷ 0 ∷ []) (k % 8) 0

unfoldable pub s : Legs → ℕ → Fraction
s Four k = quarters k // 4
s Three k = halves k // 2

-- Kθ = 1 + K1 K2 s on four legs, NA.B.3a; (A_c + A_p)/A_S + (A_f/A_S)(1 − 0.1 s) on three, NA.B.3b
unfoldable pub Kθ : Legs → ℕ → Fraction → Areas → Fraction
Kθ Four k φ a = whole 1 ⊕ K1 a · K2 φ · s Four k
Kθ Three k φ a =
    (a.subcritical.0 + a.supercritical.0) // (solid a).0
    ⊕ a.flat.0 // (solid a).0 · (whole 1 ⊖ 1 // 10 · s Three k)

-- an item's coefficient in thousandths: the iced one if t > 0
unfoldable pub coefficient : Length → Item → ℕ
coefficient t it = cond (eqb t.0 0) it.bare it.iced

-- coefficient times K times area, in millionths of mm²
unfoldable pub item_part : Length → Item → ℕ
item_part t it = coefficient t it * it.position * (item_area t it).0

-- the sum over the items of section i
unfoldable pub item_sum : Length → ℕ → List Item → ℕ
item_sum t i items = sum_by (λ it. cond (eqb it.section i) (item_part t it) 0) items

-- the largest item: 3 m by 10 m under 50 mm of ice, coefficient 3 and K 1; no section has more than 64 of it (laws
-- `item-bound`, `items-bound`)
abbrev pub largest_item : ℕ
largest_item = 3000 * 1000 * (3100 * 10_000)

abbrev pub largest_items : ℕ
largest_items = 64 * largest_item

-- Kθ (c_f A_f + c_c A_c + c_p A_p) + items, in m²
unfoldable pub resistance : Legs → ℕ → Area → Areas → ℕ → Rooted
resistance l k u a items =
    let φ : Fraction = solidity a u in
    items // 1_000_000_000_000
    ⊞ Kθ l k φ a ⊙ (c_f l φ · m² a.flat ⊕ c_c l φ · m² a.subcritical ⊞ m² a.supercritical ⊙ c_p l φ)

-- q times structure factor times [..], for a face with these areas
unfoldable pub face_force : Legs → ℕ → ℕ → ℕ → Area → Areas → ℕ → Rooted
face_force l k factor q u a items = whole q · factor // 1000 ⊙ resistance l k u a items

-- document 01's formula for a section in a wind of pressure p, every group classed at p and its items under p: legs,
-- direction k, ice t, structure factor, the section, its items' sum
unfoldable pub formula : Legs → ℕ → Length → ℕ → Section → ℕ → ℕ → Rooted
formula l k t factor section items p = face_force l k factor p (gross section) (areas_of t p section.groups) items

-- the exact force on a section under pressure q. NA.B.2.3.2.1(5): no lower wind may load a section more whose groups
-- are taken as supercritical. So it is the greatest of the formula's values at q and in the lesser winds of its groups;
-- no whole pressure up to q gives more (theorem `exact-greatest` in proofs/MorePressure).
unfoldable pub exact_force : Legs → ℕ → Length → ℕ → Section → ℕ → ℕ → Exact
exact_force l k t factor section q items =
    map (formula l k t factor section items) (q ∷ lesser_winds t q section.groups)

-- no exact force of a valid tower is larger, in N (law `bound_at` in proofs/Forces)
abbrev pub largest_force : ℕ
largest_force = 2 ^ 27
