-- Document 01, "The report" and check, for a tower under a wind. A foot is named by the number n of sections down to
-- it.
use Rattle.std.specs.Prelude.{ℕ, zero, suc, ◌+◌, ◌*◌, ◌-◌, ◌/◌, ◌<◌, ◌≡◌, Bool, true, not, ◌&&◌, List, [], ◌∷◌, ◌++◌, eqb, ltb, length, get_or, take}
use Rattle.units.specs.declared.Length.{Length}
use Rattle.units.specs.declared.Force.{Force}
use Rattle.units.specs.declared.Moment.{Moment}
use Rattle.exact.specs.Number.{Exact, ceiling}
use Rattle.exact.specs.Sum.{Term}
use Rattle.model.specs.declared.Areas.{Areas}
use Rattle.model.specs.Lists.{sum_to, list_to, kept}
use Rattle.model.specs.Tower.{Section, Tower, Wind}
use Rattle.model.specs.Areas.{thickness, areas_of}
use Rattle.model.specs.Force.{item_sum, exact_force}

-- what is read past the last section
abbrev pub no_section : Section
no_section = record { width = record { 0 = 0 }; height = record { 0 = 0 }; allowance = record { 0 = 0 }; groups = [] }

abbrev pub section_at : Tower → ℕ → Section
section_at t i = get_or t.sections i no_section

abbrev pub pressure_at : Wind → ℕ → ℕ
pressure_at w i = get_or w.pressures i 0

unfoldable pub height_at : Tower → ℕ → Length
height_at t i = (section_at t i).height

-- A_f, A_c and A_p of section i
unfoldable pub areas_at : Tower → Wind → ℕ → Areas
areas_at t w i = areas_of (thickness w.ice) (pressure_at w i) (section_at t i).groups

-- the exact force on section i
unfoldable pub exact_at : Tower → Wind → ℕ → Exact
exact_at t w i =
    exact_force t.legs w.direction (thickness w.ice) w.factor (section_at t i) (pressure_at w i)
    (item_sum (thickness w.ice) i t.items)

-- the reported force: the least whole number of newtons that is not below the exact force
unfoldable pub force_at : Tower → Wind → ℕ → Force
force_at t w i = record { 0 = ceiling (exact_at t w i) }

-- the arm of a force on section j about foot n: from mid-height of j down through the sections below it
unfoldable pub arm : (ℕ → Length) → ℕ → ℕ → Length
arm height j n = record { 0 = (height j).0 / 2 + sum_to (λ m. (height (suc j + m)).0) (n - suc j) }

-- the shear at foot n: the sum of the forces from the top
unfoldable pub shear : (ℕ → Force) → ℕ → Force
shear force n = record { 0 = sum_to (λ j. (force j).0) n }

-- the moment at foot n: the sum of those forces times their arms
unfoldable pub moment : (ℕ → Force) → (ℕ → Length) → ℕ → Moment
moment force height n = record { 0 = sum_to (λ j. (force j).0 * (arm height j n).0) n }

-- the six numbers of section i: A_f, A_c, A_p, force, shear at its foot, moment at its foot
unfoldable pub row : (ℕ → Areas) → (ℕ → Force) → (ℕ → Length) → ℕ → List ℕ
row areas force height i =
    (areas i).flat.0
    ∷ (areas i).subcritical.0
    ∷ (areas i).supercritical.0
    ∷ (force i).0
    ∷ (shear force (i + 1)).0
    ∷ (moment force height (i + 1)).0
    ∷ []

abbrev pub shear_at : Tower → Wind → ℕ → Force
shear_at t w n = shear (force_at t w) n

abbrev pub moment_at : Tower → Wind → ℕ → Moment
moment_at t w n = moment (force_at t w) (height_at t) n

abbrev pub row_at : Tower → Wind → ℕ → List ℕ
row_at t w i = row (areas_at t w) (force_at t w) (height_at t) i

-- the rows of the first n sections, and of all
unfoldable pub rows_to : Tower → Wind → ℕ → List ℕ
rows_to t w zero = []
rows_to t w (suc n) = rows_to t w n ++ row_at t w n

abbrev pub rows_of : Tower → Wind → List ℕ
rows_of t w = rows_to t w (length t.sections)

-- the exact shear and the exact moment at foot n, as sums of exact forces, each times its arm
unfoldable pub shear_terms : Tower → Wind → ℕ → List Term
shear_terms t w n = list_to (λ j. record { exact = exact_at t w j; arm = 1 }) n

unfoldable pub moment_terms : Tower → Wind → ℕ → List Term
moment_terms t w n = list_to (λ j. record { exact = exact_at t w j; arm = (arm (height_at t) j n).0 }) n

-- the sum of the arms about foot n
unfoldable pub arms_to : Tower → ℕ → Length
arms_to t n = record { 0 = sum_to (λ j. (arm (height_at t) j n).0) n }

-- an allowance is exceeded by a shear: it is not 0, which says that none is stated, and the shear is above it
unfoldable pub exceeds : Force → Force → Bool
exceeds shear allowance = not (eqb allowance.0 0) && ltb allowance.0 shear.0

-- section i is over its allowance: the reported shear at its foot exceeds it
abbrev pub is_over : Tower → Wind → ℕ → Bool
is_over t w i = exceeds (shear_at t w (i + 1)) (section_at t i).allowance

pub record IsOver (t : Tower) (w : Wind) (i : ℕ) : Type 0 where
  pub section : i < length t.sections
  pub over : is_over t w i ≡ true

-- section i is the topmost one over: it is over its allowance, and none above it is
pub record TopmostOver (t : Tower) (w : Wind) (i : ℕ) : Type 0 where
  pub is-over : IsOver t w i
  pub none_above : (j : ℕ) → j < i → IsOver t w j → ⊥

-- the sections over their allowances, from the top; and the topmost of them, or none. By proofs/Topmost `topmost_over`
-- has i exactly if section i is the topmost over, and nothing exactly if none is over
unfoldable pub over_sections : Tower → Wind → List ℕ
over_sections t w = kept (is_over t w) (list_to (λ i. i) (length t.sections))

unfoldable pub topmost_over : Tower → Wind → List ℕ
topmost_over t w = take 1 (over_sections t w)
