-- Document 01, "Areas and flow". Areas are in mm², pressures q in N/m², t is the thickness of the ice.
use Rattle.std.specs.Prelude.{ℕ, ◌+◌, ◌*◌, ◌/◌, Bool, true, false, cond, ◌&&◌, List, [], ◌∷◌, eqb, ltb}
use Rattle.units.specs.declared.Length.{Length}
use Rattle.units.specs.declared.Area.{Area}
use Rattle.model.specs.declared.Member.{Member}
use Rattle.model.specs.declared.Member.TheVariants.{Flat, Round}
use Rattle.model.specs.declared.Flow.{Flow}
use Rattle.model.specs.declared.Flow.TheVariants as flow
use Rattle.model.specs.declared.Areas.{Areas}
use Rattle.model.specs.declared.Group.{Group}
use Rattle.model.specs.declared.Item.{Item}
use Rattle.model.specs.Lists.{sum_by, joined}
use Rattle.model.specs.Tower.{Section}

-- ice class 0 is bare; 1 to 5 are G1 to G5 of ISO 12494: t = 10, 20, 30, 40, 50 mm
abbrev pub thickness : ℕ → Length
thickness class = record { 0 = 10 * class }

-- (width + 2t) times length
abbrev pub iced_area : Length → Length → Length → Area
iced_area t width length = record { 0 = (width.0 + 2 * t.0) * length.0 }

-- the width of a flat member, the diameter of a round one
abbrev pub size_of : Member → Length
size_of (Flat w) = w
size_of (Round d) = d

unfoldable pub group_area : Length → Group → Area
group_area t g = iced_area t (size_of g.member) g.length

unfoldable pub item_area : Length → Item → Area
item_area t it = iced_area t it.width it.length

-- A_u = b h
unfoldable pub gross : Section → Area
gross s = record { 0 = s.width.0 * s.height.0 }

-- no face is larger: 15 m by 10 m (law `gross-bound` in proofs/Sections)
abbrev pub largest_gross : ℕ
largest_gross = 150_000_000

-- a round group of bare diameter d under pressure q is supercritical exactly if t = 0 and 2 q d² > 45 000 000
abbrev pub flow_limit : ℕ
flow_limit = 45_000_000

abbrev pub is_supercritical : Length → ℕ → Length → Bool
is_supercritical t q d = eqb t.0 0 && ltb flow_limit (2 * q * (d.0 * d.0))

unfoldable pub flow_of : Length → ℕ → Member → Flow
flow_of t q (Flat w) = flow.Flat
flow_of t q (Round d) = cond (is_supercritical t q d) flow.Supercritical flow.Subcritical

-- Document 02, M-103. The lesser wind of a member that is supercritical under q: the greatest whole pressure p with
-- 2 p d² ≤ 45 000 000 (law `lesser-greatest` in proofs/LesserWinds). Other members have none.
unfoldable pub lesser_of : Length → ℕ → Member → List ℕ
lesser_of t q (Flat w) = []
lesser_of t q (Round d) = cond (is_supercritical t q d) (flow_limit / (2 * (d.0 * d.0)) ∷ []) []

-- those of a section's groups
unfoldable pub lesser_winds : Length → ℕ → List Group → List ℕ
lesser_winds t q gs = joined (λ g. lesser_of t q g.member) gs

abbrev pub same_flow : Flow → Flow → Bool
same_flow flow.Flat flow.Flat = true
same_flow flow.Flat flow.Subcritical = false
same_flow flow.Flat flow.Supercritical = false
same_flow flow.Subcritical flow.Flat = false
same_flow flow.Subcritical flow.Subcritical = true
same_flow flow.Subcritical flow.Supercritical = false
same_flow flow.Supercritical flow.Flat = false
same_flow flow.Supercritical flow.Subcritical = false
same_flow flow.Supercritical flow.Supercritical = true

-- a group's area where its flow is of the class, else 0
unfoldable pub area_in : Flow → Length → ℕ → Group → Area
area_in class t q g = cond (same_flow class (flow_of t q g.member)) (group_area t g) (record { 0 = 0 })

-- A_f flat, A_c subcritical, A_p supercritical
unfoldable pub areas_of : Length → ℕ → List Group → Areas
areas_of t q gs =
    record {
      flat = record { 0 = sum_by (λ g. (area_in flow.Flat t q g).0) gs };
      subcritical = record { 0 = sum_by (λ g. (area_in flow.Subcritical t q g).0) gs };
      supercritical = record { 0 = sum_by (λ g. (area_in flow.Supercritical t q g).0) gs };
    }

-- A_S is their sum
unfoldable pub solid : Areas → Area
solid a = record { 0 = a.flat.0 + a.subcritical.0 + a.supercritical.0 }

-- A_S under ice of thickness t from the groups alone: no pressure changes it (law `solid-of` in proofs/Solid)
unfoldable pub solid_of : Length → List Group → Area
solid_of t gs = record { 0 = sum_by (λ g. (group_area t g).0) gs }

abbrev pub bare_solid : List Group → Area
bare_solid gs = solid_of (record { 0 = 0 }) gs
