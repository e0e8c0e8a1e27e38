-- A section that stands under its ice: its areas and the force on it.
use Prim.Native.Nat.{ℕ, ◌+◌, ◌≤◌, ◌<◌}
use mathlib.Core.Path.{◌≡◌, ap, ◌∙◌}
use mathlib.Core.Bool.{true}
use Rattle.units.specs.declared.Area.{Area}
use Rattle.exact.specs.Number.{only, Least}
use Rattle.model.specs.declared.Areas.{Areas}
use Rattle.model.specs.Tower.{section_of}
use Rattle.model.specs.Areas.{solid, gross}
use Rattle.model.specs.Force.{face_force, formula}
use Rattle.model.specs.WholeForm.{gross_of}
use Rattle.model.proofs.Solid.{solid-of}
use Rattle.model.proofs.Sections.{SectionFacts, section-facts, solid-positive}
use Rattle.model.proofs.LesserWinds.{Stands}
use Rattle.areas.specs.Fits.{fits_under}
use Rattle.areas.proofs.Fits.{under-facts}
use Rattle.force.specs.declared.section.LoadedSection.{LoadedSection}
use Rattle.force.specs.Loaded.{SectionInWind, in_wind, areas_in, formula_in}

module _ (s : SectionInWind) (h : fits_under s.ice s.section ≡ true) where
  pub section-known : SectionFacts (section_of s.section)
  section-known = section-facts (section_of s.section) (under-facts s.ice s.section h).fits

  -- 0 < A_S ≤ A_u, of the section alone
  pub stands : Stands s.ice (section_of s.section)
  stands =
      record {
        solid = solid-positive s.ice (section_of s.section).groups section-known.count.low section-known.groups;
        under = (under-facts s.ice s.section h).solid;
      }

-- of code's section and its areas in a wind
module _ (on : LoadedSection) (q : ℕ) {a : Areas} (ea : a ≡ areas_in (in_wind on) q) {u : Area} (eu : u ≡ gross (section_of on.section.section.now)) where
  pub solid_known : (0 < (solid a).0) × ((solid a).0 ≤ u.0)
  solid_known =
      let s = in_wind on in
      let f = stands s on.section.stands in
      rw (ea, eu, solid-of s.ice q (section_of s.section).groups) (f.solid, f.under)

  -- the formula of the section is that of its face
  pub formula_least : (e : ℕ) {n : ℕ} → (solid a).0 + e ≡ u.0
      → Least (only (face_force on.legs on.loading.direction on.loading.factor q (gross_of a e) a on.loading.items)) n
      → Least (only (formula_in (in_wind on) q)) n
  unfolding formula
  formula_least e f g = let same : gross_of a e ≡ gross (section_of on.section.section.now) = ap area f ∙ eu in rw (← ea, ← same) g
    where
      area : ℕ → Area
      area n = record { 0 = n }
