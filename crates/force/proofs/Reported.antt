-- What follows from the promises of `LoadedSection::load` and of slots' `item_sums`: the force is in the band and at
-- most the largest, it is the same for the same legs, section, items in any order and wind, and it is the report's.
-- `Loaded` is what `load`'s own contract says (`load-promise`); `ItemSums` is the promise of `item_sums`. The numbers are
-- any with which the section stands under its ice.
use Prim.Native.Nat.{ℕ, ◌≤◌, ◌<◌}
use mathlib.Core.Path.{◌≡◌, ap, sym, subst, ◌∙◌}
use mathlib.Core.Bool.{true}
use mathlib.Core.List.{List, Permᴰ}
use borrow.Author.Tests.{le-leb}
use lib.ListN.{length, get_or}
use contract.Lifetimes.{Lfts}
use denote.Ref.{Bor}
use Rattle.units.specs.declared.Force.{Force}
use Rattle.exact.specs.Number.{Sound, Within, Least}
use Rattle.exact.proofs.Ceiling.{least-unique, ceiling-least, least-within}
use Rattle.exact.proofs.Bools.{and-join}
use Rattle.model.specs.declared.Section as stored
use Rattle.model.specs.declared.Item.{Item}
use Rattle.model.specs.Tower.{Section, Tower, Wind, section_of}
use Rattle.model.specs.Areas.{thickness, areas_of, solid_of, gross}
use Rattle.model.specs.Force.{item_sum, largest_items, largest_force}
use Rattle.model.specs.Report.{section_at, pressure_at, areas_at, exact_at, force_at}
use Rattle.model.specs.Valid.{section_fits, ValidWind}
use Rattle.model.proofs.Lists.{sum_by-perm}
use Rattle.model.proofs.LesserWinds as winds
use Rattle.model.proofs.Sections.{gross-bound}
use Rattle.model.proofs.Forces.{fits-at, ice-at, solid-under}
use Rattle.areas.specs.Fits.{fits_under}
use Rattle.areas.specs.Sums.{ItemSums}
use Rattle.force.specs.declared.Load.{Load}
use Rattle.force.specs.declared.section.LoadedSection.{LoadedSection}
use Rattle.force.specs.Loaded.{SectionInWind, in_wind, Loaded, exact_on}
use Rattle.force.proofs.Loads.{section-known, stands}
use Rattle.force.proofs.section.LoadedSection.load.Reads as load-reads

-- `load`'s own contract, of the section handed over and the load handed back
pub load-promise : (κ : Lfts 2) (s : Bor LoadedSection) (r : Load) → load-reads.Post κ (s, tt) r (s, tt) → Loaded (in_wind s.now) r
load-promise κ s r h = h

-- and what it needs of the section is a fact of its type
pub load-stands : (s : LoadedSection) → fits_under (in_wind s).ice (in_wind s).section ≡ true
load-stands s = s.section.stands

-- exact ≤ force < exact + 1, and so within every wider band: document 01's is 2
module _ (s : SectionInWind) (h : fits_under s.ice s.section ≡ true) where
  pub force-sound : Sound (exact_on s)
  force-sound = winds.force-sound s.legs s.direction s.ice s.factor (section_of s.section) s.items (stands s h) s.pressure

  -- the force is at most `largest_force`
  pub force-small : s.factor ≤ 2000 → s.pressure ≤ 5000 → s.items ≤ largest_items → {n : ℕ} → Least (exact_on s) n → n ≤ largest_force
  force-small hf hq hi g =
      g.least largest_force
      (winds.force-bound s.legs s.direction s.ice s.factor (section_of s.section) s.items (stands s h)
      (gross-bound (section_of s.section) (section-known s h)) hf hi s.pressure hq)

  pub load-within : {r : Load} → Loaded s r → (margin : ℕ) → 0 < margin → Within margin (exact_on s) r.force.0
  load-within p margin m =
      least-within force-sound (winds.force-nonneg s.legs s.direction s.ice s.factor (section_of s.section) s.items (stands s h) s.pressure)
      margin _ m p.force

-- but for the items' sums
pub record Alike (s s' : SectionInWind) : Type 0 where
  pub legs : s.legs ≡ s'.legs
  pub section : section_of s.section ≡ section_of s'.section
  pub direction : s.direction ≡ s'.direction
  pub ice : s.ice ≡ s'.ice
  pub factor : s.factor ≡ s'.factor
  pub pressure : s.pressure ≡ s'.pressure

-- section i of two towers with the same items, these in any order
module _ (s s' : SectionInWind) (e : Alike s s') (i : ℕ) (h : i < 32) {xs ys : List Item} (p : Permᴰ xs ys) where
  pub sum_same : {n m : List ℕ} → ItemSums s.ice xs n → ItemSums s.ice ys m → get_or n i 0 ≡ get_or m i 0
  unfolding item_sum
  sum_same a b = a.sum i h ∙ sum_by-perm _ p ∙ sym (b.sum i h)

  pub load_same : {n m : List ℕ} {r r' : Load} → ItemSums s.ice xs n → ItemSums s.ice ys m
      → s.items ≡ get_or n i 0 → s'.items ≡ get_or m i 0 → Loaded s r → Loaded s' r' → (r.areas ≡ r'.areas) × (r.force.0 ≡ r'.force.0)
  load_same {n} {m} {r} {r'} a b f g c d =
      let items : s.items ≡ s'.items = f ∙ sum_same a b ∙ sym g in
      let same : exact_on s ≡ exact_on s' = rw (e.legs, e.section, e.direction, e.ice, e.factor, e.pressure, items) in (
        c.areas ∙ ap (λ (x : Section). areas_of s.ice s.pressure x.groups) e.section ∙ rw (e.ice, e.pressure) (sym d.areas),
        least-unique (rw same at c.force) d.force,
      )

module _ (t : Tower) (w : Wind) (i : ℕ) where
  -- a section of a valid tower fits under the ice of a wind that the tower takes
  pub valid-fits : (s : stored.Section) → section_of s ≡ section_at t i → s.groups.count ≤ 8 → ValidWind t w → i < length t.sections → fits_under (thickness w.ice) s ≡ true
  unfolding fits_under
  valid-fits s e few v h =
      let f : section_fits (section_of s) ≡ true =
      subst (λ (x : Section). section_fits x ≡ true) (sym e) (fits-at t w v i h) in
      let g : (solid_of (thickness w.ice) (section_of s).groups).0 ≤ (gross (section_of s)).0 =
      subst (λ (x : Section). (solid_of (thickness w.ice) x.groups).0 ≤ (gross x).0) (sym e) (solid-under t w v i h) in
      and-join (le-leb _ 50 (ice-at t w v i h)) (and-join (le-leb _ 8 few) (and-join f (le-leb _ _ g)))

  -- this is section i of the report
  pub record Reports (s : SectionInWind) : Type 0 where
    pub legs : s.legs ≡ t.legs
    pub section : section_of s.section ≡ section_at t i
    pub direction : s.direction ≡ w.direction
    pub ice : s.ice ≡ thickness w.ice
    pub factor : s.factor ≡ w.factor
    pub pressure : s.pressure ≡ pressure_at w i
    pub items : s.items ≡ item_sum (thickness w.ice) i t.items

  -- its areas and force are those that the report shows
  pub load-reported : (s : SectionInWind) → Reports s → fits_under s.ice s.section ≡ true → {r : Load} → Loaded s r
      → (r.areas ≡ areas_at t w i) × (r.force ≡ force_at t w i)
  unfolding areas_at exact_at force_at
  load-reported s k h {r} p =
      let same : exact_on s ≡ exact_at t w i = rw (k.legs, k.direction, k.ice, k.factor, k.section, k.pressure, k.items) in (
        p.areas ∙ ap (λ (x : Section). areas_of s.ice s.pressure x.groups) k.section ∙ rw (k.ice, k.pressure),
        ap force (least-unique (rw same at p.force) (ceiling-least (rw same at (force-sound s h)))),
      )
    where
      force : ℕ → Force
      force n = record { 0 = n }
