-- The load on one section of the tower that stands in the slots: what is read and worked out is what the report has.
use Rattle.std.proofs.Common.{◌≡◌, ℕ, ◌+◌, ◌*◌, ◌≤◌, ◌<◌, true, false, List, get_or, ap, sym, ◌∙◌, arith}
use Rattle.units.specs.declared.Length.{Length}
use Rattle.model.specs.declared.Section as stored
use Rattle.model.specs.Tower.{Section, section_of}
use Rattle.model.specs.Force.{item_sum, largest_items}
use Rattle.model.specs.Report as report
use Rattle.model.specs.Report.{height_at, areas_at, force_at}
use Rattle.areas.specs.Fits.{fits_under}
use Rattle.areas.specs.Sums.{ItemSums}
use Rattle.force.specs.declared.Load.{Load}
use Rattle.force.specs.Loaded.{SectionInWind, Loaded}
use Rattle.force.proofs.Loads.{section-known}
use Rattle.force.proofs.Reported.{Reports, force-small, load-reported}
use Rattle.slots.specs.Held.{Slots, count_in, items_in, slot, section_as, section_at, least_section, pressure_at, ground_of, tower_in, wind_in}
use Rattle.slots.proofs.Codec.{section-good, section-bad}
use Rattle.slots.proofs.Lists.{get_or-list_to}
use Rattle.slots.proofs.Grounds.{count-few, ice-windy, sections-are, pressures-are}
use Rattle.rows.specs.declared.case.LoadCase.{LoadCase}
use Rattle.rows.specs.declared.loads.SectionLoad.{SectionLoad}
use Rattle.rows.specs.Loaded.{CaseOf, LoadAt}

module _ {l : Slots} {c : LoadCase} (k : CaseOf l c) (i : ℕ) (h : i < count_in l) where
  pub below : i < 32
  below = omega (arith, count-few l)

  section-is : report.section_at (tower_in l) i ≡ section_at l c.ice.thickness i
  section-is =
      ap (λ (s : List Section). get_or s i report.no_section) (sections-are l) ∙ get_or-list_to _ report.no_section (count_in l) i h
      ∙ ap (λ (t : Length). section_at l t i) (ice-windy l k.windy ∙ sym k.ice)

  pressure-is : report.pressure_at (wind_in l) i ≡ pressure_at l i
  pressure-is = ap (λ (p : List ℕ). get_or p i 0) (pressures-are l) ∙ get_or-list_to (pressure_at l) 0 (count_in l) i h

  -- as its slots have it, where it stands; else the least one in its place
  module _ (x : stored.Section) (read : section_of x ≡ section_as l i) where
    pub good : fits_under c.ice.thickness x ≡ true → section_of x ≡ section_at l c.ice.thickness i
    good e = (section-good c.ice.thickness c.ice.thin (slot l (1 + 2 * i)) (slot l (1 + 2 * i + 1)) x read e).0

    pub bad : x.groups.count ≤ 8 → (y : stored.Section) → fits_under c.ice.thickness x ≡ false
        → (section_of y ≡ least_section) × ((t : Length) → t.0 ≤ 50 → fits_under t y ≡ true)
        → section_of y ≡ section_at l c.ice.thickness i
    bad few y e f = (section-bad c.ice.thickness c.ice.thin (slot l (1 + 2 * i)) (slot l (1 + 2 * i + 1)) x read few y e f).0

  -- the section in its wind
  module _ (s : SectionInWind) (legs : s.legs ≡ c.legs) (direction : s.direction ≡ c.direction) (ice : s.ice ≡ c.ice.thickness) (factor : s.factor ≡ c.factor)
      (read : section_of s.section ≡ section_at l c.ice.thickness i) (pressed : (s.pressure ≡ pressure_at l i) × (s.pressure ≤ 5000))
      (summed : (s.items ≡ item_sum c.ice.thickness i (items_in l)) × (s.items ≤ largest_items)) (stands : fits_under s.ice s.section ≡ true) where
    same : section_of s.section ≡ report.section_at (tower_in l) i
    same = read ∙ sym section-is

    reports : Reports (tower_in l) (wind_in l) i s
    unfolding ground_of
    reports =
        record {
          legs = legs ∙ k.legs;
          section = same;
          direction = direction ∙ k.direction;
          ice = ice ∙ k.ice;
          factor = factor ∙ k.factor;
          pressure = pressed.0 ∙ sym pressure-is;
          items = summed.0 ∙ ap (λ (t : Length). item_sum t i (items_in l)) k.ice;
        }

    pub load_at : {load : Load} {r : SectionLoad} → Loaded s load
        → (r.load ≡ load) × (r.height ≡ s.section.height) × (r.allowance ≡ s.section.allowance) → LoadAt (tower_in l) (wind_in l) i r
    unfolding height_at
    load_at {load} {r} p e =
        let reported = load-reported (tower_in l) (wind_in l) i s reports stands p in
        record {
          areas = ap (λ (x : Load). x.areas) e.0 ∙ reported.0;
          force = ap (λ (x : Load). x.force) e.0 ∙ reported.1;
          small = rw e.0 (force-small s stands (rw factor c.factor_small) pressed.1 summed.1 p.force);
          height = e.1 ∙ ap (λ (s : Section). s.height) same;
          tall = rw e.1 (section-known s stands).height.high;
          allowance = e.2 ∙ ap (λ (s : Section). s.allowance) same;
        }

-- what is known before the loop over the sections
pub few : (l : Slots) {count : ℕ} → count ≡ count_in l → count ≤ 32
few l e = omega (arith, e, count-few l)

-- what `load` asks of a section
pub case-asked : {l : Slots} {c : LoadCase} {count : ℕ} {sums : List ℕ} → CaseOf l c → count ≡ count_in l → ItemSums c.ice.thickness (items_in l) sums
    → (i : ℕ) → i < count
    → (CaseOf l c × (i < count_in l)) × ((get_or sums i 0 ≡ item_sum c.ice.thickness i (items_in l)) × (get_or sums i 0 ≤ largest_items))
case-asked {l} k e summed i h =
    let b : i < 32 = omega (arith, few l e) in
    ((k, omega (arith, e)), (summed.sum i b, summed.small i b))
