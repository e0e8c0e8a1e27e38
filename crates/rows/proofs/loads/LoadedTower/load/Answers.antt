use Rattle.std.proofs.Common.{refl, sym}
use Rattle.rows.proofs.SectionLoads.{below, good, bad, load_at}
use Rattle.rows.proofs.loads.LoadedTower.load.Goals as goal

pub pressure_at-pressure-requires : goal.pressure_at-pressure-requires
pressure_at-pressure-requires c = below c.args.self.now.stands c.args.i c.requires.count

pub section_as-section-requires : goal.section_as-section-requires
section_as-section-requires c = below c.args.self.now.stands c.args.i c.requires.count

pub returns-in-Some : goal.returns-in-Some
returns-in-Some c =
    let k = c.args.self.now.stands in
    let x = c.section_as-section in
    let stands = sym c.in-Some.ensures.stands in
    let read = good k c.args.i c.requires.count x.result x.ensures.section stands in
    load_at k c.args.i c.requires.count _ refl refl refl refl read c.pressure_at-pressure.ensures c.requires.items stands c.measured_load.ensures c.new.ensures

pub returns : goal.returns
returns c =
    let k = c.args.self.now.stands in
    let x = c.section_as-section in
    let y = c.least-section in
    let read = bad k c.args.i c.requires.count x.result x.ensures.section x.ensures.few y.result (sym c.in_default.ensures.stands) y.ensures in
    load_at k c.args.i c.requires.count _ refl refl refl refl read c.pressure_at-pressure.ensures c.requires.items (y.ensures.1 _ c.args.self.now.case.ice.thin)
    c.load.ensures c.new-2.ensures
