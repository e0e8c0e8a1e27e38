use Rattle.std.proofs.Common.{◌≡◌, ap, sym, ◌∙◌, ◌+◌, arith, length}
use Rattle.units.specs.declared.Force.{Force}
use Rattle.exact.specs.Number.{greater}
use Rattle.counted.specs.Elements.{elements}
use Rattle.model.specs.declared.Areas.{Areas}
use Rattle.areas.proofs.Facts.{no_group}
use Rattle.areas.proofs.LesserPressures.{all-covered}
use Rattle.force.specs.Loaded.{in_wind}
use Rattle.force.proofs.Loads.{section-known}
use Rattle.force.proofs.Greatest.{first-greatest, greatest-more, covered-at, greatest-covered, greatest-all, max-is}
use Rattle.force.proofs.section.LoadedSection.measured_load.Goals.{in-Some, in_default}
use Rattle.force.proofs.section.LoadedSection.measured_load.Goals as goal

pub loop-i-init : goal.loop-i-init
loop-i-init c = first-greatest (in_wind c.args.self.now) c.args.self.now.section.stands c.formula_force.ensures

pub loop-i-preserved : goal.loop-i-preserved
loop-i-preserved c =
    let s = in_wind c.args.self.now in
    let f = c.args.self.now.section.stands in
    let l = c.loop-i in
    let h = rw c.face-face.ensures at c.loop-i-test.true in
    elim c.match-lesser_wind.branch [
      | in-Some w ↦
          let n = rw c.face-face.ensures at w.in-Some.ensures.wind in
          let most : w.max-force.result.0 ≡ greater l.force.0 w.formula_force-in-Some.result.value.0 = ap (λ (x : Force). x.0) w.max-force.ensures ∙ max-is _ _ in
          rw (w.force-is, most) (greatest-more s f l.i h l.invariant w.in-Some.pressure (n.lesser no_group) w.formula_force-in-Some.ensures)
      | in_default w ↦ rw w.force-is (covered-at s f l.i h l.invariant (rw c.face-face.ensures at w.in_default.ensures.wind))
    ]

pub returns-after-loop-i : goal.returns-after-loop-i
returns-after-loop-i c =
    let s = in_wind c.args.self.now in
    let all : c.loop-i.i ≡ length (elements s.section.groups) = omega (arith, c.loop-i-test.false, c.loop-i.auto.i-end, ap length c.face-face.ensures) in
    record { areas = c.requires; force = greatest-all s c.args.self.now.section.stands (rw all at c.loop-i.invariant) }

-- without supercritical members no group has a lesser wind
pub returns-else-areas-ne0 : goal.returns-else-areas-ne0
returns-else-areas-ne0 c =
    let s = in_wind c.args.self.now in
    let f = c.args.self.now.section.stands in
    let gs = elements s.section.groups in
    let z = ap (λ (x : Areas). x.supercritical.0) (sym c.requires) ∙ c.if-areas-ne0.false in
    let n = all-covered s.ice s.pressure gs (section-known s f).groups z in
    let all : 0 + length gs ≡ length gs = omega arith in
    record {
      areas = c.requires;
      force =
          greatest-all s f
          (rw all at (greatest-covered s f 0 (length gs) (omega arith) (λ i low high. n i (omega (arith, high))) (first-greatest s f c.formula_force.ensures)));
    }
