use Rattle.std.proofs.Common.{◌≡◌, ap, sym, ◌∙◌, arith}
use Rattle.counted.specs.Elements.{elements}
use Rattle.model.specs.Lists.{list_to}
use Rattle.slots.specs.Held.{count_in, section_at, ground_of, ice_on}
use Rattle.slots.proofs.Grounds.{sections-are}
use Rattle.answer_calls.proofs.Loading.{so-many, sections-more}
use Rattle.answer_calls.proofs.tower.sections_in.Goals as goal

pub loop-i-init : goal.loop-i-init
unfolding list_to
loop-i-init c = rw c.new-sections.ensures.items

pub push-requires : goal.push-requires
push-requires c =
    let n = so-many c.args.s.now c.loop-i.i (elements c.loop-i.sections) c.loop-i.invariant in
    (omega arith, omega (arith, n, c.loop-i-test.true, c.count_in-i-end.ensures.1))

pub loop-i-preserved : goal.loop-i-preserved
loop-i-preserved c =
    rw c.push.ensures.items
    (sections-more c.args.s.now c.loop-i.i (elements c.loop-i.sections) c.loop-i.invariant c.section_at.result (rw c.ice_on-ice.ensures at c.section_at.ensures.0))

pub returns : goal.returns
returns c =
    let s = c.args.s.now in
    let e : c.loop-i.i ≡ count_in s = omega (arith, c.count_in-i-end.ensures.0, c.loop-i-test.false, c.loop-i.auto.i-end) in
    c.loop-i.invariant ∙ ap (list_to (section_at s (ice_on (ground_of s)))) e ∙ sym (sections-are s)
