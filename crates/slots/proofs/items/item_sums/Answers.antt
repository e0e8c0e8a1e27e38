use Rattle.std.proofs.Common.{◌≡◌, ◌<◌, length, arith}
use Rattle.areas.proofs.Sums.{sums_none}
use Rattle.slots.proofs.Sums.{items-sum, item_on, item-off}
use Rattle.slots.proofs.items.item_sums.Goals as goal
use Rattle.slots.proofs.items.item_sums.Goals.{then-section-lt32, else-section-lt32}

pub loop-slot-init : goal.loop-slot-init
loop-slot-init c = sums_none c.args.ice.thickness _

pub overflow_add-sums : goal.overflow_add-sums
overflow_add-sums c = omega (arith, c.loop-slot.invariant.small _ c.if-section-lt32.true)

pub loop-slot-preserved : goal.loop-slot-preserved
loop-slot-preserved c =
    let h : c.loop-slot.slot-index < length c.args.slots.now = omega arith in
    elim c.if-section-lt32.branch [
      | then-section-lt32 w ↦ rw w.sums-is (item_on c.args.slots.now c.args.ice.thickness c.loop-slot.slot-index h c.loop-slot.invariant c.item_of-item.ensures.0 c.from-section.ensures w.item_part.ensures.value w.item_part.ensures.small w.if-section-lt32.true)
      | else-section-lt32 w ↦ rw w.sums-is (item-off c.args.slots.now c.args.ice.thickness c.loop-slot.slot-index h c.loop-slot.invariant c.item_of-item.ensures.0 c.from-section.ensures w.if-section-lt32.false)
    ]

pub returns : goal.returns
returns c =
    let e : c.loop-slot.slot-index ≡ length c.args.slots.now = omega arith in
    items-sum c.args.slots.now c.args.ice.thickness c.requires (rw e at c.loop-slot.invariant)
