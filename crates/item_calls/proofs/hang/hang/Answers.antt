use Rattle.std.proofs.Common.{sym}
use Rattle.model.specs.Calls.{hang}
use Rattle.slots.proofs.WaysOut.{handed_on, turned_down}
use Rattle.item_calls.proofs.WaysOut.{in-range, hang-stored}
use Rattle.item_calls.proofs.hang.hang.Goals as goal

pub returns-in_err-validate : goal.returns-in_err-validate
returns-in_err-validate c =
    rw (handed_on _ _ c.from_residual.ensures.1) (turned_down (hang c.args.item) c.args.s.now _ (sym c.in_err-validate.ensures))

pub item_slot-requires : goal.item_slot-requires
item_slot-requires c = in-range c.args.s.now c.told-s c.args.item (sym c.in_ok-validate.ensures)

pub returns : goal.returns
returns c =
    let b = c.args in
    let slot = c.item_slot.ensures in
    hang-stored b.s.now c.told-s b.item (sym c.in_ok-validate.ensures) (rw slot.0 at slot.1) c.held_in-held.ensures.0 slot.0 c.set_held.ensures
