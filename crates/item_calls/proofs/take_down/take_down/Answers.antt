use Rattle.std.proofs.Common.{◌≡◌, Some, None, refl, arith}
use Rattle.model.specs.declared.Refusal.TheVariants as refusal
use Rattle.model.specs.Calls.{take_down}
use Rattle.slots.proofs.Grounds.{fallen}
use Rattle.slots.proofs.WaysOut.{handed_on, turned_down, refusal-of}
use Rattle.item_calls.proofs.Downs.{down-absent, down-closed}
use Rattle.item_calls.proofs.take_down.take_down.Goals as goal

pub returns-in_err-expect_tower : goal.returns-in_err-expect_tower
returns-in_err-expect_tower c =
    let b = c.args in
    let p = c.in_err-expect_tower.ensures.fallen in
    rw (handed_on _ _ c.from_residual.ensures.1, p.0)
    (turned_down (take_down b.number) b.s.now refusal.NoTower (refusal-of (take_down b.number) (fallen b.s.now p.1) refl))

pub returns-in_err-place : goal.returns-in_err-place
returns-in_err-place c =
    let b = c.args in
    let up = c.in_ok-expect_tower.ensures.stands in
    let absent : c.place_of.result ≡ None = grind arith in
    let error : c.in_err-place.field-0.0 ≡ refusal.NoSuchItem = grind arith in
    rw (handed_on _ _ c.from_residual-in_err-place.ensures.1, error)
    (turned_down (take_down b.number) b.s.now refusal.NoSuchItem (down-absent b.s.now c.told-s up b.number c.item_slots.ensures.slots c.place_of.ensures absent))

pub returns : goal.returns
returns c =
    let b = c.args in
    let up = c.in_ok-expect_tower.ensures.stands in
    let rest = c.close_up-rest in
    let found : c.place_of.result ≡ Some c.in_ok-place.place = grind arith in
    down-closed b.s.now c.told-s up b.number c.item_slots.ensures.slots c.place_of.ensures rest.new.items c.held_in-held.ensures.0 found rest.auto.items
    rest.ensures.left rest.ensures.few c.set_held.ensures
