use Rattle.std.proofs.Common.{◌≡◌, ◌∙◌, ap, true, arith}
use Rattle.model.specs.Calls.{bits}
use Rattle.model.specs.Lists.{all_of}
use Rattle.tower_file.proofs.Filed.{all-bytes}
use Rattle.slots.proofs.WaysOut.{handed_on}
use Rattle.host.specs.Promises.{pressures_asked}
use Rattle.host.proofs.InOrder.{erect-accepted, erect-refused, wind-refused, rows-lent}
use Rattle.host.proofs.report_rows.Goals as goal

pub returns-in_err-erect : goal.returns-in_err-erect
returns-in_err-erect c =
    let a = c.args in
    rw (handed_on _ _ c.from_residual.ensures.1) (erect-refused a.file.now a.direction a.ice a.factor a.pressures.now _ c.in_err-erect.ensures)

pub returns-in_err-set_wind : goal.returns-in_err-set_wind
returns-in_err-set_wind c =
    let a = c.args in
    let typed : all_of (bits 8) a.file.now ≡ true = all-bytes a.file.now (λ i. omega (arith, c.type_inv.file i)) in
    let h = erect-accepted a.file.now c.in_ok-erect.ensures in
    let asked = c.deref.ensures.0 ∙ c.pressures_asked-pressures.ensures ∙ ap (λ n. pressures_asked n a.pressures.now) c.count_in.ensures.0 in
    rw (handed_on _ _ c.from_residual-in_err-set_wind.ensures.1) (wind-refused a.file.now a.direction a.ice a.factor a.pressures.now h typed c.set_wind.new.s asked _ c.in_err-set_wind.ensures)

pub returns : goal.returns
returns c =
    let a = c.args in
    let typed : all_of (bits 8) a.file.now ≡ true = all-bytes a.file.now (λ i. omega (arith, c.type_inv.file i)) in
    let h = erect-accepted a.file.now c.in_ok-erect.ensures in
    let asked = c.deref.ensures.0 ∙ c.pressures_asked-pressures.ensures ∙ ap (λ n. pressures_asked n a.pressures.now) c.count_in.ensures.0 in
    rows-lent a.file.now a.direction a.ice a.factor a.pressures.now h typed c.set_wind.new.s asked c.in_ok-set_wind.ensures c.write_report.ensures
