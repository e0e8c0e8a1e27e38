use Rattle.std.proofs.Common.{arith}
use Rattle.model.proofs.Accepted.{accepted-valid}
use Rattle.tower_file.proofs.Filed.{all-bytes}
use Rattle.slots.proofs.WaysOut.{handed_on}
use Rattle.tower_calls.proofs.Erects.{file-refused, file-accepted}
use Rattle.tower_calls.proofs.erect.erect.Goals as goal

pub returns-in_err-tower : goal.returns-in_err-tower
returns-in_err-tower c =
    rw (handed_on _ _ c.from_residual.ensures.1) (file-refused c.args.s.now c.args.file.now _ c.in_err-tower.ensures.tower)

pub put_tower-requires : goal.put_tower-requires
put_tower-requires c =
    let file = c.args.file.now in
    accepted-valid file (all-bytes file (λ i. omega (arith, c.type_inv.file i))) c.in_ok-tower.ensures.tower

pub returns : goal.returns
returns c = file-accepted c.args.s.now c.args.file.now _ c.in_ok-tower.ensures.tower c.put_tower.new.s c.put_tower.ensures
