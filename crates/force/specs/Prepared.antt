-- The root's part of a face. e is the open area A_u − A_S; a face's sum is in millionths of mm².
use Rattle.std.specs.Prelude.{ℕ, ◌+◌, ◌*◌}
use Rattle.model.specs.declared.Legs.{Legs}
use Rattle.model.specs.declared.Areas.{Areas}
use Rattle.model.specs.Areas.{solid}
use Rattle.model.specs.WholeForm.{root_num}

-- its square
unfoldable pub root_square : Legs → Areas → ℕ → ℕ
root_square l a e =
    let v : ℕ = a.supercritical.0 * ((solid a).0 + e) in
    v * v * (root_num l (solid a).0 e * 1_000_000_000_000)
