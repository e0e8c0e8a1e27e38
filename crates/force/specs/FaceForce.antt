-- The force on a prepared face.
use Rattle.std.specs.Prelude.{◌≡◌, ◌*◌}
use Rattle.exact.specs.Rooted.{Rooted}
use Rattle.model.specs.Force.{face_force}
use Rattle.model.specs.WholeForm.{gross_of, incidence_num}
use Rattle.rounding.specs.declared.bounds.Linear.{Linear}
use Rattle.force.specs.declared.prepared.PreparedFace.{PreparedFace}
use Rattle.force.specs.declared.prepared.Loading.{Loading}

-- what document 01's formula gives for it
abbrev pub force_on : PreparedFace → Loading → Rooted
force_on p w = face_force p.face.legs w.direction w.factor w.pressure (gross_of p.face.areas p.face.gap.0) p.face.areas w.items

-- that as a linear function of the face's sum less its root
pub record LinearOf (p : PreparedFace) (w : Loading) (x : Linear) : Type 0 where
  pub factor : x.factor ≡ w.pressure * w.factor
  pub slope : x.slope ≡ incidence_num p.face.legs w.direction p.face.areas p.face.gap.0
  pub offset : x.offset ≡ w.items
  pub divisor : x.divisor ≡ p.divisor
