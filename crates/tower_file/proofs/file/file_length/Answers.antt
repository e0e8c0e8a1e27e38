use Rattle.std.proofs.Common.{arith}
use Rattle.model.specs.Tower.{tower_of}
use Rattle.model.proofs.FileLength.{length-file}
use Rattle.tower_file.proofs.file.file_length.Goals as goal

pub returns : goal.returns
returns c =
    let sections = rw c.deref.ensures.0 at c.sections_length.ensures.value in
    omega (arith, length-file (tower_of c.args.tower.now), sections, c.len.ensures.value)
