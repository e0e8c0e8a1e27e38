use Rattle.std.proofs.Common.{arith}
use Rattle.model.specs.Tower.{tower_of}
use Rattle.tower_file.proofs.WritingParts.{writes-none, writes-all}
use Rattle.tower_file.proofs.file.write.Goals as goal

pub returns-then-out-file_length : goal.returns-then-out-file_length
returns-then-out-file_length c = writes-none (tower_of c.args.tower.now) c.args.out.now (omega arith)

pub returns : goal.returns
returns c = writes-all (tower_of c.args.tower.now) (omega arith) c.write_parts.ensures
