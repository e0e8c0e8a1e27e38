use Rattle.std.proofs.Common.{◌^◌, ◌<◌, ◌≡◌, take}
use Rattle.model.specs.Reading.{bytes_number}
use Rattle.file_fields.proofs.fields.read_bytes.Given as goal

abbrev pub invariant-loop-b : goal.invariant-loop-b
invariant-loop-b l = (l.value < 256 ^ l.b-index) × (l.value ≡ bytes_number 0 (take l.b-index l.bytes))
