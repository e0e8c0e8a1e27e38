use Rattle.std.proofs.Common.{◌≡◌, map, take}
use Rattle.host.proofs.Pressures.{pressure}
use Rattle.host.proofs.pressure_bytes.pressures_of.Given as goal

abbrev pub invariant-loop-pair : goal.invariant-loop-pair
invariant-loop-pair l = l.pressures.items ≡ map pressure (take l.pair-index l.pair-items)
