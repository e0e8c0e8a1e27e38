use Rattle.std.proofs.Common.{◌≡◌, true, take}
use Rattle.model.specs.Lists.{all_of}
use Rattle.model.specs.Calls.{bits}
use Rattle.handler.proofs.arguments.wind_of.Given as goal

abbrev pub invariant-loop-q : goal.invariant-loop-q
invariant-loop-q l =
    record { same : l.pressures.items ≡ take l.q-index l.asked; fit : all_of (bits 16) (take l.q-index l.asked) ≡ true }
