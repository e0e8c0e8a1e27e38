-- A call's arguments.
use Rattle.std.specs.Prelude.{Result, Ok, Err}
use Rattle.requests.specs.declared.faults.Fault.{Fault}
use Rattle.requests.specs.Asked.{Asked, wrong}

-- what is asked for with these arguments, or what is wrong with them
abbrev pub asked_for : {X : Type 0} → (X → Asked) → Result X Fault → Asked
asked_for as_asked (Ok x) = as_asked x
asked_for as_asked (Err f) = wrong f
