-- What a `Result<&T, E>` points to, and what a `Result<usize, E>` counts.
use Rattle.std.specs.Prelude.{ℕ, List, take, Result, Ok, Err}
use Rattle.std.specs.Borrow.{Bor}

abbrev pub result_copied : {A E : Type 0} → Result (Bor A) E → Result A E
result_copied (Ok x) = Ok x.now
result_copied (Err e) = Err e

-- the first n elements, where n are put in
abbrev pub filled : {A E : Type 0} → List A → Result ℕ E → Result (List A) E
filled out (Ok n) = Ok (take n out)
filled out (Err e) = Err e
