-- What `<=` of two quantities says of their numbers.
use Rattle.std.proofs.Common.{◌≡◌, ℕ, leb, arith}
use Rattle.std.specs.Ordering.{is_le, nat_cmp}
use Rattle.std.proofs.lemmas.Bool.Decides.{nat_tests}

pub is_le-leb : (a b : ℕ) → is_le (nat_cmp a b) ≡ leb a b
is_le-leb a b = grind (arith, nat_tests)
