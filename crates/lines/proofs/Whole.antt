-- An input of which one byte more than allowed is asked for.
use Rattle.std.proofs.Common.{◌≡◌, ℕ, ◌+◌, ◌≤◌, List, length, take, arith}
use Rattle.std.proofs.lemmas.List.{take_all, length-take}

pub whole_taken : (most : ℕ) (xs : List ℕ) → length (take (most + 1) xs) ≤ most → take (most + 1) xs ≡ xs
whole_taken most xs h = take_all (most + 1) xs (omega (arith, length-take (most + 1) xs))
