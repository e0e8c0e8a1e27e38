-- The elements of an array that count.
use Rattle.std.specs.Prelude.{ℕ, List, length, take}
use Rattle.counted.specs.declared.Counted.{Counted}

module _ {T : Type 0} {N : ℕ} where
  -- in order
  abbrev pub elements : Counted T N → List T
  elements v = take v.count v.places

  -- how many they are
  abbrev pub element_count : Counted T N → ℕ
  element_count v = length (elements v)
