-- The greatest of the formula's values under full pressure and in the lesser winds of a section's first n groups.
use Rattle.counted.specs.Elements.{elements}
use Rattle.std.specs.Prelude.{ℕ, ◌∷◌, map, take}
use Rattle.exact.specs.Number.{Exact}
use Rattle.model.specs.Areas.{lesser_winds}
use Rattle.force.specs.Loaded.{SectionInWind, formula_in}

unfoldable pub greatest_to : SectionInWind → ℕ → Exact
greatest_to s n = map (formula_in s) (s.pressure ∷ lesser_winds s.ice s.pressure (take n (elements s.section.groups)))
