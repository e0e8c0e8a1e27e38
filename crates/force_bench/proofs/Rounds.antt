-- The sum over the rounds, and the force of each.
use Rattle.std.proofs.Common.{◌≡◌, ℕ, true, ◌+◌, ◌-◌, ◌%◌, ◌^◌, refl, add-one}
use native.Mathlib.Nat.{mod-add-mod}
use Rattle.exact.proofs.Ceiling.{least-unique, ceiling-least}
use Rattle.model.specs.Lists.{sum_to}
use Rattle.model.specs.Tower.{section_of}
use Rattle.model.specs.Areas.{thickness}
use Rattle.model.specs.File.{legs_of}
use Rattle.areas.specs.Fits.{fits_under}
use Rattle.force.specs.declared.Load.{Load}
use Rattle.force.specs.Loaded.{SectionInWind, Loaded}
use Rattle.force.proofs.Reported.{force-sound}
use Rattle.case_words.specs.declared.Case.{Case}
use Rattle.force_bench.specs.Words.{force_in, total_of}

module _ (c : Case) (items : ℕ) where
  pub total-none : 0 ≡ total_of c items 0
  unfolding total_of sum_to
  total-none = refl

  pub total-more : (i sum n r : ℕ) → sum ≡ total_of c items i → n ≡ force_in c items i → r ≡ (sum + n) % 2 ^ 64 → r ≡ total_of c items (i + 1)
  unfolding total_of sum_to
  total-more i sum n r s f e = rw (e, s, f, add-one, mod-add-mod)

  -- the least whole number is the ceiling
  pub force-known : (i : ℕ) (s : SectionInWind) → fits_under s.ice s.section ≡ true → s.legs ≡ legs_of c.legs → section_of s.section ≡ section_of c.section
      → s.direction ≡ c.direction → s.ice ≡ thickness c.ice → s.factor ≡ c.factor → s.pressure ≡ c.pressure - i % 16 → s.items ≡ items
      → {r : Load} → Loaded s r → r.force.0 ≡ force_in c items i
  unfolding force_in
  force-known i s stands legs section direction ice factor pressure sum p =
      least-unique (rw (legs, direction, ice, factor, section, pressure, sum) at p.force)
      (ceiling-least (rw (legs, direction, ice, factor, section, pressure, sum) at (force-sound s stands)))
