-- What is drawn from a key and a place.
use Rattle.std.specs.Prelude.{ℕ, ◌/◌}
use Rattle.lines.specs.Digest.{mixed}

unfoldable pub stir : ℕ → ℕ
stir n = mixed n (n / 536_870_912)

abbrev pub drawn : ℕ → ℕ → ℕ
drawn key place = stir (stir (stir (stir (mixed key place))))
