-- Document 01, "After the report": the call for a host program in C. It equals erect, wind and report from fresh.
use Rattle.std.specs.Prelude.{ℕ, ◌+◌, ◌*◌, List, [], ◌∷◌, ltb, eqb, length}
use Rattle.model.specs.Lists.{joined}
use Rattle.model.specs.Tower.{Tower, Wind}
use Rattle.model.specs.Reading.{Parsed, got, refused}
use Rattle.model.specs.File.{read_file}
use Rattle.model.specs.Bytes.{bytes}
use Rattle.model.specs.Report.{rows_of}
use Rattle.model.specs.Machine.{refuse_if, wind_rules, filled}

-- pressures as 2 bytes each, high byte first
unfoldable pub pressures_of : List ℕ → List ℕ
pressures_of [] = []
pressures_of (a ∷ []) = []
pressures_of (a ∷ (b ∷ rest)) = (a * 256 + b) ∷ pressures_of rest

-- the arguments of the call besides the file and the lent bytes
abbrev pub host_wind : ℕ → ℕ → ℕ → List ℕ → Wind
host_wind k ice factor ps = record { direction = k; ice = ice; factor = factor; pressures = pressures_of ps }

-- erect's refusals first; then wind's, where 18 is "not 2 bytes per section"; then 22, fewer than 48 bytes per section
abbrev pub after_file : Parsed Tower → Wind → ℕ → ℕ → ℕ
after_file (got t rest) w given room =
    wind_rules t w (eqb given (2 * length t.sections)) (refuse_if (ltb room (48 * length t.sections)) 22 0)
after_file (refused n) w given room = n

unfoldable pub host_refusal : List ℕ → ℕ → ℕ → ℕ → List ℕ → ℕ → ℕ
host_refusal file k ice factor ps room = after_file (read_file file) (host_wind k ice factor ps) (length ps) room

-- the rows, 8 bytes per number, high byte first
abbrev pub host_rows : Parsed Tower → Wind → List ℕ
host_rows (got t rest) w = joined (bytes 8) (rows_of t w)
host_rows (refused n) w = []

-- the lent bytes after the call
unfoldable pub host_out : List ℕ → ℕ → ℕ → ℕ → List ℕ → List ℕ → List ℕ
host_out file k ice factor ps lent =
    filled (host_refusal file k ice factor ps (length lent)) (host_rows (read_file file) (host_wind k ice factor ps)) lent
