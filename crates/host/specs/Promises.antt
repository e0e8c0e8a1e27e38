-- What the call for a host program promises, and its steps.
use Rattle.std.specs.Prelude.{ℕ, ◌*◌, ◌≡◌, cond, List, [], eqb, ltb, length}
use Rattle.model.specs.Lists.{joined}
use Rattle.model.specs.Bytes.{bytes}
use Rattle.model.specs.Tower.{Tower, Wind}
use Rattle.model.specs.Report.{rows_of}
use Rattle.model.specs.Machine.{refuse_if, filled}
use Rattle.model.specs.Host.{pressures_of, host_refusal, host_out}

-- the answer is 0 or the number of the first refusal whose condition is met, and every lent byte is the definition's
pub record Hosts (file : List ℕ) (k ice factor : ℕ) (ps before after : List ℕ) (r : ℕ) : Type 0 where
  pub answer : r ≡ host_refusal file k ice factor ps (length before)
  pub rows : after ≡ host_out file k ice factor ps before

-- the pressures that wind is given for n sections: none where there are not 2 bytes for each
abbrev pub pressures_asked : ℕ → List ℕ → List ℕ
pressures_asked n ps = cond (eqb (length ps) (2 * n)) (pressures_of ps) []

-- the rows of a tower under a wind, 8 bytes a number; 22 where there are fewer than 48 bytes per section
pub record RowsLent (t : Tower) (w : Wind) (before after : List ℕ) (r : ℕ) : Type 0 where
  pub answer : r ≡ refuse_if (ltb (length before) (48 * length t.sections)) 22 0
  pub rows : after ≡ filled r (joined (bytes 8) (rows_of t w)) before
