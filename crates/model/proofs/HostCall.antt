-- The host's call equals erect, wind and report from fresh.
use Prim.Native.Nat.{ℕ, zero, suc, ◌*◌, ◌/◌, ◌≤◌, ◌<◌}
use mathlib.Core.Path.{◌≡◌, refl, ap, sym, ◌∙◌}
use mathlib.Core.Bool.{Bool, true, false, cond, not}
use mathlib.Core.List.{List, [], ◌∷◌, ◌++◌}
use mathlib.Core.Option.{none, some}
use native.Mathlib.Omega.{arith}
use lib.Dec.{ltb, eqb}
use lib.ListN.{length, drop}
use borrow.Author.Tests.{ltb-true, ltb-false, lt-ltb, le-ltb, eqb-true, eqb-false, eq-eqb, ne_eqb}
use Rattle.model.specs.Lists.{all_of, any_of, joined}
use Rattle.model.specs.Ranges.{within, ice_classes, structure_factor, pressures}
use Rattle.model.specs.Tower.{Tower, Wind}
use Rattle.model.specs.Reading.{Parsed, got, refused}
use Rattle.model.specs.File.{read_file}
use Rattle.model.specs.Bytes.{bytes}
use Rattle.model.specs.Machine.{State, no_tower, standing, filled, refuse_if, file_refusal, erected, erect_refusal, direction_fits, is_too_solid, wind_rules, wind_refusal, unless_refused, rows_in}
use Rattle.model.specs.Calls.{erect, wind, report, step, first_refusal, run}
use Rattle.model.specs.Host.{pressures_of, host_wind, after_file, host_refusal, host_rows, host_out}
use Rattle.model.proofs.Refused.{filled-refused}
use Rattle.model.proofs.FileRefusals.{Numbered, taken, number, file-numbered}

-- 2 bytes a pressure
pub pressures-count : (m : ℕ) (ps : List ℕ) → length ps ≡ 2 * m → length (pressures_of ps) ≡ m
unfolding pressures_of
pressures-count m [] h = omega arith
pressures-count m (a ∷ []) h = absurd (omega arith)
pressures-count zero (a ∷ (b ∷ ps)) h = absurd (omega arith)
pressures-count (suc m) (a ∷ (b ∷ ps)) h = ap suc (pressures-count m ps (omega arith))

eqb-double : (m n : ℕ) → eqb (2 * m) (2 * n) ≡ eqb m n
eqb-double m n = go (eqb m n) refl
  where
    go : (b : Bool) → eqb m n ≡ b → eqb (2 * m) (2 * n) ≡ eqb m n
    go true h = let e : m ≡ n = eqb-true m n h in eq-eqb (2 * m) (2 * n) (omega arith) ∙ sym h
    go false h = let e : m ≡ n → ⊥ = eqb-false m n h in ne_eqb (2 * m) (2 * n) (λ (g : 2 * m ≡ 2 * n). e (omega arith)) ∙ sym h

-- room for 48 n bytes is room for 6 n numbers of 8 bytes
ltb-eighth : (room n : ℕ) → ltb room (48 * n) ≡ ltb (room / 8) (6 * n)
ltb-eighth room n = go (ltb room (48 * n)) refl
  where
    go : (b : Bool) → ltb room (48 * n) ≡ b → ltb room (48 * n) ≡ ltb (room / 8) (6 * n)
    go true h = let g : room < 48 * n = ltb-true _ _ h in h ∙ sym (lt-ltb (room / 8) (6 * n) (omega arith))
    go false h = let g : 48 * n ≤ room = ltb-false _ _ h in h ∙ sym (le-ltb (room / 8) (6 * n) (omega arith))

-- rules before others: where they turn nothing down, the others say
then_rule : (b : Bool) (n rest alone next : ℕ) → (n ≡ 0 → ⊥) → rest ≡ cond (eqb alone 0) next alone
    → refuse_if b n rest ≡ cond (eqb (refuse_if b n alone) 0) next (refuse_if b n alone)
then_rule true n rest alone next h e = rw (ne_eqb n 0 h)
then_rule false n rest alone next h e = e

pub wind-then : (t : Tower) (w : Wind) (counted : Bool) (next : ℕ)
    → wind_rules t w counted next ≡ cond (eqb (wind_rules t w counted 0) 0) next (wind_rules t w counted 0)
wind-then t w counted next =
    then_rule (not (direction_fits t.legs w.direction)) 15 _ _ next (omega arith)
    (then_rule (not (within ice_classes w.ice)) 16 _ _ next (omega arith)
    (then_rule (not (within structure_factor w.factor)) 17 _ _ next (omega arith)
    (then_rule (not counted) 18 _ _ next (omega arith)
    (then_rule (not (all_of (within pressures) w.pressures)) 19 _ _ next (omega arith)
    (then_rule (any_of (is_too_solid w.ice) t.sections) 20 _ _ next (omega arith) refl)))))

-- a last call
alone : (n : ℕ) → cond (eqb n 0) 0 n ≡ n
alone n = go (eqb n 0) refl
  where
    go : (b : Bool) → eqb n 0 ≡ b → cond b 0 n ≡ n
    go true h = sym (eqb-true n 0 h)
    go false h = refl

-- wind and report on a tower under no wind
module _ (t : Tower) (w : Wind) (rows : List ℕ) where
  wind-report : (r : ℕ) → r ≡ wind_refusal (standing t none) w
      → cond (eqb r 0) (refuse_if (ltb (length rows) (6 * length t.sections)) 22 0) r
      ≡ cond (eqb r 0) (first_refusal (unless_refused r (standing t none) (standing t (some w))) (report rows ∷ [])) r
  wind-report r e = go (eqb r 0)
    where
      go : (b : Bool) → cond b (refuse_if (ltb (length rows) (6 * length t.sections)) 22 0) r
          ≡ cond b (first_refusal (cond b (standing t (some w)) (standing t none)) (report rows ∷ [])) r
      go true = sym (alone _)
      go false = refl

-- the state that erect leaves of a fresh service
abbrev erected_as : Parsed Tower → State
erected_as p = unless_refused (file_refusal p) no_tower (erected no_tower p)

module _ (file : List ℕ) (k ice factor : ℕ) (ps : List ℕ) (m : ℕ) (even : length ps ≡ 2 * m) (room : ℕ) (rows : List ℕ) (as_long : length rows ≡ room / 8) where
  abbrev w : Wind
  w = host_wind k ice factor ps

  by-file : (p : Parsed Tower) → Numbered p
      → after_file p w (length ps) room
      ≡ cond (eqb (file_refusal p) 0) (first_refusal (erected_as p) (wind w ∷ report rows ∷ [])) (file_refusal p)
  by-file (refused n) (number l u) = let h : n ≡ 0 → ⊥ = λ (e : n ≡ 0). omega arith in rw (ne_eqb n 0 h)
  by-file (got t s) taken =
      let c : eqb (length ps) (2 * length t.sections) ≡ eqb (length w.pressures) (length t.sections) =
      ap (λ (x : ℕ). eqb x (2 * length t.sections)) even ∙ eqb-double m (length t.sections)
      ∙ ap (λ (x : ℕ). eqb x (length t.sections)) (sym (pressures-count m ps even)) in
      let d : ltb room (48 * length t.sections) ≡ ltb (length rows) (6 * length t.sections) =
      ltb-eighth room (length t.sections) ∙ ap (λ (x : ℕ). ltb x (6 * length t.sections)) (sym as_long) in
      ap (λ (b : Bool). wind_rules t w b (refuse_if (ltb room (48 * length t.sections)) 22 0)) c
      ∙ ap (λ (b : Bool). wind_rules t w (eqb (length w.pressures) (length t.sections)) (refuse_if b 22 0)) d
      ∙ wind-then t w (eqb (length w.pressures) (length t.sections)) (refuse_if (ltb (length rows) (6 * length t.sections)) 22 0)
      ∙ wind-report t w rows (wind_refusal (standing t none) w) refl

  -- its refusal is the first one of the three calls
  pub host-refusal : host_refusal file k ice factor ps room ≡ first_refusal no_tower (erect file ∷ wind w ∷ report rows ∷ [])
  unfolding host_refusal erect_refusal
  host-refusal = by-file (read_file file) (file-numbered file)

-- where there are not 2 bytes per section it is 18, unless a rule before that is met; so an odd number of bytes is
-- never accepted
pub host-miscounted : (t : Tower) (rest : List ℕ) (w : Wind) (given room : ℕ) → (given ≡ 2 * length t.sections → ⊥)
    → after_file (got t rest) w given room
    ≡ refuse_if (not (direction_fits t.legs w.direction)) 15
    (refuse_if (not (within ice_classes w.ice)) 16 (refuse_if (not (within structure_factor w.factor)) 17 18))
host-miscounted t rest w given room h = rw (ne_eqb given (2 * length t.sections) h)

rows-by-file : (w : Wind) (p : Parsed Tower) → Numbered p
    → cond (eqb (file_refusal p) 0) (first_refusal (erected_as p) (wind w ∷ [])) (file_refusal p) ≡ 0
    → host_rows p w ≡ joined (bytes 8) (rows_in (step (erected_as p) (wind w)))
rows-by-file w (refused n) (number l u) e =
    let h : n ≡ 0 → ⊥ = λ (g : n ≡ 0). omega arith in
    absurd (h (rw (ne_eqb n 0 h) at e))
rows-by-file w (got t s) taken e =
    rw (eq-eqb (wind_refusal (standing t none) w) 0 (sym (alone (wind_refusal (standing t none) w)) ∙ e))

-- and its rows are those of the state that erect and wind leave, 8 bytes a number
pub host-rows : (file : List ℕ) (w : Wind) → first_refusal no_tower (erect file ∷ wind w ∷ []) ≡ 0
    → host_rows (read_file file) w ≡ joined (bytes 8) (rows_in (run no_tower (erect file ∷ wind w ∷ [])))
unfolding erect_refusal
host-rows file w h = rows-by-file w (read_file file) (file-numbered file) h

-- the lent bytes: as they were where the call is turned down, else the rows and then the rest as it was
module _ (file : List ℕ) (k ice factor : ℕ) (ps lent : List ℕ) where
  pub host-out-refused : (host_refusal file k ice factor ps (length lent) ≡ 0 → ⊥) → host_out file k ice factor ps lent ≡ lent
  unfolding host_out
  host-out-refused h = filled-refused _ _ lent h

  pub host-out : host_refusal file k ice factor ps (length lent) ≡ 0
      → host_out file k ice factor ps lent
      ≡ host_rows (read_file file) (host_wind k ice factor ps) ++ drop (length (host_rows (read_file file) (host_wind k ice factor ps))) lent
  unfolding host_out filled
  host-out h = rw (eq-eqb (host_refusal file k ice factor ps (length lent)) 0 h)
