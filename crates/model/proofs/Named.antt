-- Every number that turns a call down is a refusal's.
use Prim.Native.Nat.{ℕ, suc, ◌+◌, ◌*◌, ◌≤◌, ◌<◌}
use mathlib.Core.Path.{◌≡◌, refl, sym, ◌∙◌}
use mathlib.Core.Bool.{Bool, true, false, not, ◌&&◌}
use mathlib.Core.List.{List, [], ◌∷◌}
use mathlib.Core.Logic.{⊎_elim}
use mathlib.Core.Option.{none, some}
use native.Mathlib.Nat.{eq-or-lt_of_le}
use native.Mathlib.Omega.{arith}
use lib.Dec.{leb, ltb, eqb}
use lib.ListN.{length, take, drop}
use borrow.Author.Tests.{eqb-true}
use Rattle.model.specs.declared.Refusal.{Refusal}
use Rattle.model.specs.declared.Refusal.TheVariants as refusal
use Rattle.model.specs.Answers.{refusal_number}
use Rattle.model.specs.Lists.{all_of, any_of}
use Rattle.model.specs.Ranges.{within, ice_classes, structure_factor, pressures}
use Rattle.model.specs.Tower.{Tower}
use Rattle.model.specs.Reading.{Parsed, refused}
use Rattle.model.specs.File.{numbered, fields_in_range}
use Rattle.model.specs.Bytes.{file_of}
use Rattle.model.specs.Machine.{State, no_tower, standing, refuse_if, file_refusal, erect_refusal, direction_fits, is_too_solid}
use Rattle.model.specs.Calls.{Call, erect, hang, take_down, wind, report, check, write, refusal_of}
use Rattle.model.proofs.Says.{refusals}
use Rattle.model.proofs.FileRefusals.{Numbered, taken, number, file-numbered}
use Rattle.exact.proofs.Bools.{and_split}

-- the number is a refusal's
pub record Named (n : ℕ) : Type 0 where
  pub why : Refusal
  pub number : n ≡ refusal_number why

-- no rule turns the call down, or a refusal's does
pub data Told (n : ℕ) : Type 0 where
  free : n ≡ 0 → Told n
  told : Named n → Told n

by-rule : (e : Refusal) → Told (refusal_number e)
by-rule e = told (record { why = e; number = refl })

-- a rule before others
rule : (b : Bool) (e : Refusal) {rest : ℕ} → Told rest → Told (refuse_if b (refusal_number e) rest)
rule true e h = by-rule e
rule false e h = h

-- the refusals of a list have the numbers from k on
abbrev in_order : ℕ → List Refusal → Bool
in_order k [] = true
in_order k (e ∷ l) = eqb k (refusal_number e) && in_order (suc k) l

named-from : (k : ℕ) (l : List Refusal) → in_order k l ≡ true → (n : ℕ) → k ≤ n → n < k + length l → Named n
named-from k [] o n h g = absurd (omega arith)
named-from k (e ∷ l) o n h g =
    let f : _ = and_split (eqb k (refusal_number e)) (in_order (suc k) l) o in
    ⊎_elim (λ (q : k ≡ n). record { why = e; number = sym q ∙ eqb-true k (refusal_number e) f.0 })
    (λ (q : k < n). named-from (suc k) l f.1 n q (omega arith)) (eq-or-lt_of_le h)

-- those of a file, 2 to 13
abbrev file_rules : List Refusal
file_rules = take 12 (drop 1 refusals)

file-named : (n : ℕ) → 2 ≤ n → n ≤ 13 → Named n
file-named n l u = named-from 2 file_rules refl n l (omega arith)

file-told : {p : Parsed Tower} → Numbered p → Told (file_refusal p)
file-told taken = free refl
file-told (number {n = n} l u) = told (file-named n l u)

pub not_free : {n : ℕ} → Numbered {A = Tower} (refused n) → n ≡ 0 → ⊥
not_free (number l u) z = omega arith

-- each call
pub refusal-for : (m : State) (c : Call) → Told (refusal_of m c)
unfolding erect_refusal
refusal-for m (erect file) = file-told (file-numbered file)
refusal-for no_tower (hang it) = by-rule refusal.NoTower
refusal-for (standing t w) (hang it) =
    rule (leb 64 (length t.items)) refusal.ItemCount
    (rule (numbered it.number t.items) refusal.ItemNumber
    (rule (leb (length t.sections) it.section) refusal.ItemSection
    (rule (not (fields_in_range it)) refusal.ItemField (free refl))))
refusal-for no_tower (take_down n) = by-rule refusal.NoTower
refusal-for (standing t w) (take_down n) = rule (not (numbered n t.items)) refusal.NoSuchItem (free refl)
refusal-for no_tower (wind w) = by-rule refusal.NoTower
refusal-for (standing t old) (wind w) =
    rule (not (direction_fits t.legs w.direction)) refusal.Direction
    (rule (not (within ice_classes w.ice)) refusal.IceClass
    (rule (not (within structure_factor w.factor)) refusal.StructureFactor
    (rule (not (eqb (length w.pressures) (length t.sections))) refusal.PressureCount
    (rule (not (all_of (within pressures) w.pressures)) refusal.Pressure
    (rule (any_of (is_too_solid w.ice) t.sections) refusal.IcedSolidity (free refl))))))
refusal-for no_tower (report lent) = by-rule refusal.NoTower
refusal-for (standing t none) (report lent) = by-rule refusal.NoWind
refusal-for (standing t (some w)) (report lent) = rule (ltb (length lent) (6 * length t.sections)) refusal.OutputShort (free refl)
refusal-for no_tower check = by-rule refusal.NoTower
refusal-for (standing t none) check = by-rule refusal.NoWind
refusal-for (standing t (some w)) check = free refl
refusal-for no_tower (write lent) = by-rule refusal.NoTower
refusal-for (standing t w) (write lent) = rule (ltb (length lent) (length (file_of t))) refusal.OutputShort (free refl)
