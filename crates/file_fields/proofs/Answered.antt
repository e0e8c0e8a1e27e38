-- What is known of a part that is read from the file's middle on, and of a field that was read.
use Prim.Native.Nat.{ℕ, ◌+◌, ◌-◌, ◌≤◌}
use mathlib.Core.Path.{◌≡◌, ap, subst, sym, ◌∙◌}
use mathlib.Core.List.{List}
use native.Mathlib.Omega.{arith}
use lib.ListN.{length, drop, take, length-drop}
use lib.Seq.{take_all, drop-drop}
use Rattle.std.specs.Prelude.{Result, Ok, Err}
use Rattle.std.specs.Result.{IsErrAnd}
use Rattle.std.proofs.lemmas.Result.{err_from_is_err_and}
use Rattle.model.specs.declared.Range.{Range}
use Rattle.model.specs.declared.Refusal.{Refusal}
use Rattle.model.specs.Answers.{refusal_number}
use Rattle.model.specs.Reading.{Parsed, got, refused, ranged}
use Rattle.model.proofs.Readings.{ranged-got}
use Rattle.model.proofs.Sections.{in-range}
use Rattle.file_fields.specs.Outcomes.{Says, ReadsAs}

-- by the case that a match has shown
pub took : {A R : Type 0} {value : R → A} {next : R → ℕ} {s : List ℕ} {p : Parsed A} {r r' : Result R Refusal}
    → ReadsAs value next s p r → r ≡ r' → Says value next s p r'
took {value = value} {next = next} {s = s} {p = p} h e = subst (Says value next s p) e h.says

-- a refusal that a match has shown
pub handed : {A R : Type 0} {value : R → A} {next : R → ℕ} {s : List ℕ} {p : Parsed A} {r : Result R Refusal} {e : Refusal}
    → ReadsAs value next s p r → r ≡ Err e → p ≡ refused (refusal_number e)
handed h e = took h e

-- the bytes from a place on, as they are lent
abbrev pub rest : List ℕ → ℕ → List ℕ
rest s i = take (length s - i) (drop i s)

pub rest-is : (s : List ℕ) (i : ℕ) → rest s i ≡ drop i s
rest-is s i = take_all (length s - i) (drop i s) (omega (arith, length-drop i s))

-- a part that is read from there: it is refused as the part is
pub onward-refused : {A : Type 0} (f : List ℕ → Parsed A) (s : List ℕ) (i : ℕ) {n : ℕ} → f (rest s i) ≡ refused n → f (drop i s) ≡ refused n
onward-refused f s i h = ap f (sym (rest-is s i)) ∙ h

-- its next place counts from there
module _ {A : Type 0} (f : List ℕ → Parsed A) (s : List ℕ) (i : ℕ) {R : Type 0} {value : R → A} {next : R → ℕ} where
  pub onward : i ≤ length s → {r : R} → ReadsAs value next (rest s i) (f (rest s i)) (Ok r)
      → (f (drop i s) ≡ got (value r) (drop (i + next r) s)) × (i + next r ≤ length s)
  onward l {r} h =
      let e : rest s i ≡ drop i s = rest-is s i in
      let k : next r ≤ length (drop i s) = subst (λ (t : List ℕ). next r ≤ length t) e h.says.1 in (
        ap f (sym e) ∙ h.says.0 ∙ ap (λ (t : List ℕ). got (value r) (drop (next r) t)) e ∙ ap (got (value r)) (drop-drop (next r) i s),
        omega (arith, length-drop i s, k),
      )

  pub onward-no : {e : Refusal} → ReadsAs value next (rest s i) (f (rest s i)) (Err e) → f (drop i s) ≡ refused (refusal_number e)
  onward-no h = onward-refused f s i h.says

-- a refusal that is handed on by `?`
pub passed_on : {A R : Type 0} (value : R → A) (next : R → ℕ) {s : List ℕ} {p : Parsed A} (e : Refusal) (r : Result R Refusal)
    → IsErrAnd r (λ y. y ≡ e) → p ≡ refused (refusal_number e) → ReadsAs value next s p r
passed_on value next e r h k =
    let y = err_from_is_err_and r h in
    rw (y.1, y.2) (record { says = k })

-- a field that was read is in its range
pub ranged-high : (w : ℕ) (r : Range) (n : ℕ) (s : List ℕ) {v : ℕ} {rest : List ℕ} → ranged w r n s ≡ got v rest → v ≤ r.high
ranged-high w r n s {v} e = (in-range r v (ranged-got w r n s e).1).high
