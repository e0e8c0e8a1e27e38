-- So many parts, read from the file's middle on into a vector that was empty.
use Prim.Native.Nat.{ℕ, ◌+◌, ◌≤◌}
use mathlib.Core.Path.{◌≡◌}
use mathlib.Core.List.{List, [], map}
use lib.ListN.{length, drop}
use Rattle.std.specs.Prelude.{Ok, Err}
use Rattle.model.specs.declared.Refusal.{Refusal}
use Rattle.model.specs.Answers.{refusal_number}
use Rattle.model.specs.Reading.{Parsed, got, refused, many}
use Rattle.file_fields.specs.Outcomes.{ReadsAs}
use Rattle.file_fields.proofs.Answered.{rest, onward, onward-no}

module _ {A B : Type 0} (f : B → A) (p : List ℕ → Parsed A) (n : ℕ) (s : List ℕ) (at : ℕ) {none : List B} (e : none ≡ []) where
  pub each-behind : at ≤ length s → (parts : List B) {used : ℕ}
      → ReadsAs (λ (next : ℕ). map f parts) (λ (next : ℕ). next) (rest s at) (many (λ (l : List A). p) n (map f none) (rest s at)) (Ok used)
      → (many (λ (l : List A). p) n [] (drop at s) ≡ got (map f parts) (drop (at + used) s)) × (at + used ≤ length s)
  each-behind l parts h =
      let all = onward (many (λ (l : List A). p) n (map f none)) s at l h in
      (rw e at all.0, all.1)

  pub each-barred : {R : Type 0} {value : R → List A} {next : R → ℕ} {r : Refusal}
      → ReadsAs value next (rest s at) (many (λ (l : List A). p) n (map f none) (rest s at)) (Err r)
      → many (λ (l : List A). p) n [] (drop at s) ≡ refused (refusal_number r)
  each-barred h = rw e at (onward-no (many (λ (l : List A). p) n (map f none)) s at h)
