-- What an answer of the reader says of the bytes that it was given.
use Rattle.std.specs.Prelude.{ℕ, ◌^◌, ◌≤◌, ◌<◌, ◌≡◌, List, length, drop, Result, Ok, Err}
use Rattle.model.specs.declared.Refusal.{Refusal}
use Rattle.model.specs.Answers.{refusal_number}
use Rattle.model.specs.Reading.{Parsed, got, refused, field}

-- it is what the reading p of the bytes s gives: of what is answered, the value that was read and the next place, or a refusal
abbrev pub Says : {A R : Type 0} → (R → A) → (R → ℕ) → List ℕ → Parsed A → Result R Refusal → Type 0
Says value next s p (Ok r) = (p ≡ got (value r) (drop (next r) s)) × (next r ≤ length s)
Says value next s p (Err e) = p ≡ refused (refusal_number e)

pub record ReadsAs {A R : Type 0} (value : R → A) (next : R → ℕ) (s : List ℕ) (p : Parsed A) (r : Result R Refusal) : Type 0 where
  pub says : Says value next s p r

-- of a value with the next place
abbrev pub Reads : (A : Type 0) → List ℕ → Parsed A → Result (A × ℕ) Refusal → Type 0
Reads A s p r = ReadsAs (λ (x : A × ℕ). x.0) (λ (x : A × ℕ). x.1) s p r

-- a field's number has no more than its bytes
abbrev pub SmallField : ℕ → Result (ℕ × ℕ) Refusal → Type 0
SmallField w (Ok x) = x.0 < 256 ^ w
SmallField w (Err e) = Unit {0}

-- the field of w bytes at a place, read. Laws `fetched-number` and `fetched-end` in proofs/Fetched: the field's number
-- and the next place, or 2 exactly if fewer bytes remain
abbrev pub ReadsField : ℕ → List ℕ → ℕ → Result (ℕ × ℕ) Refusal → Type 0
ReadsField w s at r = Reads ℕ s (field w (drop at s)) r × SmallField w r
