-- Reading from a list of bytes: a value with the bytes that remain, or the number of a refusal, which ends the reading.
use Rattle.std.specs.Prelude.{ℕ, zero, suc, ◌+◌, ◌*◌, Bool, true, false, List, [], ◌∷◌, ◌++◌, leb, length, take, drop}
use Rattle.model.specs.declared.Range.{Range}
use Rattle.model.specs.Ranges.{within}

pub data Parsed (A : Type 0) : Type 0 where
  got : A → List ℕ → Parsed A
  refused : ℕ → Parsed A

-- what was read is handed on with the bytes that remain
abbrev pub then : {A B : Type 0} → Parsed A → (A → List ℕ → Parsed B) → Parsed B
then (got a s) next = next a s
then (refused n) next = refused n

-- where a rule does not hold, the reading ends with its number
abbrev pub require : {A : Type 0} → Bool → ℕ → Parsed A → Parsed A
require true n rest = rest
require false n rest = refused n

-- the number that bytes stand for, high byte first, behind the digits of a
abbrev pub bytes_number : ℕ → List ℕ → ℕ
bytes_number a [] = a
bytes_number a (b ∷ s) = bytes_number (a * 256 + b) s

-- a field of w bytes; 2 where the file ends inside or before it
unfoldable pub field : ℕ → List ℕ → Parsed ℕ
field w s = require (leb w (length s)) 2 (got (bytes_number 0 (take w s)) (drop w s))

-- a field of w bytes in its range, else n: 2 before the rule of the same field
unfoldable pub ranged : ℕ → Range → ℕ → List ℕ → Parsed ℕ
ranged w range n s = then (field w s) λ v s₁. require (within range v) n (got v s₁)

-- n parts behind those of l; each is read with those before it in view
unfoldable pub many : {A : Type 0} → (List A → List ℕ → Parsed A) → ℕ → List A → List ℕ → Parsed (List A)
many p zero l s = got l s
many p (suc n) l s = then (p l s) λ a s₁. many p n (l ++ (a ∷ [])) s₁
