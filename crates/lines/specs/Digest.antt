-- Digests of numbers: FNV-1a over words of 64 bits.
use Rattle.std.specs.Prelude.{ℕ, ◌*◌, ◌%◌, ◌^◌, List, [], ◌∷◌, bit_xor}

abbrev pub start : ℕ
start = 14_695_981_039_346_656_037

unfoldable pub mixed : ℕ → ℕ → ℕ
mixed d v = bit_xor d v * 1_099_511_628_211 % 2 ^ 64

-- the digest with further values
unfoldable pub digest : ℕ → List ℕ → ℕ
digest d [] = d
digest d (v ∷ l) = digest (mixed d v) l
