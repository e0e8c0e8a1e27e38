-- Hexadecimal digits and pairs of them.
use Rattle.std.proofs.Common.{◌≡◌, ℕ, ◌+◌, ◌-◌, ◌*◌, ◌/◌, ◌%◌, ◌<◌, ◌≤◌, Bool, true, false, ◌&&◌, leb, Some, None, List, [], ◌∷◌, ◌++◌, length, get_or, take, refl, arith, le-leb, leb-true}
use borrow.Author.Tests.{lt-leb}
use Rattle.std.proofs.lemmas.List.{take_more}
use Rattle.lines.specs.Hex.{hex_digit, hex_text, hex_value}

-- tests of a range
module _ (low high b : ℕ) where
  within : low ≤ b → b ≤ high → (leb low b && leb b high) ≡ true
  within h g = rw (le-leb _ _ h, le-leb _ _ g)

  outside : (low ≤ b → high < b) → (leb low b && leb b high) ≡ false
  outside h = go (leb low b) refl
    where
      go : (t : Bool) → leb low b ≡ t → (leb low b && leb b high) ≡ false
      go true e = rw (e, lt-leb _ _ (h (leb-true _ _ e)))
      go false e = rw e

-- the value of `A` to `F`, and of a byte that is no digit
module _ (b : ℕ) where
  pub value-upper : 65 ≤ b → b ≤ 70 → Some (b - 55) ≡ hex_value b
  value-upper h g = rw (outside 48 57 b (λ k. omega arith), within 65 70 b h g)

  pub value_none : (48 ≤ b → 57 < b) → (65 ≤ b → 70 < b) → (97 ≤ b → 102 < b) → None ≡ hex_value b
  value_none h g k = rw (outside 48 57 b h, outside 65 70 b g, outside 97 102 b k)

-- texts of bytes, one after the other
pub hex-append : (bs cs : List ℕ) → hex_text (bs ++ cs) ≡ hex_text bs ++ hex_text cs
unfolding hex_text
hex-append [] cs = refl
hex-append (b ∷ bs) cs = rw (hex-append bs cs)

pub hex-length : (bs : List ℕ) → length (hex_text bs) ≡ 2 * length bs
unfolding hex_text
hex-length [] = refl
hex-length (b ∷ bs) = rw (hex-length bs) (omega arith)

-- one byte more
pub hex_more : (bytes : List ℕ) (i : ℕ) → i < length bytes
    → hex_text (take (i + 1) bytes) ≡ hex_text (take i bytes) ++ ((hex_digit (get_or bytes i 0 / 16) ∷ []) ++ (hex_digit (get_or bytes i 0 % 16) ∷ []))
unfolding hex_text
hex_more bytes i h = rw (take_more bytes i 0 h, hex-append)
