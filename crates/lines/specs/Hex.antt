-- Bytes in hexadecimal: two digits a byte, the high one first.
use Rattle.std.specs.Prelude.{ℕ, ◌+◌, ◌-◌, ◌*◌, ◌/◌, ◌%◌, ◌&&◌, if◌then◌else◌, List, [], ◌∷◌, length, ◌==◌, nat_le, nat_lt, Option, Some, None, Result, Err}
use Rattle.std.specs.Option.{ok_or}
use Rattle.lines.specs.declared.hex.HexError.{HexError}
use Rattle.lines.specs.declared.hex.HexError.TheVariants.{Bad, Many}

-- the digit of a value below 16: `0` to `9`, then `a` to `f`
abbrev pub hex_digit : ℕ → ℕ
hex_digit d = if nat_lt d 10 then 48 + d else 87 + d

unfoldable pub hex_text : List ℕ → List ℕ
hex_text [] = []
hex_text (b ∷ bs) = hex_digit (b / 16) ∷ hex_digit (b % 16) ∷ hex_text bs

-- the value of a digit, where `a` to `f` may be `A` to `F`
abbrev pub hex_value : ℕ → Option ℕ
hex_value b =
    if nat_le 48 b && nat_le b 57 then Some (b - 48)
    else if nat_le 65 b && nat_le b 70 then Some (b - 55)
    else if nat_le 97 b && nat_le b 102 then Some (b - 87)
    else None

-- the byte of two digits
abbrev pub byte_of : Option ℕ → Option ℕ → Option ℕ
byte_of (Some high) (Some low) = Some (high * 16 + low)
byte_of (Some high) None = None
byte_of None low = None

abbrev pub pair_value : ℕ → ℕ → Option ℕ
pair_value high low = byte_of (hex_value high) (hex_value low)

-- the bytes of pairs of digits, if all are digits
abbrev pub with_first : Option ℕ → Option (List ℕ) → Option (List ℕ)
with_first (Some b) (Some bs) = Some (b ∷ bs)
with_first (Some b) None = None
with_first None bs = None

unfoldable pub pairs : List ℕ → Option (List ℕ)
pairs [] = Some []
pairs (digit ∷ []) = None
pairs (high ∷ (low ∷ s)) = with_first (pair_value high low) (pairs s)

-- the bytes of a text, or what is wrong with it: there is no room for so many bytes, a digit has no second one or a
-- byte is no digit
abbrev pub bytes_in : ℕ → List ℕ → Result (List ℕ) HexError
bytes_in room s =
    if length s % 2 == 1 then Err Bad
    else if nat_lt room (length s / 2) then Err Many
    else ok_or (pairs s) Bad
