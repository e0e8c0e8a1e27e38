-- A field's bytes and its number, each from the other: one law for every width.
use Prim.Native.Nat.{ℕ, zero, suc, ◌+◌, ◌*◌, ◌/◌, ◌%◌, ◌^◌, ◌≤◌, ◌<◌}
use mathlib.Core.Path.{◌≡◌, refl, ap, ap₂, ◌∙◌}
use mathlib.Core.Bool.{true}
use mathlib.Core.List.{List, [], ◌∷◌, ◌++◌}
use native.Mathlib.Numerals.{add-one}
use native.Mathlib.Omega.{arith}
use native.Mathlib.Nat.{pow-suc, mul_comm, mod-eq_of_lt, mod-lt, one-le-pow}
use lib.Arith.{digits_lt, digits_div, digits_mod, mod-mul}
use lib.Dec.{leb, lit<, lit≤}
use lib.ListN.{length, take, drop, get_or, length-append, length-drop}
use lib.Seq.{take_at, drop_at, take-suc, get_or-drop}
use borrow.Author.Tests.{leb-true, le-leb, ltb-true, lt-ltb}
use Rattle.model.specs.Lists.{all_of}
use Rattle.model.specs.declared.Range.{Range}
use Rattle.model.specs.Ranges.{within}
use Rattle.model.specs.Reading.{got, bytes_number, field, ranged}
use Rattle.model.specs.Bytes.{bytes}
use Rattle.model.specs.Calls.{bits}
use Rattle.exact.proofs.Bools.{and_split, and-join}
use Rattle.model.proofs.FileLength.{length-bytes}

-- one byte more
number_more : (a : ℕ) (s : List ℕ) (b : ℕ) → bytes_number a (s ++ (b ∷ [])) ≡ bytes_number a s * 256 + b
number_more a [] b = refl
number_more a (x ∷ s) b = number_more (a * 256 + x) s b

-- one turn of a loop over a field's bytes
pub number-next : (s : List ℕ) (at i : ℕ) → at + i < length s
    → bytes_number 0 (take (i + 1) (drop at s)) ≡ bytes_number 0 (take i (drop at s)) * 256 + get_or s (at + i) 0
number-next s at i h =
    let l : i < length (drop at s) = omega (arith, length-drop at s) in
    rw (add-one, take-suc (drop at s) i 0 l, number_more, get_or-drop)

-- the digits in front
number-from : (a : ℕ) (l : List ℕ) → bytes_number a l ≡ a * 256 ^ length l + bytes_number 0 l
number-from a [] = omega arith
number-from a (x ∷ l) = rw (pow-suc 256 (length l)) (omega (arith, number-from (a * 256 + x) l, number-from (0 * 256 + x) l))

pub number_bound : (l : List ℕ) → all_of (bits 8) l ≡ true → bytes_number 0 l < 256 ^ length l
number_bound [] h = lit< tt
number_bound (x ∷ l) h =
    let k : _ = and_split (bits 8 x) (all_of (bits 8) l) h in
    rw (pow-suc 256 (length l))
    (omega (arith, number-from (0 * 256 + x) l, digits_lt {q = x} {m = 256} {r = bytes_number 0 l} {c = 256 ^ length l} (ltb-true _ _ k.0) (number_bound l k.1)))

-- the bytes of the number that bytes stand for
pub number-bytes : (a : ℕ) (l : List ℕ) → all_of (bits 8) l ≡ true → bytes (length l) (bytes_number a l) ≡ l
unfolding bytes
number-bytes a [] h = refl
number-bytes a (x ∷ l) h =
    let k : _ = and_split (bits 8 x) (all_of (bits 8) l) h in
    ap₂ (λ (b : ℕ) (m : List ℕ). b ∷ m)
    (ap (λ (v : ℕ). v / 256 ^ length l % 256) (number-from (a * 256 + x) l)
    ∙ ap (λ (v : ℕ). v % 256) (digits_div (a * 256 + x) (number_bound l k.1)) ∙ digits_mod a (ltb-true _ _ k.0))
    (number-bytes (a * 256 + x) l k.1)

-- the number that the bytes of a number stand for
pub bytes-number : (a w v : ℕ) → bytes_number a (bytes w v) ≡ a * 256 ^ w + v % 256 ^ w
unfolding bytes
bytes-number a zero v = omega arith
bytes-number a (suc w) v =
    let e : v % (256 ^ w * 256) ≡ (v / 256 ^ w % 256) * 256 ^ w + v % 256 ^ w =
    ap (λ (n : ℕ). v % n) (mul_comm (256 ^ w) 256) ∙ mod-mul v (lit< tt) (one-le-pow w 256 (lit≤ tt)) in
    bytes-number (a * 256 + v / 256 ^ w % 256) w v ∙ rw (pow-suc 256 w, e) (omega arith)

-- they are bytes
pub all-bytes : (w v : ℕ) → all_of (bits 8) (bytes w v) ≡ true
unfolding bytes
all-bytes zero v = refl
all-bytes (suc w) v = and-join (lt-ltb _ _ (mod-lt (v / 256 ^ w) {m = 256} (lit< tt))) (all-bytes w v)

-- a field that was written is read back
pub field_back : (w v : ℕ) (s : List ℕ) → v < 256 ^ w → field w (bytes w v ++ s) ≡ got v s
unfolding field
field_back w v s h =
    let enough : w ≤ length (bytes w v ++ s) = omega (arith, length-append (bytes w v) s, length-bytes w v) in
    let same : bytes_number 0 (bytes w v) ≡ v = omega (arith, bytes-number 0 w v, mod-eq_of_lt h) in
    rw (le-leb w (length (bytes w v ++ s)) enough, take_at (bytes w v) s w (length-bytes w v), drop_at (bytes w v) s w (length-bytes w v), same)

pub ranged-back : (w : ℕ) (r : Range) (n v : ℕ) (s : List ℕ) → r.high < 256 ^ w → within r v ≡ true → ranged w r n (bytes w v ++ s) ≡ got v s
unfolding ranged
ranged-back w r n v s b h =
    let k : _ = and_split (leb r.low v) (leb v r.high) h in
    rw (field_back w v s (omega (arith, leb-true v r.high k.1)), k.0, k.1)
