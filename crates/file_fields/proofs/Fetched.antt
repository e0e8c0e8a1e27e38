-- A field at a place: its number and the next place, or 2 exactly if fewer bytes than its own remain; and the number
-- from its bytes.
use Prim.Native.Nat.{ℕ, suc, ◌+◌, ◌-◌, ◌*◌, ◌^◌, ◌≤◌, ◌<◌}
use mathlib.Core.Path.{◌≡◌, refl, ap, ap₂, sym, ◌∙◌}
use mathlib.Core.Bool.{Bool, true, false}
use mathlib.Core.List.{List, [], ◌∷◌}
use native.Mathlib.Nat.{zero-add, pow-le-pow_right, lt_of_lt_of_le}
use native.Mathlib.Omega.{arith}
use lib.Dec.{leb, lit≤}
use lib.ListN.{length, take, drop, get_or, length-drop, take-append-drop}
use lib.Seq.{drop-drop, length-take-le}
use borrow.Author.Tests.{le-leb, lt-leb, lt-ltb}
use borrow.Rule.Slice.PartMut.{put_mid}
use Rattle.std.specs.Prelude.{Result, Ok, Err}
use Rattle.std.specs.Array.{IsFirstChunk}
use Rattle.std.specs.Int.{w32, from_be_bytes}
use Rattle.model.specs.declared.Refusal.{Refusal}
use Rattle.model.specs.declared.Refusal.TheVariants.{FileEnds}
use Rattle.model.specs.Answers.{refusal_number}
use Rattle.model.specs.Reading.{got, refused, require, bytes_number, field}
use Rattle.model.specs.Lists.{all_of}
use Rattle.model.specs.Calls.{bits}
use Rattle.exact.proofs.Bools.{and-join}
use Rattle.model.proofs.Fields.{number-next, number_bound}
use Rattle.model.proofs.Lists.{all-parts, all_take}
use Rattle.model.proofs.OneAnswer.{refusal-same}
use Rattle.file_fields.specs.Outcomes.{ReadsField}
use Rattle.file_fields.proofs.Answered.{rest, rest-is}

-- two places within the bytes, behind which the same remains
place_same : (s : List ℕ) {i j : ℕ} → i ≤ length s → j ≤ length s → drop i s ≡ drop j s → i ≡ j
place_same s {i} {j} h k e = omega (arith, length-drop i s, length-drop j s, ap length e)

module _ (w : ℕ) (s : List ℕ) (at : ℕ) where
  pub no_room : length s - at < w → field w (drop at s) ≡ refused 2
  unfolding field
  no_room l = rw (lt-leb w (length (drop at s)) (omega (arith, length-drop at s))) refl

  field-got : at + w ≤ length s → field w (drop at s) ≡ got (bytes_number 0 (take w (drop at s))) (drop (at + w) s)
  unfolding field
  field-got h = rw (le-leb w (length (drop at s)) (omega (arith, length-drop at s)), drop-drop w at s) refl

  -- the answers of a reader of fields, from the bytes b that it finds
  pub field_ends : length (rest s at) < w → ReadsField w s at (Err FileEnds)
  field_ends l = (record { says = no_room (omega (arith, ap length (rest-is s at), length-drop at s)) }, tt)

  pub field_is : (b : List ℕ) (v : ℕ) → at ≤ length s → w ≤ length (rest s at) → b ≡ take w (rest s at) → v ≡ bytes_number 0 b → v < 256 ^ w
      → ReadsField w s at (Ok (v, at + w))
  field_is b v l h e n k =
      let r = rest-is s at in
      let room : at + w ≤ length s = omega (arith, ap length r, length-drop at s) in
      let number : v ≡ bytes_number 0 (take w (drop at s)) = n ∙ ap (bytes_number 0) e ∙ ap (λ (t : List ℕ). bytes_number 0 (take w t)) r in
      (record { says = (field-got room ∙ ap (λ (n : ℕ). got n (drop (at + w) s)) (sym number), room) }, k)

  -- a field that was not read
  pub field_barred : {e : Refusal} → ReadsField w s at (Err e) → field w (drop at s) ≡ refused 2
  unfolding field
  field_barred {e} h = by_case (leb w (length (drop at s))) h.0.says
    where
      by_case : (b : Bool) → require b 2 (got (bytes_number 0 (take w (drop at s))) (drop w (drop at s))) ≡ refused (refusal_number e)
          → require b 2 (got (bytes_number 0 (take w (drop at s))) (drop w (drop at s))) ≡ refused 2
      by_case true k = cc
      by_case false k = refl

  -- what every reader of a field answers
  pub fetched-number : (r : Result (ℕ × ℕ) Refusal) → at + w ≤ length s → ReadsField w s at r → r ≡ Ok (bytes_number 0 (take w (drop at s)), at + w)
  fetched-number (Ok x) h p =
      let e : got x.0 (drop x.1 s) ≡ got (bytes_number 0 (take w (drop at s))) (drop (at + w) s) = sym p.0.says.0 ∙ field-got h in
      let number : x.0 ≡ bytes_number 0 (take w (drop at s)) = cc in
      let rest : drop x.1 s ≡ drop (at + w) s = cc in
      ap₂ (λ (v next : ℕ). Ok (v, next)) number (place_same s p.0.says.1 h rest)
  fetched-number (Err e) h p =
      let k : refused (refusal_number e) ≡ got (bytes_number 0 (take w (drop at s))) (drop (at + w) s) = sym p.0.says ∙ field-got h in
      cc

  pub fetched-end : (r : Result (ℕ × ℕ) Refusal) → length s - at < w → ReadsField w s at r → r ≡ Err FileEnds
  fetched-end (Ok x) h p = let k : got x.0 (drop x.1 s) ≡ refused 2 = sym p.0.says.0 ∙ no_room h in cc
  fetched-end (Err e) h p =
      let k : refused (refusal_number e) ≡ refused 2 = sym p.0.says ∙ no_room h in
      let number : refusal_number e ≡ 2 = cc in
      ap Err (refusal-same {r = e} {s = FileEnds} number)

-- the number of a word of four bytes, of which the last are b and those before are 0
word_number : (b : List ℕ) → length b ≤ 4
    → from_be_bytes w32 (put_mid (4 - length b) (4 - (4 - length b)) (0 ∷ 0 ∷ 0 ∷ 0 ∷ []) b) ≡ bytes_number 0 b
word_number [] h = refl
word_number (x ∷ []) h = omega arith
word_number (x ∷ y ∷ []) h = omega arith
word_number (x ∷ y ∷ z ∷ []) h = omega arith
word_number (x ∷ y ∷ z ∷ u ∷ []) h = omega arith
word_number (x ∷ y ∷ z ∷ u ∷ v ∷ b) h = absurd (omega arith)

-- a slice of bytes, and the number of a part of it
pub all-bytes : (l : List ℕ) → ((i : ℕ) → get_or l i 0 < 256) → all_of (bits 8) l ≡ true
all-bytes [] h = refl
all-bytes (x ∷ l) h = and-join (lt-ltb x (2 ^ 8) (h 0)) (all-bytes l (λ i. h (suc i)))

part_bound : (s : List ℕ) (at n : ℕ) → ((i : ℕ) → get_or s i 0 < 256) → n ≤ length (rest s at)
    → bytes_number 0 (take n (rest s at)) < 256 ^ n
part_bound s at n h l =
    let behind = (all-parts (bits 8) (take at s) (drop at s) (ap (all_of (bits 8)) (take-append-drop at s) ∙ all-bytes s h)).1 in
    let part = all_take (bits 8) n (rest s at) (ap (all_of (bits 8)) (rest-is s at) ∙ behind) in
    rw (length-take-le n (rest s at) l) at (number_bound (take n (rest s at)) part)

-- a field of n bytes b, copied as w into a word
pub fetched : (n : ℕ) (s : List ℕ) (at : ℕ) (b w : List ℕ) (v : ℕ) → at ≤ length s → n ≤ 4 → ((i : ℕ) → get_or s i 0 < 256)
    → IsFirstChunk (rest s at) b n → w ≡ b → v ≡ from_be_bytes w32 (put_mid (4 - n) (4 - (4 - n)) (0 ∷ 0 ∷ 0 ∷ 0 ∷ []) w)
    → ReadsField n s at (Ok (v, at + n))
fetched n s at b w v l m h c e k =
    let long : length b ≡ n = rw c.same (length-take-le n (rest s at) c.enough) in
    let number : v ≡ bytes_number 0 b = k ∙ rw (e, ← long) (word_number b (omega arith)) in
    field_is n s at b v l c.enough c.same number (rw (number, c.same) (part_bound s at n h c.enough))

-- one turn of a loop over a field's bytes; before its last byte a number of at most four has room for one more
pub number-turn : (l : List ℕ) (i : ℕ) → i < length l → bytes_number 0 (take (i + 1) l) ≡ bytes_number 0 (take i l) * 256 + get_or l i 0
number-turn l i h = let e = number-next l 0 i (omega arith) in rw zero-add at e

pub number_room : (i : ℕ) {v : ℕ} → v < 256 ^ i → i < 4 → v < 2 ^ 24
number_room i h l = lt_of_lt_of_le h (pow-le-pow_right {n = 256} (lit≤ tt) {i = i} {j = 3} (omega arith))
