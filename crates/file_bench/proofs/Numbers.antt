-- The numbers of fields, put one behind the other; two answers are the same, by whichever reader.
use Prim.Native.Nat.{ℕ, suc, ◌+◌, ◌-◌, ◌^◌, ◌≤◌, ◌<◌}
use mathlib.Core.Path.{◌≡◌, refl, ap, sym, ◌∙◌}
use mathlib.Core.List.{List, ◌++◌, map, append_assoc}
use native.Mathlib.Numerals.{add-one}
use native.Mathlib.Omega.{arith}
use Rattle.std.proofs.lemmas.List.{map_more}
use lib.ListN.{length, take, drop, get_or, set, length-append, length-map}
use lib.Seq.{take_all, length-take-le, set_at, drop-cons}
use borrow.Author.Tests.{le-leb, lt-leb}
use Rattle.file_fields.specs.Written.{Puts}
use Rattle.file_fields.proofs.Fetched.{no_room}
use Rattle.file_fields.proofs.Writing.{puts-long}
use Rattle.file_bench.specs.Numbers.{number_at, field_numbers, GivesNumbers}

-- beyond the file
pub no_number : (w : ℕ) (file : List ℕ) (at : ℕ) → 1 ≤ w → length file < at → number_at w file at ≡ 2 ^ 64 - 1
no_number w file at h l = rw (no_room w file at (omega arith)) refl

-- a number more
pub number_more : (f : ℕ → ℕ) (places before : List ℕ) (i : ℕ) → i < length places → i < length before
    → set (map f (take i places) ++ drop i before) i (f (get_or places i 0)) ≡ map f (take (i + 1) places) ++ drop (i + 1) before
number_more f places before i h k =
    rw (map_more f places i 0 h, add-one, append_assoc, drop-cons before i 0 k)
    (set_at (map f (take i places)) (get_or before i 0) (drop (suc i) before) (f (get_or places i 0)) i (rw length-map (length-take-le i places (omega arith))))

pub numbers-done : (f : ℕ → ℕ) (places : List ℕ) {before after : List ℕ} (i : ℕ) → i ≡ length places → after ≡ map f (take i places) ++ drop i before
    → Puts (map f places) before after (length places)
numbers-done f places {before} i e so =
    let n : length (map f places) ≡ length places = simp length-map in
    let all : take i places ≡ places = take_all i places (omega arith) in
    record { count = sym n; bytes = rw (n, ← e) (so ∙ ap (λ (p : List ℕ). map f p ++ drop i before) all) }

-- how many were put, and how many are lent still
pub numbers-put : (f : ℕ → ℕ) (places : List ℕ) {before after : List ℕ} {n : ℕ} → length places ≤ length before → Puts (map f places) before after n
    → (n ≡ length places) × (length after ≡ length before)
numbers-put f places h p =
    let e : length (map f places) ≡ length places = simp length-map in
    (p.count ∙ e, puts-long p (omega (arith, e)))

module _ {file twos fours before : List ℕ} where
  pub gives_all : {after : List ℕ} {r : ℕ} → length twos + length fours ≤ length before → Puts (field_numbers file twos fours) before after r
      → GivesNumbers file twos fours before after r
  unfolding field_numbers
  gives_all {r = r} h p =
      let s = le-leb _ _ h in
      let n : length (map (number_at 2 file) twos ++ map (number_at 4 file) fours) ≡ length twos + length fours = simp (length-append, length-map) in
      record { answer = rw s (p.count ∙ n); numbers = rw s (p.bytes ∙ ap (λ (m : ℕ). (map (number_at 2 file) twos ++ map (number_at 4 file) fours) ++ drop m before) n) }

  pub gives_none : length before < length twos + length fours → GivesNumbers file twos fours before before (2 ^ 64 - 1)
  gives_none h = let s = lt-leb _ _ h in record { answer = rw s refl; numbers = rw s refl }

  -- what one reader answers and leaves, the other does
  pub numbers-same : {a b : List ℕ} {r s : ℕ} → GivesNumbers file twos fours before a r → GivesNumbers file twos fours before b s → (r ≡ s) × (a ≡ b)
  numbers-same p q = (p.answer ∙ sym q.answer, p.numbers ∙ sym q.numbers)
