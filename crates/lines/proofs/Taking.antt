-- A line that is read byte by byte.
use Rattle.std.proofs.Common.{◌≡◌, ℕ, zero, suc, ◌+◌, ◌-◌, ◌*◌, ◌^◌, ◌<◌, ◌≤◌, Bool, true, false, List, length, get_or, take, set, Option, Some, None, Err, refl, sym, ◌∙◌, add-one, arith, length-set, length-take-le, take-suc-set, le-ltb, lt-ltb, eq-eqb, ne_eqb}
use Rattle.std.proofs.lemmas.Bool.Decides.{nat_tests}
use Rattle.lines.specs.declared.numbers.NumbersError.{NumbersError}
use Rattle.lines.specs.declared.numbers.NumbersError.TheVariants.{Bad, Large, Many}
use Rattle.lines.specs.Numbers.{is_digit, digit_value, Reading, between, inside, wrong, read_byte, read_to, numbers_in}

-- a byte by its value as a digit
pub no_digit : (b : ℕ) → digit_value b ≡ None → is_digit b ≡ false
no_digit b = go (is_digit b) refl
  where
    go : (t : Bool) → is_digit b ≡ t → digit_value b ≡ None → t ≡ false
    go true e h = let k : ◌≡◌ {A = Option ℕ} (Some (b - 48)) None = rw e at h in cc
    go false e h = refl

digit_below : (b : ℕ) → is_digit b ≡ true → b ≤ 57
digit_below b h = grind (arith, nat_tests)

pub is_a_digit : (b d : ℕ) → digit_value b ≡ Some d → (is_digit b ≡ true) × (d ≡ b - 48) × (d < 10)
is_a_digit b d = go (is_digit b) refl
  where
    go : (t : Bool) → is_digit b ≡ t → digit_value b ≡ Some d → (t ≡ true) × (d ≡ b - 48) × (d < 10)
    go true e h =
        let k : Some (b - 48) ≡ Some d = rw e at h in
        let f : b - 48 ≡ d = cc in
        (refl, sym f, omega (arith, digit_below b e))
    go false e h = let k : ◌≡◌ {A = Option ℕ} None (Some d) = rw e at h in cc

-- the numbers so far, and one that is not at its end
abbrev pub reading_of : List ℕ → Option ℕ → Reading
reading_of vs None = between vs
reading_of vs (Some n) = inside vs n

-- a number that is not at its end has room
abbrev pub HasRoom : ℕ → ℕ → Option ℕ → Type 0
HasRoom room count None = count ≤ room
HasRoom room count (Some n) = count < room

-- the first i bytes of the line are read
pub record Taken (room : ℕ) (line out : List ℕ) (i count : ℕ) (number : Option ℕ) : Type 0 where
  pub long : length out ≡ room
  pub fits : HasRoom room count number
  pub read : read_to room line i ≡ reading_of (take count out) number

pub nothing_taken : (line out : List ℕ) → Taken (length out) line out 0 0 None
unfolding read_to
nothing_taken line out = record { long = refl; fits = omega arith; read = refl }

module _ (room : ℕ) (line : List ℕ) where
  -- what is wrong stays wrong
  stays_wrong : (e : NumbersError) (i : ℕ) → read_to room line i ≡ wrong e → (m : ℕ) → read_to room line (i + m) ≡ wrong e
  unfolding read_to
  stays_wrong e i r zero = let k : i + 0 ≡ i = omega arith in rw k r
  stays_wrong e i r (suc m) = let k : i + suc m ≡ suc (i + m) = omega arith in rw (k, stays_wrong e i r m)

  module _ (out : List ℕ) (i count : ℕ) (number : Option ℕ) (t : Taken room line out i count number) (h : i < length line) where
    -- one byte more
    next : read_to room line (i + 1) ≡ read_byte room (reading_of (take count out) number) (get_or line i 0)
    unfolding read_to
    next = rw (add-one i, t.read)

    stops : (e : NumbersError) → read_byte room (reading_of (take count out) number) (get_or line i 0) ≡ wrong e → Err e ≡ numbers_in room line
    stops e w =
        let k : i + 1 + (length line - (i + 1)) ≡ length line = omega arith in
        rw (rw k at (stays_wrong e (i + 1) (next ∙ w) (length line - (i + 1))))

    held : length (take count out) ≡ count
    held = length-take-le count out (go number t.fits)
      where
        go : (n : Option ℕ) → HasRoom room count n → count ≤ length out
        go None g = omega (arith, t.long)
        go (Some n) g = omega (arith, t.long)

    module _ (v : Option ℕ) (e : v ≡ digit_value (get_or line i 0)) where
      none_is : v ≡ None → is_digit (get_or line i 0) ≡ false
      none_is w = no_digit (get_or line i 0) (sym e ∙ w)

      some_is : (d : ℕ) → v ≡ Some d → (is_digit (get_or line i 0) ≡ true) × (d ≡ get_or line i 0 - 48) × (d < 10)
      some_is d w = is_a_digit (get_or line i 0) d (sym e ∙ w)

      pub no_number : number ≡ None → v ≡ None → Err Bad ≡ numbers_in room line
      no_number n w = stops Bad (rw (n, none_is w))

      pub no_room : {d : ℕ} → number ≡ None → v ≡ Some d → length out ≤ count → Err Many ≡ numbers_in room line
      no_room {d} n w f = stops Many (rw (n, (some_is d w).0, le-ltb (length (take count out)) room (omega (arith, held, t.long))))

      pub too_large : {n d : ℕ} → number ≡ Some n → v ≡ Some d → 10 ^ 18 ≤ n → Err Large ≡ numbers_in room line
      too_large {n} {d} k w f =
          let g : 10 ^ 19 ≤ n * 10 + (get_or line i 0 - 48) = omega arith in
          stops Large (rw (k, (some_is d w).0, le-ltb _ _ g))

      pub no_space : {n : ℕ} → number ≡ Some n → v ≡ None → (get_or line i 0 ≡ 32 → ⊥) → Err Bad ≡ numbers_in room line
      no_space k w f = stops Bad (rw (k, none_is w, ne_eqb _ _ f))

      pub first_taken : {d : ℕ} → number ≡ None → v ≡ Some d → count < length out → Taken room line out (i + 1) count (Some d)
      first_taken {d} n w f =
          record {
            long = t.long;
            fits = omega (arith, t.long);
            read = next ∙ rw (n, (some_is d w).0, lt-ltb (length (take count out)) room (omega (arith, held, t.long)), ← (some_is d w).1);
          }

      pub digit_taken : {n d : ℕ} → number ≡ Some n → v ≡ Some d → n < 10 ^ 18 → Taken room line out (i + 1) count (Some (n * 10 + d))
      digit_taken {n} {d} k w f =
          let g : n * 10 + d < 10 ^ 19 = omega (arith, (some_is d w).2) in
          record {
            long = t.long;
            fits = rw k at t.fits;
            read = next ∙ rw (k, (some_is d w).0, ← (some_is d w).1, lt-ltb _ _ g);
          }

      pub number_taken : {n : ℕ} → number ≡ Some n → v ≡ None → get_or line i 0 ≡ 32 → Taken room line (set out count n) (i + 1) (count + 1) None
      number_taken {n} k w f =
          let r : count < room = rw k at t.fits in
          record {
            long = simp length-set t.long;
            fits = omega arith;
            read = next ∙ rw (k, none_is w, eq-eqb _ _ f, add-one count, take-suc-set out count n (omega (arith, t.long)));
          }
