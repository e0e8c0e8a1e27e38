-- What is printed reads back.
use Rattle.std.proofs.Common.{◌≡◌, ℕ, zero, suc, ◌+◌, ◌-◌, ◌*◌, ◌/◌, ◌%◌, ◌^◌, ◌<◌, ◌≤◌, true, List, [], ◌∷◌, ◌++◌, length, get_or, Some, Ok, refl, append_assoc, append-nil, arith, length-append, le-ltb, lt-ltb, ne_eqb, le-leb}
use Rattle.std.specs.Prelude.{decimal}
use Rattle.std.proofs.Math.ListN.{get_or-append}
use Rattle.std.proofs.Math.Seq.{get_or-append_seam}
use Rattle.std.proofs.lemmas.Bool.Decides.{nat_tests}
use Rattle.std.proofs.lemmas.Fmt.{decimal_by_steps}
use Rattle.lines.specs.Text.{spaced}
use Rattle.lines.specs.Numbers.{is_digit, Reading, between, inside, read_byte, read_to}
use Rattle.lines.specs.Hex.{hex_digit, hex_value, pair_value, hex_text, pairs, bytes_in}
use Rattle.lines.proofs.Hexes.{hex-length}

-- a whole text
abbrev read_all : ℕ → List ℕ → Reading
read_all room s = read_to room s (length s)

module _ (room : ℕ) where
  pub read_first : (s t : List ℕ) (i : ℕ) → i ≤ length s → read_to room (s ++ t) i ≡ read_to room s i
  unfolding read_to
  read_first s t zero h = refl
  read_first s t (suc i) h = rw (read_first s t i (omega arith), get_or-append s t 0 i h)

  read_next : (s : List ℕ) (b : ℕ) → read_all room (s ++ (b ∷ [])) ≡ read_byte room (read_all room s) b
  unfolding read_to
  read_next s b =
      let l : length (s ++ (b ∷ [])) ≡ suc (length s) = simp length-append (omega arith) in
      rw (l, read_first s (b ∷ []) (length s) (omega arith), get_or-append_seam s b [] 0)

  -- a number behind those that are read
  module _ (vs : List ℕ) (more : length vs < room) where
    digit-code : (d : ℕ) → d < 10 → is_digit (48 + d) ≡ true
    digit-code d h = rw (le-leb 48 (48 + d) (omega arith), le-leb (48 + d) 57 (omega arith))

    first-digit : (s : List ℕ) (d : ℕ) → d < 10 → read_all room s ≡ between vs → read_all room (s ++ ((48 + d) ∷ [])) ≡ inside vs d
    first-digit s d h r =
        let e : 48 + d - 48 ≡ d = omega arith in
        rw (read_next s (48 + d), r, digit-code d h, lt-ltb _ _ more, e)

    next-digit : (s : List ℕ) (n : ℕ) → n < 10 ^ 19 → read_all room s ≡ inside vs (n / 10)
        → read_all room (s ++ ((48 + n % 10) ∷ [])) ≡ inside vs n
    next-digit s n h r =
        let e : n / 10 * 10 + (48 + n % 10 - 48) ≡ n = omega arith in
        rw (read_next s (48 + n % 10), r, digit-code (n % 10) (omega arith), e, lt-ltb _ _ h)

    number-after : (s : List ℕ) (n : ℕ) → n < 10 ^ 19 → read_all room s ≡ between vs → read_all room (s ++ decimal n) ≡ inside vs n
    number-after s n h r =
        decimal_by_steps (λ m ds. m < 10 ^ 19 → read_all room (s ++ ds) ≡ inside vs m) (λ m small k. first-digit s m small r)
        (λ m ds large front k. rw (← append_assoc) (next-digit (s ++ ds) m k (front (omega arith)))) n (omega arith) h

    space-after : (s : List ℕ) (n : ℕ) → read_all room s ≡ inside vs n → read_all room (s ++ (32 ∷ [])) ≡ between (vs ++ (n ∷ []))
    space-after s n r = rw (read_next s 32, r)

  -- a number
  pub number-back : (n : ℕ) → n < 10 ^ 19 → 1 ≤ room → read_to room (decimal n) (length (decimal n)) ≡ inside [] n
  unfolding read_to
  number-back n h k = number-after [] k [] n h refl

  spaced-back : (s vs ns : List ℕ) → ((i : ℕ) → get_or ns i 0 < 10 ^ 19) → length vs + length ns ≤ room → read_all room s ≡ between vs
      → read_all room (s ++ spaced ns) ≡ between (vs ++ ns)
  unfolding spaced
  spaced-back s vs [] h k r = rw (append-nil s, append-nil vs) r
  spaced-back s vs (n ∷ ns) h k r =
      let e : s ++ (decimal n ++ (32 ∷ spaced ns)) ≡ ((s ++ decimal n) ++ (32 ∷ [])) ++ spaced ns = simp append_assoc in
      let f : vs ++ (n ∷ ns) ≡ (vs ++ (n ∷ [])) ++ ns = simp append_assoc in
      let l : length (vs ++ (n ∷ [])) ≡ length vs + 1 = length-append vs (n ∷ []) in
      let m : length vs < room = omega arith in
      rw (e, f)
      (spaced-back ((s ++ decimal n) ++ (32 ∷ [])) (vs ++ (n ∷ [])) ns (λ i. h (suc i)) (omega arith)
      (space-after vs m (s ++ decimal n) n (number-after vs m s n (h 0) r)))

  -- a row of numbers, with a space between two
  pub numbers-back : (ns : List ℕ) (n : ℕ) → ((i : ℕ) → get_or ns i 0 < 10 ^ 19) → n < 10 ^ 19 → length ns < room
      → read_to room (spaced ns ++ decimal n) (length (spaced ns ++ decimal n)) ≡ inside ns n
  unfolding read_to
  numbers-back ns n h k g = number-after ns g (spaced ns) n k (spaced-back [] [] ns h (omega arith) refl)

-- a digit's value
digit-back : (d : ℕ) → d < 16 → hex_value (hex_digit d) ≡ Some d
digit-back d h = grind (arith, nat_tests)

pair_back : (b : ℕ) → b < 256 → pair_value (hex_digit (b / 16)) (hex_digit (b % 16)) ≡ Some b
pair_back b h =
    let e : b / 16 * 16 + b % 16 ≡ b = omega arith in
    rw (digit-back (b / 16) (omega arith), digit-back (b % 16) (omega arith), e)

pairs-back : (bs : List ℕ) → ((i : ℕ) → get_or bs i 0 < 256) → pairs (hex_text bs) ≡ Some bs
unfolding hex_text pairs
pairs-back [] h = refl
pairs-back (b ∷ bs) h = rw (pair_back b (h 0), pairs-back bs (λ i. h (suc i)))

-- bytes
pub bytes_back : (room : ℕ) (bs : List ℕ) → ((i : ℕ) → get_or bs i 0 < 256) → length bs ≤ room → bytes_in room (hex_text bs) ≡ Ok bs
bytes_back room bs h k =
    let e : length (hex_text bs) % 2 ≡ 1 → ⊥ = λ g. omega (arith, hex-length bs) in
    let l : length (hex_text bs) / 2 ≤ room = omega (arith, hex-length bs) in
    rw (ne_eqb _ _ e, le-ltb _ _ l, pairs-back bs h)
