-- A text in hexadecimal that is read pair by pair.
use Rattle.std.proofs.Common.{◌≡◌, ℕ, ◌+◌, ◌*◌, ◌/◌, ◌%◌, ◌<◌, ◌≤◌, List, [], ◌∷◌, ◌++◌, length, get_or, take, set, Option, Some, None, Ok, Err, refl, append_assoc, append-nil, arith, length-set, length-append, le-ltb, ne_eqb}
use Rattle.std.proofs.lemmas.List.{take_more_set}
use Rattle.lines.specs.declared.hex.HexError.TheVariants.{Bad}
use Rattle.lines.specs.Hex.{pair_value, with_first, pairs, bytes_in}

-- bytes before those of a text
abbrev pub behind : List ℕ → Option (List ℕ) → Option (List ℕ)
behind bs (Some cs) = Some (bs ++ cs)
behind bs None = None

behind_first : (bs : List ℕ) (b : ℕ) (o : Option (List ℕ)) → behind bs (with_first (Some b) o) ≡ behind (bs ++ (b ∷ [])) o
behind_first bs b (Some cs) = rw append_assoc
behind_first bs b None = refl

-- the first i pairs are the bytes at the start of out, and `rest` is left of the text
pub record Paired (room : ℕ) (text out rest : List ℕ) (i : ℕ) : Type 0 where
  pub long : length out ≡ room
  pub left : 2 * i + length rest ≡ length text
  pub bytes : pairs text ≡ behind (take i out) (pairs rest)

-- a list of two
pairs_more : (pair rest : List ℕ) → length pair ≡ 2 → pairs (pair ++ rest) ≡ with_first (pair_value (get_or pair 0 0) (get_or pair 1 0)) (pairs rest)
unfolding pairs
pairs_more [] rest h = absurd (omega arith)
pairs_more (a ∷ []) rest h = absurd (omega arith)
pairs_more (a ∷ (b ∷ [])) rest h = refl
pairs_more (a ∷ (b ∷ (d ∷ s))) rest h = absurd (omega arith)

module _ (room : ℕ) (text out pair rest : List ℕ) (i : ℕ) (p : Paired room text out (pair ++ rest) i) (two : length pair ≡ 2) where
  module _ (even : length text % 2 ≡ 1 → ⊥) (fits : length text / 2 ≤ room) where
    pub no_pair : pair_value (get_or pair 0 0) (get_or pair 1 0) ≡ None → Err Bad ≡ bytes_in room text
    no_pair e = rw (ne_eqb _ _ even, le-ltb _ _ fits, p.bytes, pairs_more pair rest two, e)

    pub paired_more : (b : ℕ) → pair_value (get_or pair 0 0) (get_or pair 1 0) ≡ Some b → Paired room text (set out i b) rest (i + 1)
    paired_more b e =
        let l : length (pair ++ rest) ≡ length pair + length rest = length-append pair rest in
        let m : i < length out = omega (arith, p.left, p.long) in
        record {
          long = simp length-set p.long;
          left = omega (arith, p.left);
          bytes = rw (p.bytes, pairs_more pair rest two, e, behind_first, ← take_more_set out i b m);
        }

pub paired_all : (room : ℕ) (text out rest : List ℕ) (i : ℕ) → Paired room text out rest i → length rest < 2
    → (length text % 2 ≡ 1 → ⊥) → length text / 2 ≤ room → Ok (take (length text / 2) out) ≡ bytes_in room text
unfolding pairs
paired_all room text out [] i p h even fits =
    let e : i ≡ length text / 2 = omega (arith, p.left) in
    rw (ne_eqb _ _ even, le-ltb _ _ fits, p.bytes, append-nil, e)
paired_all room text out (a ∷ []) i p h even fits = absurd (even (omega (arith, p.left)))
paired_all room text out (a ∷ (b ∷ s)) i p h even fits = absurd (omega arith)
